-- Parts of an output, one after another.
use Rattle.std.proofs.Common.{◌≡◌, ℕ, ◌+◌, ◌<◌, List, [], ◌∷◌, ◌++◌, length, get_or, take, decimal, sym, refl, ap, ◌∙◌, append_assoc, append-nil, add-one, arith}
use Rattle.std.proofs.lemmas.List.{take_more, length-take-le}
use Rattle.reader.specs.Words.{comma}
use Rattle.reader.specs.Lists.{commas}
use Rattle.reader.specs.Readings.{line}

commas_push : (xs : List ℕ) (x : ℕ) → 0 < length xs → commas (xs ++ x ∷ []) ≡ commas xs ++ (comma ++ decimal x)
commas_push [] x h = absurd (omega arith)
commas_push (a ∷ []) x h = refl
commas_push (a ∷ b ∷ xs) x h = ap (λ l. decimal a ++ (comma ++ l)) (commas_push (b ∷ xs) x (omega arith)) ∙ sym (append_assoc (decimal a) (comma ++ commas (b ∷ xs)) _)

-- the first number of a list with more
pub put_first : (first : ℕ) (others o : List ℕ) {xs u : List ℕ} → xs ≡ first ∷ others → u ≡ o ++ decimal first → u ≡ o ++ commas (take 1 xs)
put_first first others o is a = a ∙ ap (λ l. o ++ commas (take 1 l)) (sym is)

-- a place past the first number
pub after_first : (first : ℕ) (others : List ℕ) (i : ℕ) {xs : List ℕ} → xs ≡ first ∷ others → get_or others i 0 ≡ get_or xs (i + 1) 0
after_first first others i is = ap (λ n. get_or (first ∷ others) n 0) (sym (add-one i)) ∙ ap (λ l. get_or l (i + 1) 0) (sym is)

-- one turn of a writer: what it held at first, what it holds, the same after a comma, and what it holds then
pub put_more : (xs : List ℕ) (i : ℕ) (o : List ℕ) {s v u : List ℕ} → i < length xs → 0 < i → s ≡ o ++ commas (take i xs) → v ≡ s ++ comma → u ≡ v ++ decimal (get_or xs i 0) → u ≡ o ++ commas (take (i + 1) xs)
put_more xs i o lt pos a b c =
    let e : commas (take (i + 1) xs) ≡ commas (take i xs) ++ (comma ++ decimal (get_or xs i 0)) = ap commas (take_more xs i 0 lt) ∙ commas_push (take i xs) _ (omega (arith, length-take-le i xs (omega arith))) in
    c ∙ ap (λ l. l ++ decimal (get_or xs i 0)) (b ∙ ap (λ l. l ++ comma) a) ∙ append_assoc (o ++ commas (take i xs)) comma _ ∙ append_assoc o (commas (take i xs)) _ ∙ ap (λ l. o ++ l) (sym e)

-- An output is read from its last line back: what it held before that line, the line, and what is to follow.
pub at_end : {out text : List ℕ} → out ++ [] ≡ text → out ≡ text
at_end {out} e = sym (append-nil out) ∙ e

pub before_line : (a key value : List ℕ) {out given : List ℕ} → out ≡ a ++ line key given [] → given ≡ value → (rest : List ℕ) → out ++ rest ≡ a ++ line key value rest
before_line a key value e is rest =
    ap (λ l. l ++ rest) (e ∙ ap (λ v. a ++ line key v []) is) ∙ append_assoc a (line key value []) rest ∙ ap (λ l. a ++ l) (append_assoc key (value ++ 10 ∷ []) rest ∙ ap (λ l. key ++ l) (append_assoc value (10 ∷ []) rest))

pub at_start : {out : List ℕ} → out ≡ [] → (rest : List ℕ) → out ++ rest ≡ rest
at_start e rest = ap (λ l. l ++ rest) e
