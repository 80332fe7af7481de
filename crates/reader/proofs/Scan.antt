-- Runs of bytes, the number that digits write, and words at a place, a step at a time.
use Rattle.std.proofs.Common.{◌≡◌, ℕ, suc, ◌+◌, ◌-◌, ◌*◌, ◌<◌, ◌≤◌, Bool, true, false, cond, List, [], ◌∷◌, length, get_or, take, drop, sym, refl, ◌∙◌, arith, rules}
use Rattle.std.specs.Char.{is_ascii_digit}
use Rattle.std.specs.List.{prefix_len}
use Rattle.std.specs.Str.{all_ascii_digits}
use Rattle.std.proofs.lemmas.List.{at_drop_more}
use Rattle.std.proofs.lemmas.Str.Parse.{IsNumeralModel, numerals_by_fold, digit_at, digits_value_short}
use Rattle.std.proofs.lemmas.Bool.{and_from}
use Rattle.reader.specs.declared.byte_kind.ByteKind.TheVariants.{Digit}
use Rattle.reader.specs.Bytes.{run}
use Rattle.reader.specs.Readings.{digits_value}

-- digits and their value, in the library's words
pub own : IsNumeralModel (λ ds. all_ascii_digits ds ≡ true) (digits_value 0)
own = numerals_by_fold _ (search rules) digits_value (search rules)

all_more : (b : Bool) (c : ℕ) (cs : List ℕ) (n : ℕ) → is_ascii_digit c ≡ b → all_ascii_digits (take n cs) ≡ true → all_ascii_digits (take (cond b (1 + n) 0) (c ∷ cs)) ≡ true
all_more true c cs n d a = let s : 1 + n ≡ suc n = omega arith in rw s (and_from _ _ d a)
all_more false c cs n d a = refl

-- a run of digits is all digits
pub all_digits : (t : List ℕ) → all_ascii_digits (run Digit t) ≡ true
all_digits [] = refl
all_digits (c ∷ cs) = all_more (is_ascii_digit c) c cs (prefix_len is_ascii_digit cs) refl (all_digits cs)

value_ge : (n : ℕ) (ds : List ℕ) → n ≤ digits_value n ds
value_ge n [] = omega arith
value_ge n (c ∷ cs) = omega (arith, value_ge (10 * n + (c - 48)) cs)

-- at each digit of at most eight: its byte, and what is read with it stays below a hundred million
pub digit_low : (ds : List ℕ) (i : ℕ) → all_ascii_digits ds ≡ true → i < length ds → 48 ≤ get_or ds i 0
digit_low ds i all lt = (digit_at ds i (own.to ds all) lt).0

pub value_small : (ds : List ℕ) (i n : ℕ) → all_ascii_digits ds ≡ true → length ds ≤ 8 → i < length ds → digits_value n (drop i ds) ≡ digits_value 0 ds → n * 10 + (get_or ds i 0 - 48) < 100000000
value_small ds i n all few lt inv =
    let here : digits_value n (drop i ds) ≡ digits_value (10 * n + (get_or ds i 0 - 48)) (drop (i + 1) ds) = at_drop_more (digits_value n) ds i 0 lt in
    omega (arith, sym here ∙ inv, value_ge (10 * n + (get_or ds i 0 - 48)) (drop (i + 1) ds), digits_value_short own ds 8 all few)
