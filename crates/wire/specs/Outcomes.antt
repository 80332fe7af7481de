-- Marks that are read, what they cost and which outcomes they give: lemmas that an impl cites, proved and nothing to believe.
use Rattle.std.specs.Prelude.{◌≡◌, ℕ, zero, suc, ◌+◌, ◌<◌, ◌≤◌, List, [], ◌∷◌, ◌++◌, map, length, take, drop, replicate, slice_index, Ok, Err, Result, refl}
use Rattle.std.proofs.Common.{sym, ap, ◌∙◌, zero-add, suc-add, arith}
use Rattle.std.proofs.lemmas.List.{drop_all, drop-drop, length-append, replicate-append-replicate, map_more, map_push, take_all}
use Rattle.wire.specs.Wires.{Outcome, once, lost, twice, copies, arrivals, cost, costs}
use Rattle.std.specs.Result.{result_unwrap_or}
use Rattle.std.proofs.lemmas.Bool.Decides.{nat_tests}
use Rattle.fault.specs.declared.Refusal.{Refusal}
use Rattle.wire.specs.Marks.{byte_outcome, outcome_of, next_outcomes, Reads}
use Rattle.marks.specs.MarkBytes.{MarkRead}
use Rattle.marks.specs.declared.Mark.{Mark}
use Rattle.marks.specs.declared.Mark.TheVariants.{Once, Lost, Twice}

pub cost_few : (o : Outcome) → cost o ≤ 1
cost_few once = omega arith
cost_few lost = omega arith
cost_few twice = omega arith

pub costs-++ : (xs ys : List Outcome) → costs (xs ++ ys) ≡ costs xs + costs ys
costs-++ [] ys = omega arith
costs-++ (x ∷ xs) ys = omega (arith, costs-++ xs ys)

pub length_copies : (o : Outcome) (frame : ℕ) → length (copies o frame) ≡ arrivals o
length_copies once frame = refl
length_copies lost frame = refl
length_copies twice frame = refl

-- runs one after another, on a clean wire and by marks
pub all_once : (xs ys : List Outcome) → xs ≡ replicate (length xs) once → ys ≡ replicate (length ys) once → xs ++ ys ≡ replicate (length (xs ++ ys)) once
all_once xs ys x y =
    ap (λ zs. zs ++ ys) x ∙ ap (λ zs. replicate (length xs) once ++ zs) y ∙ replicate-append-replicate (length xs) (length ys) once ∙ ap (λ n. replicate n once) (sym (length-append xs ys))

next_outcomes-+ : (n m : ℕ) (os : List Outcome) → next_outcomes (n + m) os ≡ next_outcomes n os ++ next_outcomes m (drop n os)
next_outcomes-+ zero m os = ap (λ k. next_outcomes k os) (zero-add m)
next_outcomes-+ (suc n) m [] =
    ap (λ k. next_outcomes k []) (suc-add n m) ∙ ap (λ zs. once ∷ zs) (next_outcomes-+ n m []) ∙ ap (λ zs. once ∷ (next_outcomes n [] ++ next_outcomes m zs)) (drop_all n [] (omega arith))
next_outcomes-+ (suc n) m (o ∷ os) = ap (λ k. next_outcomes k (o ∷ os)) (suc-add n m) ∙ ap (λ zs. o ∷ zs) (next_outcomes-+ n m os)

pub reads_on : (a xs b ys c : List Outcome) → Reads a xs b → Reads b ys c → Reads a (xs ++ ys) c
reads_on a xs b ys c first then =
    let long = length-append xs ys in
    record {
      read = ap (λ zs. zs ++ ys) first.read ∙ ap (λ zs. next_outcomes (length xs) a ++ zs) (then.read ∙ ap (next_outcomes (length ys)) first.left) ∙ sym (next_outcomes-+ (length xs) (length ys) a) ∙ ap (λ n. next_outcomes n a) (sym long);
      left = then.left ∙ ap (drop (length ys)) first.left ∙ drop-drop (length ys) (length xs) a ∙ ap (λ n. drop n a) (sym long);
    }

-- a byte that is no mark is taken for `.`
pub read_or_once : (b : ℕ) (r : Result Mark Refusal) → MarkRead b r → outcome_of (result_unwrap_or r Once) ≡ byte_outcome b
read_or_once b (Ok Once) read = ap byte_outcome read
read_or_once b (Ok Lost) read = ap byte_outcome read
read_or_once b (Ok Twice) read = ap byte_outcome read
read_or_once b (Err r) read = grind (arith, nat_tests, read.0)

-- marks that are made from the first i bytes
pub record Marked (bytes : List ℕ) (i : ℕ) (ms : List Mark) (troubles : ℕ) : Type 0 where
  pub says : map outcome_of ms ≡ map byte_outcome (take i bytes)
  pub counts : troubles ≡ costs (map outcome_of ms)
  pub few : troubles ≤ i

pub marked_more : (bytes : List ℕ) (i : ℕ) (ms after : List Mark) (t n : ℕ) (m : Mark) → i < length bytes → Marked bytes i ms t → outcome_of m ≡ byte_outcome (slice_index bytes i) → n ≡ cost (outcome_of m) → after ≡ ms ++ m ∷ [] → Marked bytes (i + 1) after (t + n)
marked_more bytes i ms after t n m here so_far is costs-it pushed =
    let says : map outcome_of after ≡ map outcome_of ms ++ outcome_of m ∷ [] = ap (map outcome_of) pushed ∙ map_push outcome_of ms m in
    record {
      says = says ∙ ap (λ os. os ++ (outcome_of m ∷ [])) so_far.says ∙ ap (λ o. map byte_outcome (take i bytes) ++ (o ∷ [])) is ∙ sym (map_more byte_outcome bytes i 0 here);
      counts = omega (arith, so_far.counts, ap costs says, costs-++ (map outcome_of ms) (outcome_of m ∷ []));
      few = omega (arith, so_far.few, cost_few (outcome_of m));
    }

pub marked_all : (bytes : List ℕ) (i : ℕ) (ms : List Mark) (t : ℕ) → length bytes ≤ i → Marked bytes i ms t → map outcome_of ms ≡ map byte_outcome bytes
marked_all bytes i ms t all so_far = so_far.says ∙ ap (map byte_outcome) (take_all i bytes all)
