-- Products of listed divisors make a lawful ladder, and none passes the top: lemmas that an impl cites, proved and nothing to believe.
use Rattle.std.specs.Prelude.{◌≡◌, ℕ, zero, suc, ◌+◌, ◌*◌, ◌<◌, ◌≤◌, List, [], ◌∷◌, length, take, drop, Ok, nat_le, slice_index}
use Rattle.std.proofs.Common.{ap, sym, subst, ◌∙◌, ⊎_elim, mul_left_comm, mul_assoc, mul-le-mul_left, mul-le-mul_right, arith}
use Rattle.std.proofs.Math.Nat.{one-le-mul}
use Rattle.std.specs.List.{between}
use Rattle.std.proofs.lemmas.List.{get_or_past, get_or-drop, length-drop, length-take, at_drop_more, at_drop_all}
use Rattle.std.proofs.lemmas.Slice.{between_is}
use Rattle.std.proofs.lemmas.Bool.{cases_lt, cond-true, le-leb}
use Rattle.ladder.specs.Laws.{LadderLaw, slack_answer}
use Rattle.ladder.specs.Slacks.{product, listed_slack}

-- every number of the list is at least 1
abbrev pub Positive : List ℕ → Type 0
Positive xs = (i : ℕ) → i < length xs → 1 ≤ slice_index xs i

positive_drop : (xs : List ℕ) (k : ℕ) → Positive xs → Positive (drop k xs)
positive_drop xs k each i lt =
    let at : k + i < length xs = omega (arith, length-drop k xs) in
    omega (arith, each (k + i) at, get_or-drop k xs i 0)

product_positive : (xs : List ℕ) → Positive xs → 1 ≤ product xs
product_positive [] each = omega arith
product_positive (x ∷ xs) each =
    one-le-mul (each 0 (omega arith)) (product_positive xs (λ i lt. each (suc i) (omega arith)))

product_drop_le : (xs : List ℕ) (k : ℕ) → Positive xs → product (drop k xs) ≤ product xs
product_drop_le xs zero each = omega arith
product_drop_le [] (suc k) each = omega arith
product_drop_le (x ∷ xs) (suc k) each =
    let rest = product_drop_le xs k (λ i lt. each (suc i) (omega arith)) in
    let first : 1 ≤ x = each 0 (omega arith) in
    omega (arith, rest, mul-le-mul_right (product xs) first)

-- one turn of the loop that multiplies
module _ (s : ℕ) (xs : List ℕ) (i owed : ℕ) (left : s * product (drop i xs) ≡ owed) (here : i < length xs) where
  pub multiplied : s * slice_index xs i * product (drop (i + 1) xs) ≡ owed
  multiplied =
      mul_assoc s (slice_index xs i) (product (drop (i + 1) xs)) ∙ ap (λ n. s * n) (sym (at_drop_more product xs i 0 here)) ∙ left

  pub below_owed : Positive xs → s * slice_index xs i ≤ owed
  below_owed each =
      let rest : 1 ≤ product (drop (i + 1) xs) = product_positive (drop (i + 1) xs) (positive_drop xs (i + 1) each) in
      omega (arith, mul-le-mul_left (s * slice_index xs i) rest, multiplied)

-- the divisors of a listed ladder: the first e numbers of its table
module _ (g e : ℕ) (table : List ℕ) (top : g * product (take e table) ≤ 16777216) (low : (i : ℕ) → i < e → 2 ≤ slice_index (take e table) i) where
  in_use : length (take e table) ≤ e
  in_use = omega (arith, length-take e table)

  inside : (i : ℕ) → i < e → i < length (take e table)
  inside i lt =
      ⊎_elim (λ here. here) (λ past. absurd (omega (arith, low i lt, get_or_past (take e table) i 0 past))) (cases_lt i (length (take e table)))

  positive : Positive (take e table)
  positive i lt = omega (arith, low i (omega (arith, in_use)))

  pub part_positive : (j : ℕ) → Positive (between j e table)
  part_positive j = subst Positive (sym (between_is table j e)) (positive_drop (take e table) j positive)

  pub part_fits : (j : ℕ) → g * product (between j e table) ≤ 16777216
  part_fits j =
      omega (arith, ap (λ xs. g * product xs) (between_is table j e), mul-le-mul_left g (product_drop_le (take e table) j positive))

  pub part_answered : (j n : ℕ) → n ≡ g * product (between j e table) → j ≤ e → Ok n ≡ slack_answer e (listed_slack g (take e table)) j
  part_answered j n is here =
      ap Ok (is ∙ ap (λ xs. g * product xs) (between_is table j e)) ∙ sym (cond-true (nat_le j e) _ _ (le-leb j e here))

  tie : (j : ℕ) → j < e → listed_slack g (take e table) j ≡ slice_index (take e table) j * listed_slack g (take e table) (j + 1)
  tie j lt =
      ap (λ n. g * n) (at_drop_more product (take e table) j 0 (inside j lt)) ∙ mul_left_comm g (slice_index (take e table) j) (product (drop (j + 1) (take e table)))

  pub listed_law : 1 ≤ e → e ≤ 16 → 1 ≤ g → ((i : ℕ) → i < e → slice_index (take e table) i ≤ 16) → LadderLaw e (listed_slack g (take e table))
  listed_law some few least high =
      record {
        some = some;
        few = few;
        grain = omega (arith, ap (λ n. g * n) (at_drop_all product (take e table) e in_use));
        top = top;
        tied = λ j lt. record { divisor = slice_index (take e table) j; least = low j lt; most = high j lt; times = tie j lt };
      }
