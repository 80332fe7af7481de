-- The test of the divisors in turn, and what a list that passes it has.
use Rattle.std.proofs.Common.{◌≡◌, ℕ, zero, suc, ◌*◌, ◌<◌, ◌≤◌, List, [], ◌∷◌, ◌++◌, length, get_or, take, None, Option, sym, ap, ◌∙◌, subst, mul_assoc, arith}
use Rattle.std.proofs.lemmas.List.{take_at}
use Rattle.std.proofs.lemmas.Bool.Decides.{nat_tests}
use Rattle.fault.specs.declared.Fault.{Fault}
use Rattle.ladder.specs.Makers.{divisors_fault, listed_fault, size_fault}
use Rattle.ladder.specs.Slacks.{product}

passed : (top d : ℕ) (ds : List ℕ) → divisors_fault top (d ∷ ds) ≡ None → (2 ≤ d) × (d ≤ 16) × (top * d ≤ 16777216) × (divisors_fault (top * d) ds ≡ None)
passed top d ds none = grind (arith, nat_tests)

-- what a list without a fault has
pub record Sound (top : ℕ) (ds : List ℕ) : Type 0 where
  pub top_fits : top * product ds ≤ 16777216
  pub low : (i : ℕ) → i < length ds → 2 ≤ get_or ds i 0
  pub high : (i : ℕ) → i < length ds → get_or ds i 0 ≤ 16

module _ (d : ℕ) (ds : List ℕ) (P : ℕ → Type 0) (first : P d) (others : (i : ℕ) → i < length ds → P (get_or ds i 0)) where
  each : (i : ℕ) → i < length (d ∷ ds) → P (get_or (d ∷ ds) i 0)
  each zero lt = first
  each (suc i) lt = others i (omega arith)

sound : (top : ℕ) (ds : List ℕ) → top ≤ 16777216 → divisors_fault top ds ≡ None → Sound top ds
sound top [] fits none = record { top_fits = omega arith; low = λ i h. absurd (omega arith); high = λ i h. absurd (omega arith) }
sound top (d ∷ ds) fits none =
    let p = passed top d ds none in
    let rest = sound (top * d) ds p.2 p.3 in
    record {
      top_fits = omega (arith, rest.top_fits, mul_assoc top d (product ds));
      low = each d ds (λ n. 2 ≤ n) p.0 rest.low;
      high = each d ds (λ n. n ≤ 16) p.1 rest.high;
    }

-- what a grain and a number of steps without a fault have, with nothing after them at fault
pub record Checked (grain steps : ℕ) (rest : Option Fault) : Type 0 where
  pub least : 1 ≤ grain
  pub most : grain ≤ 8388608
  pub some : 1 ≤ steps
  pub few : steps ≤ 16
  pub rest_none : rest ≡ None

checked : (grain steps : ℕ) (rest : Option Fault) → size_fault grain steps rest ≡ None → Checked grain steps rest
checked grain steps rest none = grind (arith, nat_tests)

pub list_checked : (grain : ℕ) (ds : List ℕ) → listed_fault grain ds ≡ None → Checked grain (length ds) (divisors_fault grain ds)
list_checked grain ds none = checked grain (length ds) (divisors_fault grain ds) none

list_sound : (grain : ℕ) (ds : List ℕ) → listed_fault grain ds ≡ None → Sound grain ds
list_sound grain ds none =
    let size = list_checked grain ds none in
    sound grain ds (omega (arith, size.most)) size.rest_none

-- a table that begins with a copy of divisors without a fault
module _ (grain : ℕ) (ds copy after : List ℕ) (none : listed_fault grain ds ≡ None) (same : copy ≡ ds) where
  pub begins : take (length ds) (copy ++ after) ≡ ds
  begins = take_at copy after (length ds) (ap length same) ∙ same

  pub top_in_use : grain * product (take (length ds) (copy ++ after)) ≤ 16777216
  top_in_use = subst (λ (xs : List ℕ). grain * product xs ≤ 16777216) (sym begins) (list_sound grain ds none).top_fits

  pub low_in_use : (i : ℕ) → i < length ds → 2 ≤ get_or (take (length ds) (copy ++ after)) i 0
  low_in_use i lt = subst (λ (xs : List ℕ). 2 ≤ get_or xs i 0) (sym begins) ((list_sound grain ds none).low i lt)

  pub high_in_use : (i : ℕ) → i < length ds → get_or (take (length ds) (copy ++ after)) i 0 ≤ 16
  high_in_use i lt = subst (λ (xs : List ℕ). get_or xs i 0 ≤ 16) (sym begins) ((list_sound grain ds none).high i lt)
