-- The first fault in bytes that are to be marks, by the number of the first other byte. Assumes nothing.
use Rattle.std.proofs.Common.{◌≡◌, ℕ, ◌+◌, Bool, true, false, not, cond, List, [], ◌∷◌, Some, Option, sym, refl, ap, ◌∙◌}
use Rattle.std.specs.List.{position, position_from}
use Rattle.std.specs.Option.{option_map}
use Rattle.std.proofs.lemmas.Iterator.Adapters.{position_from-zero}
use Rattle.fault.specs.Faults.{fault}
use Rattle.fault.specs.declared.Fault.{Fault}
use Rattle.fault.specs.declared.Layer.TheVariants.{Wire}
use Rattle.fault.specs.declared.Refusal.TheVariants.{NotAMark}
use Rattle.marks.specs.MarkBytes.{is_mark}
use Rattle.wire.specs.Makers.{bytes_fault}

abbrev other_at : ℕ → Fault
other_at i = fault Wire NotAMark i

one_byte : (mark : Bool) (i : ℕ) (rest : Option Fault) (at : Option ℕ) → rest ≡ option_map other_at at → cond mark rest (Some (other_at i)) ≡ option_map other_at (cond (not mark) (Some i) at)
one_byte true i rest at e = e
one_byte false i rest at e = refl

by_place_from : (i : ℕ) (xs : List ℕ) → bytes_fault i xs ≡ option_map other_at (position_from (λ b. not (is_mark b)) i xs)
by_place_from i [] = refl
by_place_from i (x ∷ xs) = one_byte (is_mark x) i _ _ (by_place_from (i + 1) xs)

pub by_place : (xs : List ℕ) (at : Option ℕ) → at ≡ position (λ b. not (is_mark b)) xs → option_map (λ i. fault Wire NotAMark i) at ≡ bytes_fault 0 xs
by_place xs at e = ap (option_map other_at) (e ∙ position_from-zero (λ b. not (is_mark b)) xs) ∙ sym (by_place_from 0 xs)
