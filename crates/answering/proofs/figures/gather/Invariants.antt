use Rattle.std.proofs.Common.{◌≡◌, ℕ, ◌-◌, ◌≤◌, List, length, take, Ok, Result, slice_index, vec_items}
use Rattle.fault.specs.declared.Fault.{Fault}
use Rattle.answering.proofs.figures.gather.Given as goal

abbrev pub invariant-loop-office : goal.invariant-loop-office
invariant-loop-office g l =
    (xs : List ℕ) → length xs ≡ l.offices → ((office : ℕ) (r : Result ℕ Fault) → 1 ≤ office → office ≤ l.offices → goal.F-post g l.figure office r → r ≡ Ok (slice_index xs (office - 1))) → vec_items l.list ≡ take (l.office - 1) xs
