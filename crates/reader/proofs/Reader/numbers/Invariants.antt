use Rattle.std.proofs.Common.{ℕ, ◌-◌, ◌≤◌, Bool, List, length, vec_items, vec_len}
use Rattle.reader.specs.Lists.{further, ComputesAfter}
use Rattle.reader.specs.Readers.{text_of, SameText}
use Rattle.reader.specs.Readings.{number_if}
use Rattle.reader.proofs.Numbers.{SoFar}
use Rattle.reader.proofs.Reader.numbers.Given as goal

abbrev pub invariant-loop-numbers : goal.invariant-loop-numbers
invariant-loop-numbers g l =
    SameText l.initial.self l.self
    × ((test : List ℕ → ℕ → Bool) → ComputesAfter (goal.F-post g l.allowed) test → SoFar (further l.most (text_of l.initial.self)) (λ before. number_if (test before) l.refusal) l.initial.self l.self (vec_items l.numbers) (vec_len l.numbers))
    × (vec_len l.numbers ≤ further l.most (text_of l.initial.self)) × (vec_len l.numbers ≤ l.self.place)

abbrev pub decreases-loop-numbers : goal.decreases-loop-numbers
decreases-loop-numbers g l = length (text_of l.self) - l.self.place
