use Rattle.std.proofs.Common.{◌≡◌, ℕ, ◌<◌}
use Rattle.ladder.proofs.same.same_ladder.Given as goal

abbrev pub invariant-loop-step : goal.invariant-loop-step
invariant-loop-step g l = (j : ℕ) → j < l.step → g.First.Ladder.slack l.first j ≡ g.Second.Ladder.slack l.second j
