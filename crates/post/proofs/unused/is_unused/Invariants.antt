use Rattle.std.proofs.Common.{◌≡◌, ℕ, ◌<◌}
use Rattle.post.specs.Lanes.{lane}
use Rattle.post.proofs.unused.is_unused.Given as goal

abbrev pub invariant-loop-lane : goal.invariant-loop-lane
invariant-loop-lane g l = (j : ℕ) → j < l.lane → (lane (g.P.Post.lanes l.post) j).sent ≡ 0
