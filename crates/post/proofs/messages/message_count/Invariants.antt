use Rattle.std.proofs.Common.{◌≡◌, ◌*◌, ◌≤◌, take}
use Rattle.post.specs.Lanes.{all_sent}
use Rattle.post.proofs.messages.message_count.Given as goal

abbrev pub invariant-loop-lane : goal.invariant-loop-lane
invariant-loop-lane g l = (l.number ≤ l.lane * 65535) × (l.number ≡ all_sent (take l.lane (g.P.Post.lanes l.post)))
