use Rattle.std.proofs.Common.{◌≡◌, ◌||◌, length}
use Rattle.wire.specs.Wires.{wire_lane}
use Rattle.bit_post.specs.Sending.{among}
use Rattle.bit_post.specs.Taking.{OnlyTakes}
use Rattle.bit_post.proofs.exchange.drain.Given as goal

abbrev pub invariant-loop-taken : goal.invariant-loop-taken
invariant-loop-taken g l =
    let w = g.W.Wire in
    OnlyTakes w.offices w.troubles w.lanes w.ran l.lane l.initial.wire l.wire
    × ((l.found || among l.sought (wire_lane (w.lanes l.wire) l.lane).frames) ≡ among l.sought (wire_lane (w.lanes l.initial.wire) l.lane).frames)

abbrev pub decreases-loop-taken : goal.decreases-loop-taken
decreases-loop-taken g l = length (wire_lane (g.W.Wire.lanes l.wire) l.lane).frames
