use Rattle.std.proofs.Common.{◌≡◌, ℕ, ◌<◌, []}
use Rattle.wire.specs.Wires.{wire_lane, no_frames}
use Rattle.bit_post.proofs.BitPost.new.Given as goal

abbrev pub invariant-loop-lane : goal.invariant-loop-lane
invariant-loop-lane g l =
    let w = g.W.Wire in
    (w.offices l.wire ≡ w.offices l.initial.wire)
    × (w.troubles l.wire ≡ w.troubles l.initial.wire)
    × ((i : ℕ) → i < l.lane → wire_lane (w.lanes l.wire) i ≡ no_frames)
    × w.ran l.initial.wire l.wire []
