use Rattle.std.proofs.Common.{◌≡◌, length}
use Rattle.post.specs.Tables.{slots_shown}
use Rattle.wire.specs.Wires.{wire_lane}
use Rattle.bit_post.specs.Sending.{Answering}
use Rattle.bit_post.proofs.exchange.sending.Sending.attempt.Given as goal

abbrev pub invariant-loop-number : goal.invariant-loop-number
invariant-loop-number g l =
    let w = g.W.Wire in
    let s = l.self in
    (w.offices l.wire ≡ w.offices l.initial.wire)
    × Answering s.bit s.lane s.back s.byte (w.lanes l.initial.wire) (w.lanes l.wire) (w.troubles l.initial.wire) (w.troubles l.wire) l.initial.puts l.puts l.initial.expected l.expected (slots_shown l.initial.table) (slots_shown l.table) (w.ran l.initial.wire l.wire)

abbrev pub decreases-loop-number : goal.decreases-loop-number
decreases-loop-number g l = length (wire_lane (g.W.Wire.lanes l.wire) l.self.lane).frames
