use Rattle.std.proofs.Common.{◌≡◌}
use Rattle.post.specs.Tables.{slots_shown}
use Rattle.bit_post.specs.Sending.{Retrying}
use Rattle.bit_post.proofs.exchange.sending.Sending.until_acknowledged.Given as goal

abbrev pub invariant-attempts : goal.invariant-attempts
invariant-attempts g l =
    let w = g.W.Wire in
    let s = l.self in
    (w.offices l.wire ≡ w.offices l.initial.wire)
    × Retrying s.bit s.lane s.back s.byte (w.lanes l.wire) (w.troubles l.initial.wire) (w.troubles l.wire) l.puts (slots_shown l.initial.table) l.expected (slots_shown l.table) (w.ran l.initial.wire l.wire)

abbrev pub decreases-attempts : goal.decreases-attempts
decreases-attempts g l = g.W.Wire.troubles l.wire
