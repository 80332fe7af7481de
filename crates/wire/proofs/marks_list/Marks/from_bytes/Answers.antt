use Rattle.std.proofs.Common.{ap, ◌∙◌}
use Rattle.std.specs.List.{slice_index}
use Rattle.wire.specs.Marks.{outcome_of}
use Rattle.wire.specs.Outcomes.{marked_more, read_or_once}
use Rattle.wire.proofs.marks_list.Marks.from_bytes.Goals as goal

pub loop-byte-preserved : goal.loop-byte-preserved
loop-byte-preserved c =
    let reads = ap outcome_of c.unwrap_or-mark.ensures ∙ read_or_once (slice_index c.args.bytes.now c.loop-byte.byte-index) c.try_from.result c.try_from.ensures in
    marked_more c.args.bytes.now c.loop-byte.byte-index _ _ c.loop-byte.troubles c.cost-troubles.result c.unwrap_or-mark.result c.loop-byte-test.true c.loop-byte.invariant reads c.cost-troubles.ensures c.in_ok-push.ensures.items
