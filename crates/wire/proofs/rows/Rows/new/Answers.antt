use Rattle.std.proofs.Common.{map, sym, ap, ◌∙◌}
use Rattle.wire.specs.Rows.{queue_lane}
use Rattle.wire.specs.Kinds.{all_empty}
use Rattle.wire.specs.InUse.{empty_lanes}
use Rattle.wire.proofs.rows.Rows.new.Goals as goal

pub returns : goal.returns
returns c =
    let k = c.in_ok-offices.offices in
    let made = c.in_ok-offices.ensures in
    (sym made.fault, ap (λ o. o.number) c.new-3.ensures.offices ∙ made.count, ap (map queue_lane) c.new-3.ensures.items ∙ empty_lanes k.number c.new-2.result c.new-2.ensures.value ∙ ap all_empty made.count)
