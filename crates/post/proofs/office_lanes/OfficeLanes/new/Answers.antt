use Rattle.std.proofs.Common.{◌*◌, map, replicate, ap, ◌∙◌}
use Rattle.offices.specs.InUse.{map_replicate}
use Rattle.post.specs.Tables.{shown}
use Rattle.post.proofs.office_lanes.OfficeLanes.new.Goals as goal

pub returns-clause-lanes : goal.returns-clause-lanes
returns-clause-lanes c =
    let n = 2 * c.args.offices.number in
    ap (map shown) c.new-2.ensures.items ∙ map_replicate shown n c.new.result ∙ ap (replicate n) c.new.ensures
