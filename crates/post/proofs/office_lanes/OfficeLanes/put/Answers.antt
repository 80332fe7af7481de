use Rattle.std.proofs.Common.{map, ap, ◌∙◌}
use Rattle.std.proofs.lemmas.List.{map-set}
use Rattle.offices.specs.LaneItems.{in_use}
use Rattle.post.specs.Tables.{shown}
use Rattle.post.proofs.office_lanes.OfficeLanes.put.Goals as goal

pub returns-clause-lanes : goal.returns-clause-lanes
returns-clause-lanes c = ap (map shown) c.set.ensures.items ∙ map-set shown (in_use c.args.self.now.slots) c.args.lane c.args.slot
