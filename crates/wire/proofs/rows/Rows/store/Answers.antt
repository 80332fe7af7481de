use Rattle.std.proofs.Common.{map, ap, ◌∙◌}
use Rattle.std.proofs.lemmas.List.{map-set}
use Rattle.offices.specs.LaneItems.{in_use}
use Rattle.wire.specs.Rows.{queue_lane}
use Rattle.wire.proofs.rows.Rows.store.Goals as goal

pub returns-clause-lanes : goal.returns-clause-lanes
returns-clause-lanes c = ap (map queue_lane) c.set.ensures.items ∙ map-set queue_lane (in_use c.args.self.now.queues) c.args.lane c.args.queue
