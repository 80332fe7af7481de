use Rattle.std.proofs.Common.{◌*◌, arith}
use Rattle.std.proofs.lemmas.List.{take-replicate}
use Rattle.offices.proofs.lane_items.LaneItems.new.Goals as goal

pub returns-clause-items : goal.returns-clause-items
returns-clause-items g c = take-replicate (2 * c.args.offices.number) 128 c.args.item (omega (arith, c.args.offices.few))
