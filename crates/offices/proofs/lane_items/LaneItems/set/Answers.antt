use Rattle.std.proofs.Common.{◌*◌, arith}
use Rattle.std.proofs.Math.Seq.{take-set-lt}
use Rattle.offices.proofs.lane_items.LaneItems.set.Goals as goal

pub returns-then-lane-number-clause-items : goal.returns-then-lane-number-clause-items
returns-then-lane-number-clause-items g c =
    let t = c.args.self.now in
    take-set-lt (2 * t.offices.number) t.items c.args.lane c.args.item (omega arith)
