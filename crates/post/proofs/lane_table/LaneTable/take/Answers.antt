use Rattle.std.proofs.Common.{◌*◌, ◌<◌, arith}
use Rattle.std.proofs.lemmas.Bool.Decides.{nat_tests}
use Rattle.post.specs.Tables.{slots_shown, lanes_of}
use Rattle.post.proofs.Parts.{take_first}
use Rattle.post.proofs.lane_table.LaneTable.take.Goals as goal

pub returns-clause-did : goal.returns-clause-did
returns-clause-did c =
    let checked = c.in_ok-check_lane.ensures in
    let here : c.args.lane < 2 * c.args.offices = grind (arith, nat_tests) in
    take_first (2 * c.args.offices) (slots_shown c.args.self.now) (lanes_of c.take.new.self) c.args.lane here c.take.result c.take.ensures.did
