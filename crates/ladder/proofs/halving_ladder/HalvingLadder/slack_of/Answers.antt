use Rattle.std.proofs.Common.{◌≤◌, arith}
use Rattle.std.proofs.lemmas.Bool.Decides.{nat_tests}
use Rattle.ladder.specs.Halves.{answered}
use Rattle.ladder.proofs.halving_ladder.HalvingLadder.slack_of.Goals as goal

pub returns : goal.returns
returns c =
    let l = c.args.self.now in
    let here : c.args.step ≤ l.steps = grind (arith, nat_tests) in
    answered l.grain l.steps c.args.step l.top here
