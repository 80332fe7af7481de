use Rattle.std.proofs.Common.{◌≤◌, arith}
use Rattle.std.proofs.lemmas.Bool.Decides.{nat_tests}
use Rattle.ladder.specs.Products.{part_fits, part_positive, part_answered}
use Rattle.ladder.proofs.listed_ladder.ListedLadder.slack_of.Goals as goal

pub product_from-requires : goal.product_from-requires
product_from-requires c =
    let l = c.args.self.now in
    record {
      divisors_bound = part_fits l.grain l.steps l.table l.top l.low c.args.step;
      by_index = part_positive l.grain l.steps l.table l.top l.low c.args.step;
    }

pub returns : goal.returns
returns c =
    let l = c.args.self.now in
    let here : c.args.step ≤ l.steps = grind (arith, nat_tests) in
    part_answered l.grain l.steps l.table l.top l.low c.args.step c.product_from.result c.product_from.ensures here
