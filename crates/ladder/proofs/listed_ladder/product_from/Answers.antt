use Rattle.std.proofs.Common.{arith}
use Rattle.ladder.specs.Products.{below_owed}
use Rattle.ladder.proofs.listed_ladder.product_from.Goals as goal

pub overflow_mul-slack : goal.overflow_mul-slack
overflow_mul-slack c =
    omega (arith, below_owed c.loop-divisor.slack c.args.divisors.now c.loop-divisor.divisor-index _ c.loop-divisor.invariant c.loop-divisor-test.true c.requires.by_index, c.requires.divisors_bound)
