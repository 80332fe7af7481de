use Rattle.std.proofs.Common.{◌≡◌, ◌*◌, drop}
use Rattle.ladder.specs.Slacks.{product}
use Rattle.ladder.proofs.listed_ladder.product_from.Given as goal

abbrev pub invariant-loop-divisor : goal.invariant-loop-divisor
invariant-loop-divisor l = l.slack * product (drop l.divisor-index l.divisors) ≡ l.grain * product l.divisors
