use Rattle.std.proofs.Common.{◌≡◌, ◌≤◌, drop}
use Rattle.ladder.specs.Makers.{divisors_fault}
use Rattle.ladder.proofs.listed_ladder.check_divisors.Given as goal

-- what is left to test gives what the whole list gives
abbrev pub invariant-loop-divisor : goal.invariant-loop-divisor
invariant-loop-divisor l = (l.top ≤ 16777216) × (divisors_fault l.top (drop l.divisor-index l.divisors) ≡ divisors_fault l.grain l.divisors)
