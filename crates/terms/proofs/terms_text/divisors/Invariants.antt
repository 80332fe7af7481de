use Rattle.std.proofs.Common.{◌≡◌, ◌-◌, ◌*◌, ◌≤◌, vec_items, vec_len}
use Rattle.fault.specs.declared.Refusal.TheVariants.{OutOfRange}
use Rattle.ladder.specs.Makers.{divisor_fits}
use Rattle.ladder.specs.Slacks.{product}
use Rattle.reader.specs.Readings.{number_if}
use Rattle.reader.proofs.Numbers.{SoFar}
use Rattle.terms.proofs.terms_text.divisors.Given as goal

abbrev pub invariant-loop-divisors : goal.invariant-loop-divisors
invariant-loop-divisors l =
    SoFar 15 (λ before. number_if (divisor_fits (l.grain * product before)) OutOfRange) l.initial.reader l.reader (vec_items l.divisors) (vec_len l.divisors)
    × (vec_len l.divisors ≤ 15) × (l.whole ≡ l.grain * product (vec_items l.divisors))

abbrev pub decreases-loop-divisors : goal.decreases-loop-divisors
decreases-loop-divisors l = 16 - vec_len l.divisors
