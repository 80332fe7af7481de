use Rattle.std.proofs.Common.{◌≡◌, drop}
use Rattle.reader.specs.Readings.{digits_value}
use Rattle.reader.proofs.reading.value_of.Given as goal

abbrev pub invariant-loop-digit : goal.invariant-loop-digit
invariant-loop-digit l = digits_value l.value (drop l.digit-index l.digits) ≡ digits_value 0 l.digits
