-- The fault in a number of offices, or none. Assumes nothing.
use Rattle.std.specs.Prelude.{ℕ, cond, ◌&&◌, Some, None, Option, nat_le}
use Rattle.fault.specs.Faults.{fault}
use Rattle.fault.specs.declared.Fault.{Fault}
use Rattle.fault.specs.declared.Layer.{Layer}
use Rattle.fault.specs.declared.Refusal.TheVariants.{OutOfRange}

-- There are 1 to 64 offices; the layer is the one that is asked for another number.
abbrev pub office_count_fault : Layer → (offices : ℕ) → Option Fault
office_count_fault layer offices = cond (nat_le 1 offices && nat_le offices 64) None (Some (fault layer OutOfRange offices))
