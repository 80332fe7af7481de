-- The fault in the number of offices that a post would be made with, or none. Assumes nothing.
use Rattle.std.specs.Prelude.{ℕ, Option}
use Rattle.fault.specs.declared.Fault.{Fault}
use Rattle.fault.specs.declared.Layer.TheVariants.{Post}
use Rattle.offices.specs.OfficeCounts.{office_count_fault}

-- A post has 1 to 64 offices.
abbrev pub post_fault : (offices : ℕ) → Option Fault
post_fault offices = office_count_fault Post offices
