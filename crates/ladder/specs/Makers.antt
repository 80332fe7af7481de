-- The first fault in what a ladder would be made of, or none. Assumes nothing.
use Rattle.std.specs.Prelude.{ℕ, ◌*◌, ◌^◌, Bool, cond, ◌&&◌, List, [], ◌∷◌, length, Some, None, Option, nat_le}
use Rattle.fault.specs.Faults.{fault}
use Rattle.fault.specs.declared.Fault.{Fault}
use Rattle.fault.specs.declared.Layer.TheVariants.{Ladder}
use Rattle.fault.specs.declared.Refusal.TheVariants.{OutOfRange}

abbrev pub within : (low high n : ℕ) → Bool
within low high n = nat_le low n && nat_le n high

-- The number of steps that a halving ladder over a grain may have: it and the top are in range.
abbrev pub halving_fits : (grain steps : ℕ) → Bool
halving_fits grain steps = within 1 16 steps && nat_le (grain * 2 ^ steps) 16777216

-- One more divisor that may follow where the grain times those before it is whole: it and the top are in range.
abbrev pub divisor_fits : (whole divisor : ℕ) → Bool
divisor_fits whole divisor = within 2 16 divisor && nat_le (whole * divisor) 16777216

-- A number outside its range is a fault at that number itself.
abbrev pub out_of_range : ℕ → Fault
out_of_range n = fault Ladder OutOfRange n

-- If the test fails, the number n is at fault; if it holds, the rest decides.
abbrev pub tested : Bool → ℕ → Option Fault → Option Fault
tested holds n rest = cond holds rest (Some (out_of_range n))

-- The grain is tested first, then the number of steps, then the rest.
abbrev pub size_fault : (grain steps : ℕ) → Option Fault → Option Fault
size_fault grain steps rest = tested (within 1 8388608 grain) grain (tested (within 1 16 steps) steps rest)

-- The top, which is the grain doubled at every step, is tested last.
abbrev pub halving_fault : (grain steps : ℕ) → Option Fault
halving_fault grain steps = size_fault grain steps (tested (nat_le (grain * 2 ^ steps) 16777216) steps None)

-- Each divisor is tested in turn, and then the top with it; top is the grain times the divisors before it.
abbrev pub divisors_fault : (top : ℕ) (divisors : List ℕ) → Option Fault
divisors_fault top [] = None
divisors_fault top (d ∷ ds) = tested (within 2 16 d) d (tested (nat_le (top * d) 16777216) d (divisors_fault (top * d) ds))

-- There are as many steps as divisors.
abbrev pub listed_fault : (grain : ℕ) (divisors : List ℕ) → Option Fault
listed_fault grain divisors = size_fault grain (length divisors) (divisors_fault grain divisors)
