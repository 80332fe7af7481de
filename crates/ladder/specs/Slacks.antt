-- The slacks of the two kinds of ladder. Assumes nothing.
use Rattle.std.specs.Prelude.{ℕ, ◌-◌, ◌*◌, ◌^◌, List, [], ◌∷◌, drop}

-- Each slack is twice the next one, down to the grain.
abbrev pub halving_slack : (grain steps j : ℕ) → ℕ
halving_slack grain steps j = grain * 2 ^ (steps - j)

abbrev pub product : List ℕ → ℕ
product [] = 1
product (x ∷ xs) = x * product xs

-- The slack of step j is the grain times the divisors of the steps after j; the first divisor is that of step 1.
abbrev pub listed_slack : (grain : ℕ) (divisors : List ℕ) (j : ℕ) → ℕ
listed_slack grain divisors j = grain * product (drop j divisors)
