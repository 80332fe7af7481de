-- A run as a function of its lots: two turns are always enough. What the proofs compute with. Assumes nothing.
use Rattle.std.proofs.Common.{◌≡◌, ℕ, ◌+◌, ◌-◌, ◌*◌, ◌/◌, ◌≤◌, cond, ◌&&◌, eqb, List, [], ◌∷◌, replicate, is_ok}
use Rattle.rules.specs.Lists.{total, at}
use Rattle.rules.specs.Rules.{Setting, divisor, State, opened, turn, counted, answer}
use Rattle.rules.specs.Runs.{Answer}

-- the law of a setting, step by step
pub record Sound (l : Setting) : Type 0 where
  pub k_low : 1 ≤ l.offices
  pub k_high : l.offices ≤ 64
  pub e_low : 1 ≤ l.steps
  pub e_high : l.steps ≤ 16
  pub top : l.slack 0 ≤ 16777216
  pub grain : 1 ≤ l.slack l.steps
  pub rung : (j : ℕ) → 1 ≤ j → j ≤ l.steps → l.slack (j - 1) ≡ divisor l j * l.slack j
  pub d_low : (j : ℕ) → 1 ≤ j → j ≤ l.steps → 2 ≤ divisor l j
  pub d_high : (j : ℕ) → 1 ≤ j → j ≤ l.steps → divisor l j ≤ 16

abbrev pub two_turns : Setting → State → State
two_turns l s = turn l (turn l s)

abbrev pub lot : Setting → State → ℕ → State
lot l s i = cond (is_ok (answer l s i)) (two_turns l (counted l s (i - 1))) s

abbrev pub run : Setting → State → List ℕ → State
run l s [] = s
run l s (i ∷ h) = run l (lot l s i) h

abbrev pub answers : Setting → State → List ℕ → List Answer
answers l s [] = []
answers l s (i ∷ h) = answer l s i ∷ answers l (lot l s i) h

abbrev pub ended : Setting → List ℕ → State
ended l h = run l (opened l) h

-- the accepted lots of each office, as a list
abbrev pub tally : Setting → State → List ℕ → List ℕ → List ℕ
tally l s cs [] = cs
tally l s cs (i ∷ h) = tally l (lot l s i) (cond (is_ok (answer l s i)) (at (i - 1) (λ n. n + 1) cs) cs) h

abbrev pub counts : Setting → List ℕ → List ℕ
counts l h = tally l (opened l) (replicate l.offices 0) h

-- how many lots of the office i are accepted
abbrev pub accepted_of : Setting → State → ℕ → List ℕ → ℕ
accepted_of l s i [] = 0
accepted_of l s i (x ∷ h) = cond (eqb x i && is_ok (answer l s x)) 1 0 + accepted_of l (lot l s x) i h

abbrev pub count : Setting → List ℕ → ℕ → ℕ
count l h i = accepted_of l (opened l) i h

abbrev pub whole : ℕ → List ℕ → ℕ
whole s cs = total (λ n. s * (n / s)) cs
