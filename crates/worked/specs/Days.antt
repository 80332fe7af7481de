-- Settings of the two kinds of ladder, and what it is for a list of lots to come out in a certain way. Assumes nothing.
use Rattle.std.specs.Prelude.{◌≡◌, ℕ, Bool, List, length, replicate, Ok, Err}
use Rattle.fault.specs.Faults.{fault}
use Rattle.fault.specs.declared.Layer.TheVariants.{Window}
use Rattle.fault.specs.declared.Refusal.TheVariants.{WindowClosed}
use Rattle.ladder.specs.Slacks.{halving_slack, listed_slack}
use Rattle.rules.specs.Rules.{Setting, State, opened}
use Rattle.rules.specs.Runs.{Answer, Runs, Books, books}

abbrev pub halving : (offices grain steps : ℕ) → Setting
halving k g e = record { offices = k; steps = e; slack = halving_slack g e }

abbrev pub listed : (offices grain : ℕ) (divisors : List ℕ) → Setting
listed k g ds = record { offices = k; steps = length ds; slack = listed_slack g ds }

-- n lots at office i, and the answers of n lots that are accepted
abbrev pub lots_at : (n i : ℕ) → List ℕ
lots_at n i = replicate n i

abbrev pub all_accepted : ℕ → List Answer
all_accepted n = replicate n (Ok tt)

-- a lot at office i that comes too late
abbrev pub too_late : ℕ → Answer
too_late i = Err (fault Window WindowClosed i)

-- By the rules these lots get these answers and leave these books.
pub record ComesTo (l : Setting) (lots : List ℕ) (answers : List Answer) (b : Books) : Type 0 where
  pub after : State
  pub runs : Runs l (opened l) lots answers after
  pub leaves : books after ≡ b

abbrev pub book : (step signals : ℕ) → Bool → (messages : ℕ) → (credits remainders : List ℕ) → Books
book j s o m cs rs = record { step = j; signals = s; is_open = o; messages = m; credits = cs; remainders = rs }
