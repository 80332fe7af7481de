-- The messages that the parts of a turn expect. Assumes nothing.
use Rattle.std.specs.Prelude.{◌≡◌, ℕ, ◌+◌, true, ◌⊎◌, List, [], ◌∷◌}
use Rattle.rules.specs.Lists.{fold}
use Rattle.rules.specs.Rules.{Setting, State, Coordinator, Account, Office, Hearing, hearing, hear, Following, following, follow, signal, start, close, take_ups}

-- What the coordinator takes off one lane is, message by message, a signal of the step at which it then is, with the window open.
abbrev pub ExpectedUp : Setting → Hearing → List ℕ → Type 0
ExpectedUp l h [] = Unit {0}
ExpectedUp l h (m ∷ ms) = (h.coordinator.is_open ≡ true) × (m ≡ signal h.coordinator.step) × ExpectedUp l (hear l h m) ms

-- So is what it takes off the lanes of all offices, one after another.
abbrev pub ExpectedUps : Setting → Coordinator → List Office → List Account → Type 0
ExpectedUps l c os [] = Unit {0}
ExpectedUps l c os (p ∷ ps) =
    let h : Hearing = fold (hear l) (hearing c p.credit os) p.up.waiting in
    ExpectedUp l (hearing c p.credit os) p.up.waiting × ExpectedUps l h.coordinator h.offices ps

-- What an office takes is, message by message, the start of the step after its own, or the close of the last step while it is there.
abbrev pub ExpectedDown : Setting → Following → List ℕ → Type 0
ExpectedDown l f [] = Unit {0}
ExpectedDown l f (m ∷ ms) = ((m ≡ start (f.own_step + 1)) ⊎ ((m ≡ close l.steps) × (f.own_step ≡ l.steps))) × ExpectedDown l (follow l f m) ms

abbrev pub ExpectedDowns : Setting → List Account → List Office → Type 0
ExpectedDowns l [] os = Unit {0}
ExpectedDowns l (p ∷ ps) [] = Unit {0}
ExpectedDowns l (p ∷ ps) (o ∷ os) = ExpectedDown l (following o.remainder o.own_step p.up) o.down.waiting × ExpectedDowns l ps os

-- In a turn from this state no part takes a message that it does not expect.
abbrev pub ExpectedTurn : Setting → State → Type 0
ExpectedTurn l s =
    let t : State = take_ups l s.coordinator s.offices s.accounts in
    ExpectedUps l s.coordinator s.offices s.accounts × ExpectedDowns l t.accounts t.offices
