-- The counting rules: offices count lots, and a coordinator follows them down the steps of a ladder. Assumes nothing.
use Rattle.std.specs.Prelude.{ℕ, ◌+◌, ◌-◌, ◌*◌, ◌/◌, ◌%◌, Bool, true, false, cond, ◌&&◌, ◌||◌, List, [], ◌∷◌, ◌++◌, map, replicate, Ok, Err, Result, ◌==◌, nat_lt, slice_index_or}
use Rattle.fault.specs.Faults.{fault}
use Rattle.fault.specs.declared.Fault.{Fault}
use Rattle.fault.specs.declared.Layer.TheVariants.{Window}
use Rattle.fault.specs.declared.Refusal.TheVariants.{NoSuchOfficeOrLane, WindowClosed}
use Rattle.post.specs.Lanes.{Lane, no_lane}
use Rattle.rules.specs.Lists.{at, fold}

-- How many offices there are, how many steps the ladder has, and the slack of each step: slack 0 is the top, the slack of the last step the grain.
pub record Setting : Type 0 where
  pub offices : ℕ
  pub steps : ℕ
  pub slack : ℕ → ℕ

-- The divisor of step j: how often its slack goes into the slack before it.
unfoldable pub divisor : Setting → ℕ → ℕ
divisor l j = l.slack (j - 1) / l.slack j

-- So many signals finish step j.
abbrev pub quota : Setting → ℕ → ℕ
quota l j = l.offices * (divisor l j - 1)

-- A message is one byte: 32 times its kind, and its step.
abbrev pub signal : ℕ → ℕ
signal j = 32 * 1 + j

abbrev pub start : ℕ → ℕ
start j = 32 * 2 + j

abbrev pub close : ℕ → ℕ
close j = 32 * 3 + j

abbrev pub lane_of : List ℕ → ℕ → Lane
lane_of waiting sent = record { waiting = waiting; sent = sent }

-- The message m joins a lane n times.
abbrev pub send : ℕ → ℕ → Lane → Lane
send n m a = lane_of (a.waiting ++ replicate n m) (a.sent + n)

-- The coordinator's step, the signals it has counted at this step, and whether the window is open.
pub record Coordinator : Type 0 where
  pub step : ℕ
  pub signals : ℕ
  pub is_open : Bool

abbrev pub coordinator_at : ℕ → ℕ → Bool → Coordinator
coordinator_at j s b = record { step = j; signals = s; is_open = b }

-- What the coordinator has of an office: its credit, and the lane up from it.
pub record Account : Type 0 where
  pub credit : ℕ
  pub up : Lane

abbrev pub account : ℕ → Lane → Account
account c a = record { credit = c; up = a }

-- What an office has itself: its remainder, its own step, and the lane down to it.
pub record Office : Type 0 where
  pub remainder : ℕ
  pub own_step : ℕ
  pub down : Lane

abbrev pub office : ℕ → ℕ → Lane → Office
office r j a = record { remainder = r; own_step = j; down = a }

-- The accounts and the offices stand in the order of the offices' numbers.
pub record State : Type 0 where
  pub coordinator : Coordinator
  pub accounts : List Account
  pub offices : List Office

abbrev pub state : Coordinator → List Account → List Office → State
state c ps os = record { coordinator = c; accounts = ps; offices = os }

-- As a window opens: step 1, no signals, no credit and no remainder, and nothing sent.
abbrev pub opened : Setting → State
opened l = state (coordinator_at 1 0 true) (replicate l.offices (account 0 no_lane)) (replicate l.offices (office 0 1 no_lane))

-- The coordinator's part of a turn. While it takes the lane up from one office, these change: the coordinator itself, the credit of that office, and the lanes down.
pub record Hearing : Type 0 where
  pub coordinator : Coordinator
  pub credit : ℕ
  pub offices : List Office

abbrev pub hearing : Coordinator → ℕ → List Office → Hearing
hearing c n os = record { coordinator = c; credit = n; offices = os }

abbrev pub told : ℕ → Office → Office
told m o = office o.remainder o.own_step (send 1 m o.down)

-- A finished step: below the last the next one starts, at the last the window closes, and all offices are told.
abbrev pub finish : Setting → Hearing → Hearing
finish l h = cond (nat_lt h.coordinator.step l.steps)
    (hearing (coordinator_at (h.coordinator.step + 1) 0 h.coordinator.is_open) h.credit (map (told (start (h.coordinator.step + 1))) h.offices))
    (hearing (coordinator_at h.coordinator.step h.coordinator.signals false) h.credit (map (told (close h.coordinator.step)) h.offices))

abbrev pub finish_if_full : Setting → Hearing → Hearing
finish_if_full l h = cond (nat_lt h.coordinator.signals (quota l h.coordinator.step)) h (finish l h)

-- A signal counts as one, and adds the slack of the step to the credit.
abbrev pub credited : Setting → Hearing → Hearing
credited l h = hearing (coordinator_at h.coordinator.step (h.coordinator.signals + 1) h.coordinator.is_open) (h.credit + l.slack h.coordinator.step) h.offices

-- One message; any but a signal of the coordinator's step is passed over.
abbrev pub hear : Setting → Hearing → ℕ → Hearing
hear l h m = cond (h.coordinator.is_open && m == signal h.coordinator.step) (finish_if_full l (credited l h)) h

-- The coordinator takes the lanes up, office by office, each until it is empty.
abbrev pub take_ups : Setting → Coordinator → List Office → List Account → State
take_ups l c os [] = state c [] os
take_ups l c os (p ∷ ps) =
    let h : Hearing = fold (hear l) (hearing c p.credit os) p.up.waiting in
    let r : State = take_ups l h.coordinator h.offices ps in
    state r.coordinator (account h.credit (lane_of [] p.up.sent) ∷ r.accounts) r.offices

-- The offices' part of a turn. While an office takes the lane down to it, these change: its remainder, its own step, and the lane up.
pub record Following : Type 0 where
  pub remainder : ℕ
  pub own_step : ℕ
  pub up : Lane

abbrev pub following : ℕ → ℕ → Lane → Following
following r j a = record { remainder = r; own_step = j; up = a }

-- A start: the office moves to the step, sends a signal for each whole slack in its remainder, and keeps the rest.
abbrev pub started : Setting → ℕ → Following → Following
started l j f = following (f.remainder % l.slack j) j (send (f.remainder / l.slack j) (signal j) f.up)

-- One message; any but the start of the office's next step changes nothing.
abbrev pub follow : Setting → Following → ℕ → Following
follow l f m = cond (m == start (f.own_step + 1)) (started l (f.own_step + 1) f) f

-- What has become of an office, with its lane up, once its lane down is empty.
abbrev pub followed : Setting → Account → Office → Following
followed l p o = fold (follow l) (following o.remainder o.own_step p.up) o.down.waiting

abbrev pub accounts_after : Setting → List Account → List Office → List Account
accounts_after l [] os = []
accounts_after l (p ∷ ps) [] = p ∷ ps
accounts_after l (p ∷ ps) (o ∷ os) = account p.credit (followed l p o).up ∷ accounts_after l ps os

abbrev pub offices_after : Setting → List Account → List Office → List Office
offices_after l [] os = os
offices_after l (p ∷ ps) [] = []
offices_after l (p ∷ ps) (o ∷ os) =
    office (followed l p o).remainder (followed l p o).own_step (lane_of [] o.down.sent) ∷ offices_after l ps os

abbrev pub take_downs : Setting → State → State
take_downs l s = state s.coordinator (accounts_after l s.accounts s.offices) (offices_after l s.accounts s.offices)

-- A turn: the coordinator takes the lanes up, then the offices take the lanes down.
abbrev pub turn : Setting → State → State
turn l s = take_downs l (take_ups l s.coordinator s.offices s.accounts)

abbrev pub no_account : Account
no_account = account 0 no_lane

abbrev pub no_office : Office
no_office = office 0 0 no_lane

-- A lot is counted at the office with place m from 0: one more to its remainder or, where that reaches the slack of its step, none, and a signal.
abbrev pub counted : Setting → State → ℕ → State
counted l s m =
    let o : Office = slice_index_or s.offices m no_office in
    cond (nat_lt (o.remainder + 1) (l.slack o.own_step))
    (state s.coordinator s.accounts (at m (λ o. office (o.remainder + 1) o.own_step o.down) s.offices))
    (state s.coordinator (at m (λ p. account p.credit (send 1 (signal o.own_step) p.up)) s.accounts)
    (at m (λ o. office 0 o.own_step o.down) s.offices))

-- What a lot at office i is answered: there is no such office, or the window is closed, or it is accepted.
abbrev pub answer : Setting → State → ℕ → Result (Unit {0}) Fault
answer l s i =
    cond (i == 0 || nat_lt l.offices i) (Err (fault Window NoSuchOfficeOrLane i))
    (cond s.coordinator.is_open (Ok tt) (Err (fault Window WindowClosed i)))
