-- What the lanes of a post hold, what a send and a take do to them, and what a post answers. Assumes nothing.
use Rattle.std.specs.Prelude.{◌≡◌, ℕ, ◌+◌, ◌*◌, ◌<◌, ◌≤◌, cond, List, [], ◌∷◌, ◌++◌, length, Some, None, Ok, Err, sum_by, Option, Result, nat_le, slice_index_or, slice_set}
use Rattle.fault.specs.Faults.{fault}
use Rattle.fault.specs.declared.Fault.{Fault}
use Rattle.fault.specs.declared.Layer.TheVariants.{Post}
use Rattle.fault.specs.declared.Refusal.{Refusal}
use Rattle.fault.specs.declared.Refusal.TheVariants.{NoSuchOfficeOrLane, AllSent, SixteenWait}
use Rattle.post.specs.Outs.{Out, out}

-- One lane: the bytes that wait on it, first to last, and how many were ever sent on it.
pub record Lane : Type 0 where
  pub waiting : List ℕ
  pub sent : ℕ

-- A lane on which nothing was ever sent.
abbrev pub no_lane : Lane
no_lane = record { waiting = []; sent = 0 }

-- The lanes are numbered from 0.
abbrev pub lane : List Lane → ℕ → Lane
lane ls i = slice_index_or ls i no_lane

-- A refusal of the layer of posts, at the lane that was asked for.
abbrev pub lane_fault : Refusal → ℕ → Fault
lane_fault refusal i = fault Post refusal i

-- Whether lane l, with number i, takes one byte more.
abbrev pub room_answer : Lane → ℕ → Result (Unit {0}) Fault
room_answer l i = cond (nat_le 65535 l.sent) (Err (lane_fault AllSent i)) (cond (nat_le 16 (length l.waiting)) (Err (lane_fault SixteenWait i)) (Ok tt))

-- Whether a byte may be sent on lane i.
abbrev pub send_answer : List Lane → ℕ → Result (Unit {0}) Fault
send_answer ls i = cond (nat_le (length ls) i) (Err (lane_fault NoSuchOfficeOrLane i)) (room_answer (lane ls i) i)

-- The byte b joins the end of a lane.
abbrev pub with_byte : Lane → ℕ → Lane
with_byte l b = record { waiting = l.waiting ++ b ∷ []; sent = l.sent + 1 }

-- The byte b joins the end of lane i.
abbrev pub joined : List Lane → ℕ → ℕ → List Lane
joined ls i b = slice_set ls i (with_byte (lane ls i) b)

-- The lanes are as they were if the answer is a refusal.
abbrev pub sends : Result (Unit {0}) Fault → (before after : List Lane) → Out (List Lane) (Unit {0})
sends (Ok u) before after = out after (Ok tt)
sends (Err f) before after = out before (Err f)

-- A send of the byte b on lane i.
abbrev pub send : ℕ → ℕ → List Lane → Out (List Lane) (Unit {0})
send i b ls = sends (send_answer ls i) ls (joined ls i b)

-- The first of the bytes that wait on lane i leaves it; if none waits, nothing changes.
abbrev pub taken : (waiting : List ℕ) → ℕ → List Lane → Out (List Lane) (Option ℕ)
taken [] i ls = out ls (Ok None)
taken (b ∷ bs) i ls = out (slice_set ls i (record { waiting = bs; sent = (lane ls i).sent })) (Ok (Some b))

-- A take from lane i.
abbrev pub take : ℕ → List Lane → Out (List Lane) (Option ℕ)
take i ls = cond (nat_le (length ls) i) (out ls (Err (lane_fault NoSuchOfficeOrLane i))) (taken (lane ls i).waiting i ls)

-- How many bytes were ever sent on lane i.
abbrev pub sent_answer : List Lane → ℕ → Result ℕ Fault
sent_answer ls i = cond (nat_le (length ls) i) (Err (lane_fault NoSuchOfficeOrLane i)) (Ok (lane ls i).sent)

-- How many bytes wait on lane i.
abbrev pub waiting_answer : List Lane → ℕ → Result ℕ Fault
waiting_answer ls i = cond (nat_le (length ls) i) (Err (lane_fault NoSuchOfficeOrLane i)) (Ok (length (lane ls i).waiting))

-- The number of messages: the sum of the sent numbers.
abbrev pub all_sent : List Lane → ℕ
all_sent ls = sum_by (λ l. l.sent) ls

-- At most 16 bytes wait, no more than were sent, and at most 65,535 were sent.
pub record LaneLaw (l : Lane) : Type 0 where
  pub room : length l.waiting ≤ 16
  pub within : length l.waiting ≤ l.sent
  pub most : l.sent ≤ 65535

-- A post has 1 to 64 offices, and two lanes for each.
pub record PostLaw (offices : ℕ) (lanes : List Lane) : Type 0 where
  pub some : 1 ≤ offices
  pub few : offices ≤ 64
  pub both_ways : length lanes ≡ 2 * offices
  pub each : (i : ℕ) → i < length lanes → LaneLaw (lane lanes i)

-- Nothing was ever sent.
abbrev pub Unused : List Lane → Type 0
Unused lanes = (i : ℕ) → i < length lanes → (lane lanes i).sent ≡ 0
