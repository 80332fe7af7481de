-- What waits on a wire, and what a put and a take do to it. Assumes nothing.
use Rattle.std.specs.Prelude.{◌≡◌, ℕ, ◌+◌, ◌*◌, ◌<◌, ◌≤◌, cond, List, [], ◌∷◌, ◌++◌, length, Some, None, Ok, Err, Option, Result, ◌≢◌, nat_le, nat_lt, slice_index_or}
use Rattle.fault.specs.Faults.{fault}
use Rattle.fault.specs.declared.Fault.{Fault}
use Rattle.fault.specs.declared.Layer.TheVariants.{Wire}
use Rattle.fault.specs.declared.Refusal.TheVariants.{NoSuchOfficeOrLane, PlacesTaken}

-- what a wire does with one frame that is put: it joins the lane once, not at all, or twice
pub data Outcome : Type 0 where
  once : Outcome
  lost : Outcome
  twice : Outcome

-- the frames that join
abbrev pub copies : Outcome → ℕ → List ℕ
copies once frame = frame ∷ []
copies lost frame = []
copies twice frame = frame ∷ frame ∷ []

-- how many they are
abbrev pub arrivals : Outcome → ℕ
arrivals once = 1
arrivals lost = 0
arrivals twice = 2

-- the troubles that the wire spends on it
abbrev pub cost : Outcome → ℕ
cost once = 0
cost lost = 1
cost twice = 1

abbrev pub costs : List Outcome → ℕ
costs [] = 0
costs (o ∷ os) = cost o + costs os

-- one lane: the frames that wait on it, first to last, and how many places are taken
pub record WireLane : Type 0 where
  pub frames : List ℕ
  pub places : ℕ

abbrev pub no_frames : WireLane
no_frames = record { frames = []; places = 0 }

-- the lane with number i; past the last lane nothing waits
abbrev pub wire_lane : List WireLane → ℕ → WireLane
wire_lane ls i = slice_index_or ls i no_frames

-- every lane but i is as it was
abbrev pub Others : (before : List WireLane) (i : ℕ) (after : List WireLane) → Type 0
Others before i after = (j : ℕ) → (j ≢ i) → wire_lane after j ≡ wire_lane before j

abbrev pub no_such_lane : ℕ → Fault
no_such_lane i = fault Wire NoSuchOfficeOrLane i

abbrev pub places_taken : ℕ → Fault
places_taken i = fault Wire PlacesTaken i

-- why a put on lane i is refused, or none
abbrev pub put_fault : List WireLane → ℕ → Option Fault
put_fault ls i = cond (nat_le (length ls) i) (Some (no_such_lane i)) (cond (nat_lt 14 (wire_lane ls i).places) (Some (places_taken i)) None)

-- a frame that joins once takes one place more; otherwise at most two more are taken
abbrev pub PlacesAfter : Outcome → (before after : ℕ) → Type 0
PlacesAfter once p q = q ≡ p + 1
PlacesAfter lost p q = q ≤ p + 2
PlacesAfter twice p q = q ≤ p + 2

-- a frame was put on lane i of ls, and this became of it; t and u are the troubles left before and after
pub record Placed (ls : List WireLane) (t i frame : ℕ) (after : List WireLane) (u : ℕ) : Type 0 where
  pub outcome : Outcome
  pub spent : t ≡ u + cost outcome
  pub joins : (wire_lane after i).frames ≡ (wire_lane ls i).frames ++ copies outcome frame
  pub places : PlacesAfter outcome (wire_lane ls i).places (wire_lane after i).places
  pub others : Others ls i after

-- the same, where R says which outcomes the wire may have: it may have this one
pub record PlacedBy (ls : List WireLane) (t i frame : ℕ) (after : List WireLane) (u : ℕ) (R : List Outcome → Type 0) : Type 0 where
  pub put : Placed ls t i frame after u
  pub run : R (put.outcome ∷ [])

-- a put and its answer; one that is refused changes nothing
abbrev pub PutDone : (ls : List WireLane) (t i frame : ℕ) → Result (Unit {0}) Fault → (after : List WireLane) (u : ℕ) → (List Outcome → Type 0) → Type 0
PutDone ls t i frame (Ok _) after u R = (put_fault ls i ≡ None) × PlacedBy ls t i frame after u R
PutDone ls t i frame (Err f) after u R = (put_fault ls i ≡ Some f) × (after ≡ ls) × (u ≡ t)

-- a take from one lane: the first frame, which frees its place or more; or none, and then no place is taken
abbrev pub Taken : (before : WireLane) → Option ℕ → (after : WireLane) → Type 0
Taken before (Some frame) after = (before.frames ≡ frame ∷ after.frames) × (after.places < before.places)
Taken before None after = (before.frames ≡ []) × (after ≡ no_frames)

-- a take from lane i of ls and its answer; one that is refused changes nothing
abbrev pub TakeDone : (ls : List WireLane) (i : ℕ) → Result (Option ℕ) Fault → (after : List WireLane) → Type 0
TakeDone ls i (Ok o) after = (i < length ls) × Taken (wire_lane ls i) o (wire_lane after i) × Others ls i after
TakeDone ls i (Err f) after = (length ls ≤ i) × (f ≡ no_such_lane i) × (after ≡ ls)

-- what every wire is: two lanes for each of 1 to 64 offices, a place for each frame, at most 65,535 troubles left
pub record WireLaw (offices : ℕ) (lanes : List WireLane) (troubles : ℕ) : Type 0 where
  pub some : 1 ≤ offices
  pub few : offices ≤ 64
  pub both_ways : length lanes ≡ 2 * offices
  pub each : (i : ℕ) → length (wire_lane lanes i).frames ≤ (wire_lane lanes i).places
  pub bounded : troubles ≤ 65535
