-- What the parts of a turn do to the books and the lanes: the words of the inner contracts. Assumes nothing.
use Rattle.std.specs.Prelude.{◌≡◌, ℕ, ◌+◌, ◌-◌, ◌*◌, ◌<◌, Bool, true, false, cond, ◌||◌, ◌⊎◌, List, [], ◌∷◌, length, Some, None, Ok, Err, Option, Result, ◌==◌, nat_le, nat_lt}
use Rattle.fault.specs.Faults.{fault}
use Rattle.fault.specs.declared.Fault.{Fault}
use Rattle.fault.specs.declared.Layer.TheVariants.{Window}
use Rattle.fault.specs.declared.Refusal.TheVariants.{NoSuchOfficeOrLane, WindowClosed, PostUsed}
use Rattle.post.specs.Lanes.{Lane, lane, lane_fault, send, taken}
use Rattle.post.specs.Outs.{Out, out}
use Rattle.window.specs.Sequences.{fine, then, each}
use Rattle.window.specs.declared.books.Books.{Books}
use Rattle.window.specs.declared.message.Message.{Message}
use Rattle.window.specs.declared.message.Message.TheVariants.{Signal}
use Rattle.window.specs.Parts.{is_closed, heard, message, byte_of, Followed, followed, office, due, counted}

-- all that a window holds
pub record State : Type 0 where
  pub books : Books
  pub lanes : List Lane

abbrev pub at : Books → List Lane → State
at b ls = record { books = b; lanes = ls }

abbrev pub with_lanes : {R : Type 0} → Books → Out (List Lane) R → Out State R
with_lanes b o = out (at b o.state) o.answer

-- the byte to k offices
abbrev pub tell : ℕ → ℕ → List Lane → Out (List Lane) (Unit {0})
tell k b ls = each k 0 (λ i. send (2 * i + 1) b) ls

-- a lane still holds what it held
pub record Holds (j : ℕ) (ls ls' : List Lane) : Type 0 where
  pub long : length ls' ≡ length ls
  pub same : (lane ls' j).waiting ≡ (lane ls j).waiting

-- takes a lane until it is empty, and does f with each byte
unfoldable pub with_each : ℕ → (ℕ → State → Out State (Unit {0})) → List ℕ → State → Out State (Unit {0})
with_each j f [] s = fine s
with_each j f (b ∷ bs) s = then (f b (at s.books (taken (b ∷ bs) j s.lanes).state)) (λ t _. with_each j f bs t)

unfoldable pub drain : ℕ → (ℕ → State → Out State (Unit {0})) → State → Out State (Unit {0})
drain j f s = cond (nat_le (length s.lanes) j) (out s (Err (lane_fault NoSuchOfficeOrLane j))) (with_each j f (lane s.lanes j).waiting s)

-- one of the two parts of a turn: the lane that way of each office in turn
abbrev pub part : (way : ℕ → ℕ) → (f : ℕ → ℕ → State → Out State (Unit {0})) → ℕ → State → Out State (Unit {0})
part way f k s = each k 0 (λ i. drain (way i) (f i)) s

-- the coordinator has taken a byte of office i
abbrev pub replies : Option Message → Books → List Lane → Out State (Unit {0})
replies None b ls = fine (at b ls)
replies (Some m) b ls = with_lanes b (tell b.setting.offices (byte_of m) ls)

unfoldable pub hear : ℕ → ℕ → State → Out State (Unit {0})
hear i byte s = replies (heard i (message byte) s.books).reply (heard i (message byte) s.books).books s.lanes

-- the coordinator's part of a turn
abbrev pub coordinator_part : ℕ → State → Out State (Unit {0})
coordinator_part k s = part (λ i. 2 * i) hear k s

-- n signals of a step from office i
abbrev pub signal : ℕ → ℕ → ℕ → List Lane → Out (List Lane) (Unit {0})
signal i step n ls = each n 0 (λ _. send (2 * i) (byte_of (Signal step))) ls

-- office i has taken a byte
abbrev pub answers : ℕ → Followed → List Lane → Out State (Unit {0})
answers i t ls = with_lanes t.books (signal i (office t.books i).step t.signals ls)

unfoldable pub follow : ℕ → ℕ → State → Out State (Unit {0})
follow i byte s = answers i (followed i (message byte) s.books) s.lanes

-- the offices' part of a turn
abbrev pub office_part : ℕ → State → Out State (Unit {0})
office_part k s = part (λ i. 2 * i + 1) follow k s

unfoldable pub turn : State → Out State (Unit {0})
turn s = then (coordinator_part s.books.setting.offices s) (λ t _. office_part t.books.setting.offices t)

-- a message waits on a lane of office i
abbrev pub WaitsAt : ℕ → List Lane → Type 0
WaitsAt i ls = (0 < length (lane ls (2 * i)).waiting) ⊎ (0 < length (lane ls (2 * i + 1)).waiting)

abbrev pub Busy : State → Type 0
Busy s = (i : ℕ) × (i < s.books.setting.offices) × WaitsAt i s.lanes

abbrev pub Calm : State → Type 0
Calm s = (i : ℕ) → i < s.books.setting.offices → ((lane s.lanes (2 * i)).waiting ≡ []) × ((lane s.lanes (2 * i + 1)).waiting ≡ [])

-- turns until no lane holds anything, or until a fault
pub data Settled : State → Out State (Unit {0}) → Type 0 where
  calm : {s : State} → Calm s → Settled s (fine s)
  again : {s t : State} {o : Out State (Unit {0})} → Busy s → fine t ≡ turn s → Settled t o → Settled s o
  stops : {s t : State} {e : Fault} → Busy s → out t (Err e) ≡ turn s → Settled s (out t (Err e))

-- turns until no lane holds anything: two are enough
abbrev pub settle : State → Out State (Unit {0})
settle s = then (turn s) (λ t _. turn t)

-- office i sends a signal, and turns follow
unfoldable pub signal_and_settle : ℕ → State → Out State (Unit {0})
signal_and_settle i s = then (with_lanes s.books (send (2 * i) (byte_of (Signal (office s.books i).step)) s.lanes)) (λ t _. settle t)

-- office i sends a signal, and turns follow until no lane holds anything
pub data Signals (i : ℕ) (s : State) : Out State (Unit {0}) → Type 0 where
  refused : {t : State} {e : Fault} → out t (Err e) ≡ with_lanes s.books (send (2 * i) (byte_of (Signal (office s.books i).step)) s.lanes) → Signals i s (out t (Err e))
  sent : {t : State} {o : Out State (Unit {0})} → fine t ≡ with_lanes s.books (send (2 * i) (byte_of (Signal (office s.books i).step)) s.lanes) → Settled t o → Signals i s o

-- an accepted lot, by two turns
abbrev pub accepted : ℕ → State → Out State (Unit {0})
accepted i s = cond (due i s.books) (signal_and_settle i (at (counted i s.books) s.lanes)) (fine (at (counted i s.books) s.lanes))

-- an accepted lot, by turns until no lane holds anything
pub data Accepts (i : ℕ) (s : State) : Out State (Unit {0}) → Type 0 where
  quiet : due i s.books ≡ false → Accepts i s (fine (at (counted i s.books) s.lanes))
  signalled_on : {o : Out State (Unit {0})} → due i s.books ≡ true → Signals i (at (counted i s.books) s.lanes) o → Accepts i s o

-- Whether a lot at office n is admitted, and at which place of the table: refused if the post was used, if there is no such office, if the window is closed.
abbrev pub admitted : (used : Bool) → ℕ → Books → Result ℕ Fault
admitted used n b =
    cond used (Err (fault Window PostUsed 0))
    (cond (n == 0 || nat_lt b.setting.offices n) (Err (fault Window NoSuchOfficeOrLane n))
    (cond (is_closed b.coordinator.phase) (Err (fault Window WindowClosed n))
    (Ok (n - 1))))
