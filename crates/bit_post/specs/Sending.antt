-- What the parts of one send do to the wire, to the expected bit and to the lanes: the words of the inner contracts. Assumes nothing.
use Rattle.std.specs.Prelude.{◌≡◌, ℕ, ◌+◌, ◌*◌, ◌≤◌, Bool, true, false, cond, not, ◌||◌, ◌⊎◌, List, [], ◌∷◌, ◌++◌, length, replicate, Ok, ◌==◌}
use Rattle.post.specs.Lanes.{Lane, send_answer, joined}
use Rattle.wire.specs.Wires.{Outcome, WireLane, wire_lane, no_frames, copies, costs}
use Rattle.bit_post.specs.Frames.{data_frame, acknowledgement}
use Rattle.bit_post.specs.Sends.{Attempt, Send}

-- whether a frame is among those of a list
abbrev pub among : ℕ → List ℕ → Bool
among f [] = false
among f (x ∷ xs) = x == f || among f xs

-- the frames that wait after puts of one frame with these outcomes
abbrev pub waiting_after : List Outcome → ℕ → List ℕ
waiting_after [] f = []
waiting_after (o ∷ os) f = copies o f ++ waiting_after os f

abbrev pub same_bit : Bool → Bool → Bool
same_bit true b = b
same_bit false b = not b

-- the lanes once the byte b has come on lane i with the bit s, where e was expected
abbrev pub delivered : Bool → Bool → List Lane → ℕ → ℕ → List Lane
delivered s e lanes i b = cond (same_bit s e) (joined lanes i b) lanes

-- a byte may be sent on lane i
abbrev pub MaySend : List Lane → ℕ → Type 0
MaySend lanes i = send_answer lanes i ≡ Ok tt

-- the far end after it has answered so many data frames: e and q are the expected bit and the lanes, e₀ and q₀ those at first
abbrev pub FarState : Bool → ℕ → ℕ → List Outcome → Bool → List Lane → Bool → List Lane → Type 0
FarState s i b [] e₀ q₀ e q = (e ≡ e₀) × (q ≡ q₀)
FarState s i b (_ ∷ _) e₀ q₀ e q = (e ≡ not s) × (q ≡ delivered s e₀ q₀ i b)

-- amid an attempt on lane i, answered on lane k: so many acknowledgements are put, and so many data frames are left
pub record Answering (s : Bool) (i k b : ℕ) (lanes₀ lanes : List WireLane) (t₀ t p₀ p : ℕ) (e₀ e : Bool) (q₀ q : List Lane) (ran : List Outcome → Type 0) : Type 0 where
  pub acks : List Outcome
  pub wire_ran : ran acks
  pub left : ℕ
  pub number : length (wire_lane lanes₀ i).frames ≡ length acks + left
  pub waits : (wire_lane lanes i).frames ≡ replicate left (data_frame s b)
  pub answered : (wire_lane lanes k).frames ≡ waiting_after acks (acknowledgement s)
  pub places : (wire_lane lanes k).places ≤ 2 * length acks
  pub troubles : t₀ ≡ t + costs acks
  pub puts : p ≡ p₀ + length acks
  pub far : FarState s i b acks e₀ q₀ e q

-- one attempt, with the troubles left and the number of puts before and after it
pub record Tried (acknowledged : Bool) (t u p q : ℕ) (ran : List Outcome → Type 0) : Type 0 where
  pub outcomes : List Outcome
  pub wire_ran : ran outcomes
  pub by_attempt : Attempt acknowledged outcomes
  pub troubles : t ≡ u + costs outcomes
  pub puts : q ≡ p + length outcomes

-- the byte has come, or the attempt was not acknowledged and nothing changed at the far end
abbrev pub FarAfter : Bool → Bool → ℕ → ℕ → Bool → List Lane → Bool → List Lane → Type 0
FarAfter acknowledged s i b e₀ q₀ e q = ((e ≡ not s) × (q ≡ delivered s e₀ q₀ i b)) ⊎ ((acknowledged ≡ false) × (e ≡ e₀) × (q ≡ q₀))

-- attempts so far, none of them acknowledged
pub data Failing : List Outcome → Type 0 where
  start : Failing []
  fail : (xs ys : List Outcome) → Failing xs → Attempt false ys → Failing (xs ++ ys)

-- the byte is not delivered yet, or delivered once
abbrev pub Delivery : Bool → ℕ → ℕ → List Lane → Bool → List Lane → Type 0
Delivery s i b q₀ e q = ((e ≡ s) × (q ≡ q₀)) ⊎ ((e ≡ not s) × (q ≡ joined q₀ i b))

-- between two attempts of one send
pub record Retrying (s : Bool) (i k b : ℕ) (lanes : List WireLane) (t₀ t p : ℕ) (q₀ : List Lane) (e : Bool) (q : List Lane) (ran : List Outcome → Type 0) : Type 0 where
  pub there_empty : wire_lane lanes i ≡ no_frames
  pub back_empty : wire_lane lanes k ≡ no_frames
  pub outcomes : List Outcome
  pub wire_ran : ran outcomes
  pub failing : Failing outcomes
  pub troubles : t₀ ≡ t + costs outcomes
  pub puts : p ≡ length outcomes
  pub delivery : Delivery s i b q₀ e q

-- one send, with the troubles left before and after it and the number of its puts
pub record Sent (t u p : ℕ) (ran : List Outcome → Type 0) : Type 0 where
  pub outcomes : List Outcome
  pub wire_ran : ran outcomes
  pub by_attempts : Send outcomes
  pub troubles : t ≡ u + costs outcomes
  pub puts : p ≡ length outcomes
