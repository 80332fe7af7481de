-- The frames that a send of the alternating bit puts, and what the far end delivers. Assumes nothing.
use Rattle.std.specs.Prelude.{◌≡◌, ℕ, Bool, cond, not, List, [], ◌∷◌, ◌++◌, map, length, replicate}
use Rattle.wire.specs.Wires.{Outcome, arrivals}
use Rattle.wire.specs.Marks.{byte_outcome, next_outcomes}
use Rattle.bit_post.specs.Frames.{data_frame, acknowledgement, bit_of, byte_of}
use Rattle.bit_post.specs.Sends.{Attempt, attempt, Send, done, again}
use Rattle.bit_post.specs.Sending.{same_bit}

-- an attempt puts the data frame, and an acknowledgement for each time that it arrives
abbrev pub attempt_frames : Bool → ℕ → {acknowledged : Bool} {outcomes : List Outcome} → Attempt acknowledged outcomes → List ℕ
attempt_frames bit byte (attempt a data_outcome acks long any) = data_frame bit byte ∷ replicate (length acks) (acknowledgement bit)

abbrev pub send_frames : Bool → ℕ → {outcomes : List Outcome} → Send outcomes → List ℕ
send_frames bit byte (done xs a) = attempt_frames bit byte a
send_frames bit byte (again xs ys a s) = attempt_frames bit byte a ++ send_frames bit byte s

-- the data frames that arrive at the far end
abbrev pub attempt_arrivals : Bool → ℕ → {acknowledged : Bool} {outcomes : List Outcome} → Attempt acknowledged outcomes → List ℕ
attempt_arrivals bit byte (attempt a data_outcome acks long any) = replicate (arrivals data_outcome) (data_frame bit byte)

abbrev pub send_arrivals : Bool → ℕ → {outcomes : List Outcome} → Send outcomes → List ℕ
send_arrivals bit byte (done xs a) = attempt_arrivals bit byte a
send_arrivals bit byte (again xs ys a s) = attempt_arrivals bit byte a ++ send_arrivals bit byte s

-- a data frame with the expected bit delivers its byte and flips the bit
abbrev pub delivered_of : (expected : Bool) → List ℕ → List ℕ
delivered_of expected [] = []
delivered_of expected (f ∷ fs) = cond (same_bit (bit_of f) expected) (byte_of f ∷ delivered_of (not expected) fs) (delivered_of expected fs)

-- With these marks to read, a send of the byte with the bit puts these frames, and the byte is delivered once.
pub record SendsBy (marks : List ℕ) (bit : Bool) (byte : ℕ) (frames : List ℕ) : Type 0 where
  pub outcomes : List Outcome
  pub marked : outcomes ≡ next_outcomes (length outcomes) (map byte_outcome marks)
  pub send : Send outcomes
  pub puts : send_frames bit byte send ≡ frames
  pub once : delivered_of bit (send_arrivals bit byte send) ≡ byte ∷ []
