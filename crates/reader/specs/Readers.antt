-- What a call on a reader does: the answer of a reading, and where the reader stands after it. Assumes nothing.
use Rattle.std.specs.Prelude.{◌≡◌, ℕ, ◌+◌, ◌^◌, ◌<◌, Bool, List, Some, None, Ok, Err, Option, Result}
use Rattle.fault.specs.declared.Fault.{Fault}
use Rattle.reader.specs.declared.Reader.{Reader}
use Rattle.reader.specs.Readings.{Reading}

-- the text under a reader
abbrev pub text_of : Reader → List ℕ
text_of r = r.text.now

-- what a reading gives where the reader stands
abbrev pub from : {X : Type 0} → Reading X → Reader → Result (X × ℕ) Fault
from reading r = reading r.layer (text_of r) r.place

-- s stops with the fault that an error tells of, and q is the fault's place; an error that tells of none says nothing of s
abbrev pub Stops : {Y : Type 0} → Option Fault → Result (Y × ℕ) Fault → ℕ → Type 0
Stops (Some f) s q = (s ≡ Err f) × (q ≡ f.place)
Stops None s q = Unit {0}

-- r stands, by model and by what its errors tell, for the answer of s, and q is the place after what was read, or the fault's place
abbrev pub ReadsAt : {X Y E : Type 0} → (E → Option Fault) → (X → Y) → Result (Y × ℕ) Fault → Result X E → ℕ → Type 0
ReadsAt told model s (Ok x) q = s ≡ Ok (model x, q)
ReadsAt told model s (Err e) q = Stops (told e) s q

-- only the reader's place may change
pub record SameText (before after : Reader) : Type 0 where
  pub text : after.text ≡ before.text
  pub layer : after.layer ≡ before.layer

-- the reader moved n bytes on
pub record Moves (n : ℕ) (before after : Reader) : Type 0 where
  pub same : SameText before after
  pub place : after.place ≡ before.place + n

-- a call at here answers r, which stands for what the reading gives there, and after is the reader then
pub record Reads {X Y E : Type 0} (told : E → Option Fault) (model : X → Y) (reading : Reading Y) (here : Reader) (r : Result X E) (after : Reader) : Type 0 where
  pub same : SameText here after
  pub answers : ReadsAt told model (from reading here) r after.place

-- r is itself what the reading gives
abbrev pub Answers : {X : Type 0} → Reading X → Reader → Result X Fault → Reader → Type 0
Answers = Reads (λ f. Some f) (λ x. x)

-- whatever a call may answer at a number is what test gives there
abbrev pub Computes : (ℕ → Bool → Type 0) → (ℕ → Bool) → Type 0
Computes Tells test = (n : ℕ) (b : Bool) → n < 2 ^ 32 → Tells n b → b ≡ test n
