-- What a call that may want memory answers. Assumes nothing.
use Rattle.std.specs.Prelude.{◌≡◌, ℕ, List, Some, None, Ok, Err, Option, Result}
use Rattle.std.specs.Borrow.{Bor}
use Rattle.fault.specs.declared.Fault.{Fault}
use Rattle.fault.specs.declared.failure.Failure.{Failure}
use Rattle.fault.specs.declared.failure.Failure.TheVariants.{Faulty, NoMemory}
use Rattle.reader.specs.declared.Reader.{Reader}
use Rattle.reader.specs.Readings.{Reading}
use Rattle.reader.specs.Readers.{Reads}

-- r stands, by model, for the answer of s, or there was no memory
abbrev pub Gives : {X Y : Type 0} → (X → Y) → Result Y Fault → Result X Failure → Type 0
Gives model s (Ok x) = s ≡ Ok (model x)
Gives model s (Err (Faulty f)) = s ≡ Err f
Gives model s (Err NoMemory) = Unit {0}

-- the fault that a failure tells of: want of memory tells of none
abbrev pub told : Failure → Option Fault
told (Faulty f) = Some f
told NoMemory = None

-- the same of a call on a reader
abbrev pub GivesAt : {X Y : Type 0} → (X → Y) → Reading Y → Reader → Result X Failure → Reader → Type 0
GivesAt model = Reads told model

-- the same of a call that hands out a part of its text
abbrev pub MarksAt : Reading (List ℕ) → Reader → Result (Bor (List ℕ)) Fault → Reader → Type 0
MarksAt = Reads (λ f. Some f) (λ x. x.now)
