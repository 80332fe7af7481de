-- What a buffer holds after a text was written to its start, and what is answered. Assumes nothing.
use Rattle.std.specs.Prelude.{◌≡◌, ℕ, cond, List, ◌++◌, length, drop, Ok, Err, Result, nat_le}
use Rattle.fault.specs.declared.Fault.{Fault}
use Rattle.fault.specs.declared.Layer.TheVariants.{Report}
use Rattle.fault.specs.declared.Refusal.TheVariants.{BufferTooShort}
use Rattle.fault.specs.Faults.{fault}
use Rattle.fault.specs.declared.failure.Failure.{Failure}
use Rattle.fault.specs.declared.failure.Failure.TheVariants.{Faulty, NoMemory}

-- the text stands at the start, the rest is kept, and its length is answered; a shorter buffer is as it was, and the length needed is told
abbrev pub written : (text buffer : List ℕ) → List ℕ × Result ℕ Fault
written text buffer =
    cond (nat_le (length text) (length buffer))
    (text ++ drop (length text) buffer, Ok (length text))
    (buffer, Err (fault Report BufferTooShort (length text)))

-- the buffer after and the answer are what is written, or there was no memory and the buffer is as it was
abbrev pub Writes : (text before : List ℕ) → Result ℕ Failure → (after : List ℕ) → Type 0
Writes text before (Ok n) after = (after, Ok n) ≡ written text before
Writes text before (Err (Faulty f)) after = (after, Err f) ≡ written text before
Writes text before (Err NoMemory) after = after ≡ before
