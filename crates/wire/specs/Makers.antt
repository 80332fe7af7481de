-- The first fault in what a wire would be made of, or none. Assumes nothing.
use Rattle.std.specs.Prelude.{ℕ, ◌+◌, cond, ◌&&◌, List, [], ◌∷◌, length, Some, None, Option, nat_le}
use Rattle.fault.specs.Faults.{fault}
use Rattle.fault.specs.declared.Fault.{Fault}
use Rattle.fault.specs.declared.Layer.TheVariants.{Wire}
use Rattle.fault.specs.declared.Refusal.TheVariants.{OutOfRange, TextTooLong, NotAMark}
use Rattle.marks.specs.MarkBytes.{is_mark}

-- There are 1 to 64 offices; then the rest decides.
abbrev pub offices_fault : (offices : ℕ) → Option Fault → Option Fault
offices_fault offices rest = cond (nat_le 1 offices && nat_le offices 64) rest (Some (fault Wire OutOfRange offices))

-- The first byte that is no mark; the first byte of the list has number i.
abbrev pub bytes_fault : (i : ℕ) → List ℕ → Option Fault
bytes_fault i [] = None
bytes_fault i (b ∷ bs) = cond (is_mark b) (bytes_fault (i + 1) bs) (Some (fault Wire NotAMark i))

-- There are at most 65,535 marks; then each is tested in turn.
abbrev pub marks_fault : List ℕ → Option Fault
marks_fault marks = cond (nat_le (length marks) 65535) (bytes_fault 0 marks) (Some (fault Wire TextTooLong 65535))

abbrev pub clean_fault : (offices : ℕ) → Option Fault
clean_fault offices = offices_fault offices None

abbrev pub marked_fault : (offices : ℕ) (marks : List ℕ) → Option Fault
marked_fault offices marks = offices_fault offices (marks_fault marks)
