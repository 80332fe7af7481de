-- Which bytes are marks, and which mark a byte is. Assumes nothing.
use Rattle.std.specs.Prelude.{◌≡◌, ℕ, Bool, false, ◌||◌, Ok, Err, Result, ◌==◌}
use Rattle.fault.specs.declared.Refusal.{Refusal}
use Rattle.fault.specs.declared.Refusal.TheVariants.{NotAMark}
use Rattle.marks.specs.declared.Mark.{Mark}
use Rattle.marks.specs.declared.Mark.TheVariants.{Once, Lost, Twice}

-- a mark is a byte `.`, `-` or `+`
abbrev pub is_mark : ℕ → Bool
is_mark b = b == 46 || (b == 45 || b == 43)

-- how a mark is written
abbrev pub mark_byte : Mark → ℕ
mark_byte Once = 46
mark_byte Lost = 45
mark_byte Twice = 43

-- the mark that a byte is, or the refusal of a byte that is none
abbrev pub MarkRead : ℕ → Result Mark Refusal → Type 0
MarkRead b (Ok m) = mark_byte m ≡ b
MarkRead b (Err r) = (is_mark b ≡ false) × (r ≡ NotAMark)
