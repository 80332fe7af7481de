-- Kinds of bytes, the run of such bytes at a text's front, and what a line end is. Assumes nothing.
use Rattle.std.specs.Prelude.{ℕ, Bool, cond, List, [], ◌∷◌, take, ◌==◌}
use Rattle.std.specs.Char.{is_ascii_digit}
use Rattle.std.specs.List.{prefix_len}
use Rattle.marks.specs.MarkBytes.{is_mark}
use Rattle.reader.specs.declared.byte_kind.ByteKind.{ByteKind}
use Rattle.reader.specs.declared.byte_kind.ByteKind.TheVariants.{Digit, Mark}

-- a digit is `0` to `9`, and a mark `.`, `-` or `+`
abbrev pub of_kind : ByteKind → ℕ → Bool
of_kind Digit c = is_ascii_digit c
of_kind Mark c = is_mark c

-- the longest run of bytes of one kind at the front
abbrev pub run : ByteKind → List ℕ → List ℕ
run k xs = take (prefix_len (of_kind k) xs) xs

-- how many bytes the line end at the front has: one, a byte 10, or 0 where none stands there
abbrev pub line_end : List ℕ → ℕ
line_end [] = 0
line_end (c ∷ cs) = cond (c == 10) 1 0
