-- The line of a text around a place, and the line that a fault lies in. Assumes nothing.
use Rattle.std.specs.Prelude.{ℕ, ◌+◌, ◌-◌, min, Bool, List, [], ◌∷◌, length, take, drop, ◌==◌}
use Rattle.std.specs.List.{between, prefix_len, suffix_len}
use Rattle.fault.specs.declared.Fault.{Fault}
use Rattle.fault.specs.declared.Layer.{Layer}
use Rattle.fault.specs.declared.Layer.TheVariants.{Terms, Day, Report, Window, Ladder, Post, Wire}
use Rattle.reader.specs.Bytes.{line_end}

-- a byte that ends no line
abbrev pub in_line : ℕ → Bool
in_line c = line_end (c ∷ []) == 0

-- after the last line end before the place, or the text's start
abbrev pub line_start : List ℕ → ℕ → ℕ
line_start t p = min p (length t) - suffix_len in_line (take p t)

-- at the first line end at the place or after it, or the text's end
abbrev pub line_stop : List ℕ → ℕ → ℕ
line_stop t p = min p (length t) + prefix_len in_line (drop p t)

abbrev pub line_at : List ℕ → ℕ → List ℕ
line_at t p = between (line_start t p) (line_stop t p) t

abbrev pub line_in : List ℕ → List ℕ → Layer → ℕ → List ℕ
line_in terms day Terms p = line_at terms p
line_in terms day Day p = line_at day p
line_in terms day Report p = []
line_in terms day Window p = []
line_in terms day Ladder p = []
line_in terms day Post p = []
line_in terms day Wire p = []

-- the line is a part of the text that the fault's layer names
abbrev pub fault_line : List ℕ → List ℕ → Fault → List ℕ
fault_line terms day f = line_in terms day f.layer f.place
