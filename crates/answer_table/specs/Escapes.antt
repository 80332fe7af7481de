-- What an escaped text stands for. Assumes nothing.
use Rattle.std.specs.Prelude.{ℕ, ◌+◌, ◌-◌, ◌*◌, min, cond, List, [], ◌∷◌, ◌++◌, length, replicate, slice_index_or, ◌==◌}
use Rattle.std.specs.Char.{is_ascii_digit}
use Rattle.std.specs.List.{fold}
use Rattle.answer_table.specs.declared.decoding.Decoding.{Decoding}
use Rattle.answer_table.specs.declared.decoding.Decoding.TheVariants.{Plain, Escape, Count}

-- the byte that a letter stands for after a backslash: `n`, `r`, `s`, `t`, `z`, `h`, or itself
abbrev pub escaped : ℕ → ℕ
escaped c = cond (c == 110) 10 (cond (c == 114) 13 (cond (c == 115) 32 (cond (c == 116) 9 (cond (c == 122) 0 (cond (c == 104) 255 c)))))

-- the last byte, or a line end where there is none, again and again until there are so many
abbrev pub padded : List ℕ → ℕ → List ℕ
padded made n = made ++ replicate (n - length made) (slice_index_or made (length made - 1) 10)

-- one byte more, after the bytes that were made so far: a backslash begins an escape, and `{` in it a number, which ends at the first byte that is no digit
abbrev pub decoding : List ℕ × Decoding → ℕ → List ℕ × Decoding
decoding (made, Plain) c = cond (c == 92) (made, Escape) (made ++ c ∷ [], Plain)
decoding (made, Escape) c = cond (c == 123) (made, Count 0) (made ++ escaped c ∷ [], Plain)
decoding (made, Count n) c = cond (is_ascii_digit c) (made, Count (min (10 * n + (c - 48)) 70000)) (padded made n, Plain)

abbrev pub decoded : List ℕ → List ℕ
decoded text = (fold decoding ([], Plain) text).0
