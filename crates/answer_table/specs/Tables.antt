-- The lines of a table, and their answers. Assumes nothing.
use Rattle.std.specs.Prelude.{◌≡◌, ℕ, ◌<◌, List, [], ◌∷◌, ◌++◌, length, take, cond, Ok, Result, ◌==◌, nat_lt}
use Rattle.std.specs.List.{FoldsTo, position_or_len, before_first, after_first, count_by, slice_split}
use Rattle.texts.specs.declared.both_texts.Texts.{Texts}
use Rattle.answer_table.specs.Escapes.{decoded}

-- such a byte stands in the text: what stands before the first, and what stands after it
abbrev pub CutsAt : (byte : ℕ) → (text before after : List ℕ) → Type 0
CutsAt byte text before after =
    (position_or_len (λ c. c == byte) text < length text) × (before ≡ before_first (λ c. c == byte) text) × (after ≡ after_first (λ c. c == byte) text)

-- the terms stand before the first space of a line, and the day after it, both escaped; a line without a space is the terms as they are
abbrev pub terms_in : List ℕ → List ℕ
terms_in line = cond (nat_lt (position_or_len (λ c. c == 32) line) (length line)) (decoded (before_first (λ c. c == 32) line)) line

abbrev pub day_in : List ℕ → List ℕ
day_in line = decoded (after_first (λ c. c == 32) line)

-- the parts of a table between its line ends, but for the last, which no line end follows
abbrev pub whole_lines : List ℕ → List (List ℕ)
whole_lines table = take (count_by (λ c. c == 10) table) (slice_split (λ c. c == 10) table)

-- v is an answer that the two texts of a line may have
abbrev pub AnswersLine : {V E : Type 0} → (Texts → Result V E → Type 0) → (line : List ℕ) → V → Type 0
AnswersLine may line v = (texts : Texts) × (texts.terms.now ≡ terms_in line) × (texts.day.now ≡ day_in line) × may texts (Ok v)

-- after such an answer and a line end, what was made is more
abbrev pub MakesMore : {V E : Type 0} → (V → List ℕ) → (Texts → Result V E → Type 0) → (made line more : List ℕ) → Type 0
MakesMore {V} bytes may made line more = (v : V) × AnswersLine may line v × (more ≡ made ++ (bytes v ++ 10 ∷ []))

-- made is an answer to each line of the table in turn, and a line end after each
abbrev pub AnswersTable : {V E : Type 0} → (V → List ℕ) → (Texts → Result V E → Type 0) → (table made : List ℕ) → Type 0
AnswersTable bytes may table made = FoldsTo (MakesMore bytes may) [] (whole_lines table) made
