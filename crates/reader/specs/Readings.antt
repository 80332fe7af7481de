-- What a text says at a place: a value and the place after it, or a fault. Assumes nothing.
use Rattle.std.specs.Prelude.{ℕ, ◌+◌, ◌-◌, ◌*◌, Bool, cond, not, ◌&&◌, ◌||◌, List, [], ◌∷◌, ◌++◌, length, take, drop, Ok, Err, Result, ◌==◌, nat_le, nat_lt, slice_index}
use Rattle.std.specs.Str.{bytes_eq}
use Rattle.fault.specs.declared.Fault.{Fault}
use Rattle.fault.specs.declared.Layer.{Layer}
use Rattle.fault.specs.declared.Refusal.{Refusal}
use Rattle.fault.specs.declared.Refusal.TheVariants.{NotAsExpected, NotANumber, BytesAfterEnd}
use Rattle.fault.specs.Faults.{fault}
use Rattle.reader.specs.declared.byte_kind.ByteKind.TheVariants.{Digit}
use Rattle.reader.specs.Bytes.{run, line_end}

-- a text of a layer, read from a place on
abbrev pub Reading : Type 0 → Type 0
Reading X = Layer → List ℕ → ℕ → Result (X × ℕ) Fault

-- the first step, and then what follows from its value
abbrev pub bind : {X Y : Type 0} → Result X Fault → (X → Result Y Fault) → Result Y Fault
bind (Ok x) f = f x
bind (Err e) f = Err e

-- the value alone
abbrev pub whole : {X : Type 0} → Result (X × ℕ) Fault → Result X Fault
whole s = bind s (λ x. Ok x.0)

-- whether a word stands at a place
abbrev pub begins_at : List ℕ → ℕ → List ℕ → Bool
begins_at t p word = bytes_eq word (take (length word) (drop p t))

-- an expected word
abbrev pub expect : List ℕ → Reading (Unit {0})
expect word l t p = cond (begins_at t p word) (Ok (tt, p + length word)) (Err (fault l NotAsExpected p))

-- a line end
abbrev pub end_line : Reading (Unit {0})
end_line l t p = cond (nat_lt 0 (line_end (drop p t))) (Ok (tt, p + line_end (drop p t))) (Err (fault l NotAsExpected p))

-- the end of the text
abbrev pub end_text : Reading (Unit {0})
end_text l t p = cond (nat_lt p (length t)) (Err (fault l BytesAfterEnd p)) (Ok (tt, p))

-- the number that digits write, after those of n
abbrev pub digits_value : ℕ → List ℕ → ℕ
digits_value n [] = n
digits_value n (c ∷ cs) = digits_value (10 * n + (c - 48)) cs

-- one to eight digits with no zero before another
abbrev pub is_numeral : List ℕ → Bool
is_numeral ds = not (length ds == 0 || (nat_lt 8 (length ds) || (nat_lt 1 (length ds) && slice_index ds 0 == 48)))

abbrev pub number_of : Layer → ℕ → List ℕ → Result ℕ Fault
number_of l p ds = cond (is_numeral ds) (Ok (digits_value 0 ds)) (Err (fault l NotANumber p))

-- the digits at a place
abbrev pub digits_at : List ℕ → ℕ → List ℕ
digits_at t p = run Digit (drop p t)

-- the number at a place
abbrev pub number_here : Layer → List ℕ → ℕ → Result ℕ Fault
number_here l t p = number_of l p (digits_at t p)

-- a number that passes a test; one that does not is refused where it begins
abbrev pub number_if : (ℕ → Bool) → Refusal → Reading ℕ
number_if allowed refusal l t p = bind (number_here l t p) (λ n. cond (allowed n) (Ok (n, p + length (digits_at t p))) (Err (fault l refusal p)))

-- a number from low to high
abbrev pub number_in : ℕ → ℕ → Refusal → Reading ℕ
number_in low high refusal = number_if (λ n. nat_le low n && nat_le n high) refusal

-- a line: a key, what body reads, and a line end
abbrev pub line_of : {X : Type 0} → List ℕ → Reading X → Reading X
line_of key body l t p = bind (expect key l t p) (λ k. bind (body l t k.1) (λ x. bind (end_line l t x.1) (λ e. Ok (x.0, e.1))))

-- the same line as it is written, with byte 10 for its end, and what follows it
abbrev pub line : List ℕ → List ℕ → List ℕ → List ℕ
line key value rest = key ++ (value ++ (10 ∷ rest))
