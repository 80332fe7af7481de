-- Numbers with commas between: how they are read, and how they are written. Assumes nothing.
use Rattle.std.specs.Prelude.{ℕ, zero, suc, ◌+◌, ◌-◌, Bool, cond, List, [], ◌∷◌, ◌++◌, length, Some, None, Ok, Err, Option, decimal}
use Rattle.std.specs.Borrow.{Bor}
use Rattle.fault.specs.declared.Refusal.TheVariants.{OutOfRange}
use Rattle.fault.specs.Faults.{fault}
use Rattle.reader.specs.Readings.{Reading, bind, begins_at}
use Rattle.reader.specs.Readers.{Computes}
use Rattle.reader.specs.Words.{comma}

-- numbers, each read by item, which is told those before it; n more may follow the first, and a comma after them is refused
unfoldable pub numbers : ℕ → (List ℕ → Reading ℕ) → List ℕ → Reading (List ℕ)
numbers zero item before l t p =
    bind (item before l t p) (λ x. cond (begins_at t x.1 comma) (Err (fault l OutOfRange x.1)) (Ok (before ++ x.0 ∷ [], x.1)))
numbers (suc n) item before l t p =
    bind (item before l t p) (λ x. cond (begins_at t x.1 comma) (numbers n item (before ++ x.0 ∷ []) l t (x.1 + length comma)) (Ok (before ++ x.0 ∷ [], x.1)))

-- how many numbers may follow the first: of most numbers in all, or of any that the text has room for
abbrev pub further : Option ℕ → List ℕ → ℕ
further (Some most) t = most - 1
further None t = length t

-- whatever a call may answer at a number, told those before it, is what test gives there
abbrev pub ComputesAfter : (Bor (List ℕ) → ℕ → Bool → Type 0) → (List ℕ → ℕ → Bool) → Type 0
ComputesAfter Tells test = (before : Bor (List ℕ)) → Computes (Tells before) (test before.now)

-- the same numbers as they are written
abbrev pub commas : List ℕ → List ℕ
commas [] = []
commas (n ∷ []) = decimal n
commas (n ∷ m ∷ ns) = decimal n ++ (comma ++ commas (m ∷ ns))
