-- The puts that sends make, in order, by what the wire did with each. Assumes nothing.
use Rattle.std.specs.Prelude.{◌≡◌, ℕ, suc, ◌+◌, ◌*◌, ◌≤◌, Bool, true, false, ◌||◌, List, [], ◌∷◌, ◌++◌, length}
use Rattle.wire.specs.Wires.{Outcome, once, lost, twice, arrivals, costs}

-- whether a frame arrives at all, and whether any of several does
abbrev pub arrives : Outcome → Bool
arrives once = true
arrives lost = false
arrives twice = true

abbrev pub any_arrives : List Outcome → Bool
any_arrives [] = false
any_arrives (o ∷ os) = arrives o || any_arrives os

-- one attempt puts the data frame, and then an acknowledgement for each arrival of it; it is acknowledged if one of these arrives
pub data Attempt : (acknowledged : Bool) → List Outcome → Type 0 where
  attempt : (acknowledged : Bool) (data_frame : Outcome) (acks : List Outcome) → length acks ≡ arrivals data_frame → acknowledged ≡ any_arrives acks → Attempt acknowledged (data_frame ∷ acks)

-- one send makes attempts that are not acknowledged, and then one that is
pub data Send : List Outcome → Type 0 where
  done : (xs : List Outcome) → Attempt true xs → Send xs
  again : (xs ys : List Outcome) → Attempt false xs → Send ys → Send (xs ++ ys)

-- n sends, one after another
pub data Sends : ℕ → List Outcome → Type 0 where
  none : Sends 0 []
  more : (n : ℕ) (xs ys : List Outcome) → Send xs → Sends n ys → Sends (suc n) (xs ++ ys)

-- n sends make from 2n puts to 2n and two for each trouble
pub record PutsWithin (n : ℕ) (xs : List Outcome) : Type 0 where
  pub least : 2 * n ≤ length xs
  pub most : length xs ≤ 2 * n + 2 * costs xs
