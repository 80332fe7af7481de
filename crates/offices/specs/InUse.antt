-- How many lanes a table is for, and what is shown of a new one: lemmas that impls and other crates cite, proved and nothing to believe.
use Rattle.std.specs.Prelude.{◌≡◌, ℕ, zero, suc, ◌*◌, ◌∷◌, map, length, replicate, refl}
use Rattle.std.proofs.Common.{ap, arith}
use Rattle.std.proofs.lemmas.List.{length-take-le}
use Rattle.offices.specs.LaneItems.{in_use}
use Rattle.offices.specs.declared.lane_items.LaneItems.{LaneItems}

pub in_use_length : {T : Type 0} (t : LaneItems T) → length (in_use t) ≡ 2 * t.offices.number
in_use_length t = length-take-le (2 * t.offices.number) t.items (omega (arith, t.wide, t.offices.few))

pub map_replicate : {T U : Type 0} (f : T → U) (n : ℕ) (x : T) → map f (replicate n x) ≡ replicate n (f x)
map_replicate f zero x = refl
map_replicate f (suc n) x = ap (λ ys. f x ∷ ys) (map_replicate f n x)
