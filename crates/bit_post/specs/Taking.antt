-- What a call that only takes frames off one lane of a wire leaves as it was. Assumes nothing.
use Rattle.std.specs.Prelude.{◌≡◌, ℕ, List, []}
use Rattle.wire.specs.Wires.{Outcome, WireLane, Others}

-- as many offices and troubles, no put, and every lane but i
pub record OnlyTakes {W : Type 0} (offices troubles : W → ℕ) (lanes : W → List WireLane) (ran : W → W → List Outcome → Type 0) (i : ℕ) (w v : W) : Type 0 where
  pub same : offices v ≡ offices w
  pub calm : troubles v ≡ troubles w
  pub rest : ran w v []
  pub others : Others (lanes w) i (lanes v)
