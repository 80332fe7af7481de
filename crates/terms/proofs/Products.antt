-- The product of a list with one number more.
use Rattle.std.proofs.Common.{◌≡◌, ℕ, ◌*◌, List, [], ◌∷◌, ◌++◌, sym, ap, ◌∙◌, mul_assoc, one-mul, mul-one}
use Rattle.ladder.specs.Slacks.{product}

pub product_push : (ds : List ℕ) (d : ℕ) → product (ds ++ d ∷ []) ≡ product ds * d
product_push [] d = mul-one d ∙ sym (one-mul d)
product_push (c ∷ cs) d = ap (λ n. c * n) (product_push cs d) ∙ sym (mul_assoc c (product cs) d)
