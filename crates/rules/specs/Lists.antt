-- Sums, changes and folds over lists. Assumes nothing.
use Rattle.std.specs.Prelude.{ℕ, zero, suc, ◌+◌, List, [], ◌∷◌}

-- The sum of f over a list.
abbrev pub total : {X : Type 0} → (X → ℕ) → List X → ℕ
total f [] = 0
total f (x ∷ xs) = f x + total f xs

-- f at one place of a list, counted from 0.
abbrev pub at : {X : Type 0} → ℕ → (X → X) → List X → List X
at zero f [] = []
at zero f (x ∷ xs) = f x ∷ xs
at (suc m) f [] = []
at (suc m) f (x ∷ xs) = x ∷ at m f xs

-- f over the items of a list, first to last.
abbrev pub fold : {X Y : Type 0} → (Y → X → Y) → Y → List X → Y
fold f a [] = a
fold f a (x ∷ xs) = fold f (f a x) xs

-- f 1 + .. + f n
abbrev pub sum_to : ℕ → (ℕ → ℕ) → ℕ
sum_to zero f = 0
sum_to (suc n) f = sum_to n f + f (suc n)
