-- A queue's first item taken off, by a move of each other one place down.
use Rattle.std.proofs.Common.{◌≡◌, ℕ, zero, suc, ◌-◌, ◌<◌, ◌≤◌, List, [], ◌∷◌, length, take, drop, sym, ap, ◌∙◌, arith}
use Rattle.std.proofs.lemmas.List.{take-take}
use Rattle.queue.specs.Queues.{rest}

rest_of : {T : Type 0} (xs : List T) (n : ℕ) → 0 < n → n ≤ length xs → take (n - 1) (drop 1 xs) ≡ rest (take n xs)
rest_of xs zero some fits = absurd (omega arith)
rest_of [] (suc n) some fits = absurd (omega arith)
rest_of (x ∷ xs) (suc n) some fits = let less : suc n - 1 ≡ n = omega arith in ap (λ m. take m xs) less

pub rest_by : {T : Type 0} (old new : List T) (n : ℕ) → 0 < n → n ≤ 16 → length old ≡ 16 → take 15 new ≡ take 15 (drop 1 old) → take (n - 1) new ≡ rest (take n old)
rest_by old new n some fits wide same =
    sym (take-take (n - 1) 15 new (omega arith)) ∙ ap (take (n - 1)) same ∙ take-take (n - 1) 15 (drop 1 old) (omega arith) ∙ rest_of old n some (omega arith)
