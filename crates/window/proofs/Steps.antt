-- The steps of programs. Assumes nothing.
use Rattle.std.proofs.Common.{◌≡◌, ℕ, suc, ◌+◌, ◌-◌, ◌<◌, ◌≤◌, IsErrAnd, Ok, Err, Result, sym, refl, ap, ◌∙◌, arith}
use Rattle.fault.specs.declared.Fault.{Fault}
use Rattle.std.proofs.lemmas.Result.{err_from_is_err_and}
use Rattle.post.specs.Outs.{Out, out}
use Rattle.window.specs.Sequences.{fine, go_on, then, each}

-- a part that answered: what follows runs from its state
pub went : {S R T : Type 0} {s : S} {r : Result R Fault} {m : Out S R} {x : R} (f : S → R → Out S T) → out s r ≡ m → r ≡ Ok x → then m f ≡ f s x
unfolding then
went {s} f e ok = ap (λ m. then m f) (sym e) ∙ ap (λ r. go_on r s f) ok

-- a part that stopped
pub broke : {S R T : Type 0} {s : S} {r : Result R Fault} {m : Out S R} {x : Fault} (f : S → R → Out S T) → out s r ≡ m → r ≡ Err x → then m f ≡ out s (Err x)
unfolding then
broke {s} f e err = ap (λ m. then m f) (sym e) ∙ ap (λ r. go_on r s f) err

each_suc : {S : Type 0} (f : ℕ → S → Out S (Unit {0})) (k i : ℕ) (s : S) → i < k → each (k - i) i f s ≡ then (f i s) (λ t _. each (k - (i + 1)) (i + 1) f t)
unfolding each
each_suc f k i s less = let e : k - i ≡ suc (k - (i + 1)) = omega arith in ap (λ n. each n i f s) e

pub each_more : {S : Type 0} (f : ℕ → S → Out S (Unit {0})) (k i : ℕ) {s t : S} {r : Result (Unit {0}) Fault} {x : Unit {0}} → i < k → out t r ≡ f i s → r ≡ Ok x → each (k - (i + 1)) (i + 1) f t ≡ each (k - i) i f s
each_more f k i {s} less e ok = sym (each_suc f k i s less ∙ went _ e ok)

pub each_broke : {S : Type 0} (f : ℕ → S → Out S (Unit {0})) (k i : ℕ) {s t : S} {r : Result (Unit {0}) Fault} {x : Fault} → i < k → out t r ≡ f i s → r ≡ Err x → out t (Err x) ≡ each (k - i) i f s
each_broke f k i {s} less e err = sym (each_suc f k i s less ∙ broke _ e err)

pub each_done : {S : Type 0} (f : ℕ → S → Out S (Unit {0})) (k i : ℕ) (s : S) → k ≤ i → fine s ≡ each (k - i) i f s
unfolding each
each_done f k i s more = let e : 0 ≡ k - i = omega arith in ap (λ n. each n i f s) e

-- one part alone
passes : {S : Type 0} (s : S) (r : Result (Unit {0}) Fault) → go_on r s (λ t _. fine t) ≡ out s r
passes s (Ok u) = refl
passes s (Err e) = refl

pub each_one : {S : Type 0} (f : ℕ → S → Out S (Unit {0})) (s : S) → each 1 0 f s ≡ f 0 s
unfolding each then
each_one f s = passes (f 0 s).state (f 0 s).answer

-- what `?` returns is the fault as it came
pub passed : {S T : Type 0} {s : S} {q : Result T Fault} {e : Fault} {m : Out S T} → IsErrAnd q (λ y. y ≡ e) → out s (Err e) ≡ m → out s q ≡ m
passed {s} {q} by eq = let p = err_from_is_err_and q by in ap (out s) (p.1 ∙ ap Err p.2) ∙ eq
