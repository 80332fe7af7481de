-- Calls one after another, up to the first that is refused. Assumes nothing.
use Rattle.std.specs.Prelude.{ℕ, zero, suc, ◌+◌, Ok, Err, Result}
use Rattle.fault.specs.declared.Fault.{Fault}
use Rattle.post.specs.Outs.{Out, out}

-- Nothing else happens.
abbrev pub fine : {S : Type 0} → S → Out S (Unit {0})
fine s = out s (Ok tt)

-- Goes on after an answer, or stops at a fault.
abbrev pub go_on : {S R T : Type 0} → Result R Fault → S → (S → R → Out S T) → Out S T
go_on (Ok x) s f = f s x
go_on (Err e) s f = out s (Err e)

unfoldable pub then : {S R T : Type 0} → Out S R → (S → R → Out S T) → Out S T
then m f = go_on m.answer m.state f

-- For n numbers from i on.
unfoldable pub each : {S : Type 0} → ℕ → ℕ → (ℕ → S → Out S (Unit {0})) → S → Out S (Unit {0})
each zero i f s = fine s
each (suc n) i f s = then (f i s) (λ t _. each n (i + 1) f t)
