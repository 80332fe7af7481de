-- What is known of a writer's bytes after several writes, and once they are flushed.
use Rattle.std.proofs.Common.{ℕ, List, Some, None, Ok, Err, Option, Result, ap, ◌∙◌, ◌++◌, append_assoc}
use Rattle.std.specs.Result.{OnOk}
use Rattle.std.specs.Io.KnownBytes.{Appends, Keeps}

pub on_ok : {T E P : Type 0} (r : Result T E) → P → OnOk r P
on_ok (Ok x) p = p
on_ok (Err e) p = tt

pub appends_kept : (a b c : Option (List ℕ)) (bs : List ℕ) → Appends a b bs → Keeps b c → Appends a c bs
appends_kept None b c bs p k = tt
appends_kept (Some x) None c bs p k = absurd p
appends_kept (Some x) (Some y) None bs p k = absurd k
appends_kept (Some x) (Some y) (Some z) bs p k = k ∙ p

pub appends_then : (a b c : Option (List ℕ)) (bs cs : List ℕ) → Appends a b bs → Appends b c cs → Appends a c (bs ++ cs)
appends_then None b c bs cs p q = tt
appends_then (Some x) None c bs cs p q = absurd p
appends_then (Some x) (Some y) None bs cs p q = absurd q
appends_then (Some x) (Some y) (Some z) bs cs p q = q ∙ ap (λ l. l ++ cs) p ∙ append_assoc x bs cs
