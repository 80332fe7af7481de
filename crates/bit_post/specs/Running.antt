-- How many puts sends make, and how lists of outcomes join: lemmas that an impl cites, proved and nothing to believe.
use Rattle.std.specs.Prelude.{◌≡◌, ℕ, suc, ◌+◌, ◌*◌, ◌≤◌, Bool, true, false, List, [], ◌∷◌, ◌++◌, length, refl}
use Rattle.std.proofs.Common.{sym, subst, ◌∙◌, append_assoc, arith, length-append}
use Rattle.std.proofs.lemmas.List.{append-nil}
use Rattle.wire.specs.Wires.{Outcome, once, lost, twice, arrivals, costs}
use Rattle.bit_post.specs.Sends.{Attempt, attempt, Send, done, again, Sends, none, more, any_arrives, PutsWithin}
use Rattle.bit_post.specs.Sending.{Failing, start, fail}

pub costs_append : (xs ys : List Outcome) → costs (xs ++ ys) ≡ costs xs + costs ys
costs_append [] ys = omega arith
costs_append (x ∷ xs) ys = omega (arith, costs_append xs ys)

all_lost : (os : List Outcome) → any_arrives os ≡ false → costs os ≡ length os
all_lost [] e = refl
all_lost (once ∷ os) e = let z : ◌≡◌ {A = ℕ} 0 1 = cc in absurd (omega arith)
all_lost (lost ∷ os) e = omega (arith, all_lost os e)
all_lost (twice ∷ os) e = let z : ◌≡◌ {A = ℕ} 0 1 = cc in absurd (omega arith)

some_come : (os : List Outcome) → any_arrives os ≡ true → 1 ≤ length os
some_come [] e = let z : ◌≡◌ {A = ℕ} 0 1 = cc in absurd (omega arith)
some_come (o ∷ os) e = omega arith

failed : (o : Outcome) (os : List Outcome) → length os ≡ arrivals o → any_arrives os ≡ false → (1 ≤ costs (o ∷ os)) × (length (o ∷ os) ≤ 2 * costs (o ∷ os))
failed once os n e = let l = all_lost os e in (omega arith, omega arith)
failed lost os n e = let l = all_lost os e in (omega arith, omega arith)
failed twice os n e = let l = all_lost os e in (omega arith, omega arith)

worked : (o : Outcome) (os : List Outcome) → length os ≡ arrivals o → any_arrives os ≡ true → PutsWithin 1 (o ∷ os)
worked once os n e = let l = some_come os e in record { least = omega arith; most = omega arith }
worked lost os n e = let l = some_come os e in absurd (omega arith)
worked twice os n e = let l = some_come os e in record { least = omega arith; most = omega arith }

-- a failed attempt costs troubles, and few puts for them
pub attempt_fails : {r : Bool} {xs : List Outcome} → Attempt r xs → r ≡ false → (1 ≤ costs xs) × (length xs ≤ 2 * costs xs)
attempt_fails (attempt r o acks n is) e = failed o acks n (sym is ∙ e)

pub attempt_works : {r : Bool} {xs : List Outcome} → Attempt r xs → r ≡ true → PutsWithin 1 xs
attempt_works (attempt r o acks n is) e = worked o acks n (sym is ∙ e)

pub failing_few : {xs : List Outcome} → Failing xs → length xs ≤ 2 * costs xs
failing_few start = omega arith
failing_few (fail xs ys f a) = omega (arith, failing_few f, (attempt_fails a refl).1, length-append xs ys, costs_append xs ys)

pub send_between : {xs : List Outcome} → Send xs → PutsWithin 1 xs
send_between (done xs a) = attempt_works a refl
send_between (again xs ys a s) =
    let h = send_between s in
    record {
      least = omega (arith, h.least, length-append xs ys);
      most = omega (arith, h.most, (attempt_fails a refl).1, length-append xs ys, costs_append xs ys);
    }

-- n sends take from 2n puts to as many and twice the troubles
pub sends_between : {n : ℕ} {xs : List Outcome} → Sends n xs → PutsWithin n xs
sends_between none = record { least = omega arith; most = omega arith }
sends_between (more n xs ys s r) =
    let h = send_between s in
    let k = sends_between r in
    record {
      least = omega (arith, h.least, k.least, length-append xs ys);
      most = omega (arith, h.most, k.most, length-append xs ys, costs_append xs ys);
    }

-- attempts that failed, and then a send
pub finish : {xs : List Outcome} → Failing xs → (zs : List Outcome) → Send zs → Send (xs ++ zs)
finish start zs s = s
finish (fail xs ys f a) zs s = subst Send (sym (append_assoc xs ys zs)) (finish f (ys ++ zs) (again ys zs a s))

pub sends_append : {n : ℕ} {xs : List Outcome} → Sends n xs → (m : ℕ) (ys : List Outcome) → Sends m ys → Sends (n + m) (xs ++ ys)
sends_append none m ys r = subst (λ k. Sends k ys) (omega arith) r
sends_append (more n xs ys s q) m zs r =
    let whole : Sends (suc (n + m)) (xs ++ (ys ++ zs)) = more (n + m) xs (ys ++ zs) s (sends_append q m zs r) in
    subst (λ k. Sends k ((xs ++ ys) ++ zs)) (omega arith) (subst (Sends (suc (n + m))) (sym (append_assoc xs ys zs)) whole)

pub one_send : (xs : List Outcome) → Send xs → Sends 1 xs
one_send xs s = subst (Sends 1) (append-nil xs) (more 0 xs [] s none)
