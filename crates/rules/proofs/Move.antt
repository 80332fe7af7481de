-- What the coordinator hears, and what a start and a close do.
use Rattle.std.proofs.Common.{◌≡◌, ℕ, zero, suc, ◌+◌, ◌-◌, ◌*◌, ◌/◌, ◌%◌, ◌<◌, ◌≤◌, true, false, List, [], ◌∷◌, map, length, get_or, replicate, sym, refl, ap, ◌∙◌, mod-lt, div-add-mod', arith, le-ltb, lt-ltb, eq-eqb}
use Rattle.std.proofs.lemmas.Nat.{div_below}
use lib.ListN.{length-replicate}
use Rattle.rules.proofs.Fit.{Fit, credits, downs, more, none, ups}
use Rattle.rules.specs.Lists.{fold, total}
use Rattle.rules.specs.Rules.{Account, Office, Setting, State, account, accounts_after, close, coordinator_at, divisor, hear, hearing, lane_of, no_account, no_office, office, offices_after, quota, signal, start, state, take_ups, told}

pub hear_on : (l : Setting) (j s c : ℕ) (to : List Office) → s + 1 < quota l j →
    hear l (hearing (coordinator_at j s true) c to) (signal j) ≡ hearing (coordinator_at j (s + 1) true) (c + l.slack j) to
hear_on l j s c to t = rw (eq-eqb (signal j) (signal j) refl, lt-ltb (s + 1) (quota l j) t) refl

pub hear_next : (l : Setting) (j s c : ℕ) (to : List Office) → quota l j ≤ s + 1 → j < l.steps →
    hear l (hearing (coordinator_at j s true) c to) (signal j) ≡ hearing (coordinator_at (j + 1) 0 true) (c + l.slack j) (map (told (start (j + 1))) to)
hear_next l j s c to t b = rw (eq-eqb (signal j) (signal j) refl, le-ltb (s + 1) (quota l j) t, lt-ltb j l.steps b) refl

pub hear_last : (l : Setting) (j s c : ℕ) (to : List Office) → quota l j ≤ s + 1 → l.steps ≤ j →
    hear l (hearing (coordinator_at j s true) c to) (signal j) ≡ hearing (coordinator_at j (s + 1) false) (c + l.slack j) (map (told (close j)) to)
hear_last l j s c to t b = rw (eq-eqb (signal j) (signal j) refl, le-ltb (s + 1) (quota l j) t, le-ltb j l.steps b) refl

hearing_eq : (j s s' c c' : ℕ) (to : List Office) → s ≡ s' → c ≡ c' → hearing (coordinator_at j s true) c to ≡ hearing (coordinator_at j s' true) c' to
hearing_eq j s s' c c' to p q = cc

pub hears : (l : Setting) (j s c x : ℕ) (to : List Office) → s + x < quota l j →
    fold (hear l) (hearing (coordinator_at j s true) c to) (replicate x (signal j)) ≡ hearing (coordinator_at j (s + x) true) (c + x * l.slack j) to
hears l j s c zero to t = hearing_eq j s (s + 0) c (c + 0 * l.slack j) to (omega arith) (omega arith)
hears l j s c (suc x) to t =
    ap (λ a. fold (hear l) a (replicate x (signal j))) (hear_on l j s c to (omega arith))
    ∙ (hears l j (s + 1) (c + l.slack j) x to (omega arith)
    ∙ hearing_eq j (s + 1 + x) (s + suc x) (c + l.slack j + x * l.slack j) (c + suc x * l.slack j) to (omega arith) (omega arith))

-- after a start: x signals of the new step wait on each lane up, t in all
pub data Moved (l : Setting) (j : ℕ) : List Account → List Office → List ℕ → ℕ → Type 0 where
  end : Moved l j [] [] [] 0
  and : (c q r x u v n : ℕ) {ds : List Account} {os : List Office} {ns : List ℕ} {t : ℕ} → c ≡ q * l.slack j → r < l.slack j → n ≡ c + x * l.slack j + r →
      Moved l j ds os ns t → Moved l j (account c (lane_of (replicate x (signal j)) u) ∷ ds) (office r j (lane_of [] v) ∷ os) (n ∷ ns) (x + t)

pub record Heard (l : Setting) (j s t : ℕ) (ds : List Account) (os to : List Office) (ns : List ℕ) : Type 0 where
  pub after : List Account
  pub is : take_ups l (coordinator_at j s true) to ds ≡ state (coordinator_at j (s + t) true) after to
  pub fit : Fit l j after os ns
  pub credit : credits after ≡ credits ds + t * l.slack j
  pub sent : ups after ≡ ups ds
  pub account_at : (n : ℕ) → n < length ns → get_or after n no_account ≡ account ((get_or ds n no_account).credit + length (get_or ds n no_account).up.waiting * l.slack j) (lane_of [] (get_or ds n no_account).up.sent)

state_eq : (j s s' : ℕ) (ds : List Account) (to : List Office) → s ≡ s' → state (coordinator_at j s true) ds to ≡ state (coordinator_at j s' true) ds to
state_eq j s s' ds to p = cc

pub A-bulk : (l : Setting) (j s : ℕ) (to : List Office) {ds : List Account} {os : List Office} {ns : List ℕ} {t : ℕ} → Moved l j ds os ns t → s + t < quota l j →
    Heard l j s t ds os to ns
A-bulk l j s to end i = record {
  after = [];
  is = state_eq j s (s + 0) [] to (omega arith);
  fit = none;
  credit = omega arith;
  sent = refl;
  account_at = λ n i. absurd (omega arith);
}
A-bulk l j s to (and c q r x u v n {ds = ds} {t = t} p b a f) i =
    let y : Heard l j (s + x) t ds _ to _ = A-bulk l j (s + x) to f (omega arith) in
    record {
      after = account (c + x * l.slack j) (lane_of [] u) ∷ y.after;
      is =
          ap (λ y. let z : State = take_ups l y.coordinator y.offices ds in state z.coordinator (account y.credit (lane_of [] u) ∷ z.accounts) z.offices) (hears l j s c x to (omega arith))
          ∙ (ap (λ z. state z.coordinator (account (c + x * l.slack j) (lane_of [] u) ∷ z.accounts) z.offices) y.is
          ∙ state_eq j (s + x + t) (s + (x + t)) (account (c + x * l.slack j) (lane_of [] u) ∷ y.after) to (omega arith));
      fit = more (c + x * l.slack j) (q + x) r u v n (omega arith) b a y.fit;
      credit = omega (arith, y.credit);
      sent = omega (arith, y.sent);
      account_at = elim [ zero ↦ λ i. ap (λ x. account (c + x * l.slack j) (lane_of [] u)) (sym (length-replicate x (signal j))) | suc m ↦ λ i. y.account_at m (omega arith) ];
    }

-- (B) where each office is told to start the step j + 1
abbrev pub begun : Setting → ℕ → List Office → ℕ
begun l j os = total (λ o. o.remainder / l.slack (j + 1)) os

pub record Began (l : Setting) (j : ℕ) (ds : List Account) (os : List Office) (ns : List ℕ) : Type 0 where
  pub started : Moved l (j + 1) (accounts_after l ds (map (told (start (j + 1))) os)) (offices_after l ds (map (told (start (j + 1))) os)) ns (begun l j os)
  pub credit : credits (accounts_after l ds (map (told (start (j + 1))) os)) ≡ credits ds
  pub sent : ups (accounts_after l ds (map (told (start (j + 1))) os)) ≡ ups ds + begun l j os
  pub heard : downs (offices_after l ds (map (told (start (j + 1))) os)) ≡ downs os + length ns
  pub few : begun l j os ≤ length ns * (divisor l (j + 1) - 1)
  pub fewer : (m : ℕ) → m < length ns → (get_or os m no_office).remainder ≡ 0 → begun l j os < length ns * (divisor l (j + 1) - 1)
  pub account_at : (n : ℕ) → n < length ns → get_or (accounts_after l ds (map (told (start (j + 1))) os)) n no_account
      ≡ account (get_or ds n no_account).credit (lane_of (replicate ((get_or os n no_office).remainder / l.slack (j + 1)) (signal (j + 1))) ((get_or ds n no_account).up.sent + (get_or os n no_office).remainder / l.slack (j + 1)))
  pub office_at : (n : ℕ) → n < length ns → get_or (offices_after l ds (map (told (start (j + 1))) os)) n no_office
      ≡ office ((get_or os n no_office).remainder % l.slack (j + 1)) (j + 1) (lane_of [] ((get_or os n no_office).down.sent + 1))

pub B-start : (l : Setting) (j : ℕ) → l.slack j ≡ divisor l (j + 1) * l.slack (j + 1) → 1 ≤ l.slack (j + 1) → 2 ≤ divisor l (j + 1) →
    {ds : List Account} {os : List Office} {ns : List ℕ} → Fit l j ds os ns → Began l j ds os ns
B-start l j rung pos two none = record {
  started = end;
  credit = refl;
  sent = refl;
  heard = refl;
  few = omega arith;
  fewer = λ m i z. absurd (omega arith);
  account_at = λ n i. absurd (omega arith);
  office_at = λ n i. absurd (omega arith);
}
B-start l j rung pos two (more c q r u v n {os = os} {ns = ns} p b a f) =
    let y : Began l j _ os ns = B-start l j rung pos two f in
    let s : ℕ = l.slack (j + 1) in
    let dv : r / s * s + r % s ≡ r = div-add-mod' r s in
    let md : r % s < s = mod-lt r pos in
    let qs : q * l.slack j ≡ q * (divisor l (j + 1) * s) = ap (λ z. q * z) rung in
    let xs : r / s < divisor l (j + 1) = div_below r s (divisor l (j + 1)) pos (omega arith) in
    record {
      started = rw (eq-eqb (start (j + 1)) (start (j + 1)) refl) (and c (q * divisor l (j + 1)) (r % s) (r / s) (u + r / s) (v + 1) n (omega arith) md (omega arith) y.started);
      credit = omega (arith, y.credit);
      sent = rw (eq-eqb (start (j + 1)) (start (j + 1)) refl) (omega (arith, y.sent));
      heard = omega (arith, y.heard);
      few = omega (arith, y.few);
      fewer = elim [ zero ↦ λ i z. omega (arith, y.few) | suc m ↦ λ i z. omega (arith, y.fewer m (omega arith) z) ];
      account_at = elim [ zero ↦ λ i. rw (eq-eqb (start (j + 1)) (start (j + 1)) refl) refl | suc m ↦ λ i. y.account_at m (omega arith) ];
      office_at = elim [ zero ↦ λ i. rw (eq-eqb (start (j + 1)) (start (j + 1)) refl) refl | suc m ↦ λ i. y.office_at m (omega arith) ];
    }
