-- The accounts, the offices and the counts between lots, and what a turn does to them.
use Rattle.std.proofs.Common.{◌≡◌, ℕ, zero, suc, ◌+◌, ◌*◌, ◌<◌, ◌≤◌, List, [], ◌∷◌, length, get_or, refl, ap, ◌∙◌, arith}
use Rattle.rules.specs.Lists.{at, total}
use Rattle.rules.specs.Rules.{Account, Coordinator, Office, Setting, State, account, accounts_after, hear, hearing, lane_of, no_office, office, offices_after, send, state, take_downs, take_ups, turn}

abbrev pub credits : List Account → ℕ
credits ds = total (λ p. p.credit) ds

abbrev pub ups : List Account → ℕ
ups ds = total (λ p. p.up.sent) ds

abbrev pub downs : List Office → ℕ
downs os = total (λ o. o.down.sent) os

-- between lots, at the step j: no lane holds anything
pub data Fit (l : Setting) (j : ℕ) : List Account → List Office → List ℕ → Type 0 where
  none : Fit l j [] [] []
  more : (c q r u v n : ℕ) {ds : List Account} {os : List Office} {ns : List ℕ} → c ≡ q * l.slack j → r < l.slack j → n ≡ c + r →
      Fit l j ds os ns → Fit l j (account c (lane_of [] u) ∷ ds) (office r j (lane_of [] v) ∷ os) (n ∷ ns)

-- (A) takes nothing where nothing waits
pub A-quiet : (l : Setting) (j : ℕ) {ds : List Account} {os : List Office} {ns : List ℕ} → Fit l j ds os ns →
    (h : Coordinator) (to : List Office) → take_ups l h to ds ≡ state h ds to
A-quiet l j none h to = refl
A-quiet l j (more c q r u v n p b a f) h to =
    ap (λ s. state s.coordinator (account c (lane_of [] u) ∷ s.accounts) s.offices) (A-quiet l j f h to)

-- (B) takes nothing where nothing waits
pub B-quiet : (l : Setting) (j : ℕ) {ds : List Account} {os : List Office} {ns : List ℕ} → Fit l j ds os ns →
    (accounts_after l ds os ≡ ds) × (offices_after l ds os ≡ os)
B-quiet l j none = (refl, refl)
B-quiet l j (more c q r u v n p b a f) =
    (ap (λ ds. account c (lane_of [] u) ∷ ds) (B-quiet l j f).0, ap (λ os. office r j (lane_of [] v) ∷ os) (B-quiet l j f).1)

pub take_downs_quiet : (l : Setting) (j : ℕ) {ds : List Account} {os : List Office} {ns : List ℕ} → Fit l j ds os ns →
    (h : Coordinator) → take_downs l (state h ds os) ≡ state h ds os
take_downs_quiet l j {ds} {os} f h = ap (λ x. state h x (offices_after l ds os)) (B-quiet l j f).0 ∙ ap (state h ds) (B-quiet l j f).1

pub turn_quiet : (l : Setting) (j : ℕ) {ds : List Account} {os : List Office} {ns : List ℕ} → Fit l j ds os ns →
    (h : Coordinator) → turn l (state h ds os) ≡ state h ds os
turn_quiet l j {ds} {os} f h =
    ap (take_downs l) (A-quiet l j f h os) ∙ take_downs_quiet l j f h

pub own_at : (l : Setting) (j m : ℕ) {ds : List Account} {os : List Office} {ns : List ℕ} → Fit l j ds os ns → m < length ns → (get_or os m no_office).own_step ≡ j
own_at l j m none i = absurd (omega arith)
own_at l j zero (more c q r u v n p b a f) i = refl
own_at l j (suc m) (more c q r u v n p b a f) i = own_at l j m f (omega arith)

-- a lot that sends no signal
pub count_on : (l : Setting) (j m : ℕ) {ds : List Account} {os : List Office} {ns : List ℕ} → Fit l j ds os ns → m < length ns →
    (get_or os m no_office).remainder + 1 < l.slack (get_or os m no_office).own_step →
    Fit l j ds (at m (λ o. office (o.remainder + 1) o.own_step o.down) os) (at m (λ n. n + 1) ns)
count_on l j m none i t = absurd (omega arith)
count_on l j zero (more c q r u v n p b a f) i t = more c q (r + 1) u v (n + 1) p t (omega arith) f
count_on l j (suc m) (more c q r u v n p b a f) i t = more c q r u v n p b a (count_on l j m f (omega arith) t)

pub downs_on : (m : ℕ) (r : Office → ℕ) (os : List Office) → downs (at m (λ o. office (r o) o.own_step o.down) os) ≡ downs os
downs_on zero r [] = refl
downs_on zero r (o ∷ os) = refl
downs_on (suc m) r [] = refl
downs_on (suc m) r (o ∷ os) = ap (λ n. o.down.sent + n) (downs_on m r os)

-- a lot whose signal is taken
pub record Passed (l : Setting) (j m : ℕ) (ds : List Account) (os : List Office) (ns : List ℕ) : Type 0 where
  pub fit : Fit l j (at m (λ p. account (p.credit + l.slack j) (lane_of [] (p.up.sent + 1))) ds) (at m (λ o. office 0 o.own_step o.down) os) (at m (λ n. n + 1) ns)
  pub credit : credits (at m (λ p. account (p.credit + l.slack j) (lane_of [] (p.up.sent + 1))) ds) ≡ credits ds + l.slack j
  pub sent : ups (at m (λ p. account (p.credit + l.slack j) (lane_of [] (p.up.sent + 1))) ds) ≡ ups ds + 1
  pub remainder : (get_or (at m (λ o. office 0 o.own_step o.down) os) m no_office).remainder ≡ 0

pub pass : (l : Setting) (j m : ℕ) {ds : List Account} {os : List Office} {ns : List ℕ} → Fit l j ds os ns → m < length ns →
    l.slack (get_or os m no_office).own_step ≤ (get_or os m no_office).remainder + 1 → Passed l j m ds os ns
pass l j m none i t = absurd (omega arith)
pass l j zero (more c q r u v n p b a f) i t = record {
  fit = more (c + l.slack j) (q + 1) 0 (u + 1) v (n + 1) (omega arith) (omega arith) (omega arith) f;
  credit = omega arith;
  sent = omega arith;
  remainder = refl;
}
pass l j (suc m) (more c q r u v n p b a f) i t =
    let y : Passed l j m _ _ _ = pass l j m f (omega arith) t in
    record {
      fit = more c q r u v n p b a y.fit;
      credit = omega arith;
      sent = omega arith;
      remainder = y.remainder;
    }

-- (A) where one message waits, at the place m
pub A-one : (l : Setting) (j m x : ℕ) {ds : List Account} {os : List Office} {ns : List ℕ} → Fit l j ds os ns → m < length ns →
    (h : Coordinator) (to : List Office) (h' : Coordinator) (to' : List Office) (g : ℕ) → ((c : ℕ) → hear l (hearing h c to) x ≡ hearing h' (c + g) to') →
    take_ups l h to (at m (λ p. account p.credit (send 1 x p.up)) ds) ≡ state h' (at m (λ p. account (p.credit + g) (lane_of [] (p.up.sent + 1))) ds) to'
A-one l j m x none i h to h' to' g e = absurd (omega arith)
A-one l j zero x (more c q r u v n {ds = ds} p b a f) i h to h' to' g e =
    ap (λ y. let s : State = take_ups l y.coordinator y.offices ds in state s.coordinator (account y.credit (lane_of [] (u + 1)) ∷ s.accounts) s.offices) (e c)
    ∙ ap (λ s. state s.coordinator (account (c + g) (lane_of [] (u + 1)) ∷ s.accounts) s.offices) (A-quiet l j f h' to')
A-one l j (suc m) x (more c q r u v n p b a f) i h to h' to' g e =
    ap (λ s. state s.coordinator (account c (lane_of [] u) ∷ s.accounts) s.offices) (A-one l j m x f (omega arith) h to h' to' g e)
