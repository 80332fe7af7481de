-- No part of a turn takes a message that it does not expect. Assumes nothing.
use Rattle.std.proofs.Common.{◌≡◌, ℕ, zero, suc, ◌+◌, ◌<◌, true, List, map, replicate, sym, refl, ap, ◌∙◌, subst, inl, inr, arith}
use Rattle.rules.specs.Expected.{ExpectedUp, ExpectedUps, ExpectedDowns, ExpectedTurn}
use Rattle.rules.specs.Lists.{at}
use Rattle.rules.specs.Rules.{Account, Coordinator, Hearing, Office, Setting, State, account, close, coordinator_at, hearing, quota, send, signal, start, state, take_downs, take_ups, told, turn}
use Rattle.rules.proofs.Fit.{Fit, none, more, A-quiet}
use Rattle.rules.proofs.Move.{Moved, end, and, hear_on, hears}

-- where nothing waits
pub ups_quiet : (l : Setting) (j : ℕ) {ds : List Account} {os : List Office} {ns : List ℕ} → Fit l j ds os ns → (c : Coordinator) (to : List Office) → ExpectedUps l c to ds
ups_quiet l j none c to = tt
ups_quiet l j (more _ q r u v n p b a f) c to = (tt, ups_quiet l j f c to)

pub downs_quiet : (l : Setting) (j : ℕ) {ds : List Account} {os : List Office} {ns : List ℕ} → Fit l j ds os ns → ExpectedDowns l ds os
downs_quiet l j none = tt
downs_quiet l j (more c q r u v n p b a f) = (tt, downs_quiet l j f)

pub turn_expected : (l : Setting) (j : ℕ) {ds : List Account} {os : List Office} {ns : List ℕ} → Fit l j ds os ns → (c : Coordinator) → ExpectedTurn l (state c ds os)
turn_expected l j {ds} {os} f c =
    (ups_quiet l j f c os, subst (λ (t : State). ExpectedDowns l t.accounts t.offices) (sym (A-quiet l j f c os)) (downs_quiet l j f))

-- one signal, at the place m
pub ups_one : (l : Setting) (j s m : ℕ) {ds : List Account} {os : List Office} {ns : List ℕ} → Fit l j ds os ns → (to : List Office) →
    ExpectedUps l (coordinator_at j s true) to (at m (λ p. account p.credit (send 1 (signal j) p.up)) ds)
ups_one l j s zero none to = tt
ups_one l j s (suc m) none to = tt
ups_one l j s zero (more c q r u v n p b a f) to = ((refl, refl, tt), ups_quiet l j f _ _)
ups_one l j s (suc m) (more c q r u v n p b a f) to = (tt, ups_one l j s m f to)

-- the signals after a start
up_all : (l : Setting) (j s c x : ℕ) (to : List Office) → s + x < quota l j → ExpectedUp l (hearing (coordinator_at j s true) c to) (replicate x (signal j))
up_all l j s c zero to t = tt
up_all l j s c (suc x) to t =
    (refl, refl, subst (λ (h : Hearing). ExpectedUp l h (replicate x (signal j))) (sym (hear_on l j s c to (omega arith))) (up_all l j (s + 1) (c + l.slack j) x to (omega arith)))

pub ups_bulk : (l : Setting) (j s : ℕ) (to : List Office) {ds : List Account} {os : List Office} {ns : List ℕ} {t : ℕ} → Moved l j ds os ns t → s + t < quota l j →
    ExpectedUps l (coordinator_at j s true) to ds
ups_bulk l j s to end i = tt
ups_bulk l j s to (and c q r x u v n {ds = ds} p b a f) i = (
  up_all l j s c x to (omega arith),
  subst (λ (h : Hearing). ExpectedUps l h.coordinator h.offices ds) (sym (hears l j s c x to (omega arith))) (ups_bulk l j (s + x) to f (omega arith)),
)

-- all offices are told of the start of the next step, or of the close
pub downs_start : (l : Setting) (j : ℕ) {ds : List Account} {os : List Office} {ns : List ℕ} → Fit l j ds os ns → ExpectedDowns l ds (map (told (start (j + 1))) os)
downs_start l j none = tt
downs_start l j (more c q r u v n p b a f) = ((inl refl, tt), downs_start l j f)

pub downs_close : (l : Setting) (j : ℕ) → j ≡ l.steps → {ds : List Account} {os : List Office} {ns : List ℕ} → Fit l j ds os ns → ExpectedDowns l ds (map (told (close j)) os)
downs_close l j e none = tt
downs_close l j e (more c q r u v n p b a f) = ((inr (ap close e, e), tt), downs_close l j e f)

-- the two turns of a lot
pub record Expects (l : Setting) (s : State) : Type 0 where
  pub first : ExpectedTurn l s
  pub second : ExpectedTurn l (turn l s)

pub expects_by : (l : Setting) (s t : State) (c : Coordinator) (ds : List Account) (to : List Office) (u : State) → s ≡ t → take_ups l t.coordinator t.offices t.accounts ≡ state c ds to →
    ExpectedUps l t.coordinator t.offices t.accounts → ExpectedDowns l ds to → take_downs l (state c ds to) ≡ u → ExpectedTurn l u → Expects l s
expects_by l s t c ds to u is ups expected-ups expected-downs downs later =
    subst (Expects l) (sym is) (record {
      first = (expected-ups, subst (λ (t : State). ExpectedDowns l t.accounts t.offices) (sym ups) expected-downs);
      second = subst (ExpectedTurn l) (sym (ap (take_downs l) ups ∙ downs)) later;
    })
