-- What one accepted lot does, office by office.
use Rattle.std.proofs.Common.{◌≡◌, ℕ, zero, suc, ◌+◌, ◌*◌, ◌/◌, ◌%◌, ◌<◌, ◌≤◌, Bool, true, false, cond, eqb, List, [], ◌∷◌, ◌++◌, length, get_or, sym, refl, ap, ◌∙◌, subst, arith, ne_eqb}
use lib.Dec.{eqb-suc-suc}
use Rattle.rules.proofs.Fit.{Fit, more, none, own_at}
use Rattle.rules.proofs.Lot.{Inv, kept_is, last_is, length_at, next_is, on_is}
use Rattle.rules.proofs.Machine.{Sound, lot, run, two_turns}
use Rattle.rules.specs.Lists.{at, total}
use Rattle.rules.specs.Rules.{Account, Coordinator, Office, Setting, State, account, coordinator_at, counted, lane_of, no_account, no_office, office, quota, state}

abbrev pub one : ℕ → ℕ → ℕ
one n m = cond (eqb n m) 1 0

abbrev pub zeroed : ℕ → ℕ → ℕ → ℕ
zeroed n m x = cond (eqb n m) 0 x

-- f 0 + .. + f (k - 1)
pub below : ℕ → (ℕ → ℕ) → ℕ
below zero f = 0
below (suc m) f = below m f + f m

pub below_zero : (f : ℕ → ℕ) → below 0 f ≡ 0
unfolding below
below_zero f = refl

pub below_suc : (m : ℕ) (f : ℕ → ℕ) → below (suc m) f ≡ below m f + f m
unfolding below
below_suc m f = refl

pub below_same : (k : ℕ) (f g : ℕ → ℕ) → ((n : ℕ) → n < k → f n ≡ g n) → below k f ≡ below k g
unfolding below
below_same zero f g e = refl
below_same (suc k) f g e = omega (arith, below_same k f g (λ n i. e n (omega arith)), e k (omega arith))

pub below_first : (k : ℕ) (f : ℕ → ℕ) → below (suc k) f ≡ f 0 + below k (λ n. f (suc n))
unfolding below
below_first zero f = omega arith
below_first (suc k) f = omega (arith, below_first k f)

pub total_below : {X : Type 0} (f : X → ℕ) (d : X) (xs : List X) (g : ℕ → ℕ) → ((n : ℕ) → n < length xs → f (get_or xs n d) ≡ g n) → total f xs ≡ below (length xs) g
unfolding below
total_below f d [] g e = refl
total_below f d (x ∷ xs) g e = omega (arith, below_first (length xs) g, e 0 (omega arith), total_below f d xs (λ n. g (suc n)) (λ n i. e (suc n) (omega arith)))

pub at_by : {X : Type 0} (m n : ℕ) (f : X → X) (xs : List X) (d : X) → n < length xs → get_or (at m f xs) n d ≡ cond (eqb n m) (f (get_or xs n d)) (get_or xs n d)
at_by m n f [] d i = absurd (omega arith)
at_by zero zero f (x ∷ xs) d i = refl
at_by zero (suc n) f (x ∷ xs) d i = rw (ne_eqb (suc n) 0 (λ e. omega arith)) refl
at_by (suc m) zero f (x ∷ xs) d i = rw (ne_eqb 0 (suc m) (λ e. omega arith)) refl
at_by (suc m) (suc n) f (x ∷ xs) d i = rw (eqb-suc-suc n m) (at_by m n f xs d (omega arith))

pub fit_long : (l : Setting) (j : ℕ) {ds : List Account} {os : List Office} {ns : List ℕ} → Fit l j ds os ns → (length ds ≡ length ns) × (length os ≡ length ns)
fit_long l j none = (refl, refl)
fit_long l j (more c q r u v n p b a f) = let y = fit_long l j f in (ap suc y.0, ap suc y.1)

-- the rows of a state
pub record Rows (k : ℕ) (t : State) (h : Coordinator) (credit remainder up down : ℕ → ℕ) : Type 0 where
  pub coordinator : t.coordinator ≡ h
  pub credits : (n : ℕ) → n < k → (get_or t.accounts n no_account).credit ≡ credit n
  pub remainders : (n : ℕ) → n < k → (get_or t.offices n no_office).remainder ≡ remainder n
  pub ups : (n : ℕ) → n < k → (get_or t.accounts n no_account).up.sent ≡ up n
  pub downs : (n : ℕ) → n < k → (get_or t.offices n no_office).down.sent ≡ down n

module _ (l : Setting) (ok : Sound l) (j s m : ℕ) (ds : List Account) (os : List Office) (ns : List ℕ) (i : Inv l j s true ds os ns) (within : m < l.offices) where
  abbrev before : State
  before = state (coordinator_at j s true) ds os

  abbrev c₀ : ℕ → ℕ
  c₀ n = (get_or ds n no_account).credit

  abbrev r₀ : ℕ → ℕ
  r₀ n = (get_or os n no_office).remainder

  abbrev u₀ : ℕ → ℕ
  u₀ n = (get_or ds n no_account).up.sent

  abbrev v₀ : ℕ → ℕ
  v₀ n = (get_or os n no_office).down.sent

  abbrev Dp : List Account
  Dp = at m (λ p. account (p.credit + l.slack j) (lane_of [] (p.up.sent + 1))) ds

  abbrev Oz : List Office
  Oz = at m (λ o. office 0 o.own_step o.down) os

  in_accounts : (n : ℕ) → n < l.offices → n < length ds
  in_accounts n b = omega (arith, i.size, (fit_long l j i.fit).0)

  in_offices : (n : ℕ) → n < l.offices → n < length os
  in_offices n b = omega (arith, i.size, (fit_long l j i.fit).1)

  pub own_is : (get_or os m no_office).own_step ≡ j
  own_is = own_at l j m i.fit (omega (arith, i.size))

  Dp-credit : (n : ℕ) → n < l.offices → (get_or Dp n no_account).credit ≡ c₀ n + one n m * l.slack j
  Dp-credit n b = ap (λ (p : Account). p.credit) (at_by m n _ ds no_account (in_accounts n b)) ∙ go (eqb n m)
    where
      go : (x : Bool) → (cond x (account (c₀ n + l.slack j) (lane_of [] (u₀ n + 1))) (get_or ds n no_account)).credit ≡ c₀ n + cond x 1 0 * l.slack j
      go true = omega arith
      go false = omega arith

  Dp-up : (n : ℕ) → n < l.offices → (get_or Dp n no_account).up.sent ≡ u₀ n + one n m
  Dp-up n b = ap (λ (p : Account). p.up.sent) (at_by m n _ ds no_account (in_accounts n b)) ∙ go (eqb n m)
    where
      go : (x : Bool) → (cond x (account (c₀ n + l.slack j) (lane_of [] (u₀ n + 1))) (get_or ds n no_account)).up.sent ≡ u₀ n + cond x 1 0
      go true = omega arith
      go false = omega arith

  Oz-remainder : (n : ℕ) → n < l.offices → (get_or Oz n no_office).remainder ≡ zeroed n m (r₀ n)
  Oz-remainder n b = ap (λ (o : Office). o.remainder) (at_by m n _ os no_office (in_offices n b)) ∙ go (eqb n m)
    where
      go : (x : Bool) → (cond x (office 0 (get_or os n no_office).own_step (get_or os n no_office).down) (get_or os n no_office)).remainder ≡ cond x 0 (r₀ n)
      go true = refl
      go false = refl

  at_down : (r : Office → ℕ) (n : ℕ) → n < l.offices → (get_or (at m (λ o. office (r o) o.own_step o.down) os) n no_office).down.sent ≡ v₀ n
  at_down r n b = ap (λ (o : Office). o.down.sent) (at_by m n _ os no_office (in_offices n b)) ∙ go (eqb n m)
    where
      go : (x : Bool) → (cond x (office (r (get_or os n no_office)) (get_or os n no_office).own_step (get_or os n no_office).down) (get_or os n no_office)).down.sent ≡ v₀ n
      go true = refl
      go false = refl

  long⁺ : length (at m (λ n. n + 1) ns) ≡ l.offices
  long⁺ = length_at m (λ n. n + 1) ns ∙ i.size

  pub kept_rows : r₀ m + 1 < l.slack j → Rows l.offices (two_turns l (counted l before m)) (coordinator_at j s true) c₀ (λ n. r₀ n + one n m) u₀ v₀
  kept_rows t =
      let e = kept_is l ok j s m ds os ns i within (omega (arith, ap (λ x. l.slack x) own_is)) in
      subst (λ z. Rows l.offices z (coordinator_at j s true) c₀ (λ n. r₀ n + one n m) u₀ v₀) (sym e) (record {
        coordinator = refl;
        credits = λ n b. refl;
        remainders = λ n b. ap (λ (o : Office). o.remainder) (at_by m n _ os no_office (in_offices n b)) ∙ go n (eqb n m);
        ups = λ n b. refl;
        downs = at_down (λ o. o.remainder + 1);
      })
    where
      go : (n : ℕ) (x : Bool) → (cond x (office (r₀ n + 1) (get_or os n no_office).own_step (get_or os n no_office).down) (get_or os n no_office)).remainder ≡ r₀ n + cond x 1 0
      go n true = refl
      go n false = omega arith

  module _ (t : l.slack j ≤ r₀ m + 1) where
    t' : l.slack (get_or os m no_office).own_step ≤ (get_or os m no_office).remainder + 1
    t' = omega (arith, ap (λ x. l.slack x) own_is)

    abbrev c₁ : ℕ → ℕ
    c₁ n = c₀ n + one n m * l.slack j

    abbrev r₁ : ℕ → ℕ
    r₁ n = zeroed n m (r₀ n)

    abbrev u₁ : ℕ → ℕ
    u₁ n = u₀ n + one n m

    pub on_rows : s + 1 < quota l j → Rows l.offices (two_turns l (counted l before m)) (coordinator_at j (s + 1) true) c₁ r₁ u₁ v₀
    on_rows less =
        subst (λ z. Rows l.offices z (coordinator_at j (s + 1) true) c₁ r₁ u₁ v₀) (sym (on_is l ok j s m ds os ns i within t' less)) (record {
          coordinator = refl;
          credits = Dp-credit;
          remainders = Oz-remainder;
          ups = Dp-up;
          downs = at_down (λ o. 0);
        })

    pub last_rows : quota l j ≤ s + 1 → l.steps ≤ j → Rows l.offices (two_turns l (counted l before m)) (coordinator_at j (s + 1) false) c₁ r₁ u₁ (λ n. v₀ n + 1)
    last_rows done low =
        let y = last_is l ok j s m ds os ns i within t' done low in
        subst (λ z. Rows l.offices z (coordinator_at j (s + 1) false) c₁ r₁ u₁ (λ n. v₀ n + 1)) (sym y.1) (record {
          coordinator = refl;
          credits = Dp-credit;
          remainders = λ n b. ap (λ (o : Office). o.remainder) (y.2 n (omega (arith, long⁺))) ∙ Oz-remainder n b;
          ups = Dp-up;
          downs = λ n b. ap (λ (o : Office). o.down.sent) (y.2 n (omega (arith, long⁺))) ∙ ap (λ x. x + 1) (at_down (λ o. 0) n b);
        })

    abbrev S : ℕ
    S = l.slack (j + 1)

    pub next_rows : quota l j ≤ s + 1 → j < l.steps →
        Rows l.offices (two_turns l (counted l before m)) (coordinator_at (j + 1) (below l.offices (λ n. r₁ n / S)) true) (λ n. c₁ n + r₁ n / S * S) (λ n. r₁ n % S) (λ n. u₁ n + r₁ n / S) (λ n. v₀ n + 1)
    next_rows done left =
        let y = next_is l ok j s m ds os ns i within t' done left in
        let size : length Oz ≡ l.offices = length_at m _ os ∙ ((fit_long l j i.fit).1 ∙ i.size) in
        let sum : 0 + total (λ o. o.remainder / S) Oz ≡ below l.offices (λ n. r₁ n / S) =
        omega (arith, total_below (λ (o : Office). o.remainder / S) no_office Oz (λ n. r₁ n / S) (λ n b. ap (λ x. x / S) (Oz-remainder n (omega arith))), ap (λ k. below k (λ n. r₁ n / S)) size) in
        subst (λ z. Rows l.offices z (coordinator_at (j + 1) (below l.offices (λ n. r₁ n / S)) true) (λ n. c₁ n + r₁ n / S * S) (λ n. r₁ n % S) (λ n. u₁ n + r₁ n / S) (λ n. v₀ n + 1)) (sym y.2) (record {
          coordinator = ap (λ x. coordinator_at (j + 1) x true) sum;
          credits = λ n b. ap (λ (p : Account). p.credit) (y.3 n (omega (arith, long⁺))) ∙ (ap (λ x. x + (get_or Oz n no_office).remainder / S * S) (Dp-credit n b) ∙ ap (λ x. c₁ n + x / S * S) (Oz-remainder n b));
          remainders = λ n b. ap (λ (o : Office). o.remainder) (y.4 n (omega (arith, long⁺))) ∙ ap (λ x. x % S) (Oz-remainder n b);
          ups = λ n b. ap (λ (p : Account). p.up.sent) (y.3 n (omega (arith, long⁺))) ∙ (ap (λ x. x + (get_or Oz n no_office).remainder / S) (Dp-up n b) ∙ ap (λ x. u₁ n + x / S) (Oz-remainder n b));
          downs = λ n b. ap (λ (o : Office). o.down.sent) (y.4 n (omega (arith, long⁺))) ∙ ap (λ x. x + 1) (at_down (λ o. 0) n b);
        })

-- a run with one lot more
pub run_more : (l : Setting) (s : State) (h : List ℕ) (x : ℕ) → run l s (h ++ (x ∷ [])) ≡ lot l (run l s h) x
run_more l s [] x = refl
run_more l s (y ∷ h) x = run_more l (lot l s y) h x

pub remainder_less : (l : Setting) (j m : ℕ) {ds : List Account} {os : List Office} {ns : List ℕ} → Fit l j ds os ns → m < length ns → (get_or os m no_office).remainder < l.slack j
remainder_less l j m none i = absurd (omega arith)
remainder_less l j zero (more c q r u v n p b a f) i = b
remainder_less l j (suc m) (more c q r u v n p b a f) i = remainder_less l j m f (omega arith)
