-- What the invariant says, in the subject's words.
use Rattle.std.proofs.Common.{◌≡◌, ℕ, zero, suc, ◌+◌, ◌-◌, ◌*◌, ◌/◌, ◌%◌, ◌<◌, ◌≤◌, Bool, true, false, ◌⊎◌, List, map, length, get_or, sym, refl, ap, ◌∙◌, subst, inl, inr, ⊎_elim, mul-le-mul_right, mul-le-mul_left, mul-div_cancel, arith}
use native.Mathlib.Nat.{eq_of_mul-eq-mul_left}
use Rattle.std.proofs.lemmas.Nat.{div-mul-add, mod-mul-add, div_below}
use Rattle.std.proofs.lemmas.Bool.{cases_order}
use Rattle.std.proofs.lemmas.List.{ext_get_or}
use lib.ListN.{get_or-map}
use Rattle.rules.proofs.Fit.{Fit, credits, downs, more, none, ups}
use Rattle.rules.proofs.Lot.{Good, Inv, Phase, fit_whole, quota_slack, rung, slack_pos}
use Rattle.rules.proofs.Machine.{Sound, count, counts, ended, whole}
use Rattle.rules.proofs.Run.{count_at, good, total_counts}
use Rattle.rules.specs.Laws.{ClosesAtCeiling, FirstShort, FollowsFromLots, OrderDoesNotMatter, divisors_to, whole_lots}
use Rattle.rules.specs.Lists.{total}
use Rattle.rules.specs.Rules.{Account, Office, Setting, State, coordinator_at, divisor, no_account, no_office, state}
use Rattle.rules.specs.Runs.{books, messages, waits}

fit_waits : (l : Setting) (j : ℕ) {ds : List Account} {os : List Office} {ns : List ℕ} → Fit l j ds os ns →
    total (λ p. length p.up.waiting) ds + total (λ o. length o.down.waiting) os ≡ 0
fit_waits l j none = refl
fit_waits l j (more c q r u v n p b a f) = omega (arith, fit_waits l j f)

pub good_waits : (l : Setting) (s : State) (ns : List ℕ) → Good l s ns → waits s ≡ 0
good_waits l s ns v = fit_waits l s.coordinator.step v.fit

pub nothing_waits : (l : Setting) → Sound l → (h : List ℕ) → waits (ended l h) ≡ 0
nothing_waits l ok h = good_waits l (ended l h) (counts l h) (good l ok h)

-- an office's count, split at the slack of the step
pub record Parts (S c r n : ℕ) : Type 0 where
  pub both : c + r ≡ n
  pub credit : c ≡ S * (n / S)
  pub remainder : r ≡ n % S

parts : (S c q r n : ℕ) → c ≡ q * S → r < S → n ≡ c + r → Parts S c r n
parts S c q r n p b a =
    let z : q * S + r ≡ n = omega arith in
    let y : q ≡ n / S = sym (div-mul-add q S r b) ∙ ap (λ x. x / S) z in
    let x : S * q ≡ S * (n / S) = ap (λ x. S * x) y in
    record {
      both = omega arith;
      credit = omega arith;
      remainder = sym (mod-mul-add q S r b) ∙ ap (λ x. x % S) z;
    }

share : (l : Setting) (j m : ℕ) {ds : List Account} {os : List Office} {ns : List ℕ} → Fit l j ds os ns → m < length ns →
    Parts (l.slack j) (get_or ds m no_account).credit (get_or os m no_office).remainder (get_or ns m 0)
share l j m none i = absurd (omega arith)
share l j zero (more c q r u v n p b a f) i = parts (l.slack j) c q r n p b a
share l j (suc m) (more c q r u v n p b a f) i = share l j m f (omega arith)

pub counts_at : (l : Setting) (h : List ℕ) (i : ℕ) → 1 ≤ i → i ≤ l.offices → get_or (counts l h) (i - 1) 0 ≡ count l h i
counts_at l h i low high = let up : i - 1 + 1 ≡ i = omega arith in count_at l h (i - 1) (omega arith) ∙ ap (count l h) up

pub shares : (l : Setting) → Sound l → (h : List ℕ) (i : ℕ) → 1 ≤ i → i ≤ l.offices →
    Parts (l.slack (ended l h).coordinator.step) (get_or (ended l h).accounts (i - 1) no_account).credit (get_or (ended l h).offices (i - 1) no_office).remainder (count l h i)
shares l ok h i low high =
    let v : Good l (ended l h) (counts l h) = good l ok h in
    let t : State = ended l h in
    subst (Parts (l.slack t.coordinator.step) (get_or t.accounts (i - 1) no_account).credit (get_or t.offices (i - 1) no_office).remainder)
    (counts_at l h i low high)
    (share l t.coordinator.step (i - 1) v.fit (omega (arith, v.size)))

-- the sums
module _ (l : Setting) (ok : Sound l) (j s : ℕ) (ds : List Account) (os : List Office) (ns : List ℕ) where
  open_short : Inv l j s true ds os ns → credits ds + l.offices * l.slack j < l.offices * l.slack 0
  open_short v =
      omega (arith, v.sum, quota_slack l ok j v.low v.high, mul-le-mul_right (l.slack j) v.phase.0, slack_pos l ok j v.high)

  shut_whole : Inv l j s false ds os ns → credits ds + l.offices * l.slack j ≡ l.offices * l.slack 0
  shut_whole v = omega (arith, v.sum, quota_slack l ok j v.low v.high, ap (λ x. x * l.slack j) v.phase.1)

slack_top : (l : Setting) → Sound l → (j : ℕ) → j ≤ l.steps → l.slack j ≤ l.slack 0
slack_top l ok zero i = omega arith
slack_top l ok (suc j) i =
    let up : j + 1 ≡ suc j = omega arith in
    let r : l.slack j ≡ divisor l (suc j) * l.slack (suc j) = rw up at (rung l ok j (omega arith)) in
    omega (arith, slack_top l ok j (omega arith), mul-le-mul_right (l.slack (suc j)) (ok.d_low (suc j) (omega arith) i))

-- a lower slack divides a higher one
divides : (l : Setting) → Sound l → (n j : ℕ) → j + n ≤ l.steps → (f : ℕ) × (l.slack j ≡ f * l.slack (j + n))
divides l ok zero j i = let z : j ≡ j + 0 = omega arith in (1, ap (λ x. l.slack x) z ∙ omega arith)
divides l ok (suc n) j i =
    let y : (f : ℕ) × (l.slack (j + 1) ≡ f * l.slack (j + 1 + n)) = divides l ok n (j + 1) (omega arith) in
    let z : j + 1 + n ≡ j + suc n = omega arith in
    let w : l.slack (j + 1) ≡ y.0 * l.slack (j + suc n) = y.1 ∙ ap (λ x. y.0 * l.slack x) z in
    let x : divisor l (j + 1) * l.slack (j + 1) ≡ divisor l (j + 1) * (y.0 * l.slack (j + suc n)) = ap (λ x. divisor l (j + 1) * x) w in
    (divisor l (j + 1) * y.0, omega (arith, rung l ok j (omega arith)))

-- the whole lower slacks are not much more than the credits
lower_whole : (l : Setting) (j g f : ℕ) → 1 ≤ g → l.slack j ≡ f * g → {ds : List Account} {os : List Office} {ns : List ℕ} → Fit l j ds os ns →
    whole g ns + length ns * g ≤ credits ds + length ns * l.slack j
lower_whole l j g f pos e none = omega arith
lower_whole l j g f pos e (more c q r u v n p b a t) =
    let qs : q * l.slack j ≡ q * (f * g) = ap (λ x. q * x) e in
    let x : n / g < q * f + f = div_below n g (q * f + f) pos (omega arith) in
    omega (arith, mul-le-mul_left g x, lower_whole l j g f pos e t)

remainder_sum : (l : Setting) (j : ℕ) {ds : List Account} {os : List Office} {ns : List ℕ} → Fit l j ds os ns →
    total (λ n. n) ns ≤ credits ds + length ns * (l.slack j - 1)
remainder_sum l j none = omega arith
remainder_sum l j (more c q r u v n p b a f) = omega (arith, remainder_sum l j f)

remainder_sum_nil : (l : Setting) (j m : ℕ) {ds : List Account} {os : List Office} {ns : List ℕ} → Fit l j ds os ns → m < length ns → (get_or os m no_office).remainder ≡ 0 →
    total (λ n. n) ns + (l.slack j - 1) ≤ credits ds + length ns * (l.slack j - 1)
remainder_sum_nil l j m none i z = absurd (omega arith)
remainder_sum_nil l j zero (more c q r u v n p b a f) i z = omega (arith, remainder_sum l j f)
remainder_sum_nil l j (suc m) (more c q r u v n p b a f) i z = omega (arith, remainder_sum_nil l j m f (omega arith) z)

one_less : (k x : ℕ) → 1 ≤ k → (k - 1) * x + x ≡ k * x
one_less zero x i = absurd (omega arith)
one_less (suc k) x i = let z : suc k - 1 ≡ k = omega arith in rw z (omega arith)

-- either way
either : (l : Setting) (j s : ℕ) (b : Bool) (ds : List Account) (os : List Office) (ns : List ℕ) → Inv l j s b ds os ns →
    ((b ≡ true) × Inv l j s true ds os ns) ⊎ ((b ≡ false) × Inv l j s false ds os ns)
either l j s true ds os ns v = inl (refl, v)
either l j s false ds os ns v = inr (refl, v)

-- closing and standing over the list of counts
module _ (l : Setting) (ok : Sound l) (j s : ℕ) (b : Bool) (ds : List Account) (os : List Office) (ns : List ℕ) (v : Inv l j s b ds os ns) where
  abbrev N : ℕ
  N = l.offices * l.slack 0

  abbrev S : ℕ
  S = l.slack j

  fw : whole S ns ≡ credits ds
  fw = fit_whole l j v.fit

  pub short_here : (whole S ns < N - l.offices * S) ⊎ (j ≡ l.steps)
  short_here = ⊎_elim
      (λ o. let y : credits ds + l.offices * S < N = open_short l ok j s ds os ns o.1 in inl (omega (arith, fw)))
      (λ c. inr c.1.phase.0)
      (either l j s b ds os ns v)

  pub signals_are : s ≡ (whole S ns - (N - l.offices * l.slack (j - 1))) / S
  signals_are =
      let top : l.offices * l.slack (j - 1) ≤ N = mul-le-mul_left l.offices (slack_top l ok (j - 1) (omega (arith, v.high))) in
      let y : s * S ≡ whole S ns - (N - l.offices * l.slack (j - 1)) = omega (arith, fw, v.sum) in
      sym (mul-div_cancel s (slack_pos l ok j v.high)) ∙ ap (λ x. x / S) y

  abbrev g : ℕ
  g = l.slack l.steps

  pub closed_whole : b ≡ false → (N - l.offices * g) ≡ whole g ns
  closed_whole e =
      let w : Inv l j s false ds os ns = subst (λ b. Inv l j s b ds os ns) e v in
      let same : j ≡ l.steps = w.phase.0 in
      let y : whole S ns ≡ N - l.offices * S = omega (arith, fw, shut_whole l ok j s ds os ns w) in
      sym (subst (λ x. whole (l.slack x) ns ≡ N - l.offices * l.slack x) same y)

  pub whole_closes : N - l.offices * g ≤ whole g ns → b ≡ false
  whole_closes enough = ⊎_elim
      (λ o.
      let y : credits ds + l.offices * S < N = open_short l ok j s ds os ns o.1 in
      let f : (f : ℕ) × (l.slack j ≡ f * l.slack (j + (l.steps - j))) = divides l ok (l.steps - j) j (omega (arith, v.high)) in
      let z : j + (l.steps - j) ≡ l.steps = omega (arith, v.high) in
      let w : l.slack j ≡ f.0 * g = f.1 ∙ ap (λ x. f.0 * l.slack x) z in
      let x : whole g ns + length ns * g ≤ credits ds + length ns * S = lower_whole l j g f.0 ok.grain w v.fit in
      let kg : length ns * g ≡ l.offices * g = ap (λ x. x * g) v.size in
      let kS : length ns * S ≡ l.offices * S = ap (λ x. x * S) v.size in
      absurd (omega arith))
      (λ c. c.0)
      (either l j s b ds os ns v)

  pub over_by : b ≡ false → total (λ n. n) ns ≤ (N - l.offices * g) + (l.offices - 1) * (g - 1)
  over_by e =
      let w : Inv l j s false ds os ns = subst (λ b. Inv l j s b ds os ns) e v in
      let same : j ≡ l.steps = w.phase.0 in
      let m : (m : ℕ) × (m < l.offices) × ((get_or os m no_office).remainder ≡ 0) = v.nil e in
      let x : total (λ n. n) ns + (S - 1) ≤ credits ds + length ns * (S - 1) = remainder_sum_nil l j m.0 v.fit (omega (arith, v.size)) m.2 in
      let kS : length ns * (S - 1) ≡ l.offices * (S - 1) = ap (λ x. x * (S - 1)) v.size in
      let z : total (λ n. n) ns ≤ (N - l.offices * S) + (l.offices - 1) * (S - 1) =
      omega (arith, shut_whole l ok j s ds os ns w, one_less l.offices (S - 1) ok.k_low) in
      subst (λ x. total (λ n. n) ns ≤ (N - l.offices * l.slack x) + (l.offices - 1) * (l.slack x - 1)) same z

-- closing and standing over a run
module _ (l : Setting) (ok : Sound l) (h : List ℕ) where
  abbrev t : State
  t = ended l h

  v : Good l t (counts l h)
  v = good l ok h

  wo : (s : ℕ) → whole s (counts l h) ≡ whole_lots l (count l h) s
  wo s = total_counts l ok h (λ n. s * (n / s))

  pub closing : ClosesAtCeiling l (count l h) (books t)
  closing =
      let all = v in
      record {
        closed = λ e. omega (arith, closed_whole l ok t.coordinator.step t.coordinator.signals t.coordinator.is_open t.accounts t.offices (counts l h) v e, wo (l.slack l.steps));
        only = λ enough. whole_closes l ok t.coordinator.step t.coordinator.signals t.coordinator.is_open t.accounts t.offices (counts l h) v (omega (arith, wo (l.slack l.steps)));
        little_over = λ e. omega (arith, over_by l ok t.coordinator.step t.coordinator.signals t.coordinator.is_open t.accounts t.offices (counts l h) v e, total_counts l ok h (λ n. n));
      }

  first : FirstShort l (count l h) t.coordinator.step
  first = record {
    from = v.low;
    to = v.high;
    before = λ u low below short. omega (arith, v.past u low below, wo (l.slack u));
    here = ⊎_elim
        (λ y. inl (omega (arith, wo (l.slack t.coordinator.step))))
        inr
        (short_here l ok t.coordinator.step t.coordinator.signals t.coordinator.is_open t.accounts t.offices (counts l h) v);
  }

  pub standing : FollowsFromLots l (count l h) (books t)
  standing = record {
    step = first;
    signals = signals_are l ok t.coordinator.step t.coordinator.signals t.coordinator.is_open t.accounts t.offices (counts l h) v
        ∙ ap (λ w. (w - (l.offices * l.slack 0 - l.offices * l.slack (t.coordinator.step - 1))) / l.slack t.coordinator.step) (wo (l.slack t.coordinator.step));
    messages_open = λ e. (subst (λ b. Phase l b t.coordinator.step t.coordinator.signals (messages t)) e v.phase).1;
    messages_closed = λ e. let y : Phase l false t.coordinator.step t.coordinator.signals (messages t) = subst (λ b. Phase l b t.coordinator.step t.coordinator.signals (messages t)) e v.phase in
        y.2 ∙ ap (λ x. l.offices * divisors_to l x) y.0;
    credits = λ i low high. get_or-map (λ p. p.credit) t.accounts (i - 1) no_account ∙ (shares l ok h i low high).credit;
    remainders = λ i low high. get_or-map (λ o. o.remainder) t.offices (i - 1) no_office ∙ (shares l ok h i low high).remainder;
  }

-- the books are a function of the counts
fit_credits : (l : Setting) (j : ℕ) {ds : List Account} {os : List Office} {ns : List ℕ} → Fit l j ds os ns → map (λ p. p.credit) ds ≡ map (λ n. l.slack j * (n / l.slack j)) ns
fit_credits l j none = refl
fit_credits l j (more c q r u v n p b a f) =
    let x : c ≡ l.slack j * (n / l.slack j) = (parts (l.slack j) c q r n p b a).credit in
    let y = fit_credits l j f in
    cc

fit_remainders : (l : Setting) (j : ℕ) {ds : List Account} {os : List Office} {ns : List ℕ} → Fit l j ds os ns → map (λ o. o.remainder) os ≡ map (λ n. n % l.slack j) ns
fit_remainders l j none = refl
fit_remainders l j (more c q r u v n p b a f) =
    let x : r ≡ n % l.slack j = (parts (l.slack j) c q r n p b a).remainder in
    let y = fit_remainders l j f in
    cc

module _ (l : Setting) (ok : Sound l) (ns : List ℕ) where
  behind : (j s j' s' : ℕ) (b b' : Bool) (ds ds' : List Account) (os os' : List Office) → Inv l j s b ds os ns → Inv l j' s' b' ds' os' ns → j < j' → ⊥
  behind j s j' s' b b' ds ds' os os' v w less = ⊎_elim
      (λ o. omega (arith, open_short l ok j s ds os ns o.1, w.past j v.low less, fit_whole l j v.fit))
      (λ c. omega (arith, c.1.phase.0, w.high))
      (either l j s b ds os ns v)

  same_step : (j s j' s' : ℕ) (b b' : Bool) (ds ds' : List Account) (os os' : List Office) → Inv l j s b ds os ns → Inv l j' s' b' ds' os' ns → j ≡ j'
  same_step j s j' s' b b' ds ds' os os' v w = ⊎_elim (λ e. e)
      (⊎_elim (λ less. absurd (behind j s j' s' b b' ds ds' os os' v w less)) (λ less. absurd (behind j' s' j s b' b ds' ds os' os w v less)))
      (cases_order j j')

  same_signals : (j s s' : ℕ) (b b' : Bool) (ds ds' : List Account) (os os' : List Office) → Inv l j s b ds os ns → Inv l j s' b' ds' os' ns → s ≡ s'
  same_signals j s s' b b' ds ds' os os' v w =
      eq_of_mul-eq-mul_left (l.slack j) (slack_pos l ok j v.high) s s' (omega (arith, v.sum, w.sum, fit_whole l j v.fit, fit_whole l j w.fit))

  same_phase : (j s n n' : ℕ) (b b' : Bool) → Phase l b j s n → Phase l b' j s n' → (b ≡ b') × (n ≡ n')
  same_phase j s n n' true true p q = (refl, omega arith)
  same_phase j s n n' false false p q = (refl, omega arith)
  same_phase j s n n' true false p q = absurd (omega arith)
  same_phase j s n n' false true p q = absurd (omega arith)

  same_books' : (j s s' : ℕ) (b b' : Bool) (ds ds' : List Account) (os os' : List Office) → Inv l j s b ds os ns → Inv l j s' b' ds' os' ns →
      books (state (coordinator_at j s b) ds os) ≡ books (state (coordinator_at j s' b') ds' os')
  same_books' j s s' b b' ds ds' os os' v w =
      let ss : s ≡ s' = same_signals j s s' b b' ds ds' os os' v w in
      let ph = same_phase j s' (ups ds + downs os) (ups ds' + downs os') b b' (subst (λ s. Phase l b j s (ups ds + downs os)) ss v.phase) w.phase in
      let cs : map (λ p. p.credit) ds ≡ map (λ p. p.credit) ds' = fit_credits l j v.fit ∙ sym (fit_credits l j w.fit) in
      let rs : map (λ o. o.remainder) os ≡ map (λ o. o.remainder) os' = fit_remainders l j v.fit ∙ sym (fit_remainders l j w.fit) in
      λ i. record { step = j; signals = ss i; is_open = ph.0 i; messages = ph.1 i; credits = cs i; remainders = rs i }

  pub same_books : (t t' : State) → Good l t ns → Good l t' ns → books t ≡ books t'
  same_books t t' v w =
      let e : t'.coordinator.step ≡ t.coordinator.step = same_step t'.coordinator.step t'.coordinator.signals t.coordinator.step t.coordinator.signals t'.coordinator.is_open t.coordinator.is_open t'.accounts t.accounts t'.offices t.offices w v in
      same_books' t.coordinator.step t.coordinator.signals t'.coordinator.signals t.coordinator.is_open t'.coordinator.is_open t.accounts t'.accounts t.offices t'.offices v
      (subst (λ j. Inv l j t'.coordinator.signals t'.coordinator.is_open t'.accounts t'.offices ns) e w)
      ∙ ap (λ j. books (state (coordinator_at j t'.coordinator.signals t'.coordinator.is_open) t'.accounts t'.offices)) (sym e)

pub same_lots : (l : Setting) → Sound l → (h h' : List ℕ) → OrderDoesNotMatter l (count l h) (count l h') (books (ended l h)) (books (ended l h'))
same_lots l ok h h' =
    let v : Good l (ended l h) (counts l h) = good l ok h in
    let w : Good l (ended l h') (counts l h') = good l ok h' in
    record {
      equal = λ same.
          let e : counts l h' ≡ counts l h = ext_get_or 0 (counts l h') (counts l h) (w.size ∙ sym v.size) (λ m i.
          let n : m < l.offices = omega (arith, w.size) in
          count_at l h' m n ∙ (sym (same (m + 1) (omega arith) (omega arith)) ∙ sym (count_at l h m n))) in
          same_books l ok (counts l h) (ended l h) (ended l h') v (subst (Good l (ended l h')) e w);
      only = λ same i low high.
          let c : (get_or (ended l h).accounts (i - 1) no_account).credit ≡ (get_or (ended l h').accounts (i - 1) no_account).credit =
          sym (get_or-map (λ p. p.credit) (ended l h).accounts (i - 1) no_account) ∙ (ap (λ b. get_or b.credits (i - 1) 0) same ∙ get_or-map (λ p. p.credit) (ended l h').accounts (i - 1) no_account) in
          let r : (get_or (ended l h).offices (i - 1) no_office).remainder ≡ (get_or (ended l h').offices (i - 1) no_office).remainder =
          sym (get_or-map (λ o. o.remainder) (ended l h).offices (i - 1) no_office) ∙ (ap (λ b. get_or b.remainders (i - 1) 0) same ∙ get_or-map (λ o. o.remainder) (ended l h').offices (i - 1) no_office) in
          omega (arith, (shares l ok h i low high).both, (shares l ok h' i low high).both);
    }
