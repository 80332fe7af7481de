-- One lot keeps the invariant.
use Rattle.std.proofs.Common.{◌≡◌, ℕ, zero, suc, ◌+◌, ◌-◌, ◌*◌, ◌/◌, ◌%◌, ◌<◌, ◌≤◌, Bool, true, false, eqb, List, [], ◌∷◌, map, length, get_or, sym, refl, ap, ◌∙◌, subst, ⊎_elim, mul-le-mul, mul-le-mul_left, div-mul-le_self, arith, le-ltb, lt-ltb, ne_eqb}
use native.Mathlib.Nat.{div-zero}
use Rattle.std.proofs.lemmas.Nat.{div-mul-add, le-div}
use Rattle.std.proofs.lemmas.Bool.{cases_lt, true≢false}
use lib.ListN.{length-replicate}
use Rattle.rules.proofs.Expecting.{Expects, downs_close, downs_quiet, downs_start, expects_by, turn_expected, ups_bulk, ups_one, ups_quiet}
use Rattle.rules.specs.Expected.{ExpectedDowns, ExpectedUps}
use Rattle.rules.proofs.Fit.{A-one, A-quiet, Fit, Passed, count_on, credits, downs, downs_on, more, none, own_at, pass, take_downs_quiet, turn_quiet, ups}
use Rattle.rules.proofs.Machine.{Sound, two_turns, whole}
use Rattle.rules.proofs.Move.{A-bulk, B-start, Began, Heard, begun, hear_last, hear_next, hear_on}
use Rattle.rules.specs.Laws.{divisors_to}
use Rattle.rules.specs.Lists.{at}
use Rattle.rules.specs.Rules.{Account, Coordinator, Office, Setting, State, account, accounts_after, close, coordinator_at, counted, divisor, hear, hearing, lane_of, no_account, no_office, office, offices_after, quota, send, signal, start, state, take_downs, take_ups, told, turn}

-- (B) where each office is told of the close
pub record Shut (l : Setting) (j : ℕ) (ds : List Account) (os : List Office) (ns : List ℕ) : Type 0 where
  pub same : accounts_after l ds (map (told (close j)) os) ≡ ds
  pub fit : Fit l j ds (offices_after l ds (map (told (close j)) os)) ns
  pub heard : downs (offices_after l ds (map (told (close j)) os)) ≡ downs os + length ns
  pub remainder : (m : ℕ) → (get_or (offices_after l ds (map (told (close j)) os)) m no_office).remainder ≡ (get_or os m no_office).remainder
  pub office_at : (n : ℕ) → n < length ns → get_or (offices_after l ds (map (told (close j)) os)) n no_office ≡ office (get_or os n no_office).remainder j (lane_of [] ((get_or os n no_office).down.sent + 1))

pub B-close : (l : Setting) (j : ℕ) {ds : List Account} {os : List Office} {ns : List ℕ} → Fit l j ds os ns → Shut l j ds os ns
B-close l j none = record { same = refl; fit = none; heard = refl; remainder = λ m. refl; office_at = λ n i. absurd (omega arith) }
B-close l j (more c q r u v n {ds = ds} {os = os} {ns = ns} p b a f) =
    let y : Shut l j ds os ns = B-close l j f in
    let ne : eqb (close j) (start (j + 1)) ≡ false = ne_eqb (close j) (start (j + 1)) (λ e. omega arith) in
    record {
      same = rw ne (ap (λ ds. account c (lane_of [] u) ∷ ds) y.same);
      fit = rw ne (more c q r u (v + 1) n p b a y.fit);
      heard = omega (arith, y.heard);
      remainder = elim [ zero ↦ rw ne refl | suc m ↦ y.remainder m ];
      office_at = elim [ zero ↦ λ i. rw ne refl | suc m ↦ λ i. y.office_at m (omega arith) ];
    }

-- the ladder
pub rung : (l : Setting) → Sound l → (j : ℕ) → j < l.steps → l.slack j ≡ divisor l (j + 1) * l.slack (j + 1)
rung l ok j i = let z : j ≡ j + 1 - 1 = omega arith in ap (λ x. l.slack x) z ∙ ok.rung (j + 1) (omega arith) (omega arith)

slack_pos' : (l : Setting) → Sound l → (n j : ℕ) → j + n ≡ l.steps → 1 ≤ l.slack j
slack_pos' l ok zero j e = let z : l.steps ≡ j = omega arith in rw z at ok.grain
slack_pos' l ok (suc n) j e =
    omega (arith, rung l ok j (omega arith), mul-le-mul (ok.d_low (j + 1) (omega arith) (omega arith)) (slack_pos' l ok n (j + 1) (omega arith)))

pub slack_pos : (l : Setting) → Sound l → (j : ℕ) → j ≤ l.steps → 1 ≤ l.slack j
slack_pos l ok j i = slack_pos' l ok (l.steps - j) j (omega arith)

pub divisors_step : (l : Setting) (j : ℕ) → 1 ≤ j → divisors_to l j ≡ divisors_to l (j - 1) + divisor l j
divisors_step l zero i = absurd (omega arith)
divisors_step l (suc j) i = let z : j ≡ suc j - 1 = omega arith in ap (λ x. divisors_to l x + divisor l (suc j)) z

-- k (d - 1) and k are k d
pub quota_k : (l : Setting) → Sound l → (j : ℕ) → 1 ≤ j → j ≤ l.steps → quota l j + l.offices ≡ l.offices * divisor l j
quota_k l ok j low high = go (divisor l j) (ok.d_low j low high)
  where
    go : (d : ℕ) → 2 ≤ d → l.offices * (d - 1) + l.offices ≡ l.offices * d
    go zero i = absurd (omega arith)
    go (suc d) i = let z : suc d - 1 ≡ d = omega arith in rw z (omega arith)

pub quota_slack : (l : Setting) → Sound l → (j : ℕ) → 1 ≤ j → j ≤ l.steps → quota l j * l.slack j + l.offices * l.slack j ≡ l.offices * l.slack (j - 1)
quota_slack l ok j low high =
    let a : (quota l j + l.offices) * l.slack j ≡ l.offices * divisor l j * l.slack j = ap (λ x. x * l.slack j) (quota_k l ok j low high) in
    let b : l.offices * l.slack (j - 1) ≡ l.offices * (divisor l j * l.slack j) = ap (λ x. l.offices * x) (ok.rung j low high) in
    omega arith

-- whole
pub whole_up : (s m : ℕ) (ns : List ℕ) → whole s ns ≤ whole s (at m (λ n. n + 1) ns)
whole_up s zero [] = omega arith
whole_up s zero (n ∷ ns) = omega (arith, mul-le-mul_left s (more_div s))
  where
    more_div : (s : ℕ) → n / s ≤ (n + 1) / s
    more_div zero = omega (arith, div-zero n, div-zero (n + 1))
    more_div (suc s) = le-div (n / suc s) (n + 1) (suc s) (omega arith) (omega (arith, div-mul-le_self n (suc s)))
whole_up s (suc m) [] = omega arith
whole_up s (suc m) (n ∷ ns) = omega (arith, whole_up s m ns)

pub fit_whole : (l : Setting) (j : ℕ) {ds : List Account} {os : List Office} {ns : List ℕ} → Fit l j ds os ns → whole (l.slack j) ns ≡ credits ds
fit_whole l j none = refl
fit_whole l j (more c q r u v n p b a f) =
    let z : n ≡ q * l.slack j + r = omega arith in
    let y : n / l.slack j ≡ q = ap (λ x. x / l.slack j) z ∙ div-mul-add q (l.slack j) r b in
    let x : l.slack j * (n / l.slack j) ≡ l.slack j * q = ap (λ x. l.slack j * x) y in
    omega (arith, fit_whole l j f)

pub length_at : {X : Type 0} (m : ℕ) (f : X → X) (xs : List X) → length (at m f xs) ≡ length xs
length_at zero f [] = refl
length_at zero f (x ∷ xs) = refl
length_at (suc m) f [] = refl
length_at (suc m) f (x ∷ xs) = ap suc (length_at m f xs)

-- the invariant
abbrev pub Phase : Setting → Bool → ℕ → ℕ → ℕ → Type 0
Phase l true j s n = (s < quota l j) × (n ≡ l.offices * divisors_to l (j - 1) + s)
Phase l false j s n = (j ≡ l.steps) × (s ≡ quota l j) × (n ≡ l.offices * divisors_to l j)

pub record Inv (l : Setting) (j s : ℕ) (b : Bool) (ds : List Account) (os : List Office) (ns : List ℕ) : Type 0 where
  pub size : length ns ≡ l.offices
  pub low : 1 ≤ j
  pub high : j ≤ l.steps
  pub fit : Fit l j ds os ns
  pub sum : credits ds + l.offices * l.slack (j - 1) ≡ l.offices * l.slack 0 + s * l.slack j
  pub phase : Phase l b j s (ups ds + downs os)
  pub past : (t : ℕ) → 1 ≤ t → t < j → l.offices * l.slack 0 ≤ whole (l.slack t) ns + l.offices * l.slack t
  pub nil : b ≡ false → (m : ℕ) × (m < l.offices) × ((get_or os m no_office).remainder ≡ 0)

abbrev pub Good : Setting → State → List ℕ → Type 0
Good l s ns = Inv l s.coordinator.step s.coordinator.signals s.coordinator.is_open s.accounts s.offices ns

module _ (l : Setting) (ok : Sound l) (j s m : ℕ) (ds : List Account) (os : List Office) (ns : List ℕ) (i : Inv l j s true ds os ns) (within : m < l.offices) where
  abbrev now : State
  now = state (coordinator_at j s true) ds os

  abbrev os⁺ : List Office
  os⁺ = at m (λ o. office (o.remainder + 1) o.own_step o.down) os

  abbrev os⁰ : List Office
  os⁰ = at m (λ o. office 0 o.own_step o.down) os

  abbrev ds⁺ : List Account
  ds⁺ = at m (λ p. account (p.credit + l.slack j) (lane_of [] (p.up.sent + 1))) ds

  abbrev ns⁺ : List ℕ
  ns⁺ = at m (λ n. n + 1) ns

  past⁺ : (t : ℕ) → 1 ≤ t → t < j → l.offices * l.slack 0 ≤ whole (l.slack t) ns⁺ + l.offices * l.slack t
  past⁺ t a b = omega (arith, i.past t a b, whole_up (l.slack t) m ns)

  size⁺ : length ns⁺ ≡ l.offices
  size⁺ = length_at m (λ n. n + 1) ns ∙ i.size

  -- what the lot comes to
  pub kept_is : (get_or os m no_office).remainder + 1 < l.slack (get_or os m no_office).own_step → two_turns l (counted l now m) ≡ state (coordinator_at j s true) ds os⁺
  kept_is t =
      let f : Fit l j ds os⁺ ns⁺ = count_on l j m i.fit (omega (arith, i.size)) t in
      rw (lt-ltb ((get_or os m no_office).remainder + 1) (l.slack (get_or os m no_office).own_step) t) (ap (turn l) (turn_quiet l j f (coordinator_at j s true)) ∙ turn_quiet l j f (coordinator_at j s true))

  -- no signal
  kept : (get_or os m no_office).remainder + 1 < l.slack (get_or os m no_office).own_step → Good l (two_turns l (counted l now m)) ns⁺
  kept t =
      let f : Fit l j ds os⁺ ns⁺ = count_on l j m i.fit (omega (arith, i.size)) t in
      let e : two_turns l (counted l now m) ≡ state (coordinator_at j s true) ds os⁺ =
      rw (lt-ltb ((get_or os m no_office).remainder + 1) (l.slack (get_or os m no_office).own_step) t) (ap (turn l) (turn_quiet l j f (coordinator_at j s true)) ∙ turn_quiet l j f (coordinator_at j s true)) in
      let w : downs os⁺ ≡ downs os = downs_on m (λ o. o.remainder + 1) os in
      subst (λ z. Good l z ns⁺) (sym e) (record {
        size = size⁺;
        low = i.low;
        high = i.high;
        fit = f;
        sum = i.sum;
        phase = (i.phase.0, omega (arith, i.phase.1));
        past = past⁺;
        nil = λ no_way. absurd (true≢false no_way);
      })

  kept_expects : (get_or os m no_office).remainder + 1 < l.slack (get_or os m no_office).own_step → Expects l (counted l now m)
  kept_expects t =
      let f : Fit l j ds os⁺ ns⁺ = count_on l j m i.fit (omega (arith, i.size)) t in
      let c : Coordinator = coordinator_at j s true in
      expects_by l (counted l now m) (state c ds os⁺) c ds os⁺ (state c ds os⁺)
      (rw (lt-ltb ((get_or os m no_office).remainder + 1) (l.slack (get_or os m no_office).own_step) t) refl)
      (A-quiet l j f c os⁺) (ups_quiet l j f c os⁺) (downs_quiet l j f) (take_downs_quiet l j f c) (turn_expected l j f c)

  module _ (t : l.slack (get_or os m no_office).own_step ≤ (get_or os m no_office).remainder + 1) where
    p : Passed l j m ds os ns
    p = pass l j m i.fit (omega (arith, i.size)) t

    downs⁰ : downs os⁰ ≡ downs os
    downs⁰ = downs_on m (λ o. 0) os

    sent⁺ : counted l now m ≡ state (coordinator_at j s true) (at m (λ p. account p.credit (send 1 (signal j) p.up)) ds) os⁰
    sent⁺ = rw (le-ltb ((get_or os m no_office).remainder + 1) (l.slack (get_or os m no_office).own_step) t)
        (ap (λ x. state (coordinator_at j s true) (at m (λ p. account p.credit (send 1 (signal x) p.up)) ds) os⁰) (own_at l j m i.fit (omega (arith, i.size))))

    first : (h : Coordinator) (to : List Office) → ((c : ℕ) → hear l (hearing (coordinator_at j s true) c os⁰) (signal j) ≡ hearing h (c + l.slack j) to) →
        turn l (counted l now m) ≡ take_downs l (state h ds⁺ to)
    first h to e = ap (turn l) sent⁺ ∙ ap (take_downs l) (A-one l j m (signal j) i.fit (omega (arith, i.size)) (coordinator_at j s true) os⁰ h to (l.slack j) e)

    -- a signal that finishes nothing
    on : s + 1 < quota l j → Good l (two_turns l (counted l now m)) ns⁺
    on less =
        let e : two_turns l (counted l now m) ≡ state (coordinator_at j (s + 1) true) ds⁺ os⁰ =
        ap (turn l) (first (coordinator_at j (s + 1) true) os⁰ (λ c. hear_on l j s c os⁰ less) ∙ take_downs_quiet l j p.fit (coordinator_at j (s + 1) true)) ∙ turn_quiet l j p.fit (coordinator_at j (s + 1) true) in
        subst (λ z. Good l z ns⁺) (sym e) (record {
          size = size⁺;
          low = i.low;
          high = i.high;
          fit = p.fit;
          sum = omega (arith, i.sum, p.credit);
          phase = (less, omega (arith, i.phase.1, p.sent, downs⁰));
          past = past⁺;
          nil = λ no_way. absurd (true≢false no_way);
        })

    -- the credits when the step is finished
    finished : quota l j ≤ s + 1 → credits ds⁺ + l.offices * l.slack j ≡ l.offices * l.slack 0
    finished done =
        let same : s + 1 ≡ quota l j = omega (arith, i.phase.0) in
        let by : (s + 1) * l.slack j ≡ quota l j * l.slack j = ap (λ x. x * l.slack j) same in
        omega (arith, i.sum, p.credit, quota_slack l ok j i.low i.high)

    -- the last signal
    last : quota l j ≤ s + 1 → l.steps ≤ j → Good l (two_turns l (counted l now m)) ns⁺
    last done low =
        let y : Shut l j ds⁺ os⁰ ns⁺ = B-close l j p.fit in
        let h : Coordinator = coordinator_at j (s + 1) false in
        let os¹ : List Office = offices_after l ds⁺ (map (told (close j)) os⁰) in
        let e : two_turns l (counted l now m) ≡ state h ds⁺ os¹ =
        ap (turn l) (first h (map (told (close j)) os⁰) (λ c. hear_last l j s c os⁰ done low) ∙ ap (λ x. state h x os¹) y.same) ∙ turn_quiet l j y.fit h in
        subst (λ z. Good l z ns⁺) (sym e) (record {
          size = size⁺;
          low = i.low;
          high = i.high;
          fit = y.fit;
          sum = omega (arith, i.sum, p.credit);
          phase = (
            omega (arith, i.high),
            omega (arith, i.phase.0),
            omega (arith, i.phase.0, i.phase.1, p.sent, downs⁰, y.heard, size⁺, ap (λ x. l.offices * x) (divisors_step l j i.low), quota_k l ok j i.low i.high),
          );
          past = past⁺;
          nil = λ shut. (m, within, y.remainder m ∙ p.remainder);
        })

    -- a signal that finishes the step
    next : quota l j ≤ s + 1 → j < l.steps → Good l (two_turns l (counted l now m)) ns⁺
    next done left =
        let y : Began l j ds⁺ os⁰ ns⁺ = B-start l j (rung l ok j left) (slack_pos l ok (j + 1) (omega arith)) (ok.d_low (j + 1) (omega arith) (omega arith)) p.fit in
        let ds² : List Account = accounts_after l ds⁺ (map (told (start (j + 1))) os⁰) in
        let os² : List Office = offices_after l ds⁺ (map (told (start (j + 1))) os⁰) in
        let x : ℕ = begun l j os⁰ in
        let few : x < length ns⁺ * (divisor l (j + 1) - 1) = y.fewer m (omega (arith, size⁺)) p.remainder in
        let few⁺ : 0 + x < quota l (j + 1) = omega (arith, few, ap (λ z. z * (divisor l (j + 1) - 1)) size⁺) in
        let z : Heard l (j + 1) 0 x ds² os² os² ns⁺ = A-bulk l (j + 1) 0 os² y.started few⁺ in
        let h : Coordinator = coordinator_at (j + 1) (0 + x) true in
        let e : two_turns l (counted l now m) ≡ state h z.after os² =
        ap (turn l) (first (coordinator_at (j + 1) 0 true) (map (told (start (j + 1))) os⁰) (λ c. hear_next l j s c os⁰ done left))
        ∙ (ap (take_downs l) z.is ∙ take_downs_quiet l (j + 1) z.fit h) in
        let back : j + 1 - 1 ≡ j = omega arith in
        let slack-back : l.offices * l.slack (j + 1 - 1) ≡ l.offices * l.slack j = ap (λ x. l.offices * l.slack x) back in
        let divisors-back : l.offices * divisors_to l (j + 1 - 1) ≡ l.offices * (divisors_to l (j - 1) + divisor l j) = ap (λ x. l.offices * divisors_to l x) back ∙ ap (λ x. l.offices * x) (divisors_step l j i.low) in
        let f : credits ds⁺ + l.offices * l.slack j ≡ l.offices * l.slack 0 = finished done in
        subst (λ z. Good l z ns⁺) (sym e) (record {
          size = size⁺;
          low = omega arith;
          high = omega arith;
          fit = z.fit;
          sum = omega (arith, z.credit, y.credit);
          phase = (few⁺, omega (arith, i.phase.0, i.phase.1, p.sent, downs⁰, y.heard, y.sent, z.sent, size⁺, quota_k l ok j i.low i.high));
          past = λ t a b. ⊎_elim
              (λ c. past⁺ t a c)
              (λ c. let same : j ≡ t = omega arith in subst (λ t. l.offices * l.slack 0 ≤ whole (l.slack t) ns⁺ + l.offices * l.slack t) same (omega (arith, fit_whole l j p.fit)))
              (cases_lt t j);
          nil = λ no_way. absurd (true≢false no_way);
        })

    pub on_is : s + 1 < quota l j → two_turns l (counted l now m) ≡ state (coordinator_at j (s + 1) true) ds⁺ os⁰
    on_is less =
        ap (turn l) (first (coordinator_at j (s + 1) true) os⁰ (λ c. hear_on l j s c os⁰ less) ∙ take_downs_quiet l j p.fit (coordinator_at j (s + 1) true)) ∙ turn_quiet l j p.fit (coordinator_at j (s + 1) true)

    pub last_is : quota l j ≤ s + 1 → l.steps ≤ j → (os¹ : List Office) × (two_turns l (counted l now m) ≡ state (coordinator_at j (s + 1) false) ds⁺ os¹)
        × ((n : ℕ) → n < length ns⁺ → get_or os¹ n no_office ≡ office (get_or os⁰ n no_office).remainder j (lane_of [] ((get_or os⁰ n no_office).down.sent + 1)))
    last_is done low =
        let y : Shut l j ds⁺ os⁰ ns⁺ = B-close l j p.fit in
        let h : Coordinator = coordinator_at j (s + 1) false in
        let os¹ : List Office = offices_after l ds⁺ (map (told (close j)) os⁰) in
        (os¹, ap (turn l) (first h (map (told (close j)) os⁰) (λ c. hear_last l j s c os⁰ done low) ∙ ap (λ x. state h x os¹) y.same) ∙ turn_quiet l j y.fit h, y.office_at)

    pub next_is : quota l j ≤ s + 1 → j < l.steps → (ds² : List Account) × (os² : List Office) × (two_turns l (counted l now m) ≡ state (coordinator_at (j + 1) (0 + begun l j os⁰) true) ds² os²)
        × ((n : ℕ) → n < length ns⁺ → get_or ds² n no_account ≡ account ((get_or ds⁺ n no_account).credit + (get_or os⁰ n no_office).remainder / l.slack (j + 1) * l.slack (j + 1)) (lane_of [] ((get_or ds⁺ n no_account).up.sent + (get_or os⁰ n no_office).remainder / l.slack (j + 1))))
        × ((n : ℕ) → n < length ns⁺ → get_or os² n no_office ≡ office ((get_or os⁰ n no_office).remainder % l.slack (j + 1)) (j + 1) (lane_of [] ((get_or os⁰ n no_office).down.sent + 1)))
    next_is done left =
        let y : Began l j ds⁺ os⁰ ns⁺ = B-start l j (rung l ok j left) (slack_pos l ok (j + 1) (omega arith)) (ok.d_low (j + 1) (omega arith) (omega arith)) p.fit in
        let ds² : List Account = accounts_after l ds⁺ (map (told (start (j + 1))) os⁰) in
        let os² : List Office = offices_after l ds⁺ (map (told (start (j + 1))) os⁰) in
        let x : ℕ = begun l j os⁰ in
        let few : x < length ns⁺ * (divisor l (j + 1) - 1) = y.fewer m (omega (arith, size⁺)) p.remainder in
        let few⁺ : 0 + x < quota l (j + 1) = omega (arith, few, ap (λ z. z * (divisor l (j + 1) - 1)) size⁺) in
        let z : Heard l (j + 1) 0 x ds² os² os² ns⁺ = A-bulk l (j + 1) 0 os² y.started few⁺ in
        let h : Coordinator = coordinator_at (j + 1) (0 + x) true in (
          z.after,
          os²,
          ap (turn l) (first (coordinator_at (j + 1) 0 true) (map (told (start (j + 1))) os⁰) (λ c. hear_next l j s c os⁰ done left))
              ∙ (ap (take_downs l) z.is ∙ take_downs_quiet l (j + 1) z.fit h),
          (λ n b.
              let w : get_or ds² n no_account ≡ _ = y.account_at n b in
              z.account_at n b
              ∙ ap (λ p. account (p.credit + length p.up.waiting * l.slack (j + 1)) (lane_of [] p.up.sent)) w
              ∙ ap (λ x. account ((get_or ds⁺ n no_account).credit + x * l.slack (j + 1)) (lane_of [] ((get_or ds⁺ n no_account).up.sent + (get_or os⁰ n no_office).remainder / l.slack (j + 1)))) (length-replicate ((get_or os⁰ n no_office).remainder / l.slack (j + 1)) (signal (j + 1)))),
          y.office_at,
        )

    abbrev x₀ : State
    x₀ = state (coordinator_at j s true) (at m (λ p. account p.credit (send 1 (signal j) p.up)) ds) os⁰

    heard : (c : Coordinator) (to : List Office) → ((n : ℕ) → hear l (hearing (coordinator_at j s true) n os⁰) (signal j) ≡ hearing c (n + l.slack j) to) →
        take_ups l x₀.coordinator x₀.offices x₀.accounts ≡ state c ds⁺ to
    heard c to e = A-one l j m (signal j) i.fit (omega (arith, i.size)) (coordinator_at j s true) os⁰ c to (l.slack j) e

    signal_expected : ExpectedUps l x₀.coordinator x₀.offices x₀.accounts
    signal_expected = ups_one l j s m i.fit os⁰

    on_expects : s + 1 < quota l j → Expects l (counted l now m)
    on_expects less =
        let c : Coordinator = coordinator_at j (s + 1) true in
        expects_by l (counted l now m) x₀ c ds⁺ os⁰ (state c ds⁺ os⁰) sent⁺ (heard c os⁰ (λ n. hear_on l j s n os⁰ less)) signal_expected
        (downs_quiet l j p.fit) (take_downs_quiet l j p.fit c) (turn_expected l j p.fit c)

    last_expects : quota l j ≤ s + 1 → l.steps ≤ j → Expects l (counted l now m)
    last_expects done low =
        let y : Shut l j ds⁺ os⁰ ns⁺ = B-close l j p.fit in
        let c : Coordinator = coordinator_at j (s + 1) false in
        let to : List Office = map (told (close j)) os⁰ in
        let os¹ : List Office = offices_after l ds⁺ to in
        expects_by l (counted l now m) x₀ c ds⁺ to (state c ds⁺ os¹) sent⁺ (heard c to (λ n. hear_last l j s n os⁰ done low)) signal_expected
        (downs_close l j (omega (arith, i.high)) p.fit) (ap (λ x. state c x os¹) y.same) (turn_expected l j y.fit c)

    next_expects : quota l j ≤ s + 1 → j < l.steps → Expects l (counted l now m)
    next_expects done left =
        let y : Began l j ds⁺ os⁰ ns⁺ = B-start l j (rung l ok j left) (slack_pos l ok (j + 1) (omega arith)) (ok.d_low (j + 1) (omega arith) (omega arith)) p.fit in
        let to : List Office = map (told (start (j + 1))) os⁰ in
        let ds² : List Account = accounts_after l ds⁺ to in
        let os² : List Office = offices_after l ds⁺ to in
        let x : ℕ = begun l j os⁰ in
        let few⁺ : 0 + x < quota l (j + 1) = omega (arith, y.fewer m (omega (arith, size⁺)) p.remainder, ap (λ z. z * (divisor l (j + 1) - 1)) size⁺) in
        let z : Heard l (j + 1) 0 x ds² os² os² ns⁺ = A-bulk l (j + 1) 0 os² y.started few⁺ in
        let c : Coordinator = coordinator_at (j + 1) 0 true in
        expects_by l (counted l now m) x₀ c ds⁺ to (state c ds² os²) sent⁺ (heard c to (λ n. hear_next l j s n os⁰ done left)) signal_expected
        (downs_start l j p.fit) refl
        (ups_bulk l (j + 1) 0 os² y.started few⁺, subst (λ (t : State). ExpectedDowns l t.accounts t.offices) (sym z.is) (downs_quiet l (j + 1) z.fit))

  pub lot_expects : Expects l (counted l now m)
  lot_expects = ⊎_elim kept_expects
      (λ t. ⊎_elim (on_expects t) (λ done. ⊎_elim (next_expects t done) (last_expects t done) (cases_lt j l.steps)) (cases_lt (s + 1) (quota l j)))
      (cases_lt ((get_or os m no_office).remainder + 1) (l.slack (get_or os m no_office).own_step))

  pub lot_kept : Good l (two_turns l (counted l now m)) ns⁺
  lot_kept = ⊎_elim kept
      (λ t. ⊎_elim (on t) (λ done. ⊎_elim (next t done) (last t done) (cases_lt j l.steps)) (cases_lt (s + 1) (quota l j)))
      (cases_lt ((get_or os m no_office).remainder + 1) (l.slack (get_or os m no_office).own_step))
