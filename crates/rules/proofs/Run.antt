-- The invariant over a run, and the counts.
use Rattle.std.proofs.Common.{◌≡◌, ℕ, zero, suc, ◌+◌, ◌-◌, ◌<◌, ◌≤◌, Bool, true, false, cond, ◌&&◌, ◌||◌, eqb, ltb, List, [], ◌∷◌, length, get_or, replicate, is_ok, sym, refl, ap, ◌∙◌, mul-le-mul, arith, ne_eqb}
use Rattle.std.proofs.lemmas.Bool.{true≢false, or_parts, eqb-false, ltb-false}
use lib.ListN.{length-replicate, get_or-replicate}
use lib.Dec.{eqb-suc-suc}
use Rattle.rules.proofs.Fit.{Fit, more, none}
use Rattle.rules.proofs.Expecting.{Expects}
use Rattle.rules.proofs.Lot.{lot_expects, Good, Inv, length_at, lot_kept, slack_pos}
use Rattle.rules.proofs.Machine.{Sound, accepted_of, count, counts, ended, lot, run, tally}
use Rattle.rules.specs.Lists.{at, sum_to, total}
use Rattle.rules.specs.Rules.{Account, Office, Setting, State, account, answer, coordinator_at, counted, divisor, lane_of, office, opened, state}

fit_open : (l : Setting) → 1 ≤ l.slack 1 → (n : ℕ) → Fit l 1 (replicate n (account 0 (lane_of [] 0))) (replicate n (office 0 1 (lane_of [] 0))) (replicate n 0)
fit_open l pos zero = none
fit_open l pos (suc n) = more 0 0 0 0 0 0 (omega arith) pos refl (fit_open l pos n)

zeros : {X : Type 0} (f : X → ℕ) (x : X) → f x ≡ 0 → (n : ℕ) → total f (replicate n x) ≡ 0
zeros f x e zero = refl
zeros f x e (suc n) = omega (arith, zeros f x e n)

pub good_open : (l : Setting) → Sound l → Good l (opened l) (replicate l.offices 0)
good_open l ok =
    let two : 2 ≤ divisor l 1 = ok.d_low 1 (omega arith) ok.e_low in
    record {
      size = length-replicate l.offices 0;
      low = omega arith;
      high = ok.e_low;
      fit = fit_open l (slack_pos l ok 1 ok.e_low) l.offices;
      sum = omega (arith, zeros (λ p. p.credit) (account 0 (lane_of [] 0)) refl l.offices);
      phase = (
        omega (arith, mul-le-mul {m₁ = 1} {m₂ = divisor l 1 - 1} ok.k_low (omega arith)),
        omega (arith, zeros (λ p. p.up.sent) (account 0 (lane_of [] 0)) refl l.offices, zeros (λ o. o.down.sent) (office 0 1 (lane_of [] 0)) refl l.offices),
      );
      past = λ t a b. absurd (omega arith);
      nil = λ no_way. absurd (true≢false no_way);
    }

abbrev pub next_counts : Setting → State → List ℕ → ℕ → List ℕ
next_counts l s ns i = cond (is_ok (answer l s i)) (at (i - 1) (λ n. n + 1) ns) ns

lot_good' : (l : Setting) → Sound l → (j s : ℕ) (b : Bool) (ds : List Account) (os : List Office) (ns : List ℕ) → Inv l j s b ds os ns →
    (i : ℕ) (test : Bool) → (eqb i 0 || ltb l.offices i) ≡ test →
    Good l (lot l (state (coordinator_at j s b) ds os) i) (next_counts l (state (coordinator_at j s b) ds os) ns i)
lot_good' l ok j s true ds os ns v i true e = rw e v
lot_good' l ok j s false ds os ns v i true e = rw e v
lot_good' l ok j s false ds os ns v i false e = rw e v
lot_good' l ok j s true ds os ns v i false e =
    let p = or_parts (eqb i 0) (ltb l.offices i) e in
    let i≢0 : i ≡ 0 → ⊥ = eqb-false i 0 p.0 in
    let le : i ≤ l.offices = ltb-false l.offices i p.1 in
    rw e (lot_kept l ok j s (i - 1) ds os ns v (omega arith))

pub lot_good : (l : Setting) → Sound l → (s : State) (ns : List ℕ) → Good l s ns → (i : ℕ) → Good l (lot l s i) (next_counts l s ns i)
lot_good l ok s ns v i =
    lot_good' l ok s.coordinator.step s.coordinator.signals s.coordinator.is_open s.accounts s.offices ns v i (eqb i 0 || ltb l.offices i) refl

lot_expected' : (l : Setting) → Sound l → (j s : ℕ) (b : Bool) (ds : List Account) (os : List Office) (ns : List ℕ) → Inv l j s b ds os ns →
    (i : ℕ) (test : Bool) → (eqb i 0 || ltb l.offices i) ≡ test → is_ok (answer l (state (coordinator_at j s b) ds os) i) ≡ true → Expects l (counted l (state (coordinator_at j s b) ds os) (i - 1))
lot_expected' l ok j s true ds os ns v i true e is = let y : false ≡ true = rw e at is in absurd (true≢false (sym y))
lot_expected' l ok j s false ds os ns v i true e is = let y : false ≡ true = rw e at is in absurd (true≢false (sym y))
lot_expected' l ok j s false ds os ns v i false e is = let y : false ≡ true = rw e at is in absurd (true≢false (sym y))
lot_expected' l ok j s true ds os ns v i false e is =
    let p = or_parts (eqb i 0) (ltb l.offices i) e in
    let i≢0 : i ≡ 0 → ⊥ = eqb-false i 0 p.0 in
    let le : i ≤ l.offices = ltb-false l.offices i p.1 in
    lot_expects l ok j s (i - 1) ds os ns v (omega arith)

pub lot_expected : (l : Setting) → Sound l → (s : State) (ns : List ℕ) → Good l s ns → (i : ℕ) → is_ok (answer l s i) ≡ true → Expects l (counted l s (i - 1))
lot_expected l ok s ns v i is =
    lot_expected' l ok s.coordinator.step s.coordinator.signals s.coordinator.is_open s.accounts s.offices ns v i (eqb i 0 || ltb l.offices i) refl is

pub run_good : (l : Setting) → Sound l → (h : List ℕ) (s : State) (ns : List ℕ) → Good l s ns → Good l (run l s h) (tally l s ns h)
run_good l ok [] s ns v = v
run_good l ok (i ∷ h) s ns v = run_good l ok h (lot l s i) (next_counts l s ns i) (lot_good l ok s ns v i)

pub good : (l : Setting) → Sound l → (h : List ℕ) → Good l (ended l h) (counts l h)
good l ok h = run_good l ok h (opened l) (replicate l.offices 0) (good_open l ok)

-- the counts
get_or_at : (m x : ℕ) (ns : List ℕ) → m < length ns → get_or (at x (λ n. n + 1) ns) m 0 ≡ get_or ns m 0 + cond (eqb x m) 1 0
get_or_at m zero [] i = absurd (omega arith)
get_or_at m (suc x) [] i = absurd (omega arith)
get_or_at zero zero (n ∷ ns) i = refl
get_or_at (suc m) zero (n ∷ ns) i = rw (ne_eqb 0 (suc m) (λ e. omega arith)) (omega arith)
get_or_at zero (suc x) (n ∷ ns) i = rw (ne_eqb (suc x) 0 (λ e. omega arith)) (omega arith)
get_or_at (suc m) (suc x) (n ∷ ns) i = rw (eqb-suc-suc x m) (get_or_at m x ns (omega arith))

and_false : (b : Bool) → ◌≡◌ {A = ℕ} (cond (b && false) 1 0) 0
and_false true = refl
and_false false = refl

and_true : (b : Bool) → ◌≡◌ {A = ℕ} (cond (b && true) 1 0) (cond b 1 0)
and_true true = refl
and_true false = refl

step_at : (l : Setting) (s : State) (ns : List ℕ) (m x : ℕ) → m < length ns →
    get_or (next_counts l s ns x) m 0 ≡ get_or ns m 0 + cond (eqb x (m + 1) && is_ok (answer l s x)) 1 0
step_at l s ns m zero i = omega (arith, and_false (eqb 0 (m + 1)))
step_at l s ns m (suc x) i = go (is_ok (answer l s (suc x)))
  where
    go : (b : Bool) → get_or (cond b (at (suc x - 1) (λ n. n + 1) ns) ns) m 0 ≡ get_or ns m 0 + cond (eqb (suc x) (m + 1) && b) 1 0
    go false = omega (arith, and_false (eqb (suc x) (m + 1)))
    go true =
        let back : suc x - 1 ≡ x = omega arith in
        let up : m + 1 ≡ suc m = omega arith in
        rw (back, up, eqb-suc-suc x m, and_true (eqb x m)) (get_or_at m x ns i)

length_next : (l : Setting) (s : State) (ns : List ℕ) (x : ℕ) → length (next_counts l s ns x) ≡ length ns
length_next l s ns x = go (is_ok (answer l s x))
  where
    go : (b : Bool) → length (cond b (at (x - 1) (λ n. n + 1) ns) ns) ≡ length ns
    go true = length_at (x - 1) (λ n. n + 1) ns
    go false = refl

pub tally_at : (l : Setting) (h : List ℕ) (s : State) (ns : List ℕ) (m : ℕ) → m < length ns →
    get_or (tally l s ns h) m 0 ≡ get_or ns m 0 + accepted_of l s (m + 1) h
tally_at l [] s ns m i = omega arith
tally_at l (x ∷ h) s ns m i =
    omega (arith, tally_at l h (lot l s x) (next_counts l s ns x) m (omega (arith, length_next l s ns x)), step_at l s ns m x i)

pub count_at : (l : Setting) → (h : List ℕ) (m : ℕ) → m < l.offices → get_or (counts l h) m 0 ≡ count l h (m + 1)
count_at l h m i =
    omega (arith, tally_at l h (opened l) (replicate l.offices 0) m (omega (arith, length-replicate {A = ℕ} l.offices 0)), get_or-replicate {A = ℕ} l.offices m 0 0 i)

-- sums over places and sums over numbers
sum_to_first : (n : ℕ) (g : ℕ → ℕ) → sum_to (suc n) g ≡ g 1 + sum_to n (λ i. g (suc i))
sum_to_first zero g = omega arith
sum_to_first (suc n) g = omega (arith, sum_to_first n g)

total_sum_to : (f : ℕ → ℕ) (ns : List ℕ) (c : ℕ → ℕ) → ((m : ℕ) → m < length ns → get_or ns m 0 ≡ c (suc m)) → total f ns ≡ sum_to (length ns) (λ i. f (c i))
total_sum_to f [] c e = refl
total_sum_to f (n ∷ ns) c e =
    omega (arith, total_sum_to f ns (λ i. c (suc i)) (λ m i. e (suc m) (omega arith)), sum_to_first (length ns) (λ i. f (c i)), ap f (e 0 (omega arith)))

pub total_counts : (l : Setting) → Sound l → (h : List ℕ) (f : ℕ → ℕ) → total f (counts l h) ≡ sum_to l.offices (λ i. f (count l h i))
total_counts l ok h f =
    let size : length (counts l h) ≡ l.offices = (good l ok h).size in
    total_sum_to f (counts l h) (count l h) (λ m i. let up : m + 1 ≡ suc m = omega arith in count_at l h m (omega arith) ∙ ap (count l h) up)
    ∙ ap (λ n. sum_to n (λ i. f (count l h i))) size
