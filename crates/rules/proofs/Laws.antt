-- The laws of runs, from what the proofs compute. Assumes nothing.
use Rattle.std.proofs.Common.{◌≡◌, ℕ, zero, suc, ◌+◌, ◌-◌, ◌*◌, ◌<◌, ◌≤◌, Bool, true, false, cond, ◌&&◌, ◌||◌, eqb, ltb, List, [], ◌∷◌, is_ok, Err, sym, refl, ap, ◌∙◌, subst, ⊎_elim, mul-pos, arith}
use native.Mathlib.Nat.{div-eq_of_eq-mul_left}
use Rattle.std.proofs.lemmas.Bool.{cases_eq, eq-eqb, ne_eqb, eqb-false, ltb-false, or_parts, true≢false}
use Rattle.fault.specs.declared.Fault.{Fault}
use Rattle.rules.proofs.Claims.{closing, nothing_waits, same_lots, standing}
use Rattle.rules.proofs.Machine.{Sound, accepted_of, answers, count, ended, lot}
use Rattle.rules.proofs.Settle.{runs_opened, runs_unique}
use Rattle.rules.specs.Laws.{ClosesAtCeiling, EveryListHasOneRun, EveryRunIsLawful, FollowsFromLots, OrderDoesNotMatter, OrderNeverMatters, RunLaws, SettingLaw}
use Rattle.rules.specs.Lists.{sum_to}
use Rattle.rules.specs.Rules.{Setting, State, answer, divisor, opened}
use Rattle.rules.specs.Runs.{Answer, Runs, accepted_at, accepted_in_all, books}

-- the law of a ladder, step by step
module _ (l : Setting) (law : SettingLaw l) where
  slack_up : (n : ℕ) → n ≤ l.steps → 1 ≤ l.slack (l.steps - n)
  slack_up zero le = let s : l.steps - 0 ≡ l.steps = omega arith in rw s law.ladder.grain
  slack_up (suc n) le =
      let r = law.ladder.tied (l.steps - suc n) (omega arith) in
      let s : l.steps - suc n + 1 ≡ l.steps - n = omega arith in
      let below : 1 ≤ l.slack (l.steps - suc n + 1) = rw s (slack_up n (omega arith)) in
      let product : 0 < r.divisor * l.slack (l.steps - suc n + 1) = mul-pos (omega (arith, r.least)) below in
      omega (arith, r.times, product)

  pub some_slack : (j : ℕ) → j ≤ l.steps → 1 ≤ l.slack j
  some_slack j le = let s : l.steps - (l.steps - j) ≡ j = omega arith in rw s at (slack_up (l.steps - j) (omega arith))

  tied_by : (j : ℕ) → 1 ≤ j → j ≤ l.steps → (d : ℕ) × (2 ≤ d) × (d ≤ 16) × (divisor l j ≡ d) × (l.slack (j - 1) ≡ d * l.slack j)
  unfolding divisor
  tied_by j low high =
      let r = law.ladder.tied (j - 1) (omega arith) in
      let s : j - 1 + 1 ≡ j = omega arith in
      let ties : l.slack (j - 1) ≡ r.divisor * l.slack j = r.times ∙ ap (λ n. r.divisor * l.slack n) s in
      (r.divisor, r.least, r.most, div-eq_of_eq-mul_left (some_slack j high) ties, ties)

  pub sound : Sound l
  sound = record {
    k_low = law.some;
    k_high = law.few;
    e_low = law.ladder.some;
    e_high = law.ladder.few;
    top = law.ladder.top;
    grain = law.ladder.grain;
    rung = λ j low high. let t = tied_by j low high in t.4 ∙ ap (λ d. d * l.slack j) (sym t.3);
    d_low = λ j low high. let t = tied_by j low high in omega (arith, t.1, t.3);
    d_high = λ j low high. let t = tied_by j low high in omega (arith, t.2, t.3);
  }

-- the accepted lots, by what they were answered and by the state
pub accepted_by_state : (l : Setting) (s : State) (h : List ℕ) (i : ℕ) → accepted_at i h (answers l s h) ≡ accepted_of l s i h
accepted_by_state l s [] i = refl
accepted_by_state l s (x ∷ h) i = ap (λ n. cond (eqb x i && is_ok (answer l s x)) 1 0 + n) (accepted_by_state l (lot l s x) h i)

-- the accepted lots are the sum of what each office had accepted
sum_plus : (k : ℕ) (f g : ℕ → ℕ) → sum_to k (λ i. f i + g i) ≡ sum_to k f + sum_to k g
sum_plus zero f g = refl
sum_plus (suc k) f g = omega (arith, sum_plus k f g)

sum_none : (k : ℕ) (f : ℕ → ℕ) → ((i : ℕ) → i ≤ k → f i ≡ 0) → sum_to k f ≡ 0
sum_none zero f e = refl
sum_none (suc k) f e = omega (arith, sum_none k f (λ i le. e i (omega arith)), e (suc k) (omega arith))

here : (x i : ℕ) → x ≡ i → ◌≡◌ {A = ℕ} (cond (eqb x i && true) 1 0) 1
here x i e = rw (eq-eqb x i e) refl

away : (x i : ℕ) → (x ≡ i → ⊥) → ◌≡◌ {A = ℕ} (cond (eqb x i && true) 1 0) 0
away x i ne = rw (ne_eqb x i ne) refl

never : (b : Bool) → ◌≡◌ {A = ℕ} (cond (b && false) 1 0) 0
never true = refl
never false = refl

once : (x k : ℕ) → 1 ≤ x → x ≤ k → sum_to k (λ i. cond (eqb x i && true) 1 0) ≡ 1
once x zero low high = absurd (omega arith)
once x (suc k) low high = ⊎_elim
    (λ (e : x ≡ suc k). omega (arith, here x (suc k) e, sum_none k (λ i. cond (eqb x i && true) 1 0) (λ i le. away x i (λ q. omega arith))))
    (λ (ne : x ≡ suc k → ⊥). omega (arith, away x (suc k) ne, once x k low (omega arith)))
    (cases_eq x (suc k))

hot : (b : Bool) (x k : ℕ) → (b ≡ true → (1 ≤ x) × (x ≤ k)) → sum_to k (λ i. cond (eqb x i && b) 1 0) ≡ cond b 1 0
hot true x k in_range = let r = in_range refl in once x k r.0 r.1
hot false x k in_range = sum_none k (λ i. cond (eqb x i && false) 1 0) (λ i le. never (eqb x i))

known : (bad : Bool) (f : Fault) (a : Answer) → is_ok (cond bad (Err f) a) ≡ true → bad ≡ false
known true f a e = absurd (true≢false (sym e))
known false f a e = refl

pub accepted_known : (l : Setting) (s : State) (x : ℕ) → is_ok (answer l s x) ≡ true → (1 ≤ x) × (x ≤ l.offices)
accepted_known l s x e =
    let p = or_parts (eqb x 0) (ltb l.offices x) (known (eqb x 0 || ltb l.offices x) _ _ e) in
    let not-0 : x ≡ 0 → ⊥ = eqb-false x 0 p.0 in
    (omega arith, ltb-false l.offices x p.1)

pub accepted_sum : (l : Setting) (s : State) (h : List ℕ) → accepted_in_all (answers l s h) ≡ sum_to l.offices (λ i. accepted_of l s i h)
accepted_sum l s [] = sym (sum_none l.offices (λ i. 0) (λ i le. refl))
accepted_sum l s (x ∷ h) =
    omega (arith, accepted_sum l (lot l s x) h, hot (is_ok (answer l s x)) x l.offices (accepted_known l s x), sum_plus l.offices (λ i. cond (eqb x i && is_ok (answer l s x)) 1 0) (λ i. accepted_of l (lot l s x) i h))

-- a law that speaks of the offices from 1 to k only
abbrev pub Counted : Setting → List ℕ → List Answer → Type 0
Counted l h rs = (λ i. accepted_at i h rs) ≡ count l h

counted_by : (l : Setting) (h : List ℕ) → (λ i. accepted_at i h (answers l (opened l) h)) ≡ count l h
counted_by l h = λ t i. accepted_by_state l (opened l) h i t

run_laws : (l : Setting) → Sound l → (h : List ℕ) → RunLaws l h (answers l (opened l) h) (ended l h)
run_laws l ok h = record {
  nothing_waits = nothing_waits l ok h;
  closes = subst (λ c. ClosesAtCeiling l c (books (ended l h))) (sym (counted_by l h)) (closing l ok h);
  follows = subst (λ c. FollowsFromLots l c (books (ended l h))) (sym (counted_by l h)) (standing l ok h);
  in_all = accepted_sum l (opened l) h ∙ ap (sum_to l.offices) (sym (counted_by l h));
}

-- any run is the one that the proofs compute
pub run_is : (l : Setting) → Sound l → (h : List ℕ) (rs : List Answer) (end : State) → Runs l (opened l) h rs end → (answers l (opened l) h ≡ rs) × (ended l h ≡ end)
run_is l ok h rs end r = runs_unique l (runs_opened l ok h) r

pub run_lawful : (l : Setting) → Sound l → (h : List ℕ) (rs : List Answer) (end : State) → Runs l (opened l) h rs end → RunLaws l h rs end
run_lawful l ok h rs end r =
    let e = run_is l ok h rs end r in
    subst (λ rs. RunLaws l h rs end) e.0 (subst (RunLaws l h (answers l (opened l) h)) e.1 (run_laws l ok h))

pub every_run_is_lawful : EveryRunIsLawful
every_run_is_lawful l law h rs end r = run_lawful l (sound l law) h rs end r

computed_order : (l : Setting) → Sound l → (h h' : List ℕ) → OrderDoesNotMatter l (λ i. accepted_at i h (answers l (opened l) h)) (λ i. accepted_at i h' (answers l (opened l) h')) (books (ended l h)) (books (ended l h'))
computed_order l ok h h' =
    subst (λ c. OrderDoesNotMatter l c (λ i. accepted_at i h' (answers l (opened l) h')) (books (ended l h)) (books (ended l h'))) (sym (counted_by l h))
    (subst (λ c. OrderDoesNotMatter l (count l h) c (books (ended l h)) (books (ended l h'))) (sym (counted_by l h')) (same_lots l ok h h'))

pub order_of_runs : (l : Setting) → Sound l → (h h' : List ℕ) (rs rs' : List Answer) (end end' : State) → Runs l (opened l) h rs end → Runs l (opened l) h' rs' end'
    → OrderDoesNotMatter l (λ i. accepted_at i h rs) (λ i. accepted_at i h' rs') (books end) (books end')
order_of_runs l ok h h' rs rs' end end' r r' =
    let e = run_is l ok h rs end r in
    let e' = run_is l ok h' rs' end' r' in
    let P : List Answer → State → List Answer → State → Type 0 = λ rs end rs' end'. OrderDoesNotMatter l (λ i. accepted_at i h rs) (λ i. accepted_at i h' rs') (books end) (books end') in
    subst (λ rs. P rs end rs' end') e.0 (subst (λ end. P (answers l (opened l) h) end rs' end') e.1
    (subst (λ rs'. P (answers l (opened l) h) (ended l h) rs' end') e'.0 (subst (λ end'. P (answers l (opened l) h) (ended l h) (answers l (opened l) h') end') e'.1 (computed_order l ok h h'))))

pub order_never_matters : OrderNeverMatters
order_never_matters l law h h' rs rs' end end' r r' = order_of_runs l (sound l law) h h' rs rs' end end' r r'

pub every_list_has_one_run : EveryListHasOneRun
every_list_has_one_run l law h =
    let ok = sound l law in
    record {
      answers = answers l (opened l) h;
      end = ended l h;
      runs = runs_opened l ok h;
      only = λ rs end r. let e = run_is l ok h rs end r in (sym e.0, sym e.1);
    }
