-- A lot at a window is a lot of the rules. Assumes nothing.
use Rattle.std.proofs.Common.{◌≡◌, ℕ, zero, suc, ◌+◌, ◌-◌, ◌*◌, ◌/◌, ◌%◌, ◌<◌, ◌≤◌, Bool, true, false, cond, not, ◌||◌, eqb, ltb, List, length, get_or, set, is_ok, Ok, Err, sym, refl, ap, ◌∙◌, subst, ⊎_elim, arith}
use Rattle.std.proofs.lemmas.List.{get_or-set_same, get_or-set_other, length-set}
use Rattle.std.proofs.lemmas.Bool.{cases_eq, eq-eqb, ne_eqb, eqb-true, eqb-false, or_parts, ltb-false, cond-true, cond-false}
use Rattle.fault.specs.declared.Fault.{Fault}
use Rattle.fault.specs.Faults.{fault}
use Rattle.fault.specs.declared.Layer.TheVariants.{Window as In-window}
use Rattle.fault.specs.declared.Refusal.TheVariants.{NoSuchOfficeOrLane, WindowClosed}
use Rattle.post.specs.Lanes.{lane}
use Rattle.rules.specs.Rules.{Setting, divisor, State as Rules-state, state, coordinator_at, Coordinator as Rules-coordinator, Account, Office as Rules-office, no_office as no_rules_office, no_account, answer, quota as rules_quota, counted as rules_counted, opened as rules_opened}
use Rattle.rules.proofs.Machine.{Sound, ended, lot, two_turns, counts as Counts-of}
use Rattle.rules.proofs.Lot.{Inv, Good}
use Rattle.rules.proofs.Run.{good}
use Rattle.rules.proofs.Step.{one, zeroed, below, below_zero, below_suc, below_same, Rows, kept_rows, on_rows, last_rows, next_rows, run_more, remainder_less}
use Rattle.window.specs.declared.setting_table.SettingTable.{SettingTable}
use Rattle.window.specs.declared.books.Books.{Books}
use Rattle.window.specs.declared.books.Coordinator.{Coordinator}
use Rattle.window.specs.declared.books.OfficeRecord.{OfficeRecord}
use Rattle.window.specs.declared.books.Phase.TheVariants.{Open, Closed}
use Rattle.window.specs.Parts.{step_in, is_closed, office, no_office, slack, quota, in_coordinator, due, counted}
use Rattle.window.specs.Turns.{State, at}
use Rattle.window.proofs.After.{moved_record, whole, sumq, started, Carried, After, goes_on, ends, moves_on, Accepted, counts, signals}
use Rattle.window.proofs.Even.{Even}
use Rattle.window.proofs.Held.{SameTerms, Shows, Held, Next}

-- the setting of a window is sound
pub sound : (l : Setting) (t : SettingTable) → SameTerms l t → Sound l
sound l t same = record {
  k_low = omega (arith, same.offices, t.some);
  k_high = omega (arith, same.offices, t.few);
  e_low = omega (arith, same.steps, t.least);
  e_high = omega (arith, same.steps, t.most);
  top = omega (arith, same.slacks 0 (omega arith), t.top);
  grain = omega (arith, same.slacks l.steps (omega arith), t.grain l.steps (omega (arith, same.steps)));
  rung = λ j low high.
      sym (same.slacks (j - 1) (omega arith)) ∙ t.rung j low (omega (arith, same.steps)) ∙ ap (λ d. d * slack t j) (sym (same.divisors j low high)) ∙ ap (λ x. divisor l j * x) (same.slacks j high);
  d_low = λ j low high. omega (arith, same.divisors j low high, t.low j low (omega (arith, same.steps)));
  d_high = λ j low high. omega (arith, same.divisors j low high, t.high j low (omega (arith, same.steps)));
}

-- records by number
record_by : (xs : List OfficeRecord) (m n : ℕ) (o : OfficeRecord) → m < length xs → get_or (set xs m o) n no_office ≡ cond (eqb n m) o (get_or xs n no_office)
record_by xs m n o less = ⊎_elim
    (λ (e : n ≡ m). ap (λ n. get_or (set xs m o) n no_office) e ∙ get_or-set_same xs m o no_office less ∙ sym (cond-true _ _ _ (eq-eqb n m e)))
    (λ (ne : n ≡ m → ⊥). get_or-set_other xs m n o no_office ne ∙ sym (cond-false _ _ _ (ne_eqb n m ne)))
    (cases_eq n m)

module _ (b : Books) (m : ℕ) (less : m < length b.table) where
  counted_credit : (n : ℕ) → (office (counted m b) n).credit ≡ (office b n).credit
  counted_credit n = ap (λ (o : OfficeRecord). o.credit) (record_by b.table m n _ less) ∙ go (eqb n m) (λ e. eqb-true n m e)
    where
      go : (x : Bool) → (x ≡ true → n ≡ m) → (cond x (record { step = (office b m).step; credit = (office b m).credit; remainder = cond (due m b) 0 ((office b m).remainder + 1) }) (office b n)).credit ≡ (office b n).credit
      go true e = ap (λ n. (office b n).credit) (sym (e refl))
      go false e = refl

  counted_on : due m b ≡ false → (n : ℕ) → (office (counted m b) n).remainder ≡ (office b n).remainder + one n m
  counted_on no_due n = ap (λ (o : OfficeRecord). o.remainder) (record_by b.table m n _ less) ∙ go (eqb n m) (λ e. eqb-true n m e)
    where
      go : (x : Bool) → (x ≡ true → n ≡ m) → (cond x (record { step = (office b m).step; credit = (office b m).credit; remainder = cond (due m b) 0 ((office b m).remainder + 1) }) (office b n)).remainder ≡ (office b n).remainder + cond x 1 0
      go true e = cond-false _ _ _ no_due ∙ ap (λ n. (office b n).remainder + 1) (sym (e refl))
      go false e = omega arith

  counted_zero : due m b ≡ true → (n : ℕ) → (office (counted m b) n).remainder ≡ zeroed n m (office b n).remainder
  counted_zero is-due n = ap (λ (o : OfficeRecord). o.remainder) (record_by b.table m n _ less) ∙ go (eqb n m)
    where
      go : (x : Bool) → (cond x (record { step = (office b m).step; credit = (office b m).credit; remainder = cond (due m b) 0 ((office b m).remainder + 1) }) (office b n)).remainder ≡ cond x 0 (office b n).remainder
      go true = cond-true _ _ _ is-due
      go false = refl

  counted_step : (n : ℕ) → (office (counted m b) n).step ≡ (office b n).step
  counted_step n = ap (λ (o : OfficeRecord). o.step) (record_by b.table m n _ less) ∙ go (eqb n m) (λ e. eqb-true n m e)
    where
      go : (x : Bool) → (x ≡ true → n ≡ m) → (cond x (record { step = (office b m).step; credit = (office b m).credit; remainder = cond (due m b) 0 ((office b m).remainder + 1) }) (office b n)).step ≡ (office b n).step
      go true e = ap (λ n. (office b n).step) (sym (e refl))
      go false e = refl

  module _ (h : Coordinator) where
    abbrev credit_record : OfficeRecord
    credit_record = record { step = (office b m).step; credit = (office b m).credit + slack b.setting (step_in b.coordinator.phase); remainder = (office b m).remainder }

    coordinated_credit : (n : ℕ) → (office (in_coordinator b m h) n).credit ≡ (office b n).credit + one n m * slack b.setting (step_in b.coordinator.phase)
    coordinated_credit n = ap (λ (o : OfficeRecord). o.credit) (record_by b.table m n _ less) ∙ go (eqb n m) (λ e. eqb-true n m e)
      where
        go : (x : Bool) → (x ≡ true → n ≡ m) → (cond x credit_record (office b n)).credit ≡ (office b n).credit + cond x 1 0 * slack b.setting (step_in b.coordinator.phase)
        go true e = omega (arith, ap (λ n. (office b n).credit) (e refl))
        go false e = omega arith

    coordinated_remainder : (n : ℕ) → (office (in_coordinator b m h) n).remainder ≡ (office b n).remainder
    coordinated_remainder n = ap (λ (o : OfficeRecord). o.remainder) (record_by b.table m n _ less) ∙ go (eqb n m) (λ e. eqb-true n m e)
      where
        go : (x : Bool) → (x ≡ true → n ≡ m) → (cond x credit_record (office b n)).remainder ≡ (office b n).remainder
        go true e = ap (λ n. (office b n).remainder) (sym (e refl))
        go false e = refl

    coordinated_step : (n : ℕ) → (office (in_coordinator b m h) n).step ≡ (office b n).step
    coordinated_step n = ap (λ (o : OfficeRecord). o.step) (record_by b.table m n _ less) ∙ go (eqb n m) (λ e. eqb-true n m e)
      where
        go : (x : Bool) → (x ≡ true → n ≡ m) → (cond x credit_record (office b n)).step ≡ (office b n).step
        go true e = ap (λ n. (office b n).step) (sym (e refl))
        go false e = refl

sum_below : (q : ℕ → ℕ) (k : ℕ) → sumq q k ≡ below k q
unfolding sumq
sum_below q zero = sym (below_zero q)
sum_below q (suc k) = omega (arith, sum_below q k, below_suc k q)

-- rows that agree
module _ (k : ℕ) (r : Rules-state) (coordinator : Rules-coordinator) (c a u d : ℕ → ℕ) (rows : Rows k r coordinator c a u d) where
  shows : (v : State) → step_in v.books.coordinator.phase ≡ coordinator.step → v.books.coordinator.signals ≡ coordinator.signals → is_closed v.books.coordinator.phase ≡ not coordinator.is_open
      → ((n : ℕ) → n < k → (office v.books n).credit ≡ c n) → ((n : ℕ) → n < k → (office v.books n).remainder ≡ a n)
      → ((n : ℕ) → n < k → (lane v.lanes (2 * n)).sent ≡ u n) → ((n : ℕ) → n < k → (lane v.lanes (2 * n + 1)).sent ≡ d n) → Shows k r v
  shows v e₁ e₂ e₃ f₁ f₂ f₃ f₄ = record {
    step = e₁ ∙ ap (λ (h : Rules-coordinator). h.step) (sym rows.coordinator);
    signals = e₂ ∙ ap (λ (h : Rules-coordinator). h.signals) (sym rows.coordinator);
    closed = e₃ ∙ ap (λ (h : Rules-coordinator). not h.is_open) (sym rows.coordinator);
    credits = λ n i. f₁ n i ∙ sym (rows.credits n i);
    remainders = λ n i. f₂ n i ∙ sym (rows.remainders n i);
    ups = λ n i. f₃ n i ∙ sym (rows.ups n i);
    downs = λ n i. f₄ n i ∙ sym (rows.downs n i);
  }

module _ (l : Setting) (ok : Sound l) (j sg m : ℕ) (ds : List Account) (os : List Rules-office) (ns : List ℕ) (i : Inv l j sg true ds os ns) (within : m < l.offices)
    (s : State) (setting : SameTerms l s.books.setting) (even : Even s) (sh : Shows l.offices (state (coordinator_at j sg true) ds os) s) where
  abbrev b : Books
  b = s.books

  abbrev next : Rules-state
  next = two_turns l (rules_counted l (state (coordinator_at j sg true) ds os) m)

  table : m < length b.table
  table = omega (arith, even.tall, b.setting.few, setting.offices)

  table₁ : m < length (counted m b).table
  table₁ = omega (arith, length-set b.table m (record { step = (office b m).step; credit = (office b m).credit; remainder = cond (due m b) 0 ((office b m).remainder + 1) }), table)

  level : (n : ℕ) → n < l.offices → (office b n).step ≡ j
  level n less = even.level n (omega (arith, setting.offices)) ∙ sh.step

  slack_j : slack b.setting (step_in b.coordinator.phase) ≡ l.slack j
  slack_j = ap (slack b.setting) sh.step ∙ setting.slacks j i.high

  quota_is : quota b.setting (step_in b.coordinator.phase) ≡ rules_quota l j
  quota_is = ap (quota b.setting) sh.step ∙ ap (λ d. b.setting.offices * (d - 1)) (sym (setting.divisors j i.low i.high)) ∙ ap (λ k. k * (divisor l j - 1)) setting.offices

  due_slack : slack b.setting (office b m).step ≡ l.slack j
  due_slack = ap (slack b.setting) (level m within) ∙ setting.slacks j i.high

  counts_shows : (v : State) → due m b ≡ false → v ≡ at (counted m b) s.lanes → Shows l.offices next v
  counts_shows v no_due is =
      let ne = eqb-false ((office b m).remainder + 1) (slack b.setting (office b m).step) no_due in
      let small : (get_or os m no_rules_office).remainder < l.slack j = remainder_less l j m i.fit (omega (arith, i.size)) in
      let not_full : (get_or os m no_rules_office).remainder + 1 ≡ l.slack j → ⊥ = λ e. ne (omega (arith, sh.remainders m within, due_slack)) in
      subst (Shows l.offices next) (sym is)
      (shows l.offices next _ _ _ _ _ (kept_rows l ok j sg m ds os ns i within (omega arith)) (at (counted m b) s.lanes) sh.step sh.signals sh.closed
      (λ n less. counted_credit b m table n ∙ sh.credits n less)
      (λ n less. counted_on b m table no_due n ∙ ap (λ x. x + one n m) (sh.remainders n less))
      sh.ups sh.downs)

  module _ (is-due : due m b ≡ true) where
    abbrev b₁ : Books
    b₁ = counted m b

    abbrev s₁ : State
    s₁ = at b₁ s.lanes

    full_slack : l.slack j ≤ (get_or os m no_rules_office).remainder + 1
    full_slack = omega (arith, eqb-true ((office b m).remainder + 1) (slack b.setting (office b m).step) is-due, sh.remainders m within, due_slack)

    credit₁ : (h : Coordinator) (n : ℕ) → n < l.offices → (office (in_coordinator b₁ m h) n).credit ≡ (get_or ds n no_account).credit + one n m * l.slack j
    credit₁ h n less = coordinated_credit b₁ m table₁ h n ∙ ap (λ x. x + one n m * slack b.setting (step_in b.coordinator.phase)) (counted_credit b m table n ∙ sh.credits n less) ∙ ap (λ x. (get_or ds n no_account).credit + one n m * x) slack_j

    remainder₁ : (h : Coordinator) (n : ℕ) → n < l.offices → (office (in_coordinator b₁ m h) n).remainder ≡ zeroed n m (get_or os n no_rules_office).remainder
    remainder₁ h n less = coordinated_remainder b₁ m table₁ h n ∙ counted_zero b m table is-due n ∙ ap (zeroed n m) (sh.remainders n less)

    up₁ : (q : ℕ → ℕ) (d : ℕ) (v : State) → Carried m q d s₁ v → (n : ℕ) → n < l.offices → (lane v.lanes (2 * n)).sent ≡ (get_or ds n no_account).up.sent + one n m + q n
    up₁ q d v c n less = c.up n (omega (arith, setting.offices)) ∙ ap (λ x. x + one n m + q n) (sh.ups n less)

    down₁ : (q : ℕ → ℕ) (d : ℕ) (v : State) → Carried m q d s₁ v → (n : ℕ) → n < l.offices → (lane v.lanes (2 * n + 1)).sent ≡ (get_or os n no_rules_office).down.sent + d
    down₁ q d v c n less = c.down n (omega (arith, setting.offices)) ∙ ap (λ x. x + d) (sh.downs n less)

    after_shows : (v : State) → After m s₁ v → (Shows l.offices next v) × (v.books.setting ≡ b.setting)
    unfolding moved_record whole
    after_shows v (goes_on not_full is c) = (
      shows l.offices next _ _ _ _ _ (on_rows l ok j sg m ds os ns i within full_slack (omega (arith, i.phase.0, not_equal))) v
          (ap (λ (b : Books). step_in b.coordinator.phase) is ∙ sh.step) (ap (λ (b : Books). b.coordinator.signals) is ∙ ap (λ x. x + 1) sh.signals) (ap (λ (b : Books). is_closed b.coordinator.phase) is)
          (λ n less. ap (λ b. (office b n).credit) is ∙ credit₁ (record { phase = Open (step_in b.coordinator.phase); signals = b.coordinator.signals + 1 }) n less)
          (λ n less. ap (λ b. (office b n).remainder) is ∙ remainder₁ (record { phase = Open (step_in b.coordinator.phase); signals = b.coordinator.signals + 1 }) n less)
          (λ n less. omega (arith, up₁ (λ n. 0) 0 v c n less))
          (λ n less. omega (arith, down₁ (λ n. 0) 0 v c n less)),
      ap (λ (b : Books). b.setting) is,
    )
      where
        not_equal : sg + 1 ≡ rules_quota l j → ⊥
        not_equal e = not_full (omega (arith, sh.signals, quota_is))
    after_shows v (ends full-now last is c) = (
      shows l.offices next _ _ _ _ _ (last_rows l ok j sg m ds os ns i within full_slack (omega (arith, full-now, sh.signals, quota_is)) (omega (arith, last, setting.steps, sh.step))) v
          (ap (λ (b : Books). step_in b.coordinator.phase) is ∙ sh.step) (ap (λ (b : Books). b.coordinator.signals) is ∙ ap (λ x. x + 1) sh.signals) (ap (λ (b : Books). is_closed b.coordinator.phase) is)
          (λ n less. ap (λ b. (office b n).credit) is ∙ credit₁ (record { phase = Closed (step_in b.coordinator.phase); signals = b.coordinator.signals + 1 }) n less)
          (λ n less. ap (λ b. (office b n).remainder) is ∙ remainder₁ (record { phase = Closed (step_in b.coordinator.phase); signals = b.coordinator.signals + 1 }) n less)
          (λ n less. omega (arith, up₁ (λ n. 0) 1 v c n less))
          (down₁ (λ n. 0) 1 v c),
      ap (λ (b : Books). b.setting) is,
    )
    after_shows v (moves_on full-now more mo c) = (
      shows l.offices next _ _ _ _ _ (next_rows l ok j sg m ds os ns i within full_slack (omega (arith, full-now, sh.signals, quota_is)) (omega (arith, more, setting.steps, sh.step))) v
          (ap (λ (h : Coordinator). step_in h.phase) mo.coordinator ∙ ap (λ x. x + 1) sh.step)
          (ap (λ (h : Coordinator). h.signals) mo.coordinator ∙ sum_below q b.setting.offices ∙ ap (λ k. below k q) setting.offices ∙ below_same l.offices q (λ n. zeroed n m (get_or os n no_rules_office).remainder / l.slack (j + 1)) q_is)
          (ap (λ (h : Coordinator). is_closed h.phase) mo.coordinator)
          (λ n less.
          ap (λ (o : OfficeRecord). o.credit) (mo.records n (omega (arith, setting.offices)))
          ∙ ap (λ x. x + q n * slack b.setting (step_in b.coordinator.phase + 1)) (credit₁ (record { phase = Open (step_in b.coordinator.phase + 1); signals = 0 }) n less)
          ∙ ap (λ x. (get_or ds n no_account).credit + one n m * l.slack j + x * slack b.setting (step_in b.coordinator.phase + 1)) (q_is n less)
          ∙ ap (λ x. (get_or ds n no_account).credit + one n m * l.slack j + zeroed n m (get_or os n no_rules_office).remainder / l.slack (j + 1) * x) slack_next)
          (λ n less.
          ap (λ (o : OfficeRecord). o.remainder) (mo.records n (omega (arith, setting.offices)))
          ∙ ap (λ x. x % slack b.setting ((office (started m b₁) n).step + 1)) (remainder₁ (record { phase = Open (step_in b.coordinator.phase + 1); signals = 0 }) n less)
          ∙ ap (λ x. zeroed n m (get_or os n no_rules_office).remainder % x) (own_next n less))
          (λ n less. up₁ q 1 v c n less ∙ ap (λ x. (get_or ds n no_account).up.sent + one n m + x) (q_is n less))
          (down₁ q 1 v c),
      mo.setting,
    )
      where
        left : j < l.steps
        left = omega (arith, more, setting.steps, sh.step)

        q : ℕ → ℕ
        q n = whole b.setting (office (started m b₁) n)

        slack_next : slack b.setting (step_in b.coordinator.phase + 1) ≡ l.slack (j + 1)
        slack_next = ap (λ x. slack b.setting (x + 1)) sh.step ∙ setting.slacks (j + 1) (omega arith)

        own_next : (n : ℕ) → n < l.offices → slack b.setting ((office (started m b₁) n).step + 1) ≡ l.slack (j + 1)
        own_next n less = ap (λ x. slack b.setting (x + 1)) (coordinated_step b₁ m table₁ (record { phase = Open (step_in b.coordinator.phase + 1); signals = 0 }) n ∙ counted_step b m table n ∙ level n less) ∙ setting.slacks (j + 1) (omega arith)

        q_is : (n : ℕ) → n < l.offices → q n ≡ zeroed n m (get_or os n no_rules_office).remainder / l.slack (j + 1)
        q_is n less = ap (λ x. x / slack b.setting ((office (started m b₁) n).step + 1)) (remainder₁ (record { phase = Open (step_in b.coordinator.phase + 1); signals = 0 }) n less) ∙ ap (λ x. zeroed n m (get_or os n no_rules_office).remainder / x) (own_next n less)

  pub accepted_shows : (v : State) → Accepted m s v → (Shows l.offices next v) × (v.books.setting ≡ b.setting)
  accepted_shows v (counts no_due is) = (counts_shows v no_due is, ap (λ (s : State). s.books.setting) is)
  accepted_shows v (signals is-due after) = after_shows is-due v after

-- a rules state that is open
module _ (l : Setting) (ok : Sound l) (r : Rules-state) (ns : List ℕ) (good-r : Good l r ns) (m : ℕ) (within : m < l.offices) (going : r.coordinator.is_open ≡ true)
    (s : State) (setting : SameTerms l s.books.setting) (even : Even s) (sh : Shows l.offices r s) where
  open_shows : (v : State) → Accepted m s v → (Shows l.offices (two_turns l (rules_counted l r m)) v) × (v.books.setting ≡ s.books.setting)
  open_shows v acc =
      let is : r ≡ state (coordinator_at r.coordinator.step r.coordinator.signals true) r.accounts r.offices = ap (λ b. state (coordinator_at r.coordinator.step r.coordinator.signals b) r.accounts r.offices) going in
      let z = accepted_shows l ok r.coordinator.step r.coordinator.signals m r.accounts r.offices ns (subst (λ b. Inv l r.coordinator.step r.coordinator.signals b r.accounts r.offices ns) going good-r) within s setting even (subst (λ r. Shows l.offices r s) is sh) v acc in
      (subst (λ r. Shows l.offices (two_turns l (rules_counted l r m)) v) (sym is) z.0, z.1)

not_true : (x : Bool) → false ≡ not x → x ≡ true
not_true true e = refl
not_true false e = e

not_false : (x : Bool) → true ≡ not x → x ≡ false
not_false true e = e
not_false false e = refl

module _ (l : Setting) (h : List ℕ) (used : Bool) (s : State) (re : Held l h used s) (n : ℕ) where
  abbrev t : SettingTable
  t = s.books.setting

  bad_is : (eqb n 0 || ltb l.offices n) ≡ (eqb n 0 || ltb t.offices n)
  bad_is = ap (λ k. eqb n 0 || ltb k n) (sym re.setting.offices)

  -- a lot that the rules refuse
  pub refused_next : (f : Fault) → answer l (ended l h) n ≡ Err f → Next l h n used s (Err f)
  refused_next f is =
      let stays : lot l (ended l h) n ≡ ended l h = cond-false _ _ _ (ap is_ok is) in
      record {
        reached = record { fresh = re.fresh; setting = re.setting; even = re.even; shows = subst (λ r. Shows l.offices r s) (sym (run_more l (rules_opened l) h n ∙ stays)) re.shows };
        answer = sym is;
      }

  pub unknown_next : (eqb n 0 || ltb t.offices n) ≡ true → Next l h n used s (Err (fault In-window NoSuchOfficeOrLane n))
  unknown_next bad = refused_next (fault In-window NoSuchOfficeOrLane n) (cond-true _ _ _ (bad_is ∙ bad))

  pub shut_next : (eqb n 0 || ltb t.offices n) ≡ false → is_closed s.books.coordinator.phase ≡ true → Next l h n used s (Err (fault In-window WindowClosed n))
  shut_next good-n shut =
      let closed : (ended l h).coordinator.is_open ≡ false = not_false _ (sym shut ∙ re.shows.closed) in
      refused_next (fault In-window WindowClosed n) (cond-false _ _ _ (bad_is ∙ good-n) ∙ cond-false _ _ _ closed)

  pub accepted_next : (eqb n 0 || ltb t.offices n) ≡ false → is_closed s.books.coordinator.phase ≡ false → (v : State) → Even v → Accepted (n - 1) s v → Next l h n used v (Ok tt)
  accepted_next good-n going v even_v acc =
      let is_open : (ended l h).coordinator.is_open ≡ true = not_true _ (sym going ∙ re.shows.closed) in
      let yes : answer l (ended l h) n ≡ Ok tt = cond-false _ _ _ (bad_is ∙ good-n) ∙ cond-true _ _ _ is_open in
      let goes : lot l (ended l h) n ≡ two_turns l (rules_counted l (ended l h) (n - 1)) = cond-true _ _ _ (ap is_ok yes) in
      let parts = or_parts (eqb n 0) (ltb t.offices n) good-n in
      let not-0 : n ≡ 0 → ⊥ = eqb-false n 0 parts.0 in
      let most : n ≤ t.offices = ltb-false _ _ parts.1 in
      let ok = sound l t re.setting in
      let z = open_shows l ok (ended l h) (Counts-of l h) (good l ok h) (n - 1) (omega (arith, re.setting.offices)) is_open s re.setting re.even re.shows v acc in
      record {
        reached = record { fresh = re.fresh; setting = subst (SameTerms l) (sym z.1) re.setting; even = even_v; shows = subst (λ r. Shows l.offices r v) (sym (run_more l (rules_opened l) h n ∙ goes)) z.0 };
        answer = sym yes;
      }
