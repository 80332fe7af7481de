-- The laws of runs, of a window that a run led to. Assumes nothing.
use Rattle.std.proofs.Common.{◌≡◌, ℕ, ◌+◌, ◌*◌, ◌/◌, ◌%◌, ◌<◌, ◌≤◌, Bool, true, false, cond, leb, List, length, sym, refl, ap, ◌∙◌, subst, ⊎_elim, arith}
use Rattle.std.proofs.lemmas.List.{get_or_past}
use Rattle.std.proofs.lemmas.Bool.{cases_eq, cases_lt, cond-false, lt-leb, leb-true}
use Rattle.post.specs.Lanes.{Lane, lane, no_lane}
use Rattle.rules.specs.Rules.{opened}
use Rattle.rules.specs.Runs.{Answer, Runs, Books as Books-shown, books, accepted_at}
use Rattle.rules.specs.Laws.{ClosesAtCeiling, FollowsFromLots, OrderDoesNotMatter}
use Rattle.rules.proofs.Machine.{Sound}
use Rattle.rules.proofs.Laws.{run_is, run_lawful, order_of_runs}
use Rattle.window.specs.declared.setting_table.SettingTable.{SettingTable}
use Rattle.window.specs.declared.checked_books.CheckedBooks.{CheckedBooks}
use Rattle.window.specs.Turns.{State, at}
use Rattle.window.specs.Parts.{slack}
use Rattle.window.specs.Windows.{setting_for, setting_in, shown, ReachedBy, LawfulBooks, NothingWaits, SameSetting}
use Rattle.window.proofs.Even.{Empty}
use Rattle.window.proofs.Link.{sound}
use Rattle.window.proofs.Shown.{own_terms, to_held}

sound_in : (t : SettingTable) → Sound (setting_in t)
sound_in t = sound (setting_in t) t (own_terms t)

pub lawful : (lots : List ℕ) (rs : List Answer) (used : Bool) (s : State) → ReachedBy lots rs used s → LawfulBooks (setting_in s.books.setting) lots rs (shown s)
lawful lots rs used s re =
    let l = setting_in s.books.setting in
    let laws = run_lawful l (sound_in s.books.setting) lots rs re.after re.runs in
    record {
      closes = subst (ClosesAtCeiling l (λ i. accepted_at i lots rs)) (sym re.books) laws.closes;
      follows = subst (FollowsFromLots l (λ i. accepted_at i lots rs)) (sym re.books) laws.follows;
      in_all = laws.in_all;
      settled = λ others end r.
          let e = run_is l (sound_in s.books.setting) lots rs re.after re.runs in
          let o = run_is l (sound_in s.books.setting) lots others end r in
          (sym o.0 ∙ e.0, ap books (sym o.1 ∙ e.1) ∙ sym re.books);
    }

empty_lanes : (s : State) → Empty s → NothingWaits s.lanes
empty_lanes s e i = ⊎_elim
    (λ (less : i < length s.lanes).
    let n : i / 2 < s.books.setting.offices = omega (arith, e.long) in
    ⊎_elim
    (λ (even : i % 2 ≡ 0). let m : i ≡ 2 * (i / 2) = omega arith in ap (λ i. length (lane s.lanes i).waiting) m ∙ ap length (e.up (i / 2) n))
    (λ (odd : i % 2 ≡ 0 → ⊥). let m : i ≡ 2 * (i / 2) + 1 = omega arith in ap (λ i. length (lane s.lanes i).waiting) m ∙ ap length (e.down (i / 2) n))
    (cases_eq (i % 2) 0))
    (λ (past : length s.lanes ≤ i). ap (λ (l : Lane). length l.waiting) (get_or_past s.lanes i no_lane past))
    (cases_lt i (length s.lanes))

pub nothing_waits : (d : CheckedBooks) (ls : List Lane) (used : Bool) (lots : List ℕ) (rs : List Answer) → ReachedBy lots rs used (at d.books ls) → NothingWaits ls
nothing_waits d ls used lots rs re = empty_lanes (at d.books ls) (to_held d ls used lots rs re).even.empty

-- settings that answer alike are one setting
past_none : (t : SettingTable) (j : ℕ) → t.steps < j → (setting_in t).slack j ≡ 0
past_none t j past = cond-false _ _ _ (lt-leb j t.steps past)

pub one_setting : (t t' : SettingTable) → SameSetting (setting_in t) (setting_in t') → setting_in t ≡ setting_in t'
one_setting t t' same =
    let k = same.offices in
    let e = same.ladder.steps in
    let slacks : (j : ℕ) → (setting_in t).slack j ≡ (setting_in t').slack j = λ j. ⊎_elim
    (λ (past : t.steps < j). past_none t j past ∙ sym (past_none t' j (omega arith)))
    (λ (le : j ≤ t.steps). same.ladder.slacks j le)
    (cases_lt t.steps j) in
    λ i. record { offices = k i; steps = e i; slack = λ j. slacks j i }

pub order : (s s' : State) (lots lots' : List ℕ) (rs rs' : List Answer) (used used' : Bool) → SameSetting (setting_in s.books.setting) (setting_in s'.books.setting)
    → ReachedBy lots rs used s → ReachedBy lots' rs' used' s'
    → OrderDoesNotMatter (setting_in s.books.setting) (λ i. accepted_at i lots rs) (λ i. accepted_at i lots' rs') (shown s) (shown s')
order s s' lots lots' rs rs' used used' same re re' =
    let l = setting_in s.books.setting in
    let one = one_setting s.books.setting s'.books.setting same in
    let r' : Runs l (opened l) lots' rs' re'.after = subst (λ l. Runs l (opened l) lots' rs' re'.after) (sym one) re'.runs in
    let laws = order_of_runs l (sound_in s.books.setting) lots lots' rs rs' re.after re'.after re.runs r' in
    let P : Books-shown → Books-shown → Type 0 = OrderDoesNotMatter l (λ i. accepted_at i lots rs) (λ i. accepted_at i lots' rs') in
    subst (λ b. P b (shown s')) (sym re.books) (subst (P _) (sym re'.books) laws)

-- the setting that was read off a ladder
within : (b : Bool) (x y : ℕ) → (b ≡ true → x ≡ y) → cond b x 0 ≡ cond b y 0
within true x y e = e refl
within false x y e = refl

pub setting_read : (t : SettingTable) (k e : ℕ) (f : ℕ → ℕ) → t.offices ≡ k → t.steps ≡ e → ((j : ℕ) → j ≤ t.steps → slack t j ≡ f j) → setting_in t ≡ setting_for k e f
setting_read t k e f offices steps slacks =
    let same : (j : ℕ) → (setting_in t).slack j ≡ (setting_for k e f).slack j = λ j.
    ap (λ e. cond (leb j e) (slack t j) 0) steps ∙ within (leb j e) (slack t j) (f j) (λ yes. slacks j (let le : j ≤ e = leb-true j e yes in omega arith)) in
    λ i. record { offices = offices i; steps = steps i; slack = λ j. same j i }
