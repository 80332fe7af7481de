-- Turns until nothing waits are two turns, where two leave nothing; and what any lot leaves alone. Assumes nothing.
use Rattle.std.proofs.Common.{◌≡◌, ℕ, ◌+◌, ◌-◌, ◌*◌, ◌<◌, ◌≤◌, Bool, true, false, cond, ◌||◌, eqb, ltb, List, [], length, Ok, Err, Result, sym, refl, ap, ◌∙◌, subst, ⊎_elim, arith}
use Rattle.std.proofs.lemmas.List.{length-set, get_or-replicate}
use Rattle.std.proofs.lemmas.Bool.{cond-true, cond-false, or_parts, eqb-false, ltb-false}
use Rattle.fault.specs.declared.Fault.{Fault}
use Rattle.post.specs.Lanes.{Lane, no_lane, send, sends, send_answer, joined, Unused}
use Rattle.post.specs.Outs.{Out, out}
use Rattle.rules.specs.Rules.{Setting, Account, account, Office, office as rules_office, no_office as no_rules_office, no_account}
use Rattle.rules.specs.Runs.{Answer}
use Rattle.window.specs.declared.setting_table.SettingTable.{SettingTable}
use Rattle.window.specs.declared.books.Books.{Books}
use Rattle.window.specs.declared.books.OfficeRecord.{OfficeRecord}
use Rattle.window.specs.declared.checked_books.CheckedBooks.{CheckedBooks}
use Rattle.window.specs.Sequences.{fine, go_on, then}
use Rattle.window.specs.Parts.{step_in, is_closed, office, no_office, counted}
use Rattle.window.specs.Turns.{State, at, with_lanes, turn, settle, signal_and_settle, Busy, Calm, Settled, calm, again, stops, Signals, refused, sent, accepted, Accepts, quiet, signalled_on, admitted}
use Rattle.window.specs.Opening.{opened}
use Rattle.window.proofs.After.{Accepted}
use Rattle.window.proofs.Even.{Empty, Even}
use Rattle.window.proofs.Held.{Held, Next, SameTerms}
use Rattle.window.proofs.Link.{unknown_next, shut_next, accepted_next}
use Rattle.window.proofs.Shown.{lane_few}
use Rattle.window.proofs.Calm.{empty_turn}
use Rattle.window.proofs.Lots.{even_accepted}
use Rattle.window.proofs.Falls.{turn_same}

abbrev state_of : Out State (Unit {0}) → State
state_of o = o.state

fine_state : {s t : State} → fine s ≡ fine t → s ≡ t
fine_state e = ap (λ (o : Out State (Unit {0})). o.state) e

err_fine : {X : Type 0} {s t : State} {e : Fault} → out s (Err e) ≡ fine t → X
err_fine p = let a = ap (λ (o : Out State (Unit {0})). o.answer) p in let z : ◌≡◌ {A = ℕ} 0 1 = cc in absurd (omega arith)

-- no lane of an office holds anything
calm_empty : (s : State) → Calm s → length s.lanes ≡ 2 * s.books.setting.offices → Empty s
calm_empty s c long = record { long = long; up = λ i l. (c i l).0; down = λ i l. (c i l).1 }

empty_busy : {X : Type 0} (s : State) → Empty s → Busy s → X
empty_busy s e b = absurd (⊎_elim (λ w. omega (arith, w, ap length (e.up b.0 b.1))) (λ w. omega (arith, w, ap length (e.down b.0 b.1))) b.2)

done : {v : State} {o : Out State (Unit {0})} → Empty v → Settled v o → o ≡ fine v
done e (calm c) = refl
done {v} e (again b t r) = empty_busy v e b
done {v} e (stops b t) = empty_busy v e b

-- the second turn leaves nothing
once_more : {u v : State} {o : Out State (Unit {0})} → length u.lanes ≡ 2 * u.books.setting.offices → turn u ≡ fine v → Empty v → Settled u o → o ≡ fine v
once_more {u} long e none (calm c) = sym (empty_turn u (calm_empty u c long)) ∙ e
once_more {o} long e none (again b t r) = let same = fine_state (t ∙ e) in done none (subst (λ s. Settled s o) same r)
once_more long e none (stops b t) = err_fine (t ∙ e)

twice : {s u v : State} {o : Out State (Unit {0})} → length s.lanes ≡ 2 * s.books.setting.offices → turn s ≡ fine u → turn u ≡ fine v → Empty v → Settled s o → o ≡ fine v
twice {s} {u} long first second none (calm c) =
    let still = fine_state (sym first ∙ empty_turn s (calm_empty s c long)) in
    ap fine (sym still) ∙ once_more (subst (λ s. length s.lanes ≡ 2 * s.books.setting.offices) (sym still) long) second none (calm (subst Calm (sym still) c))
twice {s} {u} {o} long first second none (again b t r) =
    let same = fine_state (t ∙ first) in
    let kept = turn_same s in
    let at-u : (turn s).state ≡ u = ap state_of first in
    let long-u : length u.lanes ≡ 2 * u.books.setting.offices =
    subst (λ u. length u.lanes ≡ 2 * u.books.setting.offices) at-u (kept.0 ∙ long ∙ ap (λ (t : SettingTable). 2 * t.offices) (sym kept.1)) in
    once_more long-u second none (subst (λ s. Settled s o) same r)
twice long first second none (stops b t) = err_fine (t ∙ first)

-- what a program that goes well went through
went_by : (a : Result (Unit {0}) Fault) (s : State) (f : State → Unit {0} → Out State (Unit {0})) {v : State} → go_on a s f ≡ fine v → (a ≡ Ok tt) × (f s tt ≡ fine v)
went_by (Ok x) s f e = (refl, e)
went_by (Err x) s f e = err_fine e

-- a signal with turns until nothing waits is the signal with two turns
sends_long : (a : Result (Unit {0}) Fault) (j b : ℕ) (ls : List Lane) → length (sends a ls (joined ls j b)).state ≡ length ls
sends_long (Ok u) j b ls = length-set ls j _
sends_long (Err e) j b ls = refl

pub until : (i : ℕ) (s : State) {v : State} {o : Out State (Unit {0})} → length s.lanes ≡ 2 * s.books.setting.offices → signal_and_settle i s ≡ fine v → Empty v → Signals i s o → o ≡ fine v
unfolding signal_and_settle then
until i s long e none (refused t) =
    let m = with_lanes s.books (send (2 * i) (32 + (office s.books i).step) s.lanes) in
    let w = went_by m.answer m.state (λ t _. settle t) e in
    let a = ap (λ (o : Out State (Unit {0})). o.answer) t ∙ w.0 in
    let z : ◌≡◌ {A = ℕ} 0 1 = cc in absurd (omega arith)
until i s long e none (sent {t} is r) =
    let m = with_lanes s.books (send (2 * i) (32 + (office s.books i).step) s.lanes) in
    let w = went_by m.answer m.state (λ t _. settle t) e in
    let at-t : m.state ≡ t = ap state_of (sym is) in
    let turns : settle t ≡ fine _ = ap settle (sym at-t) ∙ w.1 in
    let x = went_by (turn t).answer (turn t).state (λ t _. turn t) turns in
    let long_t : length t.lanes ≡ 2 * t.books.setting.offices = subst (λ t. length t.lanes ≡ 2 * t.books.setting.offices) at-t (sends_long (send_answer s.lanes (2 * i)) (2 * i) (32 + (office s.books i).step) s.lanes ∙ long) in
    twice long_t (ap (out (turn t).state) x.0) x.1 none r

-- between lots, the two say the same
accepts_is : (d : CheckedBooks) (ls : List Lane) (i : ℕ) {o : Out State (Unit {0})} {v : State} → Even (at d.books ls) → accepted i (at d.books ls) ≡ fine v → Empty v → Accepts i (at d.books ls) o → o ≡ fine v
accepts_is d ls i even is none (quiet e) = sym (cond-false _ _ _ e) ∙ is
accepts_is d ls i even is none (signalled_on e r) = until i (at (counted i d.books) ls) even.empty.long (sym (cond-true _ _ _ e) ∙ is) none r

-- what came of a taken lot, of a window that a run led to
pub accepts_next : (d : CheckedBooks) (ls : List Lane) (l : Setting) (h : List ℕ) (used : Bool) (n : ℕ) → Held l h used (at d.books ls) → (eqb n 0 || ltb d.books.setting.offices n) ≡ false → is_closed d.books.coordinator.phase ≡ false
    → (v : State) (r : Result (Unit {0}) Fault) → Accepts (n - 1) (at d.books ls) (out v r) → (Next l h n used v r) × (r ≡ Ok tt)
accepts_next d ls l h used n re good-n going v r acc =
    let parts = or_parts (eqb n 0) (ltb d.books.setting.offices n) good-n in
    let not-0 : n ≡ 0 → ⊥ = eqb-false n 0 parts.0 in
    let most : n ≤ d.books.setting.offices = ltb-false _ _ parts.1 in
    let z = even_accepted d ls re.even (n - 1) (omega arith) going (lane_few l h used (at d.books ls) re) in
    let is : out v r ≡ fine z.0 = accepts_is d ls (n - 1) re.even z.1 z.2.empty acc in
    let v-is : v ≡ z.0 = ap state_of is in
    let r-is : r ≡ Ok tt = ap (λ (o : Out State (Unit {0})). o.answer) is in
    (subst (λ r. Next l h n used v r) (sym r-is) (accepted_next l h used (at d.books ls) re n good-n going v (subst Even (sym v-is) z.2) (subst (Accepted (n - 1) (at d.books ls)) (sym v-is) z.3)), r-is)

-- what a lot leaves alone, in any window: the number of lanes and the setting
pub record Alone (s v : State) : Type 0 where
  pub long : length v.lanes ≡ length s.lanes
  pub setting : v.books.setting ≡ s.books.setting

alone_by : {s t v : State} → Alone s t → Alone t v → Alone s v
alone_by a b = record { long = b.long ∙ a.long; setting = b.setting ∙ a.setting }

turn_alone : {s t : State} {r : Result (Unit {0}) Fault} → out t r ≡ turn s → Alone s t
turn_alone {s} {t} e =
    let is : (turn s).state ≡ t = ap state_of (sym e) in
    let same = turn_same s in
    subst (Alone s) is (record { long = same.0; setting = same.1 })

settled_alone : {s : State} {o : Out State (Unit {0})} → Settled s o → Alone s o.state
settled_alone (calm c) = record { long = refl; setting = refl }
settled_alone (again b t r) = alone_by (turn_alone t) (settled_alone r)
settled_alone (stops b t) = turn_alone t

send_alone : (i : ℕ) (s : State) {t : State} {r : Result (Unit {0}) Fault} → out t r ≡ with_lanes s.books (send (2 * i) (32 + (office s.books i).step) s.lanes) → Alone s t
send_alone i s {t} e =
    let is : (with_lanes s.books (send (2 * i) (32 + (office s.books i).step) s.lanes)).state ≡ t = ap state_of (sym e) in
    subst (Alone s) is (record { long = sends_long (send_answer s.lanes (2 * i)) (2 * i) (32 + (office s.books i).step) s.lanes; setting = refl })

signals_alone : (i : ℕ) (s : State) {o : Out State (Unit {0})} → Signals i s o → Alone s o.state
signals_alone i s (refused e) = send_alone i s e
signals_alone i s (sent e r) = alone_by (send_alone i s e) (settled_alone r)

pub accepts_alone : (i : ℕ) (s : State) {o : Out State (Unit {0})} → Accepts i s o → Alone s o.state
accepts_alone i s (quiet e) = record { long = refl; setting = refl }
accepts_alone i s (signalled_on e r) = let a = signals_alone i (at (counted i s.books) s.lanes) r in record { long = a.long; setting = a.setting }

-- what `admitted` says
admitted_so : (used bad shut : Bool) (n i : ℕ) (f g h : Fault) → Ok i ≡ cond used (Err f) (cond bad (Err g) (cond shut (Err h) (Ok (n - 1)))) → (used ≡ false) × (bad ≡ false) × (shut ≡ false) × (i ≡ n - 1)
admitted_so false false false n i f g h e = (refl, refl, refl, cc)
admitted_so true b c n i f g h e = let z : ◌≡◌ {A = ℕ} 0 1 = cc in absurd (omega arith)
admitted_so false true c n i f g h e = let z : ◌≡◌ {A = ℕ} 0 1 = cc in absurd (omega arith)
admitted_so false false true n i f g h e = let z : ◌≡◌ {A = ℕ} 0 1 = cc in absurd (omega arith)

pub admitted_next : (d : CheckedBooks) (ls : List Lane) (l : Setting) (h : List ℕ) (used : Bool) (n i : ℕ) → Held l h used (at d.books ls) → Ok i ≡ admitted used n d.books
    → (v : State) (r : Answer) → Accepts i (at d.books ls) (out v r) → (Next l h n used v r) × (r ≡ Ok tt)
admitted_next d ls l h used n i re is v r acc =
    let z = admitted_so used (eqb n 0 || ltb d.books.setting.offices n) (is_closed d.books.coordinator.phase) n i _ _ _ is in
    accepts_next d ls l h used n re z.1 z.2 v r (subst (λ i. Accepts i (at d.books ls) (out v r)) z.3 acc)

refused_so : (l : Setting) (h : List ℕ) (used : Bool) (s : State) (n : ℕ) (f f₅ f₁ f₂ : Fault) (bad shut : Bool) → used ≡ false → Err f ≡ cond used (Err f₅) (cond bad (Err f₁) (cond shut (Err f₂) (Ok (n - 1))))
    → (bad ≡ true → Next l h n used s (Err f₁)) → (bad ≡ false → shut ≡ true → Next l h n used s (Err f₂)) → Next l h n used s (Err f)
refused_so l h used s n f f₅ f₁ f₂ true shut fresh e p q = let z : ◌≡◌ {A = Result ℕ Fault} (Err f₁) (Err f) = sym (e ∙ cond-false _ _ _ fresh) in let y : f₁ ≡ f = cc in subst (λ f. Next l h n used s (Err f)) y (p refl)
refused_so l h used s n f f₅ f₁ f₂ false true fresh e p q = let z : ◌≡◌ {A = Result ℕ Fault} (Err f₂) (Err f) = sym (e ∙ cond-false _ _ _ fresh) in let y : f₂ ≡ f = cc in subst (λ f. Next l h n used s (Err f)) y (q refl refl)
refused_so l h used s n f f₅ f₁ f₂ false false fresh e p q = let z : Err f ≡ Ok (n - 1) = e ∙ cond-false _ _ _ fresh in let y : ◌≡◌ {A = ℕ} 0 1 = cc in absurd (omega arith)

pub refused_next : (d : CheckedBooks) (ls : List Lane) (l : Setting) (h : List ℕ) (used : Bool) (n : ℕ) (f : Fault) → Held l h used (at d.books ls) → Err f ≡ admitted used n d.books → Next l h n used (at d.books ls) (Err f)
refused_next d ls l h used n f re is =
    refused_so l h used (at d.books ls) n f _ _ _ (eqb n 0 || ltb d.books.setting.offices n) (is_closed d.books.coordinator.phase) re.fresh is (unknown_next l h used (at d.books ls) re n) (shut_next l h used (at d.books ls) re n)

-- a window opened on an unused post
pub opened_held : (l : Setting) (t : SettingTable) (ls : List Lane) (b : Books) (used : Bool) → SameTerms l t → b ≡ opened t → used ≡ false → Unused ls → Even (at b ls) → Held l [] used (at b ls)
opened_held l t ls b used same is fresh unused even = record {
  fresh = fresh;
  setting = subst (λ b. SameTerms l b.setting) (sym is) same;
  even = even;
  shows = record {
    step = ap (λ (b : Books). step_in b.coordinator.phase) is;
    signals = ap (λ (b : Books). b.coordinator.signals) is;
    closed = ap (λ (b : Books). is_closed b.coordinator.phase) is;
    credits = λ n less. ap (λ b. (office b n).credit) is ∙ ap (λ (o : OfficeRecord). o.credit) (get_or-replicate 64 n (record { step = 1; credit = 0; remainder = 0 }) no_office (few n less)) ∙ ap (λ (p : Account). p.credit) (sym (get_or-replicate l.offices n (account 0 no_lane) no_account less));
    remainders = λ n less. ap (λ b. (office b n).remainder) is ∙ ap (λ (o : OfficeRecord). o.remainder) (get_or-replicate 64 n (record { step = 1; credit = 0; remainder = 0 }) no_office (few n less)) ∙ ap (λ (p : Office). p.remainder) (sym (get_or-replicate l.offices n (rules_office 0 1 no_lane) no_rules_office less));
    ups = λ n less. unused (2 * n) (in_lanes n less (2 * n) (omega arith)) ∙ ap (λ (p : Account). p.up.sent) (sym (get_or-replicate l.offices n (account 0 no_lane) no_account less));
    downs = λ n less. unused (2 * n + 1) (in_lanes n less (2 * n + 1) (omega arith)) ∙ ap (λ (p : Office). p.down.sent) (sym (get_or-replicate l.offices n (rules_office 0 1 no_lane) no_rules_office less));
  };
}
  where
    few : (n : ℕ) → n < l.offices → n < 64
    few n less = omega (arith, same.offices, t.few)

    in_lanes : (n : ℕ) → n < l.offices → (j : ℕ) → j < 2 * n + 2 → j < length ls
    in_lanes n less j low = omega (arith, even.empty.long, ap (λ (b : Books). b.setting.offices) is, same.offices)
