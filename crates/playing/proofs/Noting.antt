-- One lot more of a day: what is counted stays what the answers say. Assumes nothing.
use Rattle.std.proofs.Common.{◌≡◌, ℕ, suc, ◌+◌, ◌-◌, ◌≤◌, Bool, true, false, cond, not, ◌||◌, eqb, ltb, List, [], ◌∷◌, ◌++◌, length, take, is_ok, Some, None, Ok, Err, Option, sym, refl, ap, ◌∙◌, subst, ⊎_elim, arith}
use Rattle.std.proofs.lemmas.List.{take-append-le, take_all, length_push}
use Rattle.std.proofs.lemmas.Bool.{cases_Bool, true≢false, cond-true}
use Rattle.fault.specs.declared.Fault.{Fault}
use Rattle.post.specs.Lanes.{Lane}
use Rattle.rules.specs.Lists.{total}
use Rattle.rules.specs.Rules.{Setting, State as Rules-state, opened}
use Rattle.rules.specs.Runs.{Answer, Runs, over, refused, accepted, Books as Books-shown, accepted_in_all}
use Rattle.window.specs.declared.Window.{Window}
use Rattle.window.specs.declared.books.Books.{Books}
use Rattle.window.specs.Turns.{admitted}
use Rattle.window.specs.Parts.{is_closed as closed_in}
use Rattle.window.specs.Windows.{setting_of, books_of, Reached}
use Rattle.playing.specs.declared.day.Played.{Played}
use Rattle.playing.specs.declared.tally.Tally.{Tally}
use Rattle.playing.specs.Tallies.{is_closed, late, counted, noted}
use Rattle.playing.specs.Days.{ClosingLot, ClosedBy, DayAt}

total_push : {X : Type 0} (f : X → ℕ) (xs : List X) (x : X) → total f (xs ++ x ∷ []) ≡ total f xs + f x
total_push f [] x = omega arith
total_push f (y ∷ xs) x = omega (arith, total_push f xs x)

-- a run has an answer for each lot
runs_long : (l : Setting) {s t : Rules-state} {h : List ℕ} {rs : List Answer} → Runs l s h rs t → length rs ≡ length h
runs_long l over = refl
runs_long l (refused e r) = ap suc (runs_long l r)
runs_long l (accepted e c r) = ap suc (runs_long l r)

take_before : {X : Type 0} (n : ℕ) (xs : List X) (x : X) → n ≤ length xs → take n (xs ++ x ∷ []) ≡ take n xs
take_before n xs x le = take-append-le n xs (x ∷ []) le

take_whole : {X : Type 0} (n : ℕ) (xs : List X) (x : X) → n ≡ length xs → take n (xs ++ x ∷ []) ≡ xs
take_whole n xs x e = take_before n xs x (omega arith) ∙ take_all n xs (omega arith)

take_pushed : {X : Type 0} (n : ℕ) (xs : List X) (x : X) → n ≡ length xs → take (n + 1) (xs ++ x ∷ []) ≡ xs ++ x ∷ []
take_pushed n xs x e = take_all (n + 1) (xs ++ x ∷ []) (omega (arith, length_push xs x))

-- a lot that closed the window stays that lot
later : (l : Setting) (lots : List ℕ) (rs : List Answer) (n : ℕ) (a : Answer) (number : ℕ) → length rs ≡ length lots → ClosingLot l lots rs number → ClosingLot l (lots ++ n ∷ []) (rs ++ a ∷ []) number
later l lots rs n a number long c =
    let here = c.there in
    let h₀ = take_before c.before lots n (omega arith) in
    let h₁ = take_before (c.before + 1) lots n (omega arith) in
    let r₀ = take_before c.before rs a (omega arith) in
    let r₁ = take_before (c.before + 1) rs a (omega arith) in
    record {
      before = c.before;
      there = omega (arith, length_push lots n);
      open_state = c.open_state;
      open_run = subst (λ h. Runs l (opened l) h (take c.before (rs ++ a ∷ [])) c.open_state) (sym h₀) (subst (λ rs. Runs l (opened l) (take c.before lots) rs c.open_state) (sym r₀) c.open_run);
      was_open = c.was_open;
      closed_state = c.closed_state;
      closed_run = subst (λ h. Runs l (opened l) h (take (c.before + 1) (rs ++ a ∷ [])) c.closed_state) (sym h₁) (subst (λ rs. Runs l (opened l) (take (c.before + 1) lots) rs c.closed_state) (sym r₁) c.closed_run);
      is_closed = c.is_closed;
      counted = c.counted ∙ ap accepted_in_all (sym r₁);
    }

-- the lot that has just closed the window
closes_now : (l : Setting) (lots : List ℕ) (rs : List Answer) (n : ℕ) (a : Answer) (s t : Rules-state) → Runs l (opened l) lots rs s → s.coordinator.is_open ≡ true
    → Runs l (opened l) (lots ++ n ∷ []) (rs ++ a ∷ []) t → t.coordinator.is_open ≡ false → ClosingLot l (lots ++ n ∷ []) (rs ++ a ∷ []) (accepted_in_all (rs ++ a ∷ []))
closes_now l lots rs n a s t r was_open r' is_closed =
    let long = runs_long l r in
    let h₀ = take_whole (length lots) lots n refl in
    let r₀ = take_whole (length lots) rs a (sym long) in
    let h₁ = take_pushed (length lots) lots n refl in
    let r₁ = take_pushed (length lots) rs a (sym long) in
    record {
      before = length lots;
      there = omega (arith, length_push lots n);
      open_state = s;
      open_run = subst (λ h. Runs l (opened l) h (take (length lots) (rs ++ a ∷ [])) s) (sym h₀) (subst (λ rs. Runs l (opened l) lots rs s) (sym r₀) r);
      was_open = was_open;
      closed_state = t;
      closed_run = subst (λ h. Runs l (opened l) h (take (length lots + 1) (rs ++ a ∷ [])) t) (sym h₁) (subst (λ rs. Runs l (opened l) (lots ++ n ∷ []) rs t) (sym r₁) r');
      is_closed = is_closed;
      counted = ap accepted_in_all (sym r₁);
    }

-- no lot is accepted once the window is closed
shut_so : (used bad shut : Bool) (n : ℕ) (f₅ f₁ f₂ : Fault) → shut ≡ true → (f : Fault) × (cond used (Err f₅) (cond bad (Err f₁) (cond shut (Err f₂) (Ok (n - 1)))) ≡ Err f)
shut_so true bad shut n f₅ f₁ f₂ e = (f₅, refl)
shut_so false true shut n f₅ f₁ f₂ e = (f₁, refl)
shut_so false false shut n f₅ f₁ f₂ e = (f₂, cond-true _ _ _ e)

pub open_if_accepted : (used : Bool) (n : ℕ) (b : Books) (a : Answer) → ((f : Fault) → admitted used n b ≡ Err f → a ≡ Err f) → a ≡ Ok tt → closed_in b.coordinator.phase ≡ false
open_if_accepted used n b a refuses is = ⊎_elim
    (λ (shut : closed_in b.coordinator.phase ≡ true).
    let z = shut_so used (eqb n 0 || ltb b.setting.offices n) (closed_in b.coordinator.phase) n _ _ _ shut in
    let err = refuses z.0 z.1 in
    let y : ◌≡◌ {A = ℕ} 0 1 = cc in absurd (omega arith))
    (λ (going : closed_in b.coordinator.phase ≡ false). going)
    (cases_Bool (closed_in b.coordinator.phase))

-- which lot closed the window, after one answer more
closing_next : (l : Setting) (lots : List ℕ) (rs : List Answer) (n : ℕ) (b b' : Books-shown) (s t : Rules-state) (number : ℕ) (c : Option ℕ) (closed : Bool)
    → Runs l (opened l) lots rs s → s.coordinator.is_open ≡ b.is_open → Runs l (opened l) (lots ++ n ∷ []) (rs ++ Ok tt ∷ []) t → t.coordinator.is_open ≡ b'.is_open
    → not closed ≡ b'.is_open → b.is_open ≡ true → number ≡ accepted_in_all (rs ++ Ok tt ∷ []) → ClosedBy l lots rs b c
    → ClosedBy l (lots ++ n ∷ []) (rs ++ Ok tt ∷ []) b' (cond closed (Some number) c)
closing_next l lots rs n b b' s t number c true r e r' e' is going num by =
    (sym is, subst (ClosingLot l (lots ++ n ∷ []) (rs ++ Ok tt ∷ [])) (sym num) (closes_now l lots rs n (Ok tt) s t r (e ∙ going) r' (e' ∙ sym is)))
closing_next l lots rs n b b' s t number None false r e r' e' is going num by = sym is
closing_next l lots rs n b b' s t number (Some m) false r e r' e' is going num by = absurd (true≢false (sym going ∙ by.0))

closing_same : (l : Setting) (lots : List ℕ) (rs : List Answer) (n : ℕ) (a : Answer) (b b' : Books-shown) (c : Option ℕ) → length rs ≡ length lots → b' ≡ b → ClosedBy l lots rs b c → ClosedBy l (lots ++ n ∷ []) (rs ++ a ∷ []) b' c
closing_same l lots rs n a b b' None long e by = ap (λ (b : Books-shown). b.is_open) e ∙ by
closing_same l lots rs n a b b' (Some m) long e by = (ap (λ (b : Books-shown). b.is_open) e ∙ by.0, later l lots rs n a m long by.1)

module _ {P : Type 0} (lanes : P → List Lane) (lots : List ℕ) (rs : List Answer) (n : ℕ) (p : Played P) (w : Window P) (closed : Bool) (day : DayAt lanes lots rs p) (setting : setting_of w ≡ setting_of p.window) (is : not closed ≡ (books_of lanes w).is_open) where
  abbrev l : Setting
  l = setting_of p.window

  open_is : day.reached.after.coordinator.is_open ≡ (books_of lanes p.window).is_open
  open_is = ap (λ (b : Books-shown). b.is_open) (sym day.reached.books)

  accepted_next : Reached lanes (lots ++ n ∷ []) (rs ++ Ok tt ∷ []) w → (books_of lanes p.window).is_open ≡ true → DayAt lanes (lots ++ n ∷ []) (rs ++ Ok tt ∷ []) (record { window = w; tally = noted (Ok tt) closed p.tally })
  accepted_next re going =
      let count : p.tally.accepted + 1 ≡ accepted_in_all (rs ++ Ok tt ∷ []) = omega (arith, day.accepted, total_push {X = Answer} (λ a. cond (is_ok a) 1 0) rs (Ok tt)) in
      let r' = subst (λ l. Runs l (opened l) (lots ++ n ∷ []) (rs ++ Ok tt ∷ []) re.after) setting re.runs in
      record {
        reached = re;
        accepted = count;
        late = omega (arith, day.late, total_push {X = Answer} late rs (Ok tt));
        closing = subst (λ l. ClosedBy l (lots ++ n ∷ []) (rs ++ Ok tt ∷ []) (books_of lanes w) (cond closed (Some (p.tally.accepted + 1)) p.tally.closing)) (sym setting)
            (closing_next l lots rs n (books_of lanes p.window) (books_of lanes w) day.reached.after re.after (p.tally.accepted + 1) p.tally.closing closed
            day.reached.runs open_is r' (ap (λ (b : Books-shown). b.is_open) (sym re.books)) is going count day.closing);
      }

  refused_next : (f : Fault) → Reached lanes (lots ++ n ∷ []) (rs ++ Err f ∷ []) w → w ≡ p.window → DayAt lanes (lots ++ n ∷ []) (rs ++ Err f ∷ []) (record { window = w; tally = noted (Err f) closed p.tally })
  refused_next f re same = record {
    reached = re;
    accepted = omega (arith, day.accepted, total_push {X = Answer} (λ a. cond (is_ok a) 1 0) rs (Err f));
    late = omega (arith, day.late, total_push {X = Answer} late rs (Err f));
    closing = subst (λ l. ClosedBy l (lots ++ n ∷ []) (rs ++ Err f ∷ []) (books_of lanes w) p.tally.closing) (sym setting)
        (closing_same l lots rs n (Err f) (books_of lanes p.window) (books_of lanes w) p.tally.closing (runs_long l day.reached.runs) (ap (books_of lanes) same) day.closing);
  }

  pub day_next : (a : Answer) → Reached lanes (lots ++ n ∷ []) (rs ++ a ∷ []) w → (a ≡ Ok tt → (books_of lanes p.window).is_open ≡ true) → ((f : Fault) → a ≡ Err f → w ≡ p.window)
      → DayAt lanes (lots ++ n ∷ []) (rs ++ a ∷ []) (record { window = w; tally = noted a closed p.tally })
  day_next (Ok u) re going same = accepted_next re (going refl)
  day_next (Err f) re going same = refused_next f re (same f refl)

late_few : (b : Bool) → cond b 1 0 ≤ 1
late_few true = omega arith
late_few false = omega arith

pub noted_accepted : (a : Answer) (closed : Bool) (t : Tally) → (noted a closed t).accepted ≤ t.accepted + 1
noted_accepted (Ok u) closed t = omega arith
noted_accepted (Err f) closed t = omega arith

pub noted_late : (a : Answer) (closed : Bool) (t : Tally) → (noted a closed t).late ≤ t.late + 1
noted_late (Ok u) closed t = omega arith
noted_late (Err f) closed t = omega (arith, late_few (is_closed f.refusal))

pub noted_counted : (a : Answer) (closed : Bool) (t : Tally) → counted (noted a closed t) ≤ counted t + 1
noted_counted (Ok u) closed t = omega arith
noted_counted (Err f) closed t = omega (arith, late_few (is_closed f.refusal))
