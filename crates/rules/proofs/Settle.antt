-- Turns until nothing waits: two are enough, and a run is a function of its lots.
use Rattle.std.proofs.Common.{◌≡◌, ℕ, ◌-◌, List, [], ◌∷◌, length, replicate, is_ok, sym, refl, ap, ◌∙◌, subst, ⊎_elim, arith}
use Rattle.std.proofs.lemmas.Bool.{cases_eq, cases_Bool, true≢false, cond-true, cond-false}
use Rattle.rules.proofs.Claims.{good_waits}
use Rattle.rules.proofs.Lot.{Good}
use Rattle.rules.proofs.Machine.{Sound, answers, ended, lot, run, two_turns}
use Rattle.rules.proofs.Expecting.{Expects}
use Rattle.rules.proofs.Run.{good_open, lot_expected, lot_good, next_counts}
use Rattle.rules.specs.Expected.{ExpectedTurn}
use Rattle.rules.specs.Lists.{total}
use Rattle.rules.specs.Rules.{Account, Coordinator, Office, Setting, State, account, accounts_after, answer, counted, lane_of, office, offices_after, opened, state, take_downs, take_ups, turn}
use Rattle.rules.specs.Runs.{Answer, Runs, Settles, accepted, over, refused, still, turned, waits}

empty : (w : List ℕ) → length w ≡ 0 → w ≡ []
empty [] e = refl
empty (x ∷ w) e = absurd (omega arith)

-- a turn where nothing waits changes nothing
A-still : (l : Setting) (h : Coordinator) (os : List Office) (ds : List Account) → total (λ p. length p.up.waiting) ds ≡ 0 → take_ups l h os ds ≡ state h ds os
A-still l h os [] e = refl
A-still l h os (p ∷ ds) e =
    let w : p.up.waiting ≡ [] = empty p.up.waiting (omega arith) in
    let q : p ≡ account p.credit (lane_of [] p.up.sent) = ap (λ w. account p.credit (lane_of w p.up.sent)) w in
    ap (λ p. take_ups l h os (p ∷ ds)) q
    ∙ (ap (λ s. state s.coordinator (account p.credit (lane_of [] p.up.sent) ∷ s.accounts) s.offices) (A-still l h os ds (omega arith))
    ∙ ap (λ p. state h (p ∷ ds) os) (sym q))

B-accounts : (l : Setting) (ds : List Account) (os : List Office) → total (λ o. length o.down.waiting) os ≡ 0 → accounts_after l ds os ≡ ds
B-accounts l [] os e = refl
B-accounts l (p ∷ ds) [] e = refl
B-accounts l (p ∷ ds) (o ∷ os) e =
    let w : o.down.waiting ≡ [] = empty o.down.waiting (omega arith) in
    let q : o ≡ office o.remainder o.own_step (lane_of [] o.down.sent) = ap (λ w. office o.remainder o.own_step (lane_of w o.down.sent)) w in
    ap (λ o. accounts_after l (p ∷ ds) (o ∷ os)) q ∙ ap (λ ds. p ∷ ds) (B-accounts l ds os (omega arith))

B-offices : (l : Setting) (ds : List Account) (os : List Office) → total (λ o. length o.down.waiting) os ≡ 0 → offices_after l ds os ≡ os
B-offices l [] os e = refl
B-offices l (p ∷ ds) [] e = refl
B-offices l (p ∷ ds) (o ∷ os) e =
    let w : o.down.waiting ≡ [] = empty o.down.waiting (omega arith) in
    let q : o ≡ office o.remainder o.own_step (lane_of [] o.down.sent) = ap (λ w. office o.remainder o.own_step (lane_of w o.down.sent)) w in
    ap (λ o. offices_after l (p ∷ ds) (o ∷ os)) q ∙ (ap (λ os. office o.remainder o.own_step (lane_of [] o.down.sent) ∷ os) (B-offices l ds os (omega arith)) ∙ ap (λ o. o ∷ os) (sym q))

pub turn_still : (l : Setting) (s : State) → waits s ≡ 0 → turn l s ≡ s
turn_still l s e =
    ap (take_downs l) (A-still l s.coordinator s.offices s.accounts (omega arith))
    ∙ (ap (λ ds. state s.coordinator ds (offices_after l s.accounts s.offices)) (B-accounts l s.accounts s.offices (omega arith))
    ∙ ap (λ os. state s.coordinator s.accounts os) (B-offices l s.accounts s.offices (omega arith)))

settles_once : (l : Setting) (s : State) → ExpectedTurn l s → waits (turn l s) ≡ 0 → Settles l s (turn l s)
settles_once l s x e = ⊎_elim
    (λ z. subst (Settles l s) (sym (turn_still l s z)) (still z))
    (λ nz. turned (omega arith) x (still e))
    (cases_eq (waits s) 0)

pub settles : (l : Setting) (s : State) → Expects l s → waits (two_turns l s) ≡ 0 → Settles l s (two_turns l s)
settles l s x e = ⊎_elim
    (λ z. subst (λ t. Settles l s (turn l t)) (sym (turn_still l s z)) (settles_once l s x.first (subst (λ t. waits (turn l t) ≡ 0) (turn_still l s z) e)))
    (λ nz. turned (omega arith) x.first (settles_once l (turn l s) x.second e))
    (cases_eq (waits s) 0)

pub settles_unique : (l : Setting) {s t t' : State} → Settles l s t → Settles l s t' → t ≡ t'
settles_unique l (still e) (still e') = refl
settles_unique l (still e) (turned i x r) = absurd (omega arith)
settles_unique l (turned i x r) (still e) = absurd (omega arith)
settles_unique l (turned i x r) (turned i' x' r') = settles_unique l r r'

pub runs : (l : Setting) → Sound l → (h : List ℕ) (s : State) (ns : List ℕ) → Good l s ns → Runs l s h (answers l s h) (run l s h)
runs l ok [] s ns v = over
runs l ok (i ∷ h) s ns v = ⊎_elim
    (λ z.
    let w : Good l (lot l s i) (next_counts l s ns i) = lot_good l ok s ns v i in
    let e : lot l s i ≡ two_turns l (counted l s (i - 1)) = cond-true _ _ _ z in
    accepted z (subst (Settles l (counted l s (i - 1))) (sym e) (settles l (counted l s (i - 1)) (lot_expected l ok s ns v i z) (subst (λ t. waits t ≡ 0) e (good_waits l (lot l s i) (next_counts l s ns i) w))))
    (runs l ok h (lot l s i) (next_counts l s ns i) w))
    (λ z.
    let e : lot l s i ≡ s = cond-false _ _ _ z in
    refused z (subst (λ t. Runs l t h (answers l (lot l s i) h) (run l (lot l s i) h)) e (runs l ok h (lot l s i) (next_counts l s ns i) (lot_good l ok s ns v i))))
    (cases_Bool (is_ok (answer l s i)))

pub runs_unique : (l : Setting) {s t t' : State} {h : List ℕ} {rs rs' : List Answer} → Runs l s h rs t → Runs l s h rs' t' → (rs ≡ rs') × (t ≡ t')
runs_unique l over over = (refl, refl)
runs_unique l (refused {s = s} {i = i} z r) (refused z' r') = let y = runs_unique l r r' in (ap (λ rs. answer l s i ∷ rs) y.0, y.1)
runs_unique l (refused z r) (accepted z' x r') = absurd (true≢false (sym z' ∙ z))
runs_unique l (accepted z x r) (refused z' r') = absurd (true≢false (sym z ∙ z'))
runs_unique l (accepted {s = s} {i = i} {lots = h} z x r) (accepted {t = t'} {answers = rs'} z' x' r') =
    let y = runs_unique l r (subst (λ u. Runs l u h rs' t') (sym (settles_unique l x x')) r') in (ap (λ rs. answer l s i ∷ rs) y.0, y.1)

pub runs_opened : (l : Setting) → Sound l → (h : List ℕ) → Runs l (opened l) h (answers l (opened l) h) (ended l h)
runs_opened l ok h = runs l ok h (opened l) (replicate l.offices 0) (good_open l ok)
