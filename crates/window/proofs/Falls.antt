-- A turn that finds something lowers a number: so turns end. Assumes nothing.
use Rattle.std.proofs.Common.{◌≡◌, ℕ, zero, suc, ◌+◌, ◌-◌, ◌*◌, ◌/◌, ◌%◌, ◌<◌, ◌≤◌, Bool, true, false, cond, eqb, ltb, leb, ◌≢◌, List, [], ◌∷◌, ◌++◌, length, set, Some, None, Ok, Err, sum_by, Option, Result, sym, refl, ap, ◌∙◌, subst, ⊎_elim, mul-le-mul_left, div-add-mod', mul-one, arith}
use native.Mathlib.Nat.{div-zero, mod-zero}
use Rattle.std.proofs.lemmas.List.Sums.{sum_by-set}
use Rattle.std.proofs.lemmas.List.{length-set, length_push, get_or-set_same, get_or-set_other, get_or_past, set_past}
use Rattle.std.proofs.lemmas.Bool.{cases_lt, cases_eq, ltb-true, leb-true, leb-false}
use Rattle.fault.specs.declared.Fault.{Fault}
use Rattle.fault.specs.declared.Refusal.TheVariants.{NoSuchOfficeOrLane}
use Rattle.post.specs.Lanes.{Lane, lane, no_lane, lane_fault, send, sends, send_answer, joined}
use Rattle.post.specs.Outs.{Out, out}
use Rattle.window.specs.Sequences.{go_on, then, each}
use Rattle.window.specs.declared.books.Books.{Books}
use Rattle.window.specs.declared.setting_table.SettingTable.{SettingTable}
use Rattle.window.specs.declared.books.OfficeRecord.{OfficeRecord}
use Rattle.window.specs.declared.message.Message.{Message}
use Rattle.window.specs.declared.message.Message.TheVariants.{Signal, Start, Close}
use Rattle.window.specs.declared.books.Phase.TheVariants.{Open, Closed}
use Rattle.window.specs.Parts.{step_in, is_closed, Heard, byte_of, heard, heard_of, message, Followed, followed, followed_of, moved, signalled, office, no_office, slack, in_coordinator}
use Rattle.window.specs.Keeps.{each_keeps, hear_holds, follow_holds}
use Rattle.window.specs.Turns.{State, Holds, at, tell, signal, with_each, drain, replies, hear, follow, coordinator_part, office_part, turn, WaitsAt, Busy}

pub held : Lane → ℕ
held l = length l.waiting

pub waits : List Lane → ℕ
waits ls = sum_by held ls

pub rests : Books → ℕ
rests b = sum_by (λ (o : OfficeRecord). o.remainder) b.table

-- how often the coordinator can still speak to all
pub ahead : Books → ℕ
ahead b = (b.setting.steps - step_in b.coordinator.phase) + cond (is_closed b.coordinator.phase) 0 1

unfoldable pub potential : State → ℕ
potential s = waits s.lanes + 65 * ahead s.books + rests s.books

-- lanes
send_on : (a : Result (Unit {0}) Fault) (j b : ℕ) (ls : List Lane) → waits (sends a ls (joined ls j b)).state ≤ waits ls + 1
unfolding waits held
send_on (Ok u) j b ls =
    ⊎_elim
    (λ (less : j < length ls). omega (arith, sum_by-set held ls j (record { waiting = (lane ls j).waiting ++ (b ∷ []); sent = (lane ls j).sent + 1 }) no_lane less, length_push (lane ls j).waiting b))
    (λ (more : length ls ≤ j). omega (arith, ap (sum_by held) (set_past ls j (record { waiting = (lane ls j).waiting ++ (b ∷ []); sent = (lane ls j).sent + 1 }) more)))
    (cases_lt j (length ls))
send_on (Err f) j b ls = omega arith

module _ {S : Type 0} (m : S → ℕ) (f : ℕ → S → Out S (Unit {0})) (grows : (i : ℕ) (s : S) → m (f i s).state ≤ m s + 1) where
  go_on_grows : (a : Result (Unit {0}) Fault) (n : ℕ) (s t : S) (h : S → Unit {0} → Out S (Unit {0})) → m t ≤ m s + 1 → ((u : S) → m (h u tt).state ≤ m u + n) → m (go_on a t h).state ≤ m s + suc n
  go_on_grows (Ok x) n s t h q k = omega (arith, k t)
  go_on_grows (Err e) n s t h q k = omega arith

  each_grows : (n i : ℕ) (s : S) → m (each n i f s).state ≤ m s + n
  unfolding each then
  each_grows zero i s = omega arith
  each_grows (suc n) i s = go_on_grows (f i s).answer n s (f i s).state (λ t _. each n (i + 1) f t) (grows i s) (λ u. each_grows n (i + 1) u)

tell_waits : (k b : ℕ) (ls : List Lane) → waits (tell k b ls).state ≤ waits ls + k
tell_waits k b ls = each_grows waits (λ i. send (2 * i + 1) b) (λ i ls. send_on (send_answer ls (2 * i + 1)) (2 * i + 1) b ls) k 0 ls

signal_waits : (i step n : ℕ) (ls : List Lane) → waits (signal i step n ls).state ≤ waits ls + n
signal_waits i step n ls = each_grows waits (λ _. send (2 * i) (32 + step)) (λ _ ls. send_on (send_answer ls (2 * i)) (2 * i) (32 + step) ls) n 0 ls

-- books
rests_set : (b : Books) (i n : ℕ) (o : OfficeRecord) → o.remainder + n ≤ (office b i).remainder → sum_by (λ (o : OfficeRecord). o.remainder) (set b.table i o) + n ≤ rests b
unfolding rests
rests_set b i n o le =
    ⊎_elim
    (λ (less : i < length b.table). omega (arith, sum_by-set (λ (o : OfficeRecord). o.remainder) b.table i o no_office less))
    (λ (more : length b.table ≤ i). omega (arith, ap (sum_by (λ (o : OfficeRecord). o.remainder)) (set_past b.table i o more), ap (λ (o : OfficeRecord). o.remainder) (get_or_past b.table i no_office more)))
    (cases_lt i (length b.table))

credit_record : Books → ℕ → OfficeRecord
credit_record b i = record { step = (office b i).step; credit = (office b i).credit + slack b.setting (step_in b.coordinator.phase); remainder = (office b i).remainder }

spoken : Option Message → ℕ
spoken None = 0
spoken (Some m) = 1

record Lower (b : Books) (h : Heard) : Type 0 where
  rest : rests h.books ≤ rests b
  lower : ahead h.books + spoken h.reply ≤ ahead b
  setting : h.books.setting ≡ b.setting

signalled_on : (i : ℕ) (b : Books) → is_closed b.coordinator.phase ≡ false → (t : Bool) → (u : Bool) → ltb (step_in b.coordinator.phase) b.setting.steps ≡ u →
    Lower b (cond t
    (cond u
    (heard_of (in_coordinator b i (record { phase = Open (step_in b.coordinator.phase + 1); signals = 0 })) (Some (Start (step_in b.coordinator.phase + 1))))
    (heard_of (in_coordinator b i (record { phase = Closed (step_in b.coordinator.phase); signals = b.coordinator.signals + 1 })) (Some (Close (step_in b.coordinator.phase)))))
    (heard_of (in_coordinator b i (record { phase = Open (step_in b.coordinator.phase); signals = b.coordinator.signals + 1 })) None))
unfolding rests ahead spoken credit_record
signalled_on i b going true true e =
    let was = ap (λ c. (b.setting.steps - step_in b.coordinator.phase) + cond c 0 1) going in
    record { rest = omega (arith, rests_set b i 0 (credit_record b i) (omega arith)); lower = omega (arith, was, ltb-true _ _ e); setting = refl }
signalled_on i b going true false e =
    let was = ap (λ c. (b.setting.steps - step_in b.coordinator.phase) + cond c 0 1) going in
    record { rest = omega (arith, rests_set b i 0 (credit_record b i) (omega arith)); lower = omega (arith, was); setting = refl }
signalled_on i b going false u e =
    let was = ap (λ c. (b.setting.steps - step_in b.coordinator.phase) + cond c 0 1) going in
    record { rest = omega (arith, rests_set b i 0 (credit_record b i) (omega arith)); lower = omega (arith, was); setting = refl }

same_lower : (b : Books) → Lower b (heard_of b None)
unfolding spoken
same_lower b = record { rest = omega arith; lower = omega arith; setting = refl }

signal_lower : (i j : ℕ) (b : Books) (c d : Bool) → is_closed b.coordinator.phase ≡ c → Lower b (cond c (heard_of b None) (cond d (signalled i b) (heard_of b None)))
unfolding signalled
signal_lower i j b true d e = same_lower b
signal_lower i j b false true e = signalled_on i b e _ _ refl
signal_lower i j b false false e = same_lower b

heard_lower : (i : ℕ) (m : Option Message) (b : Books) → Lower b (heard i m b)
heard_lower i (Some (Signal j)) b = signal_lower i j b _ _ refl
heard_lower i (Some (Start j)) b = same_lower b
heard_lower i (Some (Close j)) b = same_lower b
heard_lower i None b = same_lower b

-- what the coordinator does with a byte does not raise the potential
hear_on : (s : State) (o : Option Message) (b : Books) → rests b ≤ rests s.books → ahead b + spoken o ≤ ahead s.books → potential (replies o b s.lanes).state ≤ potential s
unfolding potential spoken
hear_on s None b r l = omega arith
hear_on s (Some m) b r l = omega (arith, tell_waits b.setting.offices (byte_of m) s.lanes, b.setting.few)

pub hear_falls : (i byte : ℕ) (s : State) → potential (hear i byte s).state ≤ potential s
unfolding hear
hear_falls i byte s = let l = heard_lower i (message byte) s.books in hear_on s _ _ l.rest l.lower

-- an office that moves sends no more signals than its remainder loses
split_le : (r s : ℕ) → r % s + r / s ≤ r
split_le r zero = omega (arith, div-zero r, mod-zero r)
split_le r (suc s) =
    let le : r / suc s * 1 ≤ r / suc s * suc s = mul-le-mul_left (r / suc s) (omega arith) in
    omega (arith, div-add-mod' r (suc s), mul-one (r / suc s))

record Less (b : Books) (t : Followed) : Type 0 where
  rest : rests t.books + t.signals ≤ rests b
  same : ahead t.books ≡ ahead b
  setting : t.books.setting ≡ b.setting

same_less : (b : Books) → Less b (followed_of b 0)
same_less b = record { rest = omega arith; same = refl; setting = refl }

moved_less : (i : ℕ) (b : Books) → Less b (moved i b)
unfolding moved rests ahead
moved_less i b = record {
  rest = rests_set b i ((office b i).remainder / slack b.setting ((office b i).step + 1)) _ (split_le (office b i).remainder (slack b.setting ((office b i).step + 1)));
  same = refl;
  setting = refl;
}

start_less : (i : ℕ) (b : Books) (c d : Bool) → Less b (cond c (cond d (moved i b) (followed_of b 0)) (followed_of b 0))
start_less i b true true = moved_less i b
start_less i b true false = same_less b
start_less i b false d = same_less b

told_less : (i : ℕ) (m : Option Message) (b : Books) → Less b (followed i m b)
told_less i (Some (Start j)) b = start_less i b (eqb j ((office b i).step + 1)) (leb j b.setting.steps)
told_less i (Some (Signal j)) b = same_less b
told_less i (Some (Close j)) b = same_less b
told_less i None b = same_less b

pub attend_falls : (i byte : ℕ) (s : State) → potential (follow i byte s).state ≤ potential s
unfolding follow potential
attend_falls i byte s =
    let t = followed i (message byte) s.books in
    let l = told_less i (message byte) s.books in
    omega (arith, signal_waits i (office t.books i).step t.signals s.lanes, l.rest, l.same)

-- what a part of a turn does that takes from lane j only
pub record Fallen (j : ℕ) (s t : State) : Type 0 where
  pub less : potential t ≤ potential s
  pub others : (n : ℕ) → n ≢ j → held (lane s.lanes n) ≤ held (lane t.lanes n)
  pub setting : t.books.setting ≡ s.books.setting
  pub long : length t.lanes ≡ length s.lanes

fallen_same : (j : ℕ) (s : State) → Fallen j s s
fallen_same j s = record { less = omega arith; others = λ n ne. omega arith; setting = refl; long = refl }

fallen_trans : (j : ℕ) {a b c : State} → Fallen j a b → Fallen j b c → Fallen j a c
fallen_trans j p q = record { less = omega (arith, p.less, q.less); others = λ n ne. omega (arith, p.others n ne, q.others n ne); setting = q.setting ∙ p.setting; long = q.long ∙ p.long }

Grows : List Lane → List Lane → Type 0
Grows ls ls' = (n : ℕ) → held (lane ls n) ≤ held (lane ls' n)

send_grows : (a : Result (Unit {0}) Fault) (j b : ℕ) (ls : List Lane) → Grows ls (sends a ls (joined ls j b)).state
unfolding Grows held
send_grows (Ok u) j b ls n =
    let l : Lane = record { waiting = (lane ls j).waiting ++ (b ∷ []); sent = (lane ls j).sent + 1 } in
    ⊎_elim
    (λ (e : n ≡ j). ⊎_elim
    (λ (less : j < length ls). rw e (omega (arith, ap held (get_or-set_same ls j l no_lane less), length_push (lane ls j).waiting b)))
    (λ (more : length ls ≤ j). omega (arith, ap (λ ls. held (lane ls n)) (set_past ls j l more)))
    (cases_lt j (length ls)))
    (λ (ne : n ≡ j → ⊥). omega (arith, ap held (get_or-set_other ls j n l no_lane ne)))
    (cases_eq n j)
send_grows (Err f) j b ls n = omega arith

tell_grows : (k b : ℕ) (ls : List Lane) → Grows ls (tell k b ls).state
unfolding Grows
tell_grows k b ls = each_keeps Grows (λ ls n. omega arith) (λ _ _ _ p q n. omega (arith, p n, q n)) (λ i. send (2 * i + 1) b) (λ i ls. send_grows (send_answer ls (2 * i + 1)) (2 * i + 1) b ls) k 0 ls

signal_grows : (i step n : ℕ) (ls : List Lane) → Grows ls (signal i step n ls).state
unfolding Grows
signal_grows i step n ls = each_keeps Grows (λ ls n. omega arith) (λ _ _ _ p q n. omega (arith, p n, q n)) (λ _. send (2 * i) (32 + step)) (λ _ ls. send_grows (send_answer ls (2 * i)) (2 * i) (32 + step) ls) n 0 ls

replies_grow : (o : Option Message) (b : Books) (ls : List Lane) → (Grows ls (replies o b ls).state.lanes) × ((replies o b ls).state.books ≡ b)
unfolding Grows
replies_grow None b ls = ((λ n. omega arith), refl)
replies_grow (Some m) b ls = (tell_grows b.setting.offices (byte_of m) ls, refl)

hear_fallen : (j i byte : ℕ) (s : State) → Fallen j s (hear i byte s).state
unfolding hear Grows
hear_fallen j i byte s =
    let h = heard i (message byte) s.books in
    let r = replies_grow h.reply h.books s.lanes in
    record { less = hear_falls i byte s; others = λ n _. r.0 n; setting = ap (λ (b : Books). b.setting) r.1 ∙ (heard_lower i (message byte) s.books).setting; long = (hear_holds i byte s).long }

attend_fallen : (j i byte : ℕ) (s : State) → Fallen j s (follow i byte s).state
unfolding follow Grows
attend_fallen j i byte s =
    let t = followed i (message byte) s.books in
    record { less = attend_falls i byte s; others = λ n _. signal_grows i (office t.books i).step t.signals s.lanes n; setting = (told_less i (message byte) s.books).setting; long = (follow_holds i byte s).long }

-- a byte leaves lane j
taken_state : ℕ → State → List ℕ → State
taken_state j s xs = at s.books (set s.lanes j (record { waiting = xs; sent = (lane s.lanes j).sent }))

taken_fallen : (j x : ℕ) (xs : List ℕ) (s : State) → j < length s.lanes → x ∷ xs ≡ (lane s.lanes j).waiting → (Fallen j s (taken_state j s xs)) × (potential (taken_state j s xs) + 1 ≤ potential s)
unfolding taken_state potential waits held
taken_fallen j x xs s less is =
    let l : Lane = record { waiting = xs; sent = (lane s.lanes j).sent } in
    let fell = sum_by-set held s.lanes j l no_lane less in
    let long = ap length is in
    let down : waits (set s.lanes j l) + 1 ≡ waits s.lanes = omega (arith, fell, long) in
    (record { less = omega (arith, down); others = λ n ne. omega (arith, ap held (get_or-set_other s.lanes j n l no_lane ne)); setting = refl; long = length-set s.lanes j l }, omega (arith, down))

-- lane j is taken until it is empty
module _ (j : ℕ) (f : ℕ → State → Out State (Unit {0})) (falls : (b : ℕ) (s : State) → Fallen j s (f b s).state) (holds : (b : ℕ) (s : State) → Holds j s.lanes (f b s).state.lanes) where
  go_on_fallen : (a : Result (Unit {0}) Fault) (t : State) (h : State → Unit {0} → Out State (Unit {0})) → Fallen j t (h t tt).state → Fallen j t (go_on a t h).state
  go_on_fallen (Ok x) t h q = q
  go_on_fallen (Err e) t h q = fallen_same j t

  with_each_fallen : (w : List ℕ) (s : State) → j < length s.lanes → w ≡ (lane s.lanes j).waiting → (Fallen j s (with_each j f w s).state) × (potential (with_each j f w s).state + (length w - (length w - 1)) ≤ potential s)
  unfolding with_each then taken_state
  with_each_fallen [] s less is = (fallen_same j s, omega arith)
  with_each_fallen (x ∷ xs) s less is =
      let s₁ = taken_state j s xs in
      let l : Lane = record { waiting = xs; sent = (lane s.lanes j).sent } in
      let one = taken_fallen j x xs s less is in
      let two = falls x s₁ in
      let held₂ = holds x s₁ in
      let t = (f x s₁).state in
      let less' : j < length t.lanes = omega (arith, held₂.long, length-set s.lanes j l) in
      let is' : xs ≡ (lane t.lanes j).waiting = sym (held₂.same ∙ ap (λ (l : Lane). l.waiting) (get_or-set_same s.lanes j l no_lane less)) in
      let three = go_on_fallen (f x s₁).answer t (λ t _. with_each j f xs t) (with_each_fallen xs t less' is').0 in
      (fallen_trans j one.0 (fallen_trans j two three), omega (arith, one.1, two.less, three.less))

  drain_on_fallen : (b : Bool) (s : State) → leb (length s.lanes) j ≡ b → (Fallen j s (cond b (out s (Err (lane_fault NoSuchOfficeOrLane j))) (with_each j f (lane s.lanes j).waiting s)).state) × (0 < held (lane s.lanes j) → potential (cond b (out s (Err (lane_fault NoSuchOfficeOrLane j))) (with_each j f (lane s.lanes j).waiting s)).state < potential s)
  unfolding held
  drain_on_fallen true s e = (fallen_same j s, λ some. absurd (omega (arith, ap held (get_or_past s.lanes j no_lane (leb-true _ _ e)))))
  drain_on_fallen false s e =
      let p = with_each_fallen (lane s.lanes j).waiting s (leb-false _ _ e) refl in
      (p.0, λ some. omega (arith, p.1))

  pub drain_fallen : (s : State) → (Fallen j s (drain j f s).state) × (0 < held (lane s.lanes j) → potential (drain j f s).state < potential s)
  unfolding drain
  drain_fallen s = drain_on_fallen _ s refl

-- all offices in turn
module _ (lane_of : ℕ → ℕ) (apart : (a b : ℕ) → lane_of a ≡ lane_of b → a ≡ b) (f : ℕ → State → Out State (Unit {0}))
    (falls : (i : ℕ) (s : State) → (Fallen (lane_of i) s (f i s).state) × (0 < held (lane s.lanes (lane_of i)) → potential (f i s).state < potential s)) where
  pub each_less : (n i : ℕ) (s : State) → potential (each n i f s).state ≤ potential s
  each_less = each_keeps (λ s t. potential t ≤ potential s) (λ s. omega arith) (λ _ _ _ p q. omega (arith, p, q)) f (λ i s. (falls i s).0.less)

  pub each_terms : (n i : ℕ) (s : State) → (each n i f s).state.books.setting ≡ s.books.setting
  each_terms = each_keeps (λ s t. t.books.setting ≡ s.books.setting) (λ s. refl) (λ _ _ _ p q. q ∙ p) f (λ i s. (falls i s).0.setting)

  pub each_long : (n i : ℕ) (s : State) → length (each n i f s).state.lanes ≡ length s.lanes
  each_long = each_keeps (λ s t. length t.lanes ≡ length s.lanes) (λ s. refl) (λ _ _ _ p q. q ∙ p) f (λ i s. (falls i s).0.long)

  pub each_others : (j : ℕ) → ((i : ℕ) → j ≢ lane_of i) → (n i : ℕ) (s : State) → held (lane s.lanes j) ≤ held (lane (each n i f s).state.lanes j)
  each_others j other = each_keeps (λ s t. held (lane s.lanes j) ≤ held (lane t.lanes j)) (λ s. omega arith) (λ _ _ _ p q. omega (arith, p, q)) f (λ i s. (falls i s).0.others j (other i))

  through_on : (i n i₀ : ℕ) (s : State) (a : Result (Unit {0}) Fault) → i₀ ≤ i → i < i₀ + suc n → 0 < held (lane s.lanes (lane_of i))
      → ((t : State) → i₀ + 1 ≤ i → i < i₀ + 1 + n → 0 < held (lane t.lanes (lane_of i)) → (each n (i₀ + 1) f t).answer ≡ Ok tt → potential (each n (i₀ + 1) f t).state < potential t)
      → (go_on a (f i₀ s).state (λ t _. each n (i₀ + 1) f t)).answer ≡ Ok tt
      → potential (go_on a (f i₀ s).state (λ t _. each n (i₀ + 1) f t)).state < potential s
  through_on i n i₀ s (Err e) from to some next ok = let z : ◌≡◌ {A = ℕ} 0 1 = cc in absurd (omega arith)
  through_on i n i₀ s (Ok u) from to some next ok =
      ⊎_elim
      (λ (e : i ≡ i₀). omega (arith, (falls i₀ s).1 (subst (λ i. 0 < held (lane s.lanes (lane_of i))) e some), each_less n (i₀ + 1) (f i₀ s).state))
      (λ (ne : i ≡ i₀ → ⊥).
      let kept = (falls i₀ s).0.others (lane_of i) (λ e. ne (apart i i₀ e)) in
      omega (arith, (falls i₀ s).0.less, next (f i₀ s).state (omega arith) (omega arith) (omega arith) ok))
      (cases_eq i i₀)

  pub each_through : (i n i₀ : ℕ) (s : State) → i₀ ≤ i → i < i₀ + n → 0 < held (lane s.lanes (lane_of i)) → (each n i₀ f s).answer ≡ Ok tt → potential (each n i₀ f s).state < potential s
  unfolding each then
  each_through i zero i₀ s from to some ok = absurd (omega arith)
  each_through i (suc n) i₀ s from to some ok =
      through_on i n i₀ s (f i₀ s).answer from to some (λ t from to some ok. each_through i n (i₀ + 1) t from to some ok) ok

hear_part : (i : ℕ) (s : State) → (Fallen (2 * i) s (drain (2 * i) (hear i) s).state) × (0 < held (lane s.lanes (2 * i)) → potential (drain (2 * i) (hear i) s).state < potential s)
hear_part i = drain_fallen (2 * i) (hear i) (λ b s. hear_fallen (2 * i) i b s) (λ b s. hear_holds i b s)

attend_part : (i : ℕ) (s : State) → (Fallen (2 * i + 1) s (drain (2 * i + 1) (follow i) s).state) × (0 < held (lane s.lanes (2 * i + 1)) → potential (drain (2 * i + 1) (follow i) s).state < potential s)
attend_part i = drain_fallen (2 * i + 1) (follow i) (λ b s. attend_fallen (2 * i + 1) i b s) (λ b s. follow_holds i b s)

even_apart : (a b : ℕ) → 2 * a ≡ 2 * b → a ≡ b
even_apart a b e = omega arith

odd_apart : (a b : ℕ) → 2 * a + 1 ≡ 2 * b + 1 → a ≡ b
odd_apart a b e = omega arith

turn_on : (s : State) (k i : ℕ) → i < k → k ≡ s.books.setting.offices → WaitsAt i s.lanes → (a : Result (Unit {0}) Fault) → (coordinator_part k s).answer ≡ a → {x : Unit {0}} → (go_on a (coordinator_part k s).state (λ t _. office_part t.books.setting.offices t)).answer ≡ Ok x → potential (go_on a (coordinator_part k s).state (λ t _. office_part t.books.setting.offices t)).state < potential s
unfolding held
turn_on s k i less same busy (Err e) is ok = let z : ◌≡◌ {A = ℕ} 0 1 = cc in absurd (omega arith)
turn_on s k i less same busy (Ok u) is ok =
    let t = (coordinator_part k s).state in
    let up = each_less (λ i. 2 * i) even_apart (λ i. drain (2 * i) (hear i)) hear_part k 0 s in
    let down = each_less (λ i. 2 * i + 1) odd_apart (λ i. drain (2 * i + 1) (follow i)) attend_part t.books.setting.offices 0 t in
    let setting = each_terms (λ i. 2 * i) even_apart (λ i. drain (2 * i) (hear i)) hear_part k 0 s in
    let k' = ap (λ (t : SettingTable). t.offices) setting in
    ⊎_elim
    (λ (w : 0 < length (lane s.lanes (2 * i)).waiting). omega (arith, down, each_through (λ i. 2 * i) even_apart (λ i. drain (2 * i) (hear i)) hear_part i k 0 s (omega arith) (omega arith) w is))
    (λ (w : 0 < length (lane s.lanes (2 * i + 1)).waiting).
    let still = each_others (λ i. 2 * i) even_apart (λ i. drain (2 * i) (hear i)) hear_part (2 * i + 1) (λ n e. omega arith) k 0 s in
    omega (arith, up, each_through (λ i. 2 * i + 1) odd_apart (λ i. drain (2 * i + 1) (follow i)) attend_part i t.books.setting.offices 0 t (omega arith) (omega (arith, k')) (omega (arith, still, w)) ok))
    busy

-- a turn that found something and came to its end lowers the potential
pub turn_falls : (s : State) {t : State} {r : Result (Unit {0}) Fault} {x : Unit {0}} → Busy s → out t r ≡ turn s → r ≡ Ok x → potential t < potential s
unfolding turn then
turn_falls s busy e ok =
    subst (λ (o : Out State (Unit {0})). potential o.state < potential s) (sym e)
    (turn_on s s.books.setting.offices busy.0 busy.1 refl busy.2 _ refl (ap (λ (o : Out State (Unit {0})). o.answer) (sym e) ∙ ok))

-- a turn changes neither the setting nor how many lanes there are
go_on_same : (a : Result (Unit {0}) Fault) (t : State) (f : State → Unit {0} → Out State (Unit {0})) → ((s : State) → (length (f s tt).state.lanes ≡ length s.lanes) × ((f s tt).state.books.setting ≡ s.books.setting)) → (length (go_on a t f).state.lanes ≡ length t.lanes) × ((go_on a t f).state.books.setting ≡ t.books.setting)
go_on_same (Ok x) t f same = same t
go_on_same (Err e) t f same = (refl, refl)

pub turn_same : (s : State) → (length (turn s).state.lanes ≡ length s.lanes) × ((turn s).state.books.setting ≡ s.books.setting)
unfolding turn then
turn_same s =
    let k = s.books.setting.offices in
    let r = go_on_same (coordinator_part k s).answer (coordinator_part k s).state (λ t _. office_part t.books.setting.offices t)
    (λ t. (each_long (λ i. 2 * i + 1) odd_apart (λ i. drain (2 * i + 1) (follow i)) attend_part t.books.setting.offices 0 t, each_terms (λ i. 2 * i + 1) odd_apart (λ i. drain (2 * i + 1) (follow i)) attend_part t.books.setting.offices 0 t)) in
    (r.0 ∙ each_long (λ i. 2 * i) even_apart (λ i. drain (2 * i) (hear i)) hear_part k 0 s, r.1 ∙ each_terms (λ i. 2 * i) even_apart (λ i. drain (2 * i) (hear i)) hear_part k 0 s)
