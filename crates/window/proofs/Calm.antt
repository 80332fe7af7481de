-- What a lot does to a window whose lanes are empty. Assumes nothing.
use Rattle.std.proofs.Common.{◌≡◌, ℕ, zero, suc, ◌+◌, ◌*◌, ◌/◌, ◌%◌, ◌<◌, ◌≤◌, false, ◌≢◌, List, [], ◌∷◌, ◌++◌, length, set, Some, None, Ok, sym, refl, ap, ◌∙◌, subst, ⊎_elim, arith}
use Rattle.std.proofs.lemmas.List.{length-set, get_or-set_same, get_or-set_other, set_past, set-set}
use Rattle.std.proofs.lemmas.Bool.{cases_lt, cases_eq, lt-leb, eq-eqb, ne_eqb, cond-true, cond-false}
use Rattle.post.specs.Lanes.{Lane, lane, no_lane, send, sends, send_answer, joined}
use Rattle.post.specs.Outs.{Out}
use Rattle.window.specs.Sequences.{fine, then, each}
use Rattle.window.specs.declared.setting_table.SettingTable.{SettingTable}
use Rattle.window.specs.declared.books.Books.{Books}
use Rattle.window.specs.declared.message.Message.TheVariants.{Signal, Start, Close}
use Rattle.window.specs.declared.books.Phase.TheVariants.{Open}
use Rattle.window.specs.Parts.{step_in, is_closed, Heard, heard, heard_of, message, Followed, followed, followed_of, signalled, office, quota, in_coordinator}
use Rattle.window.specs.Turns.{State, at, with_lanes, tell, with_each, drain, replies, hear, answers, follow, coordinator_part, office_part, turn, signal_and_settle}
use Rattle.window.proofs.Even.{Empty}
use Rattle.window.proofs.Steps.{went}
use Rattle.window.proofs.Drains.{drain_back}

-- programs that go well
pub then_fine : {S T : Type 0} {m : Out S (Unit {0})} {s : S} (f : S → Unit {0} → Out S T) → m ≡ fine s → then m f ≡ f s tt
then_fine f e = went f (sym e) refl

module _ {S : Type 0} (f : ℕ → S → Out S (Unit {0})) where
  -- parts that find nothing to do
  pub each_skip : (n i : ℕ) (s : S) → ((m : ℕ) → i ≤ m → m < i + n → f m s ≡ fine s) → each n i f s ≡ fine s
  unfolding each
  each_skip zero i s skip = refl
  each_skip (suc n) i s skip = then_fine _ (skip i (omega arith) (omega arith)) ∙ each_skip n (i + 1) s (λ m from to. skip m (omega arith) (omega arith))

  -- parts that keep an invariant, each at its turn
  pub each_inv : (I : ℕ → S → Type 0) (n i : ℕ) (s : S) → ((m : ℕ) (t : S) → i ≤ m → m < i + n → I m t → (u : S) × (f m t ≡ fine u) × I (m + 1) u) → I i s → (u : S) × (each n i f s ≡ fine u) × I (i + n) u
  unfolding each
  each_inv I zero i s step start = let e : i + 0 ≡ i = omega arith in (s, refl, subst (λ n. I n s) (sym e) start)
  each_inv I (suc n) i s step start =
      let one = step i s (omega arith) (omega arith) start in
      let rest = each_inv I n (i + 1) one.0 (λ m t from to. step m t (omega arith) (omega arith)) one.2 in
      let e : i + 1 + n ≡ i + suc n = omega arith in
      (rest.0, then_fine _ one.1 ∙ rest.1, subst (λ n. I n rest.0) e rest.2)

  pub each_from : (I : ℕ → S → Type 0) (k : ℕ) (s : S) → ((m : ℕ) (t : S) → m < k → I m t → (u : S) × (f m t ≡ fine u) × I (m + 1) u) → I 0 s → (u : S) × (each k 0 f s ≡ fine u) × I k u
  each_from I k s step start =
      let r = each_inv I k 0 s (λ m t _ to. step m t (omega arith)) start in
      let e : 0 + k ≡ k = omega arith in
      (r.0, r.1, subst (λ n. I n r.0) e r.2)

-- a lane that is there and empty is drained at once
drain_empty : (j : ℕ) (f : ℕ → State → Out State (Unit {0})) (s : State) → j < length s.lanes → (lane s.lanes j).waiting ≡ [] → drain j f s ≡ fine s
unfolding with_each
drain_empty j f s less none = sym (drain_back j f s [] less (sym none))

-- one byte on a lane
pub drain_one : (j x : ℕ) (f : ℕ → State → Out State (Unit {0})) (s t : State) → j < length s.lanes → (lane s.lanes j).waiting ≡ x ∷ [] → f x (at s.books (set s.lanes j (record { waiting = []; sent = (lane s.lanes j).sent }))) ≡ fine t → drain j f s ≡ fine t
unfolding with_each
drain_one j x f s t less one e = sym (drain_back j f s (x ∷ []) less (sym one)) ∙ then_fine _ e

empty_coordinator : (s : State) → Empty s → coordinator_part s.books.setting.offices s ≡ fine s
empty_coordinator s e = each_skip _ _ 0 s (λ m _ to. drain_empty (2 * m) (hear m) s (omega (arith, e.long)) (e.up m (omega arith)))

pub office_skip : (s : State) (k : ℕ) → length s.lanes ≡ 2 * k → ((i : ℕ) → i < k → (lane s.lanes (2 * i + 1)).waiting ≡ []) → office_part k s ≡ fine s
office_skip s k long down = each_skip _ _ 0 s (λ m _ to. drain_empty (2 * m + 1) (follow m) s (omega arith) (down m (omega arith)))

-- a turn that finds nothing
pub empty_turn : (s : State) → Empty s → turn s ≡ fine s
unfolding turn
empty_turn s e = then_fine _ (empty_coordinator s e) ∙ office_skip s _ e.long e.down

-- a coordinator part in which only office i has sent anything
coordinator_one : (i : ℕ) (s t : State) → i < s.books.setting.offices → length s.lanes ≡ 2 * s.books.setting.offices → length t.lanes ≡ 2 * s.books.setting.offices
    → ((n : ℕ) → n < s.books.setting.offices → n ≢ i → (lane s.lanes (2 * n)).waiting ≡ []) → ((n : ℕ) → n < s.books.setting.offices → (lane t.lanes (2 * n)).waiting ≡ [])
    → drain (2 * i) (hear i) s ≡ fine t → coordinator_part s.books.setting.offices s ≡ fine t
coordinator_one i s t less long long' others none did =
    let k = s.books.setting.offices in
    let r = each_inv (λ i. drain (2 * i) (hear i)) (λ n u. (n ≤ i → u ≡ s) × (i < n → u ≡ t)) k 0 s
    (λ m u _ to inv.
    ⊎_elim
    (λ (e : m ≡ i). (t, ap (λ n. drain (2 * n) (hear n) u) e ∙ ap (drain (2 * i) (hear i)) (inv.0 (omega arith)) ∙ did, ((λ less. absurd (omega arith)), (λ _. refl))))
    (λ (ne : m ≡ i → ⊥). (
      u,
      ⊎_elim
          (λ (before : m < i). subst (λ v. drain (2 * m) (hear m) v ≡ fine v) (sym (inv.0 (omega arith))) (drain_empty (2 * m) (hear m) s (omega arith) (others m (omega arith) ne)))
          (λ (after : i ≤ m). subst (λ v. drain (2 * m) (hear m) v ≡ fine v) (sym (inv.1 (omega arith))) (drain_empty (2 * m) (hear m) t (omega arith) (none m (omega arith))))
          (cases_lt m i),
      ((λ le. inv.0 (omega arith)), (λ less. inv.1 (omega arith))),
    ))
    (cases_eq m i))
    ((λ _. refl), (λ less. absurd (omega arith))) in
    r.1 ∙ ap fine (r.2.1 (omega arith))

-- sends that are not refused
pub send_fine : (j b : ℕ) (ls : List Lane) → j < length ls → (lane ls j).sent < 65535 → length (lane ls j).waiting < 16 → send j b ls ≡ fine (joined ls j b)
send_fine j b ls less few room =
    let a : send_answer ls j ≡ Ok tt = cond-false _ _ _ (lt-leb _ _ less) ∙ cond-false _ _ _ (lt-leb _ _ few) ∙ cond-false _ _ _ (lt-leb _ _ room) in
    ap (λ a. sends a ls (joined ls j b)) a

pub message_signal : (j : ℕ) → j < 32 → message (32 + j) ≡ Some (Signal j)
message_signal j less =
    let q : (32 + j) / 32 ≡ 1 = omega arith in
    let r : (32 + j) % 32 ≡ j = omega arith in
    cond-true _ _ _ (eq-eqb _ _ q) ∙ ap (λ j. Some (Signal j)) r

-- a lane of which one byte was sent and taken again
unfoldable pub once : List Lane → ℕ → List Lane
once ls j = set ls j (record { waiting = []; sent = (lane ls j).sent + 1 })

module _ (ls : List Lane) (j b : ℕ) (less : j < length ls) (none : (lane ls j).waiting ≡ []) where
  joined_holds : (lane (joined ls j b) j).waiting ≡ b ∷ []
  joined_holds = ap (λ (l : Lane). l.waiting) (get_or-set_same ls j _ no_lane less) ∙ ap (λ w. w ++ (b ∷ [])) none

  joined_taken : set (joined ls j b) j (record { waiting = []; sent = (lane (joined ls j b) j).sent }) ≡ once ls j
  unfolding once
  joined_taken =
      ap (λ n. set (joined ls j b) j (record { waiting = []; sent = n })) (ap (λ (l : Lane). l.sent) (get_or-set_same ls j _ no_lane less)) ∙ set-set ls j _ _

  joined_other : (n : ℕ) → n ≢ j → lane (joined ls j b) n ≡ lane ls n
  joined_other n ne = get_or-set_other ls j n _ no_lane ne

  joined_long : length (joined ls j b) ≡ length ls
  joined_long = length-set ls j _

pub once_empty : (ls : List Lane) (j n : ℕ) → (lane ls n).waiting ≡ [] → (lane (once ls j) n).waiting ≡ []
unfolding once
once_empty ls j n none =
    ⊎_elim
    (λ (e : n ≡ j). ⊎_elim
    (λ (less : j < length ls). ap (λ m. (lane (once ls j) m).waiting) e ∙ ap (λ (l : Lane). l.waiting) (get_or-set_same ls j _ no_lane less))
    (λ (more : length ls ≤ j). ap (λ ls. (lane ls n).waiting) (set_past ls j _ more) ∙ none)
    (cases_lt j (length ls)))
    (λ (ne : n ≡ j → ⊥). ap (λ (l : Lane). l.waiting) (get_or-set_other ls j n _ no_lane ne) ∙ none)
    (cases_eq n j)

pub once_long : (ls : List Lane) (j : ℕ) → length (once ls j) ≡ length ls
unfolding once
once_long ls j = length-set ls j _

-- a byte to each of k offices, whose lanes are empty
pub record AllTold (k b : ℕ) (ls ls' : List Lane) : Type 0 where
  pub long : length ls' ≡ length ls
  pub up : (n : ℕ) → lane ls' (2 * n) ≡ lane ls (2 * n)
  pub down : (n : ℕ) → n < k → lane ls' (2 * n + 1) ≡ record { waiting = b ∷ []; sent = (lane ls (2 * n + 1)).sent + 1 }
  pub later : (n : ℕ) → k ≤ n → lane ls' (2 * n + 1) ≡ lane ls (2 * n + 1)

pub tell_fine : (k b : ℕ) (ls : List Lane) → length ls ≡ 2 * k → ((n : ℕ) → n < k → (lane ls (2 * n + 1)).waiting ≡ []) → ((n : ℕ) → n < k → (lane ls (2 * n + 1)).sent < 65535) → (ls' : List Lane) × (tell k b ls ≡ fine ls') × AllTold k b ls ls'
tell_fine k b ls long none few =
    each_from (λ i. send (2 * i + 1) b) (λ m ls'. AllTold m b ls ls') k ls step
    (record { long = refl; up = λ n. refl; down = λ n to. absurd (omega arith); later = λ n _. refl })
  where
    step : (m : ℕ) (t : List Lane) → m < k → AllTold m b ls t → (u : List Lane) × (send (2 * m + 1) b t ≡ fine u) × AllTold (m + 1) b ls u
    step m t to inv =
        let here = inv.later m (omega arith) in
        let none' : (lane t (2 * m + 1)).waiting ≡ [] = ap (λ (l : Lane). l.waiting) here ∙ none m (omega arith) in
        let in' : 2 * m + 1 < length t = omega (arith, inv.long) in
        let l : Lane = record { waiting = (lane t (2 * m + 1)).waiting ++ (b ∷ []); sent = (lane t (2 * m + 1)).sent + 1 } in
        let is : l ≡ record { waiting = b ∷ []; sent = (lane ls (2 * m + 1)).sent + 1 } =
        ap (λ w. record { waiting = w ++ (b ∷ []); sent = (lane t (2 * m + 1)).sent + 1 }) none' ∙ ap (λ (q : Lane). record { waiting = b ∷ []; sent = q.sent + 1 }) here in (
          joined t (2 * m + 1) b,
          send_fine (2 * m + 1) b t in' (omega (arith, ap (λ (l : Lane). l.sent) here, few m (omega arith))) (rw none' (omega arith)),
          record {
            long = length-set t (2 * m + 1) l ∙ inv.long;
            up = λ n. get_or-set_other t (2 * m + 1) (2 * n) l no_lane (λ q. omega arith) ∙ inv.up n;
            down = λ n to'. ⊎_elim
                (λ (q : n ≡ m). ap (λ n. lane (joined t (2 * m + 1) b) (2 * n + 1)) q ∙ get_or-set_same t (2 * m + 1) l no_lane in' ∙ is ∙ ap (λ n. record { waiting = b ∷ []; sent = (lane ls (2 * n + 1)).sent + 1 }) (sym q))
                (λ (ne : n ≡ m → ⊥). get_or-set_other t (2 * m + 1) (2 * n + 1) l no_lane (λ q. ne (omega arith)) ∙ inv.down n (omega arith))
                (cases_eq n m);
            later = λ n from. get_or-set_other t (2 * m + 1) (2 * n + 1) l no_lane (λ q. omega arith) ∙ inv.later n (omega arith);
          },
        )

-- office i sends a signal to a coordinator that is at its step
module _ (i : ℕ) (s : State) (e : Empty s) (less : i < s.books.setting.offices) (few : (lane s.lanes (2 * i)).sent < 65535)
    (going : is_closed s.books.coordinator.phase ≡ false) (same : (office s.books i).step ≡ step_in s.books.coordinator.phase) (small : step_in s.books.coordinator.phase < 32) where
  unfoldable pub ready : List Lane
  ready = once s.lanes (2 * i)

  heard_signal : heard i (message (32 + (office s.books i).step)) s.books ≡ signalled i s.books
  heard_signal = ap (λ m. heard i m s.books) (message_signal (office s.books i).step (omega (arith, same, small))) ∙ cond-false _ _ _ going ∙ cond-true _ _ _ (eq-eqb _ _ same)

  -- the signal, if the coordinator makes of it what `t` is, and two turns follow
  pub signalled_on : (t u : State) → length t.lanes ≡ 2 * s.books.setting.offices → t.books.setting ≡ s.books.setting → ((n : ℕ) → n < s.books.setting.offices → (lane t.lanes (2 * n)).waiting ≡ [])
      → replies (signalled i s.books).reply (signalled i s.books).books ready ≡ fine t
      → office_part s.books.setting.offices t ≡ fine u → (v : State) → turn u ≡ fine v → signal_and_settle i s ≡ fine v
  unfolding signal_and_settle turn hear ready
  signalled_on t u long setting up spoke moves v then-turn =
      let sig = 32 + (office s.books i).step in
      let in' : 2 * i < length s.lanes = omega (arith, e.long) in
      let ls₁ = joined s.lanes (2 * i) sig in
      let s₁ = at s.books ls₁ in
      let sent : with_lanes s.books (send (2 * i) sig s.lanes) ≡ fine s₁ =
      ap (with_lanes s.books) (send_fine (2 * i) sig s.lanes in' few (rw (e.up i less) (omega arith))) in
      let heard-it : hear i sig (at s.books (set ls₁ (2 * i) (record { waiting = []; sent = (lane ls₁ (2 * i)).sent }))) ≡ fine t =
      ap (λ ls. hear i sig (at s.books ls)) (joined_taken s.lanes (2 * i) sig in' (e.up i less)) ∙ ap (λ (h : Heard). replies h.reply h.books ready) heard_signal ∙ spoke in
      let drained = drain_one (2 * i) sig (hear i) s₁ t (omega (arith, joined_long s.lanes (2 * i) sig in' (e.up i less))) (joined_holds s.lanes (2 * i) sig in' (e.up i less)) heard-it in
      let coordinated = coordinator_one i s₁ t less (joined_long s.lanes (2 * i) sig in' (e.up i less) ∙ e.long) long
      (λ n to ne. ap (λ (l : Lane). l.waiting) (joined_other s.lanes (2 * i) sig in' (e.up i less) (2 * n) (λ q. ne (omega arith))) ∙ e.up n to) up drained in
      let k : t.books.setting.offices ≡ s.books.setting.offices = ap (λ (t : SettingTable). t.offices) setting in
      let turned : turn s₁ ≡ fine u = then_fine _ coordinated ∙ ap (λ k. office_part k t) k ∙ moves in
      then_fine _ sent ∙ then_fine _ turned ∙ then-turn

  signal_books : Books
  signal_books = in_coordinator s.books i (record { phase = Open (step_in s.books.coordinator.phase); signals = s.books.coordinator.signals + 1 })

  ready_empty : Empty (at signal_books ready)
  unfolding ready signal_books
  ready_empty = record {
    long = once_long s.lanes (2 * i) ∙ e.long;
    up = λ n to. once_empty s.lanes (2 * i) (2 * n) (e.up n to);
    down = λ n to. once_empty s.lanes (2 * i) (2 * n + 1) (e.down n to);
  }

  -- one signal more, and the step goes on
  pub settle_signal : (s.books.coordinator.signals + 1 ≡ quota s.books.setting (step_in s.books.coordinator.phase) → ⊥) → signal_and_settle i s ≡ fine (at (in_coordinator s.books i (record { phase = Open (step_in s.books.coordinator.phase); signals = s.books.coordinator.signals + 1 })) (once s.lanes (2 * i)))
  unfolding signal_books ready signalled
  settle_signal not_full =
      let t = at signal_books ready in
      let is : signalled i s.books ≡ heard_of signal_books None = signalled_not not_full in
      let em = ready_empty in
      signalled_on t t em.long refl em.up (ap (λ (h : Heard). replies h.reply h.books ready) is) (office_skip t _ em.long em.down) t (empty_turn t em)
    where
      signalled_not : (s.books.coordinator.signals + 1 ≡ quota s.books.setting (step_in s.books.coordinator.phase) → ⊥) → signalled i s.books ≡ heard_of signal_books None
      signalled_not n = cond-false _ _ _ (ne_eqb _ _ n)

pub message_start : (j : ℕ) → j < 32 → message (64 + j) ≡ Some (Start j)
message_start j less =
    let q : (64 + j) / 32 ≡ 2 = omega arith in
    let r : (64 + j) % 32 ≡ j = omega arith in
    cond-false _ _ _ (ne_eqb ((64 + j) / 32) 1 (λ e. omega arith)) ∙ cond-true _ _ _ (eq-eqb _ _ q) ∙ ap (λ j. Some (Start j)) r

message_close : (j : ℕ) → j < 32 → message (96 + j) ≡ Some (Close j)
message_close j less =
    let q : (96 + j) / 32 ≡ 3 = omega arith in
    let r : (96 + j) % 32 ≡ j = omega arith in
    cond-false _ _ _ (ne_eqb ((96 + j) / 32) 1 (λ e. omega arith)) ∙ cond-false _ _ _ (ne_eqb ((96 + j) / 32) 2 (λ e. omega arith)) ∙ cond-true _ _ _ (eq-eqb _ _ q) ∙ ap (λ j. Some (Close j)) r

-- the offices read a close
pub record Closing (k : ℕ) (t u : State) : Type 0 where
  pub books : u.books ≡ t.books
  pub long : length u.lanes ≡ length t.lanes
  pub up : (n : ℕ) → lane u.lanes (2 * n) ≡ lane t.lanes (2 * n)
  pub down : (n : ℕ) → n < k → lane u.lanes (2 * n + 1) ≡ record { waiting = []; sent = (lane t.lanes (2 * n + 1)).sent }
  pub later : (n : ℕ) → k ≤ n → lane u.lanes (2 * n + 1) ≡ lane t.lanes (2 * n + 1)

pub close_part : (k j : ℕ) (t : State) → j < 32 → length t.lanes ≡ 2 * k → ((n : ℕ) → n < k → (lane t.lanes (2 * n + 1)).waiting ≡ (96 + j) ∷ []) → (u : State) × (office_part k t ≡ fine u) × Closing k t u
unfolding follow each
close_part k j t small long has =
    each_from (λ i. drain (2 * i + 1) (follow i)) (λ m u. Closing m t u) k t step
    (record { books = refl; long = refl; up = λ n. refl; down = λ n to. absurd (omega arith); later = λ n _. refl })
  where
    step : (m : ℕ) (s : State) → m < k → Closing m t s → (u : State) × (drain (2 * m + 1) (follow m) s ≡ fine u) × Closing (m + 1) t u
    step m s to inv =
        let here = inv.later m (omega arith) in
        let in' : 2 * m + 1 < length s.lanes = omega (arith, inv.long) in
        let l : Lane = record { waiting = []; sent = (lane s.lanes (2 * m + 1)).sent } in
        let u = at s.books (set s.lanes (2 * m + 1) l) in
        let read : followed m (message (96 + j)) s.books ≡ followed_of s.books 0 = ap (λ q. followed m q s.books) (message_close j small) in (
          u,
          drain_one (2 * m + 1) (96 + j) (follow m) s u in' (ap (λ (l : Lane). l.waiting) here ∙ has m to) (ap (λ (q : Followed). answers m q u.lanes) read),
          record {
            books = inv.books;
            long = length-set s.lanes (2 * m + 1) l ∙ inv.long;
            up = λ n. get_or-set_other s.lanes (2 * m + 1) (2 * n) l no_lane (λ q. omega arith) ∙ inv.up n;
            down = λ n to'. ⊎_elim
                (λ (q : n ≡ m). ap (λ n. lane u.lanes (2 * n + 1)) q ∙ get_or-set_same s.lanes (2 * m + 1) l no_lane in' ∙ ap (λ (q : Lane). record { waiting = []; sent = q.sent }) here ∙ ap (λ n. record { waiting = []; sent = (lane t.lanes (2 * n + 1)).sent }) (sym q))
                (λ (ne : n ≡ m → ⊥). get_or-set_other s.lanes (2 * m + 1) (2 * n + 1) l no_lane (λ q. ne (omega arith)) ∙ inv.down n (omega arith))
                (cases_eq n m);
            later = λ n from. get_or-set_other s.lanes (2 * m + 1) (2 * n + 1) l no_lane (λ q. omega arith) ∙ inv.later n (omega arith);
          },
        )
