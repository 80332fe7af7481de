-- A lot at a window whose lanes are empty: no fault, and the lanes are empty again. Assumes nothing.
use Rattle.std.proofs.Common.{◌≡◌, ℕ, ◌+◌, ◌-◌, ◌*◌, ◌/◌, ◌<◌, ◌≤◌, true, false, cond, eqb, ◌≢◌, List, [], length, get_or, replicate, Some, sym, refl, ap, ◌∙◌, subst, ⊎_elim, div-lt_iff_lt-mul, div-le_self, arith}
use Rattle.std.proofs.lemmas.List.{length-set, get_or-set_same, get_or-set_other, set_past, nil_from_length, get_or-replicate}
use Rattle.std.proofs.lemmas.Bool.{cases_lt, cases_eq, cases_Bool, lt-ltb, le-ltb, eq-eqb, ne_eqb, cond-true, cond-false}
use Rattle.post.specs.Lanes.{Lane, lane, no_lane, PostLaw, Unused}
use Rattle.window.specs.Sequences.{fine}
use Rattle.window.specs.declared.setting_table.SettingTable.{SettingTable}
use Rattle.window.specs.declared.books.Books.{Books}
use Rattle.window.specs.declared.books.Coordinator.{Coordinator}
use Rattle.window.specs.declared.checked_books.CheckedBooks.{CheckedBooks}
use Rattle.window.specs.declared.books.OfficeRecord.{OfficeRecord}
use Rattle.window.specs.declared.message.Message.TheVariants.{Start, Close}
use Rattle.window.specs.declared.books.Phase.TheVariants.{Open, Closed}
use Rattle.window.specs.Parts.{step_in, is_closed, Heard, heard_of, signalled, office, no_office, slack, quota, in_coordinator, due, counted}
use Rattle.window.specs.Turns.{State, at, with_lanes, tell, replies, coordinator_part, office_part, turn, signal_and_settle, accepted}
use Rattle.window.proofs.After.{moved_record, whole, sumq, MovedOn, After, goes_on, ends, moves_on, Accepted, counts, signals}
use Rattle.window.proofs.Even.{Empty, Even}
use Rattle.window.specs.Opening.{opened}
use Rattle.window.proofs.Calm.{then_fine, once, once_empty, once_long, ready, signalled_on, settle_signal, AllTold, tell_fine, close_part, office_skip, empty_turn}
use Rattle.window.proofs.Starts.{Moving, Crediting, start_part, sumq_less, credit_part}

-- the record of an office after a credit: its step and its remainder stay
module _ (b : Books) (i : ℕ) (h : Coordinator) where
  credited_record : (n : ℕ) → ((office (in_coordinator b i h) n).step ≡ (office b n).step) × ((office (in_coordinator b i h) n).remainder ≡ (office b n).remainder)
  credited_record n =
      let o : OfficeRecord = record { step = (office b i).step; credit = (office b i).credit + slack b.setting (step_in b.coordinator.phase); remainder = (office b i).remainder } in
      ⊎_elim
      (λ (e : n ≡ i). ⊎_elim
      (λ (less : i < length b.table).
      let q = ap (office (in_coordinator b i h)) e ∙ get_or-set_same b.table i o no_office less in
      (ap (λ (o : OfficeRecord). o.step) q ∙ ap (λ n. (office b n).step) (sym e), ap (λ (o : OfficeRecord). o.remainder) q ∙ ap (λ n. (office b n).remainder) (sym e)))
      (λ (more : length b.table ≤ i).
      let q = ap (λ l. get_or l n no_office) (set_past b.table i o more) in
      (ap (λ (o : OfficeRecord). o.step) q, ap (λ (o : OfficeRecord). o.remainder) q))
      (cases_lt i (length b.table)))
      (λ (ne : n ≡ i → ⊥).
      let q = get_or-set_other b.table i n o no_office ne in
      (ap (λ (o : OfficeRecord). o.step) q, ap (λ (o : OfficeRecord). o.remainder) q))
      (cases_eq n i)

once_sent : (ls : List Lane) (j n : ℕ) → (lane (once ls j) n).sent ≤ (lane ls n).sent + 1
unfolding once
once_sent ls j n =
    let l : Lane = record { waiting = []; sent = (lane ls j).sent + 1 } in
    ⊎_elim
    (λ (e : n ≡ j). ⊎_elim
    (λ (less : j < length ls). omega (arith, ap (λ (l : Lane). l.sent) (ap (lane (once ls j)) e ∙ get_or-set_same ls j l no_lane less), ap (λ n. (lane ls n).sent) e))
    (λ (more : length ls ≤ j). omega (arith, ap (λ ls. (lane ls n).sent) (set_past ls j l more)))
    (cases_lt j (length ls)))
    (λ (ne : n ≡ j → ⊥). omega (arith, ap (λ (l : Lane). l.sent) (get_or-set_other ls j n l no_lane ne)))
    (cases_eq n j)

once_up : (ls : List Lane) (i n : ℕ) → 2 * i < length ls → (lane (once ls (2 * i)) (2 * n)).sent ≡ (lane ls (2 * n)).sent + cond (eqb n i) 1 0
unfolding once
once_up ls i n less =
    let l : Lane = record { waiting = []; sent = (lane ls (2 * i)).sent + 1 } in
    ⊎_elim
    (λ (e : n ≡ i). ap (λ n. (lane (once ls (2 * i)) (2 * n)).sent) e ∙ ap (λ (l : Lane). l.sent) (get_or-set_same ls (2 * i) l no_lane less) ∙ omega (arith, cond-true {A = ℕ} _ 1 0 (eq-eqb n i e), ap (λ n. (lane ls (2 * n)).sent) e))
    (λ (ne : n ≡ i → ⊥). omega (arith, ap (λ (l : Lane). l.sent) (get_or-set_other ls (2 * i) (2 * n) l no_lane (λ e. ne (omega arith))), cond-false {A = ℕ} _ 1 0 (ne_eqb n i ne)))
    (cases_eq n i)

once_down : (ls : List Lane) (i n : ℕ) → lane (once ls (2 * i)) (2 * n + 1) ≡ lane ls (2 * n + 1)
unfolding once
once_down ls i n = get_or-set_other ls (2 * i) (2 * n + 1) _ no_lane (λ e. omega arith)

module _ (i : ℕ) (s : State) (even : Even s) (less : i < s.books.setting.offices) (going : is_closed s.books.coordinator.phase ≡ false)
    (from : 1 ≤ step_in s.books.coordinator.phase) (to : step_in s.books.coordinator.phase ≤ s.books.setting.steps) (below : s.books.coordinator.signals < quota s.books.setting (step_in s.books.coordinator.phase))
    (left : (n : ℕ) → n < s.books.setting.offices → (office s.books n).remainder < slack s.books.setting (step_in s.books.coordinator.phase))
    (none : (office s.books i).remainder ≡ 0) (few : (j : ℕ) → (lane s.lanes j).sent ≤ 16384) where
  k : ℕ
  k = s.books.setting.offices

  up_few : (n : ℕ) → n < s.books.setting.offices → (lane s.lanes (2 * n)).sent ≤ 16384
  up_few n l = few (2 * n)

  down_few : (n : ℕ) → n < s.books.setting.offices → (lane s.lanes (2 * n + 1)).sent ≤ 16384
  down_few n l = few (2 * n + 1)

  small : step_in s.books.coordinator.phase < 32
  small = omega (arith, s.books.setting.most)

  -- the step goes on
  even_signal : (s.books.coordinator.signals + 1 ≡ quota s.books.setting (step_in s.books.coordinator.phase) → ⊥) → (v : State) × (signal_and_settle i s ≡ fine v) × Even v × After i s v
  even_signal not_full =
      let h : Coordinator = record { phase = Open (step_in s.books.coordinator.phase); signals = s.books.coordinator.signals + 1 } in
      let e = even.empty in (
        at (in_coordinator s.books i h) (once s.lanes (2 * i)),
        settle_signal i s e less (omega (arith, up_few i less)) going (even.level i less) small not_full,
        record {
          empty = record { long = once_long s.lanes (2 * i) ∙ e.long; up = λ n l. once_empty s.lanes (2 * i) (2 * n) (e.up n l); down = λ n l. once_empty s.lanes (2 * i) (2 * n + 1) (e.down n l) };
          tall = length-set s.books.table i _ ∙ even.tall;
          level = λ n l. (credited_record s.books i h n).0 ∙ even.level n l;
        },
        goes_on not_full refl (record { up = λ n l. omega (arith, once_up s.lanes i n (omega (arith, e.long))); down = λ n l. omega (arith, ap (λ (l : Lane). l.sent) (once_down s.lanes i n)) }),
      )

  -- the last step ends
  even_close : s.books.coordinator.signals + 1 ≡ quota s.books.setting (step_in s.books.coordinator.phase) → s.books.setting.steps ≤ step_in s.books.coordinator.phase → (v : State) × (signal_and_settle i s ≡ fine v) × Even v × After i s v
  unfolding signalled ready
  even_close full last =
      let h : Coordinator = record { phase = Closed (step_in s.books.coordinator.phase); signals = s.books.coordinator.signals + 1 } in
      let e = even.empty in
      let ls = once s.lanes (2 * i) in
      let b = in_coordinator s.books i h in
      let followed = tell_fine s.books.setting.offices (96 + step_in s.books.coordinator.phase) ls (once_long s.lanes (2 * i) ∙ e.long) (λ n l. once_empty s.lanes (2 * i) (2 * n + 1) (e.down n l)) (λ n l. omega (arith, ap (λ (l : Lane). l.sent) (once_down s.lanes i n), down_few n l)) in
      let all = followed.2 in
      let t = at b followed.0 in
      let is : signalled i s.books ≡ heard_of b (Some (Close (step_in s.books.coordinator.phase))) = cond-true _ _ _ (eq-eqb _ _ full) ∙ cond-false _ _ _ (le-ltb _ _ last) in
      let long : length followed.0 ≡ 2 * s.books.setting.offices = all.long ∙ once_long s.lanes (2 * i) ∙ e.long in
      let up : (n : ℕ) → n < s.books.setting.offices → (lane followed.0 (2 * n)).waiting ≡ [] = λ n l. ap (λ (l : Lane). l.waiting) (all.up n) ∙ once_empty s.lanes (2 * i) (2 * n) (e.up n l) in
      let shut = close_part s.books.setting.offices (step_in s.books.coordinator.phase) t small long (λ n l. ap (λ (l : Lane). l.waiting) (all.down n l)) in
      let u = shut.0 in
      let c = shut.2 in
      let k_is : u.books.setting.offices ≡ s.books.setting.offices = ap (λ (b : Books). b.setting.offices) c.books in
      let coordinator-is : u.books.coordinator ≡ h = ap (λ (b : Books). b.coordinator) c.books in
      let calm : Empty u = record {
        long = c.long ∙ long ∙ ap (λ n. 2 * n) (sym k_is);
        up = λ n l. ap (λ (l : Lane). l.waiting) (c.up n) ∙ up n (omega arith);
        down = λ n l. ap (λ (l : Lane). l.waiting) (c.down n (omega arith));
      } in (
        u,
        signalled_on i s e less (omega (arith, up_few i less)) going (even.level i less) small t u long refl up (ap (λ (h : Heard). replies h.reply h.books ls) is ∙ ap (with_lanes b) followed.1) shut.1 u (empty_turn u calm),
        record {
          empty = calm;
          tall = ap (λ (b : Books). length b.table) c.books ∙ length-set s.books.table i _ ∙ even.tall;
          level = λ n l. ap (λ (b : Books). (office b n).step) c.books ∙ (credited_record s.books i h n).0 ∙ even.level n (omega arith) ∙ sym (ap (λ (h : Coordinator). step_in h.phase) coordinator-is);
        },
        ends full last c.books (record {
          up = λ n l. omega (arith, ap (λ (l : Lane). l.sent) (c.up n), ap (λ (l : Lane). l.sent) (all.up n), once_up s.lanes i n (omega (arith, e.long)));
          down = λ n l. omega (arith, ap (λ (l : Lane). l.sent) (c.down n l), ap (λ (l : Lane). l.sent) (all.down n l), ap (λ (l : Lane). l.sent) (once_down s.lanes i n));
        }),
      )

  -- a step ends and the next begins
  module _ (full : s.books.coordinator.signals + 1 ≡ quota s.books.setting (step_in s.books.coordinator.phase)) (more : step_in s.books.coordinator.phase < s.books.setting.steps) where
    abbrev next_books : Books
    next_books = in_coordinator s.books i (record { phase = Open (step_in s.books.coordinator.phase + 1); signals = 0 })

    abbrev nq : ℕ → ℕ
    nq n = whole s.books.setting (office next_books n)

    abbrev nd : ℕ
    nd = slack s.books.setting (step_in s.books.coordinator.phase + 1 - 1) / slack s.books.setting (step_in s.books.coordinator.phase + 1)

    behind : (n : ℕ) → n < s.books.setting.offices → (office next_books n).step + 1 ≡ step_in s.books.coordinator.phase + 1
    behind n l = omega (arith, (credited_record s.books i next_books.coordinator n).0, even.level n l)

    nd_low : 2 ≤ nd
    nd_low = s.books.setting.low (step_in s.books.coordinator.phase + 1) (omega arith) (omega arith)

    nd_high : nd ≤ 16
    nd_high = s.books.setting.high (step_in s.books.coordinator.phase + 1) (omega arith) (omega arith)

    q_less : (n : ℕ) → n < s.books.setting.offices → nq n < nd
    unfolding whole
    q_less n l =
        let T = s.books.setting in
        let j-is : step_in s.books.coordinator.phase + 1 - 1 ≡ step_in s.books.coordinator.phase = omega arith in
        let some : 0 < slack T (step_in s.books.coordinator.phase + 1) = T.grain (step_in s.books.coordinator.phase + 1) (omega arith) in
        let r-is : (office next_books n).remainder ≡ (office s.books n).remainder = (credited_record s.books i next_books.coordinator n).1 in
        let rung : slack T (step_in s.books.coordinator.phase) ≡ nd * slack T (step_in s.books.coordinator.phase + 1) = ap (slack T) (sym j-is) ∙ T.rung (step_in s.books.coordinator.phase + 1) (omega arith) (omega arith) in
        let under : (office next_books n).remainder < nd * slack T (step_in s.books.coordinator.phase + 1) = omega (arith, left n l, rung, r-is) in
        let quotient : (office next_books n).remainder / slack T (step_in s.books.coordinator.phase + 1) < nd = (div-lt_iff_lt-mul some).1 under in
        subst (λ m. (office next_books n).remainder / slack T m < nd) (sym (behind n l)) quotient

    q_none : nq i ≡ 0
    unfolding whole
    q_none = omega (arith, div-le_self (office next_books i).remainder (slack s.books.setting ((office next_books i).step + 1)), (credited_record s.books i next_books.coordinator i).1, none)

    sum_less : sumq nq s.books.setting.offices < quota s.books.setting (step_in s.books.coordinator.phase + 1)
    sum_less = omega (arith, nd_low, sumq_less nq (nd - 1) i s.books.setting.offices less q_none (λ n l. omega (arith, q_less n l)))

    tall_next : length next_books.table ≡ 64
    tall_next = length-set s.books.table i _ ∙ even.tall

    module _ (ls : List Lane) (followed : tell s.books.setting.offices (64 + (step_in s.books.coordinator.phase + 1)) (once s.lanes (2 * i)) ≡ fine ls) (all : AllTold s.books.setting.offices (64 + (step_in s.books.coordinator.phase + 1)) (once s.lanes (2 * i)) ls) where
      long_t : length ls ≡ 2 * s.books.setting.offices
      long_t = all.long ∙ once_long s.lanes (2 * i) ∙ even.empty.long

      up_t : (n : ℕ) → n < s.books.setting.offices → (lane ls (2 * n)).waiting ≡ []
      up_t n l = ap (λ (l : Lane). l.waiting) (all.up n) ∙ once_empty s.lanes (2 * i) (2 * n) (even.empty.up n l)

      spoke : replies (signalled i s.books).reply (signalled i s.books).books (once s.lanes (2 * i)) ≡ fine (at next_books ls)
      unfolding signalled
      spoke =
          let is : signalled i s.books ≡ heard_of next_books (Some (Start (step_in s.books.coordinator.phase + 1))) = cond-true _ _ _ (eq-eqb _ _ full) ∙ cond-true _ _ _ (lt-ltb _ _ more) in
          ap (λ (h : Heard). replies h.reply h.books (once s.lanes (2 * i))) is ∙ ap (with_lanes next_books) followed

      module _ (u : State) (moves : office_part s.books.setting.offices (at next_books ls) ≡ fine u) (mv : Moving (step_in s.books.coordinator.phase + 1) s.books.setting.offices (at next_books ls) u) where
        step_u : step_in u.books.coordinator.phase ≡ step_in s.books.coordinator.phase + 1
        step_u = ap (λ (h : Coordinator). step_in h.phase) mv.coordinator

        k_u : u.books.setting.offices ≡ s.books.setting.offices
        k_u = ap (λ (t : SettingTable). t.offices) mv.setting

        quota_u : quota u.books.setting (step_in u.books.coordinator.phase) ≡ quota s.books.setting (step_in s.books.coordinator.phase + 1)
        quota_u = ap (λ t. quota t (step_in u.books.coordinator.phase)) mv.setting ∙ ap (quota s.books.setting) step_u

        module _ (v : State) (credited : coordinator_part s.books.setting.offices u ≡ fine v) (c : Crediting nq s.books.setting.offices u v) where
          k_v : v.books.setting.offices ≡ s.books.setting.offices
          k_v = ap (λ (t : SettingTable). t.offices) c.setting ∙ k_u

          long_v : length v.lanes ≡ 2 * s.books.setting.offices
          long_v = c.long ∙ mv.long ∙ long_t

          down_v : (n : ℕ) → n < s.books.setting.offices → (lane v.lanes (2 * n + 1)).waiting ≡ []
          down_v n l = ap (λ (l : Lane). l.waiting) (c.down n ∙ mv.down n l)

          turned : turn u ≡ fine v
          unfolding turn
          turned = then_fine _ (ap (λ k. coordinator_part k u) k_u ∙ credited) ∙ ap (λ k. office_part k v) k_v ∙ office_skip v s.books.setting.offices long_v down_v

          step_v : step_in v.books.coordinator.phase ≡ step_in s.books.coordinator.phase + 1
          step_v = ap (λ (h : Coordinator). step_in h.phase) c.coordinator ∙ step_u

          even_v : Even v
          unfolding moved_record
          even_v =
              let signals-v : v.books.coordinator.signals ≡ sumq nq s.books.setting.offices = ap (λ (h : Coordinator). h.signals) c.coordinator in
              record {
                empty = record { long = long_v ∙ ap (λ n. 2 * n) (sym k_v); up = λ n l. ap (λ (l : Lane). l.waiting) (c.up n (omega (arith, k_v))); down = λ n l. down_v n (omega (arith, k_v)) };
                tall = c.tall ∙ mv.tall ∙ tall_next;
                level = λ n l. let l' : n < s.books.setting.offices = omega (arith, k_v) in ap (λ (o : OfficeRecord). o.step) (c.records n l') ∙ ap (λ (o : OfficeRecord). o.step) (mv.records n l') ∙ behind n l' ∙ sym step_v;
              }

          moved_on : MovedOn i s.books v.books
          unfolding moved_record
          moved_on = record {
            setting = c.setting ∙ mv.setting;
            coordinator = c.coordinator ∙ ap (λ n. record { phase = Open n; signals = sumq nq s.books.setting.offices }) step_u;
            records = λ n l.
                c.records n l
                ∙ ap (λ z. record { step = (office u.books n).step; credit = (office u.books n).credit + nq n * z; remainder = (office u.books n).remainder }) (ap (λ t. slack t (step_in u.books.coordinator.phase)) mv.setting ∙ ap (slack s.books.setting) step_u)
                ∙ ap (λ (o : OfficeRecord). record { step = o.step; credit = o.credit + nq n * slack s.books.setting (step_in s.books.coordinator.phase + 1); remainder = o.remainder }) (mv.records n l);
          }

          next_v : (signal_and_settle i s ≡ fine v) × Even v × After i s v
          unfolding ready
          next_v = (
            signalled_on i s even.empty less (omega (arith, up_few i less)) going (even.level i less) small (at next_books ls) u long_t refl up_t spoke moves v turned,
            even_v,
            moves_on full more moved_on (record {
              up = λ n l. omega (arith, ap (λ (l : Lane). l.sent) (c.up n l), ap (λ (l : Lane). l.sent) (mv.up n l), ap (λ (l : Lane). l.sent) (all.up n), once_up s.lanes i n (omega (arith, even.empty.long)));
              down = λ n l. omega (arith, ap (λ (l : Lane). l.sent) (c.down n ∙ mv.down n l), ap (λ (l : Lane). l.sent) (all.down n l), ap (λ (l : Lane). l.sent) (once_down s.lanes i n));
            }),
          )

        next_u : (v : State) × (signal_and_settle i s ≡ fine v) × Even v × After i s v
        next_u =
            let r = credit_part s.books.setting.offices nq u (ap (λ (h : Coordinator). is_closed h.phase) mv.coordinator) (ap (λ (h : Coordinator). h.signals) mv.coordinator) (omega (arith, step_u, small, s.books.setting.most)) (omega (arith, mv.tall, tall_next, s.books.setting.few)) (mv.long ∙ long_t)
            (λ n l. ap (λ (l : Lane). l.waiting) (mv.up n l) ∙ ap (λ m. replicate (nq n) (32 + m)) (sym step_u)) (omega (arith, quota_u, sum_less)) in
            let z = next_v r.0 r.1 r.2 in
            (r.0, z.0, z.1, z.2)

      next_t : (v : State) × (signal_and_settle i s ≡ fine v) × Even v × After i s v
      next_t =
          let r = start_part s.books.setting.offices (step_in s.books.coordinator.phase + 1) (at next_books ls) (omega (arith, s.books.setting.most)) (omega arith) (omega (arith, tall_next, s.books.setting.few)) long_t behind up_t
          (λ n l. ap (λ (l : Lane). l.waiting) (all.down n l)) (λ n l. omega (arith, q_less n l, nd_high)) (λ n l. omega (arith, q_less n l, nd_high, ap (λ (l : Lane). l.sent) (all.up n), once_sent s.lanes (2 * i) (2 * n), up_few n l)) in
          next_u r.0 r.1 r.2

    even_next : (v : State) × (signal_and_settle i s ≡ fine v) × Even v × After i s v
    even_next =
        let r = tell_fine s.books.setting.offices (64 + (step_in s.books.coordinator.phase + 1)) (once s.lanes (2 * i)) (once_long s.lanes (2 * i) ∙ even.empty.long) (λ n l. once_empty s.lanes (2 * i) (2 * n + 1) (even.empty.down n l)) (λ n l. omega (arith, ap (λ (l : Lane). l.sent) (once_down s.lanes i n), down_few n l)) in
        next_t r.0 r.1 r.2

  -- whatever the signal brings about
  pub even_report : (v : State) × (signal_and_settle i s ≡ fine v) × Even v × After i s v
  even_report =
      ⊎_elim
      (λ (full : s.books.coordinator.signals + 1 ≡ quota s.books.setting (step_in s.books.coordinator.phase)). ⊎_elim (λ l. even_next full l) (λ m. even_close full m) (cases_lt (step_in s.books.coordinator.phase) s.books.setting.steps))
      (λ (not_full : s.books.coordinator.signals + 1 ≡ quota s.books.setting (step_in s.books.coordinator.phase) → ⊥). even_signal not_full)
      (cases_eq (s.books.coordinator.signals + 1) (quota s.books.setting (step_in s.books.coordinator.phase)))

-- an accepted lot
module _ (d : CheckedBooks) (ls : List Lane) (even : Even (at d.books ls)) (i : ℕ) (less : i < d.books.setting.offices) (going : is_closed d.books.coordinator.phase ≡ false) (few : (j : ℕ) → (lane ls j).sent ≤ 16384) where
  in_table : i < length d.books.table
  in_table = omega (arith, even.tall, d.books.setting.few)

  abbrev new_record : OfficeRecord
  new_record = record { step = (office d.books i).step; credit = (office d.books i).credit; remainder = cond (due i d.books) 0 ((office d.books i).remainder + 1) }

  record_here : office (counted i d.books) i ≡ new_record
  record_here = get_or-set_same d.books.table i new_record no_office in_table

  record_other : (n : ℕ) → n ≢ i → office (counted i d.books) n ≡ office d.books n
  record_other n ne = get_or-set_other d.books.table i n new_record no_office ne

  even_counted : Even (at (counted i d.books) ls)
  even_counted = record {
    empty = record { long = even.empty.long; up = even.empty.up; down = even.empty.down };
    tall = length-set d.books.table i new_record ∙ even.tall;
    level = λ n l. ⊎_elim
        (λ (e : n ≡ i). ap (λ n. (office (counted i d.books) n).step) e ∙ ap (λ (o : OfficeRecord). o.step) record_here ∙ even.level i less)
        (λ (ne : n ≡ i → ⊥). ap (λ (o : OfficeRecord). o.step) (record_other n ne) ∙ even.level n l)
        (cases_eq n i);
  }

  left_counted : due i d.books ≡ true → (n : ℕ) → n < d.books.setting.offices → (office (counted i d.books) n).remainder < slack d.books.setting (step_in d.books.coordinator.phase)
  left_counted is n l =
      let some : 0 < slack d.books.setting (step_in d.books.coordinator.phase) = d.books.setting.grain (step_in d.books.coordinator.phase) d.to in
      ⊎_elim
      (λ (e : n ≡ i). omega (arith, some, ap (λ n. (office (counted i d.books) n).remainder) e, ap (λ (o : OfficeRecord). o.remainder) record_here, cond-true (due i d.books) 0 ((office d.books i).remainder + 1) is))
      (λ (ne : n ≡ i → ⊥).
      let left : (office d.books n).remainder < slack d.books.setting (office d.books n).step = d.left n (omega (arith, d.books.setting.few)) in
      omega (arith, ap (λ (o : OfficeRecord). o.remainder) (record_other n ne), left, ap (slack d.books.setting) (even.level n l)))
      (cases_eq n i)

  pub even_accepted : (v : State) × (accepted i (at d.books ls) ≡ fine v) × Even v × Accepted i (at d.books ls) v
  even_accepted =
      ⊎_elim
      (λ (is : due i d.books ≡ true).
      let r = even_report i (at (counted i d.books) ls) even_counted less going d.from d.to (d.going going) (left_counted is)
      (ap (λ (o : OfficeRecord). o.remainder) record_here ∙ cond-true (due i d.books) 0 ((office d.books i).remainder + 1) is) few in
      (r.0, cond-true _ _ _ is ∙ r.1, r.2, signals is r.3))
      (λ (is : due i d.books ≡ false). (at (counted i d.books) ls, cond-false _ _ _ is, even_counted, counts is refl))
      (cases_Bool (due i d.books))

-- a window that was just opened on a post that was never used
pub even_opened : (k : ℕ) (t : SettingTable) (b : Books) (ls : List Lane) → PostLaw k ls → t.offices ≡ k → b ≡ opened t → Unused ls → Even (at b ls)
even_opened k t b ls law same is unused = subst (λ b. Even (at b ls)) (sym is) (record {
  empty = record { long = law.both_ways ∙ ap (λ n. 2 * n) (sym same); up = λ n l. none (2 * n) (omega (arith, same)); down = λ n l. none (2 * n + 1) (omega (arith, same)) };
  tall = refl;
  level = λ n l. ap (λ (o : OfficeRecord). o.step) (get_or-replicate 64 n (record { step = 1; credit = 0; remainder = 0 }) no_office (omega (arith, t.few)));
})
  where
    none : (j : ℕ) → j < 2 * k → (lane ls j).waiting ≡ []
    none j less = let there : j < length ls = omega (arith, law.both_ways) in nil_from_length _ (omega (arith, (law.each j there).within, unused j there))
