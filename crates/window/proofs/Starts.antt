-- What the offices and the coordinator do after a start. Assumes nothing.
use Rattle.std.proofs.Common.{◌≡◌, ℕ, zero, suc, ◌+◌, ◌-◌, ◌*◌, ◌<◌, ◌≤◌, false, eqb, ◌≢◌, List, [], ◌∷◌, ◌++◌, length, set, replicate, None, sym, refl, ap, ◌∙◌, ⊎_elim, suc-mul, add-one, arith}
use Rattle.std.proofs.lemmas.List.{length-set, length-replicate, get_or-set_same, get_or-set_other, replicate_more}
use Rattle.std.proofs.lemmas.Bool.{cases_eq, le-leb, eq-eqb, ne_eqb, cond-true, cond-false}
use Rattle.post.specs.Lanes.{Lane, lane, no_lane, send, joined}
use Rattle.window.specs.Sequences.{fine}
use Rattle.window.specs.declared.setting_table.SettingTable.{SettingTable}
use Rattle.window.specs.declared.books.Coordinator.{Coordinator}
use Rattle.window.specs.declared.books.Phase.TheVariants.{Open}
use Rattle.window.specs.declared.books.OfficeRecord.{OfficeRecord}
use Rattle.window.specs.Parts.{step_in, is_closed, Heard, heard, heard_of, message, Followed, followed, followed_of, moved, signalled, office, no_office, slack, quota, in_coordinator, in_office}
use Rattle.window.specs.Turns.{State, at, with_lanes, signal, with_each, drain, replies, hear, answers, follow, coordinator_part, office_part}
use Rattle.window.proofs.Sound.{open_at}
use Rattle.window.proofs.After.{moved_record, whole, sumq}
use Rattle.window.proofs.Drains.{drain_back}
use Rattle.window.proofs.Calm.{then_fine, each_from, drain_one, send_fine, message_start, message_signal}

-- n signals on an empty lane
record Signals (i sig n : ℕ) (ls ls' : List Lane) : Type 0 where
  long : length ls' ≡ length ls
  here : lane ls' (2 * i) ≡ record { waiting = replicate n sig; sent = (lane ls (2 * i)).sent + n }
  others : (x : ℕ) → x ≢ 2 * i → lane ls' x ≡ lane ls x

signal_fine : (i step n : ℕ) (ls : List Lane) → 2 * i < length ls → (lane ls (2 * i)).waiting ≡ [] → n ≤ 16 → (lane ls (2 * i)).sent + n ≤ 65535 → (ls' : List Lane) × (signal i step n ls ≡ fine ls') × Signals i (32 + step) n ls ls'
signal_fine i step n ls in' none few sent =
    each_from (λ _. send (2 * i) (32 + step)) (λ m ls'. Signals i (32 + step) m ls ls') n ls go
    (record { long = refl; here = ap (λ w. record { waiting = w; sent = (lane ls (2 * i)).sent }) none ∙ (let e : (lane ls (2 * i)).sent ≡ (lane ls (2 * i)).sent + 0 = omega arith in ap (λ n. record { waiting = []; sent = n }) e); others = λ x ne. refl })
  where
    go : (m : ℕ) (t : List Lane) → m < n → Signals i (32 + step) m ls t → (u : List Lane) × (send (2 * i) (32 + step) t ≡ fine u) × Signals i (32 + step) (m + 1) ls u
    go m t to inv =
        let b = 32 + step in
        let here = inv.here in
        let w : (lane t (2 * i)).waiting ≡ replicate m b = ap (λ (l : Lane). l.waiting) here in
        let c : (lane t (2 * i)).sent ≡ (lane ls (2 * i)).sent + m = ap (λ (l : Lane). l.sent) here in
        let e : (lane ls (2 * i)).sent + m + 1 ≡ (lane ls (2 * i)).sent + (m + 1) = omega arith in
        let l : Lane = record { waiting = (lane t (2 * i)).waiting ++ (b ∷ []); sent = (lane t (2 * i)).sent + 1 } in (
          joined t (2 * i) b,
          send_fine (2 * i) b t (omega (arith, inv.long)) (omega arith) (omega (arith, ap length w, length-replicate m b)),
          record {
            long = length-set t (2 * i) l ∙ inv.long;
            here = get_or-set_same t (2 * i) l no_lane (omega (arith, inv.long)) ∙ ap (λ (q : Lane). record { waiting = q.waiting ++ (b ∷ []); sent = q.sent + 1 }) here ∙ ap (λ w. record { waiting = w; sent = (lane ls (2 * i)).sent + m + 1 }) (replicate_more m b) ∙ ap (λ n. record { waiting = replicate (m + 1) b; sent = n }) e;
            others = λ x ne. get_or-set_other t (2 * i) x l no_lane ne ∙ inv.others x ne;
          },
        )

pub record Moving (j m : ℕ) (t s : State) : Type 0 where
  pub setting : s.books.setting ≡ t.books.setting
  pub coordinator : s.books.coordinator ≡ t.books.coordinator
  pub tall : length s.books.table ≡ length t.books.table
  pub records : (n : ℕ) → n < m → office s.books n ≡ moved_record t.books.setting (office t.books n)
  pub records_later : (n : ℕ) → m ≤ n → office s.books n ≡ office t.books n
  pub long : length s.lanes ≡ length t.lanes
  pub up : (n : ℕ) → n < m → lane s.lanes (2 * n) ≡ record { waiting = replicate (whole t.books.setting (office t.books n)) (32 + j); sent = (lane t.lanes (2 * n)).sent + whole t.books.setting (office t.books n) }
  pub up_later : (n : ℕ) → m ≤ n → lane s.lanes (2 * n) ≡ lane t.lanes (2 * n)
  pub down : (n : ℕ) → n < m → lane s.lanes (2 * n + 1) ≡ record { waiting = []; sent = (lane t.lanes (2 * n + 1)).sent }
  pub down_later : (n : ℕ) → m ≤ n → lane s.lanes (2 * n + 1) ≡ lane t.lanes (2 * n + 1)

module _ (k j : ℕ) (t : State) (small : j < 32) (in-steps : j ≤ t.books.setting.steps) (few : k ≤ length t.books.table) (long : length t.lanes ≡ 2 * k)
    (behind : (n : ℕ) → n < k → (office t.books n).step + 1 ≡ j)
    (up : (n : ℕ) → n < k → (lane t.lanes (2 * n)).waiting ≡ [])
    (down : (n : ℕ) → n < k → (lane t.lanes (2 * n + 1)).waiting ≡ (64 + j) ∷ [])
    (wholes : (n : ℕ) → n < k → whole t.books.setting (office t.books n) ≤ 16)
    (sent : (n : ℕ) → n < k → (lane t.lanes (2 * n)).sent + whole t.books.setting (office t.books n) ≤ 65535) where
  move : (m : ℕ) (s : State) → m < k → Moving j m t s → (u : State) × (drain (2 * m + 1) (follow m) s ≡ fine u) × Moving j (m + 1) t u
  unfolding follow moved moved_record whole
  move m s to inv =
      let b = s.books in
      let o = office b m in
      let is : o ≡ office t.books m = inv.records_later m (omega arith) in
      let q = whole b.setting o in
      let q_is : q ≡ whole t.books.setting (office t.books m) = ap (λ r. whole r o) inv.setting ∙ ap (whole t.books.setting) is in
      let here = inv.down_later m (omega arith) in
      let in' : 2 * m + 1 < length s.lanes = omega (arith, inv.long) in
      let l : Lane = record { waiting = []; sent = (lane s.lanes (2 * m + 1)).sent } in
      let ls₁ = set s.lanes (2 * m + 1) l in
      let b₁ = in_office b m (moved_record b.setting o) in
      let step_is : o.step + 1 ≡ j = ap (λ (o : OfficeRecord). o.step + 1) is ∙ behind m to in
      let record_is : office b₁ m ≡ moved_record b.setting o = get_or-set_same b.table m _ no_office (omega (arith, inv.tall)) in
      let followed-is : followed m (message (64 + j)) b ≡ followed_of b₁ q =
      ap (λ r. followed m r b) (message_start j small) ∙ cond-true _ _ _ (eq-eqb _ _ (sym step_is)) ∙ cond-true _ _ _ (le-leb j b.setting.steps (omega (arith, ap (λ (r : SettingTable). r.steps) inv.setting))) in
      let up-here : lane ls₁ (2 * m) ≡ lane t.lanes (2 * m) = get_or-set_other s.lanes (2 * m + 1) (2 * m) l no_lane (λ e. omega arith) ∙ inv.up_later m (omega arith) in
      let sig = signal_fine m j q ls₁ (omega (arith, length-set s.lanes (2 * m + 1) l)) (ap (λ (l : Lane). l.waiting) up-here ∙ up m to) (omega (arith, q_is, wholes m to)) (omega (arith, q_is, ap (λ (l : Lane). l.sent) up-here, sent m to)) in
      let f = sig.2 in
      let u = at b₁ sig.0 in
      let attended : follow m (64 + j) (at b ls₁) ≡ fine u =
      ap (λ (r : Followed). answers m r ls₁) followed-is ∙ ap (λ n. with_lanes b₁ (signal m n q ls₁)) (ap (λ (o : OfficeRecord). o.step) record_is ∙ step_is) ∙ ap (with_lanes b₁) sig.1 in (
        u,
        drain_one (2 * m + 1) (64 + j) (follow m) s u in' (ap (λ (l : Lane). l.waiting) here ∙ down m to) attended,
        record {
          setting = inv.setting;
          coordinator = inv.coordinator;
          tall = length-set b.table m _ ∙ inv.tall;
          records = λ n less. ⊎_elim
              (λ (e : n ≡ m). ap (office b₁) e ∙ record_is ∙ ap (λ r. moved_record r o) inv.setting ∙ ap (moved_record t.books.setting) is ∙ ap (λ n. moved_record t.books.setting (office t.books n)) (sym e))
              (λ (ne : n ≡ m → ⊥). get_or-set_other b.table m n _ no_office ne ∙ inv.records n (omega arith))
              (cases_eq n m);
          records_later = λ n from. get_or-set_other b.table m n _ no_office (λ e. omega arith) ∙ inv.records_later n (omega arith);
          long = f.long ∙ length-set s.lanes (2 * m + 1) l ∙ inv.long;
          up = λ n less. ⊎_elim
              (λ (e : n ≡ m). ap (λ n. lane sig.0 (2 * n)) e ∙ f.here ∙ ap (λ (l : Lane). record { waiting = replicate q (32 + j); sent = l.sent + q }) up-here ∙ ap (λ q. record { waiting = replicate q (32 + j); sent = (lane t.lanes (2 * m)).sent + q }) q_is
              ∙ ap (λ n. record { waiting = replicate (whole t.books.setting (office t.books n)) (32 + j); sent = (lane t.lanes (2 * n)).sent + whole t.books.setting (office t.books n) }) (sym e))
              (λ (ne : n ≡ m → ⊥). f.others (2 * n) (λ e. ne (omega arith)) ∙ get_or-set_other s.lanes (2 * m + 1) (2 * n) l no_lane (λ e. omega arith) ∙ inv.up n (omega arith))
              (cases_eq n m);
          up_later = λ n from. f.others (2 * n) (λ e. omega arith) ∙ get_or-set_other s.lanes (2 * m + 1) (2 * n) l no_lane (λ e. omega arith) ∙ inv.up_later n (omega arith);
          down = λ n less. f.others (2 * n + 1) (λ e. omega arith) ∙ ⊎_elim
              (λ (e : n ≡ m). ap (λ n. lane ls₁ (2 * n + 1)) e ∙ get_or-set_same s.lanes (2 * m + 1) l no_lane in' ∙ ap (λ (q : Lane). record { waiting = []; sent = q.sent }) here ∙ ap (λ n. record { waiting = []; sent = (lane t.lanes (2 * n + 1)).sent }) (sym e))
              (λ (ne : n ≡ m → ⊥). get_or-set_other s.lanes (2 * m + 1) (2 * n + 1) l no_lane (λ e. ne (omega arith)) ∙ inv.down n (omega arith))
              (cases_eq n m);
          down_later = λ n from. f.others (2 * n + 1) (λ e. omega arith) ∙ get_or-set_other s.lanes (2 * m + 1) (2 * n + 1) l no_lane (λ e. omega arith) ∙ inv.down_later n (omega arith);
        },
      )

  pub start_part : (u : State) × (office_part k t ≡ fine u) × Moving j k t u
  start_part =
      each_from (λ i. drain (2 * i + 1) (follow i)) (λ m s. Moving j m t s) k t move
      (record { setting = refl; coordinator = refl; tall = refl; records = λ n less. absurd (omega arith); records_later = λ n _. refl; long = refl; up = λ n less. absurd (omega arith); up_later = λ n _. refl; down = λ n less. absurd (omega arith); down_later = λ n _. refl })

-- the coordinator reads c signals of office m, and the step goes on
record Credits (c m : ℕ) (s v : State) : Type 0 where
  setting : v.books.setting ≡ s.books.setting
  coordinator : v.books.coordinator ≡ record { phase = Open (step_in s.books.coordinator.phase); signals = s.books.coordinator.signals + c }
  tall : length v.books.table ≡ length s.books.table
  here : office v.books m ≡ record { step = (office s.books m).step; credit = (office s.books m).credit + c * slack s.books.setting (step_in s.books.coordinator.phase); remainder = (office s.books m).remainder }
  others : (n : ℕ) → n ≢ m → office v.books n ≡ office s.books n
  long : length v.lanes ≡ length s.lanes
  lane_here : lane v.lanes (2 * m) ≡ record { waiting = []; sent = (lane s.lanes (2 * m)).sent }
  lanes : (x : ℕ) → x ≢ 2 * m → lane v.lanes x ≡ lane s.lanes x

credit_run : (c m : ℕ) (s : State) → is_closed s.books.coordinator.phase ≡ false → step_in s.books.coordinator.phase < 32 → 2 * m < length s.lanes → m < length s.books.table → (lane s.lanes (2 * m)).waiting ≡ replicate c (32 + step_in s.books.coordinator.phase)
    → s.books.coordinator.signals + c < quota s.books.setting (step_in s.books.coordinator.phase) → (v : State) × (with_each (2 * m) (hear m) (replicate c (32 + step_in s.books.coordinator.phase)) s ≡ fine v) × Credits c m s v
unfolding with_each hear signalled
credit_run zero m s going small in' few has less =
    let h = s.books.coordinator in
    let j = step_in h.phase in
    let o = office s.books m in
    let e : h.signals ≡ h.signals + 0 = omega arith in
    let z : o.credit ≡ o.credit + 0 * slack s.books.setting j = omega arith in (
      s,
      refl,
      record {
        setting = refl;
        coordinator = ap (λ n. record { phase = h.phase; signals = n }) e ∙ ap (λ p. record { phase = p; signals = h.signals + 0 }) (open_at _ going);
        tall = refl;
        here = ap (λ n. record { step = o.step; credit = n; remainder = o.remainder }) z;
        others = λ n ne. refl;
        long = refl;
        lane_here = ap (λ w. record { waiting = w; sent = (lane s.lanes (2 * m)).sent }) has;
        lanes = λ x ne. refl;
      },
    )
credit_run (suc c) m s going small in' few has less =
    let b = s.books in
    let h = b.coordinator in
    let j = step_in h.phase in
    let o = office b m in
    let sl = slack b.setting j in
    let l : Lane = record { waiting = replicate c (32 + j); sent = (lane s.lanes (2 * m)).sent } in
    let ls₁ = set s.lanes (2 * m) l in
    let b₁ = in_coordinator b m (record { phase = Open j; signals = h.signals + 1 }) in
    let s₁ = at b₁ ls₁ in
    let not_full : eqb (h.signals + 1) (quota b.setting j) ≡ false = ne_eqb _ _ (λ e. absurd (omega arith)) in
    let heard-is : heard m (message (32 + j)) b ≡ heard_of b₁ None =
    ap (λ r. heard m r b) (message_signal j small) ∙ cond-false _ _ _ going ∙ cond-true _ _ _ (eq-eqb j j refl) ∙ cond-false _ _ _ not_full in
    let one : hear m (32 + j) (at b ls₁) ≡ fine s₁ = ap (λ (r : Heard). replies r.reply r.books ls₁) heard-is in
    let lane₁ : lane ls₁ (2 * m) ≡ l = get_or-set_same s.lanes (2 * m) l no_lane in' in
    let rest = credit_run c m s₁ refl small (omega (arith, length-set s.lanes (2 * m) l)) (omega (arith, length-set b.table m (record { step = o.step; credit = o.credit + sl; remainder = o.remainder }))) (ap (λ (l : Lane). l.waiting) lane₁) (omega arith) in
    let v = rest.0 in
    let r = rest.2 in
    let o₁ : office b₁ m ≡ record { step = o.step; credit = o.credit + sl; remainder = o.remainder } = get_or-set_same b.table m _ no_office few in
    let n-is : h.signals + 1 + c ≡ h.signals + suc c = omega arith in
    let c-is : o.credit + sl + c * sl ≡ o.credit + suc c * sl = omega (arith, suc-mul c sl) in (
      v,
      then_fine _ one ∙ rest.1,
      record {
        setting = r.setting;
        coordinator = r.coordinator ∙ ap (λ n. record { phase = Open j; signals = n }) n-is;
        tall = r.tall ∙ length-set b.table m _;
        here = r.here ∙ ap (λ (p : OfficeRecord). record { step = p.step; credit = p.credit + c * sl; remainder = p.remainder }) o₁ ∙ ap (λ n. record { step = o.step; credit = n; remainder = o.remainder }) c-is;
        others = λ n ne. r.others n ne ∙ get_or-set_other b.table m n _ no_office ne;
        long = r.long ∙ length-set s.lanes (2 * m) l;
        lane_here = r.lane_here ∙ ap (λ (q : Lane). record { waiting = []; sent = q.sent }) lane₁;
        lanes = λ x ne. r.lanes x ne ∙ get_or-set_other s.lanes (2 * m) x l no_lane ne;
      },
    )

pub sumq_more : (q : ℕ → ℕ) (m : ℕ) → sumq q (m + 1) ≡ sumq q m + q m
unfolding sumq
sumq_more q m = ap (sumq q) (add-one m)

sumq_on : (q : ℕ → ℕ) (m n : ℕ) → sumq q m ≤ sumq q (m + n)
unfolding sumq
sumq_on q m zero = let e : m + 0 ≡ m = omega arith in rw e (omega arith)
sumq_on q m (suc n) = let e : m + suc n ≡ suc (m + n) = omega arith in rw e (omega (arith, sumq_on q m n))

pub sumq_mono : (q : ℕ → ℕ) (m k : ℕ) → m ≤ k → sumq q m ≤ sumq q k
sumq_mono q m k le = let e : m + (k - m) ≡ k = omega arith in rw e at (sumq_on q m (k - m))

-- one office has none, and no other has more than d
sumq_le : (q : ℕ → ℕ) (d m : ℕ) → ((n : ℕ) → n < m → q n ≤ d) → sumq q m ≤ m * d
unfolding sumq
sumq_le q d zero le = omega arith
sumq_le q d (suc m) le = omega (arith, sumq_le q d m (λ n less. le n (omega arith)), le m (omega arith), suc-mul m d)

pub sumq_less : (q : ℕ → ℕ) (d i m : ℕ) → i < m → q i ≡ 0 → ((n : ℕ) → n < m → q n ≤ d) → sumq q m + d ≤ m * d
unfolding sumq
sumq_less q d i zero less none le = absurd (omega arith)
sumq_less q d i (suc m) less none le =
    ⊎_elim
    (λ (e : m ≡ i). omega (arith, sumq_le q d m (λ n l. le n (omega arith)), suc-mul m d, ap q e))
    (λ (ne : m ≡ i → ⊥). omega (arith, sumq_less q d i m (omega arith) none (λ n l. le n (omega arith)), le m (omega arith), suc-mul m d))
    (cases_eq m i)

pub record Crediting (q : ℕ → ℕ) (m : ℕ) (u v : State) : Type 0 where
  pub setting : v.books.setting ≡ u.books.setting
  pub coordinator : v.books.coordinator ≡ record { phase = Open (step_in u.books.coordinator.phase); signals = sumq q m }
  pub tall : length v.books.table ≡ length u.books.table
  pub records : (n : ℕ) → n < m → office v.books n ≡ record { step = (office u.books n).step; credit = (office u.books n).credit + q n * slack u.books.setting (step_in u.books.coordinator.phase); remainder = (office u.books n).remainder }
  pub records_later : (n : ℕ) → m ≤ n → office v.books n ≡ office u.books n
  pub long : length v.lanes ≡ length u.lanes
  pub up : (n : ℕ) → n < m → lane v.lanes (2 * n) ≡ record { waiting = []; sent = (lane u.lanes (2 * n)).sent }
  pub up_later : (n : ℕ) → m ≤ n → lane v.lanes (2 * n) ≡ lane u.lanes (2 * n)
  pub down : (n : ℕ) → lane v.lanes (2 * n + 1) ≡ lane u.lanes (2 * n + 1)

module _ (k : ℕ) (q : ℕ → ℕ) (u : State) (going : is_closed u.books.coordinator.phase ≡ false) (none : u.books.coordinator.signals ≡ 0) (small : step_in u.books.coordinator.phase < 32) (few : k ≤ length u.books.table) (long : length u.lanes ≡ 2 * k)
    (has : (n : ℕ) → n < k → (lane u.lanes (2 * n)).waiting ≡ replicate (q n) (32 + step_in u.books.coordinator.phase))
    (below : sumq q k < quota u.books.setting (step_in u.books.coordinator.phase)) where
  credit : (m : ℕ) (s : State) → m < k → Crediting q m u s → (v : State) × (drain (2 * m) (hear m) s ≡ fine v) × Crediting q (m + 1) u v
  credit m s to inv =
      let step_is : step_in s.books.coordinator.phase ≡ step_in u.books.coordinator.phase = ap (λ (h : Coordinator). step_in h.phase) inv.coordinator in
      let signals-is : s.books.coordinator.signals ≡ sumq q m = ap (λ (h : Coordinator). h.signals) inv.coordinator in
      let here = inv.up_later m (omega arith) in
      let same = inv.records_later m (omega arith) in
      let waits : (lane s.lanes (2 * m)).waiting ≡ replicate (q m) (32 + step_in s.books.coordinator.phase) = ap (λ (l : Lane). l.waiting) here ∙ has m to ∙ ap (λ n. replicate (q m) (32 + n)) (sym step_is) in
      let quota_is : quota s.books.setting (step_in s.books.coordinator.phase) ≡ quota u.books.setting (step_in u.books.coordinator.phase) = ap (λ t. quota t (step_in s.books.coordinator.phase)) inv.setting ∙ ap (quota u.books.setting) step_is in
      let in' : 2 * m < length s.lanes = omega (arith, inv.long) in
      let run = credit_run (q m) m s (ap (λ (h : Coordinator). is_closed h.phase) inv.coordinator) (omega arith) in' (omega (arith, inv.tall)) waits (omega (arith, sumq_more q m, sumq_mono q (m + 1) k (omega arith))) in
      let v = run.0 in
      let r = run.2 in
      let slack_is : slack s.books.setting (step_in s.books.coordinator.phase) ≡ slack u.books.setting (step_in u.books.coordinator.phase) = ap (λ t. slack t (step_in s.books.coordinator.phase)) inv.setting ∙ ap (slack u.books.setting) step_is in
      let n-is : s.books.coordinator.signals + q m ≡ sumq q (m + 1) = omega (arith, sumq_more q m) in (
        v,
        sym (drain_back (2 * m) (hear m) s (replicate (q m) (32 + step_in s.books.coordinator.phase)) in' (sym waits)) ∙ run.1,
        record {
          setting = r.setting ∙ inv.setting;
          coordinator = r.coordinator ∙ ap (λ n. record { phase = Open n; signals = s.books.coordinator.signals + q m }) step_is ∙ ap (λ n. record { phase = Open (step_in u.books.coordinator.phase); signals = n }) n-is;
          tall = r.tall ∙ inv.tall;
          records = λ n less. ⊎_elim
              (λ (e : n ≡ m). ap (office v.books) e ∙ r.here ∙ ap (λ z. record { step = (office s.books m).step; credit = (office s.books m).credit + q m * z; remainder = (office s.books m).remainder }) slack_is
              ∙ ap (λ (o : OfficeRecord). record { step = o.step; credit = o.credit + q m * slack u.books.setting (step_in u.books.coordinator.phase); remainder = o.remainder }) same
              ∙ ap (λ n. record { step = (office u.books n).step; credit = (office u.books n).credit + q n * slack u.books.setting (step_in u.books.coordinator.phase); remainder = (office u.books n).remainder }) (sym e))
              (λ (ne : n ≡ m → ⊥). r.others n ne ∙ inv.records n (omega arith))
              (cases_eq n m);
          records_later = λ n from. r.others n (λ e. omega arith) ∙ inv.records_later n (omega arith);
          long = r.long ∙ inv.long;
          up = λ n less. ⊎_elim
              (λ (e : n ≡ m). ap (λ n. lane v.lanes (2 * n)) e ∙ r.lane_here ∙ ap (λ (l : Lane). record { waiting = []; sent = l.sent }) here ∙ ap (λ n. record { waiting = []; sent = (lane u.lanes (2 * n)).sent }) (sym e))
              (λ (ne : n ≡ m → ⊥). r.lanes (2 * n) (λ e. ne (omega arith)) ∙ inv.up n (omega arith))
              (cases_eq n m);
          up_later = λ n from. r.lanes (2 * n) (λ e. omega arith) ∙ inv.up_later n (omega arith);
          down = λ n. r.lanes (2 * n + 1) (λ e. omega arith) ∙ inv.down n;
        },
      )

  pub credit_part : (v : State) × (coordinator_part k u ≡ fine v) × Crediting q k u v
  unfolding sumq
  credit_part =
      let h = u.books.coordinator in
      each_from (λ i. drain (2 * i) (hear i)) (λ m s. Crediting q m u s) k u credit
      (record {
        setting = refl;
        coordinator = ap (λ n. record { phase = h.phase; signals = n }) none ∙ ap (λ p. record { phase = p; signals = 0 }) (open_at _ going);
        tall = refl;
        records = λ n less. absurd (omega arith);
        records_later = λ n _. refl;
        long = refl;
        up = λ n less. absurd (omega arith);
        up_later = λ n _. refl;
        down = λ n. refl;
      })
