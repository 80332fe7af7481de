-- What always holds of the books, and what keeps it. Assumes nothing.
use Rattle.std.proofs.Common.{◌≡◌, ℕ, ◌+◌, ◌-◌, ◌*◌, ◌/◌, ◌%◌, ◌^◌, ◌<◌, ◌≤◌, true, false, List, length, get_or, set, sym, refl, ap, ◌∙◌, subst, ⊎_elim, mul-le-mul_right, mod-lt, mul_assoc, add-mul, mul-le-mul, mul-pos, mul-one, mul-add, arith, lit≤}
use Rattle.window.specs.Opening.{opened}
use Rattle.std.proofs.lemmas.Bool.{cases_eq, cases_lt, true≢false, false≢true}
use Rattle.std.proofs.lemmas.List.{get_or-set_same, get_or-set_other, set_past, get_or-replicate, length-set}
use Rattle.window.specs.declared.setting_table.SettingTable.{SettingTable}
use Rattle.window.specs.declared.books.Coordinator.{Coordinator}
use Rattle.window.specs.declared.books.Phase.{Phase}
use Rattle.window.specs.declared.books.Phase.TheVariants.{Open, Closed}
use Rattle.window.specs.declared.books.OfficeRecord.{OfficeRecord}
use Rattle.window.specs.declared.books.Books.{Books}
use Rattle.window.specs.declared.checked_books.CheckedBooks.{CheckedBooks}
use Rattle.window.specs.Parts.{step_in, is_closed, slack, quota, office, no_office, Paid, in_coordinator, in_office}

-- k × (d - 1) signals and one slack each make k of the slack above
pub quota_fills : (k d s : ℕ) → 1 ≤ d → k * (d - 1) * s + k * s ≡ k * (d * s)
quota_fills k d s some =
    let e : (d - 1) + 1 ≡ d = omega arith in
    sym (add-mul (k * (d - 1)) k s) ∙ ap (λ n. n * s) (ap (λ n. k * (d - 1) + n) (sym (mul-one k)) ∙ sym (mul-add k (d - 1) 1) ∙ ap (λ n. k * n) e) ∙ mul_assoc k d s

-- a phase that is not closed is open at its step
pub open_at : (p : Phase) → is_closed p ≡ false → p ≡ Open (step_in p)
open_at (Open j) going = refl
open_at (Closed j) going = absurd (true≢false going)

pub record Coordinator-law (t : SettingTable) (h : Coordinator) : Type 0 where
  pub from : 1 ≤ step_in h.phase
  pub to : step_in h.phase ≤ t.steps
  pub few : h.signals ≤ quota t (step_in h.phase)
  pub going : is_closed h.phase ≡ false → h.signals < quota t (step_in h.phase)
  pub over : is_closed h.phase ≡ true → h.signals ≡ quota t (step_in h.phase)
  pub last : is_closed h.phase ≡ true → step_in h.phase ≡ t.steps

pub record Record-law (t : SettingTable) (h : Coordinator) (o : OfficeRecord) : Type 0 where
  pub from : 1 ≤ o.step
  pub to : o.step ≤ t.steps
  pub left : o.remainder < slack t o.step
  pub paid : Paid t h o

-- the books with another record of the coordinator
abbrev pub with_coordinator : Books → Coordinator → Books
with_coordinator b h = record { setting = b.setting; coordinator = h; table = b.table }

-- the coordinator's record gained a slack at least
unfoldable pub Gained : SettingTable → Coordinator → Coordinator → Type 0
Gained t h h' = t.offices * slack t (step_in h'.phase - 1) + h.signals * slack t (step_in h.phase) + slack t (step_in h.phase) ≤ t.offices * slack t (step_in h.phase - 1) + h'.signals * slack t (step_in h'.phase)

-- a table with one entry written: what holds of the new and of all the old ones
pub written : (P : OfficeRecord → Type 0) (l : List OfficeRecord) (i : ℕ) (o : OfficeRecord) → P o → ((n : ℕ) → n < 64 → P (get_or l n no_office)) → (n : ℕ) → n < 64 → P (get_or (set l i o) n no_office)
written P l i o new old n few =
    ⊎_elim
    (λ (e : n ≡ i). ⊎_elim
    (λ (less : i < length l). subst P (sym (ap (λ m. get_or (set l i o) m no_office) e ∙ get_or-set_same l i o no_office less)) new)
    (λ (more : length l ≤ i). subst (λ m. P (get_or m n no_office)) (sym (set_past l i o more)) (old n few))
    (cases_lt i (length l)))
    (λ (other : n ≡ i → ⊥). subst P (sym (get_or-set_other l i n o no_office other)) (old n few))
    (cases_eq n i)

module _ (d : CheckedBooks) where
  pub coordinator_law : Coordinator-law d.books.setting d.books.coordinator
  coordinator_law = record { from = d.from; to = d.to; few = d.few; going = d.going; over = d.over; last = d.last }

  pub record_law : (i : ℕ) → i < 64 → Record-law d.books.setting d.books.coordinator (office d.books i)
  record_law i few = record { from = d.begun i few; to = d.within i few; left = d.left i few; paid = d.paid i few }

  -- the record of a coordinator that gained a slack, with the credit of that slack
  pub in_coordinator_law : (i : ℕ) → i < 64 → (h : Coordinator) → Gained d.books.setting d.books.coordinator h → (n : ℕ) → n < 64 → Record-law d.books.setting h (office (in_coordinator d.books i h) n)
  unfolding Gained
  in_coordinator_law i few h more =
      let o = record_law i few in
      written (Record-law d.books.setting h) d.books.table i _
      (record { from = o.from; to = o.to; left = o.left; paid = omega (arith, o.paid) })
      (λ n l. let p = record_law n l in record { from = p.from; to = p.to; left = p.left; paid = omega (arith, p.paid) })

  -- one signal more at the same step
  pub gained_same : (p : Phase) → step_in p ≡ step_in d.books.coordinator.phase → Gained d.books.setting d.books.coordinator (record { phase = p; signals = d.books.coordinator.signals + 1 })
  unfolding Gained
  gained_same p same =
      rw same (omega (arith, add-mul d.books.coordinator.signals 1 (slack d.books.setting (step_in d.books.coordinator.phase))))

  divisor : ℕ
  divisor = slack d.books.setting (step_in d.books.coordinator.phase - 1) / slack d.books.setting (step_in d.books.coordinator.phase)

  filled : d.books.setting.offices * (divisor - 1) * slack d.books.setting (step_in d.books.coordinator.phase) + d.books.setting.offices * slack d.books.setting (step_in d.books.coordinator.phase) ≡ d.books.setting.offices * slack d.books.setting (step_in d.books.coordinator.phase - 1)
  unfolding divisor
  filled =
      let low : 2 ≤ divisor = d.books.setting.low (step_in d.books.coordinator.phase) d.from d.to in
      quota_fills d.books.setting.offices divisor (slack d.books.setting (step_in d.books.coordinator.phase)) (omega arith)
      ∙ ap (λ n. d.books.setting.offices * n) (sym (d.books.setting.rung (step_in d.books.coordinator.phase) d.from d.to))

  -- the last signal of a step
  pub gained_next : d.books.coordinator.signals + 1 ≡ quota d.books.setting (step_in d.books.coordinator.phase) → Gained d.books.setting d.books.coordinator (record { phase = Open (step_in d.books.coordinator.phase + 1); signals = 0 })
  unfolding Gained divisor
  gained_next full =
      let s = slack d.books.setting (step_in d.books.coordinator.phase) in
      let e : step_in d.books.coordinator.phase + 1 - 1 ≡ step_in d.books.coordinator.phase = omega arith in
      rw e (omega (arith, add-mul d.books.coordinator.signals 1 s, ap (λ n. n * s) full, filled))

  -- the credit of one slack more fits
  pub credit_fits : (i : ℕ) → i < 64 → is_closed d.books.coordinator.phase ≡ false → (office d.books i).credit + slack d.books.setting (step_in d.books.coordinator.phase) < 2 ^ 32
  unfolding divisor
  credit_fits i few going =
      let s = slack d.books.setting (step_in d.books.coordinator.phase) in
      let less : d.books.coordinator.signals + 1 ≤ quota d.books.setting (step_in d.books.coordinator.phase) = omega (arith, d.going going) in
      let top : d.books.setting.offices * slack d.books.setting 0 ≤ 64 * 16777216 = mul-le-mul d.books.setting.few d.books.setting.top in
      omega (arith, add-mul d.books.coordinator.signals 1 s, mul-le-mul_right s less, filled, d.paid i few, top)

-- the ghost fields, as a check asks for them
abbrev pub Sound : Books → Type 0
Sound b = record {
  tall : length b.table ≡ 64;
  from : 1 ≤ step_in b.coordinator.phase;
  to : step_in b.coordinator.phase ≤ b.setting.steps;
  few : b.coordinator.signals ≤ quota b.setting (step_in b.coordinator.phase);
  going : is_closed b.coordinator.phase ≡ false → b.coordinator.signals < quota b.setting (step_in b.coordinator.phase);
  over : is_closed b.coordinator.phase ≡ true → b.coordinator.signals ≡ quota b.setting (step_in b.coordinator.phase);
  last : is_closed b.coordinator.phase ≡ true → step_in b.coordinator.phase ≡ b.setting.steps;
  begun : (i : ℕ) → i < 64 → 1 ≤ (office b i).step;
  within : (i : ℕ) → i < 64 → (office b i).step ≤ b.setting.steps;
  left : (i : ℕ) → i < 64 → (office b i).remainder < slack b.setting (office b i).step;
  paid : (i : ℕ) → i < 64 → Paid b.setting b.coordinator (office b i);
}

sound : (b : Books) → length b.table ≡ 64 → Coordinator-law b.setting b.coordinator → ((i : ℕ) → i < 64 → Record-law b.setting b.coordinator (office b i)) → Sound b
sound b tall h table = record {
  tall = tall;
  from = h.from;
  to = h.to;
  few = h.few;
  going = h.going;
  over = h.over;
  last = h.last;
  begun = λ i l. (table i l).from;
  within = λ i l. (table i l).to;
  left = λ i l. (table i l).left;
  paid = λ i l. (table i l).paid;
}

module _ (d : CheckedBooks) (i : ℕ) (few : i < 64) where
  pub sound_signal : (d.books.coordinator.signals + 1 ≡ quota d.books.setting (step_in d.books.coordinator.phase) → ⊥) → is_closed d.books.coordinator.phase ≡ false → Sound (in_coordinator d.books i (record { phase = d.books.coordinator.phase; signals = d.books.coordinator.signals + 1 }))
  sound_signal not_full going =
      let less : d.books.coordinator.signals < quota d.books.setting (step_in d.books.coordinator.phase) = d.going going in
      sound _ (length-set d.books.table i _ ∙ d.tall)
      (record { from = d.from; to = d.to; few = omega arith; going = λ _. omega arith; over = λ e. absurd (false≢true (sym going ∙ e)); last = λ e. absurd (false≢true (sym going ∙ e)) })
      (in_coordinator_law d i few _ (gained_same d d.books.coordinator.phase refl))

  pub sound_next : d.books.coordinator.signals + 1 ≡ quota d.books.setting (step_in d.books.coordinator.phase) → step_in d.books.coordinator.phase < d.books.setting.steps → Sound (in_coordinator d.books i (record { phase = Open (step_in d.books.coordinator.phase + 1); signals = 0 }))
  sound_next full less =
      let some : 0 < quota d.books.setting (step_in d.books.coordinator.phase + 1) =
      mul-pos d.books.setting.some (let low = d.books.setting.low (step_in d.books.coordinator.phase + 1) (omega arith) (omega arith) in omega (arith, low)) in
      sound _ (length-set d.books.table i _ ∙ d.tall)
      (record { from = omega arith; to = omega arith; few = omega arith; going = λ _. some; over = λ e. absurd (false≢true e); last = λ e. absurd (false≢true e) })
      (in_coordinator_law d i few _ (gained_next d full))

  pub sound_close : d.books.coordinator.signals + 1 ≡ quota d.books.setting (step_in d.books.coordinator.phase) → d.books.setting.steps ≤ step_in d.books.coordinator.phase → Sound (in_coordinator d.books i (record { phase = Closed (step_in d.books.coordinator.phase); signals = d.books.coordinator.signals + 1 }))
  sound_close full more =
      sound _ (length-set d.books.table i _ ∙ d.tall)
      (record { from = d.from; to = d.to; few = omega arith; going = λ e. absurd (true≢false e); over = λ _. full; last = λ _. omega (arith, d.to) })
      (in_coordinator_law d i few _ (gained_same d (Closed (step_in d.books.coordinator.phase)) refl))

  -- office i has a record that is lawful
  pub sound_office : (o : OfficeRecord) → Record-law d.books.setting d.books.coordinator o → Sound (in_office d.books i o)
  sound_office o law = sound _ (length-set d.books.table i o ∙ d.tall) (coordinator_law d) (written (Record-law d.books.setting d.books.coordinator) d.books.table i o law (record_law d))

  pub sound_move : (office d.books i).step < d.books.setting.steps → Sound (in_office d.books i (record { step = (office d.books i).step + 1; credit = (office d.books i).credit; remainder = (office d.books i).remainder % slack d.books.setting ((office d.books i).step + 1) }))
  sound_move less =
      let o = record_law d i few in
      let some : 0 < slack d.books.setting ((office d.books i).step + 1) = d.books.setting.grain ((office d.books i).step + 1) (omega arith) in
      sound_office _ (record { from = omega arith; to = omega arith; left = mod-lt _ some; paid = o.paid })

  pub sound_count : (r : ℕ) → r < slack d.books.setting (office d.books i).step → Sound (in_office d.books i (record { step = (office d.books i).step; credit = (office d.books i).credit; remainder = r }))
  sound_count r less = let o = record_law d i few in sound_office _ (record { from = o.from; to = o.to; left = less; paid = o.paid })

pub sound_opened : (t : SettingTable) → Sound (opened t)
sound_opened t =
    let low = t.low 1 (lit≤ tt) t.least in
    let some : 0 < quota t 1 = mul-pos t.some (omega (arith, low)) in
    sound (opened t) refl
    (record { from = lit≤ tt; to = t.least; few = omega arith; going = λ _. some; over = λ e. absurd (false≢true e); last = λ e. absurd (false≢true e) })
    (λ i few.
    subst (Record-law t (opened t).coordinator) (sym (get_or-replicate 64 i (record { step = 1; credit = 0; remainder = 0 }) no_office few))
    (record { from = lit≤ tt; to = t.least; left = t.grain 1 t.least; paid = omega arith }))
