-- Books are equal if every figure is, and only then. Assumes nothing.
use Rattle.std.proofs.Common.{◌≡◌, ℕ, ◌<◌, ◌≤◌, Bool, true, false, not, List, map, length, get_or, take, sym, refl, ap, ◌∙◌, arith}
use lib.ListN.{length-map}
use Rattle.std.proofs.lemmas.Bool.{false≢true, true≢false}
use Rattle.std.proofs.lemmas.List.{ext_get_or, length-take-le, get_or-map}
use Rattle.rules.specs.Runs.{Books as Books-shown}
use Rattle.window.specs.declared.books.Coordinator.{Coordinator}
use Rattle.window.specs.declared.books.OfficeRecord.{OfficeRecord}
use Rattle.window.specs.declared.books.Phase.{Phase}
use Rattle.window.specs.declared.books.Phase.TheVariants.{Open, Closed}
use Rattle.window.specs.declared.checked_books.CheckedBooks.{CheckedBooks}
use Rattle.post.specs.Lanes.{Lane}
use Rattle.window.specs.Comparing.{SameFigures, SameHeads}
use Rattle.window.specs.Parts.{step_in, is_closed, no_office}
use Rattle.window.specs.Turns.{State, at}
use Rattle.window.specs.Windows.{shown}

not_one : (a b : Bool) → not a ≡ not b → a ≡ b
not_one true true e = refl
not_one false false e = refl
not_one true false e = sym e
not_one false true e = sym e

same_phase : (p q : Phase) → step_in p ≡ step_in q → is_closed p ≡ is_closed q → p ≡ q
same_phase (Open j) (Open k) e same = ap Open e
same_phase (Closed j) (Closed k) e same = ap Closed e
same_phase (Open j) (Closed k) e same = absurd (false≢true same)
same_phase (Closed j) (Open k) e same = absurd (true≢false same)

map_same : (f : OfficeRecord → ℕ) (xs ys : List OfficeRecord) → length xs ≡ length ys → ((i : ℕ) → i < length xs → f (get_or xs i no_office) ≡ f (get_or ys i no_office)) → map f xs ≡ map f ys
map_same f xs ys long each =
    ext_get_or 0 (map f xs) (map f ys) (length-map xs f ∙ long ∙ sym (length-map ys f))
    (λ i less.
    let here : i < length xs = omega (arith, length-map xs f) in
    let there : i < length ys = omega arith in
    get_or-map f xs i no_office 0 here ∙ each i here ∙ sym (get_or-map f ys i no_office 0 there))

module _ (d d' : CheckedBooks) (ls ls' : List Lane) where
  abbrev s : State
  s = at d.books ls

  abbrev s' : State
  s' = at d'.books ls'

  abbrev k : ℕ
  k = d.books.setting.offices

  abbrev k' : ℕ
  k' = d'.books.setting.offices

  tall : k ≤ length d.books.table
  tall = omega (arith, d.tall, d.books.setting.few)

  tall' : k' ≤ length d'.books.table
  tall' = omega (arith, d'.tall, d'.books.setting.few)

  pub equal_books : (xs ys : List OfficeRecord) → xs ≡ take k d.books.table → ys ≡ take k' d'.books.table → SameHeads s s' → ((i : ℕ) → i < length xs → SameFigures (get_or xs i no_office) (get_or ys i no_office)) → shown s ≡ shown s'
  equal_books xs ys xs_are ys_are heads same =
      let long : length xs ≡ length ys = ap length xs_are ∙ length-take-le k d.books.table tall ∙ heads.offices ∙ sym (ap length ys_are ∙ length-take-le k' d'.books.table tall') in
      let column : (f : OfficeRecord → ℕ) → ((i : ℕ) → i < length xs → f (get_or xs i no_office) ≡ f (get_or ys i no_office)) → map f (take k d.books.table) ≡ map f (take k' d'.books.table) = λ f each. ap (map f) (sym xs_are) ∙ map_same f xs ys long each ∙ ap (map f) ys_are in
      let cs = column (λ o. o.credit) (λ i less. (same i less).credit) in
      let rs = column (λ o. o.remainder) (λ i less. (same i less).remainder) in
      let step_is = ap (λ (h : Coordinator). step_in h.phase) heads.coordinator in
      let signals_are = ap (λ (h : Coordinator). h.signals) heads.coordinator in
      let open_is = ap (λ (h : Coordinator). not (is_closed h.phase)) heads.coordinator in
      λ i. record { step = step_is i; signals = signals_are i; is_open = open_is i; messages = heads.messages i; credits = cs i; remainders = rs i }

  k_same : shown s ≡ shown s' → k ≡ d'.books.setting.offices
  k_same e =
      let a : length (shown s).credits ≡ k = length-map (take k d.books.table) (λ o. o.credit) ∙ length-take-le k d.books.table tall in
      let b : length (shown s').credits ≡ d'.books.setting.offices = length-map (take d'.books.setting.offices d'.books.table) (λ o. o.credit) ∙ length-take-le d'.books.setting.offices d'.books.table tall' in
      sym a ∙ (ap (λ (b : Books-shown). length b.credits) e ∙ b)

  pub heads_of : shown s ≡ shown s' → SameHeads s s'
  heads_of e = record {
    offices = k_same e;
    coordinator =
        let phase_is = same_phase _ _ (ap (λ (b : Books-shown). b.step) e) (not_one _ _ (ap (λ (b : Books-shown). b.is_open) e)) in
        let signals_are = ap (λ (b : Books-shown). b.signals) e in
        λ i. record { phase = phase_is i; signals = signals_are i };
    messages = ap (λ (b : Books-shown). b.messages) e;
  }

  pub figures_of : (xs ys : List OfficeRecord) → xs ≡ take k d.books.table → ys ≡ take k' d'.books.table → shown s ≡ shown s' → (i : ℕ) → i < length xs → SameFigures (get_or xs i no_office) (get_or ys i no_office)
  figures_of xs ys xs_are ys_are e i less =
      let below : i < k = omega (arith, ap length xs_are, length-take-le k d.books.table tall) in
      let there : i < length ys = omega (arith, ap length ys_are, length-take-le k' d'.books.table tall', k_same e) in
      let column : (f : OfficeRecord → ℕ) → map f (take k d.books.table) ≡ map f (take k' d'.books.table) → f (get_or xs i no_office) ≡ f (get_or ys i no_office) = λ f same.
      sym (get_or-map f xs i no_office 0 less) ∙ ap (λ ns. get_or ns i 0) (ap (map f) xs_are ∙ same ∙ ap (map f) (sym ys_are)) ∙ get_or-map f ys i no_office 0 there in
      record {
        credit = column (λ o. o.credit) (ap (λ (b : Books-shown). b.credits) e);
        remainder = column (λ o. o.remainder) (ap (λ (b : Books-shown). b.remainders) e);
      }
