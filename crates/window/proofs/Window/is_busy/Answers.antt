use Rattle.std.proofs.Common.{◌≡◌, ℕ, ◌+◌, ◌*◌, ◌/◌, ◌%◌, ◌<◌, Bool, true, false, List, [], length, get_or, inl, inr, refl, ◌∙◌, subst, ⊎_elim, zero-add, arith, rules}
use Rattle.std.proofs.lemmas.Bool.{cases_eq, true≢false, false≢true}
use Rattle.std.proofs.lemmas.Iterator.{cases_from_any, YieldsList-from_range}
use Rattle.std.proofs.lemmas.List.FromFn.{get_or-range_with_len, length-range_with_len}
use Rattle.std.specs.Bool.{MatchBool}
use Rattle.std.specs.List.{range_with_len, HoldsAt, AllWithin}
use borrow.Author.Tests.{tests}
use Rattle.post.specs.Lanes.{Lane, lane}
use Rattle.window.specs.Turns.{WaitsAt}
use Rattle.window.proofs.Window.is_busy.Given.{Over}
use Rattle.window.proofs.Window.is_busy.Goals as goal

-- the office of a lane on which something waits
waits : (k : ℕ) (ls : List Lane) (j : ℕ) → j < 2 * k → 0 < length (lane ls j).waiting → (i : ℕ) × (i < k) × WaitsAt i ls
waits k ls j less some = (
  j / 2,
  omega arith,
  ⊎_elim
      (λ (even : j % 2 ≡ 0). let e : j ≡ 2 * (j / 2) = omega arith in inl (subst (λ j. 0 < length (lane ls j).waiting) e some))
      (λ (odd : j % 2 ≡ 0 → ⊥). let e : j ≡ 2 * (j / 2) + 1 = omega arith in inr (subst (λ j. 0 < length (lane ls j).waiting) e some))
      (cases_eq (j % 2) 0),
)

-- what was found of the lanes in turn
module _ (k : ℕ) (ls : List Lane) where
  abbrev lanes : List ℕ
  lanes = range_with_len 0 (2 * k)

  abbrev Found : Bool → Type 0
  Found r = MatchBool r ((j : ℕ) × (j < length lanes) × HoldsAt (λ j. 0 < length (lane ls j).waiting) lanes j) (AllWithin (λ j. (lane ls j).waiting ≡ []) lanes 0 (length lanes))

  number : (j : ℕ) → j < 2 * k → get_or lanes j 0 ≡ j
  number j less = get_or-range_with_len 0 (2 * k) j 0 less ∙ zero-add j

  some_waits : (r : Bool) → Found r → r ≡ true → (i : ℕ) × (i < k) × WaitsAt i ls
  some_waits true found e =
      let less : found.0 < 2 * k = omega (arith, found.1, length-range_with_len 0 (2 * k)) in
      waits k ls found.0 less (subst (λ j. 0 < length (lane ls j).waiting) (number found.0 less) (found.2 0))
  some_waits false found e = absurd (false≢true e)

  none_waits : (r : Bool) → Found r → r ≡ false → (j : ℕ) → j < 2 * k → (lane ls j).waiting ≡ []
  none_waits true all e j less = absurd (true≢false e)
  none_waits false all e j less = subst (λ j. (lane ls j).waiting ≡ []) (number j less) (all j 0 (omega arith) (omega (arith, length-range_with_len 0 (2 * k))))

found : (g : Over) (c : goal.After-any g) → Found c.args.self.now.checked.books.setting.offices (g.P.Post.lanes c.args.self.now.post) c.any.result
found g c =
    let n = 2 * c.args.self.now.checked.books.setting.offices in
    let ls = g.P.Post.lanes c.args.self.now.post in
    cases_from_any _ _ _ (λ j. 0 < length (lane ls j).waiting) (λ j. (lane ls j).waiting ≡ []) c.any.ensures.ran (YieldsList-from_range 0 n n refl (omega arith)) (λ x q f. search (rules, tests)) (λ x q f. search (rules, tests))

pub returns-clause-yes : goal.returns-clause-yes
returns-clause-yes g c = some_waits _ _ _ (found g c)

pub returns-clause-no : goal.returns-clause-no
returns-clause-no g c = λ e i less.
    let none = none_waits _ _ _ (found g c) e in
    (none (2 * i) (omega arith), none (2 * i + 1) (omega arith))
