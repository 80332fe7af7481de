-- What reading a ladder gives. Assumes nothing.
use Rattle.std.proofs.Common.{◌≡◌, ℕ, zero, suc, ◌+◌, ◌-◌, ◌*◌, ◌/◌, ◌<◌, ◌≤◌, List, get_or, sym, ap, ◌∙◌, subst, ⊎_elim, arith}
use Rattle.std.proofs.lemmas.Bool.{cases_eq}
use Rattle.std.specs.Array.{IsFromFnResultFrom}
use Rattle.std.specs.Fn.{Called}
use denote.Param.Members.{Mut}
use Rattle.ladder.specs.Laws.{LadderLaw}
use Rattle.rules.specs.Rules.{Setting, divisor}
use Rattle.rules.specs.Laws.{SettingLaw}
use Rattle.rules.proofs.Laws.{sound, some_slack}

-- the laws of a ladder, of the slacks that were read
pub record Read (steps : ℕ) (xs : List ℕ) : Type 0 where
  pub top : get_or xs 0 0 ≤ 16777216
  pub grain : (j : ℕ) → j ≤ steps → 1 ≤ get_or xs j 0
  pub rung : (j : ℕ) → 1 ≤ j → j ≤ steps → get_or xs (j - 1) 0 ≡ get_or xs (j - 1) 0 / get_or xs j 0 * get_or xs j 0
  pub low : (j : ℕ) → 1 ≤ j → j ≤ steps → 2 ≤ get_or xs (j - 1) 0 / get_or xs j 0
  pub high : (j : ℕ) → 1 ≤ j → j ≤ steps → get_or xs (j - 1) 0 / get_or xs j 0 ≤ 16

module _ (e : ℕ) (slack : ℕ → ℕ) (law : LadderLaw e slack) (xs : List ℕ) (read : (j : ℕ) → j ≤ e → get_or xs j 0 ≡ slack j) where
  abbrev l : Setting
  l = record { offices = 1; steps = e; slack = λ j. get_or xs j 0 }

  lawful : SettingLaw l
  lawful = record {
    some = omega arith;
    few = omega arith;
    ladder = record {
      some = law.some;
      few = law.few;
      grain = omega (arith, read e (omega arith), law.grain);
      top = omega (arith, read 0 (omega arith), law.top);
      tied = λ j less. let t = law.tied j less in record {
        divisor = t.divisor;
        least = t.least;
        most = t.most;
        times = read j (omega arith) ∙ (t.times ∙ ap (λ s. t.divisor * s) (sym (read (j + 1) (omega arith))));
      };
    };
  }

  pub read_laws : Read e xs
  unfolding divisor
  read_laws =
      let ok = sound l lawful in
      record { top = ok.top; grain = some_slack l lawful; rung = ok.rung; low = ok.d_low; high = ok.d_high }

-- what calls of one closure gave, where a call leaves it as it is
module _ {F B : Type 0} (g : Mut F (ℕ × Unit {0}) B) (f : F) (R : ℕ → B → Type 0) (gives : (i : ℕ) (y : B) (q : F) → Called g f (i, tt) y q → (q ≡ f) × R i y) where
  pub each_given : (ys : List B) (d : B) (n i j : ℕ) → IsFromFnResultFrom g f ys i n → i ≤ j → j < i + n → R j (get_or ys j d)
  each_given ys d zero i j r from to = absurd (omega arith)
  each_given ys d (suc n) i j r from to =
      let this = gives i r.1 r.0 r.3 in
      ⊎_elim
      (λ (e : j ≡ i). subst (λ i. R i (get_or ys i d)) (sym e) (subst (R i) (sym (r.2.1 d)) this.1))
      (λ (other : j ≡ i → ⊥). each_given ys d n (i + 1) j (subst (λ q. IsFromFnResultFrom g q ys (i + 1) n) this.0 r.4) (omega arith) (omega arith))
      (cases_eq j i)
