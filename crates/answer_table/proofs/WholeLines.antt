-- The lines of a table, from the first on.
use Rattle.std.proofs.Common.{◌≡◌, ℕ, suc, ◌<◌, ◌≤◌, List, [], ◌∷◌, ◌++◌, length, take, eqb, Result, sym, ap, ◌∙◌, subst, arith, refl}
use Rattle.std.specs.List.{FoldsTo, before_first, after_first, position_or_len, count_by, slice_split}
use Rattle.std.proofs.lemmas.List.Splits.{slice_split_first, length-slice_split}
use Rattle.std.proofs.lemmas.Grind.{common_steps}
use Rattle.texts.specs.declared.both_texts.Texts.{Texts}
use Rattle.answer_table.specs.Tables.{CutsAt, whole_lines, MakesMore}

none_counted : (t : List ℕ) → length t ≤ position_or_len (λ c. eqb c 10) t → count_by (λ c. eqb c 10) t ≡ 0
none_counted [] h = refl
none_counted (c ∷ cs) h = grind (arith, common_steps, none_counted cs)

no_line : (t : List ℕ) → length t ≤ position_or_len (λ c. eqb c 10) t → whole_lines t ≡ []
no_line t h = rw (none_counted t h) refl

first_line : (t : List ℕ) → position_or_len (λ c. eqb c 10) t < length t → whole_lines t ≡ before_first (λ c. eqb c 10) t ∷ whole_lines (after_first (λ c. eqb c 10) t)
first_line t h =
    let p : ℕ → _ = λ (c : ℕ). eqb c 10 in
    let cut = slice_split_first p t 0 h in
    let counted : count_by p t ≡ suc (count_by p (after_first p t)) = omega (arith, length-slice_split p t, length-slice_split p (after_first p t), ap length cut) in
    ap (λ n. take n (slice_split p t)) counted ∙ ap (λ l. take (suc (count_by p (after_first p t))) l) cut

-- the first line of what is left and its answer, and then the others
pub one_line : {V E : Type 0} (bytes : V → List ℕ) (may : Texts → Result V E → Type 0) (t line rest made answer more last : List ℕ)
    → CutsAt 10 t line rest → MakesMore bytes may [] line answer → more ≡ made ++ answer
    → FoldsTo (MakesMore bytes may) more (whole_lines rest) last → FoldsTo (MakesMore bytes may) made (whole_lines t) last
one_line bytes may t line rest made answer more last cut (v, answered, is) longer folds =
    let first : whole_lines t ≡ line ∷ whole_lines rest = first_line t cut.0 ∙ (λ i. sym cut.1 i ∷ whole_lines (sym cut.2 i)) in
    subst (λ (ls : List (List ℕ)). FoldsTo (MakesMore bytes may) made ls last) (sym first) (more, (v, answered, longer ∙ ap (λ l. made ++ l) is), folds)

-- no line is left
pub all_lines : {V E : Type 0} (bytes : V → List ℕ) (may : Texts → Result V E → Type 0) (t made : List ℕ) → length t ≤ position_or_len (λ c. eqb c 10) t → FoldsTo (MakesMore bytes may) made (whole_lines t) made
all_lines bytes may t made past = subst (λ (ls : List (List ℕ)). FoldsTo (MakesMore bytes may) made ls made) (sym (no_line t past)) refl
