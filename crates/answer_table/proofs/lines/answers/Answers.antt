use Rattle.std.proofs.Common.{[], ◌∷◌, vec_items, rules, refl, ap, ◌∙◌, ◌++◌, append_assoc}
use Rattle.answer_table.proofs.WholeLines.{one_line, all_lines}
use Rattle.answer_table.proofs.lines.answers.Goals as goal

pub loop-line-preserved : goal.loop-line-preserved
loop-line-preserved g c =
    let made = vec_items c.loop-line.made in
    let answered = vec_items c.in_ok-answer_line.field-0 in
    λ last folds. c.loop-line.invariant last
    (one_line vec_items (λ texts r. goal.F-post g c.args.answer c.args.heap texts r) c.loop-line.rest.now c.in-Some.line.now c.in-Some.after.now made (answered ++ 10 ∷ []) _ last
    c.in-Some.ensures (c.in_ok-answer_line.field-0, c.in_ok-answer_line.ensures, refl)
    (c.in_ok-push.ensures.items ∙ ap (λ l. l ++ 10 ∷ []) (c.in_ok-extend_from_slice.ensures.items ∙ ap (λ l. made ++ l) (search rules)) ∙ append_assoc made answered (10 ∷ [])) folds)

pub returns : goal.returns
returns g c = c.loop-line.invariant _ (all_lines vec_items (λ texts r. goal.F-post g c.args.answer c.args.heap texts r) _ _ c.in_default.ensures)
