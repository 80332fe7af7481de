use Rattle.std.proofs.Common.{◌≡◌, drop, rules, tests, ap, ◌∙◌, arith, length-drop}
use Rattle.std.specs.List.{prefix_len}
use Rattle.std.proofs.lemmas.Iterator.{YieldsList-from_slice}
use Rattle.std.proofs.lemmas.Iterator.Consumers.{count_from_yields_List}
use Rattle.std.proofs.lemmas.Iterator.Search.{YieldsList-from_take_while}
use Rattle.std.proofs.lemmas.List.{drop_min, take_all}
use Rattle.std.proofs.lemmas.List.Folds.{length-prefix_len}
use Rattle.printing.specs.FaultLine.{in_line}
use Rattle.printing.proofs.lines.line_stop.Goals as goal

pub returns-clause-value : goal.returns-clause-value
returns-clause-value c =
    let text = c.args.text.now in
    let after = c.iter.result.rest.now in
    let counted : c.count-in_this_line.result ≡ prefix_len in_line after = count_from_yields_List c.take_while.result _ c.count-in_this_line.ensures.ran (YieldsList-from_take_while _ in_line (YieldsList-from_slice after cc) c.take_while.ensures.closure c.take_while.ensures.done (λ x b q k. search (rules, tests))) ∙ length-prefix_len in_line after in
    let same : after ≡ drop c.args.place text = c.iter.ensures.rest ∙ take_all _ _ (omega (arith, length-drop c.min.result text)) ∙ ap (λ n. drop n text) c.min.ensures ∙ drop_min c.args.place text in
    omega (arith, ap (prefix_len in_line) same)
