use Rattle.std.proofs.Common.{◌≡◌, take, reverse, rules, tests, ap, ◌∙◌, arith}
use Rattle.std.specs.List.{suffix_len}
use Rattle.std.proofs.lemmas.Iterator.Adapters.{YieldsList-from_rev_slice}
use Rattle.std.proofs.lemmas.Iterator.Consumers.{count_from_yields_List}
use Rattle.std.proofs.lemmas.Iterator.Search.{YieldsList-from_take_while}
use Rattle.std.proofs.lemmas.List.{length-take, take_min}
use Rattle.std.proofs.lemmas.List.Folds.{length-prefix_len}
use Rattle.printing.specs.FaultLine.{in_line}
use Rattle.printing.proofs.lines.line_start.Goals as goal

pub returns-clause-value : goal.returns-clause-value
returns-clause-value c =
    let text = c.args.text.now in
    let before = c.iter.result.rest.now in
    let counted : c.count-in_this_line.result ≡ suffix_len in_line before = count_from_yields_List c.take_while.result _ c.count-in_this_line.ensures.ran (YieldsList-from_take_while _ in_line (YieldsList-from_rev_slice before cc) c.take_while.ensures.closure c.take_while.ensures.done (λ x b q k. search (rules, tests))) ∙ length-prefix_len in_line (reverse before) in
    let same : before ≡ take c.args.place text = c.iter.ensures.rest ∙ ap (λ n. take n text) c.min.ensures ∙ take_min c.args.place text in
    omega (arith, length-take c.min.result text, ap (suffix_len in_line) same)
