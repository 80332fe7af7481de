use Rattle.std.proofs.Common.{Err, sym, ap, ◌∙◌, subst}
use Rattle.std.proofs.lemmas.Result.{err_from_is_err_and}
use Rattle.ladder.specs.Makers.{listed_fault}
use Rattle.day.specs.Models.{day_model}
use Rattle.terms.specs.Models.{terms_model, ladder_model}
use Rattle.answering.specs.Answers.{Reported}
use Rattle.answering.proofs.InRange.{listed_refused}
use Rattle.answering.proofs.reports.day_report.Goals as goal

pub returns-in_err-new-in-Listed : goal.returns-in_err-new-in-Listed
returns-in_err-new-in-Listed c =
    let x = terms_model c.args.terms.now in
    let y = day_model c.args.day.now in
    let p = err_from_is_err_and c.from_residual-in_err-new-in-Listed.result c.from_residual-in_err-new-in-Listed.ensures.1 in
    subst (Reported x y) (sym (p.1 ∙ ap Err p.2))
    (listed_refused x y _ _ (ap ladder_model c.in-Listed.is) (c.in_err-new-in-Listed.ensures.fault ∙ ap (listed_fault x.grain) c.as_slice.ensures.value))
