use Rattle.std.proofs.Common.{◌&&◌, leb, sym, rules, tests}
use Rattle.std.proofs.lemmas.Bool.{cond-false}
use Rattle.reader.proofs.Steps.{reads_same}
use Rattle.day.proofs.day_text.lots.Goals as goal

pub returns : goal.returns
returns c =
    reads_same (sym (cond-false _ _ _ (sym c.if-at_line_end.ensures.value)))
    (c.numbers.ensures.value (λ before n. leb 1 n && leb n c.args.offices) (λ before n b fits told. search (rules, tests)))
