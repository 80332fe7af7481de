use Rattle.day.specs.Models.{day_model}
use Rattle.terms.specs.Models.{terms_model}
use Rattle.answering.proofs.InRange.{bit_on}
use Rattle.answering.proofs.reports.report_on.Goals as goal

pub returns-in-Bit : goal.returns-in-Bit
returns-in-Bit g c =
    bit_on (g.L.Ladder.steps c.args.ladder) (g.L.Ladder.slack c.args.ladder) (terms_model c.args.terms.now) (day_model c.args.day.now) _ c.report_bit.result c.in-Bit.is c.as_slice-in-Bit.ensures.value c.report_bit.ensures
