use Rattle.std.proofs.Common.{rules}
use Rattle.ladder.specs.Makers.{divisor_fits}
use Rattle.terms.proofs.terms_text.divisor.Goals as goal

pub returns-clause-value : goal.returns-clause-value
returns-clause-value c = c.number_if.ensures.value (divisor_fits c.args.whole) (λ n b fits told. search rules)
