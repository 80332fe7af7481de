use Rattle.std.proofs.Common.{rules}
use Rattle.ladder.specs.Makers.{halving_fits}
use Rattle.terms.proofs.terms_text.steps.Goals as goal

pub returns : goal.returns
returns c = c.number_if.ensures.value (halving_fits c.args.grain) (λ n b fits told. search rules)
