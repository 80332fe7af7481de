use Rattle.std.proofs.Common.{Ok, rules}
use Rattle.texts.proofs.ExactBoth.{exactly}
use Rattle.texts.proofs.both_texts.Texts.read.Goals as goal

pub returns-clause-exact : goal.returns-clause-exact
returns-clause-exact c = exactly c.args.self.terms.now c.args.self.day.now (Ok (c.in_ok-agreed.agreed, c.in_ok-played.played)) (search rules)
