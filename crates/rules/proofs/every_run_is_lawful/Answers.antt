use Rattle.rules.proofs.Laws.{every_run_is_lawful}
use Rattle.rules.proofs.every_run_is_lawful.Goals as goal

pub returns : goal.returns
returns c = every_run_is_lawful
