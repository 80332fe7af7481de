use Rattle.rules.proofs.Laws.{every_list_has_one_run}
use Rattle.rules.proofs.every_list_has_one_run.Goals as goal

pub returns : goal.returns
returns c = every_list_has_one_run
