use Rattle.worked.proofs.Played.{worked}
use Rattle.worked.proofs.worked_days_and_sends.Goals as goal

pub returns : goal.returns
returns c = worked
