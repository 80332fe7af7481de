use Rattle.rules.proofs.Laws.{order_never_matters}
use Rattle.rules.proofs.order_never_matters.Goals as goal

pub returns : goal.returns
returns c = order_never_matters
