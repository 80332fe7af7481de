use Rattle.std.proofs.Common.{◌∙◌}
use Rattle.window.proofs.Drains.{follow_did}
use Rattle.window.proofs.ways.DownWay.arrive.Goals as goal

pub returns-clause-did : goal.returns-clause-did
returns-clause-did g c = follow_did _ _ _ _ _ _ _ (c.ok.ensures.value ∙ c.try_from.ensures) c.follow-count.ensures c.signal.ensures.did
