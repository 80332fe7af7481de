use Rattle.std.proofs.Common.{refl, ap, ◌∙◌}
use Rattle.window.specs.Turns.{with_lanes, tell}
use Rattle.window.proofs.Drains.{hear_did}
use Rattle.window.proofs.ways.UpWay.arrive.Goals as goal

pub returns-in-Some-clause-did : goal.returns-in-Some-clause-did
returns-in-Some-clause-did g c =
    let b = c.hear.new.self.books in
    hear_did _ _ _ _ _ _ _ (c.ok.ensures.value ∙ c.try_from.ensures) c.in-Some.ensures.did (c.tell.ensures.did ∙ ap (λ byte. with_lanes b (tell b.setting.offices byte (g.P.Post.lanes c.args.window.now.post))) c.to_byte.ensures)

pub returns-in-None-clause-did : goal.returns-in-None-clause-did
returns-in-None-clause-did g c = hear_did _ _ _ _ _ _ _ (c.ok.ensures.value ∙ c.try_from.ensures) c.in-None.ensures.did refl
