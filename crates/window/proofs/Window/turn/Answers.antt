use Rattle.std.proofs.Common.{sym, ◌∙◌}
use Rattle.window.specs.Turns.{turn}
use Rattle.window.proofs.Steps.{went, broke, passed}
use Rattle.window.proofs.Window.turn.Goals as goal

pub returns-in_err-drain_all-clause-did : goal.returns-in_err-drain_all-clause-did
unfolding turn
returns-in_err-drain_all-clause-did g c =
    passed c.from_residual.ensures.1 (sym (broke _ c.drain_all.ensures.did c.in_err-drain_all.was))

pub returns-clause-did : goal.returns-clause-did
unfolding turn
returns-clause-did g c = c.drain_all-2.ensures.did ∙ sym (went _ c.drain_all.ensures.did c.in_ok-drain_all.was)
