use Rattle.std.proofs.Common.{sym, refl, ap, ◌∙◌, subst}
use Rattle.post.specs.Outs.{Out, out}
use Rattle.window.specs.Turns.{State, with_lanes, Signals, refused, sent}
use Rattle.window.specs.Windows.{state_of}
use Rattle.window.proofs.Steps.{each_one, passed}
use Rattle.window.proofs.Window.signal_and_settle.Goals as goal

pub returns-in_err-signal-clause-did : goal.returns-in_err-signal-clause-did
returns-in_err-signal-clause-did g c =
    subst (λ (o : Out State (Unit {0})). Signals c.args.place.index (state_of g.P.Post.lanes c.args.self.now) o)
    (sym (passed c.from_residual.ensures.1 refl))
    (refused (ap (out _) (sym c.in_err-signal.was) ∙ c.signal.ensures.did ∙ ap (with_lanes _) (each_one _ _)))

pub returns-clause-did : goal.returns-clause-did
returns-clause-did g c =
    sent (ap (out _) (sym c.in_ok-signal.was) ∙ c.signal.ensures.did ∙ ap (with_lanes _) (each_one _ _)) c.settle.ensures.did
