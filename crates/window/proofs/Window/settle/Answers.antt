use Rattle.std.proofs.Common.{sym, refl, ap, ◌∙◌, subst, rules}
use Rattle.post.specs.Outs.{Out, out}
use Rattle.window.specs.Turns.{State, Settled, calm, again, stops}
use Rattle.window.specs.Windows.{state_of}
use Rattle.window.proofs.Falls.{turn_falls}
use Rattle.window.proofs.Steps.{passed}
use Rattle.window.proofs.Window.settle.Goals as goal

pub loop-self-smaller : goal.loop-self-smaller
loop-self-smaller g c = turn_falls _ (c.loop-self-test.ensures.yes refl) c.turn.ensures.did c.in_ok-turn.was

pub loop-self-preserved : goal.loop-self-preserved
loop-self-preserved g c = record {
  kept = search rules;
  settled = λ o s. c.loop-self.invariant.settled o (again (c.loop-self-test.ensures.yes refl) (ap (out _) (sym c.in_ok-turn.was) ∙ c.turn.ensures.did) s);
}

pub returns-in_err-turn-clause-did : goal.returns-in_err-turn-clause-did
returns-in_err-turn-clause-did g c =
    subst (λ (o : Out State (Unit {0})). Settled (state_of g.P.Post.lanes c.args.self.now) o)
    (sym (passed c.from_residual.ensures.1 refl))
    (c.loop-self.invariant.settled _ (stops (c.loop-self-test.ensures.yes refl) (ap (out _) (sym c.in_err-turn.was) ∙ c.turn.ensures.did)))

pub returns-clause-did : goal.returns-clause-did
returns-clause-did g c = c.loop-self.invariant.settled _ (calm (c.loop-self-test.ensures.no refl))
