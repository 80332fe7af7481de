use Rattle.post.specs.Outs.{Out}
use Rattle.window.specs.Turns.{State, Settled}
use Rattle.window.specs.Windows.{state_of, Kept}
use Rattle.window.proofs.Falls.{potential}
use Rattle.window.proofs.Window.settle.Given as goal

abbrev pub invariant-loop-self : goal.invariant-loop-self
invariant-loop-self g l =
    let p = g.P.Post in
    record {
      kept : Kept p.became l.initial.self l.self;
      settled : (o : Out State (Unit {0})) → Settled (state_of p.lanes l.self) o → Settled (state_of p.lanes l.initial.self) o;
    }

abbrev pub decreases-loop-self : goal.decreases-loop-self
decreases-loop-self g l = potential (state_of g.P.Post.lanes l.self)
