use Rattle.std.proofs.Common.{sym, subst, rules}
use Rattle.post.specs.Outs.{out}
use Rattle.window.specs.Sequences.{fine}
use Rattle.window.specs.Turns.{at, Signals, Accepts, quiet, signalled_on}
use Rattle.window.specs.Windows.{state_of}
use Rattle.window.proofs.Window.accept.Goals as goal

pub returns-then-count-clause-did : goal.returns-then-count-clause-did
returns-then-count-clause-did g c =
    signalled_on (search rules)
    (subst (λ b. Signals c.args.place.index (at b (g.P.Post.lanes c.args.self.now.post)) (out (state_of g.P.Post.lanes c.signal_and_settle.new.self) c.signal_and_settle.result)) c.count.ensures.counted c.signal_and_settle.ensures.did)

pub returns-clause-did : goal.returns-clause-did
returns-clause-did g c =
    subst (λ b. Accepts c.args.place.index (state_of g.P.Post.lanes c.args.self.now) (fine (at b (g.P.Post.lanes c.args.self.now.post)))) (sym c.count.ensures.counted)
    (quiet (search rules))
