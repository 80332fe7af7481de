use Rattle.std.proofs.Common.{◌≡◌, length}
use Rattle.post.specs.Lanes.{lane}
use Rattle.window.specs.Turns.{drain}
use Rattle.window.specs.Windows.{state_of, Kept}
use Rattle.window.proofs.Window.drain.Given as goal

abbrev pub invariant-loop-byte : goal.invariant-loop-byte
invariant-loop-byte g l =
    let p = g.P.Post in
    let w = g.W.Way in
    let i = l.place.index in
    record {
      kept : Kept p.became l.initial.self l.self;
      left : drain (w.lane i) (w.arrived i) (state_of p.lanes l.self) ≡ drain (w.lane i) (w.arrived i) (state_of p.lanes l.initial.self);
    }

abbrev pub decreases-loop-byte : goal.decreases-loop-byte
decreases-loop-byte g l = length (lane (g.P.Post.lanes l.self.post) (g.W.Way.lane l.place.index)).waiting
