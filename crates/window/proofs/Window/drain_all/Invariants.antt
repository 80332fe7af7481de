use Rattle.std.proofs.Common.{◌≡◌, ◌-◌}
use Rattle.window.specs.Sequences.{each}
use Rattle.window.specs.Turns.{drain, part}
use Rattle.window.specs.Windows.{state_of, Kept}
use Rattle.window.proofs.Window.drain_all.Given as goal

abbrev pub invariant-loop-index : goal.invariant-loop-index
invariant-loop-index g l =
    let p = g.P.Post in
    let w = g.W.Way in
    record {
      kept : Kept p.became l.initial.self l.self;
      left : each (l.index-end - l.index) l.index (λ i. drain (w.lane i) (w.arrived i)) (state_of p.lanes l.self) ≡ part w.lane w.arrived l.index-end (state_of p.lanes l.initial.self);
    }
