use Rattle.std.proofs.Common.{◌≡◌, ◌-◌, ◌*◌}
use Rattle.post.specs.Lanes.{send}
use Rattle.window.specs.Sequences.{each}
use Rattle.window.specs.Windows.{Kept}
use Rattle.window.proofs.Window.signal.Given as goal

abbrev pub invariant-loop-t : goal.invariant-loop-t
invariant-loop-t g l =
    let p = g.P.Post in
    record {
      kept : Kept p.became l.initial.self l.self;
      checked : l.self.checked ≡ l.initial.self.checked;
      left : each (l.count - l._t) l._t (λ _. send (2 * l.place.index) l.byte) (p.lanes l.self.post) ≡ each l.count 0 (λ _. send (2 * l.place.index) l.byte) (p.lanes l.initial.self.post);
    }
