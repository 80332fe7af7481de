use Rattle.std.proofs.Common.{◌≡◌, ◌+◌, ◌-◌, ◌*◌}
use Rattle.post.specs.Lanes.{send}
use Rattle.window.specs.Sequences.{each}
use Rattle.window.specs.Turns.{tell}
use Rattle.window.specs.Windows.{Kept}
use Rattle.window.proofs.Window.tell.Given as goal

abbrev pub invariant-loop-index : goal.invariant-loop-index
invariant-loop-index g l =
    let p = g.P.Post in
    record {
      kept : Kept p.became l.initial.self l.self;
      checked : l.self.checked ≡ l.initial.self.checked;
      left : each (l.index-end - l.index) l.index (λ i. send (2 * i + 1) l.byte) (p.lanes l.self.post) ≡ tell l.index-end l.byte (p.lanes l.initial.self.post);
    }
