use Rattle.std.proofs.Common.{take, drop, ap, ◌∙◌, arith, length-drop}
use Rattle.std.proofs.lemmas.List.Edits.{take-paste}
use Rattle.queue.proofs.Popping.{rest_by}
use Rattle.queue.proofs.Queue.pop.Goals as goal

pub returns-clause-after : goal.returns-clause-after
returns-clause-after g c =
    let q = c.args.self.now in
    rest_by q.items c.copy_within.new.self q.count (omega arith) (omega arith) q.wide
    (ap (take 15) c.copy_within.ensures.after ∙ take-paste q.items 0 (drop 1 q.items) 15 (omega arith) (rw length-drop (omega arith)))
