-- What a queue holds, from first to last. Assumes nothing.
use Rattle.std.specs.Prelude.{List, [], ◌∷◌, take, Some, None, Option}
use Rattle.queue.specs.declared.Queue.{Queue}

abbrev pub held : {T : Type 0} → Queue T → List T
held q = take q.count q.items

abbrev pub first : {T : Type 0} → List T → Option T
first [] = None
first (x ∷ xs) = Some x

abbrev pub rest : {T : Type 0} → List T → List T
rest [] = []
rest (x ∷ xs) = xs
