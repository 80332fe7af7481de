-- A list of bytes sent on one lane, up to the first that is refused. Assumes nothing.
use Rattle.std.specs.Prelude.{ℕ, List, [], ◌∷◌, Ok, Err, Result}
use Rattle.fault.specs.declared.Fault.{Fault}
use Rattle.post.specs.Lanes.{Lane, send}
use Rattle.post.specs.Outs.{Out, out}

-- goes on after a yes, and stops at a refusal
abbrev pub go_on : Result (Unit {0}) Fault → List Lane → (List Lane → Out (List Lane) (Unit {0})) → Out (List Lane) (Unit {0})
go_on (Ok u) lanes then = then lanes
go_on (Err f) lanes then = out lanes (Err f)

abbrev pub send_list : ℕ → List ℕ → List Lane → Out (List Lane) (Unit {0})
send_list i [] lanes = out lanes (Ok tt)
send_list i (b ∷ bs) lanes = go_on (send i b lanes).answer (send i b lanes).state (send_list i bs)
