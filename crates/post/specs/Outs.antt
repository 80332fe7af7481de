-- What a call leaves and answers, as one record. Assumes nothing.
use Rattle.std.specs.Prelude.{Result}
use Rattle.fault.specs.declared.Fault.{Fault}

pub record Out (S R : Type 0) : Type 0 where
  pub state : S
  pub answer : Result R Fault

abbrev pub out : {S R : Type 0} → S → Result R Fault → Out S R
out s r = record { state = s; answer = r }
