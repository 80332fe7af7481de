-- What is told of an answer: the number and the place of its refusal. Assumes nothing.
use Rattle.std.specs.Prelude.{ℕ}
use Rattle.fault.specs.Faults.{refusal_number}
use Rattle.fault.specs.declared.failure.Failure.{Failure}
use Rattle.fault.specs.declared.failure.Failure.TheVariants.{Faulty, NoMemory}

-- of a failure; 99 stands for want of memory
abbrev pub told : Failure → ℕ × ℕ
told (Faulty f) = (refusal_number f.refusal, f.place)
told NoMemory = (99, 0)
