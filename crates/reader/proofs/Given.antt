-- What a call that may want memory gives, with and without the reader's place.
use Rattle.std.proofs.Common.{◌≡◌, ℕ, Ok, Err, Result, ap}
use Rattle.fault.specs.declared.Fault.{Fault}
use Rattle.reader.specs.declared.Reader.{Reader}
use Rattle.reader.specs.Readings.{Reading, whole}
use Rattle.reader.specs.Readers.{from}
use Rattle.fault.specs.declared.failure.Failure.{Failure}
use Rattle.fault.specs.declared.failure.Failure.TheVariants.{Faulty, NoMemory}
use Rattle.reader.specs.Answers.{Gives, GivesAt}

-- z is what the reading gives where the reader stands
pub gives_whole : {X Y : Type 0} (model : X → Y) {reading : Reading Y} {here after : Reader} {z : Result (Y × ℕ) Fault} (r : Result X Failure) → GivesAt model reading here r after → from reading here ≡ z → Gives model (whole z) r
gives_whole model (Ok x) g e = rw e at (ap whole g.answers)
gives_whole model (Err (Faulty f)) g e = rw e at (ap whole g.answers.0)
gives_whole model (Err NoMemory) g e = tt
