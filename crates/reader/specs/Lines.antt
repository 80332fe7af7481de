-- A line whose middle another call reads. Assumes nothing.
use Rattle.std.specs.Prelude.{List, ℕ, Ok, Err, Result}
use Rattle.fault.specs.declared.Fault.{Fault}
use Rattle.reader.specs.declared.Reader.{Reader}
use Rattle.reader.specs.Readings.{expect, end_line}
use Rattle.reader.specs.Readers.{Answers}

-- a line: a key, a call and a line end. Body start r mid says that the call, made at start, may answer r and leave the reader at mid; gives f e says that e is the error made of the fault f
pub data LineBy {T E : Type 0} (gives : Fault → E → Type 0) (Body : Reader → Result T E → Reader → Type 0) (key : List ℕ) (here : Reader) : Result T E → Reader → Type 0 where
  no_key : {f : Fault} {e : E} {after : Reader} → Answers (expect key) here (Err f) after → gives f e → LineBy gives Body key here (Err e) after
  stopped : {e : E} {start after : Reader} → Answers (expect key) here (Ok tt) start → Body start (Err e) after → LineBy gives Body key here (Err e) after
  no_end : {x : T} {f : Fault} {e : E} {start mid after : Reader} → Answers (expect key) here (Ok tt) start → Body start (Ok x) mid → Answers end_line mid (Err f) after → gives f e → LineBy gives Body key here (Err e) after
  read : {x : T} {start mid after : Reader} → Answers (expect key) here (Ok tt) start → Body start (Ok x) mid → Answers end_line mid (Ok tt) after → LineBy gives Body key here (Ok x) after
