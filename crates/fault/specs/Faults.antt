-- The number of each refusal, the name of each layer, and a fault as one record. Assumes nothing.
use Rattle.std.specs.Prelude.{List, ℕ, codes}
use Rattle.fault.specs.declared.Fault.{Fault}
use Rattle.fault.specs.declared.Layer.{Layer}
use Rattle.fault.specs.declared.Layer.TheVariants.{Terms, Day, Report, Window, Ladder, Post, Wire}
use Rattle.fault.specs.declared.Refusal.{Refusal}
use Rattle.fault.specs.declared.Refusal.TheVariants.{NoSuchOfficeOrLane, WindowClosed, SixteenWait, AllSent, PostUsed, PlacesTaken, NoSuchStep, TextTooLong, NotAsExpected, NotANumber, OutOfRange, UnknownWord, NotAMark, BytesAfterEnd, BufferTooShort}

abbrev pub refusal_number : Refusal → ℕ
refusal_number NoSuchOfficeOrLane = 1
refusal_number WindowClosed = 2
refusal_number SixteenWait = 3
refusal_number AllSent = 4
refusal_number PostUsed = 5
refusal_number PlacesTaken = 6
refusal_number NoSuchStep = 7
refusal_number TextTooLong = 8
refusal_number NotAsExpected = 9
refusal_number NotANumber = 10
refusal_number OutOfRange = 11
refusal_number UnknownWord = 12
refusal_number NotAMark = 13
refusal_number BytesAfterEnd = 14
refusal_number BufferTooShort = 15

abbrev pub layer_name : Layer → List ℕ
layer_name Terms = codes "terms"
layer_name Day = codes "day"
layer_name Report = codes "report"
layer_name Window = codes "window"
layer_name Ladder = codes "ladder"
layer_name Post = codes "post"
layer_name Wire = codes "wire"

abbrev pub fault : Layer → Refusal → ℕ → Fault
fault l r p = record { layer = l; refusal = r; place = p }
