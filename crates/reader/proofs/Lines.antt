-- A line whose middle another call reads is the line of what that call reads.
use Rattle.std.proofs.Common.{◌≡◌, ℕ, List, Some, Ok, Err, Option, Result, refl, ap}
use Rattle.fault.specs.declared.Fault.{Fault}
use Rattle.fault.specs.declared.failure.Failure.{Failure}
use Rattle.fault.specs.declared.failure.Failure.TheVariants.{Faulty}
use Rattle.reader.specs.declared.Reader.{Reader}
use Rattle.reader.specs.Readings.{Reading, expect, end_line, line_of}
use Rattle.reader.specs.Readers.{Reads}
use Rattle.reader.specs.Answers.{told, GivesAt}
use Rattle.reader.specs.Lines.{LineBy, no_key, stopped, no_end, read}
use Rattle.reader.proofs.Steps.{then_read, first_stops, next_reads, stops_as, done, done_reads}

-- the line end after a value
abbrev ended : {Y : Type 0} → Y → Reading Y
ended y = then_read end_line (λ _. done y)

-- tells undoes the error type's way to take in a fault, and each call of Body reads what body says
module _ {X Y E : Type 0} (tells : E → Option Fault) (model : X → Y) (key : List ℕ) (body : Reading Y) {gives : Fault → E → Type 0} {Body : Reader → Result X E → Reader → Type 0} where
  line_reads : (here after : Reader) (r : Result X E) → LineBy gives Body key here r after → ((f : Fault) (e : E) → gives f e → tells e ≡ Some f)
      → ((start mid : Reader) (r : Result X E) → Body start r mid → Reads tells model body start r mid)
      → Reads tells model (line_of key body) here r after
  line_reads here after (Ok x) (read k b z) undone each =
      next_reads (expect key) (λ _. then_read body ended) (Ok x) k (next_reads body ended (Ok x) (each _ _ (Ok x) b) (next_reads end_line (λ _. done (model x)) (Ok x) z (done_reads x after refl)))
  line_reads here after (Err e) (no_key {f = f} n given) undone each = first_stops (expect key) (λ _. then_read body ended) (stops_as {model' = λ u. u} n (undone f e given))
  line_reads here after (Err e) (stopped k b) undone each = next_reads (expect key) (λ _. then_read body ended) (Err e) k (first_stops body ended (each _ _ (Err e) b))
  line_reads here after (Err e) (no_end {x = x} {f = f} k b n given) undone each =
      next_reads (expect key) (λ _. then_read body ended) (Err e) k (next_reads body ended (Err e) (each _ _ (Ok x) b) (first_stops end_line (λ _. done (model x)) (stops_as {model' = λ u. u} n (undone f e given))))

module _ {X Y : Type 0} (model : X → Y) (body : Reading Y) {key : List ℕ} {here after : Reader} where
  -- where the call's error is a fault
  pub line_answers : {Body : Reader → Result X Fault → Reader → Type 0} {r : Result X Fault} → LineBy (λ f e. e ≡ f) Body key here r after
      → ((start mid : Reader) (r : Result X Fault) → Body start r mid → Reads (λ f. Some f) model body start r mid)
      → Reads (λ f. Some f) model (line_of key body) here r after
  line_answers h each = line_reads (λ f. Some f) model key body here after _ h (λ f e g. ap (λ f. Some f) g) each

  -- where it is a failure
  pub line_gives : {Body : Reader → Result X Failure → Reader → Type 0} {r : Result X Failure} → LineBy (λ f e. e ≡ Faulty f) Body key here r after
      → ((start mid : Reader) (r : Result X Failure) → Body start r mid → GivesAt model body start r mid)
      → GivesAt model (line_of key body) here r after
  line_gives h each = line_reads told model key body here after _ h (λ f e g. ap told g) each
