-- Calls on a reader, one after another: each reads from where the one before it left the reader.
use Rattle.std.proofs.Common.{◌≡◌, ℕ, Some, None, Ok, Err, Option, Result, sym, refl, ap, ◌∙◌, subst}
use Rattle.fault.specs.declared.Fault.{Fault}
use Rattle.reader.specs.declared.Reader.{Reader}
use Rattle.reader.specs.Readings.{Reading, bind}
use Rattle.reader.specs.Readers.{from, Stops, ReadsAt, Reads}
use Rattle.reader.proofs.Exact.{bind_on, bind_stop}
use Rattle.reader.proofs.Same.{same_trans, same_from}

-- one reading, and then what follows from its value
abbrev pub then_read : {X Y : Type 0} → Reading X → (X → Reading Y) → Reading Y
then_read first next l t p = bind (first l t p) (λ x. next x.0 l t x.1)

-- an error that stops one reading stops another that stops where it does
stops_on : {X Y : Type 0} (o : Option Fault) (s : Result (X × ℕ) Fault) (z : Result (Y × ℕ) Fault) (q : ℕ) → ((f : Fault) → s ≡ Err f → z ≡ Err f) → Stops o s q → Stops o z q
stops_on (Some f) s z q on h = (on f h.0, h.1)
stops_on None s z q on h = tt

module _ {Y Z : Type 0} (first : Reading Y) (next : Y → Reading Z) {here mid : Reader} where
  -- the first call is refused
  pub first_stops : {V X E : Type 0} {told : E → Option Fault} {model : X → Y} {model' : V → Z} {e : E} → Reads told model first here (Err e) mid → Reads told model' (then_read first next) here (Err e) mid
  first_stops {told = told} {e = e} h = record { same = h.same; answers = stops_on (told e) (from first here) (from (then_read first next) here) mid.place (λ f s. bind_stop _ s) h.answers }

  -- the first call answers, and the next one reads from there
  pub next_reads : {V X E D : Type 0} {told : E → Option Fault} {told' : D → Option Fault} {model : X → Y} {model' : V → Z} {x : X} {after : Reader} (r : Result V D)
      → Reads told model first here (Ok x) mid → Reads told' model' (next (model x)) mid r after → Reads told' model' (then_read first next) here r after
  next_reads {model = model} {x = x} (Ok v) h k = record { same = same_trans h.same k.same; answers = bind_on _ h.answers (sym (same_from (next (model x)) h.same) ∙ k.answers) }
  next_reads {told' = told'} {model = model} {x = x} {after = after} (Err e) h k =
      record {
        same = same_trans h.same k.same;
        answers = stops_on (told' e) (from (next (model x)) mid) (from (then_read first next) here) after.place (λ f s. bind_on _ h.answers (sym (same_from (next (model x)) h.same) ∙ s)) k.answers;
      }

-- two readings that give the same where the reader stands
pub reads_same : {X Y E : Type 0} {told : E → Option Fault} {model : X → Y} {one other : Reading Y} {here after : Reader} {r : Result X E} → from one here ≡ from other here → Reads told model one here r after → Reads told model other here r after
reads_same {told = told} {model = model} {after = after} {r = r} e h = record { same = h.same; answers = subst (λ s. ReadsAt told model s r after.place) e h.answers }

-- the same fault in another type of error
pub stops_as : {X V Y E : Type 0} {told : E → Option Fault} {reading : Reading Y} {here after : Reader} {model : X → Y} {model' : V → Y} {f : Fault} {e : E} → Reads (λ f. Some f) model reading here (Err f) after → told e ≡ Some f → Reads told model' reading here (Err e) after
stops_as {reading = reading} {here = here} {after = after} h is = record { same = h.same; answers = subst (λ o. Stops o (from reading here) after.place) (sym is) h.answers }

-- nothing more is to be read
abbrev pub done : {X : Type 0} → X → Reading X
done x l t p = Ok (x, p)

pub done_reads : {V X E : Type 0} {told : E → Option Fault} {model : V → X} {x : X} (v : V) (here : Reader) → model v ≡ x → Reads told model (done x) here (Ok v) here
done_reads v here e = record { same = record { text = refl; layer = refl }; answers = ap (λ x. Ok (x, here.place)) (sym e) }
