-- What the two kinds of wire show, and what their makers make. Assumes nothing.
use Rattle.std.specs.Prelude.{◌≡◌, ℕ, ◌*◌, List, map, length, replicate, Some, None, Ok, Err, Result}
use Rattle.fault.specs.declared.Fault.{Fault}
use Rattle.wire.specs.Wires.{Outcome, once, WireLane, no_frames, costs}
use Rattle.wire.specs.Marks.{outcome_of, byte_outcome, Reads}
use Rattle.wire.specs.Rows.{lanes_of}
use Rattle.wire.specs.Makers.{clean_fault, marked_fault}
use Rattle.wire.specs.declared.mark_source.NoMarks.{NoMarks}
use Rattle.wire.specs.declared.marks_list.Marks.{Marks}
use Rattle.wire.specs.declared.rows.Rows.{Rows}
use Rattle.wire.specs.declared.table_wire.TableWire.{TableWire}
use Rattle.fault.specs.declared.failure.Failure.{Failure}
use Rattle.fault.specs.declared.failure.Failure.TheVariants.{Faulty, NoMemory}

-- nothing waits on any lane of k offices
abbrev pub all_empty : (k : ℕ) → List WireLane
all_empty k = replicate (2 * k) no_frames

-- new rows, or the first fault
abbrev pub RowsMade : (offices : ℕ) → Result Rows Fault → Type 0
RowsMade offices (Ok r) = (clean_fault offices ≡ None) × (r.queues.offices.number ≡ offices) × (lanes_of r ≡ all_empty offices)
RowsMade offices (Err f) = clean_fault offices ≡ Some f

-- on a clean wire every frame joins once
abbrev pub CleanRan : NoMarks → NoMarks → List Outcome → Type 0
CleanRan s t outcomes = outcomes ≡ replicate (length outcomes) once

-- the outcomes that marks are still to give, in order
abbrev pub marks_left : Marks → List Outcome
marks_left m = map outcome_of m.list.items

-- on a marked wire the outcomes are those of the marks that were read in between
abbrev pub MarkedRan : Marks → Marks → List Outcome → Type 0
MarkedRan s t outcomes = Reads (marks_left s) outcomes (marks_left t)

pub record CleanStart (offices : ℕ) (w : TableWire NoMarks) : Type 0 where
  pub offices_given : w.rows.queues.offices.number ≡ offices
  pub empty : lanes_of w.rows ≡ all_empty offices

-- a new clean wire, or the first fault
abbrev pub CleanMade : (offices : ℕ) → Result (TableWire NoMarks) Fault → Type 0
CleanMade offices (Ok w) = (clean_fault offices ≡ None) × CleanStart offices w
CleanMade offices (Err f) = clean_fault offices ≡ Some f

-- the outcomes to come are those that the marks say, and each `-` and `+` is a trouble
pub record MarkedStart (offices : ℕ) (marks : List ℕ) (w : TableWire Marks) : Type 0 where
  pub offices_given : w.rows.queues.offices.number ≡ offices
  pub empty : lanes_of w.rows ≡ all_empty offices
  pub outcomes : marks_left w.marks ≡ map byte_outcome marks
  pub troubles : w.marks.troubles ≡ costs (map byte_outcome marks)

-- a new marked wire, or the first fault; without a fault there may be no memory
abbrev pub MarkedMade : (offices : ℕ) (marks : List ℕ) → Result (TableWire Marks) Failure → Type 0
MarkedMade offices marks (Ok w) = (marked_fault offices marks ≡ None) × MarkedStart offices marks w
MarkedMade offices marks (Err (Faulty f)) = marked_fault offices marks ≡ Some f
MarkedMade offices marks (Err NoMemory) = marked_fault offices marks ≡ None
