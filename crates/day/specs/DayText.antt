-- What a text of a day says, where there are k offices. Assumes nothing.
use Rattle.std.specs.Prelude.{ℕ, ◌+◌, cond, not, ◌&&◌, List, [], length, drop, Ok, Err, Result, nat_lt}
use Rattle.fault.specs.declared.Fault.{Fault}
use Rattle.fault.specs.declared.Layer.TheVariants.{Day as InDay}
use Rattle.fault.specs.declared.Refusal.TheVariants.{NoSuchOfficeOrLane, NotAMark}
use Rattle.fault.specs.Faults.{fault}
use Rattle.reader.specs.declared.byte_kind.ByteKind.TheVariants.{Mark}
use Rattle.reader.specs.Bytes.{run, line_end}
use Rattle.reader.specs.Readings.{Reading, bind, whole, end_text, number_in, line_of}
use Rattle.reader.specs.Lists.{numbers}
use Rattle.day.specs.Models.{DayModel}
use Rattle.reader.specs.Words.{marks_key, lots_key}

-- the marks, which the line's end is to follow; any other byte is no mark
abbrev pub marks : Reading (List ℕ)
marks l t p =
    let ms : List ℕ = run Mark (drop p t) in
    let q : ℕ = p + length ms in
    cond (nat_lt q (length t) && not (nat_lt 0 (line_end (drop q t)))) (Err (fault l NotAMark q)) (Ok (ms, q))

-- one lot or more, each the number of its office, as many as the text has bytes or fewer
abbrev pub some_lots : ℕ → Reading (List ℕ)
some_lots k l t = numbers (length t) (λ _. number_in 1 k NoSuchOfficeOrLane) [] l t

-- no lot where the line ends at once
abbrev pub lots : ℕ → Reading (List ℕ)
lots k l t p = cond (nat_lt 0 (line_end (drop p t))) (Ok ([], p)) (some_lots k l t p)

-- two lines, and nothing after them
abbrev pub day : ℕ → Reading DayModel
day k l t p =
    bind (line_of marks_key marks l t p) (λ m.
    bind (line_of lots_key (lots k) l t m.1) (λ o.
    bind (end_text l t o.1) (λ e.
    Ok (record { marks = m.0; lots = o.0 }, e.1))))

abbrev pub read_day : ℕ → List ℕ → Result DayModel Fault
read_day k t = whole (day k InDay t 0)
