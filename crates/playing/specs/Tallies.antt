-- What is counted of a day beside the books, from what each lot was answered. Assumes nothing.
use Rattle.std.specs.Prelude.{ℕ, ◌+◌, Bool, true, false, cond, List, Some, None, Ok, Err}
use Rattle.fault.specs.declared.Refusal.{Refusal}
use Rattle.fault.specs.declared.Refusal.TheVariants.{WindowClosed}
use Rattle.rules.specs.Lists.{total}
use Rattle.rules.specs.Runs.{Answer}
use Rattle.playing.specs.declared.tally.Tally.{Tally}

abbrev pub is_closed : Refusal → Bool
is_closed WindowClosed = true
is_closed _ = false

-- A lot is late if it was refused because the window was closed.
abbrev pub late : Answer → ℕ
late (Ok u) = 0
late (Err f) = cond (is_closed f.refusal) 1 0

abbrev pub late_in_all : List Answer → ℕ
late_in_all answers = total late answers

abbrev pub no_tally : Tally
no_tally = record { accepted = 0; late = 0; closing = None }

-- How many lots a tally counts.
abbrev pub counted : Tally → ℕ
counted t = t.accepted + t.late

-- One answer more, where closed says whether the window is closed after it.
abbrev pub noted : Answer → (closed : Bool) → Tally → Tally
noted (Ok u) closed t = record { accepted = t.accepted + 1; late = t.late; closing = cond closed (Some (t.accepted + 1)) t.closing }
noted (Err f) closed t = record { accepted = t.accepted; late = t.late + late (Err f); closing = t.closing }
