-- The text of a report. Assumes nothing.
use Rattle.std.specs.Prelude.{ℕ, List, [], Some, None, decimal, Option}
use Rattle.reader.specs.Lists.{commas}
use Rattle.reader.specs.Readings.{line}
use Rattle.reader.specs.Words.{closed_key, step_key, signals_key, messages_key, frames_key, accepted_key, late_key, credits_key, remainders_key, no_word}
use Rattle.report.specs.Models.{ReportModel}

-- the number of the closing lot, or a word if no lot closed the window
abbrev pub closed_text : Option ℕ → List ℕ
closed_text (Some n) = decimal n
closed_text None = no_word

-- nine lines
abbrev pub report_text : ReportModel → List ℕ
report_text m =
    line closed_key (closed_text m.closed)
    (line step_key (decimal m.step)
    (line signals_key (decimal m.signals)
    (line messages_key (decimal m.messages)
    (line frames_key (decimal m.frames)
    (line accepted_key (decimal m.accepted)
    (line late_key (decimal m.late)
    (line credits_key (commas m.credits)
    (line remainders_key (commas m.remainders) []))))))))
