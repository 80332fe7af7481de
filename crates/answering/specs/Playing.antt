-- What the report of a day is over each kind of post: the words of the inner contracts. Assumes nothing.
use Rattle.std.specs.Prelude.{◌≡◌, ℕ, List, None, Ok, Err, Result}
use Rattle.fault.specs.declared.failure.Failure.{Failure}
use Rattle.fault.specs.declared.failure.Failure.TheVariants.{Faulty, NoMemory}
use Rattle.post.specs.Makers.{post_fault}
use Rattle.wire.specs.Makers.{marked_fault}
use Rattle.window.specs.Windows.{setting_for}
use Rattle.report.specs.declared.Report.{Report}
use Rattle.report.specs.Models.{report_model}
use Rattle.terms.specs.Models.{TermsModel}
use Rattle.day.specs.Models.{DayModel}
use Rattle.answering.specs.Reports.{LotsReport, FramesByMarks, FramesOf}
use Rattle.answering.specs.Answers.{Playable}

abbrev pub DirectReported : (offices steps : ℕ) (slack : ℕ → ℕ) (lots : List ℕ) → Result Report Failure → Type 0
DirectReported k e slack lots (Ok r) = LotsReport (setting_for k e slack) lots (report_model r) × ((report_model r).frames ≡ 0)
DirectReported k e slack lots (Err (Faulty f)) = post_fault k ≡ None → ⊥
DirectReported k e slack lots (Err NoMemory) = Unit {0}

abbrev pub BitReported : (offices steps : ℕ) (slack : ℕ → ℕ) (marks lots : List ℕ) → Result Report Failure → Type 0
BitReported k e slack marks lots (Ok r) = LotsReport (setting_for k e slack) lots (report_model r) × FramesByMarks marks (report_model r).messages (report_model r).frames
BitReported k e slack marks lots (Err (Faulty f)) = marked_fault k marks ≡ None → ⊥
BitReported k e slack marks lots (Err NoMemory) = Unit {0}

abbrev pub ReportedOn : (steps : ℕ) (slack : ℕ → ℕ) (x : TermsModel) (y : DayModel) → Result Report Failure → Type 0
ReportedOn e slack x y (Ok r) = LotsReport (setting_for x.offices e slack) y.lots (report_model r) × FramesOf x.post y.marks (report_model r).messages (report_model r).frames
ReportedOn e slack x y (Err (Faulty f)) = Playable x y → ⊥
ReportedOn e slack x y (Err NoMemory) = Unit {0}
