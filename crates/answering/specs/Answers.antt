-- What is printed of two texts: the report of the day, or the first fault. Assumes nothing.
use Rattle.std.specs.Prelude.{◌≡◌, ℕ, ◌≤◌, List, length, Ok, Err, Result}
use Rattle.fault.specs.declared.Fault.{Fault}
use Rattle.fault.specs.declared.failure.Failure.{Failure}
use Rattle.fault.specs.declared.failure.Failure.TheVariants.{Faulty, NoMemory}
use Rattle.report.specs.declared.Report.{Report}
use Rattle.report.specs.Models.{ReportModel, report_model}
use Rattle.report.specs.ReportText.{report_text}
use Rattle.terms.specs.Models.{TermsModel}
use Rattle.terms.specs.Written.{TermsInRange}
use Rattle.day.specs.Models.{DayModel}
use Rattle.day.specs.Written.{DayInRange}
use Rattle.texts.specs.Both.{read_both}
use Rattle.printing.specs.AnswerText.{fault_text}
use Rattle.answering.specs.Reports.{DayReport}

-- The bytes are the text of the report that the day comes to.
pub record ReportPrinted (x : TermsModel) (y : DayModel) (bytes : List ℕ) : Type 0 where
  pub model : ReportModel
  pub text : bytes ≡ report_text model
  pub day : DayReport x y model

abbrev pub PrintedAs : (terms day : List ℕ) → Result (TermsModel × DayModel) Fault → (bytes : List ℕ) → Type 0
PrintedAs terms day (Ok v) bytes = ReportPrinted v.0 v.1 bytes
PrintedAs terms day (Err f) bytes = bytes ≡ fault_text terms day f

-- Texts that can be read end in the report of their day, all others in the four lines of their first fault.
abbrev pub Printed : (terms day bytes : List ℕ) → Type 0
Printed terms day bytes = PrintedAs terms day (read_both terms day) bytes

-- What is to be printed was made, or the fault that is to be told was met, or there was no memory.
abbrev pub Made : {X : Type 0} → (X → List ℕ) → (terms day : List ℕ) → Result X Failure → Type 0
Made bytes terms day (Ok v) = Printed terms day (bytes v)
Made bytes terms day (Err (Faulty f)) = Printed terms day (fault_text terms day f)
Made bytes terms day (Err NoMemory) = Unit {0}

-- Terms and a day that a text can say.
pub record Playable (x : TermsModel) (y : DayModel) : Type 0 where
  pub terms : TermsInRange x
  pub day : DayInRange x.offices y
  pub marks : length y.marks ≤ 65535

-- A report of the day; a fault only if its figures are out of range.
abbrev pub Reported : TermsModel → DayModel → Result Report Failure → Type 0
Reported x y (Ok r) = DayReport x y (report_model r)
Reported x y (Err (Faulty f)) = Playable x y → ⊥
Reported x y (Err NoMemory) = Unit {0}
