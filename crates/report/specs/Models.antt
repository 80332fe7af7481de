-- A report as plain numbers. Assumes nothing.
use Rattle.std.specs.Prelude.{ℕ, List, vec_items, Option}
use Rattle.report.specs.declared.Report.{Report}

-- the lists have a number for each office, from office 1 on
pub record ReportModel : Type 0 where
  pub closed : Option ℕ
  pub step : ℕ
  pub signals : ℕ
  pub messages : ℕ
  pub frames : ℕ
  pub accepted : ℕ
  pub late : ℕ
  pub credits : List ℕ
  pub remainders : List ℕ

abbrev pub report_model : Report → ReportModel
report_model r = record { closed = r.closed; step = r.step; signals = r.signals; messages = r.messages.number; frames = r.frames.count; accepted = r.accepted; late = r.late; credits = vec_items r.credits; remainders = vec_items r.remainders }
