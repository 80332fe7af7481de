-- The report that a day comes to, by the rules. Assumes nothing.
use Rattle.std.specs.Prelude.{◌≡◌, ℕ, ◌+◌, ◌*◌, ◌≤◌, List, map, length}
use Rattle.ladder.specs.Slacks.{halving_slack, listed_slack}
use Rattle.wire.specs.Wires.{Outcome, costs}
use Rattle.wire.specs.Marks.{byte_outcome, next_outcomes}
use Rattle.bit_post.specs.Sends.{Sends}
use Rattle.rules.specs.Rules.{Setting, State, opened}
use Rattle.rules.specs.Runs.{Answer, Runs, Books, books, accepted_in_all}
use Rattle.window.specs.Windows.{setting_for, LawfulBooks}
use Rattle.playing.specs.Tallies.{late_in_all}
use Rattle.playing.specs.Days.{ClosedBy}
use Rattle.report.specs.Models.{ReportModel}
use Rattle.terms.specs.Models.{TermsModel, LadderModel, halving, listed}
use Rattle.terms.specs.declared.model.PostChoice.{PostChoice}
use Rattle.terms.specs.declared.model.PostChoice.TheVariants.{Direct, Bit}
use Rattle.day.specs.Models.{DayModel}

-- The offices on the ladder that the terms name.
abbrev pub ladder_setting : (offices grain : ℕ) → LadderModel → Setting
ladder_setting k g (halving e) = setting_for k e (halving_slack g e)
ladder_setting k g (listed ds) = setting_for k (length ds) (listed_slack g ds)

abbrev pub terms_setting : TermsModel → Setting
terms_setting x = ladder_setting x.offices x.grain x.ladder

-- The report has the figures of the books.
pub record SameFigures (b : Books) (m : ReportModel) : Type 0 where
  pub step : m.step ≡ b.step
  pub signals : m.signals ≡ b.signals
  pub messages : m.messages ≡ b.messages
  pub credits : m.credits ≡ b.credits
  pub remainders : m.remainders ≡ b.remainders

-- So many messages took so many frames: those that the attempts of the sends put while the wire read these marks.
pub record FramesByMarks (marks : List ℕ) (messages frames : ℕ) : Type 0 where
  pub outcomes : List Outcome
  pub marked : outcomes ≡ next_outcomes (length outcomes) (map byte_outcome marks)
  pub attempts : Sends messages outcomes
  pub count : frames ≡ length outcomes
  pub least : 2 * messages ≤ frames
  pub most : frames ≤ 2 * messages + 2 * costs outcomes

-- A direct post puts no frames.
abbrev pub FramesOf : PostChoice → (marks : List ℕ) (messages frames : ℕ) → Type 0
FramesOf Direct marks messages frames = frames ≡ 0
FramesOf Bit marks messages frames = FramesByMarks marks messages frames

-- Over these offices on this ladder, the lots run by the rules; the report has the books that they leave, and what their answers say.
pub record LotsReport (l : Setting) (lots : List ℕ) (m : ReportModel) : Type 0 where
  pub answers : List Answer
  pub after : State
  pub runs : Runs l (opened l) lots answers after
  pub figures : SameFigures (books after) m
  pub accepted : m.accepted ≡ accepted_in_all answers
  pub late : m.late ≡ late_in_all answers
  pub closed : ClosedBy l lots answers (books after) m.closed
  pub lawful : LawfulBooks l lots answers (books after)

-- The report of a day under its terms.
pub record DayReport (x : TermsModel) (y : DayModel) (m : ReportModel) : Type 0 where
  pub lots : LotsReport (terms_setting x) y.lots m
  pub frames : FramesOf x.post y.marks m.messages m.frames
