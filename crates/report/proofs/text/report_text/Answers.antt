use Rattle.std.proofs.Common.{[], vec_items, decimal, refl, ap, ◌∙◌}
use Rattle.reader.specs.Lists.{commas}
use Rattle.reader.specs.Words.{closed_key, step_key, signals_key, messages_key, frames_key, accepted_key, late_key, credits_key, remainders_key}
use Rattle.writer.proofs.Joined.{at_end, before_line, at_start}
use Rattle.report.specs.ReportText.{closed_text}
use Rattle.report.proofs.text.report_text.Goals as goal

pub returns : goal.returns
returns c =
    let r = c.args.report.now in
    c.into_bytes.ensures ∙ at_end
    (before_line _ remainders_key (commas (vec_items r.remainders)) c.in_ok-push_list-2.ensures (ap commas c.as_slice-2.ensures.value) []
    ∙ before_line _ credits_key (commas (vec_items r.credits)) c.in_ok-push_list.ensures (ap commas c.as_slice.ensures.value) _
    ∙ before_line _ late_key (decimal r.late) c.in_ok-push_number_line-6.ensures refl _
    ∙ before_line _ accepted_key (decimal r.accepted) c.in_ok-push_number_line-5.ensures refl _
    ∙ before_line _ frames_key (decimal r.frames.count) c.in_ok-push_number_line-4.ensures (ap decimal c.number-2.ensures.value) _
    ∙ before_line _ messages_key (decimal r.messages.number) c.in_ok-push_number_line-3.ensures (ap decimal c.number.ensures) _
    ∙ before_line _ signals_key (decimal r.signals) c.in_ok-push_number_line-2.ensures refl _
    ∙ before_line _ step_key (decimal r.step) c.in_ok-push_number_line.ensures refl _
    ∙ before_line _ closed_key (closed_text r.closed) c.in_ok-push_closed.ensures refl _
    ∙ at_start c.new-lines.ensures _)
