use Rattle.std.proofs.Common.{vec_items, rules}
use Rattle.reader.proofs.Lines.{line_answers, line_gives}
use Rattle.day.specs.DayText.{marks, lots}
use Rattle.day.proofs.day_text.day.Goals as goal

pub returns-in_err-marks : goal.returns-in_err-marks
returns-in_err-marks c =
    let m = line_answers (λ x. x.now) marks c.in_err-marks.ensures (λ start mid r b. let m = b.met in search rules) in
    search rules

pub returns-in_err-lots : goal.returns-in_err-lots
returns-in_err-lots c =
    let m = line_answers (λ x. x.now) marks c.in_ok-marks.ensures (λ start mid r b. let m = b.met in search rules) in
    let o = line_gives vec_items (lots c.args.offices) c.in_err-lots.ensures (λ start mid r b. let m = b.met in search rules) in
    search rules

pub returns-in_err-end_text : goal.returns-in_err-end_text
returns-in_err-end_text c =
    let m = line_answers (λ x. x.now) marks c.in_ok-marks.ensures (λ start mid r b. let m = b.met in search rules) in
    let o = line_gives vec_items (lots c.args.offices) c.in_ok-lots.ensures (λ start mid r b. let m = b.met in search rules) in
    search rules

pub returns : goal.returns
returns c =
    let m = line_answers (λ x. x.now) marks c.in_ok-marks.ensures (λ start mid r b. let m = b.met in search rules) in
    let o = line_gives vec_items (lots c.args.offices) c.in_ok-lots.ensures (λ start mid r b. let m = b.met in search rules) in
    search rules
