use Rattle.std.proofs.Common.{◌*◌, [], sym, ap, ◌∙◌, subst}
use Rattle.post.specs.Lanes.{Unused}
use Rattle.post.specs.Tables.{used}
use Rattle.post.specs.Sends.{unused_new}
use Rattle.bit_post.specs.Counted.{counts}
use Rattle.window.specs.Windows.{setting_for}
use Rattle.playing.specs.Frames.{FramesByAttempts}
use Rattle.playing.proofs.Framing.{new_sent, frames_since, frames_few}
use Rattle.playing.proofs.over_wire.play_over_wire.Goals as goal

pub returns : goal.returns
returns g c =
    let w = g.W.Wire in
    let first = c.args.wire in
    let p = c.new.result in
    let q = c.play.result.window.post in
    let ladder = c.args.ladder in
    let frames =
    subst (λ t. FramesByAttempts (counts w.offices w.troubles q).sent q.frames t (w.troubles q.wire) (w.ran first q.wire)) c.new.ensures.troubles
    (frames_since (counts w.offices w.troubles p) (counts w.offices w.troubles q) (w.ran p.wire q.wire) (w.ran first q.wire)
    (λ xs r. g.met.W.Wire.goes first p.wire q.wire [] xs c.new.ensures.rests r)
    (record { frames = c.new.ensures.frames; sent = new_sent (2 * w.offices first) (used (w.offices p.wire) p.table) c.new.ensures.in_use; first = c.new.ensures.first ∙ sym c.new.ensures.troubles })
    c.play.ensures.became) in
    record {
      setting = c.play.ensures.setting ∙ ap (λ k. setting_for k (g.L.Ladder.steps ladder) (g.L.Ladder.slack ladder)) c.new.ensures.offices;
      day = c.play.ensures.day (subst Unused (sym c.new.ensures.in_use) (unused_new (2 * w.offices first)));
      frames = frames;
      counted = frames_few (counts w.offices w.troubles q).sent frames (g.met.W.Wire.sound first).bounded;
    }
