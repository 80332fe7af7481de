use Rattle.std.proofs.Common.{◌≡◌, sym, ap, ◌∙◌, subst}
use Rattle.bit_post.specs.declared.BitPost.{BitPost}
use Rattle.bit_post.specs.Counted.{counts}
use Rattle.playing.specs.Frames.{FramesByAttempts}
use Rattle.playing.proofs.Framing.{frames_since}
use Rattle.playing.proofs.over_wire.frames_of.Goals as goal

pub returns : goal.returns
returns g c =
    let w = g.W.Wire in
    let q = c.args.window.now.post in
    let value : c.frame_count.result.count ≡ q.frames = c.frame_count.ensures.value ∙ ap (λ (p : BitPost g.row.W.Denot). p.frames) c.post.ensures in
    record {
      value = value;
      law = λ p fresh b. subst (λ f. FramesByAttempts (counts w.offices w.troubles q).sent f (w.troubles p.wire) (w.troubles q.wire) (w.ran p.wire q.wire)) (sym value)
          (frames_since (counts w.offices w.troubles p) (counts w.offices w.troubles q) (w.ran p.wire q.wire) (w.ran p.wire q.wire) (λ xs r. r) fresh b);
    }
