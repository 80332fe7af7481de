use Rattle.bit_post.specs.Becoming.{became_within}
use Rattle.bit_post.proofs.BitPost.send_all.Goals as goal

pub returns-clause-frames : goal.returns-clause-frames
returns-clause-frames g c = became_within _ _ _ c.send_each.ensures.became
