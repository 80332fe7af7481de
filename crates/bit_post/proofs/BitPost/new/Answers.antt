use Rattle.std.proofs.Common.{[], rules}
use Rattle.bit_post.proofs.BitPost.new.Goals as goal

pub loop-lane-preserved : goal.loop-lane-preserved
loop-lane-preserved g c = (search rules, search rules, search rules, g.met.W.Wire.goes _ _ _ [] [] c.loop-lane.invariant.3 c.empty.ensures.only.rest)
