-- The numbers of a post over a wire, by the wire's own offices and troubles. Assumes nothing.
use Rattle.std.specs.Prelude.{ℕ}
use Rattle.post.specs.Lanes.{all_sent}
use Rattle.post.specs.Tables.{used}
use Rattle.bit_post.specs.declared.BitPost.{BitPost}
use Rattle.bit_post.specs.Became.{Counts}

abbrev pub counts : {W : Type 0} (offices troubles : W → ℕ) → BitPost W → Counts
counts offices troubles p = record { frames = p.frames; troubles = troubles p.wire; troubles_first = p.first_troubles; sent = all_sent (used (offices p.wire) p.table) }
