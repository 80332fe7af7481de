-- How many frames the messages of a window take on a wire. Assumes nothing.
use Rattle.std.specs.Prelude.{◌≡◌, ℕ, ◌+◌, ◌-◌, ◌*◌, ◌≤◌, List, length}
use Rattle.post.specs.Lanes.{Lane}
use Rattle.post.specs.Tables.{used}
use Rattle.wire.specs.Wires.{Outcome, costs}
use Rattle.bit_post.specs.Sends.{Sends}
use Rattle.bit_post.specs.Became.{Counts}
use Rattle.bit_post.specs.declared.BitPost.{BitPost}

-- The lanes of a post over a wire that has so many offices.
abbrev pub lanes_over : {W : Type 0} (offices : W → ℕ) → BitPost W → List Lane
lanes_over offices p = used (offices p.wire) p.table

-- So many messages took so many frames on a wire that had troubles of which some are left. The outcomes are what the wire did with each put; the attempts of the sends make exactly these puts.
pub record FramesByAttempts (messages frames had left : ℕ) (wire_did : List Outcome → Type 0) : Type 0 where
  pub outcomes : List Outcome
  pub did : wire_did outcomes
  pub attempts : Sends messages outcomes
  pub count : frames ≡ length outcomes
  pub spent : had ≡ left + costs outcomes
  pub least : 2 * messages ≤ frames
  pub most : frames ≤ 2 * messages + 2 * (had - left)

-- A post on which nothing was sent since it was made.
pub record Fresh (c : Counts) : Type 0 where
  pub frames : c.frames ≡ 0
  pub sent : c.sent ≡ 0
  pub first : c.troubles_first ≡ c.troubles
