-- How a post over a wire comes to be another: by so many sends, over such a list of outcomes. Assumes nothing.
use Rattle.std.specs.Prelude.{◌≡◌, ℕ, ◌+◌, ◌-◌, ◌*◌, ◌≤◌, List, length}
use Rattle.wire.specs.Wires.{Outcome, costs}
use Rattle.bit_post.specs.Sends.{Sends}

-- the numbers of a post: frames put since it was made, the wire's troubles left now and when it was made, and bytes sent on all lanes
pub record Counts : Type 0 where
  pub frames : ℕ
  pub troubles : ℕ
  pub troubles_first : ℕ
  pub sent : ℕ

-- ran is the wire's own relation between the two posts' wires
pub record Became (before after : Counts) (ran : List Outcome → Type 0) : Type 0 where
  pub sends : ℕ
  pub outcomes : List Outcome
  pub wire_ran : ran outcomes
  pub by_attempts : Sends sends outcomes
  pub frames : after.frames ≡ before.frames + length outcomes
  pub troubles : before.troubles ≡ after.troubles + costs outcomes
  pub first : after.troubles_first ≡ before.troubles_first
  pub sent : after.sent ≡ before.sent + sends

-- the frames put lie between twice the bytes sent, and that and two for each trouble that the wire spent
pub record FramesWithin (before after : Counts) : Type 0 where
  pub least : before.frames + 2 * (after.sent - before.sent) ≤ after.frames
  pub most : after.frames ≤ before.frames + 2 * (after.sent - before.sent) + 2 * (before.troubles - after.troubles)
