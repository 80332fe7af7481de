-- The lanes that a table holds: all of them, and those that a number of offices uses. Assumes nothing.
use Rattle.std.specs.Prelude.{ℕ, ◌*◌, List, map, take}
use Rattle.queue.specs.Queues.{held}
use Rattle.offices.specs.LaneItems.{in_use}
use Rattle.post.specs.Lanes.{Lane}
use Rattle.post.specs.declared.slot.Slot.{Slot}
use Rattle.post.specs.declared.office_lanes.OfficeLanes.{OfficeLanes}
use Rattle.post.specs.declared.lane_table.LaneTable.{LaneTable}

abbrev pub shown : Slot → Lane
shown s = record { waiting = held s.queue; sent = s.sent }

-- Two lanes for each office that the lanes are for.
abbrev pub lanes_of : OfficeLanes → List Lane
lanes_of t = map shown (in_use t.slots)

-- All 128 lanes.
abbrev pub slots_shown : LaneTable → List Lane
slots_shown t = lanes_of t.lanes

-- Two lanes for each office; all of the table's where there are more offices than it has lanes for.
abbrev pub used : (offices : ℕ) → LaneTable → List Lane
used offices t = take (2 * offices) (slots_shown t)
