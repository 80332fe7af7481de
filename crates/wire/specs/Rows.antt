-- What waits in rows of frames: only waiting frames take places, one each. Assumes nothing.
use Rattle.std.specs.Prelude.{ℕ, List, map, length}
use Rattle.offices.specs.LaneItems.{in_use}
use Rattle.queue.specs.Queues.{held}
use Rattle.queue.specs.declared.Queue.{Queue}
use Rattle.wire.specs.Wires.{WireLane}
use Rattle.wire.specs.declared.rows.Rows.{Rows}

-- a lane on which these frames wait
abbrev pub lane_of : List ℕ → WireLane
lane_of fs = record { frames = fs; places = length fs }

abbrev pub queue_lane : Queue ℕ → WireLane
queue_lane q = lane_of (held q)

-- the lanes of the offices
abbrev pub lanes_of : Rows → List WireLane
lanes_of r = map queue_lane (in_use r.queues)
