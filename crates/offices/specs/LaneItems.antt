-- The items of the lanes that a table is for. Assumes nothing.
use Rattle.std.specs.Prelude.{◌*◌, List, take}
use Rattle.offices.specs.declared.lane_items.LaneItems.{LaneItems}

-- Two lanes for each office; there is room for more.
abbrev pub in_use : {T : Type 0} → LaneItems T → List T
in_use t = take (2 * t.offices.number) t.items
