use Rattle.std.proofs.Common.{◌≡◌, replicate, rules}
use Rattle.post.specs.Lanes.{no_lane}
use Rattle.post.specs.Tables.{lanes_of}
use Rattle.post.specs.Shown.{part_new}
use Rattle.post.proofs.lane_table.LaneTable.new.Goals as goal

pub returns-clause-part : goal.returns-clause-part
returns-clause-part c =
    let whole : lanes_of c.new-lanes.result ≡ replicate 128 no_lane = search rules in
    λ k few. part_new (lanes_of c.new-lanes.result) k whole few
