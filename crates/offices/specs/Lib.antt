pub mod OfficeCounts
pub mod LaneItems
pub mod InUse
