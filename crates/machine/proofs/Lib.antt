pub mod LaneTests
