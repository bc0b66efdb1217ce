use Rattle.std.proofs.Common.{◌≡◌, ℕ, length}
use Rattle.hops.specs.Hops.{hop_lanes, SameNets}
use Rattle.hops.proofs.hop.Hop.make_room.Given as goal

abbrev pub invariant-loop-self : goal.invariant-loop-self
invariant-loop-self g l = record {
  lanes : (j : ℕ) → hop_lanes g.F.LaneNet g.N.LaneNet l.self j ≡ hop_lanes g.F.LaneNet g.N.LaneNet l.initial.self j;
  same : SameNets g.F.LaneNet g.N.LaneNet l.initial.self l.self;
}

abbrev pub decreases-loop-self : goal.decreases-loop-self
decreases-loop-self g l = length (g.N.LaneNet.lanes l.self.near l.lane)
