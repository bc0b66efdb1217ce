-- Two nets, one behind the other.
use Rattle.std.specs.Prelude.{◌≡◌, ℕ, ◌+◌, min, List, ◌++◌}
use Rattle.sizes.specs.declared.TheConstants.{LANE_DEPTH}
use Rattle.hops.specs.declared.hop.Hop.{Hop}
use Rattle.lanes.specs.declared.net.LaneNet as net

module _ {F N A : Type 0} (f : net.Ghosts F A) (n : net.Ghosts N A) where
  -- the far list, then the near list
  abbrev pub hop_lanes : Hop F N → ℕ → List A
  hop_lanes s k = f.lanes s.far k ++ n.lanes s.near k

  -- the depths of both nets, added, at most LANE_DEPTH
  abbrev pub hop_depth : Hop F N → ℕ
  hop_depth s = min (f.depth s.far + n.depth s.near) LANE_DEPTH

  -- what both nets were lent
  abbrev pub hop_loan : Hop F N → f.Loan × n.Loan
  hop_loan s = (f.loan s.far, n.loan s.near)

  -- both nets keep their depths and what they were lent
  pub record SameNets (s t : Hop F N) : Type 0 where
    pub far : f.depth t.far ≡ f.depth s.far
    pub near : n.depth t.near ≡ n.depth s.near
    pub lent : hop_loan t ≡ hop_loan s
