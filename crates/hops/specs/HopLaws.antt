-- What each lane net owes, of a hop.
use Rattle.std.specs.Prelude.{◌≡◌, ℕ, ◌≤◌, List, []}
use Rattle.std.proofs.Common.{arith}
use Rattle.sizes.specs.declared.TheConstants.{LANES, LANE_DEPTH}
use Rattle.hops.specs.declared.hop.Hop.{Hop}
use Rattle.hops.specs.Hops.{hop_depth, hop_lanes}
use Rattle.lanes.specs.declared.net.LaneNet as net

module _ {F N A : Type 0} (f : net.Ghosts F A) (n : net.Ghosts N A) where
  pub hop_shallow : (s : Hop F N) → hop_depth f n s ≤ LANE_DEPTH
  hop_shallow s = omega arith

  pub hop_bare :
      ((s : F) (k : ℕ) → LANES ≤ k → f.lanes s k ≡ []) → ((s : N) (k : ℕ) → LANES ≤ k → n.lanes s k ≡ []) →
      (s : Hop F N) (k : ℕ) → LANES ≤ k → hop_lanes f n s k ≡ []
  hop_bare far near s k h = rw (far s.far k h, near s.near k h)
