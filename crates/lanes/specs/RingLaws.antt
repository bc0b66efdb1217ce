-- What each lane net owes, of a ring.
use Rattle.std.specs.Prelude.{◌≡◌, ℕ, ◌*◌, ◌≤◌, List, [], length}
use Rattle.std.proofs.Common.{arith}
use Rattle.std.proofs.lemmas.Bool.{le-leb}
use Rattle.sizes.specs.declared.TheConstants.{LANES, LANE_DEPTH}
use Rattle.lanes.specs.declared.ring.Ring.{Ring}
use Rattle.lanes.specs.declared.ring.Track.{Track}
use Rattle.lanes.specs.Rings.{lanes_at, ring_depth, ring_lanes}

pub ring_shallow : {A : Type 0} (s : Ring A) → ring_depth s ≤ LANE_DEPTH
ring_shallow s = omega (arith, s.sized)

-- the lanes lie in the row
pub ring_fits : {A : Type 0} (s : Ring A) → LANES * ring_depth s ≤ length s.row.now
ring_fits s = omega (arith, s.sized)

pub none_above :
    {A : Type 0} (row : List A) (d : ℕ) (tracks : List Track) (k : ℕ) → LANES ≤ k → lanes_at row d tracks k ≡ []
none_above row d tracks k h = rw (le-leb LANES k h)

pub ring_bare : {A : Type 0} (s : Ring A) (k : ℕ) → LANES ≤ k → ring_lanes s k ≡ []
ring_bare s = none_above s.row.now (ring_depth s) s.tracks
