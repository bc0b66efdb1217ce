-- What each lane net owes, of packed lanes.
use Rattle.std.specs.Prelude.{◌≡◌, ℕ, ◌≤◌, []}
use Rattle.std.proofs.Common.{lit≤}
use Rattle.std.proofs.lemmas.Bool.{le-leb}
use Rattle.sizes.specs.declared.TheConstants.{LANES, LANE_DEPTH}
use Rattle.messages.specs.declared.form.FiveWords as form
use Rattle.packs.specs.declared.packed.Packed.{Packed}
use Rattle.packs.specs.Packs.{pack_depth, pack_lanes}

pub pack_shallow : pack_depth ≤ LANE_DEPTH
pack_shallow = lit≤ tt

pub pack_bare : {A : Type 0} (f : form.Ghosts A) (s : Packed A) (k : ℕ) → LANES ≤ k → pack_lanes f s k ≡ []
pack_bare f s k h = rw (le-leb LANES k h)
