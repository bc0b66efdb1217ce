-- A core's tables as the rule book has them.
use Rattle.std.specs.Prelude.{◌≡◌, ◌<◌, ◌≤◌, All, length, map}
use Rattle.std.specs.VecDeque.{deque_capacity, deque_len}
use Rattle.sizes.specs.declared.TheConstants.{COPY_PLACES, PENDING_REQUESTS, WAVES}
use Rattle.messages.specs.Requests.{wave_of}
use Rattle.rules.specs.State.{CoreState}
use Rattle.cores.specs.declared.core_table.Wave.{Wave}
use Rattle.cores.specs.declared.core_table.Core.TheInside.{Inside as CoreTables}

abbrev pub core_state : CoreTables → CoreState
core_state c = record {
  copies = c.copies;
  pending = c.pending.items;
  visible = map (λ (w : Wave). w.visible) c.waves;
  fences = map (λ (w : Wave). w.fenced) c.waves;
}

-- the bounds of a core's tables, which every call keeps
pub record CoreInBounds (c : CoreTables) : Type 0 where
  pub reserved : PENDING_REQUESTS ≤ deque_capacity c.pending
  pub pending : deque_len c.pending ≤ PENDING_REQUESTS
  pub copies : length c.copies ≡ COPY_PLACES
  pub waves : length c.waves ≡ WAVES
  -- each pending request is of one of the waves
  pub known : All (λ q. wave_of q < WAVES) c.pending.items
