-- Making and starting a machine, and the clock.
use Rattle.std.specs.Prelude.{ℕ, zero, suc, ◌+◌, Bool, true, not, ◌&&◌, List, [], ◌∷◌, length, replicate, Result, ◌==◌, nat_le}
use Rattle.sizes.specs.declared.TheConstants.{LANES, LAST_TICK}
use Rattle.calls.specs.declared.call.Protocol.{Protocol}
use Rattle.calls.specs.declared.call.Protocol.TheVariants.{Strong}
use Rattle.calls.specs.declared.refusal.Refusal.{Refusal}
use Rattle.calls.specs.declared.refusal.Refusal.TheVariants.{CannotStart, ClockAtEnd}
use Rattle.rules.specs.State.{State, TablesState, NetState}
use Rattle.rules.specs.Cores.{fresh_core}
use Rattle.rules.specs.Bank.{fresh_bank}
use Rattle.rules.specs.Transitions.{Transition, answered, with_tables, with_clock}
use Rattle.rules.specs.Checks.{checked, first_cause}

-- the tables of a machine just made
abbrev pub fresh_tables : TablesState
fresh_tables = record { clock = 1; protocol = Strong; cores = []; bank = fresh_bank }

-- whether the lanes below k are empty
unfoldable pub lanes_empty : {X : Type 0} → (ℕ → List X) → ℕ → Bool
lanes_empty f zero = true
lanes_empty f (suc k) = lanes_empty f k && length (f k) == 0

-- a net is ready if it is empty and takes messages
abbrev pub ready : {X : Type 0} → NetState X → Bool
ready n = nat_le 1 n.depth && lanes_empty n.lanes LANES

-- start needs 1 to 16 cores, a machine not yet started, and both nets ready
abbrev pub can_start : State → ℕ → Bool
can_start s n = (nat_le 1 n && nat_le n LANES) && (length s.tables.cores == 0 && (ready s.requests && ready s.answers))

-- start fixes the protocol and sets the clock to 1; the bank is as in a machine just made
abbrev pub started : ℕ → Protocol → TablesState
started n p = record { clock = 1; protocol = p; cores = replicate n fresh_core; bank = fresh_bank }

-- starting: check 15
abbrev pub start_step : State → ℕ → Protocol → Transition (Result Unit Refusal)
start_step s n p =
    checked s (first_cause ((not (can_start s n), CannotStart) ∷ []))
    (answered (with_tables s (started n p)) tt)

-- a tick adds 1 to the clock: check 12
abbrev pub tick_step : State → Transition (Result ℕ Refusal)
tick_step s =
    checked s (first_cause ((nat_le LAST_TICK s.tables.clock, ClockAtEnd) ∷ []))
    (answered (with_tables s (with_clock s.tables (s.tables.clock + 1))) (s.tables.clock + 1))
