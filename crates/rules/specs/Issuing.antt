-- What a core does by itself: issuing loads, stores and atomics, and forgetting a copy.
use Rattle.std.specs.Prelude.{ℕ, Bool, [], ◌∷◌, length, Some, None, Option, Result, nat_le}
use Rattle.sizes.specs.declared.TheConstants.{PENDING_REQUESTS}
use Rattle.messages.specs.declared.request.Request.{Request}
use Rattle.messages.specs.declared.request.Request.TheVariants as request
use Rattle.calls.specs.declared.refusal.Refusal.{Refusal}
use Rattle.calls.specs.declared.refusal.Refusal.TheVariants.{UnknownCore, UnknownAddress, FenceOpen, PendingFull}
use Rattle.rules.specs.State.{State, TablesState}
use Rattle.rules.specs.Cores.{hit, issued, fenced, holds, copy_at, dropped}
use Rattle.rules.specs.Transitions.{Transition, answered, with_tables, core_at, with_core, put_net}
use Rattle.rules.specs.Checks.{checked, first_cause, core_check, memory_check, lane_check, unknown_wave}

-- the checks of issuing before the hit: 1, 2, 3
abbrev pub issue_check : TablesState → ℕ → ℕ → ℕ → ℕ → Result Unit Refusal
issue_check t size core wave a = first_cause
    ((unknown_wave t core wave, UnknownCore)
    ∷ (nat_le size a, UnknownAddress)
    ∷ (fenced (core_at t core) wave, FenceOpen)
    ∷ [])

-- cause 4
abbrev pub pending_check : TablesState → ℕ → Result Unit Refusal
pending_check t core = first_cause ((nat_le PENDING_REQUESTS (length (core_at t core).pending), PendingFull) ∷ [])

-- the request is put and noted
abbrev pub with_request : State → ℕ → Request → State
with_request s core q = record {
  tables = with_core s.tables core (issued (core_at s.tables core) q);
  requests = put_net s.requests core q;
  answers = s.answers;
  memory = s.memory;
}

-- sending: checks 4, 5
abbrev pub send_step : {X : Type 0} → State → ℕ → Request → X → Transition (Result X Refusal)
send_step s core q x =
    checked s (pending_check s.tables core)
    (checked s (lane_check s.requests core)
    (answered (with_request s core q) x))

-- a running copy answers its value; otherwise a request is sent, and no value is answered
abbrev pub hit_or_send : State → ℕ → Request → Option ℕ → Transition (Result (Option ℕ) Refusal)
hit_or_send s core q (Some v) = answered s (Some v)
hit_or_send s core q None = send_step s core q None

-- a load: checks 1, 2, 3, the hit, 4, 5
abbrev pub load_step : State → ℕ → ℕ → ℕ → Transition (Result (Option ℕ) Refusal)
load_step s core wave a =
    checked s (issue_check s.tables s.memory.size core wave a)
    (hit_or_send s core (request.Load wave a) (hit (core_at s.tables core) s.tables.clock a))

-- a store or atomic of a wave on an address: checks 1, 2, 3, 4, 5
abbrev pub write_step : State → ℕ → ℕ → ℕ → Request → Transition (Result Unit Refusal)
write_step s core wave a q = checked s (issue_check s.tables s.memory.size core wave a) (send_step s core q tt)

abbrev pub store_step : State → ℕ → ℕ → ℕ → ℕ → Transition (Result Unit Refusal)
store_step s core wave a x = write_step s core wave a (request.Store wave a x)

abbrev pub add_step : State → ℕ → ℕ → ℕ → ℕ → Transition (Result Unit Refusal)
add_step s core wave a x = write_step s core wave a (request.Add wave a x)

abbrev pub exchange_step : State → ℕ → ℕ → ℕ → ℕ → Transition (Result Unit Refusal)
exchange_step s core wave a x = write_step s core wave a (request.Exchange wave a x)

-- forgetting: checks 1, 2; drops a copy, running or not, and says whether there was one
abbrev pub forget_step : State → ℕ → ℕ → Transition (Result Bool Refusal)
forget_step s core a =
    checked s (core_check s.tables core)
    (checked s (memory_check s.memory a)
    (answered (with_tables s (with_core s.tables core (dropped (core_at s.tables core) a))) (holds (copy_at (core_at s.tables core) a) a)))
