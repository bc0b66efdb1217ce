-- Delivering a core's oldest answer.
use Rattle.std.specs.Prelude.{ℕ, Result}
use Rattle.lanes.specs.Lanes.{oldest}
use Rattle.messages.specs.declared.request.Request.{Request}
use Rattle.messages.specs.declared.answer.Answer.{Answer}
use Rattle.calls.specs.declared.refusal.Refusal.{Refusal}
use Rattle.calls.specs.declared.refusal.Refusal.TheVariants.{NothingWaits}
use Rattle.calls.specs.declared.outcome.Delivered.{Delivered}
use Rattle.rules.specs.State.{State, TablesState}
use Rattle.rules.specs.Cores.{took, handed, delivery}
use Rattle.rules.specs.Transitions.{Transition, answered, core_at, with_core, take_net}
use Rattle.rules.specs.Checks.{checked, given, core_check}

-- the oldest pending request goes, and the answer to it does its work
abbrev pub handed_at : TablesState → ℕ → Request → Answer → TablesState
handed_at t core q a = with_core t core (handed (took (core_at t core)) t.clock q a)

-- the answer leaves its lane, and is handed to the core
abbrev pub with_delivery : State → ℕ → Request → Answer → State
with_delivery s core q a = record {
  tables = handed_at s.tables core q a;
  requests = s.requests;
  answers = take_net s.answers core;
  memory = s.memory;
}

-- delivering: checks 1, then 6 without an answer or a pending request
abbrev pub deliver_step : State → ℕ → Transition (Result Delivered Refusal)
deliver_step s core =
    checked s (core_check s.tables core)
    (given s (oldest (s.answers.lanes core)) NothingWaits (λ a.
    given s (oldest (core_at s.tables core).pending) NothingWaits (λ q.
    answered (with_delivery s core q a) (delivery q a))))
