-- A call as a value: what it comes to, and the state after it.
use Rattle.std.specs.Prelude.{ℕ, Bool, true, false, Some, None, Ok, Err, Option, Result}
use Rattle.calls.specs.declared.refusal.Refusal.{Refusal}
use Rattle.calls.specs.declared.call.Call.{Call}
use Rattle.calls.specs.declared.call.Call.TheVariants.{Start, Load, Store, Add, Exchange, Serve, Deliver, Tick, Evict, Forget}
use Rattle.calls.specs.declared.outcome.Delivered.{Delivered}
use Rattle.calls.specs.declared.outcome.Outcome.{Outcome}
use Rattle.calls.specs.declared.outcome.Outcome.TheVariants as outcome
use Rattle.rules.specs.State.{State}
use Rattle.rules.specs.Transitions.{Transition, with_answer}
use Rattle.rules.specs.Starting.{start_step, tick_step}
use Rattle.rules.specs.Issuing.{load_step, store_step, add_step, exchange_step, forget_step}
use Rattle.rules.specs.Serving.{serve_step}
use Rattle.rules.specs.Delivering.{deliver_step}
use Rattle.rules.specs.Evicting.{evict_step}

-- a refusal is an outcome too
abbrev pub outcome_of : Result Outcome Refusal → Outcome
outcome_of (Ok o) = o
outcome_of (Err e) = outcome.Refused e

abbrev pub started_outcome : Result Unit Refusal → Outcome
started_outcome (Ok _) = outcome.Started
started_outcome (Err e) = outcome.Refused e

-- a value is a hit, none says that a request was sent; the address is the call's
abbrev pub loaded_outcome : ℕ → Result (Option ℕ) Refusal → Outcome
loaded_outcome a (Ok (Some v)) = outcome.Hit a v
loaded_outcome a (Ok None) = outcome.Sent
loaded_outcome a (Err e) = outcome.Refused e

-- a request was sent: of a store, an add or an exchange
abbrev pub sent_outcome : Result Unit Refusal → Outcome
sent_outcome (Ok _) = outcome.Sent
sent_outcome (Err e) = outcome.Refused e

abbrev pub served_outcome : Result Unit Refusal → Outcome
served_outcome (Ok _) = outcome.Served
served_outcome (Err e) = outcome.Refused e

abbrev pub delivered_outcome : Result Delivered Refusal → Outcome
delivered_outcome (Ok d) = outcome.Delivered d
delivered_outcome (Err e) = outcome.Refused e

abbrev pub ticked_outcome : Result ℕ Refusal → Outcome
ticked_outcome (Ok t) = outcome.Ticked t
ticked_outcome (Err e) = outcome.Refused e

abbrev pub evicted_outcome : Result Unit Refusal → Outcome
evicted_outcome (Ok _) = outcome.Evicted
evicted_outcome (Err e) = outcome.Refused e

-- whether there was a copy
abbrev pub forgotten_outcome : Result Bool Refusal → Outcome
forgotten_outcome (Ok true) = outcome.Forgotten
forgotten_outcome (Ok false) = outcome.NoCopy
forgotten_outcome (Err e) = outcome.Refused e

-- the step of each call
abbrev pub make_step : State → ℕ → Call → Transition Outcome
make_step s life (Start n p) = with_answer started_outcome (start_step s n p)
make_step s life (Load core wave a) = with_answer (loaded_outcome a) (load_step s core wave a)
make_step s life (Store core wave a x) = with_answer sent_outcome (store_step s core wave a x)
make_step s life (Add core wave a x) = with_answer sent_outcome (add_step s core wave a x)
make_step s life (Exchange core wave a x) = with_answer sent_outcome (exchange_step s core wave a x)
make_step s life (Serve core) = with_answer served_outcome (serve_step s life core)
make_step s life (Deliver core) = with_answer delivered_outcome (deliver_step s core)
make_step s life Tick = with_answer ticked_outcome (tick_step s)
make_step s life (Evict a) = with_answer evicted_outcome (evict_step s a)
make_step s life (Forget core a) = with_answer forgotten_outcome (forget_step s core a)
