-- What a call comes to, and states with one part changed.
use Rattle.std.specs.Prelude.{ℕ, List, [], Ok, Err, Result, slice_index_or, slice_set}
use Rattle.lanes.specs.Lanes.{put_lanes, take_lanes}
use Rattle.lifetimes.specs.declared.policy.Event.{Event}
use Rattle.calls.specs.declared.refusal.Refusal.{Refusal}
use Rattle.rules.specs.State.{State, TablesState, CoreState, BankState, NetState}
use Rattle.rules.specs.Cores.{no_core}

-- what a call answers, the state after it, and what the policy was told, in this order
pub record Transition (A : Type 0) : Type 0 where
  pub answer : A
  pub after : State
  pub events : List Event

-- a refusal leaves everything as it was, and tells nothing
abbrev pub refused : {X : Type 0} → State → Refusal → Transition (Result X Refusal)
refused s e = record { answer = Err e; after = s; events = [] }

-- an answer, with nothing told
abbrev pub answered : {X : Type 0} → State → X → Transition (Result X Refusal)
answered s x = record { answer = Ok x; after = s; events = [] }

-- the same, answered in another form
abbrev pub with_answer : {A B : Type 0} → (A → B) → Transition A → Transition B
with_answer f t = record { answer = f t.answer; after = t.after; events = t.events }

abbrev pub with_tables : State → TablesState → State
with_tables s t = record { tables = t; requests = s.requests; answers = s.answers; memory = s.memory }

abbrev pub with_clock : TablesState → ℕ → TablesState
with_clock t n = record { clock = n; protocol = t.protocol; cores = t.cores; bank = t.bank }

abbrev pub with_bank : TablesState → BankState → TablesState
with_bank t b = record { clock = t.clock; protocol = t.protocol; cores = t.cores; bank = b }

abbrev pub core_at : TablesState → ℕ → CoreState
core_at t k = slice_index_or t.cores k no_core

abbrev pub with_core : TablesState → ℕ → CoreState → TablesState
with_core t k c = record { clock = t.clock; protocol = t.protocol; cores = slice_set t.cores k c; bank = t.bank }

-- the net with a message put on a lane
abbrev pub put_net : {X : Type 0} → NetState X → ℕ → X → NetState X
put_net n k x = record { lanes = put_lanes n.lanes n.depth k x; depth = n.depth }

-- the net without a lane's oldest message
abbrev pub take_net : {X : Type 0} → NetState X → ℕ → NetState X
take_net n k = record { lanes = take_lanes n.lanes k; depth = n.depth }
