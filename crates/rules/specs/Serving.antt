-- Serving a core's oldest request: its turn at the bank, and where its answer goes.
use Rattle.std.specs.Prelude.{ℕ, ◌+◌, ◌%◌, ◌^◌, max, Bool, false, true, cond, not, ◌&&◌, List, [], ◌∷◌, is_some, Some, None, Ok, Err, Option, Result}
use Rattle.memories.specs.Cells.{read_answer}
use Rattle.memories.specs.declared.memory.Fault.{Fault}
use Rattle.memories.specs.declared.memory.Fault.TheVariants as fault
use Rattle.lanes.specs.Lanes.{oldest}
use Rattle.lifetimes.specs.declared.policy.Event.{Event}
use Rattle.lifetimes.specs.declared.policy.Event.TheVariants.{LoadMetOver, WriteMetRunning}
use Rattle.messages.specs.declared.request.Request.{Request}
use Rattle.messages.specs.declared.request.Request.TheVariants as request
use Rattle.messages.specs.declared.answer.Answer.{Answer}
use Rattle.messages.specs.declared.answer.Answer.TheVariants as answer
use Rattle.messages.specs.Requests.{wave_of, address_of, writes}
use Rattle.calls.specs.declared.call.Protocol.{Protocol}
use Rattle.calls.specs.declared.call.Protocol.TheVariants.{Strong, Weak}
use Rattle.calls.specs.declared.refusal.Refusal.{Refusal}
use Rattle.calls.specs.declared.refusal.Refusal.TheVariants.{NothingWaits, LeaseRuns, BankFull}
use Rattle.rules.specs.declared.record.Line.{Line}
use Rattle.rules.specs.Stamps.{runs}
use Rattle.rules.specs.State.{State, TablesState, BankState}
use Rattle.rules.specs.Bank.{kept_stamp, line_of, live, no_room, stamp_of, waited_on, with_kept, with_line, with_mark}
use Rattle.rules.specs.Transitions.{Transition, with_tables, with_bank, put_net, take_net}
use Rattle.rules.specs.Checks.{checked, given, core_check, fault_cause, lane_check, memory_check}

-- what the bank answers, the bank after it, and what the policy is told
pub record Turn (A : Type 0) : Type 0 where
  pub answer : A
  pub bank : BankState
  pub events : List Event

-- nothing changes, and nothing is told
abbrev pub unchanged : {A : Type 0} → BankState → A → Turn A
unchanged b x = record { answer = x; bank = b; events = [] }

-- under TC-Strong a store or atomic waits for the lease to end
abbrev pub must_wait : Protocol → Request → Bool
must_wait Strong q = writes q
must_wait Weak q = false

-- a refusal by cause 7 marks the lane as waiting on the address
abbrev pub told_to_wait : BankState → ℕ → ℕ → Turn (Result Unit Refusal)
told_to_wait b lane a = record { answer = Err LeaseRuns; bank = with_mark b lane (Some a); events = [] }

-- the last checks of serving, 7 and 8, for a request whose address has this line, or none
abbrev pub admission : BankState → Protocol → ℕ → ℕ → Request → Option Line → Turn (Result Unit Refusal)
admission b p clock lane q line =
    cond (must_wait p q && runs (stamp_of b clock (address_of q) line) clock) (told_to_wait b lane (address_of q))
    (cond (no_room b line) (unchanged b (Err BankFull))
    (unchanged b (Ok tt)))

-- the word that a new line begins with: what a store writes, without a look at memory, else what
-- memory answers
abbrev pub first_word : Request → Result ℕ Fault → Result ℕ Fault
first_word (request.Load w a) word = word
first_word (request.Store w a x) word = Ok x
first_word (request.Add w a x) word = word
first_word (request.Exchange w a x) word = word

-- an unchanged line with the address's stamp
abbrev pub new_line : ℕ → Result ℕ Fault → Result Line Fault
new_line stamp (Ok w) = Ok (record { value = w; stamp = stamp; changed = false })
new_line stamp (Err e) = Err e

-- the line on which a request is served: its address's, or a new one
abbrev pub found_or_new : BankState → ℕ → ℕ → Result ℕ Fault → Option Line → Result Line Fault
found_or_new b clock a word (Some l) = Ok l
found_or_new b clock a word None = new_line (kept_stamp b clock a) word

-- where a line is new, the kept stamp of its address goes
abbrev pub unkept : BankState → ℕ → Option Line → BankState
unkept b a (Some l) = b
unkept b a None = with_kept b a 0

-- a load raises the stamp to clock plus lifetime, if that is larger, unless a lane waits on the address
abbrev pub leased : BankState → ℕ → ℕ → ℕ → ℕ
leased b until a stamp = cond (waited_on b a) stamp (max stamp until)

abbrev pub stamped : Line → ℕ → Line
stamped l t = record { value = l.value; stamp = t; changed = l.changed }

abbrev pub with_word : Line → ℕ → Line
with_word l v = record { value = v; stamp = l.stamp; changed = true }

-- met says that the line was there before the load
abbrev pub load_line : BankState → ℕ → ℕ → ℕ → ℕ → Bool → Line → Turn (Result Answer Fault)
load_line b clock until w a met l = record {
  answer = Ok (answer.Load w a l.value (leased b until a l.stamp));
  bank = with_line b a (Some (stamped l (leased b until a l.stamp)));
  events = cond (met && not (runs l.stamp clock)) (LoadMetOver ∷ []) [];
}

-- a store or atomic leaves the word v, and gives the answer made of the line's stamp, if that runs
abbrev pub write_line : BankState → ℕ → ℕ → ℕ → (ℕ → Answer) → Line → Turn (Result Answer Fault)
write_line b clock a v give l = record {
  answer = Ok (give (live l.stamp clock));
  bank = with_line b a (Some (with_word l v));
  events = cond (runs l.stamp clock) (WriteMetRunning ∷ []) [];
}

-- a request served on a line; life is the lifetime that the policy answered when it was asked. An add
-- works modulo 2^32; an atomic answers the old word
abbrev pub line_served : BankState → ℕ → ℕ → Bool → Line → Request → Turn (Result Answer Fault)
line_served b clock life met l (request.Load w a) = load_line b clock (clock + life) w a met l
line_served b clock life met l (request.Store w a x) = write_line b clock a x (answer.Store w a) l
line_served b clock life met l (request.Add w a x) = write_line b clock a ((l.value + x) % 2 ^ 32) (answer.Atomic w a l.value) l
line_served b clock life met l (request.Exchange w a x) = write_line b clock a x (answer.Atomic w a l.value) l

-- a fault changes nothing and tells nothing
abbrev pub served_on : BankState → ℕ → ℕ → Option Line → Request → Result Line Fault → Turn (Result Answer Fault)
served_on b clock life line q (Ok l) = line_served (unkept b (address_of q) line) clock life (is_some line) l q
served_on b clock life line q (Err e) = unchanged b (Err e)

-- the bank serves a request whose address has a line, or none; word is what memory answers at its address
abbrev pub served : BankState → ℕ → ℕ → Result ℕ Fault → Request → Option Line → Turn (Result Answer Fault)
served b clock life word q line = served_on b clock life line q (found_or_new b clock (address_of q) (first_word q word) line)

-- a fault travels on as an answer; an address past the memory is refused
abbrev pub carried : Request → Result Answer Fault → Result Answer Refusal
carried q (Ok a) = Ok a
carried q (Err (fault.Unreadable b)) = Ok (answer.Fault (wave_of q) (address_of q) b)
carried q (Err fault.UnknownAddress) = Err (fault_cause (address_of q) fault.UnknownAddress)

abbrev pub carried_turn : BankState → Request → Turn (Result Answer Fault) → Result Answer Refusal → Turn (Result Answer Refusal)
carried_turn b q t (Ok a) = record { answer = Ok a; bank = t.bank; events = t.events }
carried_turn b q t (Err e) = unchanged b (Err e)

abbrev pub admitted_turn : BankState → ℕ → ℕ → Result ℕ Fault → Request → Option Line → Result Unit Refusal → Turn (Result Answer Refusal)
admitted_turn b clock life word q line (Ok _) =
    carried_turn b q (served b clock life word q line) (carried q (served b clock life word q line).answer)
admitted_turn b clock life word q line (Err e) = unchanged b (Err e)

-- a request's turn: the last checks, and then serving
abbrev pub turn_on : BankState → Protocol → ℕ → ℕ → Result ℕ Fault → ℕ → Request → Option Line → Turn (Result Answer Refusal)
turn_on b p clock life word lane q line =
    admitted_turn (admission b p clock lane q line).bank clock life word q line (admission b p clock lane q line).answer

abbrev pub turn_at : TablesState → ℕ → Result ℕ Fault → ℕ → Request → Turn (Result Answer Refusal)
turn_at t life word core q = turn_on t.bank t.protocol t.clock life word core q (line_of t.bank (address_of q))

-- the request leaves its lane, its answer joins the answer lane, and the lane waits no more
abbrev pub with_served : State → ℕ → BankState → Answer → State
with_served s core b a = record {
  tables = with_bank s.tables (with_mark b core None);
  requests = take_net s.requests core;
  answers = put_net s.answers core a;
  memory = s.memory;
}

abbrev pub turn_ended : State → ℕ → BankState → List Event → Result Answer Refusal → Transition (Result Unit Refusal)
turn_ended s core b es (Ok a) = record { answer = Ok tt; after = with_served s core b a; events = es }
turn_ended s core b es (Err e) = record { answer = Err e; after = with_tables s (with_bank s.tables b); events = es }

abbrev pub turn_out : State → ℕ → Turn (Result Answer Refusal) → Transition (Result Unit Refusal)
turn_out s core t = turn_ended s core t.bank t.events t.answer

-- the turn of a core's request: checks 7, 8
abbrev pub turn_step : State → ℕ → ℕ → Request → Transition (Result Unit Refusal)
turn_step s life core q =
    turn_out s core (turn_at s.tables life (read_answer s.memory.size s.memory.cell (address_of q)) core q)

-- serving: checks 1, 6, 5 for the answer lane, 7, 8; life is what the policy answers before it is told.
-- (2 is for totality: no request of a started machine is past the memory)
abbrev pub serve_step : State → ℕ → ℕ → Transition (Result Unit Refusal)
serve_step s life core =
    checked s (core_check s.tables core)
    (given s (oldest (s.requests.lanes core)) NothingWaits (λ q.
    checked s (memory_check s.memory (address_of q))
    (checked s (lane_check s.answers core)
    (turn_step s life core q))))
