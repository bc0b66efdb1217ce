-- Evicting a line.
use Rattle.std.specs.Prelude.{ℕ, Bool, cond, ◌&&◌, List, [], ◌∷◌, count_by, map, None, Ok, Result, nat_le, slice_set}
use Rattle.std.specs.Result.{result_map_both}
use Rattle.sizes.specs.declared.TheConstants.{KEPT_STAMPS}
use Rattle.memories.specs.Cells.{Cell, write_answer, write_cells}
use Rattle.lifetimes.specs.declared.policy.Event.{Event}
use Rattle.lifetimes.specs.declared.policy.Event.TheVariants.{LeftRunning}
use Rattle.calls.specs.declared.refusal.Refusal.{Refusal}
use Rattle.calls.specs.declared.refusal.Refusal.TheVariants.{NoLine, KeptFull}
use Rattle.rules.specs.declared.record.Line.{Line}
use Rattle.rules.specs.Stamps.{runs}
use Rattle.rules.specs.State.{State, BankState, MemoryState}
use Rattle.rules.specs.Bank.{line_of, kept_count, live}
use Rattle.rules.specs.Transitions.{Transition, with_bank}
use Rattle.rules.specs.Checks.{checked, given, first_cause, fault_cause, memory_check}

-- how many kept stamps run; the others count as gone
abbrev pub kept_running : BankState → ℕ → ℕ
kept_running b clock = count_by (λ t. runs t clock) b.kept

-- cause 10 comes exactly if the line's stamp runs and 128 kept stamps run
abbrev pub kept_full : BankState → ℕ → Line → Bool
kept_full b clock l = runs l.stamp clock && nat_le KEPT_STAMPS (kept_running b clock)

-- where 128 stamps are kept, those that are over go, so that their places are used again
abbrev pub kept_swept : BankState → ℕ → List ℕ
kept_swept b clock = cond (nat_le KEPT_STAMPS (kept_count b)) (map (λ t. live t clock) b.kept) b.kept

-- a running stamp is kept, and the line goes
abbrev pub bank_without : BankState → ℕ → ℕ → Line → BankState
bank_without b clock a l = record { lines = slice_set b.lines a None; kept = slice_set (kept_swept b clock) a (live l.stamp clock); waiting = b.waiting }

-- a line left with a running stamp
abbrev pub left_events : ℕ → Line → List Event
left_events clock l = cond (runs l.stamp clock) (LeftRunning ∷ []) []

-- cause 11, with block and address, for a changed line, which is written to memory; an unchanged one is not
abbrev pub write_back_check : MemoryState → ℕ → Line → Result Unit Refusal
write_back_check m a l = cond l.changed (result_map_both (λ x. x) (fault_cause a) (write_answer m.size m.cell a)) (Ok tt)

abbrev pub cells_after : MemoryState → ℕ → Line → ℕ → Cell
cells_after m a l k = cond l.changed (write_cells m.size m.cell a l.value k) (m.cell k)

abbrev pub without_line : State → ℕ → Line → State
without_line s a l = record {
  tables = with_bank s.tables (bank_without s.tables.bank s.tables.clock a l);
  requests = s.requests;
  answers = s.answers;
  memory = record { size = s.memory.size; cell = cells_after s.memory a l };
}

-- evicting: checks 2, 9, 10, 11
abbrev pub evict_step : State → ℕ → Transition (Result Unit Refusal)
evict_step s a =
    checked s (memory_check s.memory a)
    (given s (line_of s.tables.bank a) NoLine (λ l.
    checked s (first_cause ((kept_full s.tables.bank s.tables.clock l, KeptFull) ∷ []))
    (checked s (write_back_check s.memory a l)
    (record { answer = Ok tt; after = without_line s a l; events = left_events s.tables.clock l }))))
