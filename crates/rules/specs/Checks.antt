-- The checks of the calls, and the causes for which they refuse. A step names its checks in their order.
use Rattle.std.specs.Prelude.{ℕ, Bool, cond, ◌||◌, List, [], ◌∷◌, length, Some, None, Ok, Err, Option, Result, nat_le}
use Rattle.std.specs.Result.{result_map_both}
use Rattle.sizes.specs.declared.TheConstants.{WAVES}
use Rattle.lanes.specs.declared.net.LaneError.{LaneError}
use Rattle.lanes.specs.declared.net.LaneError.TheVariants as lane
use Rattle.lanes.specs.Lanes.{put_answer}
use Rattle.memories.specs.declared.memory.Fault.{Fault}
use Rattle.memories.specs.declared.memory.Fault.TheVariants as fault
use Rattle.memories.specs.Cells.{known}
use Rattle.calls.specs.declared.refusal.Refusal.{Refusal}
use Rattle.calls.specs.declared.refusal.Refusal.TheVariants.{UnknownCore, UnknownAddress, LaneFull, Unreadable}
use Rattle.rules.specs.State.{State, TablesState, NetState, MemoryState}
use Rattle.rules.specs.Transitions.{Transition, refused}

-- of some tests, each with its cause, the first that holds refuses
abbrev pub first_cause : List (Bool × Refusal) → Result Unit Refusal
first_cause [] = Ok tt
first_cause (t ∷ ts) = cond t.0 (Err t.1) (first_cause ts)

-- refused by a check, or what comes behind it
abbrev pub checked : {X : Type 0} → State → Result Unit Refusal → Transition (Result X Refusal) → Transition (Result X Refusal)
checked s (Ok _) behind = behind
checked s (Err e) behind = refused s e

-- refused where there is none, or what comes of the one that is there
abbrev pub given : {A X : Type 0} → State → Option A → Refusal → (A → Transition (Result X Refusal)) → Transition (Result X Refusal)
given s (Some x) cause behind = behind x
given s None cause behind = refused s cause

-- the cause for which a net takes no message
abbrev pub lane_cause : LaneError → Refusal
lane_cause lane.UnknownLane = UnknownCore
lane_cause lane.LaneFull = LaneFull

-- the cause for which a memory neither reads nor writes at an address
abbrev pub fault_cause : ℕ → Fault → Refusal
fault_cause a fault.UnknownAddress = UnknownAddress
fault_cause a (fault.Unreadable b) = Unreadable b a

-- cause 1, for the number of a core
abbrev pub core_check : TablesState → ℕ → Result Unit Refusal
core_check t core = first_cause ((nat_le (length t.cores) core, UnknownCore) ∷ [])

-- whether there is no such core, or no such wave of it
abbrev pub unknown_wave : TablesState → ℕ → ℕ → Bool
unknown_wave t core wave = nat_le (length t.cores) core || nat_le WAVES wave

-- cause 2
abbrev pub memory_check : MemoryState → ℕ → Result Unit Refusal
memory_check m a = result_map_both (λ x. x) (fault_cause a) (known m.size a)

-- cause 5, for a message that is to join a lane; and cause 1 above the last lane, where no core is
abbrev pub lane_check : {X : Type 0} → NetState X → ℕ → Result Unit Refusal
lane_check n k = result_map_both (λ x. x) lane_cause (put_answer n.lanes n.depth k)
