-- A machine as the rule book has it, by the meanings of its nets and its memory.
use Rattle.std.specs.Prelude.{◌≡◌}
use Rattle.lanes.specs.declared.net.LaneNet as net
use Rattle.memories.specs.declared.memory.Memory as memory
use Rattle.messages.specs.declared.request.Request.{Request}
use Rattle.messages.specs.declared.answer.Answer.{Answer}
use Rattle.machine.specs.declared.machine.Machine.{Machine}
use Rattle.rules.specs.State.{State, NetState, MemoryState}

abbrev pub net_state : {N X : Type 0} → net.Ghosts N X → N → NetState X
net_state g n = record { lanes = g.lanes n; depth = g.depth n }

abbrev pub memory_state : {M : Type 0} → memory.Ghosts M → M → MemoryState
memory_state g m = record { size = g.size m; cell = g.cell m }

abbrev pub view : {Q R M P : Type 0} → net.Ghosts Q Request → net.Ghosts R Answer → memory.Ghosts M → Machine Q R M P → State
view q r m s = record {
  tables = s.tables;
  requests = net_state q s.requests;
  answers = net_state r s.answers;
  memory = memory_state m s.memory;
}

-- the nets and the memory of one machine hold the loans of those of the other
pub record SameLoans {Q R M P : Type 0} (q : net.Ghosts Q Request) (r : net.Ghosts R Answer) (m : memory.Ghosts M) (s t : Machine Q R M P) : Type 0 where
  pub requests : q.loan t.requests ≡ q.loan s.requests
  pub answers : r.loan t.answers ≡ r.loan s.answers
  pub memory : m.loan t.memory ≡ m.loan s.memory
