-- What a request's turn at the bank comes to: the contract of the functions that serve.
use Rattle.std.specs.Prelude.{◌≡◌, ℕ, Result}
use Rattle.memories.specs.declared.memory.Memory as memory
use Rattle.memories.specs.declared.memory.Fault.{Fault}
use Rattle.memories.specs.Cells.{read_answer}
use Rattle.lifetimes.specs.declared.policy.LifetimePolicy as policy
use Rattle.lifetimes.specs.Told.{Told}
use Rattle.rules.specs.State.{BankState}
use Rattle.rules.specs.Serving.{Turn}

-- what a memory answers at an address
abbrev pub memory_word : {M : Type 0} → memory.Ghosts M → M → ℕ → Result ℕ Fault
memory_word m s a = read_answer (m.size s) (m.cell s) a

-- the answer x and the bank b are the turn's, and the policy s was told what the turn tells, and became t
pub record ComesTo {P A : Type 0} (p : policy.Ghosts P) (turn : Turn A) (x : A) (b : BankState) (s t : P) : Type 0 where
  pub answer : x ≡ turn.answer
  pub bank : b ≡ turn.bank
  pub told : Told p.heard s turn.events t
