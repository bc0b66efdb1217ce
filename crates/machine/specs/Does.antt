-- What a call of the machine does: the contract of every call.
use Rattle.std.specs.Prelude.{◌≡◌}
use Rattle.lanes.specs.declared.net.LaneNet as net
use Rattle.memories.specs.declared.memory.Memory as memory
use Rattle.lifetimes.specs.declared.policy.LifetimePolicy as policy
use Rattle.lifetimes.specs.Told.{Told}
use Rattle.messages.specs.declared.request.Request.{Request}
use Rattle.messages.specs.declared.answer.Answer.{Answer}
use Rattle.machine.specs.declared.machine.Machine.{Machine}
use Rattle.machine.specs.View.{SameLoans, view}
use Rattle.rules.specs.Transitions.{Transition}
use Rattle.rules.specs.State.{State}

module _ {Q R M P : Type 0} (q : net.Ghosts Q Request) (r : net.Ghosts R Answer) (m : memory.Ghosts M) (p : policy.Ghosts P) where
  -- from machine s to machine t, a call answers x, leaves and tells what its step says
  pub record Does {A : Type 0} (step : State → Transition A) (s : Machine Q R M P) (x : A) (t : Machine Q R M P) : Type 0 where
    pub answer : x ≡ (step (view q r m s)).answer
    pub after : view q r m t ≡ (step (view q r m s)).after
    pub told : Told p.heard s.policy (step (view q r m s)).events t.policy
    -- and the nets and the memory keep what they were lent
    pub lent : SameLoans q r m s t
