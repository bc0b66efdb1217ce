-- The worked cases, in one table.
use Rattle.images.specs.ZeroBlocks.{ZeroBlocks}
use Rattle.lifetimes.specs.Learned.{LearnerCases}
use Rattle.rules.specs.TickCases.{TickCases}

pub record WorkedCases : Type 0 where
  -- leases, waits, hits, fences and kept stamps, tick by tick
  pub ticks : TickCases
  -- how blocks of zero words end
  pub blocks : ZeroBlocks
  -- where a learner stands after events
  pub learner : LearnerCases
