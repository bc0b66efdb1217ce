-- What may be relied on of when a stamp runs.
use Rattle.std.specs.Prelude.{◌≡◌, ℕ, ◌+◌, ◌≤◌, true, false}
use Rattle.rules.specs.Stamps.{runs}

-- whatever the definition's choice of a lease's last tick
pub record StampLaws : Type 0 where
  -- a stamp that runs ran a tick before
  pub before : (stamp clock : ℕ) → runs stamp (clock + 1) ≡ true → runs stamp clock ≡ true
  -- a larger stamp runs as long
  pub more : (stamp larger clock : ℕ) → stamp ≤ larger → runs stamp clock ≡ true → runs larger clock ≡ true
  -- a stamp that runs bounds the clock
  pub bound : (stamp clock : ℕ) → runs stamp clock ≡ true → clock ≤ stamp
  -- stamp 0 never runs
  pub never : (clock : ℕ) → 1 ≤ clock → runs 0 clock ≡ false

-- the definition's choice: a stamp runs on its own tick, which is the last good one
abbrev pub RunsOnItsTick : Type 0
RunsOnItsTick = (stamp : ℕ) → runs stamp stamp ≡ true
