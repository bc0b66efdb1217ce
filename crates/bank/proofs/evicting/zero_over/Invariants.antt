use Rattle.std.proofs.Common.{◌≡◌, ℕ, ◌<◌, ◌≤◌, get_or}
use Rattle.rules.specs.Bank.{live}
use Rattle.bank.proofs.evicting.zero_over.Given as goal

abbrev pub invariant-loop-stamp : goal.invariant-loop-stamp
invariant-loop-stamp l =
    ((k : ℕ) → k < l.stamp-index → get_or l.stamps k 0 ≡ live (get_or l.initial.stamps k 0) l.clock)
    × ((k : ℕ) → l.stamp-index ≤ k → get_or l.stamps k 0 ≡ get_or l.initial.stamps k 0)
