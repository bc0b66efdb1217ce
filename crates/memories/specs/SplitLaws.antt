-- What each memory owes, of a split.
use Rattle.std.specs.Prelude.{ℕ, ◌≤◌}
use Rattle.std.proofs.Common.{arith}
use Rattle.sizes.specs.declared.TheConstants.{WORDS}
use Rattle.memories.specs.Splits.{split_size}

pub split_small : (m n : ℕ) → split_size m n ≤ WORDS
split_small m n = omega arith
