-- What the check tells.
use Rattle.std.specs.Prelude.{◌≡◌, ℕ, ◌<◌, true, false, List, ◌≢◌, slice_index}
use Rattle.images.specs.Blocks.{sound, word_at}

abbrev pub Bytes : List ℕ → Type 0
Bytes bs = (p : ℕ) → slice_index bs p < 256

-- word i of a block differs, be it the number or the check, and no other
pub record Damaged (i : ℕ) (xs ys : List ℕ) : Type 0 where
  pub differs : word_at ys i ≡ word_at xs i → ⊥
  pub else : (j : ℕ) → j < 128 → (j ≢ i) → word_at ys j ≡ word_at xs j

-- a sound block of which one word is damaged is no longer sound
abbrev pub DamageTold : Type 0
DamageTold =
    (k i : ℕ) (xs ys : List ℕ) → Bytes xs → Bytes ys → i < 128 → Damaged i xs ys → sound k xs ≡ true
    → sound k ys ≡ false
