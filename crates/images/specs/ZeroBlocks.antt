-- Worked cases: blocks of zero words.
use Rattle.std.specs.Prelude.{◌≡◌, ℕ, ◌<◌, true, List, [], ◌∷◌, ◌++◌, replicate, slice_index}
use Rattle.images.specs.Blocks.{sound, word_at}
use Rattle.images.specs.Damage.{Bytes}

abbrev pub ZeroWords : List ℕ → Type 0
ZeroWords bs = (i : ℕ) → i < 126 → word_at bs i ≡ 0

-- the four bytes of a block's check
abbrev pub check_bytes : List ℕ → List ℕ
check_bytes bs = slice_index bs 508 ∷ slice_index bs 509 ∷ slice_index bs 510 ∷ slice_index bs 511 ∷ []

pub record ZeroBlocks : Type 0 where
  -- block 0 of zero words ends in FF FF FF FF
  pub ends_0 : (bs : List ℕ) → Bytes bs → ZeroWords bs → sound 0 bs ≡ true
      → check_bytes bs ≡ 255 ∷ 255 ∷ 255 ∷ 255 ∷ []
  pub block_0 : sound 0 (replicate 508 0 ++ 255 ∷ 255 ∷ 255 ∷ 255 ∷ []) ≡ true
  -- block 1 of zero words ends in FE FF FF FF
  pub ends_1 : (bs : List ℕ) → Bytes bs → ZeroWords bs → sound 1 bs ≡ true
      → check_bytes bs ≡ 254 ∷ 255 ∷ 255 ∷ 255 ∷ []
  pub block_1 : sound 1 (replicate 504 0 ++ 1 ∷ 0 ∷ 0 ∷ 0 ∷ 254 ∷ 255 ∷ 255 ∷ 255 ∷ []) ≡ true
