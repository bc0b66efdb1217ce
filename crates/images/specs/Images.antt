-- What an image means as a memory.
use Rattle.std.specs.Prelude.{◌≡◌, ℕ, ◌/◌, ◌<◌, Bool, true, List, length}
use Rattle.memories.specs.Cells.{Cell}
use Rattle.images.specs.Blocks.{block_at, cell_of, size_of, sound}
use Rattle.images.specs.declared.image.Image.{Image}

abbrev pub image_size : Image → ℕ
image_size s = size_of s.bytes.now

abbrev pub image_cell : Image → ℕ → Cell
image_cell s a = cell_of s.bytes.now a

-- the ghost name of the bytes' borrow, and how many bytes there are
abbrev pub image_loan : Image → ℕ × ℕ
image_loan s = (s.bytes.ghost_name, length s.bytes.now)

-- whether block k can be read
abbrev pub readable_block : Image → ℕ → Bool
readable_block s k = sound k (block_at s.bytes.now k)

-- a block that can be read, in which an address below the size lies
pub record IsBlockOf (s : Image) (a : ℕ) (block : List ℕ) : Type 0 where
  pub known : a < image_size s
  pub readable : readable_block s (a / 126) ≡ true
  pub bytes : block ≡ block_at s.bytes.now (a / 126)
