-- A memory in blocks of 512 bytes: 126 words, the block's number, and a check.
use Rattle.std.specs.Prelude.{◌≡◌, ℕ, zero, suc, ◌+◌, ◌-◌, ◌*◌, ◌/◌, ◌%◌, ◌^◌, ◌<◌, ◌≤◌, min, Bool, cond, ◌&&◌, List, length, Ok, Err, Result, ◌==◌, slice_index}
use Rattle.std.specs.List.{between}
use Rattle.sizes.specs.declared.TheConstants.{WORDS}
use Rattle.memories.specs.Cells.{Cell, word, unreadable}
use Rattle.memories.specs.declared.memory.Fault.{Fault}

-- word i of some bytes: four bytes, lowest first
abbrev pub word_at : List ℕ → ℕ → ℕ
word_at bs i =
    slice_index bs (4 * i) + slice_index bs (4 * i + 1) * 256 + slice_index bs (4 * i + 2) * 65536
    + slice_index bs (4 * i + 3) * 16777216

-- the sum of the first n words
unfoldable pub total : List ℕ → ℕ → ℕ
total bs zero = 0
total bs (suc n) = total bs n + word_at bs n

-- the complement of the sum, modulo 2^32, of a block's words and its number
abbrev pub check_of : List ℕ → ℕ
check_of bs = 2 ^ 32 - 1 - total bs 127 % 2 ^ 32

-- the block bears the number k and the right check
abbrev pub sound : ℕ → List ℕ → Bool
sound k bs = word_at bs 126 == k && word_at bs 127 == check_of bs

-- block k of an image
abbrev pub block_at : List ℕ → ℕ → List ℕ
block_at bytes k = between (512 * k) (512 * k + 512) bytes

-- word i of block k, or the mark with the block's number
abbrev pub block_cell : List ℕ → ℕ → ℕ → Cell
block_cell bs k i = cond (sound k bs) (word (word_at bs i)) (unreadable k)

-- 126 words a block, at most 4,096
abbrev pub size_of : List ℕ → ℕ
size_of bytes = min (length bytes / 512 * 126) WORDS

-- address a is word a mod 126 of block a div 126
abbrev pub cell_of : List ℕ → ℕ → Cell
cell_of bytes a = block_cell (block_at bytes (a / 126)) (a / 126) (a % 126)

-- the cells with another word at one address
abbrev pub put_cells : (ℕ → Cell) → ℕ → ℕ → ℕ → Cell
put_cells f a v j = cond (j == a) (word v) (f j)

-- all bytes but those from a to e, and from c to d, are as they were
abbrev pub ElseKept : ℕ → ℕ → ℕ → ℕ → List ℕ → List ℕ → Type 0
ElseKept a e c d xs ys =
    (p : ℕ) → (a ≤ p → p < e → ⊥) → (c ≤ p → p < d → ⊥) → slice_index ys p ≡ slice_index xs p

-- the first byte of the block in which an address lies
abbrev pub start_of : ℕ → ℕ
start_of a = 512 * (a / 126)

-- all bytes but those of the word at an address and of its block's check are as they were
abbrev pub WordAlone : ℕ → List ℕ → List ℕ → Type 0
WordAlone a xs ys =
    ElseKept
    (start_of a + 4 * (a % 126))
    (start_of a + 4 * (a % 126) + 4)
    (start_of a + 508)
    (start_of a + 512)
    xs
    ys

-- a refused write changes no byte
abbrev pub BytesKept : ℕ → List ℕ → List ℕ → Result Unit Fault → Type 0
BytesKept a xs ys (Ok _) = WordAlone a xs ys
BytesKept a xs ys (Err _) = xs ≡ ys
