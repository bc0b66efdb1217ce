-- An image in which one word was set and its block renewed.
use Rattle.std.proofs.Common.{◌≡◌, ℕ, ◌+◌, ◌-◌, ◌*◌, ◌/◌, ◌%◌, ◌<◌, ◌≤◌, true, List, length, get_or, inl, inr, arith, rules}
use borrow.Rule.Slice.PartMut.{put_mid}
use Rattle.std.proofs.lemmas.List.{places}
use Rattle.std.proofs.lemmas.Slice.{overwrites, between_is}
use Rattle.std.proofs.lemmas.Bool.{cases_eq, cases_lt}
use Rattle.std.proofs.lemmas.Bool.Decides.{nat_tests}
use Rattle.images.specs.Blocks.{word_at, check_of, sound, block_at, block_cell, cell_of, put_cells, ElseKept, WordAlone}
use Rattle.images.proofs.Words.{word_kept}

-- ys is the block in which address a of the image xs lies, with the word v there and a new check
pub record Renewed (xs ys : List ℕ) (a v : ℕ) : Type 0 where
  pub fits : 512 * (a / 126) + 512 ≤ length xs
  pub long : length ys ≡ 512
  pub was : sound (a / 126) (block_at xs (a / 126)) ≡ true
  pub sets : word_at ys (a % 126) ≡ v
  pub keeps : ElseKept (4 * (a % 126)) (4 * (a % 126) + 4) 508 512 (block_at xs (a / 126)) ys
  pub checks : word_at ys 127 ≡ check_of ys

-- a block over another one in an image
below : (xs ys : List ℕ) (j k n : ℕ) → n ≡ 512 → j < k → 512 * k + 512 ≤ length xs → length ys ≡ 512
    → block_at (put_mid (512 * k) n xs ys) j ≡ block_at xs j
below xs ys j k n e b h l = search (rules, overwrites, between_is)

above : (xs ys : List ℕ) (j k n : ℕ) → n ≡ 512 → k < j → 512 * k + 512 ≤ length xs → length ys ≡ 512
    → block_at (put_mid (512 * k) n xs ys) j ≡ block_at xs j
above xs ys j k n e b h l = search (rules, overwrites)

here : (xs ys : List ℕ) (k n : ℕ) → n ≡ 512 → 512 * k + 512 ≤ length xs → length ys ≡ 512
    → block_at (put_mid (512 * k) n xs ys) k ≡ ys
here xs ys k n e h l = search (rules, overwrites)

sound_again : (xs ys : List ℕ) (a v : ℕ) (r : Renewed xs ys a v) → word_at ys 126 ≡ word_at (block_at xs (a / 126)) 126 → sound (a / 126) ys ≡ true
sound_again xs ys a v r w = grind (arith, nat_tests)

kept : (xs ys : List ℕ) (a v i : ℕ) → Renewed xs ys a v → i < 127 → (i ≡ a % 126 → ⊥) → word_at ys i ≡ word_at (block_at xs (a / 126)) i
kept xs ys a v i r u ne = word_kept (block_at xs (a / 126)) ys i (λ p s t. r.keeps p (λ x y. ne (omega arith)) (λ x y. omega arith))

near : (xs ys : List ℕ) (a v j : ℕ) → Renewed xs ys a v → j / 126 ≡ a / 126 → sound (a / 126) ys ≡ true
    → ((j ≡ a → ⊥) → word_at ys (j % 126) ≡ word_at (block_at xs (a / 126)) (j % 126))
    → block_cell ys (a / 126) (j % 126) ≡ put_cells (λ m. block_cell (block_at xs (a / 126)) (a / 126) (m % 126)) a v j
near xs ys a v j r q s k = grind (arith, nat_tests)

far : (xs : List ℕ) (a v j : ℕ) → (j / 126 ≡ a / 126 → ⊥) → cell_of xs j ≡ put_cells (cell_of xs) a v j
far xs a v j ne = grind (arith, nat_tests)

elsewhere : (xs ys : List ℕ) (j k n : ℕ) → n ≡ 512 → (j ≡ k → ⊥) → 512 * k + 512 ≤ length xs → length ys ≡ 512
    → block_at (put_mid (512 * k) n xs ys) j ≡ block_at xs j
elsewhere xs ys j k n e ne h l =
    elim (cases_lt j k) [ inl b ↦ below xs ys j k n e b h l | inr b ↦ above xs ys j k n e (omega arith) h l ]

pub put_cell : (xs ys : List ℕ) (a v n : ℕ) → n ≡ 512 → Renewed xs ys a v → (j : ℕ)
    → cell_of (put_mid (512 * (a / 126)) n xs ys) j ≡ put_cells (cell_of xs) a v j
put_cell xs ys a v n e r j = elim (cases_eq (j / 126) (a / 126)) [
  | inl s ↦ rw (s, here xs ys (a / 126) n e r.fits r.long)
      (near xs ys a v j r s (sound_again xs ys a v r (kept xs ys a v 126 r (omega arith) (λ x. omega arith)))
      (λ ne. kept xs ys a v (j % 126) r (omega arith) (λ x. ne (omega arith))))
  | inr ne ↦ rw (elsewhere xs ys (j / 126) (a / 126) n e ne r.fits r.long) (far xs a v j ne)
]

outside : (xs ys : List ℕ) (p k n : ℕ) → n ≡ 512 → (512 * k ≤ p → p < 512 * k + 512 → ⊥) → 512 * k + 512 ≤ length xs → length ys ≡ 512
    → get_or (put_mid (512 * k) n xs ys) p 0 ≡ get_or xs p 0
outside xs ys p k n e o h l = grind (arith, places)

inside : (xs ys : List ℕ) (p k n : ℕ) → n ≡ 512 → 512 * k ≤ p → p < 512 * k + 512 → 512 * k + 512 ≤ length xs → length ys ≡ 512
    → get_or ys (p - 512 * k) 0 ≡ get_or (block_at xs k) (p - 512 * k) 0
    → get_or (put_mid (512 * k) n xs ys) p 0 ≡ get_or xs p 0
inside xs ys p k n e u w h l q = grind (arith, places)

pub word_alone : (xs ys : List ℕ) (a v n : ℕ) → n ≡ 512 → Renewed xs ys a v → WordAlone a xs (put_mid (512 * (a / 126)) n xs ys)
word_alone xs ys a v n e r p u w = elim (cases_lt p (512 * (a / 126))) [
  | inl s ↦ outside xs ys p (a / 126) n e (λ x y. omega arith) r.fits r.long
  | inr s ↦ elim (cases_lt p (512 * (a / 126) + 512)) [
    | inl t ↦ inside xs ys p (a / 126) n e s t r.fits r.long
        (r.keeps (p - 512 * (a / 126)) (λ x y. u (omega arith) (omega arith)) (λ x y. w (omega arith) (omega arith)))
    | inr t ↦ outside xs ys p (a / 126) n e (λ x y. omega arith) r.fits r.long
  ]
]
