-- Words of blocks.
use Rattle.std.proofs.Common.{◌≡◌, ℕ, zero, suc, ◌+◌, ◌*◌, ◌<◌, ◌≤◌, true, List, get_or, refl, add-one, arith}
use Rattle.std.proofs.lemmas.Bool.Decides.{nat_tests}
use Rattle.images.specs.Blocks.{check_of, sound, word_at, total}

-- words of the same bytes are the same
pub word_kept : (xs ys : List ℕ) (i : ℕ) → ((p : ℕ) → 4 * i ≤ p → p < 4 * i + 4 → get_or ys p 0 ≡ get_or xs p 0)
    → word_at ys i ≡ word_at xs i
word_kept xs ys i same =
    let a = same (4 * i) (omega arith) (omega arith) in
    let b = same (4 * i + 1) (omega arith) (omega arith) in
    let c = same (4 * i + 2) (omega arith) (omega arith) in
    let d = same (4 * i + 3) (omega arith) (omega arith) in
    cc

pub total_more : (bs : List ℕ) (n : ℕ) → total bs (n + 1) ≡ total bs n + word_at bs n
unfolding total
total_more bs n = rw (add-one n)

-- the same words have one sum
pub total_same : (xs ys : List ℕ) (n : ℕ) → ((j : ℕ) → j < n → word_at ys j ≡ word_at xs j)
    → total ys n ≡ total xs n
unfolding total
total_same xs ys zero h = refl
total_same xs ys (suc n) h =
    let e = total_same xs ys n (λ j l. h j (omega arith)) in
    let f = h n (omega arith) in
    cc

-- what a sound block bears
pub number_of : (k : ℕ) (bs : List ℕ) → sound k bs ≡ true → word_at bs 126 ≡ k
number_of k bs s = grind (arith, nat_tests)

pub check_is : (k : ℕ) (bs : List ℕ) → sound k bs ≡ true → word_at bs 127 ≡ check_of bs
check_is k bs s = grind (arith, nat_tests)
