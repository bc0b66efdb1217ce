use Rattle.std.proofs.Common.{◌≡◌, ℕ, zero, suc, ◌-◌, ◌<◌, ◌≤◌, true, List, [], ◌∷◌, get_or, refl, arith}
use Rattle.images.specs.Blocks.{total, sound, word_at}
use Rattle.images.specs.ZeroBlocks.{ZeroWords, check_bytes}
use Rattle.images.specs.Damage.{Bytes}
use Rattle.images.proofs.Words.{check_is, number_of, total_more}
use Rattle.images.proofs.cases.zero_blocks.Goals as goal

total-zero : (bs : List ℕ) (n : ℕ) → n ≤ 126 → ZeroWords bs → total bs n ≡ 0
unfolding total
total-zero bs zero l z = refl
total-zero bs (suc n) l z = omega (arith, total-zero bs n (omega arith) z, z n (omega arith))

-- the check of a sound block k of zero words
check-word : (bs : List ℕ) (k : ℕ) → k < 4294967296 → ZeroWords bs → sound k bs ≡ true
    → word_at bs 127 ≡ 4294967295 - k
check-word bs k f z s =
    omega (arith, number_of k bs s, check_is k bs s, total-zero bs 126 (omega arith) z, total_more bs 126)

-- how a block that bears this check ends
ends : (bs : List ℕ) (k : ℕ) → k < 256 → Bytes bs → word_at bs 127 ≡ 4294967295 - k
    → check_bytes bs ≡ (255 - k) ∷ 255 ∷ 255 ∷ 255 ∷ []
ends bs k f b w =
    let e0 : get_or bs 508 0 ≡ 255 - k = omega (arith, b 508, b 509, b 510, b 511) in
    let e1 : get_or bs 509 0 ≡ 255 = omega (arith, b 508, b 509, b 510, b 511) in
    let e2 : get_or bs 510 0 ≡ 255 = omega (arith, b 508, b 509, b 510, b 511) in
    let e3 : get_or bs 511 0 ≡ 255 = omega (arith, b 508, b 509, b 510, b 511) in
    cc

pub returns : goal.returns
unfolding total
returns c = record {
  ends_0 = λ bs b z s. ends bs 0 (omega arith) b (check-word bs 0 (omega arith) z s);
  block_0 = refl;
  ends_1 = λ bs b z s. ends bs 1 (omega arith) b (check-word bs 1 (omega arith) z s);
  block_1 = refl;
}
