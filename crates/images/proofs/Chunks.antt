-- A chunk of a list.
use Rattle.std.proofs.Common.{◌≡◌, ℕ, zero, suc, ◌+◌, ◌-◌, ◌*◌, ◌<◌, List, [], get_or, drop, length, arith}
use Rattle.std.proofs.lemmas.List.{drop-drop, take_all}
use Rattle.std.specs.List.{between}
use Rattle.std.specs.Simd.{first_chunks}

chunk : {X : Type 0} (n k i : ℕ) (xs : List X) → i < k → get_or (first_chunks n k xs) i [] ≡ between (n * i) (n * i + n) xs
chunk n zero i xs h = absurd (omega arith)
chunk n (suc k) zero xs h =
    let z : n * 0 ≡ 0 = omega arith in
    let s : n * 0 + n - n * 0 ≡ n = omega arith in
    rw (s, z)
chunk n (suc k) (suc i) xs h =
    let s : n * suc i + n - n * suc i ≡ n * i + n - n * i = omega arith in
    let t : n * suc i ≡ n + n * i = omega arith in
    rw (s, t, ← drop-drop (n * i) n xs) (chunk n k i (drop n xs) (omega arith))

pub chunk_at : {X : Type 0} (n k i : ℕ) (xs : List X) (cs : List (List X)) → cs ≡ first_chunks n k xs → i < k
    → get_or cs i [] ≡ between (n * i) (n * i + n) xs
chunk_at n k i xs cs e h = rw e (chunk n k i xs h)

-- a list of one chunk
pub chunk_whole : {X : Type 0} (n k : ℕ) (xs : List X) (cs : List (List X)) → cs ≡ first_chunks n k xs → 0 < k → length xs ≡ n
    → get_or cs 0 [] ≡ xs
chunk_whole n k xs cs e h l =
    let z : n * 0 ≡ 0 = omega arith in
    let s : n * 0 + n - n * 0 ≡ n = omega arith in
    rw (chunk_at n k 0 xs cs e h, s, z) (take_all n xs (omega arith))
