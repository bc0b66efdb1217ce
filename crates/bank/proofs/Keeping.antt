-- How many stamps are kept, and how many of them run.
use Rattle.std.proofs.Common.{ℕ, ◌≤◌, cond, List, [], ◌∷◌, map, nat_le, arith, rules}
use Rattle.std.specs.List.{count_by}
use Rattle.std.proofs.lemmas.Bool.Decides.{nat_tests}
use Rattle.std.proofs.lemmas.List.Sums.{sum_by-le-sum_by, sum_by-cons}
use Rattle.rules.specs.Stamps.{runs}
use Rattle.rules.specs.Bank.{live}
use Rattle.rules.proofs.StampProofs.{laws}

-- a stamp that runs is kept
one_running : (clock t : ℕ) → 1 ≤ clock → cond (runs t clock) 1 0 ≤ cond (nat_le 1 t) 1 0
one_running clock t h = let bound = laws.bound t clock in grind (arith, nat_tests, bound)

pub running_kept : (clock : ℕ) (stamps : List ℕ) → 1 ≤ clock → count_by (λ (t : ℕ). runs t clock) stamps ≤ count_by (nat_le 1) stamps
running_kept clock stamps h =
    sum_by-le-sum_by (λ (t : ℕ). cond (runs t clock) 1 0) (λ (t : ℕ). cond (nat_le 1 t) 1 0) stamps (λ t. one_running clock t h)

-- a stamp that is left runs
one_swept : (clock t : ℕ) → cond (nat_le 1 (live t clock)) 1 0 ≤ cond (runs t clock) 1 0
one_swept clock t = grind (arith, nat_tests)

pub swept_running : (clock : ℕ) (stamps : List ℕ) → count_by (nat_le 1) (map (λ (t : ℕ). live t clock) stamps) ≤ count_by (λ (t : ℕ). runs t clock) stamps
swept_running clock [] = search rules
swept_running clock (t ∷ ts) =
    let rest = swept_running clock ts in
    let one = one_swept clock t in
    let e = sum_by-cons (λ (t : ℕ). cond (nat_le 1 t) 1 0) (live t clock) (map (λ (t : ℕ). live t clock) ts) in
    let f = sum_by-cons (λ (t : ℕ). cond (runs t clock) 1 0) t ts in
    omega (arith, rest, one, e, f)

-- a stamp that is left was kept
one_left : (clock t : ℕ) → cond (nat_le 1 (live t clock)) 1 0 ≤ cond (nat_le 1 t) 1 0
one_left clock t = grind (arith, nat_tests)

pub swept_kept : (clock : ℕ) (stamps : List ℕ) → count_by (nat_le 1) (map (λ (t : ℕ). live t clock) stamps) ≤ count_by (nat_le 1) stamps
swept_kept clock [] = search rules
swept_kept clock (t ∷ ts) =
    let rest = swept_kept clock ts in
    let one = one_left clock t in
    let e = sum_by-cons (λ (t : ℕ). cond (nat_le 1 t) 1 0) (live t clock) (map (λ (t : ℕ). live t clock) ts) in
    let f = sum_by-cons (λ (t : ℕ). cond (nat_le 1 t) 1 0) t ts in
    omega (arith, rest, one, e, f)
