-- How many lanes wait.
use Rattle.std.proofs.Common.{◌≡◌, ℕ, false, cond, List, [], ◌∷◌, Option, Some, None, is_some, refl, arith}
use Rattle.std.specs.List.{count_by, list_any}
use Rattle.std.proofs.lemmas.List.Sums.{sum_by-cons}
use Rattle.rules.specs.Bank.{waits_on}

-- where no lane waits, none waits on an address
pub none_waits : (a : ℕ) (marks : List (Option ℕ)) → count_by is_some marks ≡ 0 → list_any (waits_on a) marks ≡ false
none_waits a [] h = refl
none_waits a (None ∷ marks) h =
    let e = sum_by-cons (λ (m : Option ℕ). cond (is_some m) 1 0) None marks in
    none_waits a marks (omega (arith, h, e))
none_waits a (Some x ∷ marks) h =
    let e = sum_by-cons (λ (m : Option ℕ). cond (is_some m) 1 0) (Some x) marks in
    absurd (omega (arith, h, e))
