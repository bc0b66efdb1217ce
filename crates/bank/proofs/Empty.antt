-- A row in which nothing is counted.
use Rattle.std.proofs.Common.{◌≡◌, ℕ, ◌+◌, Bool, true, false, cond, List, [], ◌∷◌, length, replicate, refl, arith}
use Rattle.std.specs.List.{count_by}
use Rattle.std.proofs.lemmas.List.Sums.{sum_by-cons}

-- what adds up to nothing
nothing : (b : Bool) (n : ℕ) → cond b 1 0 + n ≡ 0 → (b ≡ false) × (n ≡ 0)
nothing true n h = absurd (omega (arith, h))
nothing false n h = (refl, omega (arith, h))

-- where what is not counted is z, it is a row of z
module _ {A : Type 0} (p : A → Bool) (z : A) (other : (x : A) → p x ≡ false → x ≡ z) where
  pub none_counted : (xs : List A) → count_by p xs ≡ 0 → xs ≡ replicate (length xs) z
  none_counted [] h = refl
  none_counted (x ∷ xs) h =
      let e = sum_by-cons (λ (y : A). cond (p y) 1 0) x xs in
      let none = nothing (p x) (count_by p xs) (omega (arith, h, e)) in
      λ i. other x none.0 i ∷ none_counted xs none.1 i
