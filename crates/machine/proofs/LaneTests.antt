-- The lanes of a net, one after the other.
use Rattle.std.proofs.Common.{◌≡◌, ℕ, zero, suc, ◌+◌, Bool, true, ◌&&◌, eqb, List, [], ◌∷◌, map, length, refl, sym, ap, ◌∙◌, arith}
use Rattle.std.proofs.Math.Bool.{and-true}
use Rattle.std.specs.List.{list_all, range_with_len}
use Rattle.std.proofs.lemmas.List.Folds.{list_all-append, list_all-map}
use Rattle.std.proofs.lemmas.List.FromFn.{map-range_with_len_more}
use Rattle.rules.specs.Starting.{lanes_empty}

-- the lanes below n, asked from the first on, in place of from the last
pub lanes_all : {X : Type 0} (f : ℕ → List X) (n : ℕ) → list_all (λ k. eqb (length (f k)) 0) (range_with_len 0 n) ≡ lanes_empty f n
unfolding lanes_empty
lanes_all f zero = refl
lanes_all f (suc n) =
    let p : ℕ → Bool = λ k. eqb (length (f k)) 0 in
    let below = range_with_len 0 n in
    let next : suc n ≡ n + 1 = omega arith in
    ap (λ (k : ℕ). list_all p (range_with_len 0 k)) next
    ∙ sym (list_all-map p (λ (k : ℕ). k) (range_with_len 0 (n + 1)))
    ∙ ap (list_all p) (map-range_with_len_more (λ k. k) 0 n n (omega arith))
    ∙ list_all-append p (map (λ (k : ℕ). k) below) (n ∷ [])
    ∙ ap (λ b. b && (p n && true)) (list_all-map p (λ (k : ℕ). k) below ∙ lanes_all f n)
    ∙ ap (λ b. lanes_empty f n && b) (and-true (p n))
