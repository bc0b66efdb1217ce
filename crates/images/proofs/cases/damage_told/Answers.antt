use Rattle.std.proofs.Common.{◌≡◌, ℕ, zero, suc, ◌+◌, ◌*◌, ◌<◌, ◌≤◌, true, List, sym, inl, inr, arith}
use Rattle.std.proofs.lemmas.Bool.{cases_eq, cases_Bool}
use Rattle.images.specs.Blocks.{total, sound, word_at}
use Rattle.images.specs.Damage.{Bytes, Damaged}
use Rattle.images.proofs.Words.{check_is, number_of, total_same}
use Rattle.images.proofs.cases.damage_told.Goals as goal

-- the sums differ as the words do
total-off : (xs ys : List ℕ) (i n : ℕ) → Damaged i xs ys → n ≤ 128 → i < n
    → total ys n + word_at xs i ≡ total xs n + word_at ys i
unfolding total
total-off xs ys i zero d l u = absurd (omega arith)
total-off xs ys i (suc n) d l u = elim (cases_eq i n) [
  | inl e ↦ here e
  | inr ne ↦ there ne (λ v. total-off xs ys i n d (omega arith) v)
]
  where
    here : i ≡ n → total ys (suc n) + word_at xs i ≡ total xs (suc n) + word_at ys i
    here e =
        let s = total_same xs ys n (λ j v. d.else j (omega arith) (λ q. omega arith)) in
        rw e (omega arith)

    there : (i ≡ n → ⊥) → (i < n → total ys n + word_at xs i ≡ total xs n + word_at ys i)
        → total ys (suc n) + word_at xs i ≡ total xs (suc n) + word_at ys i
    there ne fewer =
        let s = fewer (omega arith) in
        let t = d.else n (omega arith) (λ q. ne (sym q)) in
        omega arith

-- a word fits 32 bits
word_fits : (bs : List ℕ) (i : ℕ) → Bytes bs → word_at bs i < 4294967296
word_fits bs i b = omega (arith, b (4 * i), b (4 * i + 1), b (4 * i + 2), b (4 * i + 3))

-- two sound blocks with one number do not differ in one word
never : (k i : ℕ) (xs ys : List ℕ) → Bytes xs → Bytes ys → i < 128 → Damaged i xs ys
    → sound k xs ≡ true → sound k ys ≡ true → ⊥
never k i xs ys bx by l d sx sy = elim (cases_eq i 127) [ inl e ↦ last e | inr ne ↦ before ne ]
  where
    last : i ≡ 127 → ⊥
    last e =
        let s = total_same xs ys 127 (λ j v. d.else j (omega arith) (λ q. omega arith)) in
        let same : word_at ys 127 ≡ word_at xs 127 = omega (arith, check_is k xs sx, check_is k ys sy) in
        d.differs (rw e same)

    before : (i ≡ 127 → ⊥) → ⊥
    before ne =
        let s = total-off xs ys i 127 d (omega arith) (omega arith) in
        let t = d.else 127 (omega arith) (λ q. ne (sym q)) in
        d.differs (omega (arith, number_of k xs sx, number_of k ys sy, check_is k xs sx, check_is k ys sy, word_fits xs i bx, word_fits ys i by))

pub returns : goal.returns
returns c k i xs ys bx by l d sx =
    elim (cases_Bool (sound k ys)) [ inl sy ↦ absurd (never k i xs ys bx by l d sx sy) | inr no_more ↦ no_more ]
