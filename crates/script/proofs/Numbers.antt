use Rattle.std.proofs.Common.{◌≡◌, ℕ, suc, ◌+◌, ◌-◌, ◌*◌, ◌^◌, ◌<◌, ◌≤◌, true, false, cond, ◌&&◌, leb, eqb, List, [], ◌∷◌, length, Some, None, Bool, Option, Bor, decimal, refl, ap, ◌∙◌, rules, arith, lit<}
use Rattle.std.specs.Str.Parse.{AllDigits}
use Rattle.std.specs.Bool.{then_some}
use Rattle.std.specs.Option.{MatchOption, option_map}
use Rattle.std.proofs.Math.Nat.{add-zero}
use Rattle.std.proofs.lemmas.Bool.{cond_both, le-leb, lt-ltb, le-ltb, ne_eqb, and_from, cond-true, cond-false}
use Rattle.std.proofs.lemmas.Fmt.{decimal_nonempty, length-decimal-le, digits_decimal, digits_value-decimal}
use Rattle.std.proofs.lemmas.Str.Parse.{IsNumeralModel, numerals_by_fold, tells_digits}
use Rattle.script.specs.Fields.{is_digit, is_digit_count, fits_word, first, left, split, onto, number, number_after}

-- the number that digits write after n
abbrev read : ℕ → List ℕ → ℕ
read n [] = n
read n (b ∷ bs) = read (n * 10 + (b - 48)) bs

pub model : IsNumeralModel (AllDigits 10) (read 0)
model = numerals_by_fold (AllDigits 10) tells_digits read (search rules)

-- a digit more
number_more : (k n b : ℕ) (f : List ℕ) → 48 ≤ b → b ≤ 57 → number_after k n (b ∷ f) ≡ number_after (suc k) (n * 10 + (b - 48)) f
number_more k n b f low high = cond-true _ _ _ (and_from _ _ (le-leb 48 b low) (le-leb b 57 high))

-- a digit at the front of what is left
pub split_digit : (d : ℕ) (xs bs : List ℕ) → xs ≡ (48 + d) ∷ bs → split 32 xs ≡ onto (48 + d) (split 32 bs)
split_digit d xs bs e = ap (split 32) e ∙ rw (ne_eqb (48 + d) 32 (λ z. omega (arith, z))) refl

pub number_digit : (k n d : ℕ) (xs bs : List ℕ) → xs ≡ (48 + d) ∷ bs → d ≤ 9
    → number_after k n (first (split 32 xs)) ≡ number_after (suc k) (n * 10 + d) (first (split 32 bs))
number_digit k n d xs bs e h =
    let same : 48 + d - 48 ≡ d = omega arith in
    ap (λ ps. number_after k n (first ps)) (split_digit d xs bs e) ∙ number_more k n (48 + d) (first (split 32 bs)) (omega arith) (omega (arith, h))
    ∙ ap (λ m. number_after (suc k) (n * 10 + m) (first (split 32 bs))) same

-- the digits that are read end the field where nothing follows them, or a blank
pub field_end : (k n b : ℕ) (xs bs : List ℕ) → xs ≡ b ∷ bs → is_digit b ≡ false
    → number_after k n (first (split 32 xs)) ≡ cond (eqb b 32 && is_digit_count k) (fits_word n) None
field_end k n b xs bs e h =
    ap (λ ys. number_after k n (first (split 32 ys))) e
    ∙ elim (eqb b 32) as (λ t. number_after k n (first (cond t ([] ∷ split 32 bs) (onto b (split 32 bs)))) ≡ cond (t && is_digit_count k) (fits_word n) None)
    [ true ↦ refl | false ↦ cond-false _ _ _ h ]

-- a field that ends after n, where t holds
pub found : (t : Bool) (r : Option ℕ) (n : ℕ) (fs : List (List ℕ)) (rest : Option (Bor (List ℕ)))
    → r ≡ cond t (Some n) None → (t ≡ true → fs ≡ left 32 (option_map (λ x. x.now) rest))
    → MatchOption (then_some {T = ℕ × Option (Bor (List ℕ))} t (n, rest)) (r ≡ None) (λ x. (r ≡ Some x.0) × (fs ≡ left 32 (option_map {T = Bor (List ℕ)} {U = List ℕ} (λ x. x.now) x.1)))
found true r n fs rest e h = (e, h refl)
found false r n fs rest e h = e

-- a field of digits
number_read : (k n : ℕ) (f : List ℕ) → AllDigits 10 f → number_after k n f ≡ cond (is_digit_count (k + length f)) (fits_word (read n f)) None
number_read k n [] h = rw (add-zero k) refl
number_read k n (b ∷ bs) h =
    let parts = tells_digits.parts b bs h in
    let shift : suc k + length bs ≡ k + suc (length bs) = omega arith in
    number_more k n b bs parts.0.0 (omega (arith, parts.0.1)) ∙ number_read (suc k) (n * 10 + (b - 48)) bs parts.1
    ∙ ap (λ i. cond (is_digit_count i) (fits_word (read n (b ∷ bs))) None) shift

pub word_small : (n : ℕ) → n ≤ 4294967295 → fits_word n ≡ Some n
word_small n h = cond-true _ _ _ (lt-ltb n 4294967296 (omega arith))

-- what has passed 2 ^ 32 stays past it
pub past : (k n : ℕ) (f : List ℕ) → 2 ^ 32 ≤ n → number_after k n f ≡ None
past k n [] h = cond_both (is_digit_count k) (fits_word n) None (λ o. o ≡ None) (λ t. cond-false _ _ _ (le-ltb n 4294967296 (omega (arith, h)))) (λ t. refl)
past k n (b ∷ bs) h =
    let m = n * 10 + (b - 48) in
    cond_both (leb 48 b && leb b 57) (number_after (suc k) m bs) None (λ o. o ≡ None) (λ t. past (suc k) m bs (omega (arith, h))) (λ t. refl)

-- a number below 2 ^ 32 is read back
pub number_decimal : (n : ℕ) → n < 2 ^ 32 → number (decimal n) ≡ Some n
number_decimal n h =
    let some : 1 ≤ length (decimal n) = decimal_nonempty n (omega arith) in
    let few : length (decimal n) ≤ 10 = length-decimal-le 10 n (lit< tt) (omega arith) (omega arith) in
    number_read 0 0 (decimal n) (digits_decimal model n (omega arith))
    ∙ cond-true (is_digit_count (0 + length (decimal n))) _ _ (and_from _ _ (lt-ltb 0 (0 + length (decimal n)) (omega (arith, some))) (le-leb (0 + length (decimal n)) 10 (omega (arith, few))))
    ∙ ap fits_word (digits_value-decimal model n (omega arith)) ∙ word_small n (omega arith)
