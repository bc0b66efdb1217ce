-- The parts of a list of bytes, and the numbers that they write.
use Rattle.std.specs.Prelude.{ℕ, suc, ◌+◌, ◌-◌, ◌*◌, Bool, cond, ◌&&◌, List, [], ◌∷◌, Some, None, Option, ◌==◌, nat_le, nat_lt}

-- the first field; an empty one where there is none
abbrev pub first : List (List ℕ) → List ℕ
first [] = []
first (f ∷ fs) = f

-- what stands after the first
abbrev pub others : {A : Type 0} → List A → List A
others [] = []
others (x ∷ xs) = xs

-- one byte more before the first part
abbrev pub onto : ℕ → List (List ℕ) → List (List ℕ)
onto x ps = (x ∷ first ps) ∷ others ps

-- the parts between the bytes b: one more than there are bytes b
abbrev pub split : ℕ → List ℕ → List (List ℕ)
split b [] = [] ∷ []
split b (x ∷ xs) = cond (x == b) ([] ∷ split b xs) (onto x (split b xs))

-- the parts of what is left: none, where nothing is left
abbrev pub left : ℕ → Option (List ℕ) → List (List ℕ)
left b None = []
left b (Some bs) = split b bs

-- f of what there is
abbrev pub bind : {A B : Type 0} → Option A → (A → Option B) → Option B
bind None f = None
bind (Some x) f = f x

abbrev pub is_digit : ℕ → Bool
is_digit b = nat_le 48 b && nat_le b 57

-- whether a number may have so many digits
abbrev pub is_digit_count : ℕ → Bool
is_digit_count k = nat_lt 0 k && nat_le k 10

-- the number, where it is below 2 ^ 32
abbrev pub fits_word : ℕ → Option ℕ
fits_word n = cond (nat_lt n 4294967296) (Some n) None

-- the number that a field writes whose first k digits write n and stand before these bytes
abbrev pub number_after : ℕ → ℕ → List ℕ → Option ℕ
number_after k n [] = cond (is_digit_count k) (fits_word n) None
number_after k n (b ∷ bs) = cond (is_digit b) (number_after (suc k) (n * 10 + (b - 48)) bs) None

-- the number that a field of 1 to 10 digits writes
abbrev pub number : List ℕ → Option ℕ
number = number_after 0 0

-- the number of the next field, and what k makes of it and the fields after it
abbrev pub next : {A : Type 0} → List (List ℕ) → (ℕ → List (List ℕ) → Option A) → Option A
next fs k = bind (number (first fs)) (λ n. k n (others fs))

-- x, where no field is left
abbrev pub end : {A : Type 0} → A → List (List ℕ) → Option A
end x [] = Some x
end x (f ∷ fs) = None

-- the numbers of all fields that are left: one, two, three, four
abbrev pub one : List (List ℕ) → Option ℕ
one fs = next fs end

abbrev pub two : List (List ℕ) → Option (ℕ × ℕ)
two fs = next fs (λ a fs. next fs (λ b fs. end (a, b) fs))

abbrev pub three : List (List ℕ) → Option (ℕ × ℕ × ℕ)
three fs = next fs (λ a fs. next fs (λ b fs. next fs (λ c fs. end (a, b, c) fs)))

abbrev pub four : List (List ℕ) → Option (ℕ × ℕ × ℕ × ℕ)
four fs = next fs (λ a fs. next fs (λ b fs. next fs (λ c fs. next fs (λ d fs. end (a, b, c, d) fs))))
