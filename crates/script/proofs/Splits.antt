use Rattle.std.proofs.Common.{◌≡◌, ◌+◌, ℕ, suc, ◌<◌, ◌≤◌, true, false, cond, eqb, List, [], ◌∷◌, ◌++◌, length, map, take, drop, None, Some, Option, Bor, sym, refl, ap, ◌∙◌, inl, inr, arith}
use Rattle.std.proofs.lemmas.Bool.{eq-eqb, ne_eqb}
use Rattle.std.proofs.lemmas.List.{take_all, take_rest, take-append-drop, drop_more, get_or-take, length-take}
use Rattle.std.proofs.lemmas.List.Elements.{recursion_from_All, All-from_all_within}
use Rattle.std.specs.List.{AllByRecursion, AllWithin, HoldsAt}
use Rattle.std.specs.Slice.{IsGetRangeResult}
use Rattle.script.specs.Fields.{onto, split, left, first, others, end}
use Rattle.std.specs.Bool.{then_some}
use Rattle.std.specs.Option.{MatchOption, option_map, is_none, ok_or, unwrap_or}
use Rattle.calls.specs.declared.refusal.Refusal.TheVariants.{NotACall}
use Rattle.script.specs.Lines.{parse_line, calls_of, script, script_calls}

-- byte b stands at none of the first n places
abbrev pub Absent : ℕ → List ℕ → ℕ → Type 0
Absent b bs n = AllWithin (λ x. x ≡ b → ⊥) bs 0 n

-- byte b does not stand in the list
abbrev pub Without : ℕ → List ℕ → Type 0
Without b xs = AllByRecursion (λ x. x ≡ b → ⊥) xs

without : (b : ℕ) (xs : List ℕ) → Absent b xs (length xs) → Without b xs
without b xs h = recursion_from_All (λ x. x ≡ b → ⊥) xs (All-from_all_within (λ x. x ≡ b → ⊥) xs h)

-- a part before byte b
pub split_part : (b : ℕ) (f ys : List ℕ) → Without b f → split b (f ++ (b ∷ ys)) ≡ f ∷ split b ys
split_part b [] ys h = rw (eq-eqb b b refl) refl
split_part b (x ∷ f) ys h = rw (ne_eqb x b h.0) (ap (onto x) (split_part b f ys h.1))

pub split_whole : (b : ℕ) (f : List ℕ) → Without b f → split b f ≡ f ∷ []
split_whole b [] h = refl
split_whole b (x ∷ f) h = rw (ne_eqb x b h.0) (ap (onto x) (split_whole b f h.1))

-- the first part, and what is left after its byte b
pub split_at : (b : ℕ) (xs : List ℕ) (found : Option ℕ) (rest : Option (Bor (List ℕ)))
    → MatchOption found (Absent b xs (length xs)) (λ i. (i < length xs) × HoldsAt (λ x. x ≡ b) xs i × Absent b xs i)
    → IsGetRangeResult xs (unwrap_or found (length xs) + 1) (length xs) rest
    → split b xs ≡ take (unwrap_or found (length xs)) xs ∷ left b (option_map (λ x. x.now) rest)
split_at b xs None None absent part = rw (take_all (length xs) xs (omega arith)) (split_whole b xs (without b xs absent))
split_at b xs None (Some ys) absent part = absurd (omega (arith, part.0.0))
split_at b xs (Some i) None place (inl past, within) = absurd (omega (arith, past, place.0))
split_at b xs (Some i) None place (inr past, within) = absurd (omega (arith, past))
split_at b xs (Some i) (Some ys) place part =
    let before = without b (take i xs) (λ k d l m. let low : k < i = omega (arith, m, length-take i xs) in rw (get_or-take i xs k d low) (place.2 k d l low)) in
    ap (split b) (sym (take-append-drop i xs) ∙ ap (λ zs. take i xs ++ zs) (drop_more xs i b place.0 ∙ ap (λ x. x ∷ drop (i + 1) xs) (place.1 b)))
    ∙ split_part b (take i xs) (drop (i + 1) xs) before ∙ ap (λ zs. take i xs ∷ split b zs) (sym (part.0.2 ∙ take_rest xs (i + 1)))

-- there is a first part
split_cons : (b : ℕ) (xs : List ℕ) → split b xs ≡ first (split b xs) ∷ others (split b xs)
split_cons b [] = refl
split_cons b (x ∷ xs) =
    elim (eqb x b) as (λ t. let ps : List (List ℕ) = cond t ([] ∷ split b xs) (onto x (split b xs)) in ps ≡ first ps ∷ others ps)
    [ true ↦ refl | false ↦ refl ]

-- no field is left just where nothing is
pub end_left : {A : Type 0} (y : A) (b : ℕ) (rest : Option (Bor (List ℕ))) → then_some (is_none rest) y ≡ end y (left b (option_map (λ x. x.now) rest))
end_left y b None = refl
end_left y b (Some xs) = sym (ap (end y) (split_cons b xs.now))

parts_more : (line ys : List ℕ) → calls_of (line ∷ split 10 ys) ≡ parse_line line ∷ script ys
parts_more line ys =
    ap (λ ps. calls_of (line ∷ ps)) (split_cons 10 ys) ∙ sym (ap (λ ps. parse_line line ∷ calls_of ps) (split_cons 10 ys))

-- a line and its byte 10, and what is left
pub script_more : (xs line ys : List ℕ) → split 10 xs ≡ line ∷ split 10 ys → script xs ≡ parse_line line ∷ script ys
script_more xs line ys e = ap calls_of e ∙ parts_more line ys

calls_onto : (x : ℕ) (ps : List (List ℕ)) → length (calls_of (onto x ps)) ≤ suc (length (calls_of ps))
calls_onto x [] = omega arith
calls_onto x (p ∷ []) = omega arith
calls_onto x (p ∷ q ∷ ps) = omega arith

-- no more lines than bytes
pub script_length : (xs : List ℕ) → length (script xs) ≤ length xs
script_length [] = omega arith
script_length (x ∷ xs) =
    elim (eqb x 10) as (λ t. length (calls_of (cond t ([] ∷ split 10 xs) (onto x (split 10 xs)))) ≤ suc (length xs))
    [ true ↦ omega (arith, ap length (parts_more [] xs), script_length xs) | false ↦ omega (arith, calls_onto x (split 10 xs), script_length xs) ]

-- what a reader gives for a line and its byte 10
pub calls_more : (xs line ys : List ℕ) → split 10 xs ≡ line ∷ split 10 ys → script_calls xs ≡ ok_or (parse_line line) NotACall ∷ script_calls ys
calls_more xs line ys e = ap (map (λ l. ok_or l NotACall)) (script_more xs line ys e)
