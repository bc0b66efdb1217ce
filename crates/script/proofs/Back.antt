-- A script that was written from calls is read back.
use Rattle.std.proofs.Common.{◌≡◌, ℕ, ◌^◌, ◌<◌, List, [], ◌∷◌, ◌++◌, map, Some, decimal, Option, refl, ap, ◌∙◌, append-nil, arith, lit<}
use Rattle.calls.specs.declared.call.Call.{Call}
use Rattle.calls.specs.declared.call.Call.TheVariants.{Start, Load, Store, Add, Exchange, Serve, Deliver, Tick, Evict, Forget}
use Rattle.calls.specs.declared.call.Protocol.TheVariants.{Strong, Weak}
use Rattle.std.proofs.lemmas.Fmt.{digits_decimal}
use Rattle.std.specs.List.{AllByRecursion}
use Rattle.std.specs.Str.Parse.{AllDigits}
use Rattle.std.proofs.lemmas.Str.Parse.{tells_digits}
use Rattle.script.specs.Fields.{split, bind, first, others}
use Rattle.script.specs.Lines.{letter_of, call_of, parse_line, script}
use Rattle.script.specs.Written.{FitsWords, letter, fields, spaced, written, lines, Back}
use Rattle.script.proofs.Numbers.{model, number_decimal}
use Rattle.script.proofs.Splits.{Without, split_part, split_whole, script_more}

without_append : (b : ℕ) (xs ys : List ℕ) → Without b xs → Without b ys → Without b (xs ++ ys)
without_append b [] ys h k = k
without_append b (x ∷ xs) ys h k = (h.0, without_append b xs ys h.1 k)

without_digits : (b : ℕ) (xs : List ℕ) → b < 48 → AllDigits 10 xs → Without b xs
without_digits b [] low h = tt
without_digits b (x ∷ xs) low h =
    let parts = tells_digits.parts x xs h in
    (λ e. omega (arith, parts.0.0), without_digits b xs low parts.1)

without_decimal : (b n : ℕ) → b < 48 → n < 2 ^ 32 → Without b (decimal n)
without_decimal b n low h = without_digits b (decimal n) low (digits_decimal model n (omega arith))

split_spaced : (f : List ℕ) (fs : List (List ℕ)) → Without 32 f → AllByRecursion (Without 32) fs → split 32 (f ++ spaced fs) ≡ f ∷ fs
split_spaced f [] h k = rw (append-nil f) (split_whole 32 f h)
split_spaced f (g ∷ fs) h k = split_part 32 f (g ++ spaced fs) h ∙ ap (λ gs. f ∷ gs) (split_spaced g fs k.0 k.1)

without_spaced : (fs : List (List ℕ)) → AllByRecursion (Without 10) fs → Without 10 (spaced fs)
without_spaced [] h = tt
without_spaced (f ∷ fs) h = (λ e. omega arith, without_append 10 f (spaced fs) h.0 (without_spaced fs h.1))

-- the fields of a line
abbrev read : List (List ℕ) → Option Call
read ps = bind (letter_of (first ps)) (λ l. call_of l (others ps))

-- neither a blank nor byte 10 stands in a field, nor is one the letter
without_fields : (b : ℕ) (c : Call) → b < 48 → FitsWords c → (letter c ≡ b → ⊥) × AllByRecursion (Without b) (fields c)
without_fields b (Start n Strong) low h = (λ e. omega arith, (without_decimal b n low h, (((λ e. omega arith), tt), tt)))
without_fields b (Start n Weak) low h = (λ e. omega arith, (without_decimal b n low h, (((λ e. omega arith), tt), tt)))
without_fields b (Load c w a) low h = (λ e. omega arith, (without_decimal b c low h.0, (without_decimal b w low h.1, (without_decimal b a low h.2, tt))))
without_fields b (Store c w a v) low h =
    (λ e. omega arith, (without_decimal b c low h.0, (without_decimal b w low h.1, (without_decimal b a low h.2, (without_decimal b v low h.3, tt)))))
without_fields b (Add c w a v) low h =
    (λ e. omega arith, (without_decimal b c low h.0, (without_decimal b w low h.1, (without_decimal b a low h.2, (without_decimal b v low h.3, tt)))))
without_fields b (Exchange c w a v) low h =
    (λ e. omega arith, (without_decimal b c low h.0, (without_decimal b w low h.1, (without_decimal b a low h.2, (without_decimal b v low h.3, tt)))))
without_fields b (Serve c) low h = (λ e. omega arith, (without_decimal b c low h, tt))
without_fields b (Deliver c) low h = (λ e. omega arith, (without_decimal b c low h, tt))
without_fields b Tick low h = (λ e. omega arith, tt)
without_fields b (Evict a) low h = (λ e. omega arith, (without_decimal b a low h, tt))
without_fields b (Forget c a) low h = (λ e. omega arith, (without_decimal b c low h.0, (without_decimal b a low h.1, tt)))

read_fields : (c : Call) → FitsWords c → read ((letter c ∷ []) ∷ fields c) ≡ Some c
read_fields (Start n Strong) h = rw (number_decimal n h) refl
read_fields (Start n Weak) h = rw (number_decimal n h) refl
read_fields (Load c w a) h = rw (number_decimal c h.0, number_decimal w h.1, number_decimal a h.2) refl
read_fields (Store c w a v) h = rw (number_decimal c h.0, number_decimal w h.1, number_decimal a h.2, number_decimal v h.3) refl
read_fields (Add c w a v) h = rw (number_decimal c h.0, number_decimal w h.1, number_decimal a h.2, number_decimal v h.3) refl
read_fields (Exchange c w a v) h = rw (number_decimal c h.0, number_decimal w h.1, number_decimal a h.2, number_decimal v h.3) refl
read_fields (Serve c) h = rw (number_decimal c h) refl
read_fields (Deliver c) h = rw (number_decimal c h) refl
read_fields Tick h = refl
read_fields (Evict a) h = rw (number_decimal a h) refl
read_fields (Forget c a) h = rw (number_decimal c h.0, number_decimal a h.1) refl

-- a call that was written as a line is read back
parse_written : (c : Call) → FitsWords c → parse_line (written c) ≡ Some c
parse_written c h =
    let free = without_fields 32 c (lit< tt) h in
    ap read (split_spaced (letter c ∷ []) (fields c) (free.0, tt) free.1) ∙ read_fields c h

without_written : (c : Call) → FitsWords c → Without 10 (written c)
without_written c h = let free = without_fields 10 c (lit< tt) h in (free.0, without_spaced (fields c) free.1)

pub read_lines : (cs : List Call) → AllByRecursion FitsWords cs → script (lines cs) ≡ map (λ c. Some c) cs
read_lines [] h = refl
read_lines (c ∷ cs) h =
    script_more (lines (c ∷ cs)) (written c) (lines cs) (split_part 10 (written c) (lines cs) (without_written c h.0))
    ∙ ap (λ o. o ∷ script (lines cs)) (parse_written c h.0) ∙ ap (λ os. Some c ∷ os) (read_lines cs h.1)

pub back : (line : List ℕ) (r : Option Call) → r ≡ parse_line line → Back line r
back line r e c h w = e ∙ ap parse_line w ∙ parse_written c h
