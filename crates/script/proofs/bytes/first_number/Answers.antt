use Rattle.std.proofs.Common.{◌≡◌, ◌-◌, [], ◌∷◌, ◌&&◌, Some, None, suc, cond, length, eqb, sym, ap, refl, ◌∙◌, arith}
use Rattle.std.proofs.lemmas.Bool.{and_parts}
use Rattle.std.proofs.lemmas.List.{nil_from_length}
use Rattle.script.specs.Fields.{split, onto, first, others, is_digit_count, number_after}
use Rattle.script.proofs.Numbers.{past, split_digit, number_digit, field_end, found, word_small}
use Rattle.script.proofs.bytes.first_number.Goals as goal

pub loop-digit-init : goal.loop-digit-init
loop-digit-init c =
    let none : length c.args.bytes.now - length c.args.bytes.now ≡ 0 = omega arith in
    (rw none refl, refl, omega arith, omega arith)

pub returns-in_err-number : goal.returns-in_err-number
returns-in_err-number c =
    let more = number_digit _ c.loop-digit.number c.in-Some.digit c.loop-digit.rest.now c.in-Some.after.now c.in-Some.ensures.0 c.in-Some.ensures.1 in
    rw c.from_residual.ensures (sym c.loop-digit.invariant.0 ∙ more ∙ past _ _ (first (split 32 c.in-Some.after.now)) c.in_err-number.ensures)

pub loop-digit-smaller : goal.loop-digit-smaller
loop-digit-smaller c = omega (arith, ap length c.in-Some.ensures.0)

pub loop-digit-preserved : goal.loop-digit-preserved
loop-digit-preserved c =
    let rest = c.loop-digit.rest.now in
    let after = c.in-Some.after.now in
    let e = c.in-Some.ensures.0 in
    let k = length c.args.bytes.now - length rest in
    let more : length c.args.bytes.now - length after ≡ suc k = omega (arith, ap length e, c.loop-digit.invariant.2) in (
      rw (more, c.in_ok-number.ensures.0) (sym (number_digit k c.loop-digit.number c.in-Some.digit rest after e c.in-Some.ensures.1) ∙ c.loop-digit.invariant.0),
      ap others (sym (split_digit c.in-Some.digit rest after e)) ∙ c.loop-digit.invariant.1,
      omega (arith, ap length e, c.loop-digit.invariant.2),
      c.in_ok-number.ensures.1,
    )

pub returns-in_default-split_first : goal.returns-in_default-split_first
returns-in_default-split_first c =
    let k = length c.args.bytes.now - length c.loop-digit.rest.now in
    let n = c.loop-digit.number in
    let e = nil_from_length c.loop-digit.rest.now c.in_default-split_first.ensures.cases in
    rw (c.then_some.ensures, c.is_digit_count-fits.ensures) (found (is_digit_count k) _ n _ None
    (sym c.loop-digit.invariant.0 ∙ ap (λ xs. number_after k n (first (split 32 xs))) e ∙ ap (λ o. cond (is_digit_count k) o None) (word_small n (omega (arith, c.loop-digit.invariant.3))))
    (λ t. sym c.loop-digit.invariant.1 ∙ ap (λ xs. others (split 32 xs)) e))

pub returns : goal.returns
returns c =
    let k = length c.args.bytes.now - length c.loop-digit.rest.now in
    let n = c.loop-digit.number in
    let b = c.in-Some-split_first.byte.now in
    let after = c.in-Some-split_first.after.now in
    let e = c.in-Some-split_first.ensures.cases.0 in
    rw (c.then_some-2.ensures, c.is_digit_count-fits.ensures) (found (eqb b 32 && is_digit_count k) _ n _ (Some c.in-Some-split_first.after)
    (sym c.loop-digit.invariant.0 ∙ field_end k n b c.loop-digit.rest.now after e (c.in_default.ensures b after e)
    ∙ ap (λ o. cond (eqb b 32 && is_digit_count k) o None) (word_small n (omega (arith, c.loop-digit.invariant.3))))
    (λ t. sym c.loop-digit.invariant.1 ∙ ap (λ xs. others (split 32 xs)) e ∙ ap (λ s. others (cond s ([] ∷ split 32 after) (onto b (split 32 after)))) (and_parts (eqb b 32) _ t).0))
