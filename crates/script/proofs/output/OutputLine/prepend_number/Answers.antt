use Rattle.std.proofs.Common.{◌≡◌, ℕ, ◌^◌, ◌<◌, ◌≤◌, lit<, length, decimal, drop, ap, sym, arith, length-drop, length-append}
use Rattle.std.proofs.lemmas.Fmt.{length-decimal-le, IsAscii-decimal}
use Rattle.std.proofs.lemmas.Str.{IsUtf8-append, IsUtf8-from_ascii, IsUtf8-had}
use Rattle.script.proofs.output.OutputLine.prepend_number.Goals as goal

-- a number has at most 20 digits
number_length : (n : ℕ) → n < 2 ^ 64 → length (decimal n) ≤ 20
number_length n h = length-decimal-le 20 n (lit< tt) (omega arith) (omega arith)

pub write_digits-self-inside-requires : goal.write_digits-self-inside-requires
write_digits-self-inside-requires c =
    let line = c.self.inside in
    let held : length c.args.self.now ≡ length (drop line.start line.bytes) = sym (ap length c.self.view_is) in
    grind (arith, number_length c.args.number c.ranges.number.fits, length-drop line.start line.bytes, held)

pub returns-clause-short : goal.returns-clause-short
returns-clause-short c =
    let line = c.self.inside in
    let held : length c.args.self.now ≡ length (drop line.start line.bytes) = sym (ap length c.self.view_is) in
    let written = ap length c.write_digits-self-inside.ensures.written in
    omega (arith, number_length c.args.number c.ranges.number.fits, held, written, length-append (decimal c.args.number) (drop line.start line.bytes))

pub invariant_of-self : goal.invariant_of-self
invariant_of-self c =
    let text = IsUtf8-append _ _ (IsUtf8-from_ascii _ (IsAscii-decimal c.args.number c.ranges.number.fits)) (IsUtf8-had _ c.self.invariant.1) in
    (omega (arith, c.self.invariant.0, c.write_digits-self-inside.ensures.start), ∣ rw c.write_digits-self-inside.ensures.written text ∣₁)
