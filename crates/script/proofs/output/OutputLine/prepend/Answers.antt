use Rattle.std.proofs.Common.{arith}
use Rattle.std.proofs.lemmas.Str.{IsUtf8-append, IsUtf8-had}
use Rattle.script.proofs.output.OutputLine.prepend.Goals as goal

pub invariant_of-self : goal.invariant_of-self
invariant_of-self c =
    let text = IsUtf8-append _ _ c.as_bytes.ensures.utf8 (IsUtf8-had _ c.self.invariant.1) in
    (omega (arith, c.self.invariant.0, c.write_text-self-inside.ensures.start), ∣ rw c.write_text-self-inside.ensures.written text ∣₁)
