use Rattle.std.proofs.Common.{◌≡◌, rules, tests}
use Rattle.std.proofs.lemmas.Iterator.{IsFirst-from_position, YieldsList-from_slice}
use Rattle.script.proofs.Splits.{split_at}
use Rattle.script.proofs.bytes.cut.Goals as goal

pub returns : goal.returns
returns c =
    let first = IsFirst-from_position _ _ c.position.result (λ x. x ≡ c.args.b) (λ x. x ≡ c.args.b → ⊥) c.position.ensures.ran (YieldsList-from_slice c.args.bytes.now cc) (λ x q k. search (rules, tests)) (λ x q k. search (rules, tests)) in
    rw c.unwrap_or-end.ensures (split_at c.args.b c.args.bytes.now c.position.result c.get.result first (rw c.unwrap_or-end.ensures at c.get.ensures.lookup))
