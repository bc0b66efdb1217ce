use Rattle.std.proofs.Common.{◌≡◌, None, replicate, ap, ◌∙◌}
use Rattle.sizes.specs.declared.TheConstants.{LANES, WORDS}
use Rattle.bank.proofs.bank_table.Bank.clear.Goals as goal

pub returns : goal.returns
returns c =
    let lines : c.self.inside.lines.items ≡ replicate WORDS None = ap (λ b. b.lines) c.self.view_is ∙ c.clear_kept.ensures.lines ∙ c.clear_lines.ensures.lines in
    let kept : c.self.inside.kept.items ≡ replicate WORDS 0 = ap (λ b. b.kept) c.self.view_is ∙ c.clear_kept.ensures.kept in
    λ i. record { lines = lines i; kept = kept i; waiting = replicate LANES None }
