use Rattle.std.proofs.Common.{◌≡◌, nat_le, length, refl, sym, ap, ◌∙◌, arith, rules}
use Rattle.std.proofs.lemmas.Bool.Decides.{nat_tests}
use Rattle.sizes.specs.declared.TheConstants.{WORDS}
use Rattle.bank.proofs.Empty.{none_counted}
use Rattle.bank.proofs.bank_table.Bank.clear_kept.Goals as goal

pub returns-then-self-ne0-clause-kept : goal.returns-then-self-ne0-clause-kept
returns-then-self-ne0-clause-kept c = rw (c.fill.ensures.items (λ y h. h), c.self.invariant.kept) refl

pub returns-else-self-ne0-clause-kept : goal.returns-else-self-ne0-clause-kept
returns-else-self-ne0-clause-kept c =
    let none = none_counted (nat_le 1) 0 (λ x h. grind (arith, nat_tests)) c.self.inside.kept.items (omega (arith, c.self.invariant.kept_count, c.if-self-ne0.false)) in
    let all : length c.self.inside.kept.items ≡ WORDS = search rules in
    ap (λ b. b.kept) (sym c.self.view_is) ∙ rw all at none
