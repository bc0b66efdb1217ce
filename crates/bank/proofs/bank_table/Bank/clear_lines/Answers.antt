use Rattle.std.proofs.Common.{◌≡◌, false, Option, is_some, Some, None, length, refl, sym, ap, ◌∙◌, arith, rules}
use Rattle.sizes.specs.declared.TheConstants.{WORDS}
use Rattle.bank.proofs.Empty.{none_counted}
use Rattle.bank.proofs.bank_table.Bank.clear_lines.Goals as goal

-- what is not counted as a line
no_line : {A : Type 0} (x : Option A) → is_some x ≡ false → x ≡ None
no_line None h = refl
no_line (Some x) h = search rules

pub returns-then-self-ne0-clause-lines : goal.returns-then-self-ne0-clause-lines
returns-then-self-ne0-clause-lines c =
    rw (c.fill.ensures.items (elim [ None ↦ λ _. refl | Some x ↦ λ h. absurd h ]), c.self.invariant.lines) refl

pub returns-else-self-ne0-clause-lines : goal.returns-else-self-ne0-clause-lines
returns-else-self-ne0-clause-lines c =
    let none = none_counted is_some None no_line c.self.inside.lines.items (omega (arith, c.self.invariant.line_count, c.if-self-ne0.false)) in
    let all : length c.self.inside.lines.items ≡ WORDS = search rules in
    ap (λ b. b.lines) (sym c.self.view_is) ∙ rw all at none
