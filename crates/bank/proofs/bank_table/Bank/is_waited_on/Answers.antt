use Rattle.std.proofs.Common.{sym, ◌∙◌}
use Rattle.bank.proofs.Marks.{none_waits}
use Rattle.bank.proofs.bank_table.Bank.is_waited_on.Goals as goal

pub returns-else-self-ne0 : goal.returns-else-self-ne0
returns-else-self-ne0 c =
    let none_wait = sym c.self.invariant.waiting_count ∙ c.if-self-ne0.false in
    rw (c.if-self-ne0.false, ← c.self.view_is) (sym (none_waits c.args.address c.self.inside.waiting none_wait))
