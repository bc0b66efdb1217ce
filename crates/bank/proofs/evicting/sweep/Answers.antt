use Rattle.bank.proofs.Keeping.{swept_kept, swept_running}
use Rattle.bank.proofs.evicting.sweep.Goals as goal

pub returns-clause-kept : goal.returns-clause-kept
returns-clause-kept c = rw (c.count.ensures, c.zero_over.ensures) (swept_kept c.args.clock c.args.stamps.now)

pub returns-clause-running : goal.returns-clause-running
returns-clause-running c = rw (c.count.ensures, c.zero_over.ensures) (swept_running c.args.clock c.args.stamps.now)
