use Rattle.std.proofs.Common.{rules}
use Rattle.script.proofs.Back.{back}
use Rattle.script.proofs.line.parse.Goals as goal

pub returns-clause-back : goal.returns-clause-back
returns-clause-back c = back _ _ (search rules)
