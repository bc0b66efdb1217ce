use Rattle.std.proofs.Common.{rules}
use Rattle.machine.proofs.machine.Machine.load.Goals as goal

pub returns-in_err-send : goal.returns-in_err-send
returns-in_err-send g c = record { answer = search rules; after = search rules; told = search rules; lent = search rules }
