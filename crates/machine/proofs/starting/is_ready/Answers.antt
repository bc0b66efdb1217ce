use Rattle.std.proofs.Common.{◌≡◌, ◌&&◌, true, nat_le, sym, ap, ◌∙◌, rules}
use Rattle.sizes.specs.declared.TheConstants.{LANES}
use Rattle.rules.specs.Starting.{lanes_empty}
use Rattle.machine.proofs.LaneTests.{lanes_all}
use Rattle.machine.proofs.starting.is_ready.Goals as goal

pub returns-then-depth-ge1 : goal.returns-then-depth-ge1
returns-then-depth-ge1 g c =
    let f = g.N.LaneNet.lanes c.args.net.now in
    let deep : nat_le 1 (g.N.LaneNet.depth c.args.net.now) ≡ true = search rules in
    c.lanes_empty.ensures ∙ lanes_all f LANES ∙ sym (ap (λ b. b && lanes_empty f 16) deep)
