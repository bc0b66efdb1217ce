use Rattle.std.proofs.Common.{◌≡◌, ℕ, nat_le, false, rules}
use Rattle.std.specs.List.{count_by}
use Rattle.bank.proofs.Keeping.{running_kept}
use Rattle.rules.specs.Stamps.{runs}
use Rattle.bank.proofs.bank_table.Bank.is_kept_full.Goals as goal
use Rattle.bank.proofs.bank_table.Bank.is_kept_full.Goals.{then-runs, else-runs}

pub returns-else-self-ge-KEPT_STAMPS : goal.returns-else-self-ge-KEPT_STAMPS
returns-else-self-ge-KEPT_STAMPS c =
    let fewer = running_kept c.args.clock c.self.inside.kept.items c.requires in
    elim c.if-runs.branch [
      | then-runs w ↦
          let few : nat_le 128 (count_by (λ (t : ℕ). runs t c.args.clock) c.self.inside.kept.items) ≡ false = search rules in
          rw (← c.self.view_is) (search rules)
      | else-runs w ↦ rw (← c.self.view_is) (search rules)
    ]
