use Rattle.std.proofs.Common.{◌≡◌, length, replicate, vec_items, vec_len, vec_capacity}
use Rattle.rules.specs.Cores.{fresh_core}
use Rattle.machine.proofs.tables.enlist.Given as goal

abbrev pub invariant-loop-core : goal.invariant-loop-core
invariant-loop-core l =
    (vec_items l.cores ≡ replicate (length l.yielded) fresh_core)
    × (vec_len l.cores ≡ length l.yielded)
    × (vec_capacity l.cores ≡ vec_capacity l.initial.cores)
