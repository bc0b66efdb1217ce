-- The tables as the rule book has them.
use Rattle.std.specs.Prelude.{◌≡◌, ◌+◌, ◌≤◌, vec_capacity, vec_items, vec_len}
use Rattle.sizes.specs.declared.TheConstants.{LANES}
use Rattle.machine.specs.declared.tables.Tables.TheInside.{Inside as MachineTables}
use Rattle.rules.specs.State.{TablesState}

abbrev pub tables_state : MachineTables → TablesState
tables_state t = record {
  clock = t.clock;
  protocol = t.protocol;
  cores = vec_items t.cores;
  bank = t.bank;
}

-- the bounds of the tables, which every call keeps: ticks begin at 1, and the cores and those in reserve are as many as lanes
pub record TablesInBounds (t : MachineTables) : Type 0 where
  pub ticks : 1 ≤ t.clock
  pub reserved : LANES ≤ vec_capacity t.cores
  pub cores : vec_len t.cores + vec_len t.spare ≡ LANES
