-- The bank's tables as the rule book has them.
use Rattle.std.specs.Prelude.{◌≡◌, ◌≤◌, count_by, is_some, length, nat_le, vec_items, vec_len}
use Rattle.sizes.specs.declared.TheConstants.{KEPT_STAMPS, LANES, LINES, WORDS}
use Rattle.rules.specs.State.{BankState}
use Rattle.bank.specs.declared.bank_table.Bank.TheInside.{Inside as BankTables}

abbrev pub bank_state : BankTables → BankState
bank_state b = record { lines = vec_items b.lines; kept = vec_items b.kept; waiting = b.waiting }

-- the bounds of the bank's tables, which every call keeps, and what is counted beside them
pub record BankInBounds (b : BankTables) : Type 0 where
  pub lines : vec_len b.lines ≡ WORDS
  pub line_count : b.line_count ≡ count_by is_some b.lines.items
  pub line_room : b.line_count ≤ LINES
  pub kept : vec_len b.kept ≡ WORDS
  pub kept_count : b.kept_count ≡ count_by (nat_le 1) b.kept.items
  pub kept_room : b.kept_count ≤ KEPT_STAMPS
  pub waiting : length b.waiting ≡ LANES
  pub waiting_count : b.waiting_count ≡ count_by is_some b.waiting
