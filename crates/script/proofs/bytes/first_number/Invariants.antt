use Rattle.std.proofs.Common.{◌≡◌, ◌-◌, ◌<◌, ◌^◌, ◌≤◌, length}
use Rattle.script.specs.Fields.{split, first, others, number, number_after}
use Rattle.script.proofs.bytes.first_number.Given as goal

-- what the digits read so far and those left write is what the field writes
abbrev pub invariant-loop-digit : goal.invariant-loop-digit
invariant-loop-digit l =
    (number_after (length l.bytes - length l.rest) l.number (first (split 32 l.rest)) ≡ number (first (split 32 l.bytes)))
    × (others (split 32 l.rest) ≡ others (split 32 l.bytes))
    × (length l.rest ≤ length l.bytes)
    × (l.number < 2 ^ 32)

abbrev pub decreases-loop-digit : goal.decreases-loop-digit
decreases-loop-digit l = length l.rest
