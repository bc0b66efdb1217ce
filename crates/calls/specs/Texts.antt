-- The words that tell what a call came to.
use Rattle.std.specs.Prelude.{ℕ, List, ◌++◌, codes, decimal}
use Rattle.calls.specs.Causes.{number_of, text_of}
use Rattle.calls.specs.declared.outcome.Delivered.{Delivered}
use Rattle.calls.specs.declared.outcome.Delivered.TheVariants.{Load, Store, Atomic, Fault}
use Rattle.calls.specs.declared.outcome.Outcome.{Outcome}
use Rattle.calls.specs.declared.outcome.Outcome.TheVariants.{Started, Hit, Sent, Served, Delivered as Handed, Ticked, Evicted, Forgotten, NoCopy, Refused}

-- two numbers, a blank apart
abbrev pub pair : ℕ → ℕ → List ℕ
pair m n = decimal m ++ (codes " " ++ decimal n)

-- what a core was handed
abbrev pub delivered_text : Delivered → List ℕ
delivered_text (Load wave address value) = codes "load " ++ pair address value
delivered_text (Store wave address) = codes "store " ++ decimal address
delivered_text (Atomic wave address value) = codes "atomic " ++ pair address value
delivered_text (Fault wave address block) = codes "fault " ++ pair address block

-- what a call came to
abbrev pub outcome_text : Outcome → List ℕ
outcome_text Started = codes "started"
outcome_text (Hit address value) = codes "load " ++ pair address value
outcome_text Sent = codes "sent"
outcome_text Served = codes "served"
outcome_text (Handed d) = delivered_text d
outcome_text (Ticked clock) = codes "tick " ++ decimal clock
outcome_text Evicted = codes "evicted"
outcome_text Forgotten = codes "forgotten"
outcome_text NoCopy = codes "no copy"
outcome_text (Refused cause) = codes "refused " ++ (decimal (number_of cause) ++ (codes " " ++ text_of cause))
