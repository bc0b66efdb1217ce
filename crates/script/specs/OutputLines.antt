-- The lines that tell the outcomes of a script's calls.
use Rattle.std.specs.Prelude.{ℕ, List, ◌++◌, codes, decimal}
use Rattle.calls.specs.Texts.{outcome_text}
use Rattle.calls.specs.declared.outcome.Outcome.{Outcome}

-- the line of line n's outcome
abbrev pub output_line : ℕ → Outcome → List ℕ
output_line n o = decimal n ++ (codes " " ++ (outcome_text o ++ codes "\n"))
