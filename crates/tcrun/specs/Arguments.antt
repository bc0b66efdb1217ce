-- What the arguments of tcrun ask for.
use Rattle.std.specs.Prelude.{ℕ, cond, codes, List, Some, None, Option}
use Rattle.std.specs.Borrow.{Bor}
use Rattle.std.specs.Str.{bytes_eq}
use Rattle.tcrun.specs.declared.arguments.Task.{Task}
use Rattle.tcrun.specs.declared.arguments.Task.TheVariants.{Play, Help, Version, Unknown}

-- the task that the first argument names, if there is one
abbrev pub task_of : Option (Bor (List ℕ)) → Task
task_of None = Play
task_of (Some a) = cond (bytes_eq a.now (codes "--help")) Help (cond (bytes_eq a.now (codes "--version")) Version (Unknown a))
