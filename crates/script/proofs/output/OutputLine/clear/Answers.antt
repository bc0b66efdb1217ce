use Rattle.std.proofs.Common.{◌≡◌, ℕ, List, [], length, drop, arith}
use Rattle.std.proofs.lemmas.List.{drop_all}
use Rattle.std.proofs.lemmas.Str.{IsUtf8-nil}
use Rattle.script.specs.declared.output.TheConstants.{ROOM}
use Rattle.script.proofs.output.OutputLine.clear.Goals as goal

-- nothing stands behind the end
none : (bytes : List ℕ) → length bytes ≡ ROOM → drop ROOM bytes ≡ []
none bytes full = drop_all ROOM bytes (omega (arith, full))

pub invariant_of-self : goal.invariant_of-self
invariant_of-self c = (omega arith, ∣ rw (none c.self.inside.bytes c.self.told) IsUtf8-nil ∣₁)

pub returns : goal.returns
returns c = none c.self.inside.bytes c.self.told
