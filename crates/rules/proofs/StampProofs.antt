-- The laws of when a stamp runs, proved once: other proofs go by these, and not by the definition.
use Rattle.std.proofs.Common.{arith}
use Rattle.std.proofs.lemmas.Bool.Decides.{nat_tests}
use Rattle.rules.specs.Stamps.{runs}
use Rattle.rules.specs.StampLaws.{RunsOnItsTick, StampLaws}

pub laws : StampLaws
unfolding runs
laws = record {
  before = λ stamp clock h. grind (arith, nat_tests);
  more = λ stamp larger clock le h. grind (arith, nat_tests);
  bound = λ stamp clock h. grind (arith, nat_tests);
  never = λ clock h. grind (arith, nat_tests);
}

pub choice : RunsOnItsTick
unfolding runs
choice = λ stamp. grind (arith, nat_tests)
