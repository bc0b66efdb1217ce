use Rattle.std.proofs.Common.{ap, ◌∙◌, arith, length}
use Rattle.std.proofs.lemmas.List.{take_all, length-take}
use Rattle.script.specs.Lines.{input_bytes, script}
use Rattle.script.proofs.Splits.{script_length}
use Rattle.script.proofs.Back.{read_lines}
use Rattle.script.proofs.reader.Reader.new.Goals as goal

pub returns-clause-few : goal.returns-clause-few
returns-clause-few c = omega (arith, script_length c.limited.result.now, ap length c.limited.ensures, length-take input_bytes c.args.input.now)

pub returns-clause-back : goal.returns-clause-back
returns-clause-back c = λ cs h w short. ap script (c.limited.ensures ∙ take_all input_bytes c.args.input.now short ∙ w) ∙ read_lines cs h
