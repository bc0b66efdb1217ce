use Rattle.std.proofs.Common.{◌≡◌, ◌+◌, ◌-◌, ◌*◌, ◌/◌, rules, arith}
use Rattle.images.proofs.Renewed.{Renewed, put_cell, word_alone}
use Rattle.images.proofs.image.Image.set.Goals as goal

pub returns : goal.returns
returns c =
    let xs = c.args.self.now.bytes.now in
    let ys = c.set_word.new.block in
    let a = c.args.address in
    let v = c.args.word in
    let n = 512 * (a / 126) + 512 - 512 * (a / 126) in
    let e : n ≡ 512 = omega arith in
    let done = c.set_word.ensures in
    let r : Renewed xs ys a v = record {
      fits = omega arith;
      long = omega arith;
      was = c.requires.1;
      sets = done.sets;
      keeps = done.keeps;
      checks = done.checks;
    } in
    record { cells = put_cell xs ys a v n e r; same = search rules; bytes = word_alone xs ys a v n e r; lent = search rules }
