use Rattle.std.proofs.Common.{ap, arith}
use Rattle.images.specs.Blocks.{total}
use Rattle.images.proofs.Chunks.{chunk_whole}
use Rattle.images.proofs.Words.{word_kept, total_same}
use Rattle.images.proofs.block.set_word.Goals as goal

pub returns-clause-checks : goal.returns-clause-checks
returns-clause-checks c =
    let first = c.put_word.new.block in
    let last = c.put_word-2.new.block in
    let kept = c.put_word-2.ensures.keeps in
    let sum = total_same first last 127 (λ j l. word_kept first last j (λ p u v. kept p (λ x y. omega arith))) in
    let block = chunk_whole 512 _ first _ c.as_chunks.ensures.front (omega arith) (omega arith) in
    let read = ap (λ bs. total bs 127) block in
    omega arith
