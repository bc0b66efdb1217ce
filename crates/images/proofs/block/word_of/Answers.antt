use Rattle.std.proofs.Common.{arith}
use Rattle.std.proofs.lemmas.List.{places}
use Rattle.images.proofs.Chunks.{chunk_at}
use Rattle.images.proofs.block.word_of.Goals as goal

pub returns : goal.returns
returns c =
    let word = chunk_at 4 _ c.args.i c.args.block.now _ c.as_chunks.ensures.front (omega arith) in
    grind (arith, places, word, c.from_le_bytes.ensures)
