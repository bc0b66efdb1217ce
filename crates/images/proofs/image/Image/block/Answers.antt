use Rattle.std.proofs.Common.{◌≡◌, ℕ, ◌/◌, ◌<◌, false, Ok, Err, List, sym, arith, ap, ◌∙◌}
use Rattle.std.proofs.lemmas.Bool.Decides.{nat_tests}
use Rattle.memories.specs.Cells.{known, write_answer}
use Rattle.memories.specs.declared.memory.Fault.TheVariants.{Unreadable}
use Rattle.images.specs.Blocks.{block_at, cell_of, sound}
use Rattle.images.proofs.Chunks.{chunk_at}
use Rattle.images.proofs.image.Image.block.Goals as goal

below : (n a : ℕ) (u : Unit) → known n a ≡ Ok u → a < n
below n a u h = grind (arith, nat_tests)

refused : (bytes : List ℕ) (n a : ℕ) → a < n → sound (a / 126) (block_at bytes (a / 126)) ≡ false
    → write_answer n (cell_of bytes) a ≡ Err (Unreadable (a / 126))
refused bytes n a l s = grind (arith, nat_tests)

pub returns-then-is_sound-clause-found : goal.returns-then-is_sound-clause-found
returns-then-is_sound-clause-found c =
    let inside = below _ _ _ (sym c.check.ensures ∙ c.in_ok-check.was) in
    let block = chunk_at 512 _ (c.args.address / 126) c.args.self.now.bytes.now _ c.as_chunks.ensures.front (omega arith) in
    record {
      known = inside;
      readable = ap (sound (c.args.address / 126)) (sym block) ∙ sym c.is_sound.ensures ∙ c.if-is_sound.true;
      bytes = block;
    }

pub returns-else-is_sound-clause-answer : goal.returns-else-is_sound-clause-answer
returns-else-is_sound-clause-answer c =
    let inside = below _ _ _ (sym c.check.ensures ∙ c.in_ok-check.was) in
    let block = chunk_at 512 _ (c.args.address / 126) c.args.self.now.bytes.now _ c.as_chunks.ensures.front (omega arith) in
    refused _ _ _ inside (ap (sound (c.args.address / 126)) (sym block) ∙ sym c.is_sound.ensures ∙ c.if-is_sound.false)
