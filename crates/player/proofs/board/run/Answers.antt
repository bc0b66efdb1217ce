use Rattle.std.proofs.Common.{◌≡◌, replicate, rules, refl, length, take, string_bytes, ap, ◌∙◌}
use Rattle.lanes.specs.Rings.{ring_lanes, ring_depth}
use Rattle.memories.specs.Cells.{word}
use Rattle.memories.specs.Rows.{row_size, row_cell}
use Rattle.sizes.specs.declared.TheConstants.{WORDS}
use Rattle.rules.specs.State.{State}
use Rattle.script.specs.Lines.{input_bytes, script}
use Rattle.player.proofs.Boards.{zeros, on_board}
use Rattle.player.proofs.board.run.Goals as goal

pub returns : goal.returns
returns c =
    let requests : length c.as_mut_slice.result.now ≡ 512 = search rules in
    let answers : length c.as_mut_slice-2.result.now ≡ 512 = search rules in
    let words : c.as_mut_slice-3.result.now ≡ replicate WORDS 0 = search rules in
    let m = c.new-machine.result in
    let p = c.new-machine.ensures in
    let s : State = record {
      tables = m.tables;
      requests = record { lanes = ring_lanes m.requests; depth = ring_depth m.requests };
      answers = record { lanes = ring_lanes m.answers; depth = ring_depth m.answers };
      memory = record { size = row_size m.memory; cell = row_cell m.memory };
    } in
    on_board s (p.tables ∙ c.in_ok-tables.ensures)
    (λ k. rw p.requests (c.new-2.ensures.empty k)) (rw (p.requests, c.new-2.ensures.depth, requests) refl)
    (λ k. rw p.answers (c.new-3.ensures.empty k)) (rw (p.answers, c.new-3.ensures.depth, answers) refl)
    (rw (p.memory, c.new-4.ensures.words, words) refl) (λ a. rw (p.memory, c.new-4.ensures.words, words) (ap word (zeros WORDS a)))
    (string_bytes c.play.new.out) (string_bytes c.new-out.result) m.policy.lifetime (script (take input_bytes c.args.input.now))
    c.in_ok-play.ensures.bytes c.new-out.ensures.bytes (rw p.policy c.new-5.ensures)
