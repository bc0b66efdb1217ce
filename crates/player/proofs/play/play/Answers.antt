use Rattle.std.proofs.Common.{◌≡◌, ◌+◌, ◌∷◌, [], length, take, string_bytes, ap, ◌∙◌, inl, inr, length-append, arith}
use Rattle.std.specs.Iterator.Adapters.{zip_second}
use Rattle.std.specs.Result.{result_ok}
use Rattle.machine.specs.View.{view}
use Rattle.script.specs.Lines.{input_bytes, script}
use Rattle.player.specs.Played.{Begun, line_outcome, read_line_outcome}
use Rattle.player.proofs.Lines.{as_read, next_line, no_line, only_no_call}
use Rattle.player.proofs.Longer.{one_added, one_after, more_after, fewer_played, all_taken, on_err}
use Rattle.player.proofs.play.play.Goals as goal

pub loop-number-preserved : goal.loop-number-preserved
loop-number-preserved g c =
    let t = c.in_ok-play_and_tell.ensures in
    let n = length c.loop-number.yielded in
    let here = zip_second c.loop-number.number-iterator in
    let next = zip_second c.next.new.self in
    let line : script here ≡ result_ok c.in-Some.line ∷ script next = next_line here next c.in-Some.line c.in-Some.ensures.steps.1 in
    let number : c.in-Some.number ≡ n + 1 = c.in-Some.ensures.steps.0.0 ∙ c.loop-number.invariant.0 in
    let s = view g.Q.LaneNet g.R.LaneNet g.M.Memory c.loop-number.machine in
    let life = c.loop-number.machine.policy.lifetime in
    let read : read_line_outcome s life c.in-Some.line ≡ line_outcome s life (result_ok c.in-Some.line) =
    as_read s life c.in-Some.line (only_no_call here next c.in-Some.line c.in-Some.ensures.steps.1) in
    rw (length-append c.loop-number.yielded ((c.in-Some.number, c.in-Some.line) ∷ [])) (
      c.in-Some.ensures.steps.0.1 ∙ ap (λ k. k + 1) number,
      omega (arith, ap length line, c.loop-number.invariant.1),
      t.same ∙ c.loop-number.invariant.2,
      one_added _ _ _ _ s _ life n c.in-Some.number _ (result_ok c.in-Some.line) (script next) (c.loop-number.invariant.5 ∙ line) number
          c.loop-number.invariant.4 c.loop-number.invariant.2 c.loop-number.invariant.3 (rw read at t.bytes),
      more_after _ _ _ _ _ n _ _ _ (c.loop-number.invariant.5 ∙ line) c.loop-number.invariant.4 c.loop-number.invariant.2 t.after,
      (one_after s life n _ _ _ (c.loop-number.invariant.5 ∙ line)).1,
      record {
        requests = t.lent.requests ∙ c.loop-number.invariant.6.requests;
        answers = t.lent.answers ∙ c.loop-number.invariant.6.answers;
        memory = t.lent.memory ∙ c.loop-number.invariant.6.memory;
      },
    )

pub returns-in_err-play_and_tell-clause-begun : goal.returns-in_err-play_and_tell-clause-begun
returns-in_err-play_and_tell-clause-begun g c =
    let n = length c.loop-number.yielded in
    let here = zip_second c.loop-number.number-iterator in
    let next = zip_second c.next.new.self in
    let line : script here ≡ result_ok c.in-Some.line ∷ script next = next_line here next c.in-Some.line c.in-Some.ensures.steps.1 in
    let begun : Begun (view g.Q.LaneNet g.R.LaneNet g.M.Memory c.args.machine.now) c.args.machine.now.policy.lifetime (script (take input_bytes c.args.input.now))
    (view g.Q.LaneNet g.R.LaneNet g.M.Memory c.play_and_tell.new.machine) (string_bytes c.args.out.now) (string_bytes c.play_and_tell.new.out) = record {
      count = n;
      fewer = fewer_played n _ _ _ (c.loop-number.invariant.5 ∙ line);
      text = c.in_err-play_and_tell.ensures.bytes ∙ c.loop-number.invariant.3;
      state = more_after _ _ _ _ _ n _ (result_ok c.in-Some.line) (script next) (c.loop-number.invariant.5 ∙ line) c.loop-number.invariant.4
          c.loop-number.invariant.2 c.play_and_tell.ensures.after;
    } in
    on_err _ c.from_residual.result begun

pub returns : goal.returns
returns g c =
    let n = length c.loop-number.yielded in
    let here = zip_second c.loop-number.number-iterator in
    let none : script here ≡ [] = elim c.in-None.ensures.steps [
      | inl last ↦ absurd (omega (arith, last.1.0, c.loop-number.invariant.0, c.loop-number.invariant.1))
      | inr end ↦ no_line here end.1.0
    ] in
    let whole = all_taken n _ (c.loop-number.invariant.5 ∙ none) in
    record {
      bytes = rw whole at c.loop-number.invariant.3;
      after = rw whole at c.loop-number.invariant.4;
      begun = tt;
      same = c.loop-number.invariant.2;
      lent = c.loop-number.invariant.6;
    }
