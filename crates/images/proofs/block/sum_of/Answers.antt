use Rattle.std.proofs.Common.{rules, ◌≡◌, ℕ, ◌%◌, ◌^◌, List, [], ◌∷◌, refl, ap, ◌∙◌}
use Rattle.std.specs.List.{sum_by, range_with_len}
use Rattle.std.proofs.lemmas.List.Sums.{sum_by-append}
use Rattle.std.proofs.lemmas.Fn.{fold_over}
use Rattle.std.proofs.iter.Yields.{nat_range_steps}
use Rattle.std.proofs.lemmas.Iterator.{YieldsList-from_range}
use Rattle.images.specs.Blocks.{word_at, total}
use Rattle.images.proofs.block.sum_of.Goals as goal

total_is : (bs : List ℕ) → sum_by (word_at bs) (range_with_len 0 127) ≡ total bs 127
unfolding total
total_is bs = refl

pub returns : goal.returns
returns c =
    let bs = c.args.block.now in
    fold_over
    nat_range_steps
    (λ (i : ℕ). i)
    _
    (λ (js : List ℕ) (s : ℕ). s ≡ sum_by (word_at bs) js % 2 ^ 32)
    _
    (λ js s i t f is step. let more = sum_by-append (word_at bs) js (i ∷ []) in search rules)
    (record { start = 0; end = 127 })
    (range_with_len 0 127)
    _
    _
    (YieldsList-from_range 0 127 127 refl refl).runs
    refl
    c.fold.ensures.ran
    ∙ ap (λ s. s % 2 ^ 32) (total_is bs)
