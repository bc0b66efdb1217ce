use Rattle.std.proofs.Common.{◌≡◌, cond, Some, None, Option, is_some, replicate, refl, ap, ◌∙◌, rules}
use Rattle.std.specs.List.{count_by}
use Rattle.std.proofs.lemmas.List.Folds.{sum_by-replicate}
use Rattle.sizes.specs.declared.TheConstants.{WORDS}
use Rattle.rules.specs.declared.record.Line.{Line}
use Rattle.bank.proofs.bank_table.Bank.new.Goals as goal

pub invariant_of-result : goal.invariant_of-result
invariant_of-result c =
    let none = c.in_ok-vec.ensures.items_if_clones_equal (elim [ None ↦ λ _. refl | Some x ↦ λ h. absurd h ]) in
    let zero : count_by (is_some {T = Line}) (replicate WORDS None) ≡ 0 = sum_by-replicate (λ (l : Option Line). cond (is_some l) 1 0) WORDS None in
    let e = ap (count_by (is_some {T = Line})) none ∙ zero in
    search rules

pub returns : goal.returns
returns c =
    let none = c.in_ok-vec.ensures.items_if_clones_equal (elim [ None ↦ λ _. refl | Some x ↦ λ h. absurd h ]) in
    let zeros = c.in_ok-vec-2.ensures.items_if_clones_equal (λ y h. h) in
    rw (none, zeros) refl
