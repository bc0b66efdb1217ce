-- Messages as groups of words.
use Rattle.std.proofs.Common.{◌≡◌, ℕ, ◌+◌, ◌<◌, ◌≤◌, List, [], ◌∷◌, ◌++◌, length, take, take_while, set, is_some, Option, refl, arith, sym, zero-le}
use Rattle.std.proofs.lemmas.List.{length-take, take-take, take_more_set}
use Rattle.std.proofs.lemmas.Grind.{common_steps}
use Rattle.packs.specs.Packs.{before, messages_of}

module _ {A : Type 0} (read : List ℕ → Option A) where
  -- the groups that are messages, up to the first that is none
  pub how_many : (groups : List (List ℕ)) → length (messages_of read groups) ≡ length (take_while (λ ws. is_some (read ws)) groups)
  how_many [] = refl
  how_many (ws ∷ groups) = let rest = how_many groups in grind (arith, common_steps, rest)

  at_most : (groups : List (List ℕ)) → length (messages_of read groups) ≤ length groups
  at_most [] = zero-le
  at_most (ws ∷ groups) = let rest = at_most groups in grind (arith, common_steps, rest)

  -- one group more behind those that are messages
  behind :
      (groups : List (List ℕ)) (ws : List ℕ) →
      messages_of read (take (length (messages_of read groups)) groups ++ ws ∷ []) ≡ messages_of read groups ++ before (read ws) []
  behind [] ws = refl
  behind (w ∷ groups) ws = let rest = behind groups ws in grind (arith, common_steps, rest)

  -- the same where n of the groups counted
  pub one_more :
      (groups : List (List ℕ)) (n : ℕ) (ws : List ℕ) → length (messages_of read (take n groups)) < length groups →
      messages_of read (take (length (messages_of read (take n groups)) + 1) (set groups (length (messages_of read (take n groups))) ws))
      ≡ messages_of read (take n groups) ++ before (read ws) []
  one_more groups n ws fits =
      let c = length (messages_of read (take n groups)) in
      let few : c ≤ n = omega (arith, at_most (take n groups), length-take n groups) in
      rw (take_more_set groups c ws fits, sym (take-take c n groups few), behind (take n groups) ws)
