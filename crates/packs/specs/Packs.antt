-- How a lane's messages lie as words.
use Rattle.std.specs.Prelude.{ℕ, cond, List, [], ◌∷◌, Some, None, Option, nat_le, slice_index_or}
use Rattle.sizes.specs.declared.TheConstants.{LANES}
use Rattle.messages.specs.declared.form.FiveWords as form
use Rattle.packs.specs.declared.packed.Packed.{Packed}

-- how many messages a packed lane takes
abbrev pub pack_depth : ℕ
pack_depth = 8

abbrev pub before : {A : Type 0} → Option A → List A → List A
before (Some m) ms = m ∷ ms
before None ms = []

-- groups of words read as messages, up to the first group that is none
abbrev pub messages_of : {A : Type 0} → (List ℕ → Option A) → List (List ℕ) → List A
messages_of read [] = []
messages_of read (ws ∷ groups) = before (read ws) (messages_of read groups)

module _ {A : Type 0} (f : form.Ghosts A) where
  -- a lane is its groups
  abbrev pub pack_lanes : Packed A → ℕ → List A
  pack_lanes s k = cond (nat_le LANES k) [] (messages_of f.message (slice_index_or s.lanes k []))
