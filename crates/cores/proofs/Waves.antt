-- A wave's stamp is set, and every fence stays.
use Rattle.std.proofs.Common.{◌≡◌, ℕ, ◌<◌, Bool, false, List, length, map, get_or, slice_set}
use Rattle.std.proofs.lemmas.List.{map-set, get_or-map, set-get_or}
use Rattle.cores.specs.declared.core_table.Wave.{Wave}

abbrev stamps : List Wave → List ℕ
stamps = map (λ (w : Wave). w.visible)

abbrev fences : List Wave → List Bool
fences = map (λ (w : Wave). w.fenced)

module _ (waves : List Wave) (i : ℕ) (d : Wave) where
  pub stamp_set : (w : Wave) → stamps (slice_set waves i w) ≡ slice_set (stamps waves) i w.visible
  stamp_set w = map-set (λ (w : Wave). w.visible) waves i w

  pub stamp_at : i < length waves → get_or (stamps waves) i 0 ≡ (get_or waves i d).visible
  stamp_at h = get_or-map (λ (w : Wave). w.visible) waves i d 0 h

  pub fences_stay : (t : ℕ) → i < length waves → fences (slice_set waves i (record { visible = t; fenced = (get_or waves i d).fenced })) ≡ fences waves
  fences_stay t h =
      rw (map-set (λ (w : Wave). w.fenced) waves i _, ← get_or-map (λ (w : Wave). w.fenced) waves i d false h, set-get_or)
