-- A heap of one gap.
use Rattle.std.proofs.Common.{◌≡◌, ℕ, ◌+◌, ◌*◌, ◌^◌, ◌≤◌, true, false, List, [], ◌∷◌, length, Some, None, refl, ◌∙◌, arith, inl, inr, ◌⊎◌}
use Rattle.seg_spec.specs.Bytes.{set_word, Agrees}
use Rattle.seg_spec.specs.Pointer.{distance, set_pointer}
use Rattle.seg_spec.specs.Heap.{units_before, tag_at, heap_start, Begins}
use Rattle.seg_spec.proofs.BytesLaws.{number-set_same, number-set_other, length-set_number, Agrees-trans, Agrees-set_number}
use Rattle.seg_spec.proofs.PointerLaws.{target-set_same, target-same}
use Rattle.seg_block.specs.Sizes.{size_word, set_size}
use Rattle.seg_block.specs.Tiling.{tile, IsTiling}
use Rattle.seg_block.proofs.SizeLaws.{IsHeader-set_size, Agrees-set_size, length-set_size}
use Rattle.seg_block.proofs.Heaps.{heap_of_tiling}

module _ (old : List ℕ) (u : ℕ) (small : length old ≤ 2 ^ 30) (whole : 704 + 16 * u ≡ length old) (large : 2 ≤ u) where
  abbrev first : List ℕ
  first = set_word old 708 0

  abbrev tagged : List ℕ
  tagged = set_word first 712 0

  abbrev linked : List ℕ
  linked = set_pointer tagged 716 None

  abbrev headed : List ℕ
  headed = set_pointer linked 24 (Some 720)

  abbrev begun : List ℕ
  begun = set_size headed 704 u false

  length-linked : length linked ≡ length old
  length-linked = length-set_number 4 tagged 716 (distance 716 None) ∙ length-set_number 4 first 712 0 ∙ length-set_number 4 old 708 0

  length-headed : length headed ≡ length old
  length-headed = length-set_number 4 linked 24 (distance 24 (Some 720)) ∙ length-linked

  before_is : units_before headed 704 ≡ 0
  before_is =
      number-set_other 4 4 linked 24 (distance 24 (Some 720)) 708 (inr (omega arith)) ∙ number-set_other 4 4 tagged 716 (distance 716 None) 708 (inl (omega arith))
      ∙ number-set_other 4 4 first 712 0 708 (inl (omega arith)) ∙ number-set_same 4 old 708 0 (omega arith) (omega arith)

  tag_is : tag_at headed 704 ≡ 0
  tag_is =
      number-set_other 4 4 linked 24 (distance 24 (Some 720)) 712 (inr (omega arith)) ∙ number-set_other 4 4 tagged 716 (distance 716 None) 712 (inl (omega arith))
      ∙ number-set_same 4 first 712 0 (omega (arith, length-set_number 4 old 708 0)) (omega arith)

  tiling : IsTiling 0 begun (tile 704 u false ∷ [])
  tiling =
      let long = length-headed in
      let longer = length-linked in
      let longest = length-set_size headed 704 u false in
      record {
        tiled = record {
          small = omega arith;
          filled = (refl, large, omega arith);
          headers = (IsHeader-set_size headed 704 u 0 false large (omega arith) (omega arith) before_is (λ _. tag_is), tt);
        };
        free = (
          target-same headed begun 24 (number-set_other 4 4 (set_word headed 704 (size_word u false)) (704 + 16 * u + 4) u 24 (inl (omega arith)) ∙ number-set_other 4 4 headed 704 (size_word u false) 24 (inl (omega arith)))
              ∙ target-set_same linked 24 (Some 720) (omega arith) (omega arith) (λ t e. let is : 720 ≡ t = some_same e in (omega arith, λ k. absurd (omega arith))),
          target-same linked begun 716 (number-set_other 4 4 (set_word headed 704 (size_word u false)) (704 + 16 * u + 4) u 716 (inl (omega arith))
              ∙ number-set_other 4 4 headed 704 (size_word u false) 716 (inr (omega arith)) ∙ number-set_other 4 4 linked 24 (distance 24 (Some 720)) 716 (inr (omega arith)))
              ∙ target-set_same tagged 716 None (omega (arith, length-set_number 4 first 712 0, length-set_number 4 old 708 0)) (omega arith) (λ t e. absurd (never t e)),
        );
      }
    where
      some_same : {t : ℕ} → Some 720 ≡ Some t → 720 ≡ t
      some_same e = cc

      never : (t : ℕ) → None ≡ Some t → ⊥
      never t e = cc

  agrees : (from to : ℕ) → (to ≤ 24) ⊎ (28 ≤ from) → to ≤ 704 → Agrees old begun from to
  agrees from to out low =
      Agrees-trans old first begun from to (Agrees-set_number 4 old 708 0 from to (inl (omega arith)))
      (Agrees-trans first tagged begun from to (Agrees-set_number 4 first 712 0 from to (inl (omega arith)))
      (Agrees-trans tagged linked begun from to (Agrees-set_number 4 tagged 716 (distance 716 None) from to (inl (omega arith)))
      (Agrees-trans linked headed begun from to (Agrees-set_number 4 linked 24 (distance 24 (Some 720)) from to out)
      (Agrees-set_size headed 704 u false from to (inl low) (inl (omega arith))))))

  pub begins : Begins 0 old begun
  begins =
      let now = heap_of_tiling begun (tile 704 u false ∷ []) tiling ((λ e. absurd (never e)), tt) in
      record {
        heap = now.heap;
        front_kept = agrees 0 24 (inl (omega arith)) (omega arith);
        back_kept = agrees 28 heap_start (inr (omega arith)) (omega arith);
        no_block = now.live_is;
      }
    where
      never : true ≡ false → ⊥
      never e = cc
