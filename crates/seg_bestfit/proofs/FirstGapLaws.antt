-- A heap of one allocated block, which is freed: it becomes one gap.
use Rattle.std.proofs.Common.{◌≡◌, ℕ, ◌+◌, ◌*◌, ◌^◌, ◌≤◌, true, false, List, [], ◌∷◌, length, Some, None, refl, sym, ◌∙◌, subst, arith, inl, inr, ◌⊎◌}
use Rattle.seg_spec.specs.Bytes.{set_word, Agrees}
use Rattle.seg_spec.specs.Pointer.{target, distance, set_pointer}
use Rattle.seg_spec.specs.Shapes.{leaf, IsTree}
use Rattle.seg_spec.specs.Heap.{units_before, heap_start, Begins, IsFreeTree}
use Rattle.seg_spec.proofs.BytesLaws.{number-set_same, number-set_other, length-set_number, Agrees-trans, Agrees-set_number}
use Rattle.seg_spec.proofs.PointerLaws.{target-set_same, target-same}
use Rattle.seg_block.specs.Sizes.{size_word, set_size}
use Rattle.seg_block.specs.Tiling.{tile, IsTiling, Retiles}
use Rattle.seg_block.proofs.SizeLaws.{IsHeader-set_size, Agrees-set_size, length-set_size}
use Rattle.seg_block.proofs.Heaps.{heap_of_tiling}

module _ (old : List ℕ) (u : ℕ) (small : length old ≤ 2 ^ 30) (whole : 704 + 16 * u ≡ length old) (large : 2 ≤ u) where
  abbrev first : List ℕ
  first = set_word old 708 0

  abbrev rooted : List ℕ
  rooted = set_pointer first 24 None

  abbrev pub sized : List ℕ
  sized = set_size rooted 704 u true

  length-rooted : length rooted ≡ length old
  length-rooted = length-set_number 4 first 24 (distance 24 None) ∙ length-set_number 4 old 708 0

  before_is : units_before rooted 704 ≡ 0
  before_is = number-set_other 4 4 first 24 (distance 24 None) 708 (inr (omega arith)) ∙ number-set_same 4 old 708 0 (omega arith) (omega arith)

  never : true ≡ false → ⊥
  never e = cc

  root_is : target sized 24 ≡ None
  root_is =
      target-same rooted sized 24 (number-set_other 4 4 (set_word rooted 704 (size_word u true)) (704 + 16 * u + 4) u 24 (inl (omega arith)) ∙ number-set_other 4 4 rooted 704 (size_word u true) 24 (inl (omega arith)))
      ∙ target-set_same first 24 None (omega (arith, length-set_number 4 old 708 0)) (omega arith) (λ t e. absurd (no t e))
    where
      no : (t : ℕ) → None ≡ Some t → ⊥
      no t e = cc

  empty : IsFreeTree sized []
  empty = record { tree = leaf; is_tree = subst (λ o. IsTree sized o leaf) (sym root_is) tt; red_black = record { root = tt; height = 0; balanced = refl }; nodes_are = refl; links = tt }

  pub one_block : IsTiling 1 sized (tile 704 u true ∷ [])
  one_block =
      let long = length-rooted in
      let longest = length-set_size rooted 704 u true in
      record {
        tiled = record {
          small = omega arith;
          filled = (refl, large, omega arith);
          headers = (IsHeader-set_size rooted 704 u 0 true large (omega arith) (omega arith) before_is (λ e. absurd (never e)), tt);
        };
        free = empty;
      }

  agrees : (from to : ℕ) → (to ≤ 24) ⊎ (28 ≤ from) → to ≤ 704 → Agrees old sized from to
  agrees from to out low =
      Agrees-trans old first sized from to (Agrees-set_number 4 old 708 0 from to (inl (omega arith)))
      (Agrees-trans first rooted sized from to (Agrees-set_number 4 first 24 (distance 24 None) from to out) (Agrees-set_size rooted 704 u true from to (inl low) (inl (omega arith))))

  pub begins : (new : List ℕ) → Retiles 1 sized new [] (tile 704 u false ∷ []) [] → Begins 1 old new
  begins new r =
      let now = heap_of_tiling new (tile 704 u false ∷ []) r.tiling ((λ e. absurd (never e)), tt) in
      record {
        heap = now.heap;
        front_kept = Agrees-trans old sized new 0 24 (agrees 0 24 (inl (omega arith)) (omega arith)) r.spared.front_kept;
        back_kept = Agrees-trans old sized new 28 heap_start (agrees 28 heap_start (inr (omega arith)) (omega arith)) r.spared.back_kept;
        no_block = now.live_is;
      }
