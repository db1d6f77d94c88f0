-- An image has the same content after its version is set to the one that may have frozen objects.
use Rattle.std.proofs.Common.{◌≡◌, ℕ, ◌+◌, ◌-◌, ◌≤◌, inl, inr, List, ◌++◌, length, sym, ap, ◌∙◌, subst, arith}
use Rattle.seg_spec.specs.Bytes.{word, ChangesOnly, IsSame}
use Rattle.seg_spec.specs.Header.{version_word, units_word, allocator_word, index_kind_word, free_word, next_word, index_cell, reserved, reserved_size, types_start, types_size, uniques_start, uniques_size, heap_start, sharing_version}
use Rattle.seg_spec.specs.Types.{Form, version_of}
use Rattle.seg_spec.specs.Heap.{live}
use Rattle.seg_spec.specs.Sound.{Picture, HasHeader, IsHeld, times, positions}
use Rattle.seg_spec.specs.Images.{IsSound, upgraded}
use Rattle.seg_spec.specs.Counting.{AreCounted}
use Rattle.seg_spec.proofs.Images.TypeAdditionLaws.{heap_same, blocks_same}
use Rattle.seg_spec.proofs.BytesLaws.{number-set_same}
use Rattle.seg_spec.proofs.Values.PlaceFrameLaws.{word-same, each_left, each_right}
use Rattle.seg_spec.proofs.Heap.HeapFrameLaws.{IsHeap-kept, live-kept, IsOwnable-kept}
use Rattle.seg_spec.proofs.Images.RootFrameLaws.{HoldsRoots-kept, ListsNames-kept, ListsUniques-kept}
use Rattle.seg_spec.proofs.Images.RootWriteLaws.{set_number-changes}

-- images of this version may have all types
pub any_type : (form : Form) → version_of form ≤ sharing_version
any_type Form.i64 = omega arith
any_type Form.str = omega arith
any_type (Form.vec U) = omega arith
any_type (Form.list U) = omega arith
any_type (Form.flat_map U) = omega arith
any_type (Form.map U) = omega arith
any_type (Form.own U) = omega arith
any_type (Form.struct Us) = omega arith
any_type (Form.shared U) = omega arith

module _ (old : List ℕ) where
  abbrev new : List ℕ
  new = upgraded old

  pub upgrade_changes : ChangesOnly old new version_word 4
  upgrade_changes = set_number-changes 4 old version_word sharing_version

  before : (p n : ℕ) → p + n ≤ version_word → IsSame old new p n
  before p n low = upgrade_changes.others p n (inl low)

  after : (p n : ℕ) → units_word ≤ p → IsSame old new p n
  after p n high = upgrade_changes.others p n (inr high)

  pub same_word : (at : ℕ) → units_word ≤ at → word new at ≡ word old at
  same_word at high = word-same old new at (after at 4 high)

  pub upgraded_version : version_word + 4 ≤ length old → word new version_word ≡ sharing_version
  upgraded_version fits = number-set_same 4 old version_word sharing_version fits (omega arith)

  upgraded_header : HasHeader old → HasHeader new
  upgraded_header o =
      let len = upgrade_changes.length_kept in
      record {
        not_small = rw len o.not_small;
        not_large = rw len o.not_large;
        whole_units = rw len o.whole_units;
        magic = before 0 8 (omega arith) ∙ o.magic;
        version = inr (upgraded_version (let small = o.not_small in omega arith));
        units_are = rw (same_word units_word (omega arith), len) o.units_are;
        allocator_is = rw (same_word allocator_word (omega arith)) o.allocator_is;
        index_is = rw (same_word index_kind_word (omega arith)) o.index_is;
        zeros = after reserved reserved_size (omega arith) ∙ o.zeros;
      }

  pub upgraded_held : (picture : Picture) → IsHeld old picture → IsHeld new picture
  upgraded_held picture held =
      let l = held.laid_out in
      let len = upgrade_changes.length_kept in
      let high : IsSame old new heap_start (length old - heap_start) = after heap_start (length old - heap_start) (omega arith) in
      let root = after free_word 4 (omega arith) in
      let tiles_same = heap_same old new (word old allocator_word) l.heap len root high in
      let kept = blocks_same old new (word old allocator_word) l.heap len root high (held.index_blocks ++ held.root_blocks) held.owners in
      let same_live = live-kept old new (word old allocator_word) l.heap tiles_same in
      record {
        index_blocks = held.index_blocks;
        laid_out = record {
          header = upgraded_header l.header;
          types = after types_start types_size (omega arith) ∙ l.types;
          is_table = l.is_table;
          of_version = record { each = λ T form e. subst (λ n. version_of form ≤ n) (sym (upgraded_version (let small = l.header.not_small in omega arith))) (any_type form) };
          heap = rw (same_word allocator_word (omega arith)) (IsHeap-kept old new (word old allocator_word) l.heap tiles_same);
          blocks = IsOwnable-kept old new (word old allocator_word) l.heap tiles_same picture.table l.blocks;
          names = ListsNames-kept old new picture.names held.index_blocks (after index_kind_word 4 (omega arith)) (after index_cell 8 (omega arith)) (each_left _ held.index_blocks held.root_blocks kept) l.names;
          uniques = ListsUniques-kept old new picture.uniques (after uniques_start uniques_size (omega arith)) l.uniques;
          plain = l.plain;
        };
        root_blocks = held.root_blocks;
        roots = HoldsRoots-kept old new picture.table l.is_table held.roots (each_right _ held.index_blocks held.root_blocks kept);
        owners = λ h. ap (λ bs. times h (positions bs)) same_live ∙ held.owners h;
      }

  pub upgraded_counted : (picture : Picture) → AreCounted (word old next_word) picture → AreCounted (word new next_word) picture
  upgraded_counted picture c = subst (λ n. AreCounted n picture) (sym (same_word next_word (omega arith))) c

  -- the allocated blocks are the same
  pub upgraded_live : (picture : Picture) → IsHeld old picture → live new ≡ live old
  upgraded_live picture held =
      let high : IsSame old new heap_start (length old - heap_start) = after heap_start (length old - heap_start) (omega arith) in
      live-kept old new (word old allocator_word) held.laid_out.heap (heap_same old new (word old allocator_word) held.laid_out.heap upgrade_changes.length_kept (after free_word 4 (omega arith)) high)

  pub upgraded_sound : IsSound old → IsSound new
  upgraded_sound s = record { picture = s.picture; held = upgraded_held s.picture s.held; counted = upgraded_counted s.picture s.counted; none_loose = s.none_loose }
