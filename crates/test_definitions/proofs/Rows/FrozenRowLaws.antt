-- What an instruction keeps of a frozen object that stays.
use Rattle.std.proofs.Common.{◌≡◌, ◌≢◌, ℕ, ◌+◌, inr, List, ap, subst, arith}
use Rattle.std.specs.Prelude.{Contains}
use Rattle.std.specs.List.{AllByRecursion}
use Rattle.seg_spec.specs.Bytes.{IsSame}
use Rattle.seg_spec.specs.Types.{Table, size}
use Rattle.seg_spec.specs.Apart.{KeepsBlockAround}
use Rattle.seg_spec.specs.Index.{Root}
use Rattle.seg_spec.specs.Frozen.{Frozen, root_of_frozen}
use Rattle.seg_spec.specs.Shared.{with_count}
use Rattle.seg_spec.specs.Sound.{payload_of, HoldsRoot}
use Rattle.seg_spec.proofs.Heap.KeptBlockLaws.{each_contained}
use Rattle.client_spec.specs.Syntax.{Constant, Instruction}
use Rattle.client_spec.specs.Answer.{Answer}
use Rattle.client_spec.specs.Ties.{FrozenKept}
use Rattle.client_spec.specs.OnImages.{Move, Situation, RowOn}

module _ {old new : List ℕ} {table : Table} {before after : List Frozen} (kept : FrozenKept old new table before after) (f g : Frozen) (was : Contains before f) (is : Contains after g) (same : g.at ≡ f.at) where
  abbrev Kept : Frozen → Frozen → Type 0
  Kept x y = y.at ≡ x.at → (y ≡ with_count x y.count) × AllByRecursion (KeepsBlockAround old new x.at 4) (kept.theirs x.at)

  stays : (g ≡ with_count f g.count) × AllByRecursion (KeepsBlockAround old new f.at 4) (kept.theirs f.at)
  stays = each_contained (Kept f) after g (each_contained (λ (x : Frozen). AllByRecursion (Kept x) after) before f kept.each was) is same

  same_content : (g.type ≡ f.type) × (g.number ≡ f.number) × (g.value ≡ f.value)
  same_content = (ap (λ (x : Frozen). x.type) stays.0, ap (λ (x : Frozen). x.number) stays.0, ap (λ (x : Frozen). x.value) stays.0)

  -- the number, and the value's own bytes
  same_bytes : IsSame old new (f.at + 4) (4 + size table f.type)
  same_bytes =
      let o : HoldsRoot old table (root_of_frozen f) (kept.theirs f.at) = each_contained (λ (x : Frozen). HoldsRoot old table (root_of_frozen x) (kept.theirs x.at)) before f kept.holds was in
      let around = subst (AllByRecursion (KeepsBlockAround old new f.at 4)) o.blocks_are stays.1 in
      let at_is : payload_of (root_of_frozen f) ≡ f.at = omega arith in
      around.0.payload (f.at + 4) (4 + size table f.type) (omega (arith, o.block.after_header, at_is)) (omega (arith, o.block.after_header, o.block.room, at_is)) (inr (omega arith))

module _ (constants : List Constant) (others : List Root) (moves : List Move) (i : Instruction) (x y : Situation) (answer : Answer) (row : RowOn constants others moves i x answer y) (f g : Frozen)
    (was : Contains row.before.pictured.picture.frozen f) (is : Contains row.after.pictured.picture.frozen g) (same : g.at ≡ f.at) where
  pub object_stays : (g.type ≡ f.type) × (g.number ≡ f.number) × (g.value ≡ f.value)
  object_stays = same_content row.frozen_kept f g was is same

  pub bytes_stay : IsSame x.image y.image (f.at + 4) (4 + size row.before.pictured.picture.table f.type)
  bytes_stay = same_bytes row.frozen_kept f g was is same

  pub no_other_value : g.value ≢ f.value → ⊥
  no_other_value other = other object_stays.2

  pub no_other_bytes : (IsSame x.image y.image (f.at + 4) (4 + size row.before.pictured.picture.table f.type) → ⊥) → ⊥
  no_other_bytes differ = differ bytes_stay
