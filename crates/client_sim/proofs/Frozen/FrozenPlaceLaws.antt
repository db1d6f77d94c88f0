-- At the end of a path inside a frozen object there is a place as calls need it; and the copy for a
-- cell that shares the object.
use Rattle.std.proofs.Common.{◌≡◌, ℕ, suc, ◌+◌, ◌*◌, ◌<◌, ◌≤◌, inl, inr, true, false, List, [], ◌∷◌, ◌++◌, map, length, Some, refl, sym, ◌∙◌, ap, subst, append_assoc, arith}
use Rattle.std.specs.Prelude.{Bool, ◌==◌, if◌then◌else◌}
use Rattle.std.proofs.lemmas.Bool.{cases_eq, eqb-true, eq-eqb}
use Rattle.std.proofs.lemmas.List.{map-append}
use Rattle.std.specs.List.{AllByRecursion}
use Rattle.seg_spec.specs.Types.{size}
use Rattle.seg_spec.specs.Value.{Value, Full, Selector, value_at}
use Rattle.seg_spec.specs.Bytes.{word}
use Rattle.seg_spec.specs.Header.{allocator_word, next_word}
use Rattle.seg_spec.specs.Heap.{live, heap_start}
use Rattle.seg_spec.specs.Apart.{BlocksApart}
use Rattle.seg_spec.specs.Block.{block_of}
use Rattle.seg_spec.specs.Index.{Root}
use Rattle.seg_spec.specs.Reads.{Place, Leads}
use Rattle.seg_spec.specs.Frozen.{Frozen, frozen_words, root_of_frozen}
use Rattle.seg_spec.specs.Shared.{IsBelow, AreDistinct, value_at_position, owner_by, meaning, replaced}
use Rattle.seg_spec.specs.Sound.{Picture, frozen_roots, roots_of, HoldsRoot, IsHeld, times, positions}
use Rattle.seg_spec.specs.Roots.{RootsComeApart, item_of, PartComesApart}
use Rattle.seg_spec.specs.Owning.{Stands}
use Rattle.seg_spec.proofs.Heap.LiveBlockLaws.{times-append, times-same, times-other, there, each_there, LiesIn, live-lie}
use Rattle.seg_spec.proofs.Values.PutLaws.{apart_append}
use Rattle.seg_spec.proofs.Images.RootLaws.{HoldsRoots-only, roots_come_apart}
use Rattle.seg_spec.proofs.Images.RootPartLaws.{part_comes_apart}
use Rattle.seg_spec.proofs.Frozen.ReleaseLaws.{frozen_there}
use Rattle.seg_spec.proofs.Frozen.SharedLaws.{below_elsewhere}
use Rattle.seg_spec.proofs.Frozen.UnfoldedTreeLaws.{deep_enough}
use Rattle.seg_spec.proofs.Images.RootWriteLaws.{Held-apart}
use Rattle.client_spec.specs.Machine.{State}
use Rattle.client_spec.specs.Pictures.{Pictures, meaning_in}
use Rattle.client_spec.proofs.TypedStates.ValueLaws.{Some_inj}
use Rattle.seg_spec.proofs.Images.AlignmentLaws.{Aligned, AreAligned, leads_aligned}

-- ---- the object that a cell shares

pub record FrozenNamed (frozen : List Frozen) (q : Place) (v : Value) : Type 0 where
  pub before : List Frozen
  pub object : Frozen
  pub after : List Frozen
  pub among : frozen ≡ before ++ object ∷ after
  pub at_is : object.at ≡ q.at
  pub type_is : object.type ≡ q.type
  pub value_is : object.value ≡ v

pub frozen_named : (n : ℕ) (frozen : List Frozen) (q : Place) (v : Value) → AreDistinct frozen → IsBelow n frozen q → value_at_position frozen q.at ≡ Some v → FrozenNamed frozen q v
frozen_named n [] q v d b e = absurd b
frozen_named n (f ∷ fs) q v d b e = choose (f.at == q.at) refl (λ h g. frozen_named n fs q v d.1 h g) b e
  where
    choose : (here : Bool) → (f.at == q.at) ≡ here → (IsBelow n fs q → value_at_position fs q.at ≡ Some v → FrozenNamed fs q v) → IsBelow n (f ∷ fs) q
        → (if here then Some f.value else value_at_position fs q.at) ≡ Some v → FrozenNamed (f ∷ fs) q v
    choose true same rest (inl h) g = record { before = []; object = f; after = fs; among = refl; at_is = h.0; type_is = h.1; value_is = Some_inj g }
    choose true same rest (inr h) g = absurd (below_elsewhere f.at n fs q d.0 h (sym (eqb-true f.at q.at same)))
    choose false other rest (inl h) g = absurd (let x : false ≡ true = sym other ∙ eq-eqb f.at q.at h.0 in cc)
    choose false other rest (inr h) g =
        let r = rest h g in
        record { before = f ∷ r.before; object = r.object; after = r.after; among = ap (λ gs. f ∷ gs) r.among; at_is = r.at_is; type_is = r.type_is; value_is = r.value_is }

-- the roots before the frozen objects, with some of these
abbrev front_of : Picture → List Frozen → List Root
front_of picture before = picture.names ++ (picture.uniques ++ (picture.loose ++ map root_of_frozen before))

frozen_split : (picture : Picture) (before : List Frozen) (f : Frozen) (after : List Frozen) → picture.frozen ≡ before ++ f ∷ after
    → roots_of picture ≡ front_of picture before ++ ((root_of_frozen f ∷ []) ++ map root_of_frozen after)
frozen_split picture before f after e =
    let frozen : frozen_roots picture ≡ map root_of_frozen before ++ (root_of_frozen f ∷ map root_of_frozen after) = ap (map root_of_frozen) e ∙ map-append root_of_frozen before (f ∷ after) in
    ap (λ rs. picture.names ++ (picture.uniques ++ (picture.loose ++ rs))) frozen ∙ simp append_assoc

-- ---- a place in it

module _ (bytes : List ℕ) (picture : Picture) (held : IsHeld bytes picture) (before : List Root) (f : Frozen) (after : List Root) (a : RootsComeApart bytes picture held before (root_of_frozen f ∷ []) after) where
  object_held : HoldsRoot bytes picture.table (root_of_frozen f) a.its
  object_held = HoldsRoots-only bytes picture.table (root_of_frozen f) a.its a.holds_them

  object_apart : BlocksApart bytes a.its
  object_apart =
      let all : BlocksApart bytes (a.left ++ (a.its ++ a.right)) = subst (λ bs. BlocksApart bytes bs) a.blocks_are (apart_append bytes held.index_blocks held.root_blocks (Held-apart bytes picture held)).right in
      (apart_append bytes a.its a.right (apart_append bytes a.left (a.its ++ a.right) all).right).left

  module _ (path : List Selector) (place : Place) (leads : Leads bytes picture.table (record { at = f.at + frozen_words; type = f.type }) path place)
      (p : PartComesApart bytes picture.table (root_of_frozen f) a.its 0 path place) where
    -- how often a block is owned: by the index, by other roots, around the place, and by the place
    block_owners : (h : ℕ) → times h (positions (live bytes)) ≡ times h held.index_blocks + (times h a.left + ((times h p.left + (times h p.its + times h p.right)) + times h a.right))
    block_owners h =
        held.owners h ∙ times-append h held.index_blocks held.root_blocks
        ∙ ap (λ n. times h held.index_blocks + n) (ap (times h) a.blocks_are ∙ times-append h a.left (a.its ++ a.right)
        ∙ ap (λ n. times h a.left + n) (times-append h a.its a.right
        ∙ ap (λ n. n + times h a.right) (its_are h)))
      where
        its_are : (h : ℕ) → times h a.its ≡ times h p.left + (times h p.its + times h p.right)
        its_are h = ap (times h) p.blocks_are ∙ times-append h p.left (p.its ++ p.right) ∙ ap (λ n. times h p.left + n) (times-append h p.its p.right)

    its_aligned : AreAligned a.its
    its_aligned = each_there Aligned a.its (λ h some.
        let e = held.owners h in
        let g = times-append h held.index_blocks held.root_blocks in
        let i : times h held.root_blocks ≡ times h (a.left ++ (a.its ++ a.right)) = ap (times h) a.blocks_are in
        let j = times-append h a.left (a.its ++ a.right) in
        let k = times-append h a.its a.right in
        let l = there (LiesIn bytes heap_start (length bytes)) h (positions (live bytes)) (live-lie bytes (word bytes allocator_word) held.laid_out.heap) (omega (arith, e, g, i, j, k, some)) in
        omega (arith, l.aligned))

    owned : (h : ℕ) → times h (p.home ∷ p.its) ≤ times h (positions (live bytes))
    owned h =
        let e = block_owners h in
        elim (cases_eq p.home h) [
          | inl same ↦
              let around : 1 ≤ times h (p.left ++ p.right) = subst (λ x. 1 ≤ times x (p.left ++ p.right)) same p.home_is in
              let both = times-append h p.left p.right in
              let one : times h (p.home ∷ p.its) ≡ 1 + times h p.its = subst (λ x. times h (x ∷ p.its) ≡ 1 + times h p.its) (sym same) (times-same h p.its) in
              omega (arith, e, around, both, one)
          | inr other ↦ let none = times-other h p.home p.its other in omega (arith, e, none)
        ]

    place_aligned : Aligned place.at
    place_aligned =
        let o = frozen_there bytes picture.table f a.its object_held in
        let all : AreAligned (block_of f.at ∷ o.inside) = subst AreAligned o.blocks_are its_aligned in
        let start : Aligned (f.at + frozen_words) = (let e = all.0 in let low = o.block.after_header in omega arith) in
        leads_aligned bytes picture.table held.laid_out.is_table leads o.value start all.1

    part_stands : Stands (word bytes allocator_word) bytes picture.table place p.value p.its
    part_stands = record {
      heap = held.laid_out.heap;
      allocator_is = refl;
      is_table = held.laid_out.is_table;
      ownable = held.laid_out.blocks;
      holds_it = p.holds_it;
      aligned = place_aligned;
      home = p.home;
      inside = p.lies_in;
      owned = owned;
    }

-- a place at the end of a path inside a frozen object has the value there, and is as calls need it
pub frozen_stands : {others : List Root} {s : State} {bytes : List ℕ} (pictured : Pictures others s bytes) (n : ℕ) (q : Place) (f : Value)
    → IsBelow n pictured.picture.frozen q → value_at_position pictured.picture.frozen q.at ≡ Some f
    → (path : List Selector) (place : Place) → Leads bytes pictured.picture.table (record { at = q.at + frozen_words; type = q.type }) path place
    → (v : Value) × (blocks : List ℕ) × (value_at f path ≡ Some v) × Stands (word bytes allocator_word) bytes pictured.picture.table place v blocks
frozen_stands {bytes = bytes} pictured n q f below value_is path place leads =
    let picture = pictured.picture in
    let held = pictured.held in
    let table = picture.table in
    let x = frozen_named n picture.frozen q f pictured.counted.counted.distinct below value_is in
    let root = root_of_frozen x.object in
    let front = front_of picture x.before in
    let back = map root_of_frozen x.after in
    let a = roots_come_apart bytes picture held front (root ∷ []) back (frozen_split picture x.before x.object x.after x.among) in
    let from_object = subst (λ p. Leads bytes table (record { at = p + frozen_words; type = x.object.type }) path place) (sym x.at_is)
    (subst (λ T. Leads bytes table (record { at = q.at + frozen_words; type = T }) path place) (sym x.type_is) leads) in
    let first : x.object.at + frozen_words ≡ x.object.at + frozen_words + 0 * size table x.object.type = omega arith in
    let from_item : Leads bytes table (item_of table root 0) path place = subst (λ p. Leads bytes table (record { at = p; type = x.object.type }) path place) first from_object in
    let p = part_comes_apart bytes table held.laid_out.is_table root a.its (object_held bytes picture held front x.object back a) (object_apart bytes picture held front x.object back a) 0 (omega arith) path place from_item in
    let item : p.item ≡ f = Some_inj (sym p.item_is) ∙ x.value_is in (
      p.value,
      p.its,
      ap (λ y. value_at y path) (sym item) ∙ p.value_is,
      part_stands bytes picture held front x.object back a path place from_object p,
    )

-- ---- the copy for a cell that shares the object

below_all : (n m : ℕ) (frozen : List Frozen) (q : Place) → AllByRecursion (λ (f : Frozen). f.number < m) frozen → IsBelow n frozen q → IsBelow m frozen q
below_all n m [] q a h = absurd h
below_all n m (f ∷ fs) q a (inl h) = inl (h.0, h.1, a.0)
below_all n m (f ∷ fs) q a (inr h) = inr (below_all n m fs q a.1 h)

one_deeper : (n : ℕ) (frozen : List Frozen) (p : ℕ) (v : Value) → value_at_position frozen p ≡ Some v → meaning (suc n) frozen p ≡ Full (replaced (meaning n frozen) v)
unfolding meaning
one_deeper n frozen p v e = ap (owner_by (λ u. replaced (meaning n frozen) u)) e

-- the copy of a cell is an owned one of the object's unfolded value
pub frozen_means : {others : List Root} {s : State} {bytes : List ℕ} (pictured : Pictures others s bytes) (n : ℕ) (q : Place) (f : Value)
    → IsBelow n pictured.picture.frozen q → value_at_position pictured.picture.frozen q.at ≡ Some f
    → meaning_in (word bytes next_word) pictured.picture q.at ≡ Full (replaced (meaning_in (word bytes next_word) pictured.picture) f)
frozen_means {bytes = bytes} pictured n q f below value_is =
    let next = word bytes next_word in
    let frozen = pictured.picture.frozen in
    let c = pictured.counted.counted in
    deep_enough frozen c.distinct c.falling next (suc next) q (omega arith) (below_all n next frozen q c.numbered below) ∙ one_deeper next frozen q.at f value_is
