-- Frozen objects whose blocks are unchanged except for the counts keep their types, numbers and
-- values, and paths in them end at the same places.
use Rattle.std.proofs.Common.{◌≡◌, ◌≢◌, ℕ, zero, suc, ◌+◌, ◌-◌, ◌*◌, ◌≤◌, inl, inr, List, [], ◌∷◌, ◌++◌, Bool, true, false, refl, sym, ◌∙◌, ap, subst, arith}
use Rattle.std.specs.Prelude.{⊤, ◌==◌, if◌then◌else◌}
use Rattle.std.specs.List.{AllByRecursion}
use Rattle.seg_spec.specs.Bytes.{IsSame, word}
use Rattle.seg_spec.specs.Header.{allocator_word}
use Rattle.seg_spec.specs.Types.{Table, IsTable, size}
use Rattle.seg_spec.specs.Value.{count}
use Rattle.seg_spec.specs.Heap.{IsHeap, units_at, live}
use Rattle.seg_spec.specs.Block.{KeepsBlock, block_of}
use Rattle.seg_spec.specs.Apart.{Separate, KeepsBlockAround}
use Rattle.seg_spec.specs.Index.{Root}
use Rattle.seg_spec.specs.Reads.{Place}
use Rattle.seg_spec.specs.Frozen.{Frozen, root_of_frozen, blocks_by}
use Rattle.seg_spec.specs.Shared.{names_in, times_named, AreDistinct, kept_with, left, with_count, raised, raised_by}
use Rattle.seg_spec.specs.Destroying.{HoldFrozen, KeepFrozen}
use Rattle.seg_spec.specs.Sound.{words_size, payload_of, frozen_roots, HoldsRoot, HoldsRoots, times, positions}
use Rattle.seg_spec.specs.Counting.{owners_in}
use Rattle.seg_spec.specs.Roots.{item_of, KeepsPaths}
use Rattle.seg_spec.proofs.Frozen.PictureCountLaws.{roots_held}
use Rattle.seg_spec.proofs.Frozen.FrozenBlockLaws.{frozen_kept}
use Rattle.seg_spec.proofs.Frozen.ReleaseOrderLaws.{none_gone}
use Rattle.seg_spec.proofs.Frozen.SharedLaws.{left_each}
use Rattle.seg_spec.proofs.Values.PlaceFrameLaws.{each_both, each_weaker, places-same, spaced-same}
use Rattle.seg_spec.proofs.Values.PathFrameLaws.{Leads-each}
use Rattle.seg_spec.proofs.Heap.LiveBlockLaws.{OneOrApart, times-append, times-same, there, each_there, live-apart, live-once}
use Rattle.seg_spec.proofs.Images.RootChangeLaws.{HoldsRoots_blocks-one}
use Rattle.seg_spec.proofs.Values.PutLaws.{kept_whole}
use Rattle.seg_spec.proofs.Images.RootLaws.{HoldsRoots-split}
use Rattle.seg_spec.proofs.Images.RootPartLaws.{items_nth}
use Rattle.client_spec.specs.Machine.{State}
use Rattle.client_spec.specs.Pictures.{Pictures}
use Rattle.client_spec.specs.Ties.{FrozenKept}
use Rattle.client_sim.specs.Shows.{FrozenStay, all_stay, some_go, some_shared, KeepsFrozenPaths}
use Rattle.client_sim.proofs.ImageChangeLaws.{frozen_here}
use Rattle.client_sim.proofs.Places.RootChangeLaws.{roots_split}

-- the frozen objects that remain, paths in them, and what is kept of them
pub record KeepsFrozen (old new : List ℕ) (table : Table) (before after : List Frozen) : Type 0 where
  pub stays : FrozenStay before after
  pub paths : KeepsFrozenPaths old new table after
  pub kept : FrozenKept old new table before after

-- ---- the same objects, with other counts

abbrev Recounted : List Frozen → List Frozen → Type 0
Recounted [] [] = ⊤
Recounted [] (g ∷ gs) = ⊥
Recounted (f ∷ fs) [] = ⊥
Recounted (f ∷ fs) (g ∷ gs) = (g ≡ with_count f g.count) × Recounted fs gs

recounted_same : (fs : List Frozen) → Recounted fs fs
recounted_same [] = tt
recounted_same (f ∷ fs) = (refl, recounted_same fs)

recounted_then : (fs gs hs : List Frozen) → Recounted fs gs → Recounted gs hs → Recounted fs hs
recounted_then [] [] [] a b = tt
recounted_then [] [] (h ∷ hs) a b = absurd b
recounted_then [] (g ∷ gs) hs a b = absurd a
recounted_then (f ∷ fs) [] hs a b = absurd a
recounted_then (f ∷ fs) (g ∷ gs) [] a b = absurd b
recounted_then (f ∷ fs) (g ∷ gs) (h ∷ hs) a b = (b.0 ∙ ap (λ (x : Frozen). with_count x h.count) a.0, recounted_then fs gs hs a.1 b.1)

recounted_raised : (p : ℕ) (fs : List Frozen) → Recounted fs (raised p fs)
recounted_raised p [] = tt
recounted_raised p (f ∷ fs) = (one (f.at == p), recounted_raised p fs)
  where
    one : (b : Bool) → (if b then with_count f (suc f.count) else f) ≡ with_count f (if b then with_count f (suc f.count) else f).count
    one true = refl
    one false = refl

recounted_by : (names : List Place) (fs : List Frozen) → Recounted fs (raised_by names fs)
recounted_by [] fs = recounted_same fs
recounted_by (q ∷ names) fs = recounted_then fs (raised_by names fs) (raised q.at (raised_by names fs)) (recounted_by names fs) (recounted_raised q.at (raised_by names fs))

-- f with another count, if it is at the position of f
abbrev Recounts : Frozen → Frozen → Type 0
Recounts f g = g.at ≡ f.at → g ≡ with_count f g.count

recounts_on : (f g : Frozen) (n : ℕ) → Recounts f g → Recounts f (with_count g n)
recounts_on f g n same e = ap (λ (x : Frozen). with_count x n) (same e)

-- no two objects have the same position
recounts_each : (fs : List Frozen) → AreDistinct fs → AllByRecursion (λ (f : Frozen). AllByRecursion (Recounts f) fs) fs
recounts_each [] distinct = tt
recounts_each (f ∷ fs) distinct = (
  ((λ e. refl), each_weaker (λ (g : Frozen). g.at ≢ f.at) (Recounts f) (λ g apart e. absurd (apart e)) fs distinct.0),
  each_both (λ (g : Frozen). g.at ≢ f.at) (λ (g : Frozen). AllByRecursion (Recounts g) fs) (λ (g : Frozen). AllByRecursion (Recounts g) (f ∷ fs)) (λ g apart rest. ((λ e. absurd (apart (sym e))), rest))
      fs distinct.0 (recounts_each fs distinct.1),
)

recounts_after : (f : Frozen) (fs gs : List Frozen) → Recounted fs gs → AllByRecursion (Recounts f) fs → AllByRecursion (Recounts f) gs
recounts_after f [] [] same each = tt
recounts_after f [] (g ∷ gs) same each = absurd same
recounts_after f (h ∷ hs) [] same each = absurd same
recounts_after f (h ∷ hs) (g ∷ gs) same each = (subst (Recounts f) (sym same.0) (recounts_on f h g.count each.0), recounts_after f hs gs same.1 each.1)

-- if g is at the position of f, only the count of f changed
abbrev Kept : List ℕ → List ℕ → (ℕ → List ℕ) → Frozen → Frozen → Type 0
Kept old new theirs f g = g.at ≡ f.at → (g ≡ with_count f g.count) × AllByRecursion (KeepsBlockAround old new f.at 4) (theirs f.at)

-- the objects that remain of these after cells were destroyed, whatever their counts
kept_left : (old new : List ℕ) (table : Table) (theirs : ℕ → List ℕ) (before : List Frozen) → AreDistinct before → HoldFrozen old table theirs before → (gone : List Place) (gs : List Frozen) → Recounted before gs
    → KeepFrozen old new theirs (left gone gs) → FrozenKept old new table before (left gone gs)
kept_left old new table theirs before distinct holds gone gs same keep = record {
  theirs = theirs;
  holds = holds;
  each = each_weaker (λ (f : Frozen). AllByRecursion (Recounts f) before) (λ (f : Frozen). AllByRecursion (Kept old new theirs f) (left gone gs)) (λ f each.
      each_both (Recounts f) (λ (g : Frozen). AllByRecursion (KeepsBlockAround old new g.at 4) (theirs g.at)) (Kept old new theirs f)
      (λ g recounts keeps e. (recounts e, subst (λ p. AllByRecursion (KeepsBlockAround old new p 4) (theirs p)) e keeps)) (left gone gs)
      (left_each (Recounts f) (recounts_on f) gone gs (recounts_after f before gs same each)) keep) before (recounts_each before distinct);
}

-- an object is added at another position
pub kept_with_new : {old new : List ℕ} {table : Table} {before after : List Frozen} (object : Frozen) → AllByRecursion (λ (f : Frozen). f.at ≢ object.at) before → FrozenKept old new table before after
    → FrozenKept old new table before (object ∷ after)
kept_with_new {old} {new} {before = before} {after = after} object apart kept = record {
  theirs = kept.theirs;
  holds = kept.holds;
  each = each_both (λ (f : Frozen). f.at ≢ object.at) (λ (f : Frozen). AllByRecursion (Kept old new kept.theirs f) after) (λ (f : Frozen). AllByRecursion (Kept old new kept.theirs f) (object ∷ after))
      (λ f other rest. ((λ e. absurd (other (sym e))), rest)) before apart kept.each;
}

-- ---- a root whose blocks are unchanged except for its first word

module _ (allocator : ℕ) (old new : List ℕ) (table : Table) (valid : IsTable table) (heap : IsHeap allocator old) where
  module _ (root : Root) (mine : List ℕ) (o : HoldsRoot old table root mine) (x : ℕ) (at_is : payload_of root ≡ x) (some : 4 ≤ words_size root) (owned : (h : ℕ) → times h mine ≤ times h (positions (live old)))
      (kept : AllByRecursion (KeepsBlockAround old new x 4) mine) where
    abbrev own : ℕ
    own = block_of (payload_of root)

    mine_is : (h : ℕ) → times h mine ≡ times h (own ∷ o.inside)
    mine_is h = ap (times h) o.blocks_are

    around : AllByRecursion (KeepsBlockAround old new x 4) (own ∷ o.inside)
    around = subst (AllByRecursion (KeepsBlockAround old new x 4)) o.blocks_are kept

    own_live : 1 ≤ times own (positions (live old))
    own_live = omega (arith, owned own, mine_is own, times-same own o.inside)

    apart_from : (h : ℕ) → 1 ≤ times h (positions (live old)) → h ≢ own → Separate h (16 * units_at old h) x 4
    apart_from h is_live other =
        let pairs = there (λ t. AllByRecursion (OneOrApart old t) (positions (live old))) h (positions (live old)) (live-apart old allocator heap) is_live in
        go (there (OneOrApart old h) own (positions (live old)) pairs own_live)
      where
        go : OneOrApart old h own → Separate h (16 * units_at old h) x 4
        go (inl e) = absurd (other (sym e))
        go (inr (inl s)) = inl (omega (arith, s, at_is, o.block.after_header))
        go (inr (inr s)) = inr (omega (arith, s, at_is, o.block.after_header, o.block.room, some))

    inside_kept : AllByRecursion (KeepsBlock old new) o.inside
    inside_kept = each_there (KeepsBlock old new) o.inside (λ h there_is.
        let once = live-once old allocator heap h in
        let all : times h (own ∷ o.inside) ≡ times h (own ∷ []) + times h o.inside = times-append h (own ∷ []) o.inside in
        let is_live : 1 ≤ times h (positions (live old)) = omega (arith, owned h, mine_is h, all, there_is) in
        kept_whole old new table valid x 4 h (there (KeepsBlockAround old new x 4) h o.inside around.1 there_is)
        (apart_from h is_live (λ e.
        let one : times h (own ∷ []) ≡ 1 = subst (λ y. times y (own ∷ []) ≡ 1) (sym e) (times-same own []) in
        absurd (omega (arith, owned h, mine_is h, all, there_is, once, one)))))

    pub counted_paths : KeepsPaths old new table root
    counted_paths i path target within l =
        let n = count root.values * size table root.type in
        let values : IsSame old new root.at n = around.0.payload root.at n (omega (arith, o.before, o.block.after_header)) (omega (arith, o.before, o.block.after_header, o.block.room)) (inr (omega (arith, at_is, o.before, some))) in
        Leads-each old new table valid (item_of table root i) i o.values (items_nth table root.at root.type (count root.values) i within)
        (places-same old new table valid root.type _ (spaced-same old new root.at (size table root.type) (count root.values) values)) inside_kept l

  -- paths in the objects that remain after these cells were destroyed are kept, whatever their
  -- counts
  left_paths : (theirs : ℕ → List ℕ) (gone : List Place) (fs gs : List Frozen) → Recounted fs gs → ((h : ℕ) → times h (blocks_by theirs fs) ≤ times h (positions (live old))) → HoldFrozen old table theirs fs
      → KeepFrozen old new theirs (left gone gs) → KeepsFrozenPaths old new table (left gone gs)
  left_paths theirs gone [] [] same owned hold keep = tt
  left_paths theirs gone [] (g ∷ gs) same owned hold keep = absurd same
  left_paths theirs gone (f ∷ fs) [] same owned hold keep = absurd same
  left_paths theirs gone (f ∷ fs) (g ∷ gs) same owned hold keep =
      let rest : (h : ℕ) → times h (blocks_by theirs fs) ≤ times h (positions (live old)) = λ h. omega (arith, owned h, times-append h (theirs f.at) (blocks_by theirs fs)) in
      go (g.count - times_named g.at gone) (left_paths theirs (gone ++ names_in g.value) fs gs same.1 rest hold.1) (left_paths theirs gone fs gs same.1 rest hold.1) keep
    where
      own_paths : (h : Frozen) → h ≡ with_count f h.count → AllByRecursion (KeepsBlockAround old new h.at 4) (theirs h.at) → KeepsPaths old new table (root_of_frozen h)
      own_paths h e = subst (λ (x : Frozen). AllByRecursion (KeepsBlockAround old new x.at 4) (theirs x.at) → KeepsPaths old new table (root_of_frozen x)) (sym e)
          (λ k. counted_paths (root_of_frozen f) (theirs f.at) hold.0 f.at (omega arith) (omega arith) (λ h. omega (arith, owned h, times-append h (theirs f.at) (blocks_by theirs fs))) k)

      go : (n : ℕ) → (KeepFrozen old new theirs (left (gone ++ names_in g.value) gs) → KeepsFrozenPaths old new table (left (gone ++ names_in g.value) gs))
          → (KeepFrozen old new theirs (left gone gs) → KeepsFrozenPaths old new table (left gone gs)) → KeepFrozen old new theirs (kept_with g n (left (gone ++ names_in g.value) gs) (left gone gs))
          → KeepsFrozenPaths old new table (kept_with g n (left (gone ++ names_in g.value) gs) (left gone gs))
      go zero without with_it k = without k
      go (suc n) without with_it k = (own_paths (with_count g (suc n)) (ap (λ (x : Frozen). with_count x (suc n)) same.0) k.0, with_it k.1)

-- ---- the frozen objects of an image

module _ {others : List Root} {s : State} {old : List ℕ} (pictured : Pictures others s old) (new : List ℕ) where
  abbrev frozen : List Frozen
  frozen = pictured.picture.frozen

  abbrev table : Table
  table = pictured.picture.table

  module _ (theirs : ℕ → List ℕ) (holds : HoldFrozen old table theirs frozen) where
    -- their blocks are allocated, and aren't the index's
    frozen_live : (h : ℕ) → times h pictured.held.index_blocks + times h (blocks_by theirs frozen) ≤ times h (positions (live old))
    frozen_live h =
        let picture = pictured.picture in
        let held = pictured.held in
        let s = HoldsRoots-split old table (owners_in picture) (frozen_roots picture) held.root_blocks (subst (λ rs. HoldsRoots old table rs held.root_blocks) (roots_split picture) held.roots) in
        let same : s.right ≡ blocks_by theirs frozen = HoldsRoots_blocks-one old table (frozen_roots picture) s.right (blocks_by theirs frozen) s.rights (roots_held old table theirs frozen holds) in
        let e = ap (times h) s.blocks_are in
        let m = ap (times h) same in
        omega (arith, held.owners h, times-append h held.index_blocks held.root_blocks, e, times-append h s.left s.right, m)

    frozen_left_of : (gone : List Place) (gs : List Frozen) → Recounted frozen gs → FrozenStay frozen (left gone gs) → KeepFrozen old new theirs (left gone gs) → KeepsFrozen old new table frozen (left gone gs)
    frozen_left_of gone gs recounted stays keep = record {
      stays = stays;
      paths = left_paths (word old allocator_word) old new table pictured.held.laid_out.is_table pictured.held.laid_out.heap theirs gone frozen gs recounted (λ h. let l = frozen_live h in omega arith) holds keep;
      kept = kept_left old new table theirs frozen pictured.counted.counted.distinct holds gone gs recounted keep;
    }

    -- the objects that remain after these cells were destroyed
    pub frozen_left : (gone : List Place) → KeepFrozen old new theirs (left gone frozen) → KeepsFrozen old new table frozen (left gone frozen)
    frozen_left gone keep = frozen_left_of gone frozen (recounted_same frozen) (some_go gone refl) keep

    -- the same if other cells were added before
    pub frozen_left_shared : (gone names : List Place) → KeepFrozen old new theirs (left gone (raised_by names frozen)) → KeepsFrozen old new table frozen (left gone (raised_by names frozen))
    frozen_left_shared gone names keep = frozen_left_of gone (raised_by names frozen) (recounted_by names frozen) (some_shared gone names refl) keep

  -- all objects, if their blocks are kept
  pub frozen_whole : ((theirs : ℕ → List ℕ) → HoldFrozen old table theirs frozen → (h : ℕ) → 1 ≤ times h (blocks_by theirs frozen) → KeepsBlock old new h) → KeepsFrozen old new table frozen frozen
  frozen_whole whole =
      let here = (frozen_here pictured).1 in
      let none : left [] frozen ≡ frozen = none_gone frozen pictured.counted.counted.some in
      let lives : (h : ℕ) → 1 ≤ times h (blocks_by here.theirs frozen) → 1 ≤ times h (positions (live old)) = λ h some. (let l = frozen_live here.theirs here.holds h in omega arith) in
      let keep = frozen_kept (word old allocator_word) old new pictured.held.laid_out.heap here.theirs frozen lives (whole here.theirs here.holds) in
      let keeps : KeepsFrozen old new table frozen frozen = subst (KeepsFrozen old new table frozen) none (frozen_left here.theirs here.holds [] (subst (KeepFrozen old new here.theirs) (sym none) keep)) in
      record { stays = all_stay refl; paths = keeps.paths; kept = keeps.kept }

  -- all objects, if all blocks are kept, except for some of the index
  pub frozen_beside_index : (gone : List ℕ) → ((h : ℕ) → 1 ≤ times h (positions (live old)) → times h gone ≡ 0 → KeepsBlock old new h) → ((h : ℕ) → times h gone ≤ times h pictured.held.index_blocks)
      → KeepsFrozen old new table frozen frozen
  frozen_beside_index gone kept few = frozen_whole (λ theirs holds h some.
      let l = frozen_live theirs holds h in
      let once = live-once old (word old allocator_word) pictured.held.laid_out.heap h in
      kept h (omega arith) (omega (arith, few h)))

-- all objects, if the image stays as it is
pub frozen_same_image : {others : List Root} {s : State} {bytes : List ℕ} (pictured : Pictures others s bytes) → KeepsFrozen bytes bytes pictured.picture.table pictured.picture.frozen pictured.picture.frozen
frozen_same_image {bytes = bytes} pictured = frozen_whole pictured bytes (λ theirs holds h some. record { live = refl; has_tag = refl; room = omega arith; payload = refl })

-- the same for any picture with these frozen objects
pub kept_same_image : {others : List Root} {s : State} {bytes : List ℕ} (pictured : Pictures others s bytes) {after : List Frozen} → after ≡ pictured.picture.frozen
    → FrozenKept bytes bytes pictured.picture.table pictured.picture.frozen after
kept_same_image {bytes = bytes} pictured same = subst (FrozenKept bytes bytes pictured.picture.table pictured.picture.frozen) (sym same) (frozen_same_image pictured).kept
