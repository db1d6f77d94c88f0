-- Places that are alike in two images stay alike if both images keep them with their blocks.
use Rattle.std.proofs.Common.{◌≡◌, ℕ, ◌+◌, ◌*◌, ◌≤◌, List, length, true, Some, sym, ◌∙◌, subst, arith}
use Rattle.std.specs.List.{AllByRecursion}
use Rattle.seg_spec.specs.Bytes.{IsSame}
use Rattle.seg_spec.specs.Types.{Form, Table, form_at, size, size_of_form, IsTable}
use Rattle.seg_spec.specs.Value.{Value, Values, count}
use Rattle.seg_spec.specs.Block.{KeepsBlock, block_of}
use Rattle.seg_spec.specs.Reads.{Place, Holds, holds, HoldsEach, holds_none, holds_more, count_at, items}
use Rattle.seg_spec.specs.Index.{Root}
use Rattle.seg_spec.specs.Sound.{words_size, payload_of, HoldsRoot, HoldsRoots, holds_no_root, holds_more_roots}
use Rattle.seg_spec.proofs.SliceLaws.{IsSame-part}
use Rattle.seg_spec.proofs.Tables.TypeSizeLaws.{size_large, size-form}
use Rattle.seg_spec.proofs.Values.OneValueLaws.{HoldsEach-one}
use Rattle.seg_spec.proofs.Values.PlaceFrameLaws.{SamePlace, word-same, payload-same, spaced-same, places-same, each_left, each_right, Opens-kept}
use Rattle.test_definitions.specs.Alike.{has_count, AlikeAt, opens_alike, AlikeEach, none_alike, more_alike, AlikeRoot}
use Rattle.test_definitions.proofs.ValueChanges.AlikePlaceLaws.{open_alike, each_alike}

-- `old` and `other` are alike, and become `new` and `another`
module _ (old other new another : List ℕ) (table : Table) (valid : IsTable table) where
  count_kept : (bytes after : List ℕ) (place : Place) → SamePlace bytes after table place → count_at after place.at ≡ count_at bytes place.at
  count_kept bytes after place h =
      let large = size_large table valid place.type in
      word-same bytes after (place.at + 4) (IsSame-part bytes after place.at (size table place.type) (place.at + 4) 4 (omega arith) (omega (arith, large)) h)

  cell_kept : (bytes after : List ℕ) (place : Place) (form : Form) → form_at table place.type ≡ Some form → SamePlace bytes after table place → IsSame bytes after place.at (size_of_form table form)
  cell_kept bytes after place form f h = rw (size-form table valid place.type form f) at h

  mutual
    pub place_kept : {place : Place} {v : Value} {blocks : List ℕ} → Holds old table place v blocks → SamePlace old new table place → SamePlace other another table place
        → AllByRecursion (KeepsBlock old new) blocks → AllByRecursion (KeepsBlock other another) blocks → AlikeAt old other table place → AlikeAt new another table place
    place_kept {place = place} (holds form opened inside owned f o hs v_is blocks_is) h k ks ls a =
        let all = subst (AllByRecursion (KeepsBlock old new)) blocks_is ks in
        let all_too = subst (AllByRecursion (KeepsBlock other another)) blocks_is ls in
        let both = open_alike old other table form opened f o a in
        let stays = Opens-kept old new table valid place form opened (cell_kept old new place form f h) (each_left _ opened.blocks owned all) o in
        let stays_too = Opens-kept other another table valid place form opened (cell_kept other another place form f k) (each_left _ opened.blocks owned all_too) both.opens in
        let counts : has_count form ≡ true → count_at another place.at ≡ count_at new place.at = λ e. count_kept other another place k ∙ both.counts e ∙ sym (count_kept old new place h) in
        opens_alike form opened f stays.opens stays_too.opens counts
        (each_kept hs stays.parts stays_too.parts (each_right _ opened.blocks owned all) (each_right _ opened.blocks owned all_too) both.parts)

    pub each_kept : {places : List Place} {vs : Values} {blocks : List ℕ} → HoldsEach old table places vs blocks → AllByRecursion (SamePlace old new table) places → AllByRecursion (SamePlace other another table) places
        → AllByRecursion (KeepsBlock old new) blocks → AllByRecursion (KeepsBlock other another) blocks → AlikeEach old other table places → AlikeEach new another table places
    each_kept holds_none h k ks ls a = none_alike
    each_kept (holds_more {blocks = blocks} {owned = owned} first rest) h k ks ls (more_alike a rest_alike) =
        more_alike (place_kept first h.0 k.0 (each_left _ blocks owned ks) (each_left _ blocks owned ls) a) (each_kept rest h.1 k.1 (each_right _ blocks owned ks) (each_right _ blocks owned ls) rest_alike)

-- the places of a root's values are kept with its block
pub root_places : (old new : List ℕ) (table : Table) → IsTable table → (root : Root) (blocks : List ℕ) → (o : HoldsRoot old table root blocks) → KeepsBlock old new (block_of (payload_of root))
    → AllByRecursion (SamePlace old new table) (items table root.at root.type (count root.values))
root_places old new table valid root blocks o kept =
    let p = payload_of root in
    let w = words_size root in
    let n = count root.values * size table root.type in
    let before : w ≤ root.at = o.before in
    let room : IsSame old new p (w + (n + length root.name)) = payload-same old new p _ (w + (n + length root.name)) kept o.block in
    places-same old new table valid root.type _ (spaced-same old new root.at (size table root.type) (count root.values) (IsSame-part old new p (w + (n + length root.name)) root.at n (omega arith) (omega arith) room))

-- a root that both images keep with all its blocks stays alike
pub root_kept : (old other new another : List ℕ) (table : Table) → IsTable table → (root : Root) (blocks theirs : List ℕ) → HoldsRoot old table root blocks → HoldsRoot other table root theirs
    → AllByRecursion (KeepsBlock old new) blocks → AllByRecursion (KeepsBlock other another) theirs → AlikeRoot old other table root → AlikeRoot new another table root
root_kept old other new another table valid root blocks theirs o q ks ls a =
    let kept = subst (AllByRecursion (KeepsBlock old new)) o.blocks_are ks in
    let kept_too = subst (AllByRecursion (KeepsBlock other another)) q.blocks_are ls in
    let same = one_inside o.inside q.inside o.values q.values in
    each_kept old other new another table valid o.values (root_places old new table valid root blocks o kept.0) (root_places other another table valid root theirs q kept_too.0) kept.1
    (subst (AllByRecursion (KeepsBlock other another)) same kept_too.1) a
  where
    one_inside : (xs ys : List ℕ) → HoldsEach old table (items table root.at root.type (count root.values)) root.values xs → HoldsEach other table (items table root.at root.type (count root.values)) root.values ys → ys ≡ xs
    one_inside xs ys h k = sym (HoldsEach-one other table (each_alike old other table h a) k).1

-- the same of several roots
pub roots_kept : (old other new another : List ℕ) (table : Table) → IsTable table → {roots : List Root} {blocks theirs : List ℕ} → HoldsRoots old table roots blocks → HoldsRoots other table roots theirs
    → AllByRecursion (KeepsBlock old new) blocks → AllByRecursion (KeepsBlock other another) theirs → AllByRecursion (AlikeRoot old other table) roots → AllByRecursion (AlikeRoot new another table) roots
roots_kept old other new another table valid holds_no_root q ks ls a = tt
roots_kept old other new another table valid (holds_more_roots {root = root} {blocks = xs} {rest = more} h hs) (holds_more_roots {blocks = ys} {rest = more_too} q qs) ks ls a = (
  root_kept old other new another table valid root xs ys h q (each_left _ xs more ks) (each_left _ ys more_too ls) a.0,
  roots_kept old other new another table valid hs qs (each_right _ xs more ks) (each_right _ ys more_too ls) a.1,
)
