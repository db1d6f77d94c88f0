-- An instruction that changes one place, the blocks of its value, the blocks of an object that moves, and
-- perhaps frozen objects: every other root with an owner persists, and in the place's own root everything
-- around the place.
use Rattle.std.proofs.Common.{◌≡◌, ℕ, ◌+◌, ◌*◌, ◌≤◌, ◌⊎◌, inl, inr, List, ◌∷◌, ◌++◌, Some, refl, sym, ap, ◌∙◌, subst, arith}
use Rattle.std.specs.List.{AllByRecursion}
use Rattle.seg_spec.specs.Bytes.{word}
use Rattle.seg_spec.specs.Header.{allocator_word}
use Rattle.seg_spec.specs.Types.{size}
use Rattle.seg_spec.specs.Value.{Value, Values, count, nth, value_at, with_value_at}
use Rattle.seg_spec.specs.Heap.{live, units_at, tag_at}
use Rattle.seg_spec.specs.Block.{block_of, KeepsBlock}
use Rattle.seg_spec.specs.Reads.{Place, Holds, HoldsEach, items}
use Rattle.seg_spec.specs.Parts.{PersistEach}
use Rattle.seg_spec.specs.Apart.{KeepsBlockAround}
use Rattle.seg_spec.specs.Index.{Root}
use Rattle.seg_spec.specs.Frozen.{Frozen}
use Rattle.seg_spec.specs.Sound.{HoldsRoot, payload_of, times, positions}
use Rattle.seg_spec.specs.Shared.{names_in, names_each, IsBelow}
use Rattle.seg_spec.specs.Counting.{owners_in}
use Rattle.seg_spec.specs.Roots.{PartComesApart, item_of, with_item}
use Rattle.seg_spec.proofs.Heap.LiveBlockLaws.{OneOrApart, times-append, there, each_there, live-apart}
use Rattle.seg_spec.proofs.Values.OneValueLaws.{Holds-one, HoldsEach-one}
use Rattle.seg_spec.proofs.Values.PartPositionLaws.{separate_parts}
use Rattle.seg_spec.proofs.Values.PathSplitLaws.{middle, split, nth-append, count_is}
use Rattle.seg_spec.proofs.Values.PlaceFrameLaws.{each_left, each_right}
use Rattle.seg_spec.proofs.Values.PutLaws.{kept_whole}
use Rattle.seg_spec.proofs.Images.RootFrameLaws.{HoldsRoot-kept}
use Rattle.seg_spec.proofs.Images.RootPartLaws.{count-change_nth, items_nth, part_comes_apart}
use Rattle.client_spec.specs.Machine.{Path, State, at_origin}
use Rattle.client_spec.specs.Pictures.{Pictures, LeadsInImage}
use Rattle.client_spec.specs.Ties.{spot_of}
use Rattle.test_definitions.proofs.ValueChanges.AroundPersistLaws.{surrounded_leads}
use Rattle.test_definitions.proofs.ValueChanges.ChangedPlaceLaws.{KeepsOwners, OtherRoot, apart, its_owned, in_all, once, within, index_beside, own_below, each_owner}
use Rattle.test_definitions.proofs.Frozen.FrozenApartLaws.{frozen_apart}
use Rattle.test_definitions.proofs.ValueChanges.PersistAlikeLaws.{Fits}
use Rattle.test_definitions.proofs.Steps.PlaceStepLaws.{nothing_changes}
use Rattle.test_definitions.proofs.Alike.RootMemberLaws.{IsAmong}
use Rattle.test_definitions.proofs.ValueChanges.RootPersistLaws.{root_persists, blocks_apart, RootStays, root_stays}

-- Each allocated block is kept around the place if it is a block neither of the place's value, nor of the
-- object that moves, nor of a frozen object. The roots that stay are apart from the object that moves.
pub record KeepsApart {others : List Root} {s : State} {old : List ℕ} (p : Pictures others s old) (new : List ℕ) (place : Place) (its moved : List ℕ) (Stays : Root → Type 0) : Type 0 where
  pub around : (h : ℕ) → 1 ≤ times h (positions (live old)) → times h its ≡ 0 → times h moved ≡ 0 → times h (frozen_apart old p.picture p.held).frozen ≡ 0 → KeepsBlockAround old new place.at (size p.picture.table place.type) h
  pub owner : (c : Root) → Stays c → IsAmong c (owners_in p.picture)
  pub beside : (c : Root) → Stays c → (blocks : List ℕ) → HoldsRoot old p.picture.table c blocks → (h : ℕ) → 1 ≤ times h blocks → times h moved ≡ 0
  pub index_beside : (h : ℕ) → 1 ≤ times h p.held.index_blocks → times h moved ≡ 0

module _ {others : List Root} {s : State} {old : List ℕ} (p : Pictures others s old) (new : List ℕ) (path : Path) (place : Place) (l : LeadsInImage p path place) (found : Value × ℕ) (begins : at_origin s path.origin ≡ Some found)
    {value : Value} (its : List ℕ) (holds_it : Holds old p.picture.table place value its) (moved : List ℕ) (Stays : Root → Type 0) (kept : KeepsApart p new place its moved Stays) (own : Stays l.root) where
  -- the image before keeps itself
  abbrev pub still : KeepsOwners p old place its
  still = λ h some none none_frozen. nothing_changes old old p.picture p.held (spot_of p.picture.table place) its refl h some none

  abbrev root_apart : List ℕ
  root_apart = (apart p old path place l found begins its holds_it still).its

  root_holds : HoldsRoot old p.picture.table l.root root_apart
  root_holds = (apart p old path place l found begins its holds_it still).holds_it

  root_live : (h : ℕ) → times h root_apart ≤ times h (positions (live old))
  root_live h = omega (arith, in_all p old path place l found begins its holds_it still h)

  one_at_most : (h : ℕ) → times h (positions (live old)) ≤ 1
  one_at_most = once p old path place l found begins its holds_it still

  part : PartComesApart old p.picture.table l.root root_apart l.item path.selectors place
  part = part_comes_apart old p.picture.table p.held.laid_out.is_table l.root root_apart root_holds (blocks_apart old (word old allocator_word) p.held.laid_out.heap root_apart root_live)
      l.item (within p old path place l found begins its holds_it still) path.selectors place l.leads

  its_are : (h : ℕ) → times h root_apart ≡ times h (part.left ++ part.right) + times h its
  its_are h = (
      let same : its ≡ part.its = (Holds-one old p.picture.table holds_it part.holds_it).1 in
      let a = ap (times h) part.blocks_are ∙ times-append h part.left (part.its ++ part.right) in
      let b = times-append h part.its part.right in
      let c = times-append h part.left part.right in
      let d = ap (times h) same in
      omega arith)

  -- blocks of the place's root are neither of the object that moves nor of frozen objects
  root_beside : (h : ℕ) → 1 ≤ times h root_apart → (1 ≤ times h (positions (live old))) × (times h moved ≡ 0) × (times h (frozen_apart old p.picture p.held).frozen ≡ 0)
  root_beside h some = (
    omega (arith, some, root_live h),
    kept.beside l.root own root_apart root_holds h some,
    omega (arith, some, its_owned p old path place l found begins its holds_it still h, (frozen_apart old p.picture p.held).counts h, one_at_most h),
  )

  around_root : (h : ℕ) → 1 ≤ times h root_apart → times h its ≡ 0 → KeepsBlockAround old new place.at (size p.picture.table place.type) h
  around_root h some none = (let b = root_beside h some in kept.around h b.0 none b.1 b.2)

  -- a block of another root with an owner, or of the index, is kept whole
  whole : (h : ℕ) → 1 ≤ times h (positions (live old)) → times h root_apart ≡ 0 → times h moved ≡ 0 → times h (frozen_apart old p.picture p.held).frozen ≡ 0 → KeepsBlock old new h
  whole h some none none_moved none_frozen =
      let home = part.home in
      let all = positions (live old) in
      let home_its : 1 ≤ times home root_apart = omega (arith, part.home_is, its_are home) in
      let home_live : 1 ≤ times home all = omega (arith, root_live home, home_its) in
      let pairs = live-apart old (word old allocator_word) p.held.laid_out.heap in
      let pair = there (OneOrApart old h) home all (there (λ t. AllByRecursion (OneOrApart old t) all) h all pairs some) home_live in
      let around = kept.around h some (omega (arith, its_are h, none)) none_moved none_frozen in
      let n = size p.picture.table place.type in
      let inside = part.lies_in in
      kept_whole old new p.picture.table p.held.laid_out.is_table place.at n h around (elim pair [
        | inl e ↦ absurd (omega (arith, home_its, none, ap (λ k. times k root_apart) e))
        | inr away ↦ separate_parts h (16 * units_at old h) home (16 * units_at old home) h (16 * units_at old h) place.at n (omega arith) (omega arith) (omega (arith, inside.low)) (omega (arith, inside.high)) away
      ])

  pub index_whole : AllByRecursion (KeepsBlock old new) p.held.index_blocks
  index_whole = each_there (KeepsBlock old new) p.held.index_blocks (λ h some. (
      let n = in_all p old path place l found begins its holds_it still h in
      whole h (omega (arith, n, some)) (omega (arith, n, some, one_at_most h)) (kept.index_beside h some) (index_beside p old path place l found begins its holds_it still h some).2))

  -- the place's own root
  pub own_stays : RootStays old new p.picture.table l.root l.item path.selectors place
  own_stays = root_stays old new p.picture.table p.held.laid_out.is_table l.root root_apart root_holds (blocks_apart old (word old allocator_word) p.held.laid_out.heap root_apart root_live)
      (λ h. omega (arith, root_live h, one_at_most h)) l.item (within p old path place l found begins its holds_it still) path.selectors place l.leads its holds_it around_root

  -- another root that stays
  pub record Persisting (c : Root) : Type 0 where
    pub other : c ≡ l.root → ⊥
    pub persists : PersistEach old new p.picture.table (items p.picture.table c.at c.type (count c.values)) (items p.picture.table c.at c.type (count c.values))
    pub tag_kept : tag_at new (block_of (payload_of c)) ≡ tag_at old (block_of (payload_of c))
    pub blocks : List ℕ
    pub then_holds : HoldsRoot new p.picture.table c blocks

  pub each_staying : (c : Root) → Stays c → (c ≡ l.root) ⊎ Persisting c
  each_staying c i = elim (each_owner p old path place l found begins its holds_it still c (kept.owner c i)) [ inl e ↦ inl e | inr o ↦ inr (by o) ]
    where
      by : OtherRoot p old path place l found begins its holds_it still c → Persisting c
      by o =
          let k = o.is_kept in
          let blocks = each_there (KeepsBlock old new) k.blocks (λ h some. (let b = o.blocks_beside h some in whole h b.0 b.1 (kept.beside c i k.blocks k.was_held h some) b.2)) in
          let first : AllByRecursion (KeepsBlock old new) (block_of (payload_of c) ∷ k.was_held.inside) = subst (AllByRecursion (KeepsBlock old new)) k.was_held.blocks_are blocks in
          record {
            other = o.other;
            persists = root_persists old new p.picture.table p.held.laid_out.is_table c k.blocks blocks k.was_held;
            tag_kept = first.0.has_tag;
            blocks = k.blocks;
            then_holds = HoldsRoot-kept old new p.picture.table p.held.laid_out.is_table c k.blocks blocks k.was_held;
          }

  pub tag_stays : (c : Root) → Stays c → tag_at new (block_of (payload_of c)) ≡ tag_at old (block_of (payload_of c))
  tag_stays c i = elim (each_staying c i) [
    | inl e ↦ subst (λ (x : Root). tag_at new (block_of (payload_of x)) ≡ tag_at old (block_of (payload_of x))) (sym e) own_stays.tag_kept
    | inr o ↦ o.tag_kept
  ]

  -- ---- the value of the place afterwards

  -- the values of the place's root
  pub record NowThere (vs : Values) : Type 0 where
    pub now : Value
    pub news : List ℕ
    pub holds_now : Holds new p.picture.table place now news
    pub fits : AllByRecursion (Fits new) news
    pub values_are : vs ≡ (with_item l.root l.item (with_value_at path.selectors now)).values
    pub reached : (whole : Value) → nth vs l.item ≡ Some whole → value_at whole path.selectors ≡ Some now

  pub now_there : {vs : Values} {blocks : List ℕ} → HoldsEach new p.picture.table (items p.picture.table l.root.at l.root.type (count l.root.values)) vs blocks → AllByRecursion (Fits new) blocks → NowThere vs
  now_there {vs = vs} {blocks = blocks} here fit =
      let n = count l.root.values in
      let m = middle new p.picture.table here l.item (item_of p.picture.table l.root l.item) (items_nth p.picture.table l.root.at l.root.type n l.item (within p old path place l found begins its holds_it still)) in
      let cut = split new p.picture.table (surrounded_leads old new p.picture.table own_stays.surrounded) m.holds_it in
      let then_is = part.becomes new cut.value cut.its
      (each_there (KeepsBlockAround old new place.at (size p.picture.table place.type)) (part.left ++ part.right)
      (λ b some. around_root b (omega (arith, its_are b, some)) (omega (arith, its_are b, some, root_live b, one_at_most b)))) cut.holds_it in
      let same = count-change_nth (Some l.item) (with_value_at path.selectors cut.value) l.root.values in
      let values = subst (λ k. HoldsEach new p.picture.table (items p.picture.table l.root.at l.root.type k) (with_item l.root l.item (with_value_at path.selectors cut.value)).values then_is.inside) same then_is.values in
      let index : l.item ≡ count m.left = sym m.at_is ∙ count_is new p.picture.table m.lefts in
      let nth_is : nth vs l.item ≡ Some m.value = (λ j. nth (m.values_are j) (index j)) ∙ nth-append m.left m.right m.value in
      let inner = each_left (Fits new) m.zs m.ys (each_right (Fits new) m.xs (m.zs ++ m.ys) (subst (AllByRecursion (Fits new)) m.blocks_are fit)) in
      record {
        now = cut.value;
        news = cut.its;
        holds_now = cut.holds_it;
        fits = each_left (Fits new) cut.its cut.right (each_right (Fits new) cut.left (cut.its ++ cut.right) (subst (AllByRecursion (Fits new)) cut.blocks_are inner));
        values_are = (HoldsEach-one new p.picture.table here values).0;
        reached = λ whole e. (let same : m.value ≡ whole = (let f : Some m.value ≡ Some whole = sym nth_is ∙ e in cc) in subst (λ v. value_at v path.selectors ≡ Some cut.value) same cut.value_is);
      }

  -- its shared cells are the cells of the new value, and some cells that it had
  pub now_below : {vs : Values} (n : NowThere vs) (m : ℕ) (fs : List Frozen) → AllByRecursion (IsBelow m fs) (names_each l.root.values) → AllByRecursion (IsBelow m fs) (names_in n.now) → AllByRecursion (IsBelow m fs) (names_each vs)
  now_below n m fs before these = subst (λ vs. AllByRecursion (IsBelow m fs) (names_each vs)) (sym n.values_are) (own_below p old path place l found begins its holds_it still m fs before n.now these)
