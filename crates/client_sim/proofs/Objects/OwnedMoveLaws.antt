-- An own takes the object of a register, or a register the object of an own: the image pictures the
-- state afterwards, and paths that still have a root refer to the same places.
use Rattle.std.proofs.Common.{◌≡◌, ◌≢◌, ℕ, zero, suc, ◌<◌, ◌⊎◌, inl, inr, List, [], ◌∷◌, ◌++◌, length, map, Option, Some, None, refl, sym, ◌∙◌, ap, subst, append_assoc, arith}
use Rattle.std.proofs.lemmas.List.{append-nil}
use Rattle.std.specs.Prelude.{slice_set}
use Rattle.std.specs.Option.{option_map_or}
use Rattle.seg_spec.specs.Types.{Table}
use Rattle.seg_spec.specs.Value.{Value, nil, cons, count, Selector, with_value_at}
use Rattle.seg_spec.specs.Heap.{Span}
use Rattle.seg_spec.specs.Apart.{GoesOnAfter}
use Rattle.seg_spec.specs.Index.{Root}
use Rattle.seg_spec.specs.Reads.{Place, Leads}
use Rattle.seg_spec.specs.Bytes.{word}
use Rattle.seg_spec.specs.Header.{next_word}
use Rattle.seg_spec.specs.Frozen.{root_of_frozen, blocks_by}
use Rattle.seg_spec.specs.Shared.{names_in, names_each, left}
use Rattle.seg_spec.specs.Sound.{Picture, frozen_roots, IsPlain, roots_of, HoldsRoot, HoldsRoots, holds_no_root, holds_more_roots, IsLaidOut, IsHeld}
use Rattle.seg_spec.specs.Destroying.{HoldFrozen}
use Rattle.seg_spec.specs.Clearing.{ClearsPlace}
use Rattle.seg_spec.specs.Counting.{cells_in, owners_in, AreCounted}
use Rattle.seg_spec.specs.Roots.{roots_before, item_of, with_item, KeepsPaths, KeepsPathsBeside, ChangesPlace, MovesPlace, HasFace}
use Rattle.seg_spec.proofs.Values.PlaceFrameLaws.{each_left}
use Rattle.seg_spec.proofs.Frozen.ReleaseOrderLaws.{none_gone}
use Rattle.seg_spec.proofs.Frozen.PictureCountLaws.{roots_held}
use Rattle.seg_spec.proofs.Frozen.PartCountLaws.{frozen_same, owners_after, owners_are, owners_with, SameNames, names_same, names_then}
use Rattle.seg_spec.proofs.Deallocation.OwnerDestructionLaws.{laid_out_without}
use Rattle.seg_spec.proofs.Images.RootChangeLaws.{moves}
use Rattle.seg_spec.proofs.Images.RootLaws.{HoldsRoots-one, IsLaidOut-kept, IsLaidOut-faced}
use Rattle.seg_spec.proofs.Images.RootWriteLaws.{faced}
use Rattle.seg_spec.proofs.Frozen.KeptCountLaws.{counted_on}
use Rattle.client_spec.specs.Machine.{Origin, Path, Register, Object, State, with_name, register, set_register, owned_by, with_owned, replace_item, at_origin, path_value, put_origin, put_at}
use Rattle.client_spec.specs.Pictures.{root_of_register, Pictures, LeadsInImage, root_at}
use Rattle.client_spec.specs.Ties.{ObjectsStay}
use Rattle.client_spec.proofs.TypedStates.PutLaws.{put_at_is, put_length}
use Rattle.client_spec.proofs.TypedStates.StateLaws.{register_set}
use Rattle.client_sim.proofs.Objects.FirstRootLaws.{each_among}
use Rattle.client_sim.proofs.Frozen.FrozenPathLaws.{KeepsFrozen, frozen_left}
use Rattle.client_sim.proofs.Objects.PictureLaws.{Looks, root_in, looks_of, looks_left, held_by, begins_in, begins_at, begins_left}
use Rattle.client_sim.proofs.Places.RootPutLaws.{RootFound, root_for, all_others}
use Rattle.client_sim.proofs.Places.PathPlaceLaws.{PlaceFound, owners_split, item_within, frozen_aside}
use Rattle.client_sim.proofs.Objects.OwnedPictureLaws.{Without, goes, comes}
use Rattle.client_sim.proofs.Objects.ObjectPlaceLaws.{objects_at, face_same}
use Rattle.client_sim.proofs.Places.RootChangeLaws.{Reorders, order_same, order_then, order_under, order_first, order_back, order_exchanged, frozen_first, frozen_last, from_frozen_first, from_frozen_last}
use Rattle.client_sim.proofs.Places.RootChangeLaws.{index_kept, beside_kept, paths_kept, moved_held, counted_moved}

-- ---- a put, while a register loses its object

pub set_order : {A : Type 0} (xs : List A) (i j : ℕ) (x y : A) → i ≢ j → slice_set (slice_set xs i x) j y ≡ slice_set (slice_set xs j y) i x
set_order [] i j x y far = refl
set_order (z ∷ xs) zero zero x y far = absurd (far refl)
set_order (z ∷ xs) zero (suc j) x y far = refl
set_order (z ∷ xs) (suc i) zero x y far = refl
set_order (z ∷ xs) (suc i) (suc j) x y far = ap (λ ys. z ∷ ys) (set_order xs i j x y (λ e. far (ap suc e)))

pub register_beside : (s : State) (c q : ℕ) (x : Register) → c ≢ q → register (set_register s c x) q ≡ register s q
register_beside s c q x far = elim (register_set s c q x) [ inl p ↦ absurd (far p.1) | inr p ↦ p ]

pub origin_beside : (s : State) (c : ℕ) (x : Register) (o : Origin) → o ≢ Origin.Owned c → at_origin (set_register s c x) o ≡ at_origin s o
origin_beside s c x (Origin.Name name i) far = refl
origin_beside s c x (Origin.Unique t) far = refl
origin_beside s c x (Origin.Owned q) far = ap owned_by (register_beside s c q x (λ e. far (ap Origin.Owned (sym e))))

pub put_order : (s : State) (c : ℕ) (x : Register) (o : Origin) (v : Value) → o ≢ Origin.Owned c → put_origin (set_register s c x) o v ≡ set_register (put_origin s o v) c x
put_order s c x (Origin.Name name i) v far = go (s.names name)
  where
    go : (o : Option Object)
        → option_map_or (λ o. record (set_register s c x) { names = with_name s.names name (Some (replace_item i v o)) }) o (set_register s c x)
        ≡ set_register (option_map_or (λ o. record s { names = with_name s.names name (Some (replace_item i v o)) }) o s) c x
    go None = refl
    go (Some o) = refl
put_order s c x (Origin.Unique t) v far = refl
put_order s c x (Origin.Owned q) v far =
    let apart : c ≢ q = λ e. far (ap Origin.Owned (sym e)) in
    ap (λ (r : Register). set_register (set_register s c x) q (with_owned v r)) (register_beside s c q x apart)
    ∙ ap (λ (rs : List Register). record s { registers = rs }) (set_order s.registers c q x (with_owned v (register s q)) apart)

-- ---- the object of another register

module _ {others : List Root} {s : State} {bytes : List ℕ} (pictured : Pictures others s bytes) {path : Path} {place : Place} (led : LeadsInImage pictured path place) (v : Value) (f : PlaceFound pictured led v) where
  -- after the object of register c is removed, the path has the same root, which isn't that object
  pub record OwnedBeside (c : ℕ) (root : Root) : Type 0 where
    pub without : Without (looks_of pictured) c root
    pub found : RootFound without.later path.origin led.root led.item f.whole
    pub order : Reorders (owners_in pictured.picture) (led.root ∷ (root ∷ all_others without.later.picture found.which found.before found.after))

  pub owned_beside : (c : ℕ) (root : Root) → path.origin ≢ Origin.Owned c → root_of_register s.registers pictured.owned c ≡ Some root → OwnedBeside c root
  owned_beside c root apart owned =
      let l = goes (looks_of pictured) c root owned in
      let at : at_origin (set_register s c Register.Undefined) path.origin ≡ Some (f.whole, f.type) = origin_beside s c Register.Undefined path.origin apart ∙ f.at in
      let begins : root_in l.later path.origin ≡ Some (led.root, led.item) = elim (l.begins path.origin led.root led.item (sym (begins_in pictured path.origin) ∙ led.begins)) [ inl e ↦ absurd (apart e) | inr e ↦ e ] in
      let found = root_for l.later path.origin led.root led.item f.whole f.type begins at in
      let before = roots_before l.later.picture found.which found.before in
      let after = owners_after l.later.picture found.which found.after in
      let split : l.left ++ l.right ≡ before ++ led.root ∷ after = sym l.owners_then ∙ owners_are l.later.picture found.which found.before (led.root ∷ []) found.after found.among in
      record {
        without = l;
        found = found;
        order = order_then (order_same l.owners_are) (order_then (order_first l.left root l.right)
            (order_then (order_under root (order_then (order_same split) (order_first before led.root after))) (order_exchanged root led.root (before ++ after))));
      }

-- ---- the roots of paths

module _ {others : List Root} {s : State} {bytes : List ℕ} (pictured : Pictures others s bytes) {path : Path} {place : Place} (led : LeadsInImage pictured path place) (old_value : Value) (f : PlaceFound pictured led old_value)
    (new : List ℕ) where
  -- the image pictures another state, and paths have the same roots, except for those from a
  -- register that no longer owns anything
  pub record MovedPaths (s' : State) (Ends : Origin → Type 0) : Type 0 where
    pub later : Pictures others s' new
    pub table_is : later.picture.table ≡ pictured.picture.table
    pub objects : ObjectsStay pictured.picture later.picture
    pub leads : (other : Path) (target : Place) (x : Value) → path_value s other ≡ Some x → LeadsInImage pictured other target
        → Ends other.origin ⊎ (((other.origin ≡ path.origin) × GoesOnAfter path.selectors other.selectors) ⊎ LeadsInImage later other target)

  -- the same, and no object became frozen
  pub record Moved (s' : State) (Ends : Origin → Type 0) : Type 0 where
    pub to : MovedPaths s' Ends
    pub stays : KeepsFrozen bytes new pictured.picture.table pictured.picture.frozen to.later.picture.frozen

module _ {others : List Root} {s : State} {bytes : List ℕ} (pictured : Pictures others s bytes) {path : Path} {place : Place} (led : LeadsInImage pictured path place) (old_value : Value) (f : PlaceFound pictured led old_value)
    (new : List ℕ) (w : Value) where
  abbrev table : Table
  table = pictured.picture.table

  abbrev change : Value → Value
  change = with_value_at path.selectors w

  abbrev changed : Root
  changed = with_item led.root led.item change

  abbrev whole_then : Value
  whole_then = with_value_at path.selectors w f.whole

  -- the root of a path is the changed one, or one in which paths are kept
  abbrev pub BeginsThen : {s' : State} → Looks others s' → (Origin → Type 0) → Type 0
  BeginsThen looks Ends =
      (o : Origin) (r : Root) (i : ℕ) → root_in (looks_of pictured) o ≡ Some (r, i)
      → Ends o ⊎ (((r ≡ led.root) × (i ≡ led.item → o ≡ path.origin) × (root_in looks o ≡ Some (changed, i))) ⊎ (KeepsPaths bytes new table r × (root_in looks o ≡ Some (r, i))))

  -- paths whose roots are still there refer to the same places
  pub leads_then : {s' : State} (looks : Looks others s') (held : IsHeld new looks.picture) (counted : AreCounted (word new next_word) looks.picture) (Ends : Origin → Type 0) → looks.picture.table ≡ table
      → KeepsPathsBeside bytes new table led.root led.item path.selectors → BeginsThen looks Ends
      → (other : Path) (target : Place) (x : Value) → path_value s other ≡ Some x → LeadsInImage pictured other target
      → Ends other.origin ⊎ (((other.origin ≡ path.origin) × GoesOnAfter path.selectors other.selectors) ⊎ LeadsInImage (held_by looks held counted) other target)
  leads_then looks held counted Ends same beside begins other target x there l = elim (begins other.origin l.root l.item (sym (begins_in pictured other.origin) ∙ l.begins)) [
    | inl e ↦ inl e
    | inr (inl p) ↦ elim (beside l.item other.selectors target (subst (λ (r : Root). l.item < count r.values) p.0 (item_within pictured other target x there l))
        (subst (λ (r : Root). Leads bytes table (item_of table r l.item) other.selectors target) p.0 l.leads)) [
          | inl g ↦ inr (inl (p.1 g.0, g.1))
          | inr k ↦ inr (inr (record { root = changed; item = l.item; begins = sym (begins_at looks held counted other.origin) ∙ p.2; leads = on_table led.root l.item k }))
        ]
    | inr (inr p) ↦ inr (inr (record {
      root = l.root;
      item = l.item;
      begins = sym (begins_at looks held counted other.origin) ∙ p.1;
      leads = on_table l.root l.item (p.0 l.item other.selectors target (item_within pictured other target x there l) l.leads);
    }))
  ]
    where
      on_table : (root : Root) (i : ℕ) {selectors : List Selector} {target : Place} → Leads new table (item_of table root i) selectors target
          → Leads new looks.picture.table (item_of looks.picture.table root i) selectors target
      on_table root i {selectors = selectors} {target = target} k = subst (λ (t : Table). Leads new t (item_of t root i) selectors target) (sym same) k

  -- only paths from registers end
  abbrev pub OfRegisters : (Origin → Type 0) → Type 0
  OfRegisters Ends = (o : Origin) → Ends o → (r : ℕ) × (o ≡ Origin.Owned r)

  pub objects_then : {s' : State} (looks : Looks others s') (Ends : Origin → Type 0) → OfRegisters Ends → BeginsThen looks Ends → ObjectsStay pictured.picture looks.picture
  objects_then looks Ends owned begins = objects_at (looks_of pictured) looks Ends (λ o r i e. elim (begins o r i e) [
    | inl ends ↦ inl ends
    | inr (inl p) ↦ inr (changed, p.2, subst (λ q. HasFace q changed) (sym p.0) (faced led.root led.item change))
    | inr (inr p) ↦ inr (r, p.1, face_same r)
  ]) (λ name e. let o = (owned (Origin.Name name 0) e).1 in cc) (λ T e. let o = (owned (Origin.Unique T) e).1 in cc)

  paths_then : {s' : State} (looks : Looks others s') (held : IsHeld new looks.picture) (counted : AreCounted (word new next_word) looks.picture) (Ends : Origin → Type 0) → OfRegisters Ends → looks.picture.table ≡ table
      → KeepsFrozen bytes new table pictured.picture.frozen looks.picture.frozen → KeepsPathsBeside bytes new table led.root led.item path.selectors → BeginsThen looks Ends
      → (m : Moved pictured led old_value f new s' Ends) × ((o : Origin) (r : Root) (i : ℕ) → root_in looks o ≡ Some (r, i) → root_at m.to.later o ≡ Some (r, i))
  paths_then looks held counted Ends owned same stays beside begins = (
    record {
      to = record {
        later = held_by looks held counted;
        table_is = same;
        objects = objects_then looks Ends owned begins;
        leads = leads_then looks held counted Ends same beside begins;
      };
      stays = stays;
    },
    (λ o r i e. sym (begins_at looks held counted o) ∙ e),
  )

  -- ---- an own takes the object of register c

  -- The object moves. The object that was in the own is destroyed, with the frozen objects that
  -- only it shared.
  pub put_moves : (c : ℕ) (root : Root) (its : List ℕ) → path.origin ≢ Origin.Owned c → root_of_register s.registers pictured.owned c ≡ Some root → HoldsRoot bytes table root its → names_in w ≡ names_each root.values
      → (theirs : ℕ → List ℕ) → HoldFrozen bytes table theirs pictured.picture.frozen → ClearsPlace bytes new table place w (f.blocks ++ its) its theirs pictured.picture.frozen (left (names_in old_value) pictured.picture.frozen)
      → Moved pictured led old_value f new (set_register (put_at s path w) c Register.Undefined) (λ o. o ≡ Origin.Owned c)
  put_moves c root its apart owned holds names theirs shared clears =
      let picture = pictured.picture in
      let held = pictured.held in
      let gone = names_in old_value in
      let changes = clears.changes in
      let b = owned_beside pictured led old_value f c root apart owned in
      let l = b.without in
      let found = b.found in
      let rest = all_others l.later.picture found.which found.before found.after in
      let put = found.puts change in
      let looks = looks_left gone put.later in
      let other = looks.picture in
      let frozen = frozen_roots picture in
      let blocks = its ++ blocks_by theirs picture.frozen in
      let goes : HoldsRoots bytes table (root ∷ frozen) blocks = holds_more_roots holds (roots_held bytes table theirs picture.frozen shared) in
      let now = frozen_first picture led.root (root ∷ []) rest b.order in
      let same_frozen : put.later.picture.frozen ≡ picture.frozen =
      ap (λ (p : Picture). p.frozen) put.picture_is ∙ frozen_same l.later.picture found.which (found.before ++ changed ∷ found.after) ∙ l.frozen in
      let owners : Reorders (changed ∷ rest) (owners_in other) = order_then (order_back (roots_before l.later.picture found.which found.before) changed (owners_after l.later.picture found.which found.after))
      (order_same (sym (ap owners_in put.picture_is ∙ owners_with l.later.picture found.which found.before (changed ∷ []) found.after))) in
      let then = from_frozen_first other changed [] rest owners in
      let left_blocks = blocks_by theirs (left gone picture.frozen) in
      let comes : HoldsRoots new table (frozen_roots other) left_blocks =
      subst (λ fs. HoldsRoots new table (map root_of_frozen (left gone fs)) left_blocks) (sym same_frozen) (roots_held new table theirs (left gone picture.frozen) clears.holds) in
      let c' : MovesPlace bytes new table place w its (f.blocks ++ blocks) (its ++ left_blocks) =
      subst (λ bs. MovesPlace bytes new table place w its bs (its ++ left_blocks)) (append_assoc f.blocks its (blocks_by theirs picture.frozen)) (moves changes) in
      let index = index_kept bytes picture held led.root (root ∷ frozen) rest now led.item f.within path.selectors place led.leads old_value f.blocks f.holds_it blocks goes new w its left_blocks c' in
      let beside = beside_kept bytes picture held led.root (root ∷ frozen) rest now led.item f.within path.selectors place led.leads old_value f.blocks f.holds_it blocks goes new w its left_blocks c' in
      let paths = paths_kept bytes picture held led.root (root ∷ frozen) rest now led.item f.within path.selectors place led.leads old_value f.blocks f.holds_it blocks goes new w its left_blocks c' in
      let laid_out : IsLaidOut new other held.index_blocks = laid_out_without new put.later.picture held.index_blocks gone (subst (λ p. IsLaidOut new p held.index_blocks) (sym put.picture_is)
      (IsLaidOut-faced new l.later.picture held.index_blocks found.which found.before led.root changed found.after found.among (faced led.root led.item change)
      (l.laid_out new held.index_blocks
      (IsLaidOut-kept bytes new picture held.index_blocks held.laid_out changes.length_kept changes.front_kept changes.back_kept changes.heap changes.ownable index)))) in
      let same = put.table ∙ l.table in
      let there = moved_held bytes picture held led.root (root ∷ frozen) rest now led.item f.within path.selectors place led.leads old_value f.blocks f.holds_it blocks goes new w its left_blocks c' other (frozen_roots other) comes then
      same laid_out in
      let cells : SameNames (gone ++ cells_in (root ∷ [])) (gone ++ (names_in w ++ cells_in [])) = names_same (ap (λ xs. gone ++ (xs ++ [])) (sym names)) in
      let counted = counted_on bytes new other changes.back_kept
      (counted_moved led.root led.item f.whole f.root.item_is path.selectors old_value f.value_is (word bytes next_word) picture other (root ∷ []) [] rest w b.order owners gone cells (ap (left gone) same_frozen) pictured.counted) in
      let state : put_origin (set_register s c Register.Undefined) path.origin whole_then ≡ set_register (put_at s path w) c Register.Undefined =
      put_order s c Register.Undefined path.origin whole_then apart ∙ ap (λ z. set_register z c Register.Undefined) (sym (put_at_is s path f.whole w f.type f.at)) in
      subst (λ z. Moved pictured led old_value f new z (λ o. o ≡ Origin.Owned c)) state
      (paths_then looks there counted (λ o. o ≡ Origin.Owned c) (λ o e. (c, e)) same
      (subst (KeepsFrozen bytes new table picture.frozen) (sym (ap (left gone) same_frozen)) (frozen_left pictured new theirs shared gone clears.shared_kept)) beside
      (λ o r i e. elim (l.begins o r i e) [
        | inl g ↦ inl g
        | inr g ↦ elim (put.begins o r i g) [
          | inl p ↦ inr (inl (p.0, p.1, sym (begins_left gone put.later o) ∙ p.2))
          | inr p ↦ inr (inr (each_among (KeepsPaths bytes new table) rest r p.0 paths, sym (begins_left gone put.later o) ∙ p.1))
        ]
      ])).0

  -- ---- register a takes the object of an own

  pub take_moves : (a t : ℕ) (v : Value) (root : Root) → a < length s.registers → owned_by (register (put_at s path w) a) ≡ None → IsPlain root → root.type ≡ t → root.values ≡ cons v nil → HoldsRoot new table root f.blocks
      → SameNames (names_in old_value) (names_in w ++ names_each root.values) → {spans : List Span} → ChangesPlace bytes new table place w [] spans f.blocks f.blocks
      → (m : Moved pictured led old_value f new (set_register (put_at s path w) a (Register.Owner v t)) (λ o. ⊥)) × (root_at m.to.later (Origin.Owned a) ≡ Some (root, 0))
  take_moves a t v root within free plain type_is values_are holds names {spans = spans} changes =
      let picture = pictured.picture in
      let held = pictured.held in
      let is = put_at_is s path f.whole w f.type f.at in
      let put = f.root.puts change in
      let long : a < length (put_origin s path.origin whole_then).registers = (let n = put_length s path.origin f.whole whole_then f.type f.at in omega (arith, n, within)) in
      let l = comes put.later a long (ap (λ (z : State). owned_by (register z a)) (sym is) ∙ free) v t root type_is values_are in
      let other = l.later.picture in
      let before = roots_before picture f.root.which f.root.before in
      let after = owners_after picture f.root.which f.root.after in
      let rest = before ++ after in
      let frozen = frozen_roots picture in
      let order : Reorders (owners_in picture) (led.root ∷ rest) = order_then (order_same (owners_split pictured led old_value f)) (order_first before led.root after) in
      let now = frozen_last picture led.root [] rest order in
      let split : before ++ changed ∷ after ≡ l.left ++ l.right = sym (ap owners_in put.picture_is ∙ owners_with picture f.root.which f.root.before (changed ∷ []) f.root.after) ∙ l.owners_are in
      let owners : Reorders (changed ∷ (root ∷ rest)) (owners_in other) =
      order_then (order_exchanged changed root rest) (order_then (order_under root (order_then (order_back before changed after) (order_same split))) (order_then (order_back l.left root l.right) (order_same (sym l.owners_then)))) in
      let same_frozen : other.frozen ≡ picture.frozen =
      l.frozen ∙ ap (λ (p : Picture). p.frozen) put.picture_is ∙ frozen_same picture f.root.which (f.root.before ++ changed ∷ f.root.after) in
      let then : Reorders (changed ∷ (root ∷ (rest ++ frozen))) (roots_of other) =
      subst (λ fs. Reorders (changed ∷ (root ∷ (rest ++ map root_of_frozen fs))) (roots_of other)) same_frozen (from_frozen_last other changed (root ∷ []) rest owners) in
      let c' : MovesPlace bytes new table place w [] (f.blocks ++ []) ([] ++ f.blocks) = subst (λ bs. MovesPlace bytes new table place w [] bs f.blocks) (sym (append-nil f.blocks)) (moves changes) in
      let index = index_kept bytes picture held led.root [] (rest ++ frozen) now led.item f.within path.selectors place led.leads old_value f.blocks f.holds_it [] holds_no_root new w [] f.blocks c' in
      let beside = beside_kept bytes picture held led.root [] (rest ++ frozen) now led.item f.within path.selectors place led.leads old_value f.blocks f.holds_it [] holds_no_root new w [] f.blocks c' in
      let all_paths = paths_kept bytes picture held led.root [] (rest ++ frozen) now led.item f.within path.selectors place led.leads old_value f.blocks f.holds_it [] holds_no_root new w [] f.blocks c' in
      let paths = each_left (KeepsPaths bytes new table) rest frozen all_paths in
      let stay = subst (KeepsFrozen bytes new table picture.frozen) (sym same_frozen) (frozen_aside pictured led old_value f new changes) in
      let laid_out : IsLaidOut new other held.index_blocks = l.laid_out plain new held.index_blocks (subst (λ p. IsLaidOut new p held.index_blocks) (sym put.picture_is)
      (IsLaidOut-faced new picture held.index_blocks f.root.which f.root.before led.root changed f.root.after f.root.among (faced led.root led.item change)
      (IsLaidOut-kept bytes new picture held.index_blocks held.laid_out changes.length_kept changes.front_kept changes.back_kept changes.heap changes.ownable index))) in
      let same = l.table ∙ put.table in
      let there = moved_held bytes picture held led.root [] (rest ++ frozen) now led.item f.within path.selectors place led.leads old_value f.blocks f.holds_it [] holds_no_root new w [] f.blocks c' other (root ∷ [])
      (HoldsRoots-one new table holds) then same laid_out in
      let cells : SameNames (names_in old_value ++ cells_in []) ([] ++ (names_in w ++ cells_in (root ∷ []))) =
      names_then (names_same (append-nil (names_in old_value))) (names_then names (names_same (ap (λ xs. names_in w ++ xs) (sym (append-nil (names_each root.values)))))) in
      let counted = counted_on bytes new other changes.back_kept
      (counted_moved led.root led.item f.whole f.root.item_is path.selectors old_value f.value_is (word bytes next_word) picture other [] (root ∷ []) rest w order owners [] cells
      (same_frozen ∙ sym (none_gone picture.frozen pictured.counted.counted.some)) pictured.counted) in
      let moved = paths_then l.later there counted (λ o. ⊥) (λ o e. absurd e) same stay beside (λ o r i e. elim (put.begins o r i e) [
        | inl p ↦ inr (inl (p.0, p.1, l.begins o changed i p.2))
        | inr p ↦ inr (inr (each_among (KeepsPaths bytes new table) rest r p.0 paths, l.begins o r i p.1))
      ]) in
      subst (λ z. (m : Moved pictured led old_value f new (set_register z a (Register.Owner v t)) (λ o. ⊥)) × (root_at m.to.later (Origin.Owned a) ≡ Some (root, 0))) (sym is)
      (moved.0, moved.1 (Origin.Owned a) root 0 l.here)
