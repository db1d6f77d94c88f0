-- The object of a register as calls need it: loose, with its value, apart from a place of another
-- root.
use Rattle.std.proofs.Common.{◌≡◌, ◌≢◌, ℕ, ◌+◌, ◌*◌, ◌≤◌, List, [], ◌∷◌, ◌++◌, Option, Some, refl, sym, ◌∙◌, ap, subst, arith}
use Rattle.std.proofs.lemmas.List.{append-nil}
use Rattle.seg_spec.specs.Bytes.{slice}
use Rattle.seg_spec.specs.Types.{Table, size}
use Rattle.seg_spec.specs.Value.{Value, nil, cons}
use Rattle.seg_spec.specs.Heap.{live}
use Rattle.seg_spec.specs.Block.{IsBlock, Kind, tag_of, block_of}
use Rattle.seg_spec.specs.Index.{Root, plain_root}
use Rattle.seg_spec.specs.Reads.{Place, Holds, HoldsEach, holds_none, holds_more, Leads, here}
use Rattle.seg_spec.specs.Sound.{frozen_roots, roots_of, IsPlain, HoldsRoot, HoldsRoots, holds_more_roots, times, positions}
use Rattle.seg_spec.specs.Counting.{owners_in}
use Rattle.seg_spec.specs.Roots.{item_of}
use Rattle.seg_spec.specs.Calls.{IsLoose}
use Rattle.seg_spec.specs.Owning.{Stands}
use Rattle.seg_spec.proofs.Heap.LiveBlockLaws.{times-append}
use Rattle.seg_spec.proofs.Images.PlainRootLaws.{HoldsPlain, plain_of, root_of_plain}
use Rattle.seg_spec.proofs.Images.RootLaws.{HoldsRoots-split, HoldsRoots-only}
use Rattle.client_spec.specs.Syntax.{Constant}
use Rattle.client_spec.specs.Machine.{Origin, Path, Register, State, register}
use Rattle.client_spec.specs.Meaning.{Meets}
use Rattle.client_spec.specs.Pictures.{root_of_register, LeadsInImage}
use Rattle.client_spec.specs.Typed.{RegisterType, RegisterTypes, known}
use Rattle.client_sim.specs.Shows.{World, place_in, Shown, Shows}
use Rattle.client_sim.proofs.Objects.FirstRootLaws.{Among, each_among, among_left, among_right}
use Rattle.client_sim.proofs.Objects.OwnedRootLaws.{owned_split}
use Rattle.client_sim.proofs.Objects.PictureLaws.{looks_of}
use Rattle.client_sim.proofs.Places.RootPutLaws.{root_of_pair, among_loose, all_others}
use Rattle.client_sim.proofs.Places.PathPlaceLaws.{PlaceFound}
use Rattle.client_sim.proofs.Places.RootChangeLaws.{frozen_first, roots_split, beside_others}
use Rattle.client_sim.proofs.Objects.OwnedMoveLaws.{owned_beside}

-- a root's blocks are among those of all roots
root_among : (bytes : List ℕ) (table : Table) (roots : List Root) (xs : List ℕ) (root : Root) → HoldsRoots bytes table roots xs → Among roots root
    → (its : List ℕ) × HoldsRoot bytes table root its × ((h : ℕ) → times h its ≤ times h xs)
root_among bytes table roots xs root holds a =
    let s = HoldsRoots-split bytes table a.before (root ∷ a.after) xs (subst (λ rs. HoldsRoots bytes table rs xs) a.is holds) in
    let t = HoldsRoots-split bytes table (root ∷ []) a.after s.right s.rights in (
      t.left,
      HoldsRoots-only bytes table root t.left t.lefts,
      (λ h.
          let e = ap (times h) s.blocks_are ∙ times-append h s.left s.right in
          let f = ap (times h) t.blocks_are ∙ times-append h t.left t.right in
          omega (arith, e, f)),
    )

-- ---- a root without a name is a loose object

no_bytes : (bytes : List ℕ) (at : ℕ) → slice bytes at 0 ≡ []
unfolding slice
no_bytes bytes at = refl

-- the root of a loose object
abbrev pub root_of : Place → Value → Root
root_of object v = plain_root [] object.at object.type (cons v nil)

module _ (bytes : List ℕ) (table : Table) where
  only_value : (place : Place) (v : Value) (xs : List ℕ) → HoldsEach bytes table (place ∷ []) (cons v nil) xs → Holds bytes table place v xs
  only_value place v xs (holds_more {blocks = mine} h holds_none) = rw (append-nil mine) h

  loose_of_plain : (root : Root) (v : Value) (its : List ℕ) → root.name ≡ [] → root.values ≡ cons v nil → HoldsPlain bytes table root its → ((h : ℕ) → times h its ≤ times h (positions (live bytes)))
      → (inside : List ℕ) × (its ≡ block_of root.at ∷ inside) × IsLoose bytes table (record { at = root.at; type = root.type }) v inside
  loose_of_plain root v its no_name values h owned =
      let sized : 1 * size table root.type + 0 ≡ size table root.type = omega arith in
      let block = rw (no_name, values, sized) at h.block in
      let each = rw values at h.values in (
        h.inside,
        h.blocks_are,
        record { block = block; holds_it = only_value (record { at = root.at; type = root.type }) v h.inside each; owned = λ n. let l = owned n in rw h.blocks_are at l },
      )

  pub loose_of_root : (root : Root) (v : Value) (its : List ℕ) → root.name ≡ [] → root.words ≡ [] → root.values ≡ cons v nil → HoldsRoot bytes table root its → ((h : ℕ) → times h its ≤ times h (positions (live bytes)))
      → (inside : List ℕ) × (its ≡ block_of root.at ∷ inside) × IsLoose bytes table (record { at = root.at; type = root.type }) v inside
  loose_of_root root v its no_name no_words values h owned = loose_of_plain root v its no_name values (plain_of bytes table root its no_words h) owned

  pub root_of_loose : (object : Place) (v : Value) (inside : List ℕ) → IsLoose bytes table object v inside → HoldsRoot bytes table (root_of object v) (block_of object.at ∷ inside)
  root_of_loose object v inside h =
      let sized : size table object.type ≡ 1 * size table object.type + 0 = omega arith in
      root_of_plain bytes table (root_of object v) (block_of object.at ∷ inside) refl (record {
        block = subst (λ n. IsBlock bytes object.at (tag_of Kind.object object.type) n) sized h.block;
        name_is = no_bytes bytes (object.at + 1 * size table object.type);
        inside = inside;
        values = subst (λ bs. HoldsEach bytes table (object ∷ []) (cons v nil) bs) (append-nil inside) (holds_more h.holds_it holds_none);
        blocks_are = refl;
      })

-- ---- the object of register c

nowhere_else : {bytes : List ℕ} {table : Table} {place inner : Place} → Leads bytes table place [] inner → inner ≡ place
nowhere_else here = refl

first_at : (table : Table) (root : Root) → (item_of table root 0).at ≡ root.at
first_at table root = omega arith

module _ {others : List Root} {types : Table} {constants : List Constant} {first : Option (List ℕ)} {allocator : ℕ} {ks : RegisterTypes} {s : State} {w : World} (h : Shows others types constants first allocator ks s w) (c : ℕ) where
  pub record OwnsHere (U : ℕ) : Type 0 where
    pub root : Root
    pub value : Value
    pub register_is : register s c ≡ Register.Owner value U
    pub root_is : root_of_register s.registers h.pictured.owned c ≡ Some root
    pub at_is : (place_in w c).at ≡ root.at
    pub type_is : root.type ≡ U
    pub values_are : root.values ≡ cons value nil
    pub no_name : root.name ≡ []
    pub no_words : root.words ≡ []

  pub owns_here : (U : ℕ) → known ks c ≡ RegisterType.Owner U → OwnsHere U
  owns_here U is =
      let picture = h.pictured.picture in
      let m = subst (λ k. Meets constants s k (register s c)) is (h.as_known.each c) in
      let shown = subst (λ k. Shown h.pictured w c k (register s c)) is (h.shown c) in
      let led = shown.2 in
      let p = root_of_pair (root_of_register s.registers h.pictured.owned c) 0 led.root led.item led.begins in
      let o = owned_split s.registers h.pictured.owned c led.root h.pictured.are_owned p.0 in
      let plain : IsPlain led.root = each_among IsPlain (picture.uniques ++ picture.loose) led.root
      (among_right picture.uniques picture.loose led.root (among_loose (looks_of h.pictured) c led.root p.0)) h.pictured.held.laid_out.plain in
      let same : Register.Owner o.value led.root.type ≡ Register.Owner m.0 U = sym o.is ∙ m.1 in
      let here : place_in w c ≡ item_of picture.table led.root 0 = nowhere_else led.leads ∙ ap (item_of picture.table led.root) (sym p.1) in
      record {
        root = led.root;
        value = o.value;
        register_is = o.is ∙ ap (Register.Owner o.value) (let t : led.root.type ≡ U = cc in t);
        root_is = p.0;
        at_is = ap (λ (q : Place). q.at) here ∙ first_at picture.table led.root;
        type_is = (let t : led.root.type ≡ U = cc in t);
        values_are = o.values_are;
        no_name = plain.no_name;
        no_words = plain.no_words;
      }

  -- the object has no block in common with the value at a place of another root
  pub owns_apart : (U : ℕ) (o : OwnsHere U) {path : Path} {place : Place} {v : Value} (led : LeadsInImage h.pictured path place) (f : PlaceFound h.pictured led v) → path.origin ≢ Origin.Owned c
      → (stands : Stands allocator w.image h.pictured.picture.table place v f.blocks)
      → (inside : List ℕ) × HoldsRoot w.image h.pictured.picture.table o.root (block_of o.root.at ∷ inside) × IsLoose w.image h.pictured.picture.table (record { at = o.root.at; type = o.root.type }) o.value inside
      × ((shared : List ℕ) → HoldsRoots w.image h.pictured.picture.table (frozen_roots h.pictured.picture) shared
      → (n : ℕ) → times n (stands.home ∷ (f.blocks ++ block_of o.root.at ∷ inside)) + times n shared ≤ times n (positions (live w.image)))
  owns_apart U o {path = path} {place = place} {v = v} led f far stands =
      let picture = h.pictured.picture in
      let b = owned_beside h.pictured led v f c o.root far o.root_is in
      let rest = all_others b.without.later.picture b.found.which b.found.before b.found.after in
      let it = root_among w.image picture.table (roots_of picture) h.pictured.held.root_blocks o.root h.pictured.held.roots
      (subst (λ rs. Among rs o.root) (sym (roots_split picture)) (among_left (owners_in picture) (frozen_roots picture) o.root
      (among_right picture.names (picture.uniques ++ picture.loose) o.root (among_right picture.uniques picture.loose o.root (among_loose (looks_of h.pictured) c o.root o.root_is))))) in
      let lives : (shared : List ℕ) → HoldsRoots w.image picture.table (frozen_roots picture) shared → (n : ℕ) → times n (stands.home ∷ (f.blocks ++ it.0)) + times n shared ≤ times n (positions (live w.image)) = λ shared frozen n.
      (let m = beside_others w.image picture h.pictured.held led.root (o.root ∷ frozen_roots picture) rest (frozen_first picture led.root (o.root ∷ []) rest b.order) led.item f.within path.selectors place led.leads v f.blocks f.holds_it
      (it.0 ++ shared) (holds_more_roots it.1 frozen) allocator stands n in
      omega (arith, m, times-append n (stands.home ∷ f.blocks) it.0, times-append n it.0 shared)) in
      let live_there : (n : ℕ) → times n it.0 ≤ times n (positions (live w.image)) = λ n.
      (let e = h.pictured.held.owners n in let k = it.2 n in omega (arith, e, k, times-append n h.pictured.held.index_blocks h.pictured.held.root_blocks)) in
      let l = loose_of_root w.image picture.table o.root o.value it.0 o.no_name o.no_words o.values_are it.1 live_there in (
        l.0,
        subst (HoldsRoot w.image picture.table o.root) l.1 it.1,
        l.2,
        (λ shared frozen n. subst (λ bs. times n (stands.home ∷ (f.blocks ++ bs)) + times n shared ≤ times n (positions (live w.image))) l.1 (lives shared frozen n)),
      )
