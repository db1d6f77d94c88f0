-- Adding and removing objects: each path that still has a root refers to the same place, and a
-- world that represented the state represents the one with or without the object.
use Rattle.std.proofs.Common.{◌≡◌, ℕ, ◌≤◌, ◌+◌, ◌⊎◌, inl, inr, List, [], ◌∷◌, ◌++◌, length, drop, Option, Some, None, refl, sym, ◌∙◌, ap, subst, arith}
use Rattle.std.specs.List.{AllByRecursion}
use Rattle.seg_spec.specs.Bytes.{word}
use Rattle.seg_spec.specs.Header.{allocator_word, free_word, KeepsFront}
use Rattle.seg_spec.specs.Types.{Table}
use Rattle.seg_spec.specs.Value.{Value}
use Rattle.seg_spec.specs.Value as values
use Rattle.seg_spec.specs.Heap.{live}
use Rattle.seg_spec.specs.Block.{block_of, KeepsBlock}
use Rattle.seg_spec.specs.Index.{Root, root_named, root_of_type}
use Rattle.seg_spec.specs.Reads.{Place, Leads}
use Rattle.seg_spec.specs.Sound.{payload_of, Picture, frozen_roots, HoldsRoot, HoldsRoots, IsHeld, times, positions}
use Rattle.seg_spec.specs.Frozen.{blocks_by}
use Rattle.seg_spec.specs.Destroying.{HoldFrozen}
use Rattle.seg_spec.specs.Counting.{owners_in}
use Rattle.seg_spec.specs.Roots.{Listed, roots_in, roots_before, item_of, KeepsPaths}
use Rattle.seg_spec.proofs.SliceLaws.{IsSame-part}
use Rattle.seg_spec.proofs.Values.PlaceFrameLaws.{word-same}
use Rattle.seg_spec.proofs.Heap.LiveBlockLaws.{times-append, each_there, live-once}
use Rattle.seg_spec.proofs.Images.LooseRootLaws.{each_joined}
use Rattle.seg_spec.proofs.Values.OneValueLaws.{HoldsEach-one}
use Rattle.seg_spec.proofs.Images.RootLaws.{HoldsRoots-split, root_comes_apart}
use Rattle.seg_spec.proofs.Images.RootChangeLaws.{HoldsRoots_blocks-one}
use Rattle.seg_spec.proofs.Frozen.PictureCountLaws.{roots_held}
use Rattle.seg_spec.proofs.Frozen.PartCountLaws.{owners_after}
use Rattle.seg_spec.proofs.Values.PlaceFrameLaws.{each_left}
use Rattle.seg_spec.proofs.Images.RootPathLaws.{roots_paths}
use Rattle.client_spec.specs.Syntax.{Constant}
use Rattle.client_spec.specs.Machine.{◌>>=◌, Origin, Path, Register, State, register, owned_by, path_value}
use Rattle.client_spec.specs.Answer.{path_from}
use Rattle.client_spec.specs.Meaning.{InClass, IsAsKnown, Meets}
use Rattle.client_spec.specs.Pictures.{Pictures, LeadsInImage, root_at}
use Rattle.client_spec.specs.Typed.{RegisterType, RegisterTypes, known}
use Rattle.client_spec.specs.Ties.{ObjectsStay}
use Rattle.client_sim.proofs.Objects.OwnedPlaceLaws.{KeepsOwners}
use Rattle.client_sim.proofs.Objects.ObjectPlaceLaws.{face_same, objects_at}
use Rattle.client_sim.proofs.Objects.PictureLaws.{looks_of, begins_in}
use Rattle.client_sim.specs.Writes.{Took}
use Rattle.client_sim.specs.Shows.{World, number_in, place_in, owns_in, HasRegisters, Shown, Shows}
use Rattle.client_sim.proofs.Frozen.FrozenPathLaws.{KeepsFrozen}
use Rattle.client_sim.proofs.FrameLaws.{KeepsUnknown, Frame}
use Rattle.client_sim.proofs.Places.RootPutLaws.{after_split}
use Rattle.client_sim.proofs.Places.RootChangeLaws.{roots_split}
use Rattle.client_sim.proofs.Places.PathPlaceLaws.{item_within}

-- ---- paths

-- each allocated block that isn't in `gone` is unchanged
module _ (old new : List ℕ) (picture : Picture) (held : IsHeld old picture) (gone : List ℕ) (kept : (h : ℕ) → 1 ≤ times h (positions (live old)) → times h gone ≡ 0 → KeepsBlock old new h) where
  -- all roots keep their paths if only blocks of the index are in `gone`
  all_roots : ((h : ℕ) → times h gone ≤ times h held.index_blocks) → AllByRecursion (KeepsPaths old new picture.table) (owners_in picture ++ frozen_roots picture)
  all_roots few = subst (AllByRecursion (KeepsPaths old new picture.table)) (roots_split picture)
      (roots_paths old new picture.table held.laid_out.is_table held.roots (each_there (KeepsBlock old new) held.root_blocks (λ h some.
      let e = held.owners h ∙ times-append h held.index_blocks held.root_blocks in
      let once = live-once old (word old allocator_word) held.laid_out.heap h in
      kept h (omega (arith, e, some)) (omega (arith, e, once, few h, some)))))

  pub all_paths : ((h : ℕ) → times h gone ≤ times h held.index_blocks) → AllByRecursion (KeepsPaths old new picture.table) (owners_in picture)
  all_paths few = each_left (KeepsPaths old new picture.table) (owners_in picture) (frozen_roots picture) (all_roots few)

  -- all other roots keep their paths if blocks of one root and of frozen objects are in `gone` too
  pub other_paths : (which : Listed) (before : List Root) (root : Root) (after : List Root) → roots_in picture which ≡ before ++ root ∷ after → (objects : List ℕ) → HoldsRoot old picture.table root objects
      → (theirs : ℕ → List ℕ) → HoldFrozen old picture.table theirs picture.frozen → ((h : ℕ) → times h gone ≤ times h objects + times h held.index_blocks + times h (blocks_by theirs picture.frozen))
      → AllByRecursion (KeepsPaths old new picture.table) (roots_before picture which before ++ owners_after picture which after)
  other_paths which before root after among objects holds theirs frozen few =
      let a = root_comes_apart old picture held which before root after among in
      let back = owners_after picture which after in
      let same : a.its ≡ objects = a.holds_it.blocks_are ∙ ap (λ bs. block_of (payload_of root) ∷ bs) (HoldsEach-one old picture.table a.holds_it.values holds.values).1 ∙ sym holds.blocks_are in
      let b = HoldsRoots-split old picture.table back (frozen_roots picture) a.right (subst (λ rs. HoldsRoots old picture.table rs a.right) (after_split picture which after) a.holds_after) in
      let shared : b.right ≡ blocks_by theirs picture.frozen = HoldsRoots_blocks-one old picture.table (frozen_roots picture) b.right (blocks_by theirs picture.frozen) b.rights (roots_held old picture.table theirs picture.frozen frozen) in
      let stay : (h : ℕ) → 1 ≤ times h a.left + times h b.left → KeepsBlock old new h = λ h some.
      (let e = held.owners h ∙ times-append h held.index_blocks held.root_blocks in
      let f = ap (times h) a.blocks_are ∙ times-append h a.left (a.its ++ a.right) in
      let g = times-append h a.its a.right in
      let i = ap (times h) b.blocks_are ∙ times-append h b.left b.right in
      let mine = ap (times h) same in
      let others = ap (times h) shared in
      let once = live-once old (word old allocator_word) held.laid_out.heap h in
      kept h (omega (arith, e, f, g, i, some)) (omega (arith, e, f, g, i, mine, others, once, few h, some))) in
      each_joined (KeepsPaths old new picture.table) (roots_before picture which before) back
      (roots_paths old new picture.table held.laid_out.is_table a.holds_before (each_there (KeepsBlock old new) a.left (λ h some. stay h (omega (arith, some)))))
      (roots_paths old new picture.table held.laid_out.is_table b.lefts (each_there (KeepsBlock old new) b.left (λ h some. stay h (omega (arith, some)))))

-- origins have the same roots, except for those that end, and paths from there refer to the same
-- places
pub record KeepsRoots {others : List Root} {s s' : State} {old new : List ℕ} (pictured : Pictures others s old) (later : Pictures others s' new) (Ends : Origin → Type 0) : Type 0 where
  pub table : later.picture.table ≡ pictured.picture.table
  pub begins : (o : Origin) (root : Root) (item : ℕ) → root_at pictured o ≡ Some (root, item) → Ends o ⊎ ((root_at later o ≡ Some (root, item)) × KeepsPaths old new pictured.picture.table root)

pub leads_on : {others : List Root} {s s' : State} {old new : List ℕ} (pictured : Pictures others s old) (later : Pictures others s' new) (Ends : Origin → Type 0) → KeepsRoots pictured later Ends
    → (path : Path) (place : Place) (x : Value) → path_value s path ≡ Some x → LeadsInImage pictured path place → Ends path.origin ⊎ LeadsInImage later path place
leads_on {new = new} pictured later Ends k path place x there led = elim (k.begins path.origin led.root led.item led.begins) [
  | inl e ↦ inl e
  | inr p ↦ inr (record {
    root = led.root;
    item = led.item;
    begins = p.0;
    leads = subst (λ table. Leads new table (item_of table led.root led.item) path.selectors place) (sym k.table) (p.1 led.item path.selectors place (item_within pictured path place x there led) led.leads);
  })
]

-- named and unique objects stay, except for those whose paths end
pub objects_rooted : {others : List Root} {s s' : State} {old new : List ℕ} {pictured : Pictures others s old} {later : Pictures others s' new} {Ends : Origin → Type 0} → KeepsRoots pictured later Ends
    → ((name : List ℕ) → Ends (Origin.Name name 0) → root_named later.picture.names name ≡ None) → ((T : ℕ) → Ends (Origin.Unique T) → root_of_type later.picture.uniques T ≡ None)
    → ObjectsStay pictured.picture later.picture
objects_rooted {pictured = pictured} {later = later} {Ends = Ends} keeps = objects_at (looks_of pictured) (looks_of later) Ends (λ o r i e. elim (keeps.begins o r i (begins_in pictured o ∙ e)) [
  | inl ends ↦ inl ends
  | inr p ↦ inr (r, sym (begins_in later o) ∙ p.0, face_same r)
])

-- ---- worlds

-- the origins of the paths that may continue from a register, by what is known of it
abbrev pub BeginsFrom : List Constant → ℕ → RegisterType → Origin → Type 0
BeginsFrom constants r RegisterType.Undefined o = ⊥
BeginsFrom constants r RegisterType.Int o = ⊥
BeginsFrom constants r (RegisterType.Reference class T) o = InClass constants class o
BeginsFrom constants r (RegisterType.Owner T) o = o ≡ Origin.Owned r

-- a register is unchanged, the same is known of it, and no path from it ends
pub record Remains (constants : List Constant) (Ends : Origin → Type 0) (ks ks' : RegisterTypes) (s s' : State) (w w' : World) (r : ℕ) : Type 0 where
  pub known_is : known ks' r ≡ known ks r
  pub register_is : register s' r ≡ register s r
  pub number_is : number_in w' r ≡ number_in w r
  pub place_is : place_in w' r ≡ place_in w r
  pub owns_is : owns_in w' r ≡ owns_in w r
  pub goes_on : (o : Origin) → BeginsFrom constants r (known ks r) o → Ends o → ⊥

-- both have the same types, input and output
pub record SameBesides (w w' : World) (s s' : State) : Type 0 where
  pub table : w'.table ≡ w.table
  pub input : w'.input ≡ w.input
  pub read : w'.read ≡ w.read
  pub taken : w'.taken ≡ w.taken
  pub types : s'.types ≡ s.types
  pub state_input : s'.input ≡ s.input
  pub state_output : s'.output ≡ s.output

module _ {others : List Root} {types : Table} {constants : List Constant} {first : Option (List ℕ)} {allocator : ℕ} {ks : RegisterTypes} {s : State} {w : World} (h : Shows others types constants first allocator ks s w)
    (ks' : RegisterTypes) (s' : State) (w' : World) (later : Pictures others s' w'.image) (Ends : Origin → Type 0) (keeps : KeepsRoots h.pictured later Ends) where
  carried : (r : ℕ) (k : RegisterType) → ((o : Origin) → BeginsFrom constants r k o → Ends o → ⊥) → number_in w' r ≡ number_in w r → place_in w' r ≡ place_in w r → owns_in w' r ≡ owns_in w r
      → Meets constants s k (register s r) → Shown h.pictured w r k (register s r) → Shown later w' r k (register s r)
  carried r RegisterType.Undefined on number place owns m n = owns ∙ n
  carried r RegisterType.Int on number place owns m n = (owns ∙ n.0, n.1 ∙ ap Register.Int (sym number))
  carried r (RegisterType.Reference class T) on number place owns m n =
      let same : m.path ≡ n.1 = (let e : Register.Reference m.path ≡ Register.Reference n.1 = sym m.is ∙ n.2 in cc) in
      let there = ap (path_value s) (sym same) ∙ m.leads.there in
      let led : LeadsInImage later n.1 (place_in w r) = elim (leads_on h.pictured later Ends keeps n.1 (place_in w r) m.leads.value there n.4) [
        | inl e ↦ absurd (on n.1.origin (subst (λ (p : Path). InClass constants class p.origin) same m.within) e)
        | inr l ↦ l
      ] in
      (owns ∙ n.0, n.1, n.2, ap (λ (p : Place). p.type) place ∙ n.3, subst (λ p. LeadsInImage later n.1 p) (sym place) led)
  carried r (RegisterType.Owner T) on number place owns m n =
      let path : Path = path_from (Origin.Owned r) in
      let there : path_value s path ≡ Some m.0 = ap (λ x. owned_by x >>= λ (found : Value × ℕ). values.value_at found.0 []) m.1 in
      let led : LeadsInImage later path (place_in w r) = elim (leads_on h.pictured later Ends keeps path (place_in w r) m.0 there n.2) [ inl e ↦ absurd (on (Origin.Owned r) refl e) | inr l ↦ l ] in
      (owns ∙ n.0, ap (λ (p : Place). p.type) place ∙ n.1, subst (λ p. LeadsInImage later path p) (sym place) led)

  pub shows_rooted : KeepsFront w.image w'.image → IsAsKnown types constants ks' s' → length ks' ≡ 16 → HasRegisters w' → SameBesides w w' s s'
      → ((r : ℕ) → Remains constants Ends ks ks' s s' w w' r ⊎ Shown later w' r (known ks' r) (register s' r))
      → Shows others types constants first allocator ks' s' w'
  shows_rooted front as_known sixteen registers besides each = record {
    pictured = later;
    as_known = as_known;
    sixteen = sixteen;
    registers = registers;
    shown = λ r. elim (each r) [
      | inl m ↦
          let on = carried r (known ks r) m.goes_on m.number_is m.place_is m.owns_is (h.as_known.each r) (h.shown r) in
          subst (λ k. Shown later w' r k (register s' r)) (sym m.known_is) (subst (λ x. Shown later w' r (known ks r) x) (sym m.register_is) on)
      | inr n ↦ n
    ];
    table_is = besides.table ∙ h.table_is ∙ sym besides.types;
    input_is = besides.state_input ∙ h.input_is ∙ ap (λ n. drop n w.input) (sym besides.read) ∙ ap (drop w'.read) (sym besides.input);
    took = subst (λ out. Took first w'.taken out) (sym besides.state_output) (subst (λ taken. Took first taken s.output) (sym besides.taken) h.took);
    allocator_is = word-same w.image w'.image allocator_word (IsSame-part w.image w'.image 0 free_word allocator_word 4 (omega arith) (omega arith) front) ∙ h.allocator_is;
  }

  pub pictured_rooted : (front : KeepsFront w.image w'.image) (as_known : IsAsKnown types constants ks' s') (sixteen : length ks' ≡ 16) (registers : HasRegisters w') (besides : SameBesides w w' s s')
      (each : (r : ℕ) → Remains constants Ends ks ks' s s' w w' r ⊎ Shown later w' r (known ks' r) (register s' r)) → (shows_rooted front as_known sixteen registers besides each).pictured ≡ later
  unfolding shows_rooted
  pictured_rooted front as_known sixteen registers besides each = refl

  pub frame_rooted : {s₀ : State} {w₀ : World} {before : Pictures others s₀ w₀.image} (front : KeepsFront w.image w'.image) (as_known : IsAsKnown types constants ks' s') (sixteen : length ks' ≡ 16) (registers : HasRegisters w')
      (besides : SameBesides w w' s s') (each : (r : ℕ) → Remains constants Ends ks ks' s s' w w' r ⊎ Shown later w' r (known ks' r) (register s' r))
      → KeepsFrozen w₀.image w'.image before.picture.table before.picture.frozen later.picture.frozen → KeepsUnknown ks' s₀ s' w₀ w' → KeepsOwners w₀ w'
      → ObjectsStay before.picture later.picture
      → Frame ks' w₀ w' before (shows_rooted front as_known sixteen registers besides each).pictured
  unfolding shows_rooted
  frame_rooted front as_known sixteen registers besides each stays kept owners objects = record { frozen = stays; unknown = kept; owners = owners; objects = objects }
