-- The frozen objects of a picture, as places that contain values.
use Rattle.std.proofs.Common.{◌≡◌, ℕ, ◌+◌, ◌/◌, ◌%◌, ◌<◌, ◌≤◌, inl, inr, ⊎_elim, List, [], ◌∷◌, ◌++◌, map, Some, None, refl, sym, ap, ◌∙◌, subst, arith}
use Rattle.std.specs.List.{AllByRecursion}
use Rattle.seg_spec.specs.Bytes.{word}
use Rattle.seg_spec.specs.Types.{Table, size}
use Rattle.seg_spec.specs.Value.{Values, nil, cons}
use Rattle.seg_spec.specs.Heap.{tag_at, live}
use Rattle.seg_spec.specs.Block.{Kind, tag_of, block_of, IsBlock}
use Rattle.seg_spec.specs.Reads.{Place}
use Rattle.seg_spec.specs.Frozen.{Frozen, root_of_frozen, frozen_words}
use Rattle.seg_spec.specs.Shared.{names_in, names_each, names_of, IsBelow}
use Rattle.seg_spec.specs.Sound.{HoldsRoots, holds_no_root, holds_more_roots, times, SameBlocks, positions}
use Rattle.seg_spec.proofs.Values.PlaceFrameLaws.{each_weaker}
use Rattle.seg_spec.proofs.Heap.LiveBlockLaws.{times-append, times-same, times-other}
use Rattle.std.proofs.lemmas.Bool.{cases_eq}
use Rattle.seg_spec.proofs.Images.LooseRootLaws.{each_joined}
use Rattle.seg_spec.proofs.Frozen.ReleaseLaws.{frozen_there}
use Rattle.seg_check.specs.Naming.{IsFrozen, CanBeTarget, frozen_number_at}
use Rattle.seg_check.specs.Turns.{Limited, frozen_place}
use Rattle.seg_check.specs.Resolving.{ReadsEach, reads_none, reads_more}
use Rattle.seg_check.proofs.Queue.ReadPlaceLaws.{names_cons, names_nil, positions_of, positions_append}
use Rattle.seg_check.proofs.Contents.SharedCellLaws.{frozen_tag, frozen_type}

pub each_name : (P : Place → Type 0) (fs : List Frozen) → AllByRecursion (λ f. AllByRecursion P (names_in f.value)) fs → AllByRecursion P (names_of fs)
each_name P [] a = tt
each_name P (f ∷ fs) a = each_joined P (names_in f.value) (names_of fs) a.0 (each_name P fs a.1)

module _ (bytes : List ℕ) (table : Table) where
  -- the blocks of the objects
  abbrev pub blocks_in : List Frozen → List ℕ
  blocks_in fs = map (λ f. block_of f.at) fs

  -- the object's block contains the object
  pub record IsThere (f : Frozen) : Type 0 where
    pub block : IsBlock bytes f.at (tag_of Kind.frozen f.type) (8 + size table f.type)
    pub count_is : word bytes f.at ≡ f.count
    pub number_is : frozen_number_at bytes f.at ≡ f.number

  pub record ReadFrozen (fs : List Frozen) (blocks : List ℕ) : Type 0 where
    pub values : Values
    pub owned : List ℕ
    pub reads : ReadsEach bytes table (map (frozen_place bytes) (blocks_in fs)) values owned
    pub same : SameBlocks blocks (blocks_in fs ++ owned)
    pub names_are : names_of fs ≡ names_each values

  -- each object of the picture is in its block
  pub are_there : (fs : List Frozen) {blocks : List ℕ} → HoldsRoots bytes table (map root_of_frozen fs) blocks → AllByRecursion IsThere fs
  are_there [] holds_no_root = tt
  are_there (f ∷ fs) (holds_more_roots {blocks = xs} h hs) =
      let t = frozen_there bytes table f xs h in
      (record { block = t.block; count_is = t.count_is; number_is = t.number_is }, are_there fs hs)

  -- the objects' blocks are among the blocks of the roots
  pub blocks_there : (fs : List Frozen) {blocks : List ℕ} → HoldsRoots bytes table (map root_of_frozen fs) blocks → (h : ℕ) → times h (blocks_in fs) ≤ times h blocks
  blocks_there [] holds_no_root h = omega arith
  blocks_there (f ∷ fs) (holds_more_roots {blocks = xs} {rest = ys} r rs) h =
      let t = frozen_there bytes table f xs r in
      let mine : times h xs ≡ times h (block_of f.at ∷ []) + times h t.inside = ap (times h) t.blocks_are ∙ times-append h (block_of f.at ∷ []) t.inside in
      omega (arith, mine, times-append h xs ys, times-append h (block_of f.at ∷ []) (blocks_in fs), blocks_there fs rs h)

  pub are_frozen : (fs : List Frozen) → AllByRecursion IsThere fs → AllByRecursion (IsFrozen bytes) (blocks_in fs)
  are_frozen [] a = tt
  are_frozen (f ∷ fs) a = (ap (λ t. t % 256) a.0.block.has_tag ∙ frozen_tag f.type, are_frozen fs a.1)

  pub read_frozen : (fs : List Frozen) {blocks : List ℕ} → HoldsRoots bytes table (map root_of_frozen fs) blocks
      → AllByRecursion (λ f. AllByRecursion (CanBeTarget bytes table (Some f.number)) (names_in f.value)) fs → ReadFrozen fs blocks
  read_frozen [] holds_no_root named = record { values = nil; owned = []; reads = reads_none; same = λ h. refl; names_are = sym names_nil }
  read_frozen (f ∷ fs) (holds_more_roots {blocks = xs} {rest = ys} h hs) named =
      let t = frozen_there bytes table f xs h in
      let rest = read_frozen fs hs named.1 in
      let high = t.block.after_header in
      let start_is : block_of f.at + 16 ≡ f.at = omega arith in
      let at_is : block_of f.at + 16 + frozen_words ≡ f.at + 8 = omega arith in
      let type_is : tag_at bytes (block_of f.at) / 256 ≡ f.type = ap (λ n. n / 256) t.block.has_tag ∙ frozen_type f.type in
      let number_is : frozen_number_at bytes (block_of f.at + 16) ≡ f.number = ap (frozen_number_at bytes) start_is ∙ t.number_is in
      let place : frozen_place bytes (block_of f.at) ≡ record { place = record { at = f.at + 8; type = f.type }; below = Some f.number } =
      λ i. record { place = record { at = at_is i; type = type_is i }; below = Some (number_is i) } in
      record {
        values = cons f.value rest.values;
        owned = t.inside ++ rest.owned;
        reads = subst (λ l. ReadsEach bytes table (l ∷ map (frozen_place bytes) (blocks_in fs)) (cons f.value rest.values) (t.inside ++ rest.owned)) (sym place) (reads_more t.value named.0 rest.reads);
        same = λ x.
            let a : times x xs ≡ times x (block_of f.at ∷ []) + times x t.inside = ap (times x) t.blocks_are ∙ times-append x (block_of f.at ∷ []) t.inside in
            let b = times-append x xs ys in
            let c = rest.same x in
            let d = times-append x (blocks_in fs) rest.owned in
            let e = times-append x (block_of f.at ∷ blocks_in fs) (t.inside ++ rest.owned) in
            let g = times-append x t.inside rest.owned in
            let i = times-append x (block_of f.at ∷ []) (blocks_in fs) in
            omega arith;
        names_are = ap (λ ns. names_in f.value ++ ns) rest.names_are ∙ sym (names_cons f.value rest.values);
      }

  -- a cell may point to an object with a number below the limit
  pub below_named : (n : ℕ) (fs : List Frozen) (q : Place) → AllByRecursion IsThere fs → ((h : ℕ) → 1 ≤ times h (blocks_in fs) → 1 ≤ times h (positions (live bytes))) → IsBelow n fs q → CanBeTarget bytes table (Some n) q
  below_named n [] q all alive b = absurd b
  below_named n (f ∷ fs) q all alive (inl (at, type_is, low)) = record {
    is_block = subst (λ p. IsBlock bytes p (tag_of Kind.frozen q.type) (frozen_words + size table q.type)) at (subst (λ T. IsBlock bytes f.at (tag_of Kind.frozen T) (frozen_words + size table T)) type_is all.0.block);
    there = subst (λ p. 1 ≤ times (block_of p) (positions (live bytes))) at (alive (block_of f.at) (omega (arith, times-same (block_of f.at) (blocks_in fs))));
    under = subst (λ p. frozen_number_at bytes p < n) at (subst (λ m. m < n) (sym all.0.number_is) low);
  }
  below_named n (f ∷ fs) q all alive (inr more) = below_named n fs q all.1 (λ h some. alive h (omega (arith, some, times-append h (block_of f.at ∷ []) (blocks_in fs)))) more

  -- a cell that may point to one of the objects points to it
  pub among : (n : ℕ) (fs : List Frozen) (q : Place) → IsBelow n fs q → 1 ≤ times (block_of q.at) (blocks_in fs)
  among n [] q b = absurd b
  among n (f ∷ fs) q (inl (at, type_is, low)) = subst (λ p. 1 ≤ times (block_of p) (block_of f.at ∷ blocks_in fs)) at (omega (arith, times-same (block_of f.at) (blocks_in fs)))
  among n (f ∷ fs) q (inr more) = omega (arith, among n fs q more, times-append (block_of q.at) (block_of f.at ∷ []) (blocks_in fs))

  pub any_limit : (n : ℕ) (q : Place) → CanBeTarget bytes table (Some n) q → CanBeTarget bytes table None q
  any_limit n q i = record { is_block = i.is_block; there = i.there; under = tt }

  -- no object of a list points to an object with the greatest number
  pub none_names : (p : ℕ) (hs : List ℕ) {vs : Values} {bs : List ℕ} → AllByRecursion (λ h. frozen_number_at bytes (h + 16) ≤ frozen_number_at bytes p) hs → ReadsEach bytes table (map (frozen_place bytes) hs) vs bs
      → times p (map (λ q. q.at) (names_each vs)) ≡ 0
  none_names p [] all reads_none = ap (λ ns. times p (positions_of ns)) names_nil
  none_names p (h ∷ hs) all (reads_more {v = v} {vs = vs} x n r) =
      ap (λ ns. times p (positions_of ns)) (names_cons v vs) ∙ ap (times p) (positions_append (names_in v) (names_each vs)) ∙ times-append p (positions_of (names_in v)) (positions_of (names_each vs))
      ∙ (let first = own (names_in v) n in let rest = none_names p hs all.1 r in omega arith)
    where
      own : (qs : List Place) → AllByRecursion (CanBeTarget bytes table (Some (frozen_number_at bytes (h + 16)))) qs → times p (positions_of qs) ≡ 0
      own [] a = refl
      own (q ∷ qs) a = times-other p q.at (positions_of qs) (λ same. let under = a.0.under in let low = all.0 in let e = ap (frozen_number_at bytes) same in absurd (omega arith)) ∙ own qs a.1

  -- one of the references has this position and property
  pub record Found (P : Place → Type 0) (p : ℕ) : Type 0 where
    pub name : Place
    pub at_is : name.at ≡ p
    pub is : P name

  pub found : (P : Place → Type 0) (p : ℕ) (qs : List Place) → AllByRecursion P qs → 1 ≤ times p (positions_of qs) → Found P p
  found P p [] a some = absurd (omega arith)
  found P p (q ∷ qs) a some = ⊎_elim
      (λ same. record { name = q; at_is = same; is = a.0 })
      (λ other. found P p qs a.1 (omega (arith, some, times-other p q.at (positions_of qs) other)))
      (cases_eq q.at p)

  -- values that were read under limits may be read without limits
  pub reads_named : {ps : List Limited} {vs : Values} {bs : List ℕ} → ReadsEach bytes table ps vs bs → AllByRecursion (CanBeTarget bytes table None) (names_each vs)
  reads_named reads_none = subst (AllByRecursion (CanBeTarget bytes table None)) (sym names_nil) tt
  reads_named (reads_more {place = place} {v = v} {vs = vs} h n r) = subst (AllByRecursion (CanBeTarget bytes table None)) (sym (names_cons v vs))
      (each_joined (CanBeTarget bytes table None) (names_in v) (names_each vs)
      (each_weaker (CanBeTarget bytes table place.below) (CanBeTarget bytes table None) (λ q i. record { is_block = i.is_block; there = i.there; under = tt }) (names_in v) n) (reads_named r))

  -- a list without places has no blocks, and points to nothing
  pub no_places : {vs : Values} {bs : List ℕ} → ReadsEach bytes table [] vs bs → (bs ≡ []) × (names_each vs ≡ [])
  no_places reads_none = (refl, names_nil)
