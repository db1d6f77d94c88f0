-- The frozen objects that were read are the frozen objects of a picture.
use Rattle.std.proofs.Common.{◌≡◌, ◌≢◌, ℕ, ◌+◌, ◌/◌, ◌<◌, ◌≤◌, inl, inr, ⊎_elim, List, [], ◌∷◌, ◌++◌, map, Some, refl, sym, ap, ◌∙◌, subst, arith}
use Rattle.std.specs.List.{AllByRecursion}
use Rattle.std.proofs.lemmas.Bool.{cases_eq}
use Rattle.seg_spec.specs.Bytes.{word}
use Rattle.seg_spec.specs.Types.{Table, size}
use Rattle.seg_spec.specs.Value.{Value, Values, nil, cons}
use Rattle.seg_spec.specs.Heap.{tag_at}
use Rattle.seg_spec.specs.Block.{Kind, tag_of, block_of, IsBlock}
use Rattle.seg_spec.specs.Reads.{Place}
use Rattle.seg_spec.specs.Frozen.{Frozen, root_of_frozen}
use Rattle.seg_spec.specs.Shared.{names_in, names_each, names_of, IsBelow, AreDistinct, IsFalling}
use Rattle.seg_spec.specs.Sound.{HoldsRoots, holds_no_root, holds_more_roots, times, SameBlocks}
use Rattle.seg_spec.proofs.Values.PlaceFrameLaws.{each_weaker}
use Rattle.seg_spec.proofs.Heap.LiveBlockLaws.{times-append, times-same, times-more}
use Rattle.seg_spec.proofs.Images.OwnedTagLaws.{IsOther, owned_other}
use Rattle.seg_spec.proofs.Images.LooseRootLaws.{each_joined}
use Rattle.seg_spec.proofs.Frozen.ReleaseLaws.{IsFrozenThere, there_frozen}
use Rattle.seg_check.specs.Naming.{CanBeTarget, frozen_number_at}
use Rattle.seg_check.specs.Turns.{Limited, frozen_place}
use Rattle.seg_check.specs.Resolving.{ReadsEach, reads_none, reads_more}
use Rattle.seg_check.proofs.Queue.ReadPlaceLaws.{names_cons, names_nil, positions_of, positions_append}
use Rattle.seg_check.proofs.Objects.FrozenOrderLaws.{Falls}

module _ (bytes : List ℕ) (table : Table) where
  -- the number of the object in a block
  abbrev pub number_of : ℕ → ℕ
  number_of h = frozen_number_at bytes (h + 16)

  -- the object in a block
  abbrev pub frozen_at : ℕ → Value → Frozen
  frozen_at h v = record { at = h + 16; type = tag_at bytes h / 256; number = number_of h; count = word bytes (h + 16); value = v }

  abbrev pub frozens : List ℕ → Values → List Frozen
  frozens [] vs = []
  frozens (h ∷ hs) nil = []
  frozens (h ∷ hs) (cons v vs) = frozen_at h v ∷ frozens hs vs

  abbrev pub Reads : List ℕ → Values → List ℕ → Type 0
  Reads hs vs bs = ReadsEach bytes table (map (frozen_place bytes) hs) vs bs

  -- no value owns the block of a frozen object
  pub reads_other : {ps : List Limited} {vs : Values} {bs : List ℕ} → ReadsEach bytes table ps vs bs → AllByRecursion (IsOther bytes) bs
  reads_other reads_none = tt
  reads_other (reads_more {blocks = xs} {owned = ys} h n hs) = each_joined (IsOther bytes) xs ys (owned_other bytes table h) (reads_other hs)

  pub names_are : (hs : List ℕ) {vs : Values} {bs : List ℕ} → Reads hs vs bs → names_of (frozens hs vs) ≡ names_each vs
  names_are [] reads_none = sym names_nil
  names_are (h ∷ hs) (reads_more {v = v} {vs = vs} f n r) = ap (λ ns. names_in v ++ ns) (names_are hs r) ∙ sym (names_cons v vs)

  -- ---- the objects' blocks

  pub record Built (hs : List ℕ) (vs : Values) (bs : List ℕ) : Type 0 where
    pub blocks : List ℕ
    pub held : HoldsRoots bytes table (map root_of_frozen (frozens hs vs)) blocks
    pub same : SameBlocks blocks (hs ++ bs)

  -- each block has room for its value
  abbrev pub HasRoom : ℕ → Type 0
  HasRoom h = IsBlock bytes (h + 16) (tag_of Kind.frozen (tag_at bytes h / 256)) (8 + size table (tag_at bytes h / 256))

  pub built : (hs : List ℕ) {vs : Values} {bs : List ℕ} → AllByRecursion HasRoom hs → Reads hs vs bs → Built hs vs bs
  built [] rooms reads_none = record { blocks = []; held = holds_no_root; same = λ h. refl }
  built (h ∷ hs) rooms (reads_more {v = v} {blocks = mine} {owned = owned} f n r) =
      let rest = built hs rooms.1 r in
      let there : IsFrozenThere bytes table (frozen_at h v) (block_of (h + 16) ∷ mine) = record {
        block = rooms.0;
        count_is = refl;
        number_is = refl;
        inside = mine;
        value = f;
        blocks_are = refl;
      } in
      let own : block_of (h + 16) ≡ h = omega arith in
      record {
        blocks = (block_of (h + 16) ∷ mine) ++ rest.blocks;
        held = holds_more_roots (there_frozen bytes table (frozen_at h v) (block_of (h + 16) ∷ mine) there) rest.held;
        same = λ x.
            let a = times-append x (block_of (h + 16) ∷ mine) rest.blocks in
            let b : times x (block_of (h + 16) ∷ mine) ≡ times x (h ∷ []) + times x mine = ap (λ y. times x (y ∷ mine)) own ∙ times-append x (h ∷ []) mine in
            let c = rest.same x in
            let d = times-append x hs owned in
            let e = times-append x (h ∷ hs) (mine ++ owned) in
            let g = times-append x mine owned in
            let i = times-append x (h ∷ []) hs in
            omega arith;
      }

  -- ---- a fact about each object

  pub each_frozen : (P : Frozen → Type 0) (hs : List ℕ) {vs : Values} {bs : List ℕ} → Reads hs vs bs → AllByRecursion (λ h. (v : Value) → P (frozen_at h v)) hs → AllByRecursion P (frozens hs vs)
  each_frozen P [] reads_none all = tt
  each_frozen P (h ∷ hs) (reads_more {v = v} f n r) all = (all.0 v, each_frozen P hs r all.1)

  pub each_named : (P Q : Place → Type 0) (qs : List Place) → AllByRecursion P qs → ((q : Place) → P q → 1 ≤ times q.at (positions_of qs) → Q q) → AllByRecursion Q qs
  each_named P Q [] a conv = tt
  each_named P Q (q ∷ qs) a conv = (
    conv q a.0 (omega (arith, times-same q.at (positions_of qs))),
    each_named P Q qs a.1 (λ r p some. conv r p (omega (arith, some, times-more r.at q.at (positions_of qs)))),
  )

  -- each object points to objects with lower numbers
  pub each_falls : (Met : ℕ → Type 0) (Q : ℕ → Place → Type 0) (hs : List ℕ) {vs : Values} {bs : List ℕ} → Reads hs vs bs → ((p : ℕ) → 1 ≤ times p (positions_of (names_each vs)) → Met p)
      → ((n : ℕ) (q : Place) → CanBeTarget bytes table (Some n) q → Met q.at → Q n q) → AllByRecursion (λ f. AllByRecursion (Q f.number) (names_in f.value)) (frozens hs vs)
  each_falls Met Q [] reads_none met conv = tt
  each_falls Met Q (h ∷ hs) (reads_more {v = v} {vs = vs} f n r) met conv =
      let both = λ (p : ℕ). ap (λ ns. times p (positions_of ns)) (names_cons v vs) ∙ ap (times p) (positions_append (names_in v) (names_each vs)) ∙ times-append p (positions_of (names_in v)) (positions_of (names_each vs)) in (
        each_named (CanBeTarget bytes table (Some (number_of h))) (Q (number_of h)) (names_in v) n (λ q is some. conv (number_of h) q is (met q.at (omega (arith, some, both q.at)))),
        each_falls Met Q hs r (λ p some. met p (omega (arith, some, both p))) conv,
      )

  pub falling : (hs : List ℕ) {vs : Values} {bs : List ℕ} → Reads hs vs bs → Falls number_of hs → IsFalling (frozens hs vs)
  falling [] reads_none f = tt
  falling (h ∷ hs) (reads_more x n r) f = (each_frozen (λ g. g.number ≤ number_of h) hs r (each_weaker (λ y. number_of y ≤ number_of h) (λ y. (v : Value) → number_of y ≤ number_of h) (λ y l v. l) hs f.0), falling hs r f.1)

  -- no two objects lie in the same block
  others : (h : ℕ) (hs : List ℕ) → times h hs ≡ 0 → AllByRecursion (λ y. (v : Value) → y + 16 ≢ h + 16) hs
  others h [] none = tt
  others h (x ∷ xs) none = ((λ v same. absurd (let e : x ≡ h = omega arith in omega (arith, subst (λ y. times h (y ∷ xs) ≡ 0) e none, times-same h xs))), others h xs (omega (arith, none, times-more h x xs)))

  pub distinct : (hs : List ℕ) {vs : Values} {bs : List ℕ} → Reads hs vs bs → ((h : ℕ) → times h hs ≤ 1) → AreDistinct (frozens hs vs)
  distinct [] reads_none once = tt
  distinct (h ∷ hs) (reads_more {v = v} {vs = vs} x n r) once = (
    each_frozen (λ g. g.at ≢ h + 16) hs r (others h hs (omega (arith, once h, times-same h hs))),
    distinct hs r (λ y. omega (arith, once y, times-more y h hs)),
  )

  -- an object with a lower number is in the list
  pub below_in : (hs : List ℕ) {vs : Values} {bs : List ℕ} → Reads hs vs bs → (n : ℕ) (q : Place) → 16 ≤ q.at → 1 ≤ times (block_of q.at) hs → q.type ≡ tag_at bytes (block_of q.at) / 256 → frozen_number_at bytes q.at < n
      → IsBelow n (frozens hs vs) q
  below_in [] reads_none n q high some type_is low = absurd (omega arith)
  below_in (h ∷ hs) (reads_more {v = v} {vs = vs} x m r) n q high some type_is low = ⊎_elim
      (λ same.
      let at : h + 16 ≡ q.at = omega (arith, same) in
      inl (at, ap (λ b. tag_at bytes b / 256) same ∙ sym type_is, subst (λ p. frozen_number_at bytes p < n) (sym at) low))
      (λ other. inr (below_in hs r n q high (omega (arith, some, Rattle.seg_spec.proofs.Heap.LiveBlockLaws.times-other (block_of q.at) h hs other)) type_is low))
      (cases_eq h (block_of q.at))
