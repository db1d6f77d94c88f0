-- A list whose ring is open shows what is freed with it.
use Rattle.std.proofs.Common.{◌≡◌, ◌≢◌, ℕ, ◌+◌, ◌%◌, ◌^◌, ◌<◌, ◌≤◌, ◌⊎◌, inl, inr, ⊎_elim, List, [], ◌∷◌, ◌++◌, length, map, Some, None, refl, sym, ap, ◌∙◌, subst, arith}
use Rattle.std.specs.List.{AllByRecursion}
use Rattle.std.proofs.lemmas.Bool.{cases_eq, cases_lt}
use Rattle.seg_spec.specs.Bytes.{IsSame, ChangesOnly}
use Rattle.seg_spec.specs.Pointer.{target, distance, set_pointer}
use Rattle.seg_spec.specs.Types.{Form, Table, form_at, IsTable, size}
use Rattle.seg_spec.specs.Value.{Value, Values, Label, node}
use Rattle.seg_spec.specs.Heap.{IsHeap, live, heap_start}
use Rattle.seg_spec.specs.Block.{Kind, tag_of, IsBlock, KeepsBlock, IsInside, block_of}
use Rattle.seg_spec.specs.Shapes.{IsLinked, IsRing}
use Rattle.seg_spec.specs.Reads.{Place, Opened, places_of, AreNodes, OpensRing, Opens, Holds, holds, HoldsEach}
use Rattle.seg_spec.specs.Sound.{times, positions}
use Rattle.seg_spec.specs.Destroying.{AreLive, KeepsOthers, Uncouples}
use Rattle.seg_spec.proofs.SliceLaws.{IsSame-part}
use Rattle.seg_spec.proofs.PointerLaws.{target-set_same}
use Rattle.seg_spec.proofs.Values.PlaceFrameLaws.{SamePlace, each_map, HoldsEach-kept, payload-same, target-same}
use Rattle.seg_spec.proofs.Heap.LiveBlockLaws.{times-append, times-same, times-other, times-more, there, each_there, LiesIn, live-lie, live-once}
use Rattle.seg_spec.proofs.Heap.NodeBlockLaws.{times_mapped}
use Rattle.seg_spec.proofs.Images.RootWriteLaws.{set_number-changes}
use Rattle.seg_spec.proofs.Deallocation.ChainDestructionLaws.{IsChain, chain_owes}
use Rattle.seg_spec.proofs.Deallocation.DestructionLaws.{others_more, no_common, heap_written, payload_written}
use Rattle.seg_spec.proofs.Deallocation.CellDestructionLaws.{block_there, same_form}
use Rattle.seg_spec.specs.Shared.{named_in, named_each}
use Rattle.seg_spec.proofs.Deallocation.PartDestructionLaws.{named_inside}

-- the last of several nodes
abbrev pub last_of : ℕ → List ℕ → ℕ
last_of x [] = x
last_of x (y ∷ ys) = last_of y ys

-- the previous node of the first node is the last one
pub last_named : (bytes : List ℕ) (first x : ℕ) (ys : List ℕ) → IsLinked bytes first x ys → target bytes (first + 4) ≡ Some (last_of x ys)
last_named bytes first x [] l = l.previous
last_named bytes first x (y ∷ ys) l = last_named bytes first y ys l.1

last_there : (x : ℕ) (ys : List ℕ) → 1 ≤ times (last_of x ys) (x ∷ ys)
last_there x [] = omega (arith, times-same x [])
last_there x (y ∷ ys) = let rest = last_there y ys in let more = times-more (last_of y ys) x (y ∷ ys) in omega arith

module _ (bytes : List ℕ) (first last : ℕ) (fits : last + 4 ≤ length bytes) (small : last < 2 ^ 31) where
  then : List ℕ
  then = set_pointer bytes last None

  last_null : target then last ≡ None
  unfolding then
  last_null = target-set_same bytes last None fits small (λ t e. absurd (cc))

  other_node : (x : ℕ) → x % 16 ≡ 0 → last % 16 ≡ 0 → x ≢ last → target then x ≡ target bytes x
  unfolding then
  other_node x a b ne = target-same bytes (set_pointer bytes last None) x ((set_number-changes 4 bytes last (distance last None)).others x 4 (go (cases_lt x last)))
    where
      go : (x < last) ⊎ (last ≤ x) → (x + 4 ≤ last) ⊎ (last + 4 ≤ x)
      go (inl l) = inl (omega arith)
      go (inr l) = inr (omega arith)

  pub ring_opened : (x : ℕ) (ys : List ℕ) → last ≡ last_of x ys → AllByRecursion (λ q. q % 16 ≡ 0) (x ∷ ys) → ((h : ℕ) → times h (x ∷ ys) ≤ 1) → IsLinked bytes first x ys → IsChain (set_pointer bytes last None) x ys
  unfolding then
  ring_opened x [] e aligned once l = rw (← e) last_null
  ring_opened x (y ∷ ys) e aligned once l =
      let rest = ring_opened y ys e aligned.1 (λ h. let o = once h in let m = times-more h x (y ∷ ys) in omega arith) l.1 in
      let other : x ≢ last = λ same. let t = last_there y ys in let o = once x in let s = times-same x (y ∷ ys) in
      let is : 1 ≤ times x (y ∷ ys) = subst (λ z. 1 ≤ times z (y ∷ ys)) (sym (same ∙ e)) t in absurd (omega arith) in
      let low : last % 16 ≡ 0 = subst (λ z. z % 16 ≡ 0) (sym e) (there (λ q. q % 16 ≡ 0) (last_of y ys) (y ∷ ys) aligned.1 (last_there y ys)) in
      (other_node x aligned.0 low other ∙ l.0.next, rest)

module _ (allocator : ℕ) (old : List ℕ) (table : Table) (valid : IsTable table) (heap : IsHeap allocator old) (T U x : ℕ) (ys : List ℕ) (f : form_at table T ≡ Some (Form.list U)) (vs : Values) (owned : List ℕ)
    (are : AreNodes old (tag_of Kind.node T) (8 + size table U) (x ∷ ys)) (fits : AreLive old (map block_of (x ∷ ys) ++ owned)) (hs : HoldsEach old table (places_of U (map (λ p. p + 8) (x ∷ ys))) vs owned) where
  last : ℕ
  last = last_of x ys

  node_live : (q : ℕ) → 1 ≤ times q (x ∷ ys) → 1 ≤ times (block_of q) (positions (live old))
  node_live q some = let m = times_mapped q (x ∷ ys) in let n = times-append (block_of q) (map block_of (x ∷ ys)) owned in let l = fits (block_of q) in omega arith

  node_block : (q : ℕ) → 1 ≤ times q (x ∷ ys) → IsBlock old q (tag_of Kind.node T) (8 + size table U)
  node_block q some = there (λ p. IsBlock old p (tag_of Kind.node T) (8 + size table U)) q (x ∷ ys) are some

  node_lies : (q : ℕ) → 1 ≤ times q (x ∷ ys) → LiesIn old heap_start (length old) (block_of q)
  node_lies q some = there (LiesIn old heap_start (length old)) (block_of q) (positions (live old)) (live-lie old allocator heap) (node_live q some)

  nodes_once : (h : ℕ) → times h (x ∷ ys) ≤ 1
  nodes_once h = let m = times_mapped h (x ∷ ys) in let n = times-append (block_of h) (map block_of (x ∷ ys)) owned in let l = fits (block_of h) in let o = live-once old allocator heap (block_of h) in omega arith

  nodes_aligned : AllByRecursion (λ q. q % 16 ≡ 0) (x ∷ ys)
  nodes_aligned = each_there (λ q. q % 16 ≡ 0) (x ∷ ys) (λ q some. let l = node_lies q some in let b = node_block q some in omega (arith, l.aligned, b.after_header))

  last_some : 1 ≤ times last (x ∷ ys)
  unfolding last
  last_some = last_there x ys

  last_inside : IsInside old (block_of last) last 4
  last_inside = let l = node_lies last last_some in let b = node_block last last_some in record { low = omega (arith, b.after_header); high = omega (arith, b.after_header, l.size) }

  new : List ℕ
  new = set_pointer old last None

  changes : ChangesOnly old new last 4
  unfolding new
  changes = set_number-changes 4 old last (distance last None)

  others : KeepsOthers old new (block_of last ∷ [])
  others = payload_written allocator old new last 4 (block_of last) heap last_inside (node_live last last_some) changes

  other_kept : (h : ℕ) → 1 ≤ times h (positions (live old)) → h ≢ block_of last → KeepsBlock old new h
  other_kept h some ne = (others.others h some (times-other h (block_of last) [] (λ e. ne (sym e)))).whole.kept

  values_same : AllByRecursion (λ q. IsSame old new (q + 8) (size table U)) (x ∷ ys)
  values_same = each_there (λ q. IsSame old new (q + 8) (size table U)) (x ∷ ys) (λ q some. ⊎_elim
      (λ e. changes.others (q + 8) (size table U) (inr (omega (arith, e))))
      (λ ne.
      let b = node_block q some in
      let l = node_block last last_some in
      let k = other_kept (block_of q) (node_live q some) (λ e. ne (omega (arith, e, b.after_header, l.after_header))) in
      let s = payload-same old new q (tag_of Kind.node T) (8 + size table U) k b in
      IsSame-part old new q (8 + size table U) (q + 8) (size table U) (omega arith) (omega arith) s)
      (cases_eq q last))

  owned_kept : AllByRecursion (KeepsBlock old new) owned
  owned_kept = each_there (KeepsBlock old new) owned (λ h some.
      let n = no_common allocator old heap (map block_of (x ∷ ys)) owned fits h some in
      let m = times_mapped last (x ∷ ys) in
      let l = last_some in
      other_kept h n.0 (λ e. let z : times (block_of last) (map block_of (x ∷ ys)) ≡ 0 = subst (λ k. times k (map block_of (x ∷ ys)) ≡ 0) e n.1 in absurd (omega arith)))

  pub ring_goes : (xs : List ℕ) → xs ≡ map block_of (x ∷ ys) ++ owned → IsLinked old x x ys → Uncouples allocator old (set_pointer old (last_of x ys) None) table x xs (named_each vs)
  unfolding new last
  ring_goes xs is linked =
      let l = node_lies last last_some in
      let b = node_block last last_some in
      let chain = ring_opened old x last (omega (arith, l.high, l.size, b.after_header)) (omega (arith, l.high, l.size, b.after_header, heap.small)) x ys refl nodes_aligned nodes_once linked in
      let nodes : AreNodes new (tag_of Kind.node T) (8 + size table U) (x ∷ ys) = each_there (λ p. IsBlock new p (tag_of Kind.node T) (8 + size table U)) (x ∷ ys)
      (λ q some. block_there allocator old new last 4 (block_of last) heap last_inside (node_live last last_some) changes q (tag_of Kind.node T) (8 + size table U) (node_live q some) (node_block q some)) in
      let values = HoldsEach-kept old new table valid hs (each_map (SamePlace old new table) (λ p. record { at = p; type = U }) (map (λ p. p + 8) (x ∷ ys)) (each_map (λ p. IsSame old new p (size table U))
      (λ p. p + 8) (x ∷ ys) values_same)) owned_kept in
      let r = chain_owes new table T U f x ys vs owned chain nodes values in
      let m = times_mapped last (x ∷ ys) in
      let some = last_some in
      record {
        heap = heap_written allocator old new last 4 (block_of last) heap last_inside (node_live last last_some) changes;
        keeps = others_more old new (block_of last ∷ []) xs (λ h none. times-other h (block_of last) [] (λ e.
            let n : times h xs ≡ times h (map block_of (x ∷ ys) ++ owned) = ap (times h) is in
            let a = times-append h (map block_of (x ∷ ys)) owned in
            let here : 1 ≤ times h (map block_of (x ∷ ys)) = subst (λ k. 1 ≤ times k (map block_of (x ∷ ys))) e (omega arith) in
            absurd (omega arith))) others;
        goes = record {
          owed = r.blocks;
          named = r.names;
          named_are = r.names_are;
          owes_it = r.owes_it;
          owed_are = λ h. let c = r.counts h in let a = times-append h (map block_of (x ∷ ys)) owned in let n : times h xs ≡ times h (map block_of (x ∷ ys) ++ owned) = ap (times h) is in omega arith;
        };
      }

module _ (allocator : ℕ) (old : List ℕ) (table : Table) (valid : IsTable table) (heap : IsHeap allocator old) (place : Place) (p : ℕ) (e : target old place.at ≡ Some p) (v : Value) (xs : List ℕ) (fits : AreLive old xs) where
  -- the list's ring after its last node got a null pointer
  pub record ListGoes : Type 0 where
    pub last : ℕ
    pub names : target old (p + 4) ≡ Some last
    pub uncouples : Uncouples allocator old (set_pointer old last None) table p xs (named_in v)

  list_by : (U : ℕ) (f : form_at table place.type ≡ Some (Form.list U)) (nodes : List ℕ) (inside : Values) (owned : List ℕ) → IsRing old (Some p) nodes → AreNodes old (tag_of Kind.node place.type) (8 + size table U) nodes →
      HoldsEach old table (places_of U (map (λ p. p + 8) nodes)) inside owned → xs ≡ map block_of nodes ++ owned → named_each inside ≡ named_in v → ListGoes
  list_by U f [] inside owned ring are hs is names = absurd ring
  list_by U f (x ∷ ys) inside owned ring are hs is names =
      let same : x ≡ p = ring.0 in
      let linked : IsLinked old x x ys = subst (λ q. IsLinked old q x ys) (sym same) ring.1 in
      let r = ring_goes allocator old table valid heap place.type U x ys f inside owned are (subst (λ bs. AreLive old bs) is fits) hs xs is linked in
      record {
        last = last_of x ys;
        names = subst (λ q. target old (q + 4) ≡ Some (last_of x ys)) same (last_named old x x ys linked);
        uncouples = subst
            (λ q. Uncouples allocator old (set_pointer old (last_of x ys) None) table q xs (named_in v)) same
            (subst (Uncouples allocator old (set_pointer old (last_of x ys) None) table x xs) names r);
      }

  pub list_goes : (U : ℕ) → form_at table place.type ≡ Some (Form.list U) → Holds old table place v xs → ListGoes
  list_goes U f (holds form opened inside owned g o hs v_is is) =
      let same = same_form form (Form.list U) (sym g ∙ f) in
      let o' : Opens old table place (Form.list U) opened = subst (λ h. Opens old table place h opened) same o in
      list_from U f opened inside owned o' hs is v_is
    where
      list_from : (U : ℕ) (f : form_at table place.type ≡ Some (Form.list U)) (opened : Opened) (inside : Values) (owned : List ℕ) → OpensRing old table place.at (tag_of Kind.node place.type) U opened →
          HoldsEach old table opened.parts inside owned → xs ≡ opened.blocks ++ owned → v ≡ node opened.label inside → ListGoes
      list_from U f opened inside owned o hs is v_is =
          let parts : opened.parts ≡ places_of U (map (λ p. p + 8) o.nodes) = ap (λ (r : Opened). r.parts) o.opened_is in
          let blocks : opened.blocks ≡ map block_of o.nodes = ap (λ (r : Opened). r.blocks) o.opened_is in
          list_by U f o.nodes inside owned (subst (λ t. IsRing old t o.nodes) e o.ring) o.are_nodes (subst (λ ps. HoldsEach old table ps inside owned) parts hs) (is ∙ ap (λ bs. bs ++ owned) blocks)
          (sym (ap named_in v_is ∙ ap (λ (r : Opened). named_in (node r.label inside)) o.opened_is ∙ named_inside Label.seq inside (λ T q e. cc)))
