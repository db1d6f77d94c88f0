-- In two images that are alike, the same path from an object reaches the same place, which is alike.
-- The buffer there has the same size.
use Rattle.std.proofs.Common.{◌≡◌, ℕ, zero, suc, ◌<◌, ◌≤◌, inl, inr, true, false, Bool, List, [], ◌∷◌, ◌++◌, length, Option, Some, None, option_map, cond, eqb, refl, sym, ap, ◌∙◌, subst, arith}
use Rattle.std.specs.List.{AllByRecursion}
use Rattle.seg_spec.specs.Bytes.{word}
use Rattle.seg_spec.specs.Header.{allocator_word}
use Rattle.seg_spec.specs.Types.{Table}
use Rattle.seg_spec.specs.Value.{Value, Values, nil, cons, nth, count}
use Rattle.seg_spec.specs.Heap.{Span, live, units_at}
use Rattle.seg_spec.specs.Block.{block_of}
use Rattle.seg_spec.specs.Reads.{Place, Holds, Leads, items}
use Rattle.seg_spec.specs.Index.{Root, root_named, root_of_type}
use Rattle.seg_spec.specs.Sound.{IsPlain, payload_of, roots_of, frozen_roots, times, positions}
use Rattle.seg_spec.specs.Roots.{SamePicture, item_of}
use Rattle.seg_spec.proofs.Heap.LiveBlockLaws.{times-append, there}
use Rattle.seg_spec.proofs.Heap.KeptBlockLaws.{StatesSpan, live_stated}
use Rattle.seg_spec.proofs.Images.RootPartLaws.{items_nth}
use Rattle.seg_spec.proofs.Values.PathSplitLaws.{middle, split}
use Rattle.client_spec.specs.Machine.{◌>>=◌, Register, Origin, Path, State, at_origin}
use Rattle.client_spec.specs.Pictures.{root_of_register, object_of, Pictures, root_at, LeadsInImage}
use Rattle.client_spec.specs.Ties.{places_of}
use Rattle.client_sim.proofs.Names.OnePictureLaws.{Held-one}
use Rattle.test_definitions.proofs.Alike.RootMemberLaws.{IsAmong, each_among, among_left, among_right, counts, owns, looked_up}
use Rattle.test_definitions.specs.Alike.{AlikeAt, AlikeRoot, AreAlike}
use Rattle.test_definitions.proofs.ValueChanges.AlikePlaceLaws.{nth_alike, leads_alike}
use Rattle.test_definitions.proofs.Rows.OneState.{AsPictured, as_pictured}

-- ---- the root where a path begins

pub nth_inside : (vs : Values) (i : ℕ) (v : Value) → nth vs i ≡ Some v → i < count vs
nth_inside nil i v e = cc
nth_inside (cons w vs) zero v e = omega arith
nth_inside (cons w vs) (suc i) v e = (let l = nth_inside vs i v e in omega arith)

pub begun : (o : Option Root) (n : ℕ) (root : Root) (item : ℕ) → ◌≡◌ {A = Option (Root × ℕ)} (option_map (λ (r : Root). (r, n)) o) (Some (root, item)) → (o ≡ Some root) × (n ≡ item)
begun None n root item e = cc
begun (Some r) n root item e = (let both : ◌≡◌ {A = Root × ℕ} (r, n) (root, item) = cc in (ap (λ (z : Root × ℕ). Some z.0) both, ap (λ (z : Root × ℕ). z.1) both))

pub of_type : (rs : List Root) (T : ℕ) (root : Root) → root_of_type rs T ≡ Some root → IsAmong root rs
of_type [] T root e = cc
of_type (r ∷ rs) T root e = go (eqb T r.type) (of_type rs T root) e
  where
    go : (b : Bool) → (root_of_type rs T ≡ Some root → IsAmong root rs) → cond b (Some r) (root_of_type rs T) ≡ Some root → IsAmong root (r ∷ rs)
    go true later f = inl (let same : r ≡ root = cc in sym same)
    go false later f = inr (later f)

pub of_register : (xs : List Register) (rs : List Root) (r : ℕ) (root : Root) → root_of_register xs rs r ≡ Some root → IsAmong root rs
of_register [] rs r root e = cc
of_register (Register.Owner v t ∷ xs) [] r root e = cc
of_register (Register.Owner v t ∷ xs) (x ∷ rs) zero root e = inl (let same : x ≡ root = cc in sym same)
of_register (Register.Owner v t ∷ xs) (x ∷ rs) (suc r) root e = inr (of_register xs rs r root e)
of_register (Register.Undefined ∷ xs) rs zero root e = cc
of_register (Register.Undefined ∷ xs) rs (suc r) root e = of_register xs rs r root e
of_register (Register.Int k ∷ xs) rs zero root e = cc
of_register (Register.Int k ∷ xs) rs (suc r) root e = of_register xs rs r root e
of_register (Register.Reference p ∷ xs) rs zero root e = cc
of_register (Register.Reference p ∷ xs) rs (suc r) root e = of_register xs rs r root e

one_value : (root : Root) → IsPlain root → 0 < count root.values
one_value root p = subst (λ vs. 0 < count vs) (sym p.values_are) (omega arith)

module _ {others : List Root} {places first second : List ℕ} (alike : AreAlike others places first second) where
  -- ---- sizes of blocks

  states_units : (bytes : List ℕ) (to : ℕ) (bs : List Span) → AllByRecursion (StatesSpan bytes to) bs → AllByRecursion (λ (b : Span). units_at bytes b.at ≡ b.units) bs
  states_units bytes to [] a = tt
  states_units bytes to (b ∷ bs) a = (a.0.units_is, states_units bytes to bs a.1)

  both_state : (bs : List Span) → AllByRecursion (λ (b : Span). units_at first b.at ≡ b.units) bs → AllByRecursion (λ (b : Span). units_at second b.at ≡ b.units) bs → AllByRecursion (λ h. units_at second h ≡ units_at first h) (positions bs)
  both_state [] a c = tt
  both_state (b ∷ bs) a c = (c.0 ∙ sym a.0, both_state bs a.1 c.1)

  pub same_units : (h : ℕ) → 1 ≤ times h (positions (live first)) → units_at second h ≡ units_at first h
  same_units h some =
      let a = states_units first (length first) (live first) (live_stated first (word first allocator_word) alike.held.laid_out.heap) in
      let c = states_units second (length second) (live second) (live_stated second (word second allocator_word) alike.held_too.laid_out.heap) in
      there (λ k. units_at second k ≡ units_at first k) h (positions (live first)) (both_state (live first) a (subst (AllByRecursion (λ (b : Span). units_at second b.at ≡ b.units)) alike.live_same c)) some

  module _ {s : State} (p : Pictures others s first) (q : Pictures others s second) (at : places_of p.owned ≡ places) (at_too : places_of q.owned ≡ places) where
    pub both : AsPictured p q
    both = (as_pictured others places first second alike p q at at_too).0

    own : p.owned ≡ alike.own
    own = (as_pictured others places first second alike p q at at_too).1

    common : SamePicture p.picture alike.picture
    common = Held-one first p.picture alike.picture p.held alike.held

    pub roots_at : (o : Origin) → root_at p o ≡ root_at q o
    roots_at (Origin.Name name n) = ap (λ (rs : List Root). option_map (λ (root : Root). (root, n)) (root_named rs name)) both.same.names
    roots_at (Origin.Unique T) = ap (λ (rs : List Root). option_map (λ (root : Root). (root, 0)) (root_of_type rs T)) both.same.uniques
    roots_at (Origin.Owned r) = ap (λ (rs : List Root). option_map (λ (root : Root). (root, 0)) (root_of_register s.registers rs r)) both.owned

    record Begins (root : Root) (item : ℕ) (found : Value × ℕ) : Type 0 where
      among : IsAmong root (roots_of alike.picture)
      inside : item < count root.values

    begins : (o : Origin) (root : Root) (item : ℕ) (found : Value × ℕ) → root_at p o ≡ Some (root, item) → at_origin s o ≡ Some found → Begins root item found
    begins (Origin.Name name n) root item found e f =
        let r = alike.picture in
        let b = begun (root_named p.picture.names name) n root item e in
        let named = subst (λ rs. IsAmong root rs) common.names (looked_up name root p.picture.names b.0).0 in
        let object = p.names name ∙ ap (option_map object_of) b.0 in
        record {
          among = among_left root r.names (r.uniques ++ (r.loose ++ frozen_roots r)) named;
          inside = subst (λ k. k < count root.values) b.1 (inside n (nth root.values n) refl (subst (λ o. (o >>= λ x. nth x.values n >>= λ v. Some (v, x.type)) ≡ Some found) object f));
        }
      where
        inside : (n : ℕ) (o : Option Value) → nth root.values n ≡ o → (o >>= λ v. Some (v, root.type)) ≡ Some found → n < count root.values
        inside n None e f = cc
        inside n (Some v) e f = nth_inside root.values n v e
    begins (Origin.Unique T) root item found e f =
        let r = alike.picture in
        let b = begun (root_of_type p.picture.uniques T) 0 root item e in
        let there_is = subst (λ rs. IsAmong root rs) common.uniques (of_type p.picture.uniques T root b.0) in
        record {
          among = among_right root r.names (r.uniques ++ (r.loose ++ frozen_roots r)) (among_left root r.uniques (r.loose ++ frozen_roots r) there_is);
          inside = subst (λ k. k < count root.values) b.1 (one_value root (each_among IsPlain root (r.uniques ++ r.loose) (among_left root r.uniques r.loose there_is) alike.held.laid_out.plain));
        }
    begins (Origin.Owned n) root item found e f =
        let r = alike.picture in
        let b = begun (root_of_register s.registers p.owned n) 0 root item e in
        let mine = subst (λ rs. IsAmong root rs) own (of_register s.registers p.owned n root b.0) in
        let loose = subst (λ rs. IsAmong root rs) (sym alike.loose) (among_right root others alike.own mine) in
        record {
          among = among_right root r.names (r.uniques ++ (r.loose ++ frozen_roots r)) (among_right root r.uniques (r.loose ++ frozen_roots r) (among_left root r.loose (frozen_roots r) loose));
          inside = subst (λ k. k < count root.values) b.1 (one_value root (each_among IsPlain root (r.uniques ++ r.loose) (among_right root r.uniques r.loose loose) alike.held.laid_out.plain));
        }

    -- the place that the path reaches in both images
    pub record LeadsInBoth (path : Path) (place : Place) : Type 0 where
      pub leads : LeadsInImage q path place
      pub alike_at : AlikeAt first second p.picture.table place
      pub value : Value
      pub its : List ℕ
      pub holds_it : Holds first p.picture.table place value its
      pub are_live : (h : ℕ) → times h its ≤ times h (positions (live first))

    pub leads_in_both : (path : Path) (place : Place) (found : Value × ℕ) → LeadsInImage p path place → at_origin s path.origin ≡ Some found → LeadsInBoth path place
    leads_in_both path place found l f =
        let r = alike.picture in
        let b = begins path.origin l.root l.item found l.begins f in
        let n = count l.root.values in
        let item = item_of r.table l.root l.item in
        let o = owns first r alike.held l.root alike.held.roots b.among in
        let nth_is = items_nth r.table l.root.at l.root.type n l.item b.inside in
        let m = middle first r.table o.holds_it.values l.item item nth_is in
        let root_alike = each_among (AlikeRoot first second r.table) l.root (roots_of r) b.among alike.roots in
        let item_alike = nth_alike first second r.table (items r.table l.root.at l.root.type n) l.item item root_alike nth_is in
        let path_too = subst (λ (t : Table). Leads first t (item_of t l.root l.item) path.selectors place) common.table l.leads in
        let then = leads_alike first second r.table path_too item_alike in
        let cut = split first r.table path_too m.holds_it in
        let tables : r.table ≡ q.picture.table = sym common.table ∙ both.same.table in
        record {
          leads = record { root = l.root; item = l.item; begins = sym (roots_at path.origin) ∙ l.begins; leads = subst (λ (t : Table). Leads second t (item_of t l.root l.item) path.selectors place) tables then.0 };
          alike_at = subst (λ (t : Table). AlikeAt first second t place) (sym common.table) then.1;
          value = cut.value;
          its = cut.its;
          holds_it = subst (λ (t : Table). Holds first t place cut.value cut.its) (sym common.table) cut.holds_it;
          are_live = λ h. (
              let a = ap (times h) cut.blocks_are ∙ times-append h cut.left (cut.its ++ cut.right) in
              let c = times-append h cut.its cut.right in
              let d = ap (times h) m.blocks_are ∙ times-append h m.xs (m.zs ++ m.ys) in
              let e = times-append h m.zs m.ys in
              let g = ap (times h) o.holds_it.blocks_are ∙ times-append h (block_of (payload_of l.root) ∷ []) o.holds_it.inside in
              omega (arith, o.fewer h, counts first r alike.held h));
        }
