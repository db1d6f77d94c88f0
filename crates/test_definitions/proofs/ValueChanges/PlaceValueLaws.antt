-- The value of the place after an instruction that changes one place: the image contains it there, and the
-- state has it at the path.
use Rattle.std.proofs.Common.{◌≡◌, ℕ, zero, suc, ◌<◌, ◌≤◌, true, false, List, [], ◌∷◌, ◌++◌, Option, Some, None, option_map, refl, sym, ap, ◌∙◌, subst, arith}
use Rattle.std.specs.Prelude.{is_some, option_and_then}
use Rattle.std.specs.List.{AllByRecursion}
use Rattle.seg_spec.specs.Types.{Table}
use Rattle.seg_spec.specs.Value.{Value, Values, nil, cons, count, nth, value_at}
use Rattle.seg_spec.specs.Reads.{Place, Holds, HoldsEach, items}
use Rattle.seg_spec.specs.Heap.{live}
use Rattle.seg_spec.specs.Block.{block_of}
use Rattle.seg_spec.specs.Index.{Root, root_named, root_of_type}
use Rattle.seg_spec.specs.Sound.{positions, payload_of, times}
use Rattle.seg_spec.specs.Counting.{owners_in}
use Rattle.seg_spec.specs.Roots.{HasFace, item_of}
use Rattle.seg_spec.proofs.Heap.LiveBlockLaws.{times-append, times-more}
use Rattle.seg_spec.proofs.Values.PathSplitLaws.{middle, split, nth-append, count_is}
use Rattle.seg_spec.proofs.Images.RootPartLaws.{items_nth}
use Rattle.client_spec.specs.Machine.{◌>>=◌, Origin, Path, Register, Object, State, at_origin, owned_by, path_value}
use Rattle.client_spec.specs.Pictures.{Pictures, LeadsInImage, root_at, root_of_register, object_of, AreOwned}
use Rattle.client_spec.specs.Ties.{places_of}
use Rattle.client_sim.proofs.Objects.OwnedRootLaws.{owned_split}
use Rattle.test_definitions.proofs.Alike.AlikeChangeLaws.{all_fit}
use Rattle.test_definitions.proofs.Alike.AlikeRootLaws.{begun, of_type, of_register}
use Rattle.test_definitions.proofs.ValueChanges.AroundPersistLaws.{surrounded_leads}
use Rattle.test_definitions.proofs.ValueChanges.ChangedPlaceLaws.{KeepsOwners, own_root, within}
use Rattle.test_definitions.proofs.Rows.ChangedPlaceRowLaws.{ObjectsThere, owned_face}
use Rattle.test_definitions.proofs.Frozen.FrozenApartLaws.{owner_in_roots}
use Rattle.test_definitions.proofs.Rows.OwningRegisterLaws.{owners}
use Rattle.test_definitions.proofs.ValueChanges.PersistAlikeLaws.{Fits}
use Rattle.test_definitions.proofs.Alike.RootMemberLaws.{IsAmong, counts, among_left, among_right, owns, looked_up}

nth_there : (vs : Values) (i : ℕ) → i < count vs → (v : Value) × (nth vs i ≡ Some v)
nth_there nil i l = absurd (omega (arith, l))
nth_there (cons v vs) zero l = (v, refl)
nth_there (cons v vs) (suc i) l = nth_there vs i (omega (arith, l))

-- the object that a register owned before and owns now
record OwnsStill (ys : List Register) (after : List Root) (r : ℕ) (c : Root) : Type 0 where
  root : Root
  is : root_of_register ys after r ≡ Some root
  at_is : root.at ≡ c.at

still_owned : (xs ys : List Register) (before after : List Root) → owners ys ≡ owners xs → AreOwned xs before → AreOwned ys after → places_of after ≡ places_of before → (r : ℕ) (c : Root) → root_of_register xs before r ≡ Some c
    → OwnsStill ys after r c
still_owned [] ys before after e f g at r c is = cc
still_owned (x ∷ xs) [] before after e f g at r c is = cc
still_owned (Register.Owner v t ∷ xs) (Register.Owner w u ∷ ys) [] after e f g at r c is = absurd f
still_owned (Register.Owner v t ∷ xs) (Register.Owner w u ∷ ys) (a ∷ before) [] e f g at r c is = absurd g
still_owned (Register.Owner v t ∷ xs) (Register.Owner w u ∷ ys) (a ∷ before) (b ∷ after) e f g at zero c is = (
    let first : b.at ≡ a.at = cc in
    let same : a ≡ c = cc in
    record { root = b; is = refl; at_is = first ∙ ap (λ (z : Root). z.at) same })
still_owned (Register.Owner v t ∷ xs) (Register.Owner w u ∷ ys) (a ∷ before) (b ∷ after) e f g at (suc r) c is = (
    let more : owners ys ≡ owners xs = cc in
    let rest : places_of after ≡ places_of before = cc in
    let o = still_owned xs ys before after more f.2 g.2 rest r c is in
    record { root = o.root; is = o.is; at_is = o.at_is })
still_owned (Register.Undefined ∷ xs) (y ∷ ys) before after e f g at zero c is = cc
still_owned (Register.Int k ∷ xs) (y ∷ ys) before after e f g at zero c is = cc
still_owned (Register.Reference p ∷ xs) (y ∷ ys) before after e f g at zero c is = cc
still_owned (Register.Undefined ∷ xs) (Register.Undefined ∷ ys) before after e f g at (suc r) c is = (let o = still_owned xs ys before after (let more : owners ys ≡ owners xs = cc in more) f g at r c is in
    record { root = o.root; is = o.is; at_is = o.at_is })
still_owned (Register.Undefined ∷ xs) (Register.Int j ∷ ys) before after e f g at (suc r) c is = (let o = still_owned xs ys before after (let more : owners ys ≡ owners xs = cc in more) f g at r c is in
    record { root = o.root; is = o.is; at_is = o.at_is })
still_owned (Register.Undefined ∷ xs) (Register.Reference q ∷ ys) before after e f g at (suc r) c is =
    (let o = still_owned xs ys before after (let more : owners ys ≡ owners xs = cc in more) f g at r c is in record { root = o.root; is = o.is; at_is = o.at_is })
still_owned (Register.Int k ∷ xs) (Register.Undefined ∷ ys) before after e f g at (suc r) c is = (let o = still_owned xs ys before after (let more : owners ys ≡ owners xs = cc in more) f g at r c is in
    record { root = o.root; is = o.is; at_is = o.at_is })
still_owned (Register.Int k ∷ xs) (Register.Int j ∷ ys) before after e f g at (suc r) c is = (let o = still_owned xs ys before after (let more : owners ys ≡ owners xs = cc in more) f g at r c is in
    record { root = o.root; is = o.is; at_is = o.at_is })
still_owned (Register.Int k ∷ xs) (Register.Reference q ∷ ys) before after e f g at (suc r) c is = (let o = still_owned xs ys before after (let more : owners ys ≡ owners xs = cc in more) f g at r c is in
    record { root = o.root; is = o.is; at_is = o.at_is })
still_owned (Register.Reference p ∷ xs) (Register.Undefined ∷ ys) before after e f g at (suc r) c is =
    (let o = still_owned xs ys before after (let more : owners ys ≡ owners xs = cc in more) f g at r c is in record { root = o.root; is = o.is; at_is = o.at_is })
still_owned (Register.Reference p ∷ xs) (Register.Int j ∷ ys) before after e f g at (suc r) c is = (let o = still_owned xs ys before after (let more : owners ys ≡ owners xs = cc in more) f g at r c is in
    record { root = o.root; is = o.is; at_is = o.at_is })
still_owned (Register.Reference p ∷ xs) (Register.Reference q ∷ ys) before after e f g at (suc r) c is =
    (let o = still_owned xs ys before after (let more : owners ys ≡ owners xs = cc in more) f g at r c is in record { root = o.root; is = o.is; at_is = o.at_is })
still_owned (x ∷ xs) (y ∷ ys) before after e f g at r c is = cc

module _ {others : List Root} {s s' : State} {old : List ℕ} (p : Pictures others s old) (new : List ℕ) (path : Path) (place : Place) (l : LeadsInImage p path place) (found : Value × ℕ) (begins : at_origin s path.origin ≡ Some found)
    {value : Value} (its : List ℕ) (holds_it : Holds old p.picture.table place value its) (kept : KeepsOwners p new place its) (p' : Pictures others s' new)
    (b : ObjectsThere p new path place l found begins its holds_it kept p')
    (same_owners : owners s'.registers ≡ owners s.registers) where
  -- the root in which the path begins
  pub record RootThen (o : Origin) : Type 0 where
    pub root : Root
    pub owner : IsAmong root (owners_in p'.picture)
    pub face : HasFace l.root root
    pub whole : Value
    pub type : ℕ
    pub whole_is : nth root.values l.item ≡ Some whole
    pub at : at_origin s' o ≡ Some (whole, type)

  item_there : (a : Root) → HasFace l.root a → (v : Value) × (nth a.values l.item ≡ Some v)
  item_there a f = nth_there a.values l.item (subst (λ n. l.item < n) (sym f.same_count) (within p new path place l found begins its holds_it kept))

  pub root_then : (o : Origin) → root_at p o ≡ Some (l.root, l.item) → RootThen o
  root_then (Origin.Name name i) e =
      let c = begun (root_named p.picture.names name) i l.root l.item e in
      go (root_named p'.picture.names name) refl c.0 c.1 (b.names name)
    where
      go : (q : Option Root) → root_named p'.picture.names name ≡ q → root_named p.picture.names name ≡ Some l.root → i ≡ l.item → is_some (root_named p'.picture.names name) ≡ is_some (root_named p.picture.names name) → RootThen
          (Origin.Name name i)
      go None f g h k = absurd (let x : false ≡ true = sym (ap (λ (o : Option Root). is_some o) f) ∙ k ∙ ap (λ (o : Option Root). is_some o) g in cc)
      go (Some a) f g h k =
          let face = b.stay.names name l.root a g f in
          let v = item_there a face in
          let object : s'.names name ≡ Some (object_of a) = p'.names name ∙ ap (option_map object_of) f in
          let r = p'.picture in
          record {
            root = a;
            owner = among_left a r.names (r.uniques ++ r.loose) (looked_up name a r.names f).0;
            face = face;
            whole = v.0;
            type = a.type;
            whole_is = v.1;
            at = ap (λ (o : Option Object). o >>= λ x. nth x.values i >>= λ v. Some (v, x.type)) object ∙ ap (λ n. nth a.values n >>= λ v. Some (v, a.type)) h ∙ ap (λ (o : Option Value). o >>= λ v. Some (v, a.type)) v.1;
          }
  root_then (Origin.Unique T) e =
      let c = begun (root_of_type p.picture.uniques T) 0 l.root l.item e in
      go (root_of_type p'.picture.uniques T) refl c.0 c.1 (b.uniques T)
    where
      go : (q : Option Root) → root_of_type p'.picture.uniques T ≡ q → root_of_type p.picture.uniques T ≡ Some l.root → 0 ≡ l.item → is_some (root_of_type p'.picture.uniques T) ≡ is_some (root_of_type p.picture.uniques T) → RootThen
          (Origin.Unique T)
      go None f g h k = absurd (let x : false ≡ true = sym (ap (λ (o : Option Root). is_some o) f) ∙ k ∙ ap (λ (o : Option Root). is_some o) g in cc)
      go (Some a) f g h k =
          let face = b.stay.uniques T l.root a g f in
          let v = item_there a face in
          let object : s'.uniques T ≡ Some v.0 = p'.uniques T ∙ ap (option_and_then (λ (root : Root). nth root.values 0)) f ∙ ap (nth a.values) h ∙ v.1 in
          let r = p'.picture in
          record {
            root = a;
            owner = among_right a r.names (r.uniques ++ r.loose) (among_left a r.uniques r.loose (of_type r.uniques T a f));
            face = face;
            whole = v.0;
            type = T;
            whole_is = v.1;
            at = ap (λ (o : Option Value). o >>= λ v. Some (v, T)) object;
          }
  root_then (Origin.Owned n) e =
      let c = begun (root_of_register s.registers p.owned n) 0 l.root l.item e in
      let o = still_owned s.registers s'.registers p.owned p'.owned same_owners p.are_owned p'.are_owned b.owned_at n l.root c.0 in
      let a = o.root in
      let i = of_register s.registers p.owned n l.root c.0 in
      let j = of_register s'.registers p'.owned n a o.is in
      let face = owned_face p new path place l found begins its holds_it kept p' b l.root a i j o.at_is in
      let q = owned_split s'.registers p'.owned n a p'.are_owned o.is in
      let r = p'.picture in
      record {
        root = a;
        owner = among_right a r.names (r.uniques ++ r.loose) (among_right a r.uniques r.loose (subst (IsAmong a) (sym p'.loose) (among_right a others p'.owned j)));
        face = face;
        whole = q.value;
        type = a.type;
        whole_is = ap (λ vs. nth vs l.item) q.values_are ∙ ap (λ n. nth (cons q.value nil) n) (sym c.1);
        at = ap owned_by q.is;
      }

  -- the value of the place
  pub record There : Type 0 where
    pub now : Value
    pub blocks : List ℕ
    pub holds_now : Holds new p.picture.table place now blocks
    pub fits : AllByRecursion (Fits new) blocks
    pub fewer : (h : ℕ) → times h blocks ≤ times h (positions (live new))
    pub value_is : path_value s' path ≡ Some now

  pub value_there : There
  value_there =
      let t = root_then path.origin l.begins in
      let a = t.root in
      let o = owns new p'.picture p'.held a p'.held.roots (owner_in_roots p'.picture a t.owner) in
      let n = count l.root.values in
      let h1 = subst (λ (z : Table). HoldsEach new z (items z a.at a.type (count a.values)) a.values o.holds_it.inside) b.tables o.holds_it.values in
      let here : HoldsEach new p.picture.table (items p.picture.table l.root.at l.root.type n) a.values o.holds_it.inside =
      subst (λ ps. HoldsEach new p.picture.table ps a.values o.holds_it.inside) (λ j. items p.picture.table (t.face.same_at j) (t.face.same_type j) (t.face.same_count j)) h1 in
      let item = item_of p.picture.table l.root l.item in
      let m = middle new p.picture.table here l.item item (items_nth p.picture.table l.root.at l.root.type n l.item (within p new path place l found begins its holds_it kept)) in
      let cut = split new p.picture.table (surrounded_leads old new p.picture.table (own_root p new path place l found begins its holds_it kept).surrounded) m.holds_it in
      let index : l.item ≡ count m.left = sym m.at_is ∙ count_is new p.picture.table m.lefts in
      let nth_is : nth a.values l.item ≡ Some m.value = (λ j. nth (m.values_are j) (index j)) ∙ nth-append m.left m.right m.value in
      let whole : m.value ≡ t.whole = (let e : Some m.value ≡ Some t.whole = sym nth_is ∙ t.whole_is in cc) in
      record {
        now = cut.value;
        blocks = cut.its;
        holds_now = cut.holds_it;
        fits = all_fit new p'.picture p'.held cut.its (λ h. (
            let x = ap (times h) cut.blocks_are ∙ times-append h cut.left (cut.its ++ cut.right) in
            let y = times-append h cut.its cut.right in
            let z = ap (times h) m.blocks_are ∙ times-append h m.xs (m.zs ++ m.ys) in
            let u = times-append h m.zs m.ys in
            let v = ap (times h) o.holds_it.blocks_are in
            omega (arith, o.fewer h, x, y, z, u, v, times-more h (block_of (payload_of a)) o.holds_it.inside)));
        fewer = λ h. (
            let x = ap (times h) cut.blocks_are ∙ times-append h cut.left (cut.its ++ cut.right) in
            let y = times-append h cut.its cut.right in
            let z = ap (times h) m.blocks_are ∙ times-append h m.xs (m.zs ++ m.ys) in
            let u = times-append h m.zs m.ys in
            let v = ap (times h) o.holds_it.blocks_are in
            omega (arith, o.fewer h, x, y, z, u, v, times-more h (block_of (payload_of a)) o.holds_it.inside, counts new p'.picture p'.held h));
        value_is = ap (λ (o : Option (Value × ℕ)). o >>= λ (x : Value × ℕ). value_at x.0 path.selectors) t.at ∙ ap (λ v. value_at v path.selectors) (sym whole) ∙ cut.value_is;
      }
