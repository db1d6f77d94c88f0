-- Adding and removing objects of registers: the image pictures the state afterwards, and paths that
-- still have a root refer to the same places.
use Rattle.std.proofs.Common.{◌≡◌, ◌≢◌, ℕ, zero, suc, ◌<◌, ◌⊎◌, inl, inr, List, [], ◌∷◌, ◌++◌, length, Option, Some, None, refl, sym, ◌∙◌, ap, subst, arith, append_assoc}
use Rattle.std.specs.Prelude.{slice_set, slice_index_or, option_map}
use Rattle.std.specs.List.{AllByRecursion}
use Rattle.std.proofs.lemmas.Bool.{cases_eq}
use Rattle.std.proofs.lemmas.List.{set-get_or}
use Rattle.seg_spec.specs.Bytes.{word}
use Rattle.seg_spec.specs.Header.{next_word}
use Rattle.seg_spec.specs.Value.{Value, nil, cons}
use Rattle.seg_spec.specs.Index.{Root, root_named, root_of_type}
use Rattle.seg_spec.specs.Shared.{names_each, left}
use Rattle.seg_spec.specs.Sound.{Picture, IsHeld}
use Rattle.seg_spec.specs.Counting.{owners_in, AreCounted, without_cells}
use Rattle.seg_spec.specs.Roots.{Listed, with_roots, roots_before, KeepsPaths}
use Rattle.seg_spec.proofs.Frozen.PartCountLaws.{owners_after, owners_with}
use Rattle.client_spec.specs.Machine.{Origin, Register, State, register, set_register, owned_by}
use Rattle.client_spec.specs.Pictures.{root_of_register, AreOwned, Pictures, root_at}
use Rattle.client_sim.proofs.Frozen.FrozenPathLaws.{KeepsFrozen}
use Rattle.client_sim.proofs.Objects.FirstRootLaws.{Among, each_among, among_left, among_right, first_among, is_named, is_of_type, named_first, typed_first}
use Rattle.client_sim.proofs.Objects.OwnedRootLaws.{owned_split}
use Rattle.client_sim.proofs.UnchangedImageLaws.{first_none, later_none}
use Rattle.client_sim.proofs.Objects.PictureLaws.{looks_of}
use Rattle.client_sim.proofs.Places.RootPutLaws.{root_of_pair, among_loose}
use Rattle.client_sim.proofs.Objects.ObjectChangeLaws.{KeepsRoots}

-- ---- the root of a register's object, among those of all

-- the roots of the registers before and after this one
pub record IsSeat (rs : List Register) (a : ℕ) (before after : List Root) : Type 0 where
  pub empty : (x : Register) → owned_by x ≡ None → AreOwned (slice_set rs a x) (before ++ after)
  pub filled : (v : Value) (t : ℕ) (root : Root) → root.type ≡ t → root.values ≡ cons v nil → AreOwned (slice_set rs a (Register.Owner v t)) (before ++ root ∷ after)
  pub here : (v : Value) (t : ℕ) (root : Root) → root_of_register (slice_set rs a (Register.Owner v t)) (before ++ root ∷ after) a ≡ Some root
  pub beside : (q : ℕ) → q ≢ a → (x : Register) → owned_by x ≡ None → (v : Value) (t : ℕ) (root : Root)
      → root_of_register (slice_set rs a (Register.Owner v t)) (before ++ root ∷ after) q ≡ root_of_register (slice_set rs a x) (before ++ after) q

owned_behind : (x : Register) (rs : List Register) (owned : List Root) → owned_by x ≡ None → AreOwned rs owned → AreOwned (x ∷ rs) owned
owned_behind Register.Undefined rs owned e h = h
owned_behind (Register.Int k) rs owned e h = h
owned_behind (Register.Reference p) rs owned e h = h
owned_behind (Register.Owner v t) rs owned e h = cc

seat_here : (y : Register) (rs : List Register) (owned : List Root) → AreOwned rs owned → IsSeat (y ∷ rs) zero [] owned
seat_here y rs owned h = record {
  empty = λ x e. owned_behind x rs owned e h;
  filled = λ v t root type_is values_are. (type_is, values_are, h);
  here = λ v t root. refl;
  beside = beside;
}
  where
    beside : (q : ℕ) → q ≢ zero → (x : Register) → owned_by x ≡ None → (v : Value) (t : ℕ) (root : Root)
        → root_of_register (Register.Owner v t ∷ rs) (root ∷ owned) q ≡ root_of_register (x ∷ rs) owned q
    beside zero far x e v t root = absurd (far refl)
    beside (suc q) far x e v t root = sym (later_none x rs owned q e)

seat_after_none : (y : Register) (rs : List Register) (a : ℕ) (before after : List Root) → owned_by y ≡ None → IsSeat rs a before after → IsSeat (y ∷ rs) (suc a) before after
seat_after_none y rs a before after none m = record {
  empty = λ x e. owned_behind y (slice_set rs a x) (before ++ after) none (m.empty x e);
  filled = λ v t root type_is values_are. owned_behind y (slice_set rs a (Register.Owner v t)) (before ++ root ∷ after) none (m.filled v t root type_is values_are);
  here = λ v t root. later_none y (slice_set rs a (Register.Owner v t)) (before ++ root ∷ after) a none ∙ m.here v t root;
  beside = beside;
}
  where
    beside : (q : ℕ) → q ≢ suc a → (x : Register) → owned_by x ≡ None → (v : Value) (t : ℕ) (root : Root)
        → root_of_register (y ∷ slice_set rs a (Register.Owner v t)) (before ++ root ∷ after) q ≡ root_of_register (y ∷ slice_set rs a x) (before ++ after) q
    beside zero far x e v t root = first_none y (slice_set rs a (Register.Owner v t)) (before ++ root ∷ after) none ∙ sym (first_none y (slice_set rs a x) (before ++ after) none)
    beside (suc q) far x e v t root =
        later_none y (slice_set rs a (Register.Owner v t)) (before ++ root ∷ after) q none
        ∙ m.beside q (λ f. far (ap suc f)) x e v t root ∙ sym (later_none y (slice_set rs a x) (before ++ after) q none)

seat_after_owner : (w : Value) (u : ℕ) (o : Root) (rs : List Register) (a : ℕ) (before after : List Root) → o.type ≡ u → o.values ≡ cons w nil → IsSeat rs a before after → IsSeat (Register.Owner w u ∷ rs) (suc a) (o ∷ before) after
seat_after_owner w u o rs a before after type_is values_are m = record {
  empty = λ x e. (type_is, values_are, m.empty x e);
  filled = λ v t root f g. (type_is, values_are, m.filled v t root f g);
  here = m.here;
  beside = beside;
}
  where
    beside : (q : ℕ) → q ≢ suc a → (x : Register) → owned_by x ≡ None → (v : Value) (t : ℕ) (root : Root)
        → root_of_register (Register.Owner w u ∷ slice_set rs a (Register.Owner v t)) (o ∷ (before ++ root ∷ after)) q ≡ root_of_register (Register.Owner w u ∷ slice_set rs a x) (o ∷ (before ++ after)) q
    beside zero far x e v t root = refl
    beside (suc q) far x e v t root = m.beside q (λ f. far (ap suc f)) x e v t root

-- a register that owns nothing
pub record FreeSeat (rs : List Register) (owned : List Root) (a : ℕ) : Type 0 where
  pub before : List Root
  pub after : List Root
  pub among : owned ≡ before ++ after
  pub seat : IsSeat rs a before after

free_after : (y : Register) (rs : List Register) (owned : List Root) (a : ℕ) → owned_by y ≡ None → FreeSeat rs owned a → FreeSeat (y ∷ rs) owned (suc a)
free_after y rs owned a none m = record { before = m.before; after = m.after; among = m.among; seat = seat_after_none y rs a m.before m.after none m.seat }

pub free_seat : (rs : List Register) (owned : List Root) (a : ℕ) → AreOwned rs owned → a < length rs → owned_by (slice_index_or rs a Register.Undefined) ≡ None → FreeSeat rs owned a
free_seat [] owned a h less none = absurd (omega (arith, less))
free_seat (Register.Owner v t ∷ rs) owned zero h less none = cc
free_seat (Register.Undefined ∷ rs) owned zero h less none = record { before = []; after = owned; among = refl; seat = seat_here Register.Undefined rs owned h }
free_seat (Register.Int k ∷ rs) owned zero h less none = record { before = []; after = owned; among = refl; seat = seat_here (Register.Int k) rs owned h }
free_seat (Register.Reference p ∷ rs) owned zero h less none = record { before = []; after = owned; among = refl; seat = seat_here (Register.Reference p) rs owned h }
free_seat (Register.Owner v t ∷ rs) [] (suc a) h less none = absurd h
free_seat (Register.Owner v t ∷ rs) (o ∷ owned) (suc a) h less none =
    let m = free_seat rs owned a h.2 (omega (arith, less)) none in
    record { before = o ∷ m.before; after = m.after; among = ap (λ xs. o ∷ xs) m.among; seat = seat_after_owner v t o rs a m.before m.after h.0 h.1 m.seat }
free_seat (Register.Undefined ∷ rs) owned (suc a) h less none = free_after Register.Undefined rs owned a refl (free_seat rs owned a h (omega (arith, less)) none)
free_seat (Register.Int k ∷ rs) owned (suc a) h less none = free_after (Register.Int k) rs owned a refl (free_seat rs owned a h (omega (arith, less)) none)
free_seat (Register.Reference p ∷ rs) owned (suc a) h less none = free_after (Register.Reference p) rs owned a refl (free_seat rs owned a h (omega (arith, less)) none)

-- a register that owns the object of this root
pub record TakenSeat (rs : List Register) (owned : List Root) (a : ℕ) (root : Root) : Type 0 where
  pub before : List Root
  pub after : List Root
  pub among : owned ≡ before ++ root ∷ after
  pub value : Value
  pub is : rs ≡ slice_set rs a (Register.Owner value root.type)
  pub seat : IsSeat rs a before after

taken_after : (y : Register) (rs : List Register) (owned : List Root) (a : ℕ) (root : Root) → owned_by y ≡ None → TakenSeat rs owned a root → TakenSeat (y ∷ rs) owned (suc a) root
taken_after y rs owned a root none m =
    record { before = m.before; after = m.after; among = m.among; value = m.value; is = ap (λ xs. y ∷ xs) m.is; seat = seat_after_none y rs a m.before m.after none m.seat }

pub taken_seat : (rs : List Register) (owned : List Root) (a : ℕ) (root : Root) → AreOwned rs owned → root_of_register rs owned a ≡ Some root → TakenSeat rs owned a root
taken_seat [] owned a root h e = cc
taken_seat (Register.Owner v t ∷ rs) [] a root h e = absurd h
taken_seat (Register.Owner v t ∷ rs) (o ∷ owned) zero root h e =
    let same : o ≡ root = cc in
    record {
      before = [];
      after = owned;
      among = ap (λ x. x ∷ owned) same;
      value = v;
      is = ap (λ u. Register.Owner v u ∷ rs) (sym h.0 ∙ ap (λ (x : Root). x.type) same);
      seat = seat_here (Register.Owner v t) rs owned h.2;
    }
taken_seat (Register.Owner v t ∷ rs) (o ∷ owned) (suc a) root h e =
    let m = taken_seat rs owned a root h.2 e in
    record {
      before = o ∷ m.before;
      after = m.after;
      among = ap (λ xs. o ∷ xs) m.among;
      value = m.value;
      is = ap (λ xs. Register.Owner v t ∷ xs) m.is;
      seat = seat_after_owner v t o rs a m.before m.after h.0 h.1 m.seat;
    }
taken_seat (Register.Undefined ∷ rs) owned zero root h e = cc
taken_seat (Register.Int k ∷ rs) owned zero root h e = cc
taken_seat (Register.Reference p ∷ rs) owned zero root h e = cc
taken_seat (Register.Undefined ∷ rs) owned (suc a) root h e = taken_after Register.Undefined rs owned a root refl (taken_seat rs owned a root h e)
taken_seat (Register.Int k ∷ rs) owned (suc a) root h e = taken_after (Register.Int k) rs owned a root refl (taken_seat rs owned a root h e)
taken_seat (Register.Reference p ∷ rs) owned (suc a) root h e = taken_after (Register.Reference p) rs owned a root refl (taken_seat rs owned a root h e)

-- ---- the picture afterwards

module _ {others : List Root} {s : State} {old : List ℕ} (pictured : Pictures others s old) where
  -- the root of a path is a root of the image
  pub root_among : (o : Origin) (root : Root) (item : ℕ) → root_at pictured o ≡ Some (root, item) → Among (owners_in pictured.picture) root
  root_among (Origin.Name name i) root item e =
      let picture = pictured.picture in
      let p = root_of_pair (root_named picture.names name) i root item e in
      among_left picture.names (picture.uniques ++ picture.loose) root (first_among (is_named name) picture.names root (sym (named_first picture.names name) ∙ p.0))
  root_among (Origin.Unique T) root item e =
      let picture = pictured.picture in
      let p = root_of_pair (root_of_type picture.uniques T) 0 root item e in
      among_right picture.names (picture.uniques ++ picture.loose) root (among_left picture.uniques picture.loose root (first_among (is_of_type T) picture.uniques root (sym (typed_first picture.uniques T) ∙ p.0)))
  root_among (Origin.Owned r) root item e =
      let picture = pictured.picture in
      let p = root_of_pair (root_of_register s.registers pictured.owned r) 0 root item e in
      among_right picture.names (picture.uniques ++ picture.loose) root (among_right picture.uniques picture.loose root (among_loose (looks_of pictured) r root p.0))

  -- paths still have their roots if the named, unique and owned roots are still there
  pub found_again : {s' : State} {new : List ℕ} (later : Pictures others s' new) (Ends : Origin → Type 0)
      → ((name : List ℕ) (i : ℕ) (root : Root) → root_named pictured.picture.names name ≡ Some root → Ends (Origin.Name name i) ⊎ (root_named later.picture.names name ≡ Some root))
      → ((T : ℕ) (root : Root) → root_of_type pictured.picture.uniques T ≡ Some root → Ends (Origin.Unique T) ⊎ (root_of_type later.picture.uniques T ≡ Some root))
      → ((r : ℕ) (root : Root) → root_of_register s.registers pictured.owned r ≡ Some root → Ends (Origin.Owned r) ⊎ (root_of_register s'.registers later.owned r ≡ Some root))
      → (o : Origin) (root : Root) (item : ℕ) → root_at pictured o ≡ Some (root, item) → Ends o ⊎ (root_at later o ≡ Some (root, item))
  found_again later Ends names uniques owned (Origin.Name name i) root item e =
      let p = root_of_pair (root_named pictured.picture.names name) i root item e in
      elim (names name i root p.0) [ inl f ↦ inl f | inr f ↦ inr (ap (option_map {T = Root} {U = Root × ℕ} (λ root. (root, i))) f ∙ ap (λ n. Some (root, n)) p.1) ]
  found_again later Ends names uniques owned (Origin.Unique T) root item e =
      let p = root_of_pair (root_of_type pictured.picture.uniques T) 0 root item e in
      elim (uniques T root p.0) [ inl f ↦ inl f | inr f ↦ inr (ap (option_map {T = Root} {U = Root × ℕ} (λ root. (root, 0))) f ∙ ap (λ n. Some (root, n)) p.1) ]
  found_again {s' = s'} later Ends names uniques owned (Origin.Owned r) root item e =
      let p = root_of_pair (root_of_register s.registers pictured.owned r) 0 root item e in
      elim (owned r root p.0) [ inl f ↦ inl f | inr f ↦ inr (ap (option_map {T = Root} {U = Root × ℕ} (λ root. (root, 0))) f ∙ ap (λ n. Some (root, n)) p.1) ]

-- if all roots keep their paths, origins keep their roots and paths
pub keeps_all : {others : List Root} {s s' : State} {old new : List ℕ} (pictured : Pictures others s old) (later : Pictures others s' new) (Ends : Origin → Type 0) → later.picture.table ≡ pictured.picture.table
    → ((o : Origin) (root : Root) (item : ℕ) → root_at pictured o ≡ Some (root, item) → Ends o ⊎ (root_at later o ≡ Some (root, item)))
    → AllByRecursion (KeepsPaths old new pictured.picture.table) (owners_in pictured.picture) → KeepsRoots pictured later Ends
keeps_all {old = old} {new = new} pictured later Ends table begins paths = record {
  table = table;
  begins = λ o root item e. elim (begins o root item e) [
    | inl f ↦ inl f
    | inr f ↦ inr (f, each_among (KeepsPaths old new pictured.picture.table) (owners_in pictured.picture) root (root_among pictured o root item e) paths)
  ];
}

pub keeps_others : {others : List Root} {s s' : State} {old new : List ℕ} (pictured : Pictures others s old) (later : Pictures others s' new) (Ends : Origin → Type 0) → later.picture.table ≡ pictured.picture.table
    → ((o : Origin) (root : Root) (item : ℕ) → root_at pictured o ≡ Some (root, item) → Ends o ⊎ (root_at later o ≡ Some (root, item)))
    → AllByRecursion (KeepsPaths old new pictured.picture.table) (owners_in later.picture) → KeepsRoots pictured later Ends
keeps_others {old = old} {new = new} pictured later Ends table begins paths = record {
  table = table;
  begins = λ o root item e. elim (begins o root item e) [
    | inl f ↦ inl f
    | inr f ↦ inr (f, each_among (KeepsPaths old new pictured.picture.table) (owners_in later.picture) root (root_among later o root item f) paths)
  ];
}

-- the bytes have the picture, and its frozen objects are counted
abbrev pub IsHeldCounted : List ℕ → Picture → Type 0
IsHeldCounted bytes picture = IsHeld bytes picture × AreCounted (word bytes next_word) picture

module _ {others : List Root} {s : State} {old : List ℕ} (pictured : Pictures others s old) where
  -- ---- a register gets an object

  pub record OwnedComes (a : ℕ) (v : Value) (t : ℕ) (root : Root) (new : List ℕ) : Type 0 where
    pub later : Pictures others (set_register s a (Register.Owner v t)) new
    pub keeps : KeepsRoots pictured later (λ o. ⊥)
    pub stays : KeepsFrozen old new pictured.picture.table pictured.picture.frozen later.picture.frozen
    pub here : root_at later (Origin.Owned a) ≡ Some (root, 0)

  pub owned_comes : (a : ℕ) → a < length s.registers → owned_by (register s a) ≡ None → (v : Value) (t : ℕ) (root : Root) → root.type ≡ t → root.values ≡ cons v nil → (new : List ℕ)
      → ((before after : List Root) → pictured.picture.loose ≡ before ++ after → IsHeldCounted new (with_roots pictured.picture Listed.loose (before ++ root ∷ after)))
      → AllByRecursion (KeepsPaths old new pictured.picture.table) (owners_in pictured.picture)
      → KeepsFrozen old new pictured.picture.table pictured.picture.frozen pictured.picture.frozen → OwnedComes a v t root new
  owned_comes a within none v t root type_is values_are new joins paths frozen =
      let m = free_seat s.registers pictured.owned a pictured.are_owned within none in
      let joined = joins (others ++ m.before) m.after (pictured.loose ∙ ap (λ xs. others ++ xs) m.among ∙ sym (append_assoc others m.before m.after)) in
      let later : Pictures others (set_register s a (Register.Owner v t)) new = record {
        picture = with_roots pictured.picture Listed.loose ((others ++ m.before) ++ root ∷ m.after);
        held = joined.0;
        counted = joined.1;
        types = pictured.types;
        names = pictured.names;
        uniques = pictured.uniques;
        owned = m.before ++ root ∷ m.after;
        are_owned = m.seat.filled v t root type_is values_are;
        loose = append_assoc others m.before (root ∷ m.after);
      } in
      let there : (q : ℕ) (r : Root) → root_of_register s.registers pictured.owned q ≡ Some r → ⊥ ⊎ (root_of_register (slice_set s.registers a (Register.Owner v t)) (m.before ++ root ∷ m.after) q ≡ Some r) = λ q r e.
      inr (m.seat.beside q (λ f. vacant r (sym (ap (root_of_register s.registers pictured.owned) f) ∙ e)) (register s a) none v t root
      ∙ ap (λ rs. root_of_register rs (m.before ++ m.after) q) (set-get_or s.registers a Register.Undefined) ∙ ap (λ xs. root_of_register s.registers xs q) (sym m.among) ∙ e) in
      record {
        later = later;
        stays = frozen;
        keeps = keeps_all pictured later (λ o. ⊥) refl (found_again pictured later (λ o. ⊥) (λ name i r e. inr e) (λ T r e. inr e) there) paths;
        here = ap (option_map {T = Root} {U = Root × ℕ} (λ root. (root, 0))) (m.seat.here v t root);
      }
    where
      vacant : (r : Root) → root_of_register s.registers pictured.owned a ≡ Some r → ⊥
      vacant r e = let o = owned_split s.registers pictured.owned a r pictured.are_owned e in (let f : ◌≡◌ {A = Option (Value × ℕ)} None (Some (o.value, r.type)) = sym none ∙ ap owned_by o.is in cc)

  -- ---- a register loses its object

  pub record OwnedGoes (b : ℕ) (new : List ℕ) : Type 0 where
    pub later : Pictures others (set_register s b Register.Undefined) new
    pub keeps : KeepsRoots pictured later (λ o. o ≡ Origin.Owned b)
    pub stays : KeepsFrozen old new pictured.picture.table pictured.picture.frozen later.picture.frozen

  -- the loose roots before and after this one, and the consequence of its removal
  pub record OwnedAmong (b : ℕ) (root : Root) : Type 0 where
    pub before : List Root
    pub after : List Root
    pub among : pictured.picture.loose ≡ before ++ root ∷ after
    pub goes : (new : List ℕ) → IsHeldCounted new (without_cells (names_each root.values) (with_roots pictured.picture Listed.loose (before ++ after)))
        → AllByRecursion (KeepsPaths old new pictured.picture.table) (roots_before pictured.picture Listed.loose before ++ owners_after pictured.picture Listed.loose after)
        → KeepsFrozen old new pictured.picture.table pictured.picture.frozen (left (names_each root.values) pictured.picture.frozen) → OwnedGoes b new

  pub owned_goes : (b : ℕ) (root : Root) → root_of_register s.registers pictured.owned b ≡ Some root → OwnedAmong b root
  owned_goes b root e =
      let m = taken_seat s.registers pictured.owned b root pictured.are_owned e in
      let picture = pictured.picture in
      record {
        before = others ++ m.before;
        after = m.after;
        among = pictured.loose ∙ ap (λ xs. others ++ xs) m.among ∙ sym (append_assoc others m.before (root ∷ m.after));
        goes = λ new held paths frozen.
            let later : Pictures others (set_register s b Register.Undefined) new = record {
              picture = without_cells (names_each root.values) (with_roots picture Listed.loose ((others ++ m.before) ++ m.after));
              held = held.0;
              counted = held.1;
              types = pictured.types;
              names = pictured.names;
              uniques = pictured.uniques;
              owned = m.before ++ m.after;
              are_owned = m.seat.empty Register.Undefined refl;
              loose = append_assoc others m.before m.after;
            } in
            let among : roots_before picture Listed.loose (others ++ m.before) ++ owners_after picture Listed.loose m.after ≡ owners_in later.picture = sym (owners_with picture Listed.loose (others ++ m.before) [] m.after) in
            let there : (q : ℕ) (r : Root) → root_of_register s.registers pictured.owned q ≡ Some r
            → (Origin.Owned q ≡ Origin.Owned b) ⊎ (root_of_register (slice_set s.registers b Register.Undefined) (m.before ++ m.after) q ≡ Some r) = λ q r f. elim (cases_eq q b) [
              | inl same ↦ inl (ap Origin.Owned same)
              | inr far ↦ inr (sym (m.seat.beside q far Register.Undefined refl m.value root.type root) ∙ ap (λ rs. root_of_register rs (m.before ++ root ∷ m.after) q) (sym m.is)
                  ∙ ap (λ xs. root_of_register s.registers xs q) (sym m.among) ∙ f)
            ] in
            record {
              later = later;
              stays = frozen;
              keeps = keeps_others pictured later (λ o. o ≡ Origin.Owned b) refl (found_again pictured later (λ o. o ≡ Origin.Owned b) (λ name i r f. inr f) (λ T r f. inr f) there)
                  (subst (AllByRecursion (KeepsPaths old new picture.table)) among paths);
            };
      }
