-- What an instruction keeps that gives the object that register c owns another owner, and changes the
-- place that register b refers to.
use Rattle.std.specs.Prelude.{◌==◌, slice_set}
use Rattle.std.proofs.Common.{◌≡◌, ◌≢◌, ℕ, ◌+◌, ◌≤◌, ◌⊎◌, inl, inr, false, List, [], ◌∷◌, ◌++◌, length, Option, Some, None, refl, sym, ap, ◌∙◌, subst, arith, append_assoc}
use Rattle.std.specs.List.{AllByRecursion}
use Rattle.std.proofs.lemmas.Bool.Decides.{nat_tests}
use Rattle.seg_spec.specs.Bytes.{word}
use Rattle.seg_spec.specs.Header.{allocator_word, next_word}
use Rattle.seg_spec.specs.Types.{Form, Table, form_at, size}
use Rattle.seg_spec.specs.Value.{Value, nil, cons, count, value_at, with_value_at}
use Rattle.seg_spec.specs.Heap.{live}
use Rattle.seg_spec.specs.Block.{block_of, KeepsBlock}
use Rattle.seg_spec.specs.Reads.{Place, Holds, HoldsEach, holds_more, items}
use Rattle.seg_spec.specs.Apart.{KeepsBlockAround}
use Rattle.seg_spec.specs.Index.{Root, root_named, root_of_type}
use Rattle.seg_spec.specs.Frozen.{Frozen}
use Rattle.seg_spec.specs.Sound.{Picture, IsHeld, HoldsRoot, HoldsRoots, payload_of, times, positions}
use Rattle.seg_spec.specs.Shared.{names_in, names_each, IsBelow}
use Rattle.seg_spec.specs.Counting.{owners_in}
use Rattle.seg_spec.specs.Roots.{HasFace}
use Rattle.seg_spec.proofs.Heap.LiveBlockLaws.{times-append, times-same, live-once}
use Rattle.seg_spec.proofs.Images.RootLaws.{HoldsRoots-split}
use Rattle.seg_spec.proofs.Values.OneValueLaws.{Holds-one}
use Rattle.client_spec.specs.Syntax.{Constant, Instruction}
use Rattle.client_spec.specs.Machine.{Origin, Path, Register, State, register, owned_by, at_origin, path_value, put_at}
use Rattle.client_spec.specs.Answer.{success, begins_at}
use Rattle.client_spec.specs.Pictures.{root_of_register, Pictures, LeadsInImage, root_at}
use Rattle.client_spec.specs.Asks.{LedTo}
use Rattle.client_spec.specs.Ties.{Spot, spot_of, KeepsBut, places_of, object_at, OfRoot, Both, OfPlace, OfOwner, OfFrozen, TouchesBy, Changes}
use Rattle.client_spec.specs.OnImages.{Move, Situation, RowOn}
use Rattle.client_spec.proofs.TypedStates.StateLaws.{origin_put}
use Rattle.client_spec.proofs.TypedStates.PutLaws.{put_at_is}
use Rattle.client_spec.proofs.TypedStates.ValueLaws.{Some_inj, bind_some}
use Rattle.client_sim.proofs.Objects.OwnedChangeLaws.{TakenSeat, taken_seat}
use Rattle.test_definitions.proofs.Alike.AlikeRootLaws.{begun, of_register, of_type}
use Rattle.test_definitions.proofs.ValueChanges.ApartPlaceLaws.{KeepsApart, index_whole}
use Rattle.test_definitions.proofs.Rows.ApartRowLaws.{nodes_before, plain_face, cells_within}
use Rattle.test_definitions.proofs.ValueChanges.ChangedPlaceLaws.{KeepsOwners, own_owner, its_within, its_owned, holds_one, apart as place_apart}
use Rattle.test_definitions.proofs.Rows.ChangedPlaceRowLaws.{cells_of}
use Rattle.test_definitions.proofs.Frozen.FreedBlockLaws.{frozen_by}
use Rattle.test_definitions.proofs.Frozen.FrozenApartLaws.{FrozenApart, frozen_apart, among_either}
use Rattle.test_definitions.proofs.Alike.ListedRootLaws.{named_as_many}
use Rattle.test_definitions.proofs.Steps.MovedStepLaws.{Moving, moving, named_was, unique_was, Stay, MovedSide, in_names, in_uniques, others_in, owned_in, owned_plain, each_owned, same_face}
use Rattle.test_definitions.proofs.Rows.OneRow.{itself}
use Rattle.test_definitions.proofs.Rows.OnePlaceLaws.{RefersTo, led_in_both, led_one}
use Rattle.test_definitions.proofs.Alike.OwnedBlockLaws.{two_owners}
use Rattle.test_definitions.proofs.Rows.OwningRegisterLaws.{changes_names, changes_uniques}
use Rattle.test_definitions.proofs.Steps.PlaceStepLaws.{nothing_changes}
use Rattle.test_definitions.proofs.Alike.RootMemberLaws.{IsAmong, among_left, among_right, looked_up, Owns, owns}

-- a register that owns an object still does after a put
pub owner_after : (s : State) (p : Path) (old new : Value) → path_value s p ≡ Some old → (n : ℕ) (v : Value) (T : ℕ) → owned_by (register s n) ≡ Some (v, T) → (u : Value) × (U : ℕ) × (owned_by (register (put_at s p new) n) ≡ Some (u, U))
owner_after s p old new e n v T is =
    let a = bind_some (at_origin s p.origin) (λ (found : Value × ℕ). value_at found.0 p.selectors) old e in
    let whole = with_value_at p.selectors new a.0.0 in
    let same = ap (λ (z : State). at_origin z (Origin.Owned n)) (put_at_is s p a.0.0 new a.0.1 a.1) in
    elim (origin_put s p.origin a.0.0 whole a.0.1 a.1 (Origin.Owned n)) [
      | inl k ↦ (whole, a.0.1, same ∙ k.1)
      | inr k ↦ (v, T, same ∙ k ∙ is)
    ]

-- ---- an object is listed once

five : (a b c e f : List Root) → a ++ (b ++ (c ++ (e ++ f))) ≡ (a ++ (b ++ (c ++ e))) ++ f
five a b c e f = simp append_assoc

pub not_twice : (bytes : List ℕ) (p : Picture) (held : IsHeld bytes p) (xs ys : List Root) (m : Root) {blocks : List ℕ} → HoldsRoots bytes p.table (xs ++ m ∷ ys) blocks → ((h : ℕ) → times h blocks ≤ 1) → IsAmong m (xs ++ ys) → ⊥
not_twice bytes p held xs ys m {blocks = blocks} hs once i =
    let s = HoldsRoots-split bytes p.table xs (m ∷ ys) blocks hs in
    let t = HoldsRoots-split bytes p.table (m ∷ []) ys s.right s.rights in
    let h = block_of (payload_of m) in
    let a = ap (times h) s.blocks_are ∙ times-append h s.left s.right in
    let b = ap (times h) t.blocks_are ∙ times-append h t.left t.right in
    let mine = owns bytes p held m t.lefts (inl refl) in
    elim (among_either m xs ys i) [
      | inl j ↦ absurd (let o = owns bytes p held m s.lefts j in omega (arith, a, b, once h, first mine.its mine.holds_it, mine.fewer h, first o.its o.holds_it, o.fewer h))
      | inr j ↦ absurd (let o = owns bytes p held m t.rights j in omega (arith, a, b, once h, first mine.its mine.holds_it, mine.fewer h, first o.its o.holds_it, o.fewer h))
    ]
  where
    first : (its : List ℕ) → HoldsRoot bytes p.table m its → 1 ≤ times (block_of (payload_of m)) its
    first its o = (let e = ap (times (block_of (payload_of m))) o.blocks_are in omega (arith, e, times-same (block_of (payload_of m)) o.inside))

-- ---- one image

-- the object, the place, and what is known of the row
pub record OwnerMoves (constants : List Constant) (others : List Root) (moves : List Move) (i : Instruction) (x y : Situation) (row : RowOn constants others moves i x success y) : Type 0 where
  pub no_names : changes_names i.operation ≡ false
  pub no_uniques : changes_uniques i.operation ≡ false
  pub found : RefersTo row.before.plain i.b
  pub root : Root
  pub owned : root_of_register row.before.plain.registers row.before.pictured.owned i.c ≡ Some root
  pub place : Place
  pub form : Form
  pub led_to : LedTo constants i row.before.pictured place form
  pub touches : (spot : Spot) (own : List ℕ) → TouchesBy constants i row.before.pictured i.operation spot own
      → Both (Both (OfPlace constants i row.before.pictured spot) (OfOwner row.before.pictured i.c)) (OfFrozen row.before.pictured) own
  pub origin_far : begins_at i.c led_to.path.origin ≡ false
  pub far : (n : ℕ) (a : Root) → root_of_register row.after.plain.registers row.after.pictured.owned n ≡ Some a → n ≢ i.c
  pub none_came : (n : ℕ) (a : Root) → root_of_register row.before.plain.registers row.before.pictured.owned n ≡ None → root_of_register row.after.plain.registers row.after.pictured.owned n ≡ Some a → ⊥

module _ (constants : List Constant) (others : List Root) (moves : List Move) (i : Instruction) (x y : Situation) (row : RowOn constants others moves i x success y) (m : OwnerMoves constants others moves i x y row) (places : List ℕ)
    (places_are : x.owned ≡ places) where
  abbrev p : Pictures others row.before.plain x.image
  p = row.before.pictured

  abbrev q : Pictures others row.after.plain y.image
  q = row.after.pictured

  abbrev path : Path
  path = m.led_to.path

  abbrev l : LeadsInImage row.before.pictured m.led_to.path m.place
  l = m.led_to.stands

  start : (f : Value × ℕ) × (at_origin row.before.plain m.led_to.path.origin ≡ Some f)
  start = m.found m.led_to.path m.led_to.path_is

  pub there : (v : Value) × (its : List ℕ) × Holds x.image row.before.pictured.picture.table m.place v its
  there = (let b = led_in_both constants i (itself others (places_of p.owned) x.image p refl) p p refl refl m.found m.place m.form m.led_to in (b.value, b.its, b.holds_it))

  abbrev its : List ℕ
  its = there.1

  pub form_is : form_at row.before.pictured.picture.table m.place.type ≡ Some m.form
  form_is = ap (λ (t : Table). form_at t m.place.type) p.types ∙ m.led_to.form_is

  abbrev pub apart : FrozenApart x.image row.before.pictured.picture row.before.pictured.held
  apart = frozen_apart x.image row.before.pictured.picture row.before.pictured.held

  abbrev still : KeepsOwners row.before.pictured x.image m.place there.1
  still = λ h some none none_frozen. nothing_changes x.image x.image p.picture p.held (spot_of p.picture.table m.place) its refl h some none

  pub once : (h : ℕ) → times h (positions (live x.image)) ≤ 1
  once = live-once x.image (word x.image allocator_word) p.held.laid_out.heap

  -- ---- the object that moves

  pub was_owned : IsAmong m.root row.before.pictured.owned
  was_owned = of_register row.before.plain.registers p.owned i.c m.root m.owned

  pub its_object : Owns x.image row.before.pictured.picture row.before.pictured.held m.root apart.owners
  its_object = owns x.image p.picture p.held m.root apart.holds_owners (owned_in p m.root was_owned)

  abbrev moved : List ℕ
  moved = its_object.its

  pub seat : TakenSeat row.before.plain.registers row.before.pictured.owned i.c m.root
  seat = taken_seat row.before.plain.registers p.owned i.c m.root p.are_owned m.owned

  abbrev first_owners : List Root
  first_owners = row.before.pictured.picture.names ++ (row.before.pictured.picture.uniques ++ (others ++ seat.before))

  owners_are : owners_in row.before.pictured.picture ≡ first_owners ++ m.root ∷ seat.after
  owners_are = ap (λ rs. p.picture.names ++ (p.picture.uniques ++ rs)) (p.loose ∙ ap (λ rs. others ++ rs) seat.among) ∙ five p.picture.names p.picture.uniques others seat.before (m.root ∷ seat.after)

  single : (c : Root) → IsAmong c (first_owners ++ seat.after) → Some m.root ≡ Some c → ⊥
  single c j e =
      let same : m.root ≡ c = Some_inj e in
      not_twice x.image p.picture p.held first_owners seat.after m.root (subst (λ rs. HoldsRoots x.image p.picture.table rs apart.owners) owners_are apart.holds_owners) (λ h. omega (arith, apart.counts h, once h))
      (subst (λ (z : Root). IsAmong z (first_owners ++ seat.after)) (sym same) j)

  pub name_apart : (c : Root) → IsAmong c row.before.pictured.picture.names → Some m.root ≡ Some c → ⊥
  name_apart c j = single c (among_left c first_owners seat.after (among_left c p.picture.names (p.picture.uniques ++ (others ++ seat.before)) j))

  pub unique_apart : (c : Root) → IsAmong c row.before.pictured.picture.uniques → Some m.root ≡ Some c → ⊥
  unique_apart c j = single c (among_left c first_owners seat.after (among_right c p.picture.names (p.picture.uniques ++ (others ++ seat.before)) (among_left c p.picture.uniques (others ++ seat.before) j)))

  pub loose_apart : (c : Root) → IsAmong c (others ++ seat.before) → Some m.root ≡ Some c → ⊥
  loose_apart c j = single c (among_left c first_owners seat.after (among_right c p.picture.names (p.picture.uniques ++ (others ++ seat.before)) (among_right c p.picture.uniques (others ++ seat.before) j)))

  owned_apart : (n : ℕ) (c : Root) → n ≢ i.c → root_of_register row.before.plain.registers row.before.pictured.owned n ≡ Some c → Some m.root ≡ Some c → ⊥
  owned_apart n c far e =
      let rest : root_of_register (slice_set row.before.plain.registers i.c Register.Undefined) (seat.before ++ seat.after) n ≡ root_of_register row.before.plain.registers p.owned n =
      sym (seat.seat.beside n far Register.Undefined refl seat.value m.root.type m.root) ∙ ap (λ rs. root_of_register rs (seat.before ++ m.root ∷ seat.after) n) (sym seat.is)
      ∙ ap (λ xs. root_of_register row.before.plain.registers xs n) (sym seat.among) in
      elim (among_either c seat.before seat.after (of_register (slice_set row.before.plain.registers i.c Register.Undefined) (seat.before ++ seat.after) n c (rest ∙ e))) [
        | inl j ↦ loose_apart c (among_right c others seat.before j)
        | inr j ↦ single c (among_right c first_owners seat.after j)
      ]

  origin_apart : (o : Origin) → begins_at i.c o ≡ false → root_at row.before.pictured o ≡ Some (m.led_to.stands.root, m.led_to.stands.item) → Some m.root ≡ Some m.led_to.stands.root → ⊥
  origin_apart (Origin.Name name n) test e =
      let c = begun (root_named p.picture.names name) n l.root l.item e in
      name_apart l.root (looked_up name l.root p.picture.names c.0).0
  origin_apart (Origin.Unique T) test e =
      let c = begun (root_of_type p.picture.uniques T) 0 l.root l.item e in
      unique_apart l.root (of_type p.picture.uniques T l.root c.0)
  origin_apart (Origin.Owned n) test e =
      let c = begun (root_of_register row.before.plain.registers p.owned n) 0 l.root l.item e in
      owned_apart n l.root (other n test) c.0
    where
      other : (n : ℕ) → (i.c == n) ≡ false → n ≢ i.c
      other n test = grind (arith, nat_tests)

  -- ---- what is kept

  around : (h : ℕ) → 1 ≤ times h (positions (live x.image)) → times h there.1 ≡ 0 → times h its_object.its ≡ 0 → times h apart.frozen ≡ 0
      → KeepsBlockAround x.image y.image m.place.at (size row.before.pictured.picture.table m.place.type) h
  around h some none none_moved none_frozen = by row.ties.changes
    where
      by : (y.image ≡ x.image) ⊎ Changes constants i row.before.pictured y.image
          → KeepsBlockAround x.image y.image m.place.at (size row.before.pictured.picture.table m.place.type) h
      by (inl e) = nothing_changes x.image y.image p.picture p.held (spot_of p.picture.table m.place) its e h some none
      by (inr c) =
          let t = m.touches c.spot c.own c.touches in
          let o = t.2.2 in
          let one_place : m.place ≡ o.place = (led_one constants i (itself others (places_of p.owned) x.image p refl) p p refl refl m.found m.place o.place m.form o.form m.led_to o.led_to).0 in
          let types = row.before.plain.types in
          let there_is = subst (λ (k : Table). Holds x.image k m.place o.value t.2.0) (sym p.types) (subst (λ (z : Place). Holds x.image types z o.value t.2.0) (sym one_place) o.holds) in
          let same : t.2.0 ≡ its = (Holds-one x.image p.picture.table there_is there.2).1 in
          let root_holds : HoldsRoot x.image types m.root t.2.1 = subst (λ r. OfRoot row.before.pictured r t.2.1) m.owned t.2.3 in
          let same_moved : t.2.1 ≡ moved = holds_one x.image p.picture.table m.root (subst (λ (k : Table). HoldsRoot x.image k m.root t.2.1) (sym p.types) root_holds) its_object.holds_it in
          let same_frozen : t.1 ≡ apart.frozen = t.3.own_is ∙ sym (frozen_by x.image p.picture.table t.3.theirs p.picture.frozen apart.frozen apart.holds_frozen t.3.holds) in
          let kept : KeepsBut x.image y.image (spot_of types o.place) c.own = subst (λ (z : Spot). KeepsBut x.image y.image z c.own) o.spot_is c.kept in
          let here = subst (λ (k : Table). KeepsBut x.image y.image (spot_of k m.place) c.own) (sym p.types) (subst (λ (z : Place). KeepsBut x.image y.image (spot_of types z) c.own) (sym one_place) kept) in
          here h some (omega (arith, none, none_moved, none_frozen, ap (times h) same, ap (times h) same_moved, ap (times h) same_frozen, ap (times h) t.4, times-append h t.0 t.1, ap (times h) t.2.4, times-append h t.2.0 t.2.1))

  abbrev Stays : Root → Type 0
  Stays = Stay row.before.pictured.picture (Some m.root)

  pub kept : KeepsApart row.before.pictured y.image m.place there.1 its_object.its (Stay row.before.pictured.picture (Some m.root))
  kept = record {
    around = around;
    owner = λ c k. k.0;
    beside = λ c k blocks holds h some. (
        let both = two_owners x.image p.picture h apart.holds_owners c m.root k.0 (owned_in p m.root was_owned) (λ e. k.1 (ap (λ (z : Root). Some z) (sym e))) holds its_object.holds_it in
        omega (arith, some, both, apart.counts h, once h));
    index_beside = λ h some. omega (arith, some, its_object.fewer h, apart.counts h, once h);
  }

  pub own : Stay row.before.pictured.picture (Some m.root) m.led_to.stands.root
  own = (own_owner p x.image path m.place l start.0 start.1 its there.2 still, origin_apart path.origin m.origin_far l.begins)

  abbrev pub side_moving : Moving constants others i places x.image y.image row.after.pictured row.before.plain
  side_moving = moving constants others moves i m.no_names m.no_uniques x y row places places_are

  tables : row.after.pictured.picture.table ≡ row.before.pictured.picture.table
  tables = side_moving.tables

  pub owned_still : (n : ℕ) (c a : Root) → root_of_register row.before.plain.registers row.before.pictured.owned n ≡ Some c → root_of_register row.after.plain.registers row.after.pictured.owned n ≡ Some a
      → (Some m.root ≡ Some c → ⊥) × HasFace c a
  owned_still n c a e f =
      let j = of_register row.before.plain.registers p.owned n c e in
      let k = of_register row.after.plain.registers q.owned n a f in
      let apart_from = owned_apart n c (m.far n a f) e in
      (apart_from, plain_face p y.image path m.place l start.0 start.1 its there.2 moved Stays kept own q tables c a (owned_in p c j, apart_from) (owned_plain p c j) (owned_plain q a k) (row.owners_stay n c a e f) (owned_in q a k))

  -- blocks of the place are neither of the index nor of frozen objects
  pub its_fewer : (h : ℕ) → times h there.1 ≤ times h apart.owners
  its_fewer h = omega (arith, its_within p x.image path m.place l start.0 start.1 its there.2 still h, its_owned p x.image path m.place l start.0 start.1 its there.2 still h)

  -- nor of the object
  pub both_fewer : (h : ℕ) → times h there.1 + times h its_object.its ≤ times h apart.owners
  both_fewer h =
      let around_place = place_apart p x.image path m.place l start.0 start.1 its there.2 still in
      let both = two_owners x.image p.picture h apart.holds_owners l.root m.root own.0 (owned_in p m.root was_owned) (λ e. own.1 (ap (λ (z : Root). Some z) (sym e))) around_place.holds_it its_object.holds_it in
      omega (arith, both, its_within p x.image path m.place l start.0 start.1 its there.2 still h)

  pub root_payload : (h : ℕ) → times h (block_of m.root.at ∷ []) ≤ times h its_object.its
  root_payload h =
      let plain = owned_plain p m.root was_owned in
      let at : payload_of m.root ≡ m.root.at = (let e = ap length plain.no_words in omega (arith, e)) in
      let all = ap (times h) its_object.holds_it.blocks_are ∙ times-append h (block_of (payload_of m.root) ∷ []) its_object.holds_it.inside in
      omega (arith, all, ap (λ n. times h (block_of n ∷ [])) at)

  -- the value of the object
  pub held_root : (v : Value) × (inside : List ℕ) × Holds x.image row.before.pictured.picture.table (object_at m.root.at m.root.type) v inside × (m.root.values ≡ cons v nil)
  held_root =
      let plain = owned_plain p m.root was_owned in
      let before : HoldsEach x.image p.picture.table (object_at m.root.at m.root.type ∷ []) (cons plain.value nil) its_object.holds_it.inside =
      subst (λ vs. HoldsEach x.image p.picture.table (items p.picture.table m.root.at m.root.type (count vs)) vs its_object.holds_it.inside) plain.values_are its_object.holds_it.values in
      let one = first_held before in
      (plain.value, one.0, one.1, plain.values_are)
    where
      first_held : {k : Place} {u : Value} {xs : List ℕ} → HoldsEach x.image row.before.pictured.picture.table (k ∷ []) (cons u nil) xs → (ys : List ℕ) × Holds x.image row.before.pictured.picture.table k u ys
      first_held (holds_more {blocks = ys} h hs) = (ys, h)

  -- its shared cells
  pub root_cells : AllByRecursion (IsBelow (word x.image next_word) row.before.pictured.picture.frozen) (names_each m.root.values)
  root_cells = cells_of (IsBelow (word x.image next_word) p.picture.frozen) (owners_in p.picture) m.root p.counted.counted.named (owned_in p m.root was_owned)

  -- shared cells of all other objects
  pub within : (n : ℕ) (fs : List Frozen) → ((z : Place) → IsBelow (word x.image next_word) row.before.pictured.picture.frozen z → IsBelow n fs z)
      → ((w : Value) (news : List ℕ) → Holds y.image row.before.pictured.picture.table m.place w news → AllByRecursion (IsBelow n fs) (names_in w))
      → (a : Root) → IsAmong a (owners_in row.after.pictured.picture) → AllByRecursion (IsBelow n fs) (names_each a.values)
  within n fs lift cells = each_owned q (λ a. AllByRecursion (IsBelow n fs) (names_each a.values)) (λ name a e. (
      let c = named_was side_moving name a e in
      let j = (looked_up name c.0 p.picture.names c.1).0 in
      stayed c.0 a (in_names p c.0 j, name_apart c.0 j) c.2 (in_names q a (looked_up name a q.picture.names e).0))) (λ T a e. (
      let c = unique_was side_moving T a e in
      let j = of_type p.picture.uniques T c.0 c.1 in
      stayed c.0 a (in_uniques p c.0 j, unique_apart c.0 j) c.2 (in_uniques q a (of_type q.picture.uniques T a e))))
      (λ a j. stayed a a (others_in p a j, loose_apart a (among_left a others seat.before j)) (same_face a) (others_in q a j)) (λ n a e. owned n a e (root_of_register row.before.plain.registers p.owned n) refl)
    where
      stayed : (c a : Root) → Stay row.before.pictured.picture (Some m.root) c → HasFace c a → IsAmong a (owners_in row.after.pictured.picture) → AllByRecursion (IsBelow n fs) (names_each a.values)
      stayed c a j face k = cells_within p y.image path m.place l start.0 start.1 its there.2 moved Stays kept own q tables n fs lift cells c a j face k

      owned : (r : ℕ) (a : Root) → root_of_register row.after.plain.registers row.after.pictured.owned r ≡ Some a → (o : Option Root) → root_of_register row.before.plain.registers row.before.pictured.owned r ≡ o
          → AllByRecursion (IsBelow n fs) (names_each a.values)
      owned r a e None f = absurd (m.none_came r a f e)
      owned r a e (Some c) f =
          let k = owned_still r c a f e in
          stayed c a (owned_in p c (of_register row.before.plain.registers p.owned r c f), k.0) k.1 (owned_in q a (of_register row.after.plain.registers q.owned r a e))

  pub whole : AllByRecursion (KeepsBlock x.image y.image) row.before.pictured.held.index_blocks
  whole = index_whole p y.image path m.place l start.0 start.1 its there.2 moved Stays kept own

  -- if the blocks of the index are still allocated
  abbrev pub moved_side : ((h : ℕ) → 1 ≤ times h row.before.pictured.held.index_blocks → 1 ≤ times h (positions (live y.image))) → MovedSide constants others i places x.image y.image row.after.pictured m.place m.form row.before.plain
  moved_side lives = record {
    move = side_moving;
    led_to = m.led_to;
    value = there.0;
    its = there.1;
    holds_it = there.2;
    moved = its_object.its;
    gone = Some m.root;
    kept = kept;
    own = own;
    name_stays = name_apart;
    unique_stays = unique_apart;
    other_stays = λ c j. loose_apart c (among_left c others seat.before j);
    owned_stays = owned_still;
    index_back = nodes_before x.image y.image row.before.pictured.picture row.after.pictured.picture row.before.pictured.held row.after.pictured.held side_moving.kinds whole lives
        (named_as_many row.after.pictured.picture.names row.before.pictured.picture.names row.after.pictured.held.laid_out.names.ascending row.before.pictured.held.laid_out.names.ascending side_moving.names);
    index_whole = whole;
  }
