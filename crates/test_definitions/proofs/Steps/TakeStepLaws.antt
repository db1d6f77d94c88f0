-- Two situations that clients can't tell apart stay so after TAKE.
use Rattle.std.specs.Prelude.{ℤ, pos}
use Rattle.std.proofs.Common.{◌≡◌, ℕ, ◌≤◌, ◌⊎◌, inl, inr, Bool, List, [], ◌∷◌, ◌++◌, length, Option, Some, None, option_map, refl, sym, ap, ◌∙◌, subst}
use Rattle.std.specs.List.{AllByRecursion}
use Rattle.seg_spec.specs.Bytes.{word}
use Rattle.seg_spec.specs.Header.{allocator_word, next_word}
use Rattle.seg_spec.specs.Pointer.{target}
use Rattle.seg_spec.specs.Types.{Form, Table, form_at}
use Rattle.seg_spec.specs.Value.{Value, Values, nil, cons, count, value_at, with_value_at, Empty}
use Rattle.seg_spec.specs.Heap.{live}
use Rattle.seg_spec.specs.Block.{KeepsBlock}
use Rattle.seg_spec.specs.Reads.{Place, Holds, HoldsEach, holds_none, holds_more, items}
use Rattle.seg_spec.specs.Parts.{Persists, persist_none, persist_more}
use Rattle.seg_spec.specs.Index.{Root, root_named, root_of_type}
use Rattle.seg_spec.specs.Frozen.{Frozen}
use Rattle.seg_spec.specs.Sound.{IsPlain, times, positions}
use Rattle.seg_spec.specs.Shared.{names_in, names_each, IsBelow, replaced}
use Rattle.seg_spec.specs.Counting.{owners_in}
use Rattle.seg_spec.specs.Demand.{after_asks, after_gives}
use Rattle.seg_spec.specs.Spending as spending
use Rattle.seg_spec.specs.Roots.{HasFace}
use Rattle.seg_spec.proofs.Values.OneValueLaws.{Holds-one, HoldsEach-one}
use Rattle.seg_spec.proofs.Values.PersistenceLaws.{Holds-persists}
use Rattle.client_spec.specs.declared.table.Operation.{Operation}
use Rattle.client_spec.specs.Syntax.{Constant, Instruction}
use Rattle.client_spec.specs.Machine.{◌>>=◌, Origin, Path, Register, State, register, set_register, owned_by, at_origin, path_value, put_origin, put_at}
use Rattle.client_spec.specs.Answer.{Answer, Outcome, success, null_or_none, answer_number, path_of, path_form, owned_type, content_in}
use Rattle.client_spec.specs.Effect.{effect, take_content}
use Rattle.client_spec.specs.Pictures.{root_of_register, Pictures, LeadsInImage, root_at, meaning_in}
use Rattle.client_spec.specs.Asks.{AsksBy, ReturnsBy, ChangesOnSuccess, GrantsAsks}
use Rattle.client_spec.specs.Ties.{Spot, spot_of, KeepsBut, places_of, object_at, OfPlace, TouchesBy, TakesContent, ComesBy, Changes, keeps_image}
use Rattle.client_spec.specs.OnImages.{Move, Situation, RowWith, RowOn}
use Rattle.client_spec.proofs.TypedStates.StateLaws.{origin_put}
use Rattle.client_spec.proofs.TypedStates.PutLaws.{put_at_is}
use Rattle.client_spec.proofs.TypedStates.ValueLaws.{Some_inj, bind_some}
use Rattle.client_spec.proofs.Unfolded.UnfoldedStateLaws.{origin_same, unfolded_owned, value_same}
use Rattle.client_sim.proofs.Objects.PictureLaws.{looks_of, begins_in}
use Rattle.client_sim.proofs.Places.RootPutLaws.{root_for}
use Rattle.test_definitions.specs.Alike.{AlikeAt, AlikeEach, AlikeRoot, none_alike, more_alike, StandAlike, StaysAlike}
use Rattle.test_definitions.proofs.ValueChanges.AddedValueLaws.{put_there}
use Rattle.test_definitions.proofs.Alike.AlikeRootLaws.{both, begun, of_register, of_type}
use Rattle.test_definitions.proofs.Rows.AnsweredRowLaws.{from_answer, free_answer}
use Rattle.test_definitions.proofs.ValueChanges.ApartPlaceLaws.{KeepsApart, index_whole, now_there}
use Rattle.test_definitions.proofs.Rows.ApartRowLaws.{nodes_before, frozen_were, faced_values, plain_face, cells_below}
use Rattle.test_definitions.proofs.ValueChanges.ChangedPlaceLaws.{own_owner, value_below}
use Rattle.test_definitions.proofs.Rows.ChangedPlaceRowLaws.{CellsWithin, cells_of}
use Rattle.test_definitions.proofs.Steps.DropStepLaws.{owner_of}
use Rattle.test_definitions.proofs.Frozen.FrozenApartLaws.{owner_in_roots}
use Rattle.test_definitions.proofs.Frozen.FrozenOrderLaws.{IsOneOf}
use Rattle.test_definitions.proofs.Rows.KeptRowLaws.{one, unchanged_alike, plain_before}
use Rattle.test_definitions.proofs.Alike.ListedRootLaws.{named_as_many}
use Rattle.test_definitions.proofs.Alike.MatchedPictureLaws.{Matched, some_too}
use Rattle.test_definitions.proofs.Rows.MovedObjectLaws.{take_keeps}
use Rattle.test_definitions.proofs.Steps.MovedStepLaws.{Moving, moving, named_was, unique_was, Stay, MovedSide, in_names, in_uniques, others_in, owned_in, owned_plain, each_owned, same_face, match_owned, sides_alike}
use Rattle.test_definitions.proofs.Rows.OnePlaceLaws.{RefersTo, led_in_both, led_one}
use Rattle.test_definitions.proofs.Rows.OneRow.{itself}
use Rattle.test_definitions.proofs.ValueChanges.OwnCellLaws as cells
use Rattle.test_definitions.proofs.Rows.OwnerRegisterLaws.{set_cases, owner_seen, root_seen}
use Rattle.test_definitions.proofs.Rows.OwningRegisterLaws.{changes_names, changes_uniques}
use Rattle.test_definitions.proofs.Rows.PathOriginLaws.{at_place}
use Rattle.test_definitions.proofs.ValueChanges.PersistAlikeLaws.{Fits, persist_each_alike}
use Rattle.test_definitions.proofs.Rows.PlaceRowLaws.{refers_to, form_there, path_then}
use Rattle.test_definitions.proofs.Steps.PlaceStepLaws.{nothing_changes}
use Rattle.test_definitions.proofs.Frozen.ReachedFrozenLaws.{StandsAt}
use Rattle.test_definitions.proofs.Alike.RootMemberLaws.{IsAmong, index_live, looked_up, owns}

-- ---- the row

-- the value that was at the path, and its content, which a register got
record TakeResult (before after : State) (a : ℕ) (p : Path) (T : ℕ) : Type 0 where
  old : Value
  old_is : path_value before p ≡ Some old
  content : Value
  free : owned_by (register (put_at before p Empty) a) ≡ None
  then_is : after ≡ set_register (put_at before p Empty) a (Register.Owner content T)

take_row : (constants : List Constant) (o : Operation) → o ≡ Operation.Take → (a b c : ℕ) (number : ℤ) (room : Bool) (s t : State) → ◌≡◌ {A = Outcome} (effect constants o a b c number room s) (Some (success, t)) → (p : Path) (T : ℕ)
    → path_of s b ≡ Some p → path_form s p ≡ Some (Form.own T) → TakeResult s t a p T
unfolding effect
take_row constants o is a b c number room s t e p T path form =
    let f : ◌≡◌ {A = Outcome} (effect constants Operation.Take a b c number room s) (Some (success, t)) = subst (λ k. ◌≡◌ {A = Outcome} (effect constants k a b c number room s) (Some (success, t))) is e in
    let then_rest : Path → ℕ → Outcome = λ p T. (path_value s p >>= content_in) >>= λ inside. take_content a p T inside s in
    let g : then_rest p T ≡ Some (success, t) = sym (ap (λ (o : Option Path). o >>= λ p. (path_form s p >>= owned_type) >>= λ T. then_rest p T) path ∙ ap (λ (k : Option Form). (k >>= owned_type) >>= λ T. then_rest p T) form) ∙ f in
    let h = bind_some (path_value s p >>= content_in) (λ inside. take_content a p T inside s) (success, t) g in
    let v = bind_some (path_value s p) content_in h.0 h.1 in
    go v.0 v.1 h.0 h.2
  where
    go : (old : Value) → path_value s p ≡ Some old → (inside : Option Value) → ◌≡◌ {A = Outcome} (take_content a p T inside s) (Some (success, t)) → TakeResult s t a p T
    go old seen None k = absurd (let codes : null_or_none ≡ success = (from_answer null_or_none success a (Register.Int (pos (answer_number null_or_none))) s t k).0 in cc)
    go old seen (Some v) k = record {
      old = old;
      old_is = seen;
      content = v;
      free = free_answer success success a (Register.Owner v T) (put_at s p Empty) t k;
      then_is = (from_answer success success a (Register.Owner v T) (put_at s p Empty) t k).1;
    }

-- a register that owns an object after a put owned one of that type before
pub owner_before : (s : State) (p : Path) (old new : Value) → path_value s p ≡ Some old → (n : ℕ) (v : Value) (T : ℕ) → owned_by (register (put_at s p new) n) ≡ Some (v, T) → (u : Value) × (owned_by (register s n) ≡ Some (u, T))
owner_before s p old new e n v T is =
    let a = bind_some (at_origin s p.origin) (λ (found : Value × ℕ). value_at found.0 p.selectors) old e in
    let whole = with_value_at p.selectors new a.0.0 in
    let here : at_origin (put_origin s p.origin whole) (Origin.Owned n) ≡ Some (v, T) = ap (λ (z : State). at_origin z (Origin.Owned n)) (sym (put_at_is s p a.0.0 new a.0.1 a.1)) ∙ is in
    elim (origin_put s p.origin a.0.0 whole a.0.1 a.1 (Origin.Owned n)) [
      | inl k ↦ (
        a.0.0,
        (
            let both : ◌≡◌ {A = Value × ℕ} (whole, a.0.1) (v, T) = Some_inj (sym k.1 ∙ here) in
            ap (at_origin s) (sym k.0) ∙ a.1 ∙ ap (λ (z : Value × ℕ). Some (a.0.0, z.1)) both),
      )
      | inr k ↦ (v, sym k ∙ here)
    ]

pub mapped_some : {A B : Type 0} (f : A → B) (o : Option A) (y : B) → option_map f o ≡ Some y → (x : A) × (o ≡ Some x)
mapped_some f None y e = cc
mapped_some f (Some x) y e = (x, refl)

-- ---- one image

-- the object that was taken
record TakenObject (i : Instruction) {others : List Root} {s t : State} {bytes new : List ℕ} (before : Pictures others s bytes) (after : Pictures others t new) (place : Place) (T : ℕ) : Type 0 where
  object : ℕ
  pointed_to : target bytes place.at ≡ Some object
  stays : Persists bytes new s.types (object_at object T) (object_at object T)
  null : target new place.at ≡ None
  came : (n : ℕ) (d : Root) → root_of_register s.registers before.owned n ≡ None → root_of_register t.registers after.owned n ≡ Some d → (d.at ≡ object) × (d.type ≡ T)

-- a row that takes an object, for its plain state before
record TakeRow (constants : List Constant) (others : List Root) (i : Instruction) (places bytes new : List ℕ) {t : State} (after : Pictures others t new) (s : State) : Type 0 where
  place : Place
  type : ℕ
  side : MovedSide constants others i places bytes new after place (Form.own type) s
  none_gone : side.gone ≡ None
  were : (f : Frozen) → IsOneOf f after.picture.frozen → StandsAt f.at side.move.before.picture.frozen
  taken : TakenObject i side.move.before after place type

module _ (constants : List Constant) (others : List Root) (moves : List Move) (i : Instruction) (is : i.operation ≡ Operation.Take) (x y : Situation) (row : RowOn constants others moves i x success y) (places : List ℕ)
    (places_are : x.owned ≡ places) where
  abbrev p : Pictures others row.before.plain x.image
  p = row.before.pictured

  abbrev q : Pictures others row.after.plain y.image
  q = row.after.pictured

  take : TakesContent constants i row.before.pictured y.image
  take = take_keeps constants others moves i x y row is

  found : RefersTo row.before.plain i.b
  found = refers_to constants i x.state x.image row.before success y.state row.row (ap at_place is)

  abbrev path : Path
  path = take.led_to.path

  abbrev l : LeadsInImage row.before.pictured take.led_to.path take.place
  l = take.led_to.stands

  start : (f : Value × ℕ) × (at_origin row.before.plain take.led_to.path.origin ≡ Some f)
  start = found take.led_to.path take.led_to.path_is

  there : (v : Value) × (its : List ℕ) × Holds x.image row.before.pictured.picture.table take.place v its
  there = (let b = led_in_both constants i (itself others (places_of p.owned) x.image p refl) p p refl refl found take.place (Form.own take.type) take.led_to in (b.value, b.its, b.holds_it))

  abbrev its : List ℕ
  its = there.1

  form : form_at row.before.pictured.picture.table take.place.type ≡ Some (Form.own take.type)
  form = ap (λ (t : Table). form_at t take.place.type) p.types ∙ take.led_to.form_is

  around : KeepsBut x.image y.image (spot_of row.before.pictured.picture.table take.place) there.1
  around = by row.ties.changes
    where
      by : (y.image ≡ x.image) ⊎ Changes constants i row.before.pictured y.image → KeepsBut x.image y.image (spot_of row.before.pictured.picture.table take.place) there.1
      by (inl e) = nothing_changes x.image y.image p.picture p.held (spot_of p.picture.table take.place) its e
      by (inr c) =
          let o : OfPlace constants i row.before.pictured c.spot c.own = subst (λ op. TouchesBy constants i row.before.pictured op c.spot c.own) is c.touches in
          let one_place : take.place ≡ o.place = (led_one constants i (itself others (places_of p.owned) x.image p refl) p p refl refl found take.place o.place (Form.own take.type) o.form take.led_to o.led_to).0 in
          let types = row.before.plain.types in
          let there_is = subst (λ (t : Table). Holds x.image t take.place o.value c.own) (sym p.types) (subst (λ (z : Place). Holds x.image types z o.value c.own) (sym one_place) o.holds) in
          let same : c.own ≡ its = (Holds-one x.image p.picture.table there_is there.2).1 in
          let kept : KeepsBut x.image y.image (spot_of types o.place) c.own = subst (λ (z : Spot). KeepsBut x.image y.image z c.own) o.spot_is c.kept in
          let here = subst (λ (t : Table). KeepsBut x.image y.image (spot_of t take.place) c.own) (sym p.types) (subst (λ (z : Place). KeepsBut x.image y.image (spot_of types z) c.own) (sym one_place) kept) in
          subst (KeepsBut x.image y.image (spot_of p.picture.table take.place)) same here

  abbrev Stays : Root → Type 0
  Stays = Stay row.before.pictured.picture None

  kept : KeepsApart row.before.pictured y.image take.place there.1 [] (Stay row.before.pictured.picture None)
  kept = record {
    around = λ h some none none_moved none_frozen. around h some none;
    owner = λ c k. k.0;
    beside = λ c k blocks holds h some. refl;
    index_beside = λ h some. refl;
  }

  never : (c : Root) → ◌≡◌ {A = Option Root} None (Some c) → ⊥
  never c e = cc

  own : Stay row.before.pictured.picture None take.led_to.stands.root
  own = (
    own_owner p x.image path take.place l start.0 start.1 its there.2 (λ h some none none_frozen. nothing_changes x.image x.image p.picture p.held (spot_of p.picture.table take.place) its refl h some none),
    never l.root,
  )

  abbrev side_moving : Moving constants others i places x.image y.image row.after.pictured row.before.plain
  side_moving = moving constants others moves i (ap changes_names is) (ap changes_uniques is) x y row places places_are

  live_same : live y.image ≡ live x.image
  live_same =
      let g : GrantsAsks constants i row.before.pictured y.image = subst (λ o. ChangesOnSuccess constants i row.before.pictured o y.image) is row.blocks in
      let asks : g.asks ≡ [] = subst (λ o. AsksBy constants i row.before.pictured o g.asks) is g.asked in
      let gives : g.gives ≡ [] = subst (λ o. ReturnsBy constants i row.before.pictured o g.gives) is g.returned in
      let blocks : live x.image ≡ g.blocks = (let e : Some (live x.image) ≡ Some g.blocks = ap (after_asks (word x.image allocator_word) (live x.image) (length x.image)) (sym asks) ∙ g.granted in cc) in
      g.left ∙ (λ j. after_gives (sym blocks j) (spending.replaced (word x.image allocator_word) (live x.image) (length x.image) (asks j) ++ gives j))

  tables : row.after.pictured.picture.table ≡ row.before.pictured.picture.table
  tables = side_moving.tables

  -- a register that owned an object
  still_faced : (n : ℕ) (c a : Root) → root_of_register row.before.plain.registers row.before.pictured.owned n ≡ Some c → root_of_register row.after.plain.registers row.after.pictured.owned n ≡ Some a → HasFace c a
  still_faced n c a e f =
      let j = of_register row.before.plain.registers p.owned n c e in
      let k = of_register row.after.plain.registers q.owned n a f in
      plain_face p y.image path take.place l start.0 start.1 its there.2 [] Stays kept own q tables c a (owned_in p c j, never c) (owned_plain p c j) (owned_plain q a k) (row.owners_stay n c a e f) (owned_in q a k)

  -- ---- the state afterwards

  taken : TakeResult x.state y.state i.a take.led_to.path take.type
  taken = by row.row
    where
      by : RowWith constants i x.image x.state success y.state → TakeResult x.state y.state i.a take.led_to.path take.type
      by (inl (room, e)) = take_row constants i.operation is i.a i.b i.c i.number room x.state y.state e path take.type (path_then constants i x.state x.image row.before success y.state row.row path take.led_to.path_is)
          (form_there constants i x.state x.image row.before success y.state row.row (ap at_place is) take.place (Form.own take.type) take.led_to)
      by (inr (w, full)) = absurd (let f = w.code in cc)

  abbrev then_owns : Register
  then_owns = Register.Owner taken.content take.type

  came : (n : ℕ) (d : Root) → root_of_register row.before.plain.registers row.before.pictured.owned n ≡ None → root_of_register row.after.plain.registers row.after.pictured.owned n ≡ Some d → (d.at ≡ take.object) × (d.type ≡ take.type)
  came n d none e = (at, type)
    where
      at : d.at ≡ take.object
      at =
          let c : ComesBy constants i row.before.pictured Operation.Take d.at = subst (λ o. ComesBy constants i row.before.pictured o d.at) is (row.owners_come n d none e) in
          let one_place : take.place ≡ c.0 = (led_one constants i (itself others (places_of p.owned) x.image p refl) p p refl refl found take.place c.0 (Form.own take.type) c.1 take.led_to c.2).0 in
          let both : Some d.at ≡ Some take.object = sym c.3 ∙ ap (λ (z : Place). target x.image z.at) (sym one_place) ∙ take.pointed_to in
          cc

      seen : (v : Value) × (register y.state n ≡ Register.Owner (replaced (meaning_in (word y.image next_word) row.after.pictured.picture) v) d.type) × (d.values ≡ cons v nil)
      seen = owner_seen y.state y.image row.after n d e

      same : register y.state n ≡ register (set_register (put_at x.state take.led_to.path Empty) i.a then_owns) n
      same = ap (λ (s : State). register s n) taken.then_is

      type : d.type ≡ take.type
      type = elim (set_cases (put_at x.state path Empty).registers i.a n then_owns) [
        | inl k ↦ (let both : Register.Owner (replaced (meaning_in (word y.image next_word) q.picture) seen.0) d.type ≡ Register.Owner taken.content take.type = sym seen.1 ∙ same ∙ k.1 in cc)
        | inr k ↦ absurd (
            let owner : owned_by (register (put_at x.state path Empty) n) ≡ Some (replaced (meaning_in (word y.image next_word) q.picture) seen.0, d.type) = ap owned_by (sym k ∙ sym same ∙ seen.1) in
            let before = owner_before x.state path taken.old Empty taken.old_is n (replaced (meaning_in (word y.image next_word) q.picture) seen.0) d.type owner in
            let c = root_seen x.state x.image row.before n before.0 d.type (owner_of (register x.state n) before.0 d.type before.1) in
            let f : None ≡ Some c.0 = sym none ∙ c.1 in
            cc)
      ]

  -- ---- the cell is null

  record RootAfter (o : Origin) : Type 0 where
    root : Root
    owner : IsAmong root (owners_in row.after.pictured.picture)
    face : HasFace take.led_to.stands.root root
    begins_too : root_at row.after.pictured o ≡ Some (root, take.led_to.stands.item)

  root_after : (o : Origin) → root_at row.before.pictured o ≡ Some (take.led_to.stands.root, take.led_to.stands.item) → (u : Value × ℕ) → at_origin y.state o ≡ Some u → RootAfter o
  root_after (Origin.Name name n) e u f =
      let c = begun (root_named p.picture.names name) n l.root l.item e in
      let a = some_too (root_named p.picture.names name) (root_named q.picture.names name) (sym (side_moving.names name)) l.root c.0 in
      record {
        root = a.0;
        owner = in_names q a.0 (looked_up name a.0 q.picture.names a.1).0;
        face = row.objects_stay.names name l.root a.0 c.0 a.1;
        begins_too = ap (option_map {T = Root} {U = Root × ℕ} (λ (root : Root). (root, n))) a.1 ∙ ap (λ m. Some (a.0, m)) c.1;
      }
  root_after (Origin.Unique T) e u f =
      let c = begun (root_of_type p.picture.uniques T) 0 l.root l.item e in
      let a = some_too (root_of_type p.picture.uniques T) (root_of_type q.picture.uniques T) (sym (side_moving.uniques T)) l.root c.0 in
      record {
        root = a.0;
        owner = in_uniques q a.0 (of_type q.picture.uniques T a.0 a.1);
        face = row.objects_stay.uniques T l.root a.0 c.0 a.1;
        begins_too = ap (option_map {T = Root} {U = Root × ℕ} (λ (root : Root). (root, 0))) a.1 ∙ ap (λ m. Some (a.0, m)) c.1;
      }
  root_after (Origin.Owned n) e u f =
      let c = begun (root_of_register row.before.plain.registers p.owned n) 0 l.root l.item e in
      let a = root_seen y.state y.image row.after n u.0 u.1 (owner_of (register y.state n) u.0 u.1 f) in
      record {
        root = a.0;
        owner = owned_in q a.0 (of_register row.after.plain.registers q.owned n a.0 a.1);
        face = still_faced n l.root a.0 c.0 a.1;
        begins_too = ap (option_map {T = Root} {U = Root × ℕ} (λ (root : Root). (root, 0))) a.1 ∙ ap (λ m. Some (a.0, m)) c.1;
      }

  null : target y.image take.place.at ≡ None
  null =
      let m = meaning_in (word y.image next_word) q.picture in
      let seen_empty : path_value y.state path ≡ Some Empty = ap (λ (s : State). path_value s path) taken.then_is ∙ put_there x.state path taken.old Empty i.a then_owns taken.old_is taken.free in
      let u = bind_some (at_origin y.state path.origin) (λ (found : Value × ℕ). value_at found.0 path.selectors) Empty seen_empty in
      let r = root_after path.origin l.begins u.0 u.1 in
      let v = mapped_some (unfolded_owned m) (at_origin row.after.plain path.origin) u.0 (sym (origin_same m row.after.plain path.origin) ∙ sym (ap (λ (s : State). at_origin s path.origin) row.after.trees) ∙ u.1) in
      let item = (root_for (looks_of q) path.origin r.root l.item v.0.0 v.0.1 (sym (begins_in q path.origin) ∙ r.begins_too) v.1).item_is in
      let fv = faced_values p y.image path take.place l start.0 start.1 its there.2 [] Stays kept own q tables l.root r.root r.face r.owner in
      let n = now_there p y.image path take.place l start.0 start.1 its there.2 [] Stays kept own fv.1 fv.2 in
      let there_is : path_value row.after.plain path ≡ Some n.now = ap (λ (o : Option (Value × ℕ)). o >>= λ (z : Value × ℕ). value_at z.0 path.selectors) v.1 ∙ n.reached v.0.0 item in
      let read : replaced m n.now ≡ Empty = Some_inj (sym (ap (λ (s : State). path_value s path) row.after.trees ∙ value_same m row.after.plain path n.now there_is) ∙ seen_empty) in
      cells.null_in y.image p.picture.table take.type m form n.holds_now read

  -- ---- shared cells

  abbrev Below : Place → Type 0
  Below = IsBelow (word x.image next_word) row.before.pictured.picture.frozen

  within_place : CellsWithin row.before.pictured y.image take.place
  within_place v news h = subst (AllByRecursion Below) (sym (ap names_in (cells.empty_in y.image p.picture.table take.type form null h) ∙ cells.empty_names)) tt

  content : cells.Owned x.image row.before.pictured.picture.table take.object take.type there.0 there.1
  content = cells.owned_in x.image p.picture.table take.type take.object form take.pointed_to there.2

  content_below : AllByRecursion Below (names_each (cons content.content nil))
  content_below =
      let root = cells_of Below (owners_in p.picture) l.root p.counted.counted.named own.0 in
      let below = value_below p x.image path take.place l start.0 start.1 its there.2 (λ h some none none_frozen. nothing_changes x.image x.image p.picture p.held (spot_of p.picture.table take.place) its refl h some none)
      (word x.image next_word) p.picture.frozen root in
      subst (AllByRecursion Below) (ap names_in content.value_is ∙ cells.owned_names content.content) below

  -- the object that was taken has the value that it had
  came_values : (n : ℕ) (d : Root) → root_of_register row.before.plain.registers row.before.pictured.owned n ≡ None → root_of_register row.after.plain.registers row.after.pictured.owned n ≡ Some d → d.values ≡ cons content.content nil
  came_values n d none e =
      let k = came n d none e in
      let j = of_register row.after.plain.registers q.owned n d e in
      let plain = owned_plain q d j in
      let o = owns y.image q.picture q.held d q.held.roots (owner_in_roots q.picture d (owned_in q d j)) in
      let stays = subst (λ (t : Table). Persists x.image y.image t (object_at take.object take.type) (object_at take.object take.type)) (sym p.types ∙ sym tables) take.stays in
      let was = subst (λ (t : Table). Holds x.image t (object_at take.object take.type) content.content content.inside) (sym tables) content.holds_content in
      let still = holds_more (Holds-persists x.image y.image q.picture.table was stays) holds_none in
      let here : HoldsEach y.image q.picture.table (object_at take.object take.type ∷ []) d.values o.holds_it.inside =
      subst (λ ps. HoldsEach y.image q.picture.table ps d.values o.holds_it.inside) (λ m. items q.picture.table (k.0 m) (k.1 m) (ap count plain.values_are m)) o.holds_it.values in
      (HoldsEach-one y.image q.picture.table here still).0

  within : (a : Root) → IsAmong a (owners_in row.after.pictured.picture) → AllByRecursion Below (names_each a.values)
  within = each_owned q (λ a. AllByRecursion Below (names_each a.values)) (λ name a e. (
      let c = named_was side_moving name a e in
      stayed c.0 a (in_names p c.0 (looked_up name c.0 p.picture.names c.1).0) c.2 (in_names q a (looked_up name a q.picture.names e).0))) (λ T a e. (
      let c = unique_was side_moving T a e in
      stayed c.0 a (in_uniques p c.0 (of_type p.picture.uniques T c.0 c.1)) c.2 (in_uniques q a (of_type q.picture.uniques T a e))))
      (λ a j. stayed a a (others_in p a j) (same_face a) (others_in q a j)) (λ n a e. owned n a e (root_of_register row.before.plain.registers p.owned n) refl)
    where
      stayed : (c a : Root) → IsAmong c (owners_in row.before.pictured.picture) → HasFace c a → IsAmong a (owners_in row.after.pictured.picture) → AllByRecursion Below (names_each a.values)
      stayed c a j face k = cells_below p y.image path take.place l start.0 start.1 its there.2 [] Stays kept own q tables within_place c a (j, never c) face k

      owned : (n : ℕ) (a : Root) → root_of_register row.after.plain.registers row.after.pictured.owned n ≡ Some a → (o : Option Root) → root_of_register row.before.plain.registers row.before.pictured.owned n ≡ o
          → AllByRecursion Below (names_each a.values)
      owned n a e None f = subst (λ vs. AllByRecursion Below (names_each vs)) (sym (came_values n a f e)) content_below
      owned n a e (Some c) f = stayed c a (owned_in p c (of_register row.before.plain.registers p.owned n c f)) (still_faced n c a f e) (owned_in q a (of_register row.after.plain.registers q.owned n a e))

  were : (f : Frozen) → IsOneOf f row.after.pictured.picture.frozen → StandsAt f.at row.before.pictured.picture.frozen
  were = frozen_were p q row.frozen_kept within

  whole : AllByRecursion (KeepsBlock x.image y.image) row.before.pictured.held.index_blocks
  whole = index_whole p y.image path take.place l start.0 start.1 its there.2 [] Stays kept own

  abbrev take_side : MovedSide constants others i places x.image y.image row.after.pictured take.place (Form.own take.type) row.before.plain
  take_side = record {
    move = side_moving;
    led_to = take.led_to;
    value = there.0;
    its = there.1;
    holds_it = there.2;
    moved = [];
    gone = None;
    kept = kept;
    own = own;
    name_stays = λ c j. never c;
    unique_stays = λ c j. never c;
    other_stays = λ c j. never c;
    owned_stays = λ n c a e f. (never c, still_faced n c a e f);
    index_back = nodes_before x.image y.image p.picture q.picture p.held q.held side_moving.kinds whole (λ h some. subst (λ bs. 1 ≤ times h (positions bs)) (sym live_same) (index_live x.image p.picture p.held h some))
        (named_as_many q.picture.names p.picture.names q.held.laid_out.names.ascending p.held.laid_out.names.ascending side_moving.names);
    index_whole = whole;
  }

  take_there : TakeRow constants others i places x.image y.image row.after.pictured row.before.plain
  take_there = record {
    place = take.place;
    type = take.type;
    side = take_side;
    none_gone = refl;
    were = were;
    taken = record { object = take.object; pointed_to = take.pointed_to; stays = take.stays; null = null; came = came };
  }

-- ---- both images

module _ (constants : List Constant) (others : List Root) (moves : List Move) (i : Instruction) (is : i.operation ≡ Operation.Take) (x z y w : Situation) (stand : StandAlike others x z) (r : RowOn constants others moves i x success y)
    (q : RowOn constants others moves i z success w) where
  mine : TakeRow constants others i x.owned x.image y.image r.after.pictured r.before.plain
  mine = take_there constants others moves i is x y r x.owned refl

  theirs : TakeRow constants others i x.owned z.image w.image q.after.pictured r.before.plain
  theirs = subst (TakeRow constants others i x.owned z.image w.image q.after.pictured) (sym (plain_before constants others moves i x z y w success success stand r q)) (take_there constants others moves i is z w q x.owned stand.owned)

  refers : RefersTo r.before.plain i.b
  refers = found constants others moves i is x y r x.owned refl

  abbrev SideAt : Place → ℕ → Type 0
  SideAt place T = (side : MovedSide constants others i x.owned z.image w.image q.after.pictured place (Form.own T) r.before.plain) × (side.gone ≡ None) × TakenObject i side.move.before q.after.pictured place T

  same_place : (mine.place ≡ theirs.place) × (Form.own mine.type ≡ Form.own theirs.type)
  same_place = led_one constants i stand.images mine.side.move.before theirs.side.move.before mine.side.move.at theirs.side.move.at refers mine.place theirs.place (Form.own mine.type)
      (Form.own theirs.type) mine.side.led_to theirs.side.led_to

  -- the row of the second image, at the place of the first
  there_too : SideAt mine.place mine.type
  there_too =
      let types : theirs.type ≡ mine.type = (let e = same_place.1 in cc) in
      subst (λ (T : ℕ). SideAt mine.place T) types (subst (λ (k : Place). SideAt k theirs.type) (sym same_place.0) (theirs.side, theirs.none_gone, theirs.taken))

  abbrev table : Table
  table = mine.side.move.before.picture.table

  cell_form : form_at mine.side.move.before.picture.table mine.place.type ≡ Some (Form.own mine.type)
  cell_form = ap (λ (t : Table). form_at t mine.place.type) mine.side.move.before.types ∙ mine.side.led_to.form_is

  -- the object that was taken is the same in both images, and alike
  one_object : (there_too.2.object ≡ mine.taken.object) × AlikeAt x.image z.image mine.side.move.before.picture.table (object_at mine.taken.object mine.type)
  one_object = (
      let b = led_in_both constants i stand.images mine.side.move.before there_too.0.move.before mine.side.move.at there_too.0.move.at refers mine.place (Form.own mine.type) mine.side.led_to in
      cells.content_alike x.image z.image table mine.place mine.type cell_form mine.taken.object there_too.2.object mine.taken.pointed_to there_too.2.pointed_to mine.side.holds_it b.alike_at)

  taken_match : (n : ℕ) (a b : Root) → root_of_register r.before.plain.registers mine.side.move.before.owned n ≡ None → root_of_register r.after.plain.registers r.after.pictured.owned n ≡ Some a
      → root_of_register q.after.plain.registers q.after.pictured.owned n ≡ Some b → Matched r.after.pictured q.after.pictured a b
  taken_match n a b none e f = record {
    face = record {
      same_name = plain_b.no_name ∙ sym plain_a.no_name;
      same_words = plain_b.no_words ∙ sym plain_a.no_words;
      same_at = came_b.0 ∙ one_object.0 ∙ sym came_a.0;
      same_type = came_b.1 ∙ sym came_a.1;
      same_count = ap count plain_b.values_are ∙ sym (ap count plain_a.values_are);
    };
    again = again;
  }
    where
      came_a : (a.at ≡ mine.taken.object) × (a.type ≡ mine.type)
      came_a = mine.taken.came n a none e

      came_b : (b.at ≡ there_too.2.object) × (b.type ≡ mine.type)
      came_b = there_too.2.came n b (ap (λ rs. root_of_register r.before.plain.registers rs n) (sym (both stand.images mine.side.move.before there_too.0.move.before mine.side.move.at there_too.0.move.at).owned) ∙ none) f

      plain_a : IsPlain a
      plain_a = owned_plain r.after.pictured a (of_register r.after.plain.registers r.after.pictured.owned n a e)

      plain_b : IsPlain b
      plain_b = owned_plain q.after.pictured b (of_register q.after.plain.registers q.after.pictured.owned n b f)

      again : {vs ws : Values} {xs ys : List ℕ} → HoldsEach y.image r.after.pictured.picture.table (items r.after.pictured.picture.table a.at a.type (count a.values)) vs xs → AllByRecursion (Fits y.image) xs
          → HoldsEach w.image r.after.pictured.picture.table (items r.after.pictured.picture.table a.at a.type (count a.values)) ws ys → AllByRecursion (Fits w.image) ys → AlikeRoot y.image w.image r.after.pictured.picture.table a
      again {vs = vs} {ws = ws} {xs = xs} {ys = ys} h fits k fits_too =
          let U = r.after.pictured.picture.table in
          let object = mine.taken.object in
          let T = mine.type in
          let places : items U a.at a.type (count a.values) ≡ object_at object T ∷ [] = λ m. items U (came_a.0 m) (came_a.1 m) (ap count plain_a.values_are m) in
          let types : r.before.plain.types ≡ U = sym mine.side.move.before.types ∙ sym mine.side.move.tables in
          let alike_there = subst (λ (t : Table). AlikeAt x.image z.image t (object_at object T)) (sym mine.side.move.tables) one_object.1 in
          let stays = subst (λ (t : Table). Persists x.image y.image t (object_at object T) (object_at object T)) types mine.taken.stays in
          let stays_at = subst (λ (o : ℕ). Persists z.image w.image r.before.plain.types (object_at o T) (object_at o T)) one_object.0 there_too.2.stays in
          let stays_too = subst (λ (t : Table). Persists z.image w.image t (object_at object T) (object_at object T)) types stays_at in
          subst (AlikeEach y.image w.image U) (sym places) (persist_each_alike x.image y.image z.image w.image U (more_alike alike_there none_alike) (persist_more stays persist_none) (persist_more stays_too persist_none)
          (subst (λ ps. HoldsEach y.image U ps vs xs) places h) fits (subst (λ ps. HoldsEach w.image U ps ws ys) places k) fits_too)

  both_taken : StaysAlike others success success y w
  both_taken =
      sides_alike constants others moves i x z y w stand r q mine.place (Form.own mine.type) mine.side there_too.0 (there_too.1 ∙ sym mine.none_gone) refers
      (λ a b xs ys h fits k fits_too. cells.empty_alike y.image w.image table mine.place mine.type cell_form mine.taken.null there_too.2.null h k)
      (λ n a b e f. owned n a b e f (root_of_register r.before.plain.registers mine.side.move.before.owned n) refl) mine.were
    where
      owned : (n : ℕ) (a b : Root) → root_of_register r.after.plain.registers r.after.pictured.owned n ≡ Some a → root_of_register q.after.plain.registers q.after.pictured.owned n ≡ Some b → (o : Option Root)
          → root_of_register r.before.plain.registers mine.side.move.before.owned n ≡ o → Matched r.after.pictured q.after.pictured a b
      owned n a b e f None g = taken_match n a b g e f
      owned n a b e f (Some c) g = match_owned constants others moves i x z y w stand r q mine.place (Form.own mine.type) mine.side there_too.0 (there_too.1 ∙ sym mine.none_gone) refers
          (λ a b xs ys h fits k fits_too. cells.empty_alike y.image w.image table mine.place mine.type cell_form mine.taken.null there_too.2.null h k) n c a b g e f

pub take_alike : (constants : List Constant) (others : List Root) (moves : List Move) (i : Instruction) → i.operation ≡ Operation.Take → (x z y w : Situation) (first second : Answer) → StandAlike others x z
    → RowOn constants others moves i x first y → RowOn constants others moves i z second w → StaysAlike others first second y w
take_alike constants others moves i is x z y w success second stand r q =
    let same : success ≡ second = (one constants others moves i x z y w success second stand r q).0 in
    subst (λ k. StaysAlike others success k y w) same (both_taken constants others moves i is x z y w stand r (subst (λ k. RowOn constants others moves i z k w) (sym same) q))
take_alike constants others moves i is x z y w first second stand r q = unchanged_alike constants others moves i x z y w first second stand r q (ap (λ o. keeps_image o first) is)
