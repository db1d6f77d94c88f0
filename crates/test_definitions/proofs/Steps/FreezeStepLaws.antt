-- Two situations that clients can't tell apart stay so after FREEZE.
use Rattle.std.specs.Prelude.{ℤ, pos, ◌==◌, ◌&&◌, not}
use Rattle.std.proofs.Common.{◌≡◌, ◌≢◌, ℕ, suc, ◌+◌, ◌≤◌, ◌⊎◌, inl, inr, Bool, true, false, List, [], ◌∷◌, ◌++◌, length, Option, Some, None, refl, sym, ap, ◌∙◌, subst, arith}
use Rattle.std.specs.List.{AllByRecursion}
use Rattle.seg_spec.specs.Bytes.{word}
use Rattle.seg_spec.specs.Header.{allocator_word, next_word}
use Rattle.seg_spec.specs.Pointer.{target}
use Rattle.seg_spec.specs.Types.{Form, Table, form_at, size}
use Rattle.seg_spec.specs.Value.{Value, nil, cons, count, Full}
use Rattle.seg_spec.specs.Heap.{Span, live, tag_at}
use Rattle.seg_spec.specs.Block.{block_of, tag_of, Kind}
use Rattle.seg_spec.specs.Reads.{Place, Holds, items}
use Rattle.seg_spec.specs.Parts.{Persists}
use Rattle.seg_spec.specs.Index.{Root}
use Rattle.seg_spec.specs.Frozen.{Frozen, frozen_words, root_of_frozen}
use Rattle.seg_spec.specs.Sound.{frozen_roots, times, positions}
use Rattle.seg_spec.specs.Shared.{names_in, names_each, IsBelow, replaced}
use Rattle.seg_spec.specs.Demand.{need, after_asks, after_gives}
use Rattle.seg_spec.specs.Spending as spending
use Rattle.seg_spec.proofs.Heap.AllocationLaws.{one_more}
use Rattle.seg_spec.proofs.Heap.LiveBlockLaws.{times-append, times-more, live-once}
use Rattle.seg_spec.proofs.Frozen.ReleaseLaws.{frozen_there}
use Rattle.seg_spec.proofs.Values.OneValueLaws.{Holds-one}
use Rattle.seg_spec.proofs.Values.PersistenceLaws.{Holds-persists}
use Rattle.seg_spec.proofs.Values.PlaceFrameLaws.{each_left, each_weaker}
use Rattle.client_spec.specs.declared.table.Operation.{Operation}
use Rattle.client_spec.specs.Syntax.{Constant, Instruction}
use Rattle.client_spec.specs.Machine.{◌>>=◌, Path, Register, State, register, set_register, owned_by, path_value, put_at}
use Rattle.client_spec.specs.Answer.{Answer, Outcome, success, bad_alloc, answer_number, path_of, path_form, shared_type, begins_at, provided, give_count, with_room}
use Rattle.client_spec.specs.Effect.{effect}
use Rattle.client_spec.specs.Pictures.{root_of_register, Pictures, meaning_in}
use Rattle.client_spec.specs.Asks.{AsksBy, ReturnsBy, ChangesOnSuccess, GrantsAsks}
use Rattle.client_spec.specs.Ties.{places_of, object_at, TouchesBy, FreezesOwned, AllocatesAt, ComesBy, keeps_image}
use Rattle.client_spec.specs.OnImages.{Move, Situation, RowWith, RowOn}
use Rattle.client_spec.proofs.TypedStates.StateLaws.{both_true, register_set_same}
use Rattle.client_spec.proofs.TypedStates.ValueLaws.{Some_inj, bind_some}
use Rattle.test_definitions.specs.Alike.{AlikeAt, AlikeEach, AlikeRoot, none_alike, more_alike, StandAlike, StaysAlike}
use Rattle.test_definitions.proofs.Alike.AlikeChangeLaws.{all_fit}
use Rattle.test_definitions.proofs.Alike.AlikeRootLaws.{both, of_register}
use Rattle.test_definitions.proofs.Rows.AnsweredRowLaws.{from_answer}
use Rattle.test_definitions.proofs.Rows.ApartRowLaws.{content_stays, frozen_within, frozen_fall}
use Rattle.test_definitions.proofs.Steps.ApartStepLaws.{order, was_alike, content_both, opens_both}
use Rattle.test_definitions.proofs.ValueChanges.DefaultCellLaws.{one_names}
use Rattle.test_definitions.proofs.Frozen.FreedBlockLaws.{frozen_by, gives_times, parted}
use Rattle.test_definitions.proofs.Frozen.FrozenApartLaws.{frozen_apart, owner_in_roots}
use Rattle.test_definitions.proofs.Frozen.FrozenOrderLaws.{IsOneOf}
use Rattle.test_definitions.proofs.Frozen.FrozenStayLaws.{SameContent}
use Rattle.test_definitions.proofs.Rows.KeptRowLaws.{one, unchanged_alike, plain_before}
use Rattle.test_definitions.proofs.Alike.MatchedPictureLaws.{Matched}
use Rattle.test_definitions.proofs.Rows.MovedObjectLaws.{freeze_keeps}
use Rattle.test_definitions.proofs.Steps.MovedStepLaws.{MovedSide, owned_in, owned_plain, match_owned, sides_with}
use Rattle.test_definitions.proofs.Rows.NewBlockLaws.{one_block}
use Rattle.test_definitions.proofs.Rows.NewObjectLaws.{none_replaced}
use Rattle.test_definitions.proofs.Rows.OneFrozenLaws.{among_frozen}
use Rattle.test_definitions.proofs.Rows.OnePlaceLaws.{RefersTo, led_one}
use Rattle.test_definitions.proofs.Rows.OneRow.{itself}
use Rattle.test_definitions.proofs.Rows.OwnerMoveLaws.{owner_after, OwnerMoves, there, form_is, both_fewer, root_payload, held_root, root_cells, within, moved_side}
use Rattle.test_definitions.proofs.Rows.OwnerRegisterLaws.{set_cases, owner_seen}
use Rattle.test_definitions.proofs.Rows.OwningRegisterLaws.{changes_names, changes_uniques}
use Rattle.test_definitions.proofs.Rows.PathOriginLaws.{at_place}
use Rattle.test_definitions.proofs.ValueChanges.PersistAlikeLaws.{Fits, persist_alike}
use Rattle.test_definitions.proofs.Rows.PlaceRowLaws.{refers_to, path_then}
use Rattle.test_definitions.proofs.Steps.PlaceStepLaws.{tables_stay}
use Rattle.test_definitions.proofs.Steps.PutStepLaws.{not_true}
use Rattle.test_definitions.proofs.Frozen.ReachedFrozenLaws.{StandsAt, below_stands}
use Rattle.test_definitions.proofs.Alike.RootMemberLaws.{among_right, owns}
use Rattle.test_definitions.proofs.ValueChanges.SharedPlaceLaws as cells

-- ---- the row

record FreezeResult (before after : State) (a c : ℕ) (p : Path) : Type 0 where
  old : Value
  old_is : path_value before p ≡ Some old
  content : Value
  type : ℕ
  owner : owned_by (register before c) ≡ Some (content, type)
  apart : begins_at c p.origin ≡ false
  then_is : after ≡ set_register (set_register (put_at before p (Full content)) c Register.Undefined) a (Register.Int (pos 1))

freeze_row : (constants : List Constant) (o : Operation) → o ≡ Operation.Freeze → (a b c : ℕ) (number : ℤ) (room : Bool) (s t : State) → ◌≡◌ {A = Outcome} (effect constants o a b c number room s) (Some (success, t)) → (p : Path)
    → path_of s b ≡ Some p → FreezeResult s t a c p
unfolding effect
freeze_row constants o is a b c number room s t e p path =
    let f : ◌≡◌ {A = Outcome} (effect constants Operation.Freeze a b c number room s) (Some (success, t)) = subst (λ k. ◌≡◌ {A = Outcome} (effect constants k a b c number room s) (Some (success, t))) is e in
    let done : Path → ℕ → Value × ℕ → Outcome = λ p T new. provided (T == new.1 && not (begins_at c p.origin)) (with_room room a s (give_count a 1 (set_register (put_at s p (Full new.0)) c Register.Undefined))) in
    let with_owner : Path → ℕ → Outcome = λ p T. owned_by (register s c) >>= λ new. path_value s p >>= λ _. done p T new in
    let g : ((path_form s p >>= shared_type) >>= λ T. with_owner p T) ≡ Some (success, t) = sym (ap (λ (o : Option Path). o >>= λ p. (path_form s p >>= shared_type) >>= λ T. with_owner p T) path) ∙ f in
    let h = bind_some (path_form s p >>= shared_type) (λ T. with_owner p T) (success, t) g in
    let n = bind_some (owned_by (register s c)) (λ new. path_value s p >>= λ _. done p h.0 new) (success, t) h.2 in
    let v = bind_some (path_value s p) (λ _. done p h.0 n.0) (success, t) n.2 in
    go h.0 n.0 n.1 v.0 v.1 (h.0 == n.0.1 && not (begins_at c p.origin)) refl v.2
  where
    given : (room : Bool) (z : State) → ◌≡◌ {A = Outcome} (with_room room a s (give_count a 1 z)) (Some (success, t)) → t ≡ set_register z a (Register.Int (pos 1))
    given true z k = (from_answer success success a (Register.Int (pos 1)) z t k).1
    given false z k = absurd (let codes : bad_alloc ≡ success = (from_answer bad_alloc success a (Register.Int (pos (answer_number bad_alloc))) s t k).0 in cc)

    go : (T : ℕ) (new : Value × ℕ) → owned_by (register s c) ≡ Some new → (old : Value) → path_value s p ≡ Some old → (test : Bool) → (T == new.1 && not (begins_at c p.origin)) ≡ test
        → ◌≡◌ {A = Outcome} (provided test (with_room room a s (give_count a 1 (set_register (put_at s p (Full new.0)) c Register.Undefined)))) (Some (success, t)) → FreezeResult s t a c p
    go T new has old seen false is_false k = absurd (let g : ◌≡◌ {A = Outcome} None (Some (success, t)) = k in cc)
    go T new has old seen true is_true k = record {
      old = old;
      old_is = seen;
      content = new.0;
      type = new.1;
      owner = has;
      apart = not_true (begins_at c p.origin) (both_true (T == new.1) (not (begins_at c p.origin)) is_true).1;
      then_is = given room (set_register (put_at s p (Full new.0)) c Register.Undefined) k;
    }

-- ---- frozen objects

raise : (n : ℕ) (fs : List Frozen) (z : Place) → IsBelow n fs z → IsBelow (suc n) fs z
raise n [] z b = b
raise n (f ∷ fs) z (inl b) = inl (b.0, b.1, omega (arith, b.2))
raise n (f ∷ fs) z (inr b) = inr (raise n fs z b)

-- a frozen object, and what it owns
frozen_held : {others : List Root} {s : State} {bytes : List ℕ} (p : Pictures others s bytes) (f : Frozen) → IsOneOf f p.picture.frozen
    → (inside : List ℕ) × Holds bytes p.picture.table (object_at (f.at + 8) f.type) f.value inside × AllByRecursion (Fits bytes) inside × (tag_at bytes (block_of f.at) ≡ tag_of Kind.frozen f.type) × (word bytes (f.at + 4) ≡ f.number)
frozen_held {bytes = bytes} p f i =
    let root = root_of_frozen f in
    let r = p.picture in
    let among = among_right root r.names (r.uniques ++ (r.loose ++ frozen_roots r)) (among_right root r.uniques (r.loose ++ frozen_roots r)
    (among_right root r.loose (frozen_roots r) (among_frozen f r.frozen i))) in
    let o = owns bytes r p.held root p.held.roots among in
    let t = frozen_there bytes r.table f o.its o.holds_it in (
      t.inside,
      t.value,
      all_fit bytes r p.held t.inside (λ h. (let e = ap (times h) t.blocks_are in omega (arith, o.fewer h, e, times-more h (block_of f.at) t.inside))),
      t.block.has_tag,
      t.number_is,
    )

-- ---- one image

-- a row that freezes an object, for its plain state before
record FreezeRow (constants : List Constant) (others : List Root) (i : Instruction) (places bytes new : List ℕ) {t : State} (after : Pictures others t new) (s : State) : Type 0 where
  place : Place
  root : Root
  side : MovedSide constants others i places bytes new after place (Form.shared root.type) s
  owned : root_of_register s.registers side.move.before.owned i.c ≡ Some root
  gone_is : side.gone ≡ Some root
  payload : ℕ
  points_to : target new place.at ≡ Some payload
  gets_block : AllocatesAt bytes (frozen_words + size s.types root.type) payload
  moves : Persists bytes new s.types (object_at root.at root.type) (object_at (payload + frozen_words) root.type)
  value : Value
  values_are : root.values ≡ cons value nil
  -- a frozen object was there, or is the new one
  were : (f : Frozen) → IsOneOf f after.picture.frozen → StandsAt f.at side.move.before.picture.frozen ⊎ SameContent (record { at = payload; type = root.type; number = word bytes next_word; count = 1; value = value }) f
  none_came : (n : ℕ) (a : Root) → root_of_register s.registers side.move.before.owned n ≡ None → root_of_register t.registers after.owned n ≡ Some a → ⊥

module _ (constants : List Constant) (others : List Root) (moves : List Move) (i : Instruction) (is : i.operation ≡ Operation.Freeze) (x y : Situation) (row : RowOn constants others moves i x success y) (places : List ℕ)
    (places_are : x.owned ≡ places) where
  abbrev p : Pictures others row.before.plain x.image
  p = row.before.pictured

  abbrev q : Pictures others row.after.plain y.image
  q = row.after.pictured

  abbrev freeze : FreezesOwned constants i row.before.pictured y.image
  freeze = freeze_keeps constants others moves i x y row is

  found : RefersTo row.before.plain i.b
  found = refers_to constants i x.state x.image row.before success y.state row.row (ap at_place is)

  result : FreezeResult x.state y.state i.a i.c freeze.led_to.path
  result = by row.row
    where
      by : RowWith constants i x.image x.state success y.state → FreezeResult x.state y.state i.a i.c freeze.led_to.path
      by (inl (room, e)) = freeze_row constants i.operation is i.a i.b i.c i.number room x.state y.state e freeze.led_to.path
          (path_then constants i x.state x.image row.before success y.state row.row freeze.led_to.path freeze.led_to.path_is)
      by (inr (w, full)) = absurd (let f = w.code in cc)

  -- register c owns nothing
  far : (n : ℕ) (a : Root) → root_of_register row.after.plain.registers row.after.pictured.owned n ≡ Some a → n ≢ i.c
  far n a e same =
      let seen = owner_seen y.state y.image row.after n a e in
      let path = freeze.led_to.path in
      let put = put_at x.state path (Full result.content) in
      let owner = owner_after x.state path result.old (Full result.content) result.old_is i.c result.content result.type result.owner in
      let empty : register (set_register put i.c Register.Undefined) n ≡ Register.Undefined = ap (register (set_register put i.c Register.Undefined)) same ∙ register_set_same put i.c Register.Undefined owner.0 owner.1 owner.2 in
      let then_is : register y.state n ≡ register (set_register (set_register put i.c Register.Undefined) i.a (Register.Int (pos 1))) n = ap (λ (s : State). register s n) result.then_is in
      elim (set_cases (set_register put i.c Register.Undefined).registers i.a n (Register.Int (pos 1))) [
        | inl k ↦ absurd (let both : Register.Owner (replaced (meaning_in (word y.image next_word) q.picture) seen.0) a.type ≡ Register.Int (pos 1) = sym seen.1 ∙ then_is ∙ k.1 in cc)
        | inr k ↦ absurd (let both : Register.Owner (replaced (meaning_in (word y.image next_word) q.picture) seen.0) a.type ≡ Register.Undefined = sym seen.1 ∙ then_is ∙ k ∙ empty in cc)
      ]

  none_came : (n : ℕ) (a : Root) → root_of_register row.before.plain.registers row.before.pictured.owned n ≡ None → root_of_register row.after.plain.registers row.after.pictured.owned n ≡ Some a → ⊥
  none_came n a none e = subst (λ o. ComesBy constants i row.before.pictured o a.at) is (row.owners_come n a none e)

  abbrev moves_root : OwnerMoves constants others moves i x y row
  moves_root = record {
    no_names = ap changes_names is;
    no_uniques = ap changes_uniques is;
    found = found;
    root = freeze.root;
    owned = freeze.owned;
    place = freeze.place;
    form = Form.shared freeze.root.type;
    led_to = freeze.led_to;
    touches = λ spot own t. subst (λ o. TouchesBy constants i row.before.pictured o spot own) is t;
    origin_far = result.apart;
    far = far;
    none_came = none_came;
  }

  abbrev value_there : (v : Value) × (its : List ℕ) × Holds x.image row.before.pictured.picture.table freeze.place v its
  value_there = there constants others moves i x y row moves_root places places_are

  its_form : form_at row.before.pictured.picture.table freeze.place.type ≡ Some (Form.shared freeze.root.type)
  its_form = form_is constants others moves i x y row moves_root places places_are

  was : (v : Value) × (inside : List ℕ) × Holds x.image row.before.pictured.picture.table (object_at freeze.root.at freeze.root.type) v inside × (freeze.root.values ≡ cons v nil)
  was = held_root constants others moves i x y row moves_root places places_are

  -- ---- blocks of the index are still allocated

  record FreezeFrees : Type 0 where
    blocks : List Span
    more : (h : ℕ) → times h (positions (live x.image)) ≤ times h (positions blocks)
    shared : List ℕ
    fewer : (h : ℕ) → times h shared ≤ times h (frozen_apart x.image row.before.pictured.picture row.before.pictured.held).frozen
    left_is : live y.image ≡ after_gives blocks (block_of freeze.root.at ∷ (value_there.1 ++ shared))

  frees : FreezeFrees
  frees =
      let A = word x.image allocator_word in
      let bs = live x.image in
      let end = length x.image in
      let apart = frozen_apart x.image p.picture p.held in
      let g : GrantsAsks constants i row.before.pictured y.image = subst (λ o. ChangesOnSuccess constants i row.before.pictured o y.image) is row.blocks in
      let asked : AsksBy constants i row.before.pictured Operation.Freeze g.asks = subst (λ o. AsksBy constants i row.before.pictured o g.asks) is g.asked in
      let n = frozen_words + size row.before.plain.types asked.2 in
      let granted = subst (λ as'. after_asks A bs end as' ≡ Some g.blocks) asked.4 g.granted in
      let none : spending.replaced A bs end g.asks ≡ [] = ap (spending.replaced A bs end) asked.4 ∙ none_replaced A end n bs in
      let more = one_more A end (need n) bs g.blocks granted in
      let gone : ReturnsBy constants i row.before.pictured Operation.Freeze g.gives = subst (λ o. ReturnsBy constants i row.before.pictured o g.gives) is g.returned in
      let e = gone.3 in
      let one_place : freeze.place ≡ gone.0 = (led_one constants i (itself others (places_of p.owned) x.image p refl) p p refl refl found freeze.place gone.0 (Form.shared freeze.root.type) gone.1 freeze.led_to gone.2).0 in
      let types = row.before.plain.types in
      let there_is = subst (λ (k : Table). Holds x.image k freeze.place e.value e.own) (sym p.types) (subst (λ (z : Place). Holds x.image types z e.value e.own) (sym one_place) e.holds) in
      let same : e.own ≡ value_there.1 = (Holds-one x.image p.picture.table there_is value_there.2).1 in
      let roots : e.root ≡ freeze.root = Some_inj (sym e.owned ∙ freeze.owned) in
      let with_frozen = e.gives_are in
      let freeing = with_frozen.1 in
      record {
        blocks = g.blocks;
        more = λ h. omega (arith, more.counts h, times-more h more.at (positions bs));
        shared = with_frozen.0;
        fewer = λ h. (
            let all = frozen_by x.image p.picture.table freeing.theirs p.picture.frozen apart.frozen apart.holds_frozen freeing.holds in
            omega (arith, ap (times h) freeing.blocks_are, parted freeing.theirs (names_in e.value) p.picture.frozen h, ap (times h) all));
        left_is = g.left ∙ (λ j. after_gives g.blocks (none j ++ with_frozen.2 j)) ∙ (λ j. after_gives g.blocks (block_of (roots j).at ∷ (same j ++ with_frozen.0)));
      }

  index_lives : (h : ℕ) → 1 ≤ times h row.before.pictured.held.index_blocks → 1 ≤ times h (positions (live y.image))
  index_lives h some =
      let apart = frozen_apart x.image p.picture p.held in
      let its = value_there.1 in
      let gives = block_of freeze.root.at ∷ (its ++ frees.shared) in
      let fewer = both_fewer constants others moves i x y row moves_root places places_are in
      let head = root_payload constants others moves i x y row moves_root places places_are in
      let all = λ (g : ℕ). times-append g (block_of freeze.root.at ∷ []) (its ++ frees.shared) in
      let within_blocks : (g : ℕ) → times g gives ≤ times g (positions frees.blocks) = λ g. omega (arith, all g, times-append g its frees.shared, frees.fewer g, fewer g, head g, apart.counts g, frees.more g) in
      omega (
        arith,
        some,
        gives_times frees.blocks gives h within_blocks,
        all h,
        times-append h its frees.shared,
        ap (λ bs. times h (positions bs)) frees.left_is,
        frees.fewer h,
        fewer h,
        head h,
        apart.counts h,
        frees.more h,
        live-once x.image (word x.image allocator_word) p.held.laid_out.heap h,
      )

  -- ---- frozen objects

  abbrev next : ℕ
  next = word x.image next_word

  abbrev fresh : Frozen
  fresh = record { at = freeze.payload; type = freeze.root.type; number = word x.image next_word; count = 1; value = was.0 }

  abbrev base : List Frozen
  base = fresh ∷ row.before.pictured.picture.frozen

  lift : (z : Place) → IsBelow next row.before.pictured.picture.frozen z → IsBelow (suc next) base z
  lift z b = inr (raise next p.picture.frozen z b)

  within_place : (w : Value) (news : List ℕ) → Holds y.image row.before.pictured.picture.table freeze.place w news → AllByRecursion (IsBelow (suc next) base) (names_in w)
  within_place w news h =
      let v = cells.shared_in y.image p.picture.table freeze.root.type freeze.payload its_form freeze.points_to h in
      subst (AllByRecursion (IsBelow (suc next) base)) (sym (ap names_in v.0 ∙ cells.shared_names freeze.root.type freeze.payload)) (inl (refl, refl, omega arith), tt)

  stand : (z : Place) → StandsAt z.at row.before.pictured.picture.frozen → StandsAt z.at base
  stand z k = record { object = k.object; among = inr k.among; at_is = k.at_is }

  falls : AllByRecursion (λ (g : Frozen). AllByRecursion (λ (z : Place). StandsAt z.at base) (names_in g.value)) base
  falls =
      let cells_are = subst (λ vs. AllByRecursion (IsBelow next p.picture.frozen) (names_each vs)) was.3 (root_cells constants others moves i x y row moves_root places places_are) in
      let mine = each_left (IsBelow next p.picture.frozen) (names_in was.0) [] (subst (AllByRecursion (IsBelow next p.picture.frozen)) (one_names was.0) cells_are) in (
        each_weaker (IsBelow next p.picture.frozen) (λ (z : Place). StandsAt z.at base) (λ z b. stand z (below_stands next p.picture.frozen z b).0) (names_in was.0) mine,
        each_weaker (λ (g : Frozen). AllByRecursion (λ (z : Place). StandsAt z.at p.picture.frozen) (names_in g.value)) (λ (g : Frozen). AllByRecursion (λ (z : Place). StandsAt z.at base) (names_in g.value))
            (λ g a. each_weaker (λ (z : Place). StandsAt z.at p.picture.frozen) (λ (z : Place). StandsAt z.at base) (λ z k. stand z k) (names_in g.value) a) p.picture.frozen (frozen_fall p q row.frozen_kept),
      )

  -- a frozen object at the new position is the new one
  new_content : (f : Frozen) → IsOneOf f row.after.pictured.picture.frozen → f.at ≡ freeze.payload → SameContent fresh f
  new_content f j at =
      let k = frozen_held q f j in
      let tags = sym k.3 ∙ ap (λ n. tag_at y.image (block_of n)) at ∙ freeze.tagged in
      let types : f.type ≡ freeze.root.type = omega (arith, tags) in
      let moves_here = subst (λ (t : Table). Persists x.image y.image t (object_at freeze.root.at freeze.root.type) (object_at (freeze.payload + frozen_words) freeze.root.type)) (sym p.types) freeze.moves in
      let now = Holds-persists x.image y.image p.picture.table was.2 moves_here in
      let same_table = tables_stay constants others moves i x y success row in
      let here = subst (λ (t : Table). Holds y.image t (object_at (f.at + 8) f.type) f.value k.0) same_table k.1 in
      let moved = subst (λ (z : Place). Holds y.image p.picture.table z f.value k.0) (λ j. object_at (at j + 8) (types j)) here in
      record {
        at = at;
        type = types;
        number = sym k.4 ∙ ap (λ n. word y.image (n + 4)) at ∙ freeze.numbered;
        value = (Holds-one y.image p.picture.table moved now).0;
      }

  content : (f g : Frozen) → IsOneOf f row.after.pictured.picture.frozen → IsOneOf g base → f.at ≡ g.at → f.value ≡ g.value
  content f g j (inl same) e = (new_content f j (e ∙ ap (λ (k : Frozen). k.at) same)).value ∙ sym (ap (λ (k : Frozen). k.value) same)
  content f g j (inr k) e = (content_stays p q row.frozen_kept g f k j e).value

  were : (f : Frozen) → IsOneOf f row.after.pictured.picture.frozen → StandsAt f.at row.before.pictured.picture.frozen ⊎ SameContent fresh f
  were f j =
      let s = frozen_within p q row.frozen_kept (suc next) base falls content (within constants others moves i x y row moves_root places places_are (suc next) base lift within_place) f j in
      by s.object s.among s.at_is
    where
      by : (g : Frozen) → IsOneOf g base → g.at ≡ f.at → StandsAt f.at row.before.pictured.picture.frozen ⊎ SameContent fresh f
      by g (inl same) e = inr (new_content f j (sym e ∙ ap (λ (k : Frozen). k.at) same))
      by g (inr k) e = inl (record { object = g; among = k; at_is = e })

  freeze_there : FreezeRow constants others i places x.image y.image row.after.pictured row.before.plain
  freeze_there = record {
    place = freeze.place;
    root = freeze.root;
    side = moved_side constants others moves i x y row moves_root places places_are index_lives;
    owned = freeze.owned;
    gone_is = refl;
    payload = freeze.payload;
    points_to = freeze.points_to;
    gets_block = freeze.gets_block;
    moves = freeze.moves;
    value = was.0;
    values_are = was.3;
    were = were;
    none_came = none_came;
  }

-- ---- both images

module _ (constants : List Constant) (others : List Root) (moves : List Move) (i : Instruction) (is : i.operation ≡ Operation.Freeze)
    (x z y w : Situation) (stand : StandAlike others x z) (r : RowOn constants others moves i x success y) (q : RowOn constants others moves i z success w) where
  mine : FreezeRow constants others i x.owned x.image y.image r.after.pictured r.before.plain
  mine = freeze_there constants others moves i is x y r x.owned refl

  theirs : FreezeRow constants others i x.owned z.image w.image q.after.pictured r.before.plain
  theirs = subst (FreezeRow constants others i x.owned z.image w.image q.after.pictured) (sym (plain_before constants others moves i x z y w success success stand r q))
      (freeze_there constants others moves i is z w q x.owned stand.owned)

  refers : RefersTo r.before.plain i.b
  refers = found constants others moves i is x y r x.owned refl

  record SideAt (place : Place) (root : Root) : Type 0 where
    side : MovedSide constants others i x.owned z.image w.image q.after.pictured place (Form.shared root.type) r.before.plain
    gone_is : side.gone ≡ Some root
    payload : ℕ
    points_to : target w.image place.at ≡ Some payload
    gets_block : AllocatesAt z.image (frozen_words + size r.before.plain.types root.type) payload
    moves_to : Persists z.image w.image r.before.plain.types (object_at root.at root.type) (object_at (payload + frozen_words) root.type)
    value : Value
    values_are : root.values ≡ cons value nil
    were : (f : Frozen) → IsOneOf f q.after.pictured.picture.frozen → StandsAt f.at side.move.before.picture.frozen ⊎ SameContent (record { at = payload; type = root.type; number = word z.image next_word; count = 1; value = value }) f

  -- the row of the second image, at the place and for the object of the first
  there_too : SideAt mine.place mine.root
  there_too =
      let owned = (both stand.images mine.side.move.before theirs.side.move.before mine.side.move.at theirs.side.move.at).owned in
      let root : theirs.root ≡ mine.root = Some_inj (sym theirs.owned ∙ ap (λ rs. root_of_register r.before.plain.registers rs i.c) (sym owned) ∙ mine.owned) in
      let one_place = led_one constants i stand.images mine.side.move.before theirs.side.move.before mine.side.move.at theirs.side.move.at refers mine.place theirs.place (Form.shared mine.root.type) (Form.shared theirs.root.type)
      mine.side.led_to theirs.side.led_to in
      subst (SideAt mine.place) root (subst (λ (k : Place). SideAt k theirs.root) (sym one_place.0) (record {
        side = theirs.side;
        gone_is = theirs.gone_is;
        payload = theirs.payload;
        points_to = theirs.points_to;
        gets_block = theirs.gets_block;
        moves_to = theirs.moves;
        value = theirs.value;
        values_are = theirs.values_are;
        were = theirs.were;
      }))

  abbrev table : Table
  table = mine.side.move.before.picture.table

  cell_form : form_at mine.side.move.before.picture.table mine.place.type ≡ Some (Form.shared mine.root.type)
  cell_form = ap (λ (t : Table). form_at t mine.place.type) mine.side.move.before.types ∙ mine.side.led_to.form_is

  same_value : there_too.value ≡ mine.value
  same_value = (let e : cons there_too.value nil ≡ cons mine.value nil = sym there_too.values_are ∙ mine.values_are in cc)

  -- both images got the object in one block
  one_payload : 16 ≤ mine.payload → 16 ≤ there_too.payload → there_too.payload ≡ mine.payload
  one_payload low low_too = omega (arith, low, low_too, one_block others x.owned x.image z.image stand.images (frozen_words + size r.before.plain.types mine.root.type) mine.payload there_too.payload mine.gets_block there_too.gets_block)

  -- the object that is frozen was alike
  object_alike : AlikeAt x.image z.image mine.side.move.before.picture.table (object_at mine.root.at mine.root.type)
  object_alike =
      let before = mine.side.move.before in
      let j = of_register r.before.plain.registers before.owned i.c mine.root mine.owned in
      let plain = owned_plain before mine.root j in
      let all = was_alike stand.images before there_too.side.move.before mine.side.move.at there_too.side.move.at r.after.pictured q.after.pictured mine.root (owner_in_roots before.picture mine.root (owned_in before mine.root j)) in
      first_of (subst (λ n. AlikeEach x.image z.image table (items table mine.root.at mine.root.type n)) (ap count plain.values_are) all)
    where
      first_of : {k : Place} {ks : List Place} → AlikeEach x.image z.image mine.side.move.before.picture.table (k ∷ ks) → AlikeAt x.image z.image mine.side.move.before.picture.table k
      first_of (more_alike h hs) = h

  inner : (a b : Value) (xs ys : List ℕ) → Holds y.image mine.side.move.before.picture.table mine.place a xs → AllByRecursion (Fits y.image) xs → Holds w.image mine.side.move.before.picture.table mine.place b ys
      → AllByRecursion (Fits w.image) ys
      → AlikeAt y.image w.image mine.side.move.before.picture.table mine.place
  inner a b xs ys h fits k fits_too =
      let low = cells.shared_low y.image table mine.root.type mine.payload cell_form mine.points_to h in
      let low_too = cells.shared_low w.image table mine.root.type there_too.payload cell_form there_too.points_to k in
      cells.sharing_alike y.image w.image table mine.place mine.root.type cell_form mine.payload mine.points_to (there_too.points_to ∙ ap (λ n. Some n) (one_payload low low_too)) h k

  -- ---- frozen objects

  was_too : (at : ℕ) → StandsAt at there_too.side.move.before.picture.frozen → StandsAt at mine.side.move.before.picture.frozen
  was_too at k =
      let o = order stand.images mine.side.move.before there_too.side.move.before mine.side.move.at there_too.side.move.at r.after.pictured q.after.pictured in
      record { object = k.object; among = o.back k.object k.among; at_is = k.at_is }

  stays_content : (f g : Frozen) → StandsAt f.at mine.side.move.before.picture.frozen → IsOneOf f r.after.pictured.picture.frozen → IsOneOf g q.after.pictured.picture.frozen → g.at ≡ f.at → SameContent f g
  stays_content = content_both stand.images mine.side.move.before there_too.side.move.before mine.side.move.at there_too.side.move.at r.after.pictured q.after.pictured mine.side.move.frozen there_too.side.move.frozen

  frozen_content : (f g : Frozen) → IsOneOf f r.after.pictured.picture.frozen → IsOneOf g q.after.pictured.picture.frozen → g.at ≡ f.at → SameContent f g
  frozen_content f g j k e = by (mine.were f j) (there_too.were g k)
    where
      by : StandsAt f.at mine.side.move.before.picture.frozen ⊎ SameContent (record { at = mine.payload; type = mine.root.type; number = word x.image next_word; count = 1; value = mine.value }) f
          → StandsAt g.at there_too.side.move.before.picture.frozen ⊎ SameContent (record { at = there_too.payload; type = mine.root.type; number = word z.image next_word; count = 1; value = there_too.value }) g → SameContent f g
      by (inl was) n = stays_content f g was j k e
      by (inr s) (inl was) = stays_content f g (subst (λ n. StandsAt n mine.side.move.before.picture.frozen) e (was_too g.at was)) j k e
      by (inr s) (inr t) = record {
        at = e;
        type = t.type ∙ sym s.type;
        number = t.number ∙ stand.images.next_same ∙ sym s.number;
        value = t.value ∙ same_value ∙ sym s.value;
      }

  stays_open : (f : Frozen) → StandsAt f.at mine.side.move.before.picture.frozen → IsOneOf f r.after.pictured.picture.frozen → IsOneOf f q.after.pictured.picture.frozen
      → AlikeRoot y.image w.image mine.side.move.before.picture.table (root_of_frozen f)
  stays_open = opens_both stand.images mine.side.move.before there_too.side.move.before mine.side.move.at there_too.side.move.at r.after.pictured q.after.pictured mine.side.move.frozen there_too.side.move.frozen

  frozen_opens : (f : Frozen) → IsOneOf f r.after.pictured.picture.frozen → IsOneOf f q.after.pictured.picture.frozen → AlikeRoot y.image w.image mine.side.move.before.picture.table (root_of_frozen f)
  frozen_opens f j k = by (mine.were f j) (there_too.were f k)
    where
      by : StandsAt f.at mine.side.move.before.picture.frozen ⊎ SameContent (record { at = mine.payload; type = mine.root.type; number = word x.image next_word; count = 1; value = mine.value }) f
          → StandsAt f.at there_too.side.move.before.picture.frozen ⊎ SameContent (record { at = there_too.payload; type = mine.root.type; number = word z.image next_word; count = 1; value = there_too.value }) f
          → AlikeRoot y.image w.image mine.side.move.before.picture.table (root_of_frozen f)
      by (inl was) n = stays_open f was j k
      by (inr s) (inl was) = stays_open f (was_too f.at was) j k
      by (inr s) (inr t) =
          let types : r.before.plain.types ≡ table = sym mine.side.move.before.types in
          let table_too : q.after.pictured.picture.table ≡ table = there_too.side.move.tables ∙ there_too.side.move.before.types ∙ types in
          let a = frozen_held r.after.pictured f j in
          let b = frozen_held q.after.pictured f k in
          let h = subst (λ (t : Table). Holds y.image t (object_at (f.at + 8) f.type) f.value a.0) mine.side.move.tables a.1 in
          let h_too = subst (λ (t : Table). Holds w.image t (object_at (f.at + 8) f.type) f.value b.0) table_too b.1 in
          let place : object_at (mine.payload + frozen_words) mine.root.type ≡ object_at (f.at + 8) f.type = λ m. object_at (sym s.at m + 8) (sym s.type m) in
          let place_too : object_at (there_too.payload + frozen_words) mine.root.type ≡ object_at (f.at + 8) f.type = λ m. object_at (sym t.at m + 8) (sym t.type m) in
          let from = object_at mine.root.at mine.root.type in
          let stays = subst (λ (o : Place). Persists x.image y.image table from o) place (subst (λ (u : Table). Persists x.image y.image u from (object_at (mine.payload + frozen_words) mine.root.type)) types mine.moves) in
          let stays_too = subst (λ (o : Place). Persists z.image w.image table from o) place_too (subst
          (λ (u : Table). Persists z.image w.image u from (object_at (there_too.payload + frozen_words) mine.root.type)) types there_too.moves_to) in
          more_alike (persist_alike x.image y.image z.image w.image table object_alike stays stays_too h a.2 h_too b.2) none_alike

  both_frozen : StaysAlike others success success y w
  both_frozen =
      sides_with constants others moves i x z y w stand r q mine.place (Form.shared mine.root.type) mine.side there_too.side (there_too.gone_is ∙ sym mine.gone_is) refers inner
      (λ n a b e f. owned n a b e f (root_of_register r.before.plain.registers mine.side.move.before.owned n) refl) frozen_content frozen_opens
    where
      owned : (n : ℕ) (a b : Root) → root_of_register r.after.plain.registers r.after.pictured.owned n ≡ Some a → root_of_register q.after.plain.registers q.after.pictured.owned n ≡ Some b → (o : Option Root)
          → root_of_register r.before.plain.registers mine.side.move.before.owned n ≡ o → Matched r.after.pictured q.after.pictured a b
      owned n a b e f None g = absurd (mine.none_came n a g e)
      owned n a b e f (Some c) g = match_owned constants others moves i x z y w stand r q mine.place (Form.shared mine.root.type) mine.side there_too.side (there_too.gone_is ∙ sym mine.gone_is) refers inner n c a b g e f

pub freeze_alike : (constants : List Constant) (others : List Root) (moves : List Move) (i : Instruction) → (is : i.operation ≡ Operation.Freeze)
    → (x z y w : Situation) (first second : Answer) → StandAlike others x z → RowOn constants others moves i x first y → RowOn constants others moves i z second w → StaysAlike others first second y w
freeze_alike constants others moves i is x z y w success second stand r q =
    let same : success ≡ second = (one constants others moves i x z y w success second stand r q).0 in
    subst (λ k. StaysAlike others success k y w) same (both_frozen constants others moves i is x z y w stand r (subst (λ k. RowOn constants others moves i z k w) (sym same) q))
freeze_alike constants others moves i is x z y w first second stand r q = unchanged_alike constants others moves i x z y w first second stand r q (ap (λ o. keeps_image o first) is)
