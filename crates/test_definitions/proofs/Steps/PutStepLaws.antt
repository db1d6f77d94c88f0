-- Two situations that clients can't tell apart stay so after PUT.
use Rattle.std.specs.Prelude.{ℤ, ◌==◌, ◌&&◌, not}
use Rattle.std.proofs.Common.{◌≡◌, ◌≢◌, ℕ, ◌≤◌, inl, inr, Bool, true, false, List, [], ◌∷◌, ◌++◌, length, Option, Some, None, refl, sym, ap, ◌∙◌, subst, arith}
use Rattle.std.specs.List.{AllByRecursion}
use Rattle.seg_spec.specs.Bytes.{word}
use Rattle.seg_spec.specs.Header.{allocator_word, next_word}
use Rattle.seg_spec.specs.Pointer.{target}
use Rattle.seg_spec.specs.Types.{Form, Table, form_at}
use Rattle.seg_spec.specs.Value.{Value, nil, cons, count, Full}
use Rattle.seg_spec.specs.Heap.{live}
use Rattle.seg_spec.specs.Reads.{Place, Holds, items}
use Rattle.seg_spec.specs.Parts.{Persists}
use Rattle.seg_spec.specs.Index.{Root}
use Rattle.seg_spec.specs.Frozen.{Frozen}
use Rattle.seg_spec.specs.Sound.{times, positions}
use Rattle.seg_spec.specs.Shared.{names_in, names_each, IsBelow, replaced}
use Rattle.seg_spec.specs.Demand.{after_asks, after_gives}
use Rattle.seg_spec.specs.Spending as spending
use Rattle.seg_spec.proofs.Heap.LiveBlockLaws.{times-append, live-once}
use Rattle.seg_spec.proofs.Values.OneValueLaws.{Holds-one}
use Rattle.seg_spec.proofs.Values.PersistenceLaws.{Holds-persists}
use Rattle.client_spec.specs.declared.table.Operation.{Operation}
use Rattle.client_spec.specs.Syntax.{Constant, Instruction}
use Rattle.client_spec.specs.Machine.{◌>>=◌, Path, Register, State, register, set_register, owned_by, path_value, put_at}
use Rattle.client_spec.specs.Answer.{Answer, Outcome, success, path_of, path_form, owned_type, content_in, begins_at, provided}
use Rattle.client_spec.specs.Effect.{effect}
use Rattle.client_spec.specs.Pictures.{root_of_register, Pictures, meaning_in}
use Rattle.client_spec.specs.Asks.{AsksBy, ReturnsBy, ChangesOnSuccess, GrantsAsks}
use Rattle.client_spec.specs.Ties.{places_of, object_at, TouchesBy, PutsOwned, ComesBy, keeps_image}
use Rattle.client_spec.specs.OnImages.{Move, Situation, RowWith, RowOn}
use Rattle.client_spec.proofs.TypedStates.StateLaws.{both_true, register_set_same}
use Rattle.client_spec.proofs.TypedStates.ValueLaws.{Some_inj, bind_some}
use Rattle.test_definitions.specs.Alike.{AlikeAt, AlikeEach, more_alike, StandAlike, StaysAlike}
use Rattle.test_definitions.proofs.Alike.AlikeRootLaws.{both, of_register}
use Rattle.test_definitions.proofs.Rows.ApartRowLaws.{frozen_were}
use Rattle.test_definitions.proofs.Steps.ApartStepLaws.{was_alike}
use Rattle.test_definitions.proofs.Rows.ChangedPlaceRowLaws.{CellsWithin}
use Rattle.test_definitions.proofs.Frozen.FreedBlockLaws.{frozen_by, gives_times, parted}
use Rattle.test_definitions.proofs.Frozen.FrozenApartLaws.{frozen_apart, owner_in_roots}
use Rattle.test_definitions.proofs.Frozen.FrozenOrderLaws.{IsOneOf}
use Rattle.test_definitions.proofs.Rows.KeptRowLaws.{one, unchanged_alike, plain_before}
use Rattle.test_definitions.proofs.Alike.MatchedPictureLaws.{Matched}
use Rattle.test_definitions.proofs.Rows.MovedObjectLaws.{put_keeps}
use Rattle.test_definitions.proofs.Steps.MovedStepLaws.{MovedSide, owned_in, owned_plain, match_owned, sides_alike}
use Rattle.test_definitions.proofs.Rows.OneRow.{itself, pair_is}
use Rattle.test_definitions.proofs.Rows.OnePlaceLaws.{RefersTo, led_one}
use Rattle.test_definitions.proofs.ValueChanges.OwnCellLaws as cells
use Rattle.test_definitions.proofs.Rows.OwnerRegisterLaws.{owner_seen}
use Rattle.test_definitions.proofs.Rows.OwningRegisterLaws.{changes_names, changes_uniques}
use Rattle.test_definitions.proofs.Rows.OwnerMoveLaws.{owner_after, OwnerMoves, there, form_is, its_fewer, held_root, root_cells, within, moved_side}
use Rattle.test_definitions.proofs.Rows.PathOriginLaws.{at_place}
use Rattle.test_definitions.proofs.ValueChanges.PersistAlikeLaws.{Fits, persist_alike}
use Rattle.test_definitions.proofs.Rows.PlaceRowLaws.{refers_to, path_then}
use Rattle.test_definitions.proofs.Frozen.ReachedFrozenLaws.{StandsAt}

-- ---- the row

-- the value that was at the path, and the object that register c owned
record PutResult (before after : State) (c : ℕ) (p : Path) : Type 0 where
  old : Value
  old_is : path_value before p ≡ Some old
  content : Value
  type : ℕ
  owner : owned_by (register before c) ≡ Some (content, type)
  apart : begins_at c p.origin ≡ false
  then_is : after ≡ set_register (put_at before p (Full content)) c Register.Undefined

pub not_true : (b : Bool) → not b ≡ true → b ≡ false
not_true true e = cc
not_true false e = refl

put_row : (constants : List Constant) (o : Operation) → o ≡ Operation.Put → (a b c : ℕ) (number : ℤ) (room : Bool) (s t : State) → ◌≡◌ {A = Outcome} (effect constants o a b c number room s) (Some (success, t)) → (p : Path)
    → path_of s b ≡ Some p → PutResult s t c p
unfolding effect
put_row constants o is a b c number room s t e p path =
    let f : ◌≡◌ {A = Outcome} (effect constants Operation.Put a b c number room s) (Some (success, t)) = subst (λ k. ◌≡◌ {A = Outcome} (effect constants k a b c number room s) (Some (success, t))) is e in
    let done : Path → ℕ → Value × ℕ → Outcome = λ p T new. provided (T == new.1 && not (begins_at c p.origin)) (Some (success, set_register (put_at s p (Full new.0)) c Register.Undefined)) in
    let with_owner : Path → ℕ → Outcome = λ p T. owned_by (register s c) >>= λ new. (path_value s p >>= content_in) >>= λ _. done p T new in
    let g : ((path_form s p >>= owned_type) >>= λ T. with_owner p T) ≡ Some (success, t) = sym (ap (λ (o : Option Path). o >>= λ p. (path_form s p >>= owned_type) >>= λ T. with_owner p T) path) ∙ f in
    let h = bind_some (path_form s p >>= owned_type) (λ T. with_owner p T) (success, t) g in
    let n = bind_some (owned_by (register s c)) (λ new. (path_value s p >>= content_in) >>= λ _. done p h.0 new) (success, t) h.2 in
    let k = bind_some (path_value s p >>= content_in) (λ _. done p h.0 n.0) (success, t) n.2 in
    let v = bind_some (path_value s p) content_in k.0 k.1 in
    go h.0 n.0 n.1 v.0 v.1 (h.0 == n.0.1 && not (begins_at c p.origin)) refl k.2
  where
    go : (T : ℕ) (new : Value × ℕ) → owned_by (register s c) ≡ Some new → (old : Value) → path_value s p ≡ Some old → (test : Bool) → (T == new.1 && not (begins_at c p.origin)) ≡ test
        → ◌≡◌ {A = Outcome} (provided test (Some (success, set_register (put_at s p (Full new.0)) c Register.Undefined))) (Some (success, t)) → PutResult s t c p
    go T new has old seen false is_false k = absurd (let g : ◌≡◌ {A = Outcome} None (Some (success, t)) = k in cc)
    go T new has old seen true is_true k = record {
      old = old;
      old_is = seen;
      content = new.0;
      type = new.1;
      owner = has;
      apart = not_true (begins_at c p.origin) (both_true (T == new.1) (not (begins_at c p.origin)) is_true).1;
      then_is = sym (pair_is success success (set_register (put_at s p (Full new.0)) c Register.Undefined) t k).1;
    }

-- ---- one image

-- a row that puts an object, for its plain state before
record PutRow (constants : List Constant) (others : List Root) (i : Instruction) (places bytes new : List ℕ) {t : State} (after : Pictures others t new) (s : State) : Type 0 where
  place : Place
  root : Root
  side : MovedSide constants others i places bytes new after place (Form.own root.type) s
  owned : root_of_register s.registers side.move.before.owned i.c ≡ Some root
  gone_is : side.gone ≡ Some root
  points_to : target new place.at ≡ Some root.at
  stays : Persists bytes new s.types (object_at root.at root.type) (object_at root.at root.type)
  were : (f : Frozen) → IsOneOf f after.picture.frozen → StandsAt f.at side.move.before.picture.frozen
  none_came : (n : ℕ) (a : Root) → root_of_register s.registers side.move.before.owned n ≡ None → root_of_register t.registers after.owned n ≡ Some a → ⊥

module _ (constants : List Constant) (others : List Root) (moves : List Move) (i : Instruction) (is : i.operation ≡ Operation.Put) (x y : Situation) (row : RowOn constants others moves i x success y) (places : List ℕ)
    (places_are : x.owned ≡ places) where
  abbrev p : Pictures others row.before.plain x.image
  p = row.before.pictured

  abbrev q : Pictures others row.after.plain y.image
  q = row.after.pictured

  put : PutsOwned constants i row.before.pictured y.image
  put = put_keeps constants others moves i x y row is

  found : RefersTo row.before.plain i.b
  found = refers_to constants i x.state x.image row.before success y.state row.row (ap at_place is)

  result : PutResult x.state y.state i.c put.led_to.path
  result = by row.row
    where
      by : RowWith constants i x.image x.state success y.state → PutResult x.state y.state i.c put.led_to.path
      by (inl (room, e)) = put_row constants i.operation is i.a i.b i.c i.number room x.state y.state e put.led_to.path
          (path_then constants i x.state x.image row.before success y.state row.row put.led_to.path put.led_to.path_is)
      by (inr (w, full)) = absurd (let f = w.code in cc)

  -- register c owns nothing
  far : (n : ℕ) (a : Root) → root_of_register row.after.plain.registers row.after.pictured.owned n ≡ Some a → n ≢ i.c
  far n a e same =
      let seen = owner_seen y.state y.image row.after n a e in
      let path = put.led_to.path in
      let owner = owner_after x.state path result.old (Full result.content) result.old_is i.c result.content result.type result.owner in
      let empty : register y.state i.c ≡ Register.Undefined = ap (λ (s : State). register s i.c) result.then_is ∙ register_set_same (put_at x.state path (Full result.content)) i.c Register.Undefined owner.0 owner.1 owner.2 in
      let both : Register.Owner (replaced (meaning_in (word y.image next_word) q.picture) seen.0) a.type ≡ Register.Undefined = sym seen.1 ∙ ap (λ k. register y.state k) same ∙ empty in
      cc

  none_came : (n : ℕ) (a : Root) → root_of_register row.before.plain.registers row.before.pictured.owned n ≡ None → root_of_register row.after.plain.registers row.after.pictured.owned n ≡ Some a → ⊥
  none_came n a none e = subst (λ o. ComesBy constants i row.before.pictured o a.at) is (row.owners_come n a none e)

  abbrev moves_root : OwnerMoves constants others moves i x y row
  moves_root = record {
    no_names = ap changes_names is;
    no_uniques = ap changes_uniques is;
    found = found;
    root = put.root;
    owned = put.owned;
    place = put.place;
    form = Form.own put.root.type;
    led_to = put.led_to;
    touches = λ spot own t. subst (λ o. TouchesBy constants i row.before.pictured o spot own) is t;
    origin_far = result.apart;
    far = far;
    none_came = none_came;
  }

  abbrev value_there : (v : Value) × (its : List ℕ) × Holds x.image row.before.pictured.picture.table put.place v its
  value_there = there constants others moves i x y row moves_root places places_are

  its_form : form_at row.before.pictured.picture.table put.place.type ≡ Some (Form.own put.root.type)
  its_form = form_is constants others moves i x y row moves_root places places_are

  -- ---- blocks of the index are still allocated

  record PutFrees : Type 0 where
    shared : List ℕ
    fewer : (h : ℕ) → times h shared ≤ times h (frozen_apart x.image row.before.pictured.picture row.before.pictured.held).frozen
    left_is : live y.image ≡ after_gives (live x.image) (value_there.1 ++ shared)

  frees : PutFrees
  frees =
      let apart = frozen_apart x.image p.picture p.held in
      let g : GrantsAsks constants i row.before.pictured y.image = subst (λ o. ChangesOnSuccess constants i row.before.pictured o y.image) is row.blocks in
      let asks : g.asks ≡ [] = subst (λ o. AsksBy constants i row.before.pictured o g.asks) is g.asked in
      let blocks : live x.image ≡ g.blocks = (let e : Some (live x.image) ≡ Some g.blocks = ap (after_asks (word x.image allocator_word) (live x.image) (length x.image)) (sym asks) ∙ g.granted in cc) in
      let gone : ReturnsBy constants i row.before.pictured Operation.Put g.gives = subst (λ o. ReturnsBy constants i row.before.pictured o g.gives) is g.returned in
      let e = gone.3 in
      let one_place : put.place ≡ gone.0 = (led_one constants i (itself others (places_of p.owned) x.image p refl) p p refl refl found put.place gone.0 (Form.own put.root.type) gone.1 put.led_to gone.2).0 in
      let types = row.before.plain.types in
      let there_is = subst (λ (k : Table). Holds x.image k put.place e.value e.own) (sym p.types) (subst (λ (z : Place). Holds x.image types z e.value e.own) (sym one_place) e.holds) in
      let same : e.own ≡ value_there.1 = (Holds-one x.image p.picture.table there_is value_there.2).1 in
      let with_frozen = e.gives_are in
      let freeing = with_frozen.1 in
      record {
        shared = with_frozen.0;
        fewer = λ h. (
            let all = frozen_by x.image p.picture.table freeing.theirs p.picture.frozen apart.frozen apart.holds_frozen freeing.holds in
            omega (arith, ap (times h) freeing.blocks_are, parted freeing.theirs (names_in e.value) p.picture.frozen h, ap (times h) all));
        left_is = g.left ∙ (λ j. after_gives (sym blocks j) (spending.replaced (word x.image allocator_word) (live x.image) (length x.image) (asks j) ++ with_frozen.2 j)) ∙ (λ j. after_gives (live x.image) (same j ++ with_frozen.0));
      }

  index_lives : (h : ℕ) → 1 ≤ times h row.before.pictured.held.index_blocks → 1 ≤ times h (positions (live y.image))
  index_lives h some =
      let apart = frozen_apart x.image p.picture p.held in
      let its = value_there.1 in
      let fewer = its_fewer constants others moves i x y row moves_root places places_are in
      let within : (g : ℕ) → times g (its ++ frees.shared) ≤ times g (positions (live x.image)) = λ g. omega (arith, times-append g its frees.shared, frees.fewer g, fewer g, apart.counts g) in
      omega (
        arith,
        some,
        gives_times (live x.image) (its ++ frees.shared) h within,
        times-append h its frees.shared,
        ap (λ bs. times h (positions bs)) frees.left_is,
        frees.fewer h,
        fewer h,
        apart.counts h,
        live-once x.image (word x.image allocator_word) p.held.laid_out.heap h,
      )

  -- ---- shared cells

  abbrev Below : Place → Type 0
  Below = IsBelow (word x.image next_word) row.before.pictured.picture.frozen

  -- the cell contains the value of the object
  within_place : CellsWithin row.before.pictured y.image put.place
  within_place v news h =
      let now = cells.owned_in y.image p.picture.table put.root.type put.root.at its_form put.points_to h in
      let was = held_root constants others moves i x y row moves_root places places_are in
      let stays = subst (λ (t : Table). Persists x.image y.image t (object_at put.root.at put.root.type) (object_at put.root.at put.root.type)) (sym p.types) put.stays in
      let same : was.0 ≡ now.content = (Holds-one y.image p.picture.table (Holds-persists x.image y.image p.picture.table was.2 stays) now.holds_content).0 in
      subst (AllByRecursion Below) (sym (ap names_in now.value_is ∙ cells.owned_names now.content))
      (subst (λ vs. AllByRecursion Below (names_each vs)) (was.3 ∙ ap (λ u. cons u nil) same) (root_cells constants others moves i x y row moves_root places places_are))

  put_there : PutRow constants others i places x.image y.image row.after.pictured row.before.plain
  put_there = record {
    place = put.place;
    root = put.root;
    side = moved_side constants others moves i x y row moves_root places places_are index_lives;
    owned = put.owned;
    gone_is = refl;
    points_to = put.points_to;
    stays = put.stays;
    were = frozen_were p q row.frozen_kept (within constants others moves i x y row moves_root places places_are (word x.image next_word) row.before.pictured.picture.frozen (λ z b. b) within_place);
    none_came = none_came;
  }

-- ---- both images

module _ (constants : List Constant) (others : List Root) (moves : List Move) (i : Instruction) (is : i.operation ≡ Operation.Put) (x z y w : Situation) (stand : StandAlike others x z) (r : RowOn constants others moves i x success y)
    (q : RowOn constants others moves i z success w) where
  mine : PutRow constants others i x.owned x.image y.image r.after.pictured r.before.plain
  mine = put_there constants others moves i is x y r x.owned refl

  theirs : PutRow constants others i x.owned z.image w.image q.after.pictured r.before.plain
  theirs = subst (PutRow constants others i x.owned z.image w.image q.after.pictured) (sym (plain_before constants others moves i x z y w success success stand r q)) (put_there constants others moves i is z w q x.owned stand.owned)

  refers : RefersTo r.before.plain i.b
  refers = found constants others moves i is x y r x.owned refl

  record SideAt (place : Place) (root : Root) : Type 0 where
    side : MovedSide constants others i x.owned z.image w.image q.after.pictured place (Form.own root.type) r.before.plain
    gone_is : side.gone ≡ Some root
    points_to : target w.image place.at ≡ Some root.at
    stays : Persists z.image w.image r.before.plain.types (object_at root.at root.type) (object_at root.at root.type)

  -- the row of the second image, at the place and for the object of the first
  there_too : SideAt mine.place mine.root
  there_too =
      let owned = (both stand.images mine.side.move.before theirs.side.move.before mine.side.move.at theirs.side.move.at).owned in
      let root : theirs.root ≡ mine.root = Some_inj (sym theirs.owned ∙ ap (λ rs. root_of_register r.before.plain.registers rs i.c) (sym owned) ∙ mine.owned) in
      let one_place = led_one constants i stand.images mine.side.move.before theirs.side.move.before mine.side.move.at theirs.side.move.at refers mine.place theirs.place (Form.own mine.root.type)
      (Form.own theirs.root.type) mine.side.led_to theirs.side.led_to in
      subst (SideAt mine.place) root (subst (λ (k : Place). SideAt k theirs.root) (sym one_place.0) (record { side = theirs.side; gone_is = theirs.gone_is; points_to = theirs.points_to; stays = theirs.stays }))

  abbrev table : Table
  table = mine.side.move.before.picture.table

  cell_form : form_at mine.side.move.before.picture.table mine.place.type ≡ Some (Form.own mine.root.type)
  cell_form = ap (λ (t : Table). form_at t mine.place.type) mine.side.move.before.types ∙ mine.side.led_to.form_is

  -- the object that was put is alike
  object_alike : AlikeAt x.image z.image mine.side.move.before.picture.table (object_at mine.root.at mine.root.type)
  object_alike =
      let before = mine.side.move.before in
      let j = of_register r.before.plain.registers before.owned i.c mine.root mine.owned in
      let plain = owned_plain before mine.root j in
      let all = was_alike stand.images before there_too.side.move.before mine.side.move.at there_too.side.move.at r.after.pictured q.after.pictured mine.root (owner_in_roots before.picture mine.root (owned_in before mine.root j)) in
      first_of (subst (λ n. AlikeEach x.image z.image table (items table mine.root.at mine.root.type n)) (ap count plain.values_are) all)
    where
      first_of : {k : Place} {ks : List Place} → AlikeEach x.image z.image mine.side.move.before.picture.table (k ∷ ks) → AlikeAt x.image z.image mine.side.move.before.picture.table k
      first_of (more_alike h hs) = h

  inner : (a b : Value) (xs ys : List ℕ) → Holds y.image mine.side.move.before.picture.table mine.place a xs → AllByRecursion (Fits y.image) xs → Holds w.image mine.side.move.before.picture.table mine.place b ys
      → AllByRecursion (Fits w.image) ys
      → AlikeAt y.image w.image mine.side.move.before.picture.table mine.place
  inner a b xs ys h fits k fits_too =
      let types : r.before.plain.types ≡ table = sym mine.side.move.before.types in
      let at = mine.root.at in
      let T = mine.root.type in
      let now = cells.owned_in y.image table T at cell_form mine.points_to h in
      let now_too = cells.owned_in w.image table T at cell_form there_too.points_to k in
      let stays = subst (λ (t : Table). Persists x.image y.image t (object_at at T) (object_at at T)) types mine.stays in
      let stays_too = subst (λ (t : Table). Persists z.image w.image t (object_at at T) (object_at at T)) types there_too.stays in
      cells.owning_alike y.image w.image table mine.place T cell_form at mine.points_to there_too.points_to h k
      (persist_alike x.image y.image z.image w.image table object_alike stays stays_too now.holds_content (subst (AllByRecursion (Fits y.image)) now.blocks_are fits).1 now_too.holds_content
      (subst (AllByRecursion (Fits w.image)) now_too.blocks_are fits_too).1)

  both_put : StaysAlike others success success y w
  both_put =
      sides_alike constants others moves i x z y w stand r q mine.place (Form.own mine.root.type) mine.side there_too.side (there_too.gone_is ∙ sym mine.gone_is) refers inner
      (λ n a b e f. owned n a b e f (root_of_register r.before.plain.registers mine.side.move.before.owned n) refl) mine.were
    where
      owned : (n : ℕ) (a b : Root) → root_of_register r.after.plain.registers r.after.pictured.owned n ≡ Some a → root_of_register q.after.plain.registers q.after.pictured.owned n ≡ Some b → (o : Option Root)
          → root_of_register r.before.plain.registers mine.side.move.before.owned n ≡ o → Matched r.after.pictured q.after.pictured a b
      owned n a b e f None g = absurd (mine.none_came n a g e)
      owned n a b e f (Some c) g = match_owned constants others moves i x z y w stand r q mine.place (Form.own mine.root.type) mine.side there_too.side (there_too.gone_is ∙ sym mine.gone_is) refers inner n c a b g e f

pub put_alike : (constants : List Constant) (others : List Root) (moves : List Move) (i : Instruction) → i.operation ≡ Operation.Put → (x z y w : Situation) (first second : Answer) → StandAlike others x z
    → RowOn constants others moves i x first y → RowOn constants others moves i z second w → StaysAlike others first second y w
put_alike constants others moves i is x z y w success second stand r q =
    let same : success ≡ second = (one constants others moves i x z y w success second stand r q).0 in
    subst (λ k. StaysAlike others success k y w) same (both_put constants others moves i is x z y w stand r (subst (λ k. RowOn constants others moves i z k w) (sym same) q))
put_alike constants others moves i is x z y w first second stand r q = unchanged_alike constants others moves i x z y w first second stand r q (ap (λ o. keeps_image o first) is)
