-- Two situations that clients can't tell apart stay so after POP, POPF and DELK.
use Rattle.std.proofs.Common.{◌≡◌, ℕ, suc, ◌-◌, ◌≤◌, ◌⊎◌, inl, inr, true, false, List, [], ◌∷◌, ◌++◌, length, Option, Some, None, refl, sym, ap, ◌∙◌, subst, arith}
use Rattle.std.specs.Prelude.{⊤}
use Rattle.std.specs.List.{AllByRecursion}
use Rattle.seg_spec.specs.Bytes.{word}
use Rattle.seg_spec.specs.Header.{allocator_word, next_word}
use Rattle.seg_spec.specs.Types.{Form, Table, form_at}
use Rattle.seg_spec.specs.Value.{Value, node, count}
use Rattle.seg_spec.specs.Heap.{live}
use Rattle.seg_spec.specs.Frozen.{Frozen, blocks_by}
use Rattle.seg_spec.specs.Reads.{Place, Holds, count_at}
use Rattle.seg_spec.specs.Parts.{KeepsParts}
use Rattle.seg_spec.specs.Index.{Root}
use Rattle.seg_spec.specs.Shared.{names_in, times_named, freed, freed_with}
use Rattle.seg_spec.specs.Counting.{FrozenGone}
use Rattle.seg_spec.specs.Demand.{after_asks, after_gives}
use Rattle.seg_spec.specs.Spending.{PartBlocks}
use Rattle.seg_spec.specs.Spending as spending
use Rattle.seg_spec.proofs.Frozen.PartCountLaws.{names_same}
use Rattle.client_spec.specs.declared.table.Operation.{Operation}
use Rattle.client_spec.specs.Syntax.{Constant, Instruction}
use Rattle.client_spec.specs.Machine.{Path, State, path_value}
use Rattle.client_spec.specs.Answer.{Answer, success, numbers_used_up, path_of}
use Rattle.client_spec.specs.Pictures.{Pictures, meaning_in, trees_of}
use Rattle.client_spec.specs.Asks.{LedTo, found_key, AsksBy, ReturnsBy, PartGoes, PopGoes, KeyGoes, ChangesOnSuccess, ChangesBlocks, GrantsAsks}
use Rattle.client_spec.specs.Ties.{SameOrAt, LosesLast, OfPlace, OfFrozen, Both, TouchesBy, KeepsBy, keeps_image, places_of}
use Rattle.client_spec.specs.OnImages.{Move, Situation, RowWith, RowOn}
use Rattle.client_spec.proofs.TypedStates.ValueLaws.{Some_inj}
use Rattle.client_spec.proofs.Unfolded.UnfoldedStateLaws.{path_same}
use Rattle.test_definitions.specs.Alike.{StandAlike, StaysAlike}
use Rattle.test_definitions.proofs.ValueChanges.AddedValueLaws.{IsContainer}
use Rattle.test_definitions.proofs.ValueChanges.ContainerValueLaws.{seen_count, count_alike, key_there, value_before}
use Rattle.test_definitions.proofs.Rows.KeptRowLaws.{Idle, one, unchanged_alike, idle_alike}
use Rattle.test_definitions.proofs.Rows.OnePlaceLaws.{RefersTo, led_in_both, led_one}
use Rattle.test_definitions.proofs.Rows.OneRow.{itself}
use Rattle.test_definitions.proofs.Rows.OwningRegisterLaws.{moves_owners, changes_names, changes_uniques}
use Rattle.test_definitions.proofs.Rows.PathOriginLaws.{at_place}
use Rattle.test_definitions.proofs.Rows.PlaceRowLaws.{refers_to, typed_there}
use Rattle.test_definitions.proofs.Steps.PlaceStepLaws.{Touched}
use Rattle.test_definitions.proofs.Steps.PlaceTwoStepLaws.{Side, ReleasesWithin, PlaceSteps, mine, theirs, place_step, now_there}
use Rattle.test_definitions.proofs.ValueChanges.ReleasedPartLaws.{releases_within}
use Rattle.test_definitions.proofs.ValueChanges.RemovedPartLaws.{had_there, part_fewer, lost_cells, removed_alike}
use Rattle.test_definitions.proofs.ValueChanges.RemovedValueLaws.{IsRemoving, by_three, PresentBy, Fewer, loses}
use Rattle.test_definitions.proofs.Steps.StoreStepLaws.{leaf_held}
use Rattle.test_definitions.proofs.Steps.TextStepLaws.{text_again}

-- the index of the part that is removed
abbrev RemovedAt : Operation → Instruction → State → List ℕ → Place → ℕ → Type 0
RemovedAt Operation.PopBack i s bytes place from = from ≡ count_at bytes place.at - 1
RemovedAt Operation.PopFront i s bytes place from = from ≡ 0
RemovedAt Operation.DeleteKey i s bytes place from = found_key i s ≡ Some from
RemovedAt operation i s bytes place from = ⊥

-- DELK finds the key, by the state without copies
abbrev FoundBy : Operation → Instruction → State → Type 0
FoundBy Operation.DeleteKey i s = (j : ℕ) × (found_key i s ≡ Some j)
FoundBy operation i s = ⊤

-- if no cells go, no frozen object is freed
none_freed : (fs : List Frozen) → AllByRecursion (λ (f : Frozen). 1 ≤ f.count) fs → freed [] fs ≡ []
none_freed [] a = refl
none_freed (f ∷ fs) a =
    let there = a.0 in
    let whole : f.count - times_named f.at [] ≡ suc (f.count - 1) = omega arith in
    ap (λ n. freed_with f n (freed (names_in f.value) fs) (freed [] fs)) whole ∙ none_freed fs a.1

-- ---- what is freed

-- one part of the place is destroyed, and so are frozen objects
record PartFreed {others : List Root} {s : State} {bytes : List ℕ} (p : Pictures others s bytes) (new : List ℕ) (place : Place) (from : ℕ) : Type 0 where
  own : List ℕ
  part : PartBlocks bytes s.types place from own
  shared : List ℕ
  freeing : FrozenGone bytes p.picture (names_in part.value) shared
  left : live new ≡ after_gives (live bytes) (own ++ shared)

module _ (constants : List Constant) (i : Instruction) (which : IsRemoving i.operation) {others : List Root} {s : State} {bytes : List ℕ} (p : Pictures others s bytes) (new : List ℕ) (found : RefersTo s i.b) where
  -- register b refers to one place
  one_place : (place other : Place) (form form' : Form) → LedTo constants i p place form → LedTo constants i p other form' → (place ≡ other) × (form ≡ form')
  one_place = led_one constants i (itself others (places_of p.owned) bytes p refl) p p refl refl found

  pop_part : (place : Place) (form : Form) (j : ℕ) (gives : List ℕ) → IsContainer form → PopGoes constants i p place form j gives → PartGoes constants i p place j gives
  pop_part place (Form.vec U) j gives c g = g
  pop_part place (Form.list U) j gives c g = g
  pop_part place (Form.flat_map U) j gives c g = g
  pop_part place (Form.map U) j gives c g = g
  pop_part place form j gives c g = absurd c

  lost_last : (place : Place) (form : Form) → IsContainer form → LosesLast constants i p new place form → KeepsParts bytes new s.types place (count_at bytes place.at - 1) 1 0
  lost_last place (Form.vec U) c k = k
  lost_last place (Form.list U) c k = k
  lost_last place (Form.flat_map U) c k = k
  lost_last place (Form.map U) c k = k
  lost_last place form c k = absurd c

  module _ (changed : ChangesBlocks constants i p success new) where
    grants : GrantsAsks constants i p new
    grants = by_three (λ o. ChangesOnSuccess constants i p o new → GrantsAsks constants i p new) i.operation which (λ g. g) (λ g. g) (λ g. g) changed

    left_is : live new ≡ after_gives (live bytes) grants.gives
    left_is =
        let asks : grants.asks ≡ [] = by_three (λ o. AsksBy constants i p o grants.asks → grants.asks ≡ []) i.operation which (λ e. e) (λ e. e) (λ e. e) grants.asked in
        let blocks : live bytes ≡ grants.blocks = (let e : Some (live bytes) ≡ Some grants.blocks = ap (after_asks (word bytes allocator_word) (live bytes) (length bytes)) (sym asks) ∙ grants.granted in cc) in
        grants.left ∙ (λ j. after_gives (sym blocks j) (spending.replaced (word bytes allocator_word) (live bytes) (length bytes) (asks j) ++ grants.gives))

    part_goes : (place : Place) (form : Form) → LedTo constants i p place form → IsContainer form → (from : ℕ) → RemovedAt i.operation i s bytes place from → PartGoes constants i p place from grants.gives
    part_goes place form l container from at =
        by_three (λ o. ReturnsBy constants i p o grants.gives → RemovedAt o i s bytes place from → PartGoes constants i p place from grants.gives) i.operation which back front delete grants.returned at
      where
        there : (other : Place) (form' : Form) → LedTo constants i p other form' → (j : ℕ) → j ≡ from → PartGoes constants i p other j grants.gives → PartGoes constants i p place from grants.gives
        there other form' m j e g = (
            let o = one_place place other form form' l m in
            subst (λ n. PartGoes constants i p place n grants.gives) e (subst (λ z. PartGoes constants i p z j grants.gives) (sym o.0) g))

        container_too : (other : Place) (form' : Form) → LedTo constants i p other form' → IsContainer form'
        container_too other form' m = subst IsContainer (one_place place other form form' l m).1 container

        back : ReturnsBy constants i p Operation.PopBack grants.gives → RemovedAt Operation.PopBack i s bytes place from → PartGoes constants i p place from grants.gives
        back r e = (
            let same = (one_place place r.0 form r.1 l r.2).0 in
            there r.0 r.1 r.2 (count_at bytes r.0.at - 1) (ap (λ (z : Place). count_at bytes z.at - 1) (sym same) ∙ sym e) (pop_part r.0 r.1 (count_at bytes r.0.at - 1) grants.gives (container_too r.0 r.1 r.2) r.3))

        front : ReturnsBy constants i p Operation.PopFront grants.gives → RemovedAt Operation.PopFront i s bytes place from → PartGoes constants i p place from grants.gives
        front r e = there r.0 r.1 r.2 0 (sym e) (pop_part r.0 r.1 0 grants.gives (container_too r.0 r.1 r.2) r.3)

        delete : ReturnsBy constants i p Operation.DeleteKey grants.gives → RemovedAt Operation.DeleteKey i s bytes place from → PartGoes constants i p place from grants.gives
        delete r e = there r.0 r.1 r.2 from refl (subst (λ o. KeyGoes constants i p r.0 o grants.gives) e r.3)

    part_freed : (place : Place) (form : Form) → LedTo constants i p place form → IsContainer form → (from : ℕ) → RemovedAt i.operation i s bytes place from → PartFreed p new place from
    part_freed place form l container from at =
        let goes = part_goes place form l container from at in
        let with_frozen = goes.gives_are in
        record { own = goes.own; part = goes.part; shared = with_frozen.0; freeing = with_frozen.1; left = left_is ∙ ap (after_gives (live bytes)) with_frozen.2 }

    -- a byte has no blocks
    byte_freed : i.operation ≡ Operation.PopBack → (place : Place) → LedTo constants i p place Form.str → grants.gives ≡ []
    byte_freed is place l =
        let r : ReturnsBy constants i p Operation.PopBack grants.gives = subst (λ o. ReturnsBy constants i p o grants.gives) is grants.returned in
        subst (λ form. PopGoes constants i p r.0 form (count_at bytes r.0.at - 1) grants.gives) (sym (one_place place r.0 Form.str r.1 l r.2).1) r.3

  -- the image stays, or the place's other parts do
  parts_kept : KeepsBy constants i p i.operation new → (place : Place) (form : Form) → LedTo constants i p place form → IsContainer form → (from : ℕ) → RemovedAt i.operation i s bytes place from
      → (new ≡ bytes) ⊎ KeepsParts bytes new s.types place from 1 0
  parts_kept k place form l container from at =
      by_three (λ o. KeepsBy constants i p o new → RemovedAt o i s bytes place from → (new ≡ bytes) ⊎ KeepsParts bytes new s.types place from 1 0) i.operation which back front delete k at
    where
      there : (other : Place) (form' : Form) → LedTo constants i p other form' → (j : ℕ) → j ≡ from → KeepsParts bytes new s.types other j 1 0 → KeepsParts bytes new s.types place from 1 0
      there other form' m j e k = (
          let o = one_place place other form form' l m in
          subst (λ n. KeepsParts bytes new s.types place n 1 0) e (subst (λ (z : Place). KeepsParts bytes new s.types z j 1 0) (sym o.0) k))

      back : KeepsBy constants i p Operation.PopBack new → RemovedAt Operation.PopBack i s bytes place from → (new ≡ bytes) ⊎ KeepsParts bytes new s.types place from 1 0
      back (inl e) at = inl e
      back (inr c) at = inr (
          let o = one_place place c.0 form c.1 l c.2 in
          there c.0 c.1 c.2 (count_at bytes c.0.at - 1) (ap (λ (z : Place). count_at bytes z.at - 1) (sym o.0) ∙ sym at) (lost_last c.0 c.1 (subst IsContainer o.1 container) c.3))

      front : KeepsBy constants i p Operation.PopFront new → RemovedAt Operation.PopFront i s bytes place from → (new ≡ bytes) ⊎ KeepsParts bytes new s.types place from 1 0
      front (inl e) at = inl e
      front (inr c) at = inr (there c.0 c.1 c.2 0 (sym at) c.3)

      delete : KeepsBy constants i p Operation.DeleteKey new → RemovedAt Operation.DeleteKey i s bytes place from → (new ≡ bytes) ⊎ KeepsParts bytes new s.types place from 1 0
      delete k at = by k.1
        where
          by : SameOrAt constants i p new (λ place form. (j : ℕ) × (found_key i s ≡ Some j) × KeepsParts bytes new s.types place j 1 0) → (new ≡ bytes) ⊎ KeepsParts bytes new s.types place from 1 0
          by (inl e) = inl e
          by (inr c) = inr (there c.0 c.1 c.2 c.3.0 (Some_inj (sym c.3.1 ∙ at)) c.3.2)

-- ---- one row

module _ {constants : List Constant} {others : List Root} {i : Instruction} (which : IsRemoving i.operation) {places bytes new : List ℕ} {answer : Answer} {t : State} {after : Pictures others t new} {s : State}
    (k : Side constants others i places bytes new answer after s) (found : RefersTo s i.b) (changed : ChangesBlocks constants i k.before success new) where
  part_within : (place : Place) (form : Form) (its : List ℕ) → Touched constants i true k.before new place form its → IsContainer form → (from : ℕ) → RemovedAt i.operation i s bytes place from → KeepsParts bytes new s.types place from 1 0
      → ReleasesWithin k.before after place its k.frozen
  part_within place form its touched container from at kept =
      let p = k.before in
      let f = touched.led_to.form_is in
      let freed = part_freed constants i which p new found changed place form touched.led_to container from at in
      let there = had_there bytes new s.types place form f from kept (subst (λ (a : Table). Holds bytes a place touched.value its) p.types touched.holds_it) in
      releases_within k found place form its touched (record { own = freed.own; gone = names_in freed.part.value; shared = freed.shared; freeing = freed.freeing; left = freed.left })
      (part_fewer bytes new s.types place form f from freed.own freed.part there.had there.long)
      (λ v news h. lost_cells bytes new s.types place form f from freed.own freed.part there.had there.long container kept (subst (λ (a : Table). Holds new a place v news) p.types h))

  byte_within : i.operation ≡ Operation.PopBack → (place : Place) (its : List ℕ) → Touched constants i true k.before new place Form.str its → ReleasesWithin k.before after place its k.frozen
  byte_within is place its touched =
      let p = k.before in
      let f : form_at p.picture.table place.type ≡ Some Form.str = ap (λ (a : Table). form_at a place.type) p.types ∙ touched.led_to.form_is in
      let none = byte_freed constants i which p new found changed is place touched.led_to in
      let nothing : blocks_by k.frozen.theirs (freed [] p.picture.frozen) ≡ [] = ap (blocks_by k.frozen.theirs) (none_freed p.picture.frozen p.counted.counted.some) in
      releases_within k found place Form.str its touched (record {
        own = [];
        gone = [];
        shared = [];
        freeing = record { theirs = k.frozen.theirs; holds = k.frozen.holds; blocks_are = sym nothing };
        left = left_is constants i which p new found changed ∙ ap (after_gives (live bytes)) none;
      }) (λ h. omega arith)
      (λ v news h. names_same ((leaf_held bytes p.picture.table place Form.str tt f touched.holds_it).no_cells ∙ sym (leaf_held new p.picture.table place Form.str tt f h).no_cells))

-- ---- two rows

module _ (constants : List Constant) (others : List Root) (moves : List Move) (i : Instruction) (which : IsRemoving i.operation) (x z y w : Situation) where
  no_names : changes_names i.operation ≡ false
  no_names = by_three (λ o. changes_names o ≡ false) i.operation which refl refl refl

  no_uniques : changes_uniques i.operation ≡ false
  no_uniques = by_three (λ o. changes_uniques o ≡ false) i.operation which refl refl refl

  removed : (second : Answer) (stand : StandAlike others x z) (r : RowOn constants others moves i x success y) (q : RowOn constants others moves i z second w) → FoundBy i.operation i r.before.plain → StaysAlike others success second y w
  removed second stand r q has =
      place_step constants others moves i no_names no_uniques x z y w success second stand r q keeps found true
      (λ s bytes p spot own t. by_three (λ o. TouchesBy constants i p o spot own → Both (OfPlace constants i p spot) (OfFrozen p) own) i.operation which (λ k. k) (λ k. k) (λ k. k) t) steps
    where
      keeps : moves_owners i.operation success ≡ false
      keeps = by_three (λ o. moves_owners o success ≡ false) i.operation which refl refl refl

      places : at_place i.operation ≡ true
      places = by_three (λ o. at_place o ≡ true) i.operation which refl refl refl

      found : RefersTo r.before.plain i.b
      found = refers_to constants i x.state x.image r.before success y.state r.row places

      side : Side constants others i x.owned x.image y.image success r.after.pictured r.before.plain
      side = mine constants others moves i no_names no_uniques x z y w success second stand r q keeps found

      other : Side constants others i x.owned z.image w.image second q.after.pictured r.before.plain
      other = theirs constants others moves i no_names no_uniques x z y w success second stand r q keeps found

      theirs_success : ChangesBlocks constants i other.before success w.image
      theirs_success = subst (λ a. ChangesBlocks constants i other.before a w.image) (sym (one constants others moves i x z y w success second stand r q).0) other.blocks

      table_form : {bytes : List ℕ} (p : Pictures others r.before.plain bytes) (place : Place) (form : Form) → LedTo constants i p place form → form_at p.picture.table place.type ≡ Some form
      table_form p place form l = ap (λ (k : Table). form_at k place.type) p.types ∙ l.form_is

      -- what the row removes
      row_loses : (place : Place) (form : Form) (its : List ℕ) (t : Touched constants i true side.before y.image place form its)
          → ((i.operation ≡ Operation.PopBack) × (form ≡ Form.str)) ⊎ Fewer x.state y.state t.led_to.path form
      row_loses place form its t = by r.row
        where
          there : path_of x.state i.b ≡ Some t.led_to.path
          there = ap (λ (s : State). path_of s i.b) r.before.trees ∙ path_same (meaning_in (word x.image next_word) r.before.pictured.picture) r.before.plain i.b ∙ t.led_to.path_is

          present : PresentBy i.operation i.c x.state t.led_to.path
          present = by_three (λ o. FoundBy o i r.before.plain → PresentBy o i.c x.state t.led_to.path) i.operation which (λ k. tt) (λ k. tt)
              (λ k. (
              let old = value_before constants i side.before found place form its t in
              subst (λ (s : State). PresentBy Operation.DeleteKey i.c s t.led_to.path) (sym r.before.trees) (k.0, key_there i r.before.pictured t.led_to.path t.led_to.path_is old.value old.value_is (Some k.0) k.1))) has

          by : RowWith constants i x.image x.state success y.state → ((i.operation ≡ Operation.PopBack) × (form ≡ Form.str)) ⊎ Fewer x.state y.state t.led_to.path form
          by (inl (room, e)) =
              let typed = typed_there constants i x.state x.image r.before success y.state r.row places place form t.led_to in
              loses constants i.a i.b i.c i.number room x.state y.state t.led_to.path there form typed i.operation which present e
          by (inr (u, full)) = absurd (let e : success ≡ numbers_used_up = u.code in cc)

      -- if the image stayed, the cell would count one more than clients see
      parts_there : {bytes new : List ℕ} {st : State} (p : Pictures others r.before.plain bytes) (after : Pictures others st new) (place : Place) (form : Form) → LedTo constants i p place form
          → KeepsBy constants i p i.operation new → (path : Path) (pp : Fewer x.state y.state path form) → path_value (trees_of after) path ≡ Some (node pp.label pp.now)
          → {now : Value} {blocks : List ℕ} → Holds new p.picture.table place now blocks → path_value st path ≡ Some now
          → count_at bytes place.at ≡ count pp.was → (from : ℕ) → RemovedAt i.operation i r.before.plain bytes place from → KeepsParts bytes new r.before.plain.types place from 1 0
      parts_there {bytes = bytes} {new = new} p after place form l k path pp seen holds_now value_is counted from at = elim (parts_kept constants i which p new found k place form l pp.container from at) [
        | inl e ↦ (
            let now_counted = seen_count after path p.picture.table place form (table_form p place form l) pp.container holds_now value_is pp.label pp.now seen in
            absurd (omega (arith, counted, now_counted, pp.shorter, ap (λ (bs : List ℕ). count_at bs place.at) e)))
        | inr parts ↦ parts
      ]

      part_steps : (place : Place) (form : Form) (its : List ℕ) (t : Touched constants i true side.before y.image place form its) (u : Touched constants i true other.before w.image place form its) → Fewer x.state y.state t.led_to.path form
          → PlaceSteps constants others moves i no_names no_uniques x z y w success second stand r q keeps found place form its t u
      part_steps place form its t u pp =
          let path = t.led_to.path in
          let both = one constants others moves i x z y w success second stand r q in
          let table = side.before.picture.table in
          let f = table_form side.before place form t.led_to in
          let seen = ap (λ (s : State). path_value s path) (sym r.after.trees) ∙ pp.there in
          let seen_too = ap (λ (s : State). path_value s path) (sym q.after.trees ∙ sym both.1) ∙ pp.there in
          let nx = now_there constants others moves i no_names no_uniques x z y w success second stand r q keeps found side place form its t in
          let nz = now_there constants others moves i no_names no_uniques x z y w success second stand r q keeps found other place form its u in
          let paths : u.led_to.path ≡ path = (let e : Some u.led_to.path ≡ Some path = sym u.led_to.path_is ∙ t.led_to.path_is in cc) in
          let their_value : path_value q.after.plain path ≡ Some nz.now = ap (λ (k : Path). path_value q.after.plain k) (sym paths) ∙ nz.value_is in
          let like = (led_in_both constants i stand.images side.before other.before side.at other.at found place form t.led_to).alike_at in
          let counts = count_alike x.image z.image table place form f pp.container like in
          let old = value_before constants i side.before found place form its t in
          let counted = seen_count side.before path table place form f pp.container old.holds_it old.value_is pp.was_label pp.was (ap (λ (s : State). path_value s path) (sym r.before.trees) ∙ pp.was_there) in
          let at : (from : ℕ) × RemovedAt i.operation i r.before.plain x.image place from × RemovedAt i.operation i r.before.plain z.image place from =
          by_three (λ o. FoundBy o i r.before.plain → (from : ℕ) × RemovedAt o i r.before.plain x.image place from × RemovedAt o i r.before.plain z.image place from) i.operation which
          (λ k. (count_at x.image place.at - 1, refl, ap (λ n. n - 1) (sym counts))) (λ k. (0, refl, refl)) (λ k. (k.0, k.1, k.1)) has in
          let kept = parts_there side.before r.after.pictured place form t.led_to side.ties.kept_by path pp seen nx.holds_now nx.value_is counted at.0 at.1 in
          let kept_too = parts_there other.before q.after.pictured place form u.led_to other.ties.kept_by path pp seen_too nz.holds_now their_value (counts ∙ counted) at.0 at.2 in
          let here = λ (old new : List ℕ). subst (λ (a : Table). KeepsParts old new a place at.0 1 0) (sym side.before.types) in
          record {
            within_first = part_within which side found side.blocks place form its t pp.container at.0 at.1 kept;
            within_second = part_within which other found theirs_success place form its u pp.container at.0 at.2 kept_too;
            inner = λ a b xs ys h fits k fits_too m n same forth back once once_too.
                removed_alike x.image y.image z.image w.image table place form f pp.container at.0 like (here x.image y.image kept) (here z.image w.image kept_too) t.holds_it h fits k fits_too m n same forth back once once_too;
          }

      byte_steps : (place : Place) (form : Form) (its : List ℕ) (t : Touched constants i true side.before y.image place form its) (u : Touched constants i true other.before w.image place form its)
          → (i.operation ≡ Operation.PopBack) × (form ≡ Form.str) → PlaceSteps constants others moves i no_names no_uniques x z y w success second stand r q keeps found place form its t u
      byte_steps place form its t u (is, text) = record {
        within_first = byte_within which side found side.blocks is place its (subst (λ g. Touched constants i true side.before y.image place g its) text t);
        within_second = byte_within which other found theirs_success is place its (subst (λ g. Touched constants i true other.before w.image place g its) text u);
        inner = λ a b xs ys h fits k fits_too m n same forth back once once_too.
            text_again y.image w.image side.before.picture.table place (table_form side.before place form t.led_to ∙ ap Some text) h fits k fits_too m n same forth back;
      }

      steps : (place : Place) (form : Form) (its : List ℕ) (t : Touched constants i true side.before y.image place form its) (u : Touched constants i true other.before w.image place form its)
          → PlaceSteps constants others moves i no_names no_uniques x z y w success second stand r q keeps found place form its t u
      steps place form its t u = elim (row_loses place form its t) [
        | inl byte ↦ byte_steps place form its t u byte
        | inr fewer ↦ part_steps place form its t u fewer
      ]

  -- if DELK lacks the key, the image stays as it is
  absent_or_removed : (second : Answer) (stand : StandAlike others x z) (r : RowOn constants others moves i x success y) (q : RowOn constants others moves i z second w) → IsRemoving i.operation → StaysAlike others success second y w
  absent_or_removed second stand r q (inl e) = removed second stand r q (subst (λ o. FoundBy o i r.before.plain) (sym e) tt)
  absent_or_removed second stand r q (inr (inl e)) = removed second stand r q (subst (λ o. FoundBy o i r.before.plain) (sym e) tt)
  absent_or_removed second stand r q (inr (inr e)) = by (found_key i r.before.plain) refl
    where
      by : (o : Option ℕ) → found_key i r.before.plain ≡ o → StaysAlike others success second y w
      by None f = idle_alike constants others moves i x z y w success second stand r q (subst (Idle constants i r.before.pictured) (sym e) f)
      by (Some j) f = removed second stand r q (subst (λ o. FoundBy o i r.before.plain) (sym e) (j, f))

  pub removing_alike : (first second : Answer) → StandAlike others x z → RowOn constants others moves i x first y → RowOn constants others moves i z second w → StaysAlike others first second y w
  removing_alike success second stand r q = absent_or_removed second stand r q which
  removing_alike first second stand r q = unchanged_alike constants others moves i x z y w first second stand r q (by_three (λ o. keeps_image o first ≡ true) i.operation which refl refl refl)
