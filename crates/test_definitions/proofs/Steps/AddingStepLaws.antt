-- Two situations that clients can't tell apart stay so after PUSH, PUSHF and PUTK.
use Rattle.std.proofs.Common.{◌≡◌, ℕ, ℤ, ◌≤◌, ◌⊎◌, inl, inr, true, false, List, [], ◌∷◌, ◌++◌, length, Option, Some, None, refl, sym, ap, ◌∙◌, subst, arith, length-append}
use Rattle.std.specs.List.{AllByRecursion}
use Rattle.seg_spec.specs.Items.{keys_below}
use Rattle.seg_spec.specs.Bytes.{word}
use Rattle.seg_spec.specs.Header.{allocator_word, next_word}
use Rattle.seg_spec.specs.Types.{Form, Table, form_at}
use Rattle.seg_spec.specs.Value.{Label, Value, Values, node, cons, count, append}
use Rattle.seg_spec.specs.Heap.{live}
use Rattle.seg_spec.specs.Reads.{Place, Opened, Opens, Holds, count_at, named}
use Rattle.seg_spec.specs.Parts.{KeepsParts}
use Rattle.seg_spec.specs.Index.{Root}
use Rattle.seg_spec.specs.Sound.{times, positions}
use Rattle.seg_spec.specs.Shared.{names_in, IsBelow, replaced, replaced_each}
use Rattle.seg_spec.specs.Counting.{owners_in}
use Rattle.seg_spec.proofs.Heap.LiveBlockLaws.{times-append, live-once}
use Rattle.seg_spec.proofs.Values.OneValueLaws.{Holds-one}
use Rattle.seg_spec.proofs.Values.PlaceFrameLaws.{each_weaker}
use Rattle.seg_spec.proofs.Values.PathSplitLaws.{count_is}
use Rattle.client_spec.specs.declared.table.Operation.{Operation}
use Rattle.client_spec.specs.Syntax.{Constant, Instruction}
use Rattle.client_spec.specs.Machine.{◌>>=◌, Path, State, path_value}
use Rattle.client_spec.specs.Answer.{Answer, success, numbers_used_up, integer_at, path_of, entries_in}
use Rattle.client_spec.specs.Pictures.{Pictures, meaning_in, trees_of}
use Rattle.client_spec.specs.Asks.{LedTo, found_key, new_index, ChangesBlocks}
use Rattle.client_spec.specs.Ties.{SameOrAt, OfPlace, TouchesBy, KeepsBy, keeps_image, places_of}
use Rattle.client_spec.specs.OnImages.{Move, Situation, RowWith, RowOn}
use Rattle.client_spec.proofs.TypedStates.ValueLaws.{Some_inj, bind_some}
use Rattle.client_spec.proofs.Unfolded.PictureTreeLaws.{all_named}
use Rattle.client_spec.proofs.Unfolded.UnfoldedStateLaws.{integer_same, path_same, value_same}
use Rattle.client_spec.proofs.Unfolded.UnfoldedValueLaws.{nothing_replaced, append_replaced, count_replaced}
use Rattle.client_sim.proofs.Frozen.ReadOnlyLaws.{named_at}
use Rattle.test_definitions.specs.Alike.{StandAlike, StaysAlike}
use Rattle.test_definitions.proofs.ValueChanges.AlikePlaceLaws.{buffer_blocks}
use Rattle.test_definitions.proofs.ValueChanges.ChangedPlaceLaws.{own_owner, value_below}
use Rattle.test_definitions.proofs.Rows.ChangedPlaceRowLaws.{cells_of}
use Rattle.test_definitions.proofs.ValueChanges.ContainerValueLaws.{seen_count, count_alike, key_there, value_before}
use Rattle.test_definitions.proofs.Rows.KeptRowLaws.{Idle, one, unchanged_alike, idle_alike}
use Rattle.test_definitions.proofs.ValueChanges.NewPartLaws.{Was, was_there, was_alike, Came, came_there, came_alike, container_label, container_long, may_go, one_more_block}
use Rattle.test_definitions.proofs.Rows.OnePlaceLaws.{RefersTo, led_in_both, led_one}
use Rattle.test_definitions.proofs.Rows.OneRow as one_row
use Rattle.test_definitions.proofs.Alike.OwnedBlockLaws.{owned_open}
use Rattle.test_definitions.proofs.Rows.OwningRegisterLaws.{moves_owners, changes_names, changes_uniques}
use Rattle.test_definitions.proofs.Rows.PathOriginLaws.{at_place}
use Rattle.test_definitions.proofs.Rows.PlaceRowLaws.{refers_to, form_there}
use Rattle.test_definitions.proofs.Steps.PlaceStepLaws.{Touched}
use Rattle.test_definitions.proofs.Steps.PlaceTwoStepLaws.{Side, ChangesWithin, PlaceSteps, mine, theirs, within_whole, place_step, now_there, beside}
use Rattle.test_definitions.proofs.ValueChanges.AddedValueLaws.{IsAdding, IsContainer, IndexBy, AbsentBy, Added, adds, entries_value, default_empty, NoContent, FullAt, no_cells, full_at}
use Rattle.test_definitions.proofs.ValueChanges.AddedValueLaws.{next_one, item_is, cells_between, cells_with, SeenLabel, map_seen, values_in, label_in}
use Rattle.test_definitions.proofs.Alike.GrownBlockLaws.{Gets, by_three, LacksBy, adding_gets, few_more}

-- ---- the new part

module _ {others : List Root} {s : State} {new : List ℕ} (after : Pictures others s new) (path : Path) {op : Operation} {c : ℕ} {X Y : State} (pp : Added op c X Y path)
    (seen : path_value (trees_of after) path ≡ Some (node pp.label pp.now)) where
  seen_as : {w : Value} → path_value s path ≡ Some w → replaced (meaning_in (word new next_word) after.picture) w ≡ node pp.label pp.now
  seen_as {w = w} is = (
      let mean = meaning_in (word new next_word) after.picture in
      let e : Some (replaced mean w) ≡ Some (node pp.label pp.now) = sym (value_same mean s path w is) ∙ seen in cc)

  -- the new part has no shared cells
  bare_part : (label : Label) → SeenLabel label → (left right : Values) (v w : Value) → count left ≡ pp.at → pp.at ≤ count pp.was → w ≡ node label (append left (cons v right)) → path_value s path ≡ Some w → names_in v ≡ []
  bare_part label label_seen left right v w long within w_is is =
      let next = word new next_word in
      let fs = after.picture.frozen in
      let mean = meaning_in next after.picture in
      let d = after.counted.counted in
      let values : replaced_each mean (append left (cons v right)) ≡ pp.now = values_in (sym (label_seen.trees mean (append left (cons v right))) ∙ ap (replaced mean) (sym w_is) ∙ seen_as is) in
      let is_default = item_is mean left right v pp.now pp.at _ long (pp.new_is within) values in
      let below = named_at (IsBelow next fs) s (all_named (IsBelow next fs) after d.named) path w is in
      let these = cells_between (IsBelow next fs) left right v (subst (AllByRecursion (IsBelow next fs)) (ap names_in w_is ∙ label_seen.cells (append left (cons v right))) below) in
      no_cells mean v (subst NoContent (sym is_default) (default_empty X.types pp.type)) (each_weaker (IsBelow next fs) (FullAt mean) (λ q b. full_at fs d.distinct d.falling next q b) (names_in v) these)

-- the blocks that may go are among the blocks of the place
goes_within : (form : Form) (blocks : List ℕ) (h : ℕ) → times h (may_go form blocks) ≤ times h blocks
goes_within (Form.list U) blocks h = omega arith
goes_within (Form.map U) blocks h = omega arith
goes_within form blocks h = omega arith

goes_same : (bytes : List ℕ) (table : Table) (place : Place) (form : Form) (o : Opened) → IsContainer form → Opens bytes table place form o → may_go form o.blocks ≡ may_go form (named bytes place.at)
goes_same bytes table place (Form.vec U) o s p = buffer_blocks bytes table place o (Form.vec U) refl p
goes_same bytes table place (Form.list U) o s p = refl
goes_same bytes table place (Form.flat_map U) o s p = buffer_blocks bytes table place o (Form.flat_map U) refl p
goes_same bytes table place (Form.map U) o s p = refl
goes_same bytes table place form o s p = absurd s

no_length : (xs : List ℕ) → length xs ≤ 0 → xs ≡ []
no_length [] l = refl
no_length (x ∷ xs) l = absurd (omega (arith, l))

module _ (old new : List ℕ) (table : Table) (place : Place) (form : Form) (f : form_at table place.type ≡ Some form) (container : IsContainer form) {front rest : List Place} {left right : Values} {us vs : List ℕ} {v : Value} {its : List ℕ}
    (was : Was old table place form front rest left right us vs v its) where
  gone_within : (h : ℕ) → times h (may_go form (named old place.at)) ≤ times h its
  gone_within h = omega (arith, ap (times h) (sym (goes_same old table place form was.before container was.opens)), goes_within form was.before.blocks h, ap (times h) was.blocks_are, times-append h was.before.blocks (us ++ vs))

  -- the new part owns no blocks
  no_new_blocks : {w : Value} {news : List ℕ} (c : Came old new table place form f container front rest left right us vs w news) → Gets (live old) (live new) (may_go form (named old place.at))
      → ((h : ℕ) → times h its ≤ times h (positions (live old))) → ((h : ℕ) → times h (positions (live old)) ≤ 1) → ((h : ℕ) → times h news ≤ 1)
      → ((h : ℕ) → 1 ≤ times h news → (1 ≤ times h (positions (live new))) × ((times h (positions (live old)) ≡ 0) ⊎ (1 ≤ times h its))) → c.its ≡ []
  no_new_blocks {news = news} c gets below one_live once still =
      let one = one_more_block old new table place form f container was c in
      let goes = ap length (goes_same old table place form was.before container was.opens) in
      let few = few_more (live old) (live new) (may_go form (named old place.at)) news its gets (omega (arith, one.1, goes)) gone_within below one_live once still in
      let a = ap length c.blocks_are ∙ length-append c.after.blocks (us ++ (c.its ++ vs)) in
      let b = length-append us (c.its ++ vs) in
      let d = length-append c.its vs in
      let e = ap length was.blocks_are ∙ length-append was.before.blocks (us ++ vs) in
      let g = length-append us vs in
      no_length c.its (omega (arith, few, one.0, goes, a, b, d, e, g))

  module _ {from : ℕ} (long : length front ≡ from) (kept : KeepsParts old new table place from 0 1) {others : List Root} {s : State} (after : Pictures others s new) (path : Path) {op : Operation} {e : ℕ} {X Y : State}
      (pp : Added op e X Y path) (at_is : pp.at ≡ from) (counted : count_at old place.at ≡ count pp.was) (seen : path_value (trees_of after) path ≡ Some (node pp.label pp.now)) {now : Value} {blocks : List ℕ}
      (holds_now : Holds new table place now blocks) (value_is : path_value s path ≡ Some now) where
    record NewPart (w : Value) (news : List ℕ) : Type 0 where
      came : Came old new table place form f container front rest left right us vs w news
      none : names_in came.value ≡ []
      label_seen : SeenLabel came.after.label

    new_part : {w : Value} {news : List ℕ} → Holds new table place w news → NewPart w news
    new_part {w = w} h =
        let c = came_there old new table place form f container from was long kept h in
        let same : now ≡ w = (Holds-one new table holds_now h).0 in
        let seen_label = container_label new table place form c.after container c.opens in
        let left_long : count left ≡ pp.at = sym (count_is old table was.lefts) ∙ long ∙ sym at_is in
        let total = ap length was.parts_are ∙ length-append front rest in
        let within : pp.at ≤ count pp.was = omega (arith, at_is, long, total, container_long old table place form was.before container was.opens, counted) in
        record {
          came = c;
          none = bare_part after path pp seen c.after.label seen_label left right c.value w left_long within c.value_is (value_is ∙ ap Some same);
          label_seen = seen_label;
        }

    -- the new value has the old value's shared cells
    cells_then : (P : Place → Type 0) → AllByRecursion P (names_in v) → {w : Value} {news : List ℕ} → Holds new table place w news → AllByRecursion P (names_in w)
    cells_then P below h =
        let n = new_part h in
        let label = container_label old table place form was.before container was.opens in
        subst (AllByRecursion P) (sym (ap names_in n.came.value_is ∙ n.label_seen.cells (append left (cons n.came.value right))))
        (cells_with P left right n.came.value n.none (subst (AllByRecursion P) (ap names_in was.value_is ∙ label.cells (append left right)) below))

-- the new values are the same if clients see the same
same_new : (m n : ℕ → Value) (a b : Label) → SeenLabel a → SeenLabel b → (left right : Values) (u v : Value) → names_in u ≡ [] → names_in v ≡ []
    → replaced m (node a (append left (cons u right))) ≡ replaced n (node b (append left (cons v right))) → (a ≡ b) × (u ≡ v)
unfolding replaced
same_new m n a b a_seen b_seen left right u v none none_too e =
    let all : node a (replaced_each m (append left (cons u right))) ≡ node b (replaced_each n (append left (cons v right))) = sym (a_seen.trees m (append left (cons u right))) ∙ e ∙ b_seen.trees n (append left (cons v right)) in
    let values : append (replaced_each m left) (cons (replaced m u) (replaced_each m right)) ≡ append (replaced_each n left) (cons (replaced n v) (replaced_each n right)) =
    sym (append_replaced m left (cons u right)) ∙ values_in all ∙ append_replaced n left (cons v right) in
    let next = next_one (replaced_each m left) (replaced_each n left) (replaced_each m right) (replaced_each n right) (replaced m u) (replaced n v) (count_replaced m left ∙ sym (count_replaced n left)) values in
    (label_in all, sym (nothing_replaced m u none) ∙ next ∙ nothing_replaced n v none_too)

module _ (i : Instruction) {others : List Root} {s : State} {bytes : List ℕ} (p : Pictures others s bytes) (path : Path) (is : path_of s i.b ≡ Some path) where
  -- the index of a new key
  index_there : (j : ℕ) → new_index i s ≡ Some j → (at : ℕ) → ((k : ℤ) (es : List ℤ × Values) → integer_at (trees_of p) i.c ≡ Some k → (path_value (trees_of p) path >>= entries_in) ≡ Some es → at ≡ keys_below es.0 k) → at ≡ j
  index_there j e at at_is =
      let mean = meaning_in (word bytes next_word) p.picture in
      let q = bind_some (path_of s i.b) (λ q. integer_at s i.c >>= λ k. (path_value s q >>= entries_in) >>= λ (es : List ℤ × Values). Some (keys_below es.0 k)) j e in
      let k = bind_some (integer_at s i.c) (λ k. (path_value s q.0 >>= entries_in) >>= λ (es : List ℤ × Values). Some (keys_below es.0 k)) j q.2 in
      let es = bind_some (path_value s q.0 >>= entries_in) (λ (es : List ℤ × Values). Some (keys_below es.0 k.0)) j k.2 in
      let v = bind_some (path_value s q.0) entries_in es.0 es.1 in
      let paths : q.0 ≡ path = Some_inj (sym q.1 ∙ is) in
      let value_is : path_value s path ≡ Some v.0 = ap (λ (z : Path). path_value s z) (sym paths) ∙ v.1 in
      let v_is : replaced mean v.0 ≡ node (Label.map es.0.0) (replaced_each mean es.0.1) = ap (replaced mean) (entries_value v.0 es.0 v.2) ∙ (map_seen es.0.0).trees mean es.0.1 in
      let entries : (path_value (trees_of p) path >>= entries_in) ≡ Some (es.0.0, replaced_each mean es.0.1) = ap (λ o. o >>= entries_in) (value_same mean s path v.0 value_is ∙ ap Some v_is) in
      at_is k.0 (es.0.0, replaced_each mean es.0.1) (integer_same mean s i.c ∙ k.1) entries ∙ Some_inj es.2

-- the index of the new part, by the state without copies
abbrev IndexedBy : Operation → Instruction → State → Values → ℕ → Type 0
IndexedBy Operation.PushBack i s was at = at ≡ count was
IndexedBy Operation.PushFront i s was at = at ≡ 0
IndexedBy Operation.PutKey i s was at = (j : ℕ) → new_index i s ≡ Some j → at ≡ j
IndexedBy operation i s was at = ⊥

-- ---- PUSH, PUSHF and PUTK

module _ (constants : List Constant) (others : List Root) (moves : List Move) (i : Instruction) (which : IsAdding i.operation) (x z y w : Situation) where
  no_names : changes_names i.operation ≡ false
  no_names = by_three (λ o. changes_names o ≡ false) i.operation which refl refl refl

  no_uniques : changes_uniques i.operation ≡ false
  no_uniques = by_three (λ o. changes_uniques o ≡ false) i.operation which refl refl refl

  -- the image stays, or the place's other parts do
  parts_kept : {s : State} {bytes new : List ℕ} (p : Pictures others s bytes) → RefersTo s i.b → KeepsBy constants i p i.operation new → (place : Place) (form : Form) (l : LedTo constants i p place form) (was : Values) (at : ℕ)
      → IndexedBy i.operation i s was at → count_at bytes place.at ≡ count was → (new ≡ bytes) ⊎ KeepsParts bytes new p.picture.table place at 0 1
  parts_kept {s = s} {bytes = bytes} {new = new} p found k place form l was at indexed counted =
      by_three (λ o. KeepsBy constants i p o new → IndexedBy o i s was at → (new ≡ bytes) ⊎ KeepsParts bytes new p.picture.table place at 0 1) i.operation which back front put k indexed
    where
      there : (q : Place) (form' : Form) → LedTo constants i p q form' → (from : ℕ) → at ≡ from → KeepsParts bytes new s.types q from 0 1 → KeepsParts bytes new p.picture.table place at 0 1
      there q form' m from from_is k =
          let one_place = led_one constants i (one_row.itself others (places_of p.owned) bytes p refl) p p refl refl found place q form form' l m in
          subst (λ (t : Table). KeepsParts bytes new t place at 0 1) (sym p.types)
          (subst (λ (q : Place). KeepsParts bytes new s.types q at 0 1) (sym one_place.0) (subst (λ n. KeepsParts bytes new s.types q n 0 1) (sym from_is) k))

      at_place_is : (q : Place) (form' : Form) → LedTo constants i p q form' → place ≡ q
      at_place_is q form' m = (led_one constants i (one_row.itself others (places_of p.owned) bytes p refl) p p refl refl found place q form form' l m).0

      back : KeepsBy constants i p Operation.PushBack new → IndexedBy Operation.PushBack i s was at → (new ≡ bytes) ⊎ KeepsParts bytes new p.picture.table place at 0 1
      back (inl e) index = inl e
      back (inr c) index = inr (there c.0 c.1 c.2 (count_at bytes c.0.at) (index ∙ sym counted ∙ ap (λ (q : Place). count_at bytes q.at) (at_place_is c.0 c.1 c.2)) c.3)

      front : KeepsBy constants i p Operation.PushFront new → IndexedBy Operation.PushFront i s was at → (new ≡ bytes) ⊎ KeepsParts bytes new p.picture.table place at 0 1
      front (inl e) index = inl e
      front (inr c) index = inr (there c.0 c.1 c.2 0 index c.3)

      put : KeepsBy constants i p Operation.PutKey new → IndexedBy Operation.PutKey i s was at → (new ≡ bytes) ⊎ KeepsParts bytes new p.picture.table place at 0 1
      put k index = by k.1
        where
          by : SameOrAt constants i p new (λ place form. (j : ℕ) × (new_index i s ≡ Some j) × KeepsParts bytes new s.types place j 0 1) → (new ≡ bytes) ⊎ KeepsParts bytes new p.picture.table place at 0 1
          by (inl e) = inl e
          by (inr c) = inr (there c.0 c.1 c.2 c.3.0 (index c.3.0 c.3.1) c.3.2)

  added : (second : Answer) (stand : StandAlike others x z) (r : RowOn constants others moves i x success y) (q : RowOn constants others moves i z second w) → LacksBy i.operation i r.before.plain → StaysAlike others success second y w
  added second stand r q lacks =
      place_step constants others moves i no_names no_uniques x z y w success second stand r q keeps found false
      (λ s bytes p spot own t. by_three (λ o. TouchesBy constants i p o spot own → OfPlace constants i p spot own) i.operation which (λ k. k) (λ k. k) (λ k. k) t) steps
    where
      keeps : moves_owners i.operation success ≡ false
      keeps = by_three (λ o. moves_owners o success ≡ false) i.operation which refl refl refl

      places : at_place i.operation ≡ true
      places = by_three (λ o. at_place o ≡ true) i.operation which refl refl refl

      found : RefersTo r.before.plain i.b
      found = refers_to constants i x.state x.image r.before success y.state r.row places

      side : Side constants others i x.owned x.image y.image success r.after.pictured r.before.plain
      side = mine constants others moves i no_names no_uniques x z y w success second stand r q keeps found

      other : Side constants others i x.owned z.image w.image second q.after.pictured r.before.plain
      other = theirs constants others moves i no_names no_uniques x z y w success second stand r q keeps found

      table_form : {bytes : List ℕ} (p : Pictures others r.before.plain bytes) (place : Place) (form : Form) → LedTo constants i p place form → form_at p.picture.table place.type ≡ Some form
      table_form p place form l = ap (λ (k : Table). form_at k place.type) p.types ∙ l.form_is

      row_adds : (place : Place) (form : Form) (its : List ℕ) (t : Touched constants i false side.before y.image place form its) → Added i.operation i.c x.state y.state t.led_to.path
      row_adds place form its t = by r.row
        where
          there : path_of x.state i.b ≡ Some t.led_to.path
          there = ap (λ (s : State). path_of s i.b) r.before.trees ∙ path_same (meaning_in (word x.image next_word) r.before.pictured.picture) r.before.plain i.b ∙ t.led_to.path_is

          absent : AbsentBy i.operation i.c x.state t.led_to.path
          absent = by_three (λ o. LacksBy o i r.before.plain → AbsentBy o i.c x.state t.led_to.path) i.operation which (λ k. tt) (λ k. tt)
              (λ k. (
              let old = value_before constants i side.before found place form its t in
              subst (λ (s : State). AbsentBy Operation.PutKey i.c s t.led_to.path) (sym r.before.trees) (key_there i r.before.pictured t.led_to.path t.led_to.path_is old.value old.value_is None k))) lacks

          by : RowWith constants i x.image x.state success y.state → Added i.operation i.c x.state y.state t.led_to.path
          by (inl (room, e)) = adds constants i.a i.b i.c i.number room x.state y.state t.led_to.path there i.operation which absent e
          by (inr (u, full)) = absurd (let e : success ≡ numbers_used_up = u.code in cc)

      within_place : {bytes new : List ℕ} {st : State} (p : Pictures others r.before.plain bytes) (after : Pictures others st new) (place : Place) (form : Form) (its : List ℕ) (u : Touched constants i false p new place form its)
          → IsContainer form → (path : Path)
          → (pp : Added i.operation i.c x.state y.state path) → KeepsParts bytes new p.picture.table place pp.at 0 1 → count_at bytes place.at ≡ count pp.was → path_value (trees_of after) path ≡ Some (node pp.label pp.now)
          → {now : Value} {blocks : List ℕ} → Holds new p.picture.table place now blocks → path_value st path ≡ Some now → ChangesBlocks constants i p success new → ((h : ℕ) → times h its ≤ times h (positions (live bytes)))
          → ChangesWithin p new place its
      within_place {bytes = bytes} {new = new} p after place form its u container path pp kept counted seen holds_now value_is c below =
          let l = u.led_to in
          let start = found l.path l.path_is in
          let f = table_form p place form l in
          let t = was_there bytes new p.picture.table place form f container pp.at kept u.holds_it in
          let root = cells_of (IsBelow (word bytes next_word) p.picture.frozen) (owners_in p.picture) l.stands.root p.counted.counted.named (own_owner p new l.path place l.stands start.0 start.1 its u.holds_it u.kept) in
          let cells = value_below p new l.path place l.stands start.0 start.1 its u.holds_it u.kept (word bytes next_word) p.picture.frozen root in
          let gone = gone_within bytes new p.picture.table place form f container t.was in
          let gets = adding_gets constants i p new which lacks found c place form l container (λ h. omega (arith, gone h, below h)) in
          record {
            cells = λ v news h. cells_then bytes new p.picture.table place form f container t.was t.long kept after path pp refl counted seen holds_now value_is (IsBelow (word bytes next_word) p.picture.frozen) cells h;
            lives = λ h some none. gets.stay h some (omega (arith, gone h, none));
          }

      parts_there : {bytes new : List ℕ} {st : State} (p : Pictures others r.before.plain bytes) (after : Pictures others st new) (place : Place) (form : Form) (l : LedTo constants i p place form) → IsContainer form
          → KeepsBy constants i p i.operation new → (path : Path)
          → (pp : Added i.operation i.c x.state y.state path) → IndexedBy i.operation i r.before.plain pp.was pp.at → path_value (trees_of after) path ≡ Some (node pp.label pp.now) → {now : Value} {blocks : List ℕ}
          → Holds new p.picture.table place now blocks → path_value st path ≡ Some now → count_at bytes place.at ≡ count pp.was → KeepsParts bytes new p.picture.table place pp.at 0 1
      parts_there {bytes = bytes} {new = new} p after place form l container k path pp indexed seen holds_now value_is counted = elim (parts_kept p found k place form l pp.was pp.at indexed counted) [
        | inl e ↦ (
            let now_counted = seen_count after path p.picture.table place form (table_form p place form l) container holds_now value_is pp.label pp.now seen in
            absurd (omega (arith, counted, now_counted, pp.longer, ap (λ (bs : List ℕ). count_at bs place.at) e)))
        | inr parts ↦ parts
      ]

      steps : (place : Place) (form : Form) (its : List ℕ) (t : Touched constants i false side.before y.image place form its) (u : Touched constants i false other.before w.image place form its)
          → PlaceSteps constants others moves i no_names no_uniques x z y w success second stand r q keeps found place form its t u
      steps place form its t u =
          let path = t.led_to.path in
          let pp = row_adds place form its t in
          let forms : pp.form ≡ form = (let e : Some pp.form ≡ Some form = sym pp.form_is ∙ form_there constants i x.state x.image r.before success y.state r.row places place form t.led_to in cc) in
          let container : IsContainer form = subst IsContainer forms pp.container in
          let both = one constants others moves i x z y w success second stand r q in
          let table = side.before.picture.table in
          let one_table : other.before.picture.table ≡ table = other.before.types ∙ sym side.before.types in
          let f = table_form side.before place form t.led_to in
          let seen = ap (λ (s : State). path_value s path) (sym r.after.trees) ∙ pp.there in
          let seen_too = ap (λ (s : State). path_value s path) (sym q.after.trees ∙ sym both.1) ∙ pp.there in
          let nx = now_there constants others moves i no_names no_uniques x z y w success second stand r q keeps found side place form its t in
          let nz = now_there constants others moves i no_names no_uniques x z y w success second stand r q keeps found other place form its u in
          let led = led_in_both constants i stand.images side.before other.before side.at other.at found place form t.led_to in
          let its_same : its ≡ led.its = (Holds-one x.image table t.holds_it led.holds_it).1 in
          let below : (h : ℕ) → times h its ≤ times h (positions (live x.image)) = λ h. omega (arith, ap (times h) its_same, led.are_live h) in
          let below_too : (h : ℕ) → times h its ≤ times h (positions (live z.image)) = λ h. omega (arith, below h, ap (λ bs. times h (positions bs)) stand.images.live_same) in
          let paths : u.led_to.path ≡ path = (let e : Some u.led_to.path ≡ Some path = sym u.led_to.path_is ∙ t.led_to.path_is in cc) in
          let their_value : path_value q.after.plain path ≡ Some nz.now = ap (λ (k : Path). path_value q.after.plain k) (sym paths) ∙ nz.value_is in
          let old = value_before constants i side.before found place form its t in
          let counted = seen_count side.before path table place form f container old.holds_it old.value_is pp.was_label pp.was (ap (λ (s : State). path_value s path) (sym r.before.trees) ∙ pp.was_there) in
          let counted_too = count_alike x.image z.image table place form f container led.alike_at ∙ counted in
          let indexed : IndexedBy i.operation i r.before.plain pp.was pp.at = by_three (λ o. IndexBy o i.c x.state path pp.was pp.at → IndexedBy o i r.before.plain pp.was pp.at) i.operation which (λ e. e) (λ e. e)
          (λ at_is j e. index_there i r.before.pictured path t.led_to.path_is j e pp.at (subst (λ (s : State). IndexBy Operation.PutKey i.c s path pp.was pp.at) r.before.trees at_is)) pp.at_is in
          let kept = parts_there side.before r.after.pictured place form t.led_to container side.ties.kept_by path pp indexed seen nx.holds_now nx.value_is counted in
          let kept_too = parts_there other.before q.after.pictured place form u.led_to container other.ties.kept_by path pp indexed seen_too nz.holds_now their_value counted_too in
          let theirs_success : ChangesBlocks constants i other.before success w.image = subst (λ a. ChangesBlocks constants i other.before a w.image) (sym both.0) other.blocks in
          let within = within_whole constants others moves i no_names no_uniques x z y w success second stand r q keeps found side place form its t
          (within_place side.before r.after.pictured place form its t container path pp kept counted seen nx.holds_now nx.value_is side.blocks below) in
          let within_too = within_whole constants others moves i no_names no_uniques x z y w success second stand r q keeps found other place form its u
          (within_place other.before q.after.pictured place form its u container path pp kept_too counted_too seen_too nz.holds_now their_value theirs_success below_too) in
          let start = found path t.led_to.path_is in
          let start_too = found u.led_to.path u.led_to.path_is in
          let bx = beside side path place t.led_to.stands start.0 start.1 its t.holds_it t.kept within.lives in
          let bz = beside other u.led_to.path place u.led_to.stands start_too.0 start_too.1 its u.holds_it u.kept within_too.lives in
          let was = was_there x.image y.image table place form f container pp.at kept t.holds_it in
          let like = was_alike x.image z.image table f led.alike_at was.was in
          let kept_here = subst (λ (k : Table). KeepsParts z.image w.image k place pp.at 0 1) one_table kept_too in
          let now_here = subst (λ (k : Table). Holds w.image k place nz.now nz.blocks) one_table nz.holds_now in
          let gets = adding_gets constants i side.before y.image which lacks found side.blocks place form t.led_to container (λ h. omega (arith, gone_within x.image y.image table place form f container was.was h, below h)) in
          let gets_too = adding_gets constants i other.before w.image which lacks found theirs_success place form u.led_to container (λ h. omega (arith, gone_within z.image w.image table place form f container like.was h, below_too h)) in
          record {
            within_first = within;
            within_second = within_too;
            inner = λ a b xs ys h fits k fits_too m n same forth back once once_too. (
                let c = new_part x.image y.image table place form f container was.was was.long kept r.after.pictured path pp refl counted seen nx.holds_now nx.value_is h in
                let d = new_part z.image w.image table place form f container like.was was.long kept_here q.after.pictured path pp refl counted_too seen_too now_here their_value k in
                let still : (e : ℕ) → 1 ≤ times e xs → (1 ≤ times e (positions (live y.image))) × ((times e (positions (live x.image)) ≡ 0) ⊎ (1 ≤ times e its)) =
                owned_open side.before y.image path place t.led_to.stands start.0 start.1 its t.holds_it t.kept r.after.pictured bx within.frozen_stays side.same_owners xs h in
                let still_too : (e : ℕ) → 1 ≤ times e ys → (1 ≤ times e (positions (live w.image))) × ((times e (positions (live z.image)) ≡ 0) ⊎ (1 ≤ times e its)) =
                owned_open other.before w.image u.led_to.path place u.led_to.stands start_too.0 start_too.1 its u.holds_it u.kept q.after.pictured bz within_too.frozen_stays other.same_owners ys
                (subst (λ (t : Table). Holds w.image t place b ys) (sym one_table) k) in
                let none = no_new_blocks x.image y.image table place form f container was.was c.came gets below (live-once x.image (word x.image allocator_word) side.before.held.laid_out.heap) once still in
                let none_too = no_new_blocks z.image w.image table place form f container like.was d.came gets_too below_too (live-once z.image (word z.image allocator_word) other.before.held.laid_out.heap) once_too still_too in
                let both_same = same_new m n c.came.after.label d.came.after.label c.label_seen d.label_seen was.left was.right c.came.value d.came.value c.none d.none
                (ap (replaced m) (sym c.came.value_is) ∙ same ∙ ap (replaced n) d.came.value_is) in
                came_alike x.image y.image z.image w.image table place form f container c.came d.came none none_too forth back once once_too like.fronts like.rests both_same.0 both_same.1 fits fits_too);
          }

  -- if PUTK finds the key, the image stays as it is
  found_or_added : (second : Answer) (stand : StandAlike others x z) (r : RowOn constants others moves i x success y) (q : RowOn constants others moves i z second w) → IsAdding i.operation → StaysAlike others success second y w
  found_or_added second stand r q (inl e) = added second stand r q (subst (λ o. LacksBy o i r.before.plain) (sym e) tt)
  found_or_added second stand r q (inr (inl e)) = added second stand r q (subst (λ o. LacksBy o i r.before.plain) (sym e) tt)
  found_or_added second stand r q (inr (inr e)) = by (found_key i r.before.plain) refl
    where
      by : (o : Option ℕ) → found_key i r.before.plain ≡ o → StaysAlike others success second y w
      by None f = added second stand r q (subst (λ o. LacksBy o i r.before.plain) (sym e) f)
      by (Some j) f = idle_alike constants others moves i x z y w success second stand r q (subst (Idle constants i r.before.pictured) (sym e) (j, f))

  pub adding_alike : (first second : Answer) → StandAlike others x z → RowOn constants others moves i x first y → RowOn constants others moves i z second w → StaysAlike others first second y w
  adding_alike success second stand r q = found_or_added second stand r q which
  adding_alike first second stand r q = unchanged_alike constants others moves i x z y w first second stand r q (by_three (λ o. keeps_image o first ≡ true) i.operation which refl refl refl)
