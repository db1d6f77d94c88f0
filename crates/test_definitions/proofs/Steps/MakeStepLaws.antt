-- Two situations that clients can't tell apart stay so after MAKE and FINDOR.
use Rattle.std.specs.Prelude.{pos, ◌*◌, if◌then◌else◌, is_some, unwrap_or, slice_get}
use Rattle.std.proofs.Common.{◌≡◌, ℕ, zero, suc, ◌+◌, ◌≤◌, ◌⊎◌, inl, inr, Bool, true, false, List, [], ◌∷◌, ◌++◌, length, Option, Some, None, option_map, refl, sym, ap, ◌∙◌, subst, arith}
use Rattle.seg_spec.specs.Bytes.{word}
use Rattle.seg_spec.specs.Header.{next_word, index_kind_word}
use Rattle.seg_spec.specs.Types.{size}
use Rattle.seg_spec.specs.Value.{Value, count, copies, default_of}
use Rattle.seg_spec.specs.Heap.{live}
use Rattle.seg_spec.specs.Block.{block_of, KeepsBlock}
use Rattle.seg_spec.specs.Index.{Root, same_name, root_named}
use Rattle.seg_spec.specs.Sound.{payload_of, times, positions}
use Rattle.seg_spec.specs.Shared.{names_each, IsBelow, replaced_each}
use Rattle.seg_spec.specs.Counting.{owners_in}
use Rattle.seg_spec.specs.Roots.{KeepsNodes}
use Rattle.seg_spec.specs.Demand.{block_for}
use Rattle.seg_spec.specs.Spending.{entry_asks, object_asks}
use Rattle.client_spec.specs.declared.table.Operation.{Operation}
use Rattle.client_spec.specs.Syntax.{Constant, Instruction}
use Rattle.client_spec.specs.Machine.{◌>>=◌, Names, Object, State}
use Rattle.client_spec.specs.Answer.{Answer, success, bad_alloc, object_count, type_operand, constant_operand}
use Rattle.client_spec.specs.Trees.{unfolded_object, unfolded_state}
use Rattle.client_spec.specs.Pictures.{object_of, Pictures, meaning_in}
use Rattle.client_spec.specs.Asks.{if_absent, name_operand, new_count, named_asks, AsksBy, ReturnsBy, GrantsAsks, ChangesOnSuccess}
use Rattle.client_spec.specs.Ties.{Spot, nowhere, keeps_image, TouchesBy, KeepsBy, AllocatesAt, NamesCome, ObjectsComeBy}
use Rattle.client_spec.specs.OnImages.{Move, Situation, RowWith, RowOn}
use Rattle.client_spec.proofs.TypedStates.StateLaws.{same_name_is, name_there}
use Rattle.client_spec.proofs.TypedStates.ValueLaws.{Some_inj}
use Rattle.client_spec.proofs.Unfolded.UnfoldedStateLaws.{integer_or_same, name_same}
use Rattle.test_definitions.specs.Alike.{StandAlike, StaysAlike}
use Rattle.test_definitions.proofs.Alike.AlikeChangeLaws.{root_one}
use Rattle.test_definitions.proofs.Rows.ChangedPlaceRowLaws.{cells_of}
use Rattle.test_definitions.proofs.ValueChanges.DefaultCellLaws.{default_cells_each}
use Rattle.test_definitions.proofs.Frozen.FrozenApartLaws.{among_either}
use Rattle.test_definitions.proofs.Alike.GrownImageLaws.{Grows, owner_in}
use Rattle.test_definitions.proofs.Steps.GrownStepLaws.{both_as_before, both_with, both_grown}
use Rattle.test_definitions.proofs.Alike.IndexAlikeLaws.{index_long, index_is_long, NodesStay}
use Rattle.test_definitions.proofs.Rows.KeptRowLaws.{Idle, owned_kept, one, unchanged_alike, one_before, idle_alike}
use Rattle.test_definitions.proofs.Alike.ListedRootLaws.{types_listed, names_listed, found_named, one_more_name}
use Rattle.test_definitions.proofs.Rows.MadeBlockLaws.{MakesRoom, room_made}
use Rattle.test_definitions.proofs.Rows.MakeRowLaws.{Makes, by_either, NamesThen, NewName, FindsName, names_row}
use Rattle.test_definitions.proofs.Rows.NewBlockLaws.{name_in_block}
use Rattle.test_definitions.proofs.Rows.NewObjectLaws.{kept_beside, tables, same_named, same_unique, owned_same}
use Rattle.test_definitions.proofs.Rows.OwningRegisterLaws.{moves_owners, changes_uniques}
use Rattle.test_definitions.proofs.Steps.PlaceStepLaws.{named_there, uniques_stay, kinds_stay}
use Rattle.test_definitions.proofs.Alike.RootMemberLaws.{IsAmong, each_among, among_left, among_right, index_live, names_plain, looked_up, owns}

count_copies : (n : ℕ) (v : Value) → count (copies n v) ≡ n
count_copies zero v = refl
count_copies (suc n) v = ap suc (count_copies n v)

-- ---- one image

module _ (constants : List Constant) (others : List Root) (moves : List Move) (i : Instruction) (which : Makes i.operation) (x y : Situation) (answer : Answer) (r : RowOn constants others moves i x answer y) where
  abbrev p : Pictures others r.before.plain x.image
  p = r.before.pictured

  abbrev q : Pictures others r.after.plain y.image
  q = r.after.pictured

  touches : (spot : Spot) (own : List ℕ) → TouchesBy constants i r.before.pictured i.operation spot own → (spot ≡ nowhere) × (own ≡ r.before.pictured.held.index_blocks)
  touches spot own t = by_either (λ o. TouchesBy constants i r.before.pictured o spot own → (spot ≡ nowhere) × (own ≡ r.before.pictured.held.index_blocks)) i.operation which (λ k. k) (λ k. k) t

  kept : (h : ℕ) → 1 ≤ times h (positions (live x.image)) → times h r.before.pictured.held.index_blocks ≡ 0 → KeepsBlock x.image y.image h
  kept h some none = kept_beside constants others moves i x y answer r h some (λ spot own t. (let k = touches spot own t in (k.0, ap (times h) k.1 ∙ none)))

  nodes_kept : KeepsNodes x.image y.image r.before.pictured.held.index_blocks
  nodes_kept = by_either (λ o. KeepsBy constants i r.before.pictured o y.image → KeepsNodes x.image y.image r.before.pictured.held.index_blocks) i.operation which (λ k. k) (λ k. k.1) r.ties.kept_by

  kinds : word y.image index_kind_word ≡ word x.image index_kind_word
  kinds = kinds_stay constants others moves i x y answer r

  uniques_stay_same : r.after.pictured.picture.uniques ≡ r.before.pictured.picture.uniques
  uniques_stay_same = types_listed 0 0 q.picture.uniques p.picture.uniques q.held.laid_out.uniques.rising p.held.laid_out.uniques.rising
      (λ U. same_unique constants others moves i x y answer r kept U (uniques_stay constants others moves i x y answer r (by_either (λ o. changes_uniques o ≡ false) i.operation which refl refl) U))

  owned_stay_same : r.after.pictured.owned ≡ r.before.pictured.owned
  owned_stay_same = owned_same constants others moves i x y answer r kept
      (r.owned_after ∙ owned_kept constants others moves i x y answer r (by_either (λ o. moves_owners o answer ≡ false) i.operation which refl refl) ∙ sym r.owned_before)

  -- the same object for a name that the row leaves
  same_if : (name : List ℕ) → y.state.names name ≡ x.state.names name → root_named r.after.pictured.picture.names name ≡ root_named r.before.pictured.picture.names name
  same_if name e = same_named constants others moves i x y answer r kept name
      (sym (named_there constants others moves i x y answer r y.state y.image r.after name) ∙ ap (λ (o : Option Object). is_some o) e ∙ named_there constants others moves i x y answer r x.state x.image r.before name)

  -- ---- roots that aren't frozen

  beside_names : r.after.pictured.picture.uniques ++ r.after.pictured.picture.loose ≡ r.before.pictured.picture.uniques ++ r.before.pictured.picture.loose
  beside_names =
      let loose : q.picture.loose ≡ p.picture.loose = q.loose ∙ ap (λ rs. others ++ rs) owned_stay_same ∙ sym p.loose in
      λ j. uniques_stay_same j ++ loose j

  owners_forth : ((c : Root) → IsAmong c r.before.pictured.picture.names → IsAmong c r.after.pictured.picture.names) → (c : Root) → IsAmong c (owners_in r.before.pictured.picture) → IsAmong c (owners_in r.after.pictured.picture)
  owners_forth names c j = by (among_either c p.picture.names (p.picture.uniques ++ p.picture.loose) j)
    where
      by : IsAmong c r.before.pictured.picture.names ⊎ IsAmong c (r.before.pictured.picture.uniques ++ r.before.pictured.picture.loose) → IsAmong c (owners_in r.after.pictured.picture)
      by (inl k) = among_left c q.picture.names (q.picture.uniques ++ q.picture.loose) (names c k)
      by (inr k) = among_right c q.picture.names (q.picture.uniques ++ q.picture.loose) (subst (IsAmong c) (sym beside_names) k)

  owners_back : (News : Root → Type 0) → ((c : Root) → IsAmong c r.after.pictured.picture.names → News c ⊎ IsAmong c r.before.pictured.picture.names)
      → (c : Root) → IsAmong c (owners_in r.after.pictured.picture) → News c ⊎ IsAmong c (owners_in r.before.pictured.picture)
  owners_back News names c j = by (among_either c q.picture.names (q.picture.uniques ++ q.picture.loose) j)
    where
      named : News c ⊎ IsAmong c r.before.pictured.picture.names → News c ⊎ IsAmong c (owners_in r.before.pictured.picture)
      named (inl n) = inl n
      named (inr k) = inr (among_left c p.picture.names (p.picture.uniques ++ p.picture.loose) k)

      by : IsAmong c r.after.pictured.picture.names ⊎ IsAmong c (r.after.pictured.picture.uniques ++ r.after.pictured.picture.loose) → News c ⊎ IsAmong c (owners_in r.before.pictured.picture)
      by (inl k) = named (names c k)
      by (inr k) = inr (among_right c p.picture.names (p.picture.uniques ++ p.picture.loose) (subst (IsAmong c) beside_names k))

-- ---- one image, without room

module _ (constants : List Constant) (others : List Root) (moves : List Move) (i : Instruction) (which : Makes i.operation) (x y : Situation) (r : RowOn constants others moves i x bad_alloc y) (same : y.state.names ≡ x.state.names) where
  names_stay_same : r.after.pictured.picture.names ≡ r.before.pictured.picture.names
  names_stay_same = names_listed r.after.pictured.picture.names r.before.pictured.picture.names r.after.pictured.held.laid_out.names.ascending r.before.pictured.held.laid_out.names.ascending
      (λ name. same_if constants others moves i which x y bad_alloc r name (ap (λ (f : Names). f name) same))

  lives_same : live y.image ≡ live x.image
  lives_same = r.blocks.left

  refused_nodes : NodesStay x.image y.image r.before.pictured.held.index_blocks
  refused_nodes = record {
    kinds = kinds constants others moves i which x y bad_alloc r;
    kept = nodes_kept constants others moves i which x y bad_alloc r;
    stay = λ tree h some. subst (λ bs. 1 ≤ times h (positions bs)) (sym lives_same) (index_live x.image r.before.pictured.picture r.before.pictured.held h some);
  }

  refused_grows : Grows x.image y.image r.before.pictured.picture r.after.pictured.picture r.before.pictured.held.index_blocks (λ c. ⊥)
  refused_grows = record {
    tables = tables constants others moves i x y bad_alloc r (kept constants others moves i which x y bad_alloc r);
    kept = kept constants others moves i which x y bad_alloc r;
    entries = r.before.pictured.held.index_blocks;
    long = index_is_long x.image r.before.pictured.picture r.before.pictured.held ∙ (λ j. index_long (sym (kinds constants others moves i which x y bad_alloc r) j) (length (sym names_stay_same j)));
    lives = λ a n. absurd n;
    in_now = λ a n. absurd n;
    forth = owners_forth constants others moves i which x y bad_alloc r (λ c k. subst (IsAmong c) (sym names_stay_same) k);
    back = owners_back constants others moves i which x y bad_alloc r (λ c. ⊥) (λ c k. inr (subst (IsAmong c) names_stay_same k));
    no_cells = λ a n. absurd n;
  }

-- ---- one image, with a new object

module _ (constants : List Constant) (others : List Root) (moves : List Move) (i : Instruction) (which : Makes i.operation) (x y : Situation) (r : RowOn constants others moves i x success y)
    (m : NewName constants i x.state y.state success) where
  abbrev T : ℕ
  T = type_operand i.number

  abbrev new_object : Object
  new_object = record { type = type_operand i.number; values = copies m.n (default_of x.state.types (type_operand i.number)) }

  absent : root_named r.before.pictured.picture.names m.name ≡ None
  absent = go (root_named r.before.pictured.picture.names m.name) refl
    where
      go : (o : Option Root) → root_named r.before.pictured.picture.names m.name ≡ o → o ≡ None
      go None e = refl
      go (Some a) e = absurd (
          let f : false ≡ true = sym (ap (λ (o : Option Object). is_some o) m.names_then.0) ∙ named_there constants others moves i x y success r x.state x.image r.before m.name ∙ ap (λ (o : Option Root). is_some o) e in
          cc)

  now_there : y.state.names m.name ≡ Some new_object
  now_there = ap (λ (f : Names). f m.name) m.names_then.1 ∙ name_there x.state.names m.name (Some new_object)

  -- each other name
  beside : (name : List ℕ) → same_name name m.name ≡ false → root_named r.after.pictured.picture.names name ≡ root_named r.before.pictured.picture.names name
  beside name apart = same_if constants others moves i which x y success r name (ap (λ (f : Names). f name) m.names_then.1 ∙ ap (λ b. if b then Some new_object else x.state.names name) apart)

  record Made : Type 0 where
    object : Root
    found : root_named r.after.pictured.picture.names m.name ≡ Some object
    named : object.name ≡ m.name
    no_words : object.words ≡ []
    type_is : object.type ≡ type_operand i.number
    values_are : object.values ≡ copies m.n (default_of x.state.types (type_operand i.number))
    no_cells : names_each object.values ≡ []
    is_in : IsAmong object (owners_in r.after.pictured.picture)

  made_object : Made
  made_object = go (root_named r.after.pictured.picture.names m.name) refl
    where
      seen : option_map (unfolded_object (meaning_in (word y.image next_word) r.after.pictured.picture)) (option_map object_of (root_named r.after.pictured.picture.names m.name)) ≡ Some new_object
      seen = ap (option_map (unfolded_object (meaning_in (word y.image next_word) r.after.pictured.picture))) (sym (r.after.pictured.names m.name)) ∙ sym (ap (λ (s : State). s.names m.name) r.after.trees) ∙ now_there

      go : (o : Option Root) → root_named r.after.pictured.picture.names m.name ≡ o → Made
      go None e = absurd (
          let f : ◌≡◌ {A = Option Object} None (Some new_object) = sym (ap (λ o. option_map (unfolded_object (meaning_in (word y.image next_word) r.after.pictured.picture)) (option_map object_of o)) e) ∙ seen in
          cc)
      go (Some a) e =
          let names = r.after.pictured.picture.names in
          let rest = r.after.pictured.picture.uniques ++ r.after.pictured.picture.loose in
          let among = looked_up m.name a names e in
          let there = among_left a names rest among.0 in
          let one_object : ◌≡◌ {A = Object} (unfolded_object (meaning_in (word y.image next_word) r.after.pictured.picture) (object_of a)) new_object =
          Some_inj (sym (ap (λ o. option_map (unfolded_object (meaning_in (word y.image next_word) r.after.pictured.picture)) (option_map object_of o)) e) ∙ seen) in
          let values : replaced_each (meaning_in (word y.image next_word) r.after.pictured.picture) a.values ≡ copies m.n (default_of x.state.types (type_operand i.number)) = ap (λ (o : Object). o.values) one_object in
          let below = cells_of (IsBelow (word y.image next_word) r.after.pictured.picture.frozen) (owners_in r.after.pictured.picture) a r.after.pictured.counted.counted.named there in
          let bare = default_cells_each r.after.pictured a.values x.state.types (type_operand i.number) m.n below values in
          record {
            object = a;
            found = e;
            named = same_name_is m.name a.name among.1;
            no_words = each_among (λ (c : Root). c.words ≡ []) a names among.0 (names_plain y.image r.after.pictured.picture r.after.pictured.held);
            type_is = ap (λ (o : Object). o.type) one_object;
            values_are = bare.1;
            no_cells = bare.0;
            is_in = there;
          }

  -- ---- the requests

  grants : GrantsAsks constants i r.before.pictured y.image
  grants = by_either (λ o. ChangesOnSuccess constants i r.before.pictured o y.image → GrantsAsks constants i r.before.pictured y.image) i.operation which (λ k. k) (λ k. k) r.blocks

  gives_are : grants.gives ≡ []
  gives_are = by_either (λ o. ReturnsBy constants i r.before.pictured o grants.gives → grants.gives ≡ []) i.operation which (λ k. k) (λ k. k) grants.returned

  name_plain : name_operand constants i r.before.plain ≡ Some m.name
  name_plain = sym (name_same (meaning_in (word x.image next_word) r.before.pictured.picture) r.before.plain i.b (slice_get constants (constant_operand i.number)))
      ∙ ap (λ (s : State). name_operand constants i s) (sym r.before.trees) ∙ m.name_is

  count_plain : new_count i.operation i r.before.plain ≡ Some m.n
  count_plain = sym (same i.operation which) ∙ ap (λ (s : State). new_count i.operation i s) (sym r.before.trees) ∙ m.n_is
    where
      same : (o : Operation) → Makes o → new_count o i (unfolded_state (meaning_in (word x.image next_word) r.before.pictured.picture) r.before.plain) ≡ new_count o i r.before.plain
      same o w = by_either (λ k. new_count k i (unfolded_state (meaning_in (word x.image next_word) r.before.pictured.picture) r.before.plain) ≡ new_count k i r.before.plain) o w
          (ap (λ n. n >>= object_count) (integer_or_same (meaning_in (word x.image next_word) r.before.pictured.picture) (pos 1) i.c r.before.plain)) refl

  asks_are : grants.asks ≡ block_for (m.n * size r.before.plain.types (type_operand i.number) + length m.name) ∷ entry_asks (word x.image index_kind_word) x.image
  asks_are =
      let s = r.before.plain in
      let none : s.names m.name ≡ None = r.before.pictured.names m.name ∙ ap (option_map object_of) absent in
      let asked = by_either (λ o. AsksBy constants i r.before.pictured o grants.asks → grants.asks ≡ named_asks constants i r.before.plain x.image) i.operation which (λ k. k) (λ k. k) grants.asked in
      asked ∙ ap (λ o. unwrap_or (o >>= λ name. new_count i.operation i s >>= λ n. Some (if_absent (s.names name) (object_asks x.image s.types (type_operand i.number) n name))) []) name_plain
      ∙ ap (λ o. unwrap_or (o >>= λ n. Some (if_absent (s.names m.name) (object_asks x.image s.types (type_operand i.number) n m.name))) []) count_plain
      ∙ ap (λ (o : Option Object). if_absent o (object_asks x.image s.types (type_operand i.number) m.n m.name)) none

  gets : AllocatesAt x.image (m.n * size r.before.plain.types (type_operand i.number) + length m.name) made_object.object.at
  gets =
      let come = by_either (λ o. ObjectsComeBy i r.before.pictured r.after.pictured o → NamesCome i r.before.pictured r.after.pictured) i.operation which (λ k. k) (λ k. k) r.objects_come in
      let many : count made_object.object.values ≡ m.n = ap count made_object.values_are ∙ count_copies m.n (default_of x.state.types (type_operand i.number)) in
      subst (λ k. AllocatesAt x.image k made_object.object.at) (λ j. many j * size r.before.plain.types (made_object.type_is j) + length (made_object.named j)) (come m.name made_object.object absent made_object.found)

  room : MakesRoom x.image y.image r.before.pictured.picture r.before.pictured.held.index_blocks made_object.object.at
  room = room_made x.image y.image r.before.pictured.picture r.before.pictured.held (m.n * size r.before.plain.types (type_operand i.number) + length m.name) made_object.object.at grants.asks grants.gives grants.blocks asks_are gives_are
      grants.granted grants.left gets

  -- ---- the names

  names_forth : (c : Root) → IsAmong c r.before.pictured.picture.names → IsAmong c r.after.pictured.picture.names
  names_forth c j = go (same_name c.name m.name) refl
    where
      found_it : root_named r.before.pictured.picture.names c.name ≡ Some c
      found_it = found_named r.before.pictured.picture.names c r.before.pictured.held.laid_out.names.ascending j

      go : (b : Bool) → same_name c.name m.name ≡ b → IsAmong c r.after.pictured.picture.names
      go false apart = (looked_up c.name c r.after.pictured.picture.names (beside c.name apart ∙ found_it)).0
      go true e = absurd (let f : ◌≡◌ {A = Option Root} None (Some c) = sym absent ∙ ap (root_named r.before.pictured.picture.names) (same_name_is c.name m.name e) ∙ found_it in cc)

  names_back : (c : Root) → IsAmong c r.after.pictured.picture.names → (c ≡ made_object.object) ⊎ IsAmong c r.before.pictured.picture.names
  names_back c j = go (same_name c.name m.name) refl
    where
      found_it : root_named r.after.pictured.picture.names c.name ≡ Some c
      found_it = found_named r.after.pictured.picture.names c r.after.pictured.held.laid_out.names.ascending j

      go : (b : Bool) → same_name c.name m.name ≡ b → (c ≡ made_object.object) ⊎ IsAmong c r.before.pictured.picture.names
      go false apart = inr (looked_up c.name c r.before.pictured.picture.names (sym (beside c.name apart) ∙ found_it)).0
      go true e = inl (Some_inj (sym found_it ∙ ap (root_named r.after.pictured.picture.names) (sym (same_name_is c.name m.name e)) ∙ made_object.found))

  one_more : length r.after.pictured.picture.names ≡ suc (length r.before.pictured.picture.names)
  one_more = one_more_name r.before.pictured.picture.names r.after.pictured.picture.names m.name made_object.object r.before.pictured.held.laid_out.names.ascending r.after.pictured.held.laid_out.names.ascending
      made_object.found absent beside

  -- ---- the image

  payload : payload_of made_object.object ≡ made_object.object.at
  payload = (let l = ap length made_object.no_words in omega (arith, l))

  made_nodes : NodesStay x.image y.image r.before.pictured.held.index_blocks
  made_nodes = record {
    kinds = kinds constants others moves i which x y success r;
    kept = nodes_kept constants others moves i which x y success r;
    stay = λ tree h some. omega (arith, room.nodes_in tree h, room.lives h, index_live x.image r.before.pictured.picture r.before.pictured.held h some);
  }

  made_grows : Grows x.image y.image r.before.pictured.picture r.after.pictured.picture r.before.pictured.held.index_blocks (λ c. c ≡ made_object.object)
  made_grows = record {
    tables = tables constants others moves i x y success r (kept constants others moves i which x y success r);
    kept = kept constants others moves i which x y success r;
    entries = room.entries;
    long = room.long ∙ (λ j. index_long (sym (kinds constants others moves i which x y success r) j) (sym one_more j));
    lives = λ a e h. omega (arith, room.lives h, ap (λ (c : Root). times h (block_of (payload_of c) ∷ [])) e, ap (λ n. times h (block_of n ∷ [])) payload);
    in_now = λ a e. subst (λ (c : Root). IsAmong c (owners_in r.after.pictured.picture)) (sym e) made_object.is_in;
    forth = owners_forth constants others moves i which x y success r names_forth;
    back = owners_back constants others moves i which x y success r (λ c. c ≡ made_object.object) names_back;
    no_cells = λ a e. ap (λ (c : Root). names_each c.values) e ∙ made_object.no_cells;
  }

  above : 16 ≤ made_object.object.at
  above =
      let o = owns y.image r.after.pictured.picture r.after.pictured.held made_object.object r.after.pictured.held.roots (owner_in r.after.pictured.picture made_object.object made_object.is_in) in
      let low = o.holds_it.block.after_header in
      omega (arith, low, payload)

-- ---- both images

module _ (constants : List Constant) (others : List Root) (moves : List Move) (i : Instruction) (which : Makes i.operation) (x z y w : Situation) where
  both_refused : StandAlike others x z → (r : RowOn constants others moves i x bad_alloc y) → RowOn constants others moves i z bad_alloc w → y.state.names ≡ x.state.names → StaysAlike others bad_alloc bad_alloc y w
  both_refused stand r q same =
      let before = one_before constants others moves i x z y w bad_alloc bad_alloc stand r q in
      let states = (one constants others moves i x z y w bad_alloc bad_alloc stand r q).1 in
      let same_too : w.state.names ≡ z.state.names = ap (λ (s : State). s.names) (sym states) ∙ same ∙ ap (λ (s : State). s.names) (sym stand.states) in
      let names = names_stay_same constants others moves i which x y r same in
      both_grown constants others moves i x z y w bad_alloc stand r q (λ c. ⊥) (refused_grows constants others moves i which x y r same) (refused_grows constants others moves i which z w q same_too)
      (names ∙ before.same.names ∙ sym (names_stay_same constants others moves i which z w q same_too))
      (uniques_stay_same constants others moves i which x y bad_alloc r ∙ before.same.uniques ∙ sym (uniques_stay_same constants others moves i which z w bad_alloc q))
      (owned_stay_same constants others moves i which x y bad_alloc r ∙ before.owned ∙ sym (owned_stay_same constants others moves i which z w bad_alloc q))
      (both_as_before constants others moves i x z y w bad_alloc stand r q (refused_nodes constants others moves i which x y r same) (refused_nodes constants others moves i which z w q same_too) names)

  both_made : StandAlike others x z → (r : RowOn constants others moves i x success y) → RowOn constants others moves i z success w → NewName constants i x.state y.state success → StaysAlike others success success y w
  both_made stand r q m =
      let before = one_before constants others moves i x z y w success success stand r q in
      let states = (one constants others moves i x z y w success success stand r q).1 in
      let then_too = subst (λ (s : State). NamesThen m.name (type_operand i.number) m.n (s.names m.name) s w.state success) (sym stand.states)
      (subst (λ (t : State). NamesThen m.name (type_operand i.number) m.n (x.state.names m.name) x.state t success) states m.names_then) in
      let m_too : NewName constants i z.state w.state success = record {
        name = m.name;
        name_is = ap (name_operand constants i) stand.states ∙ m.name_is;
        n = m.n;
        n_is = ap (new_count i.operation i) stand.states ∙ m.n_is;
        names_then = then_too;
      } in
      let a = made_object constants others moves i which x y r m in
      let b = made_object constants others moves i which z w q m_too in
      let type = b.type_is ∙ sym a.type_is in
      let values = b.values_are ∙ ap (λ (s : State). copies m.n (default_of s.types (type_operand i.number))) stand.states ∙ sym a.values_are in
      let block = name_in_block constants others moves i x y z w success success stand.images stand.owned r q which m.name a.object b.object (absent constants others moves i which x y r m) a.found b.found type values in
      let at : b.object.at ≡ a.object.at = omega (arith, block, above constants others moves i which x y r m, above constants others moves i which z w q m_too) in
      let same = root_one b.object a.object (b.named ∙ sym a.named) (b.no_words ∙ sym a.no_words) at type values in
      let each : (name : List ℕ) (t : Bool) → same_name name m.name ≡ t → root_named r.after.pictured.picture.names name ≡ root_named q.after.pictured.picture.names name = λ name t. elim t as
      (λ u. same_name name m.name ≡ u → root_named r.after.pictured.picture.names name ≡ root_named q.after.pictured.picture.names name) [
        | true ↦ λ e. (let is = same_name_is name m.name e in
            subst (λ n. root_named r.after.pictured.picture.names n ≡ root_named q.after.pictured.picture.names n) is (a.found ∙ ap (λ (c : Root). Some c) (sym same) ∙ sym b.found))
        | false ↦ λ e. beside constants others moves i which x y r m name e ∙ ap (λ rs. root_named rs name) before.same.names ∙ sym (beside constants others moves i which z w q m_too name e)
      ] in
      let names = names_listed r.after.pictured.picture.names q.after.pictured.picture.names r.after.pictured.held.laid_out.names.ascending q.after.pictured.held.laid_out.names.ascending
      (λ name. each name (same_name name m.name) refl) in
      both_grown constants others moves i x z y w success stand r q (λ c. c ≡ a.object) (made_grows constants others moves i which x y r m)
      (subst (λ (o : Root). Grows z.image w.image q.before.pictured.picture q.after.pictured.picture q.before.pictured.held.index_blocks (λ c. c ≡ o)) same (made_grows constants others moves i which z w q m_too)) names
      (uniques_stay_same constants others moves i which x y success r ∙ before.same.uniques ∙ sym (uniques_stay_same constants others moves i which z w success q))
      (owned_stay_same constants others moves i which x y success r ∙ before.owned ∙ sym (owned_stay_same constants others moves i which z w success q))
      (both_with constants others moves i x z y w success stand r q (made_nodes constants others moves i which x y r m) (made_nodes constants others moves i which z w q m_too) a.object b.object at
      (names_back constants others moves i which x y r m) (names_back constants others moves i which z w q m_too))

  -- FINDOR that finds its object changes nothing
  both_found : (second : Answer) → StandAlike others x z → (r : RowOn constants others moves i x success y) → RowOn constants others moves i z second w → FindsName constants i x.state success → StaysAlike others success second y w
  both_found second stand r q f = idle_alike constants others moves i x z y w success second stand r q (subst (Idle constants i r.before.pictured) (sym f.finds) (there (root_named r.before.pictured.picture.names f.name) refl))
    where
      plain : name_operand constants i r.before.plain ≡ Some f.name
      plain = sym (name_same (meaning_in (word x.image next_word) r.before.pictured.picture) r.before.plain i.b (slice_get constants (constant_operand i.number)))
          ∙ ap (λ (s : State). name_operand constants i s) (sym r.before.trees) ∙ f.name_is

      there : (o : Option Root) → root_named r.before.pictured.picture.names f.name ≡ o → (root : Root) × ((name_operand constants i r.before.plain >>= λ name. root_named r.before.pictured.picture.names name) ≡ Some root)
      there None e = absurd (
          let g : true ≡ false = sym (ap (λ (o : Option Object). is_some o) f.found) ∙ named_there constants others moves i x y success r x.state x.image r.before f.name ∙ ap (λ (o : Option Root). is_some o) e in
          cc)
      there (Some root) e = (root, ap (λ o. o >>= λ name. root_named r.before.pictured.picture.names name) plain ∙ e)

  succeeds : (second : Answer) → StandAlike others x z → RowOn constants others moves i x success y → RowOn constants others moves i z second w → StaysAlike others success second y w
  succeeds second stand r q = by r.row
    where
      same : success ≡ second
      same = (one constants others moves i x z y w success second stand r q).0

      by : RowWith constants i x.image x.state success y.state → StaysAlike others success second y w
      by (inl (room, e)) = elim (names_row constants i room x.state y.state success (inl refl) which e) [
        | inl m ↦ subst (λ k. StaysAlike others success k y w) same (both_made stand r (subst (λ k. RowOn constants others moves i z k w) (sym same) q) m)
        | inr f ↦ both_found second stand r q f
      ]
      by (inr (u, full)) = absurd (let f = u.code in cc)

  refuses : (second : Answer) → StandAlike others x z → RowOn constants others moves i x bad_alloc y → RowOn constants others moves i z second w → StaysAlike others bad_alloc second y w
  refuses second stand r q = by r.row
    where
      same : bad_alloc ≡ second
      same = (one constants others moves i x z y w bad_alloc second stand r q).0

      by : RowWith constants i x.image x.state bad_alloc y.state → StaysAlike others bad_alloc second y w
      by (inl (room, e)) = elim (names_row constants i room x.state y.state bad_alloc (inr refl) which e) [
        | inl m ↦ subst (λ k. StaysAlike others bad_alloc k y w) same (both_refused stand r (subst (λ k. RowOn constants others moves i z k w) (sym same) q) m.names_then)
        | inr f ↦ absurd (let g = f.succeeds in cc)
      ]
      by (inr (u, full)) = absurd (let f = u.code in cc)

  pub make_alike : (first second : Answer) → StandAlike others x z → RowOn constants others moves i x first y → RowOn constants others moves i z second w → StaysAlike others first second y w
  make_alike success second stand r q = succeeds second stand r q
  make_alike bad_alloc second stand r q = refuses second stand r q
  make_alike first second stand r q = unchanged_alike constants others moves i x z y w first second stand r q (by_either (λ o. keeps_image o first ≡ true) i.operation which refl refl)
