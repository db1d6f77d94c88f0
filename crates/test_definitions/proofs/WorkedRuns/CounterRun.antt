-- The increment client runs on an image in which x is the number 41.
use Rattle.std.proofs.Common.{◌≡◌, ℕ, zero, suc, ◌+◌, true, false, List, [], ◌∷◌, length, replicate, codes, pos, Bool, Some, None, inl, inr, refl, sym, ◌∙◌, ap, subst, arith, lit<, lit≤}
use Rattle.std.specs.Prelude.{ℤ, option_map, slice_index_or, if◌then◌else◌}
use Rattle.std.specs.Fmt.{digits}
use Rattle.seg_spec.specs.Bytes.{ChangesOnly, spelling, slice, put, number, number_of, word, set_number, set_long, signed, IsSame}
use Rattle.seg_spec.specs.Types.{Form, Table, size}
use Rattle.seg_spec.specs.Window.{IsPlace}
use Rattle.seg_spec.specs.Value.{Value, Int, nil, cons}
use Rattle.seg_spec.specs.Heap.{live}
use Rattle.seg_spec.specs.Reads.{Place, here}
use Rattle.seg_spec.specs.Index.{Root, plain_root, same_name}
use Rattle.seg_spec.specs.Header.{allocator_word, next_word}
use Rattle.seg_spec.specs.Frozen.{Frozen}
use Rattle.seg_spec.specs.Shared.{names_in, names_each, replaced}
use Rattle.seg_spec.specs.Counting.{AreCounted}
use Rattle.seg_spec.specs.Images.{upgraded}
use Rattle.seg_spec.specs.Sound.{Picture, IsHeld, holds_no_root}
use Rattle.seg_spec.specs.Faulty.{IsImageLength}
use Rattle.seg_spec.specs.Roots.{Listed, HasFace}
use Rattle.seg_spec.specs.Fixtures.{counter, counter_picture}
use Rattle.test_definitions.proofs.WorkedImages.ImageEvaluationLaws.{live_evaluated, unshared}
use Rattle.test_definitions.proofs.WorkedImages.SoundImages.{counter_tiles, counter_fill, counter_headers, counter_held, counter_counted}
use Rattle.seg_spec.proofs.Images.UpgradeLaws.{upgraded_held, upgraded_counted, upgraded_live}
use Rattle.seg_spec.proofs.Images.RootWriteLaws.{stored}
use Rattle.seg_spec.proofs.Values.PlaceFrameLaws.{word-same}
use Rattle.seg_spec.proofs.Values.PlaceWriteLaws.{around_then}
use Rattle.seg_spec.proofs.SliceLaws.{put-changes}
use Rattle.client_spec.specs.declared.table.Operation.{Operation}
use Rattle.client_spec.specs.Syntax.{Instruction}
use Rattle.client_spec.specs.Grammar.{client_bytes}
use Rattle.client_spec.specs.Machine.{Register, Object, State, with_name}
use Rattle.client_spec.specs.Answer.{success}
use Rattle.client_spec.specs.Effect.{outcome, effect}
use Rattle.client_spec.specs.Typed.{RegisterType, rule, sharing_rule, types_by}
use Rattle.client_spec.specs.Run.{Run, Nothing, finished}
use Rattle.client_spec.specs.Trees.{unfolded_object, AreTrees}
use Rattle.client_spec.specs.Pictures.{Pictures, root_of_register, AreOwned, names_in as names_of_picture, object_of, meaning_in, PicturesTrees}
use Rattle.client_spec.proofs.TypedStates.ValueLaws.{Some_inj}
use Rattle.client_spec.proofs.TypedStates.PictureLaws.{owned_one}
use Rattle.client_spec.proofs.Unfolded.PictureTreeLaws.{own_trees}
use Rattle.client_spec.specs.Asks.{LedTo}
use Rattle.client_spec.specs.Ties.{places_of, OwnersStay, OwnersCome, ObjectsStay, FrozenKept, spot_of, Changes}
use Rattle.client_spec.specs.OnImages.{Situation, image_machine, RowOn, Given, Left, IsFirst, IsLeftAfter, RunsClient}
use Rattle.client_spec.specs.Clients.{AreAccepted}
use Rattle.client_spec.specs.Outcome.{given_first, IsOutcome}
use Rattle.client_spec.specs.Fixtures.{at, increment, counted, x}
use Rattle.client_sim.specs.Shows.{ChangesImage}
use Rattle.client_sim.proofs.ImageChangeLaws.{kept_nowhere, unchanged}
use Rattle.client_sim.proofs.Places.PathPlaceLaws.{PlaceFound, place_found}
use Rattle.client_sim.proofs.Names.OnePictureLaws.{Held-one}
use Rattle.client_sim.proofs.Objects.ObjectPlaceLaws.{objects_alike}
use Rattle.test_definitions.proofs.WorkedRuns.IncrementLaws.{increment_spelled, same_x}

-- ---- the states and the image

abbrev with_registers : List Register → State
with_registers rs = record counted { registers = rs }

abbrev found : State
found = with_registers (Register.Reference x ∷ replicate 15 Register.Undefined)

abbrev loaded : State
loaded = with_registers (Register.Reference x ∷ Register.Int (pos 41) ∷ replicate 14 Register.Undefined)

abbrev with_one : State
with_one = with_registers (Register.Reference x ∷ Register.Int (pos 41) ∷ Register.Int (pos 1) ∷ replicate 13 Register.Undefined)

abbrev added : State
added = with_registers (Register.Reference x ∷ Register.Int (pos 42) ∷ Register.Int (pos 1) ∷ replicate 13 Register.Undefined)

-- the state in which x is 42, with this output
abbrev more : List ℕ → State
more output = record added { names = with_name counted.names (codes "x") (Some (record { type = 0; values = cons (Int (pos 42)) nil })); output = output }

-- the image as it is opened
abbrev start : List ℕ
start = upgraded counter

abbrev image : List ℕ
image = set_long start 720 42

abbrev root : Root
root = plain_root (codes "x") 720 0 (cons (Int (pos 41)) nil)

abbrev picture : Picture
picture = record counter_picture { names = record root { values = cons (Int (pos 42)) nil } ∷ [] }

start_held : IsHeld start counter_picture
start_held = upgraded_held counter counter_picture counter_held

start_counted : AreCounted (word start next_word) counter_picture
start_counted = upgraded_counted counter counter_picture counter_counted

held : IsHeld image picture
unfolding size signed
held = stored start counter_picture start_held Listed.by_name [] root [] refl 0 (lit< tt) [] (record { at = 720; type = 0 }) here 42 refl (lit< tt)

image_counted : AreCounted (word image next_word) picture
unfolding names_in names_each
image_counted = unshared (word image next_word) picture refl refl

same_live : live image ≡ live start
unfolding counter slice put set_number number number_of
same_live = live_evaluated image counter_tiles (refl, lit≤ tt, (refl, lit≤ tt, refl))
    (record { units_is = refl; live_is = refl; before_is = refl; tag_is = λ e. cc }, (record { units_is = refl; live_is = refl; before_is = refl; tag_is = λ e. cc }, tt))
    ∙ sym (live_evaluated counter counter_tiles counter_fill counter_headers) ∙ sym (upgraded_live counter counter_picture counter_held)

plain_pictured : (rs : List Register) → AreOwned rs [] → Pictures [] (with_registers rs) start
plain_pictured rs a = record { picture = counter_picture; held = start_held; counted = start_counted; types = refl; names = same_x; uniques = λ T. refl; owned = []; are_owned = a; loose = refl }

-- the object x, whose value is a number, has no shared cells
number_trees : (k : ℤ) (name : List ℕ) (o : Object) → (if same_name name (codes "x") then Some (record { type = 0; values = cons (Int k) nil }) else None) ≡ Some o → names_each o.values ≡ []
unfolding names_in
number_trees k name o = choose (same_name name (codes "x"))
  where
    choose : (b : Bool) → (if b then Some (record { type = 0; values = cons (Int k) nil }) else None) ≡ Some o → names_each o.values ≡ []
    choose true e = ap (λ (y : Object). names_each y.values) (sym (Some_inj e))
    choose false e = cc

none_owned : (rs : List Register) (r : ℕ) (v : Value) (t : ℕ) → AreOwned rs [] → slice_index_or rs r Register.Undefined ≡ Register.Owner v t → ⊥
none_owned rs r v t a e = (owned_one (λ (root : Root). ⊥) rs [] r v t a tt e).1

trees_before : (rs : List Register) → AreOwned rs [] → AreTrees (with_registers rs)
trees_before rs a = record {
  names = λ name o e. number_trees (pos 41) name o e;
  uniques = λ T v e. absurd (let f : None ≡ Some v = e in cc);
  owned = λ r v t e. absurd (none_owned rs r v t a e);
}

pictured : (rs : List Register) → AreOwned rs [] → PicturesTrees [] (with_registers rs) start
pictured rs a = own_trees (trees_before rs a) (plain_pictured rs a)

same_names : (output name : List ℕ) → (more output).names name ≡ names_of_picture picture name
same_names output name = choose (same_name name (codes "x"))
  where
    choose : (b : Bool) → (if b then Some (record { type = 0; values = cons (Int (pos 42)) nil }) else (if b then Some (record { type = 0; values = cons (Int (pos 41)) nil }) else None))
        ≡ option_map object_of (if b then Some (plain_root (codes "x") 720 0 (cons (Int (pos 42)) nil)) else None)
    choose true = refl
    choose false = refl

plain_pictured_then : (output : List ℕ) → Pictures [] (more output) image
plain_pictured_then output = record { picture = picture; held = held; counted = image_counted; types = refl; names = same_names output; uniques = λ T. refl; owned = []; are_owned = tt; loose = refl }

number_after : (output name : List ℕ) (o : Object) → (more output).names name ≡ Some o → names_each o.values ≡ []
unfolding names_in
number_after output name o = choose (same_name name (codes "x"))
  where
    choose : (b : Bool) → (if b then Some (record { type = 0; values = cons (Int (pos 42)) nil }) else (if b then Some (record { type = 0; values = cons (Int (pos 41)) nil }) else None)) ≡ Some o → names_each o.values ≡ []
    choose true e = ap (λ (y : Object). names_each y.values) (sym (Some_inj e))
    choose false e = cc

trees_then : (output : List ℕ) → AreTrees (more output)
trees_then output = record {
  names = number_after output;
  uniques = λ T v e. absurd (let f : None ≡ Some v = e in cc);
  owned = λ r v t e. absurd (none_owned added.registers r v t tt e);
}

pictured_then : (output : List ℕ) → PicturesTrees [] (more output) image
pictured_then output = own_trees (trees_then output) (plain_pictured_then output)

-- ---- registers own nothing

no_places : (roots : List Root) → places_of roots ≡ [] → roots ≡ []
no_places [] e = refl
no_places (root ∷ roots) e = cc

root_of_none : (rs : List Register) (r : ℕ) → root_of_register rs [] r ≡ None
root_of_none [] r = refl
root_of_none (Register.Owner v t ∷ rs) r = refl
root_of_none (Register.Undefined ∷ rs) zero = refl
root_of_none (Register.Undefined ∷ rs) (suc r) = root_of_none rs r
root_of_none (Register.Int k ∷ rs) zero = refl
root_of_none (Register.Int k ∷ rs) (suc r) = root_of_none rs r
root_of_none (Register.Reference q ∷ rs) zero = refl
root_of_none (Register.Reference q ∷ rs) (suc r) = root_of_none rs r

none_stay : {s s' : State} {old new : List ℕ} (before : Pictures [] s old) (after : Pictures [] s' new) → places_of before.owned ≡ [] → OwnersStay before after
none_stay {s = s} before after none = λ r a b had has.
    absurd (let e : None ≡ Some a = sym (root_of_none s.registers r) ∙ ap (λ roots. root_of_register s.registers roots r) (sym (no_places before.owned none)) ∙ had in cc)

none_come : (i : Instruction) {s s' : State} {old new : List ℕ} (before : Pictures [] s old) (after : Pictures [] s' new) → places_of after.owned ≡ [] → OwnersCome increment.constants i before after
none_come i {s' = s'} before after none = λ r root free has.
    absurd (let e : None ≡ Some root = sym (root_of_none s'.registers r) ∙ ap (λ roots. root_of_register s'.registers roots r) (sym (no_places after.owned none)) ∙ has in cc)

none_here : (rs : List Register) (a : AreOwned rs []) → places_of (pictured rs a).pictured.owned ≡ []
unfolding pictured own_trees plain_pictured
none_here rs a = refl

none_then : (output : List ℕ) → places_of (pictured_then output).pictured.owned ≡ []
unfolding pictured_then own_trees plain_pictured_then
none_then output = refl

-- ---- the places in the run

-- the host after an image is written at base 0
abbrev again : List ℕ → List ℕ → List ℕ
again host bytes = put host 0 bytes

abbrev situation : State → List ℕ → List ℕ → ℕ → Situation
situation s bytes host n = record { state = s; image = bytes; host = host; base = 0; steps = n; owned = [] }

-- there are no frozen objects
no_frozen_here : (rs : List Register) (a : AreOwned rs []) → (pictured rs a).pictured.picture.frozen ≡ []
unfolding pictured own_trees plain_pictured
no_frozen_here rs a = refl

picture_here : (rs : List Register) (a : AreOwned rs []) → (pictured rs a).pictured.picture ≡ counter_picture
unfolding pictured own_trees plain_pictured
picture_here rs a = refl

picture_then : (output : List ℕ) → (pictured_then output).pictured.picture ≡ picture
unfolding pictured_then own_trees plain_pictured_then
picture_then output = refl

-- an image has one list of names
still_there : (bytes : List ℕ) (p q : Picture) → IsHeld bytes p → IsHeld bytes q → ObjectsStay p q
still_there bytes p q held held' = let same = Held-one bytes p q held held' in objects_alike (sym same.names) (sym same.uniques)

-- the number changes, and x stays where it is
x_stays : ObjectsStay counter_picture picture
x_stays = record { names = λ name a b was is. choose (same_name name (codes "x")) a b was is; uniques = λ T a b was is. cc }
  where
    face : HasFace (plain_root (codes "x") 720 0 (cons (Int (pos 41)) nil)) (plain_root (codes "x") 720 0 (cons (Int (pos 42)) nil))
    face = record { same_name = refl; same_words = refl; same_at = refl; same_type = refl; same_count = refl }

    choose : (t : Bool) (a b : Root) → (if t then Some (plain_root (codes "x") 720 0 (cons (Int (pos 41)) nil)) else None) ≡ Some a → (if t then Some (plain_root (codes "x") 720 0 (cons (Int (pos 42)) nil)) else None) ≡ Some b → HasFace a b
    choose true a b was is = subst (λ r. HasFace r b) (Some_inj was) (subst (HasFace (plain_root (codes "x") 720 0 (cons (Int (pos 41)) nil))) (Some_inj is) face)
    choose false a b was is = cc

no_frozen_then : (output : List ℕ) → (pictured_then output).pictured.picture.frozen ≡ []
unfolding pictured_then own_trees plain_pictured_then
no_frozen_then output = refl

none_kept : {old new : List ℕ} {table : Table} {before after : List Frozen} → before ≡ [] → FrozenKept old new table before after
none_kept {old} {new} {table} {after = after} none = subst (λ fs. FrozenKept old new table fs after) (sym none) (record { theirs = λ at. []; holds = tt; each = tt })

abbrev Row : Instruction → Situation → Situation → Type 0
Row i a b = RowOn increment.constants [] [] i a success b

kept_row : (i : Instruction) (s t : State) (host : List ℕ) (n : ℕ) → outcome increment.constants i true s ≡ Some (success, t) → (before : PicturesTrees [] s start) (after : PicturesTrees [] t start)
    → places_of before.pictured.owned ≡ [] → places_of after.pictured.owned ≡ [] → before.pictured.picture.frozen ≡ [] → ChangesImage increment.constants i before.pictured success start
    → Row i (situation s start host n) (situation t start (again host start) (n + 1))
kept_row i s t host n row before after none_before none_after no_frozen changes = record {
  row = inl (true, row);
  before = before;
  after = after;
  blocks = changes.blocks;
  ties = changes.ties;
  frozen_kept = none_kept no_frozen;
  length_kept = refl;
  header_kept = refl;
  moved = record { steps = refl; base = refl; host = refl };
  owned_before = none_before;
  owned_after = none_after;
  owners_stay = none_stay before.pictured after.pictured none_before;
  owners_come = none_come i before.pictured after.pictured none_after;
  objects_stay = still_there start before.pictured.picture after.pictured.picture before.pictured.held after.pictured.held;
  objects_come = changes.objects_come after.plain after.pictured;
}

header_kept : IsSame start image 0 24
unfolding counter slice put set_number
header_kept = refl

next_same : IsSame start image next_word 4
unfolding counter slice put set_number
next_same = refl

same_length : length image ≡ length start
unfolding counter put set_number
same_length = refl

-- only the number of x changes
abbrev store_x : Instruction
store_x = at Operation.Store 0 0 1 (pos 0)

abbrev x_place : Place
x_place = record { at = 720; type = 0 }

abbrev before_store : Pictures [] (pictured added.registers tt).plain start
before_store = (pictured added.registers tt).pictured

led_to_x : LedTo increment.constants store_x before_store x_place Form.i64
unfolding size pictured own_trees plain_pictured
led_to_x = record { path = x; path_is = refl; stands = record { root = root; item = 0; begins = refl; leads = here }; form_is = refl }

x_found : PlaceFound before_store led_to_x.stands (Int (pos 41))
unfolding led_to_x pictured own_trees plain_pictured
x_found = place_found before_store led_to_x.stands (Int (pos 41)) refl

x_alone : ChangesOnly start image 720 (size added.types 0)
unfolding size set_number
x_alone = put-changes start 720 (spelling 8 42)

stores_x : Changes increment.constants store_x before_store image
unfolding pictured own_trees plain_pictured
stores_x = record {
  spot = spot_of added.types x_place;
  own = x_found.blocks;
  touches = record { place = x_place; form = Form.i64; led_to = led_to_x; spot_is = refl; value = Int (pos 41); holds = x_found.holds_it };
  kept = λ b some away. around_then (word start allocator_word) start counter_picture.table x_place (Int (pos 41)) x_found.blocks x_found.stands image x_alone b some;
}

module _ (h : List ℕ) where
  abbrev h1 : List ℕ
  h1 = again h start

  abbrev h2 : List ℕ
  h2 = again h1 start

  abbrev h3 : List ℕ
  h3 = again h2 start

  abbrev h4 : List ℕ
  h4 = again h3 start

  abbrev h5 : List ℕ
  h5 = again h4 image

  abbrev h6 : List ℕ
  h6 = again h5 image

  finds : Row (at Operation.Find 0 16 16 (pos 0)) (situation counted start h 0) (situation found start h1 1)
  unfolding effect
  finds = kept_row _ counted found h 0 refl (pictured counted.registers tt) (pictured found.registers tt) (none_here counted.registers tt) (none_here found.registers tt) (no_frozen_here counted.registers tt) (unchanged refl refl (record {
    asks = [];
    asked = refl;
    gives = [];
    returned = refl;
    blocks = live start;
    granted = refl;
    left = refl;
  }))

  loads : Row (at Operation.Load 1 0 0 (pos 0)) (situation found start h1 1) (situation loaded start h2 2)
  unfolding effect
  loads = kept_row _ found loaded h1 1 refl (pictured found.registers tt) (pictured loaded.registers tt) (none_here found.registers tt) (none_here loaded.registers tt) (no_frozen_here found.registers tt) (unchanged refl refl (record {
    asks = [];
    asked = refl;
    gives = [];
    returned = refl;
    blocks = live start;
    granted = refl;
    left = refl;
  }))

  sets_one : Row (at Operation.Const 2 0 0 (pos 1)) (situation loaded start h2 2) (situation with_one start h3 3)
  unfolding effect
  sets_one = kept_row _ loaded with_one h2 2 refl (pictured loaded.registers tt) (pictured with_one.registers tt) (none_here loaded.registers tt) (none_here with_one.registers tt) (no_frozen_here loaded.registers tt) (unchanged refl refl
      (record { asks = []; asked = refl; gives = []; returned = refl; blocks = live start; granted = refl; left = refl }))

  adds : Row (at Operation.Add 1 1 2 (pos 0)) (situation with_one start h3 3) (situation added start h4 4)
  unfolding effect
  adds = kept_row _ with_one added h3 3 refl (pictured with_one.registers tt) (pictured added.registers tt) (none_here with_one.registers tt) (none_here added.registers tt) (no_frozen_here with_one.registers tt)
      (unchanged refl refl (record {
        asks = [];
        asked = refl;
        gives = [];
        returned = refl;
        blocks = live start;
        granted = refl;
        left = refl;
      }))

  stores : Row (at Operation.Store 0 0 1 (pos 0)) (situation added start h4 4) (situation (more []) image h5 5)
  unfolding effect
  stores = record {
    row = inl (true, refl);
    before = pictured added.registers tt;
    after = pictured_then [];
    blocks = record { asks = []; asked = refl; gives = []; returned = refl; blocks = live start; granted = refl; left = same_live };
    ties = record { next_is = word-same start image next_word next_same; image_kept = λ e. cc; kept_by = tt; moved_by = tt; changes = inr stores_x };
    frozen_kept = none_kept (no_frozen_here added.registers tt);
    length_kept = same_length;
    header_kept = header_kept;
    moved = record { steps = refl; base = refl; host = refl };
    owned_before = none_here added.registers tt;
    owned_after = none_then [];
    owners_stay = none_stay (pictured added.registers tt).pictured (pictured_then []).pictured (none_here added.registers tt);
    owners_come = none_come (at Operation.Store 0 0 1 (pos 0)) (pictured added.registers tt).pictured (pictured_then []).pictured (none_then []);
    objects_stay = subst (λ p. ObjectsStay p (pictured_then []).pictured.picture) (sym (picture_here added.registers tt)) (subst (ObjectsStay counter_picture) (sym (picture_then [])) x_stays);
    objects_come = tt;
  }

  prints : Row (at Operation.OutInt 0 1 0 (pos 0)) (situation (more []) image h5 5) (situation (more (codes "42\n")) image h6 6)
  unfolding effect digits
  prints = record {
    row = inl (true, refl);
    before = pictured_then [];
    after = pictured_then (codes "42\n");
    blocks = record { asks = []; asked = refl; gives = []; returned = refl; blocks = live image; granted = refl; left = refl };
    ties = record { next_is = refl; image_kept = λ e. refl; kept_by = tt; moved_by = tt; changes = inl refl };
    frozen_kept = none_kept (no_frozen_then []);
    length_kept = refl;
    header_kept = refl;
    moved = record { steps = refl; base = refl; host = refl };
    owned_before = none_then [];
    owned_after = none_then (codes "42\n");
    owners_stay = none_stay (pictured_then []).pictured (pictured_then (codes "42\n")).pictured (none_then []);
    owners_come = none_come (at Operation.OutInt 0 1 0 (pos 0)) (pictured_then []).pictured (pictured_then (codes "42\n")).pictured (none_then (codes "42\n"));
    objects_stay = still_there image _ _ (pictured_then []).pictured.held (pictured_then (codes "42\n")).pictured.held;
    objects_come = tt;
  }

  none : (s : Situation) → Nothing Situation s s 0 finished
  none s = record { same = refl; steps = refl; ends = refl }

  runs : Run Situation (image_machine increment.constants [] []) increment.code (situation counted start h 0) (situation (more (codes "42\n")) image h6 6) 6 finished
  unfolding Run
  runs =
      let y1 = situation found start h1 1 in
      let y2 = situation loaded start h2 2 in
      let y3 = situation with_one start h3 3 in
      let y4 = situation added start h4 4 in
      let y5 = situation (more []) image h5 5 in
      let y6 = situation (more (codes "42\n")) image h6 6 in
      let print = inl (y6, 1, 0, inl (success, y6, 0, prints, none y6, refl), none y6, refl) in
      let store = inl (y5, 1, 1, inl (success, y5, 0, stores, none y5, refl), print, refl) in
      let add = inl (y4, 1, 2, inl (success, y4, 0, adds, none y4, refl), store, refl) in
      let set = inl (y3, 1, 3, inl (success, y3, 0, sets_one, none y3, refl), add, refl) in
      let load = inl (y2, 1, 4, inl (success, y2, 0, loads, none y2, refl), set, refl) in
      inl (y6, 6, 0, inl (success, y1, 5, finds, load, refl), none y6, refl)

-- ---- the whole

abbrev first_host : List ℕ
first_host = again (replicate 2048 0) start

abbrev given : Given
given = given_first start (replicate 2048 0) [] 0 []

abbrev pub left : Left
left = record { steps = 6; read = 0; ending = finished; output = codes "42\n"; image = image; host = again (h6 first_host) image; base = 0 }

-- x is the same in the unfolded state
trees_x : (name : List ℕ) → counted.names name ≡ option_map (unfolded_object (meaning_in (word start next_word) counter_picture)) (names_of_picture counter_picture name)
unfolding replaced
trees_x name = choose (same_name name (codes "x"))
  where
    choose : (b : Bool) → (if b then Some (record { type = 0; values = cons (Int (pos 41)) nil }) else None)
        ≡ option_map (unfolded_object (meaning_in (word start next_word) counter_picture)) (option_map object_of (if b then Some (plain_root (codes "x") 720 0 (cons (Int (pos 41)) nil)) else None))
    choose true = refl
    choose false = refl

trees_left : (name : List ℕ) → (more (codes "42\n")).names name ≡ option_map (unfolded_object (meaning_in (word image next_word) picture)) (names_of_picture picture name)
unfolding replaced
trees_left name = choose (same_name name (codes "x"))
  where
    choose : (b : Bool) → (if b then Some (record { type = 0; values = cons (Int (pos 42)) nil }) else (if b then Some (record { type = 0; values = cons (Int (pos 41)) nil }) else None))
        ≡ option_map (unfolded_object (meaning_in (word image next_word) picture)) (option_map object_of (if b then Some (plain_root (codes "x") 720 0 (cons (Int (pos 42)) nil)) else None))
    choose true = refl
    choose false = refl

is_first : IsFirst increment given (situation counted start first_host 0)
is_first = record {
  picture = counter_picture;
  held = start_held;
  counted = start_counted;
  loose = refl;
  types = refl;
  objects = record { names = trees_x; uniques = λ T. refl };
  registers = refl;
  input = refl;
  output = refl;
  pictured = pictured counted.registers tt;
  types_alone = record { length_kept = refl; others = λ p m apart. refl };
  objects_stay = still_there start _ _ start_held (pictured counted.registers tt).pictured.held;
  host = refl;
  base = refl;
  steps = refl;
  owned = refl;
}

is_left : IsLeftAfter given (situation (more (codes "42\n")) image (h6 first_host) 6) left
unfolding pictured_then own_trees plain_pictured_then
is_left = record {
  trees = pictured_then (codes "42\n");
  owned_are = refl;
  owned_blocks = [];
  owned = holds_no_root;
  shared_blocks = [];
  shared = record { theirs = λ p. []; holds = tt; blocks_are = refl };
  returned = refl;
  length_kept = refl;
  header_kept = refl;
  next_kept = refl;
  image_kept = λ e. refl;
  kept = kept_nowhere [] held.laid_out.heap (λ b some away. record { live = refl; has_tag = refl; room = omega arith; payload = refl });
  frozen_kept = tt;
  picture = picture;
  held = held;
  counted = image_counted;
  types = refl;
  objects = record { names = trees_left; uniques = λ T. refl };
  objects_stay = still_there image _ _ (pictured_then (codes "42\n")).pictured.held held;
  loose = refl;
  read_there = lit≤ tt;
  input = refl;
  output = refl;
  base = refl;
  host = refl;
}

has_run : RunsClient increment given left
has_run = record { first = situation counted start first_host 0; is_first = is_first; last = situation (more (codes "42\n")) image (h6 first_host) 6; run = runs first_host; is_left = is_left }

accepted : AreAccepted (counter_picture.table) (client_bytes increment ∷ []) (increment ∷ [])
unfolding types_by rule sharing_rule
accepted = (increment_spelled, record { agree = refl; typed = (replicate 16 RegisterType.Undefined, refl); bounded = lit≤ tt }, tt)

sized : IsImageLength (length counter)
unfolding counter
sized = record { not_small = lit≤ tt; not_large = lit≤ tt; whole_units = refl }

room_fits : IsPlace 2048 0 (length counter)
unfolding counter
room_fits = (refl, lit≤ tt, lit≤ tt)

pub outcome_is : IsOutcome counter (client_bytes increment ∷ []) [] 2048 0 [] (left ∷ [])
outcome_is = record {
  can_run = record {
    can_move = record { lies = record { size = sized; room_fits = lit≤ tt; placed = room_fits }; fit = tt };
    sound = record { picture = counter_picture; held = counter_held; counted = counter_counted; none_loose = refl };
    clients = increment ∷ [];
    accepted = accepted;
  };
  host = replicate 2048 0;
  host_is = refl;
  runs = (has_run, tt);
}
