-- In each outcome of the increment no number is given to a frozen object, and each block keeps its
-- tag.
use Rattle.std.proofs.Common.{◌≡◌, ℕ, zero, suc, ◌≤◌, Bool, false, List, [], ◌∷◌, ◌++◌, length, pos, Some, refl, sym, ap, ◌∙◌, subst, inl, inr, arith, lit≤}
use Rattle.std.specs.Prelude.{◌⊎◌}
use Rattle.seg_spec.specs.Bytes.{word, slice, number, number_of, put, set_number}
use Rattle.seg_spec.specs.Header.{next_word, allocator_word}
use Rattle.seg_spec.specs.Types.{Form, Table, form_at}
use Rattle.seg_spec.specs.Value.{Value}
use Rattle.seg_spec.specs.Heap.{live, live_of, tag_at}
use Rattle.seg_spec.specs.Reads.{Place, Holds}
use Rattle.seg_spec.specs.Index.{Root}
use Rattle.seg_spec.specs.Sound.{times, positions}
use Rattle.seg_spec.specs.Images.{upgraded}
use Rattle.seg_spec.specs.Demand.{after_asks, after_gives}
use Rattle.seg_spec.specs.Spending.{replaced}
use Rattle.seg_spec.specs.Fixtures.{counter, counter_picture}
use Rattle.seg_spec.proofs.Values.OneValueLaws.{Holds-one}
use Rattle.seg_spec.proofs.Images.RootWriteLaws.{number_held}
use Rattle.seg_spec.proofs.Images.UpgradeLaws.{upgraded_held, upgraded_live}
use Rattle.client_spec.specs.declared.table.Operation.{Operation}
use Rattle.client_spec.specs.Syntax.{Constant, Instruction, Client}
use Rattle.client_spec.specs.Machine.{State}
use Rattle.client_spec.specs.Answer.{Answer, success, bad_alloc}
use Rattle.client_spec.specs.Effect.{outcome}
use Rattle.client_spec.specs.Pictures.{Pictures, meaning_in}
use Rattle.client_spec.specs.Asks.{ChangesBlocks, ChangesOnSuccess, GrantsAsks, AsksBy, ReturnsBy}
use Rattle.client_spec.specs.Ties.{places_of, writes_image, next_after, TouchesBy, Changes}
use Rattle.client_spec.specs.OnImages.{Situation, RowWith, RowOn, StopOn, TickOn, image_machine, Given, Left, RunsClient}
use Rattle.client_spec.specs.Outcome.{given_first}
use Rattle.client_spec.specs.Fixtures.{at, increment}
use Rattle.client_spec.proofs.OperationLaws.{rows}
use Rattle.client_spec.proofs.Runs.KeptByRunLaws.{Each, code_keeps}
use Rattle.test_definitions.specs.RefusedOutcomes.{IsOutcomeOf, exchanged}
use Rattle.test_definitions.proofs.WorkedImages.ImageEvaluationLaws.{live_evaluated}
use Rattle.test_definitions.proofs.WorkedImages.SoundImages.{counter_held, counter_tiles, counter_fill, counter_headers}
use Rattle.test_definitions.proofs.Rows.KeptImageLaws.{reads_keep}
use Rattle.test_definitions.proofs.WorkedRuns.OneClientLaws.{one_run, first_types, first_image}
use Rattle.test_definitions.proofs.WorkedRuns.IncrementLaws.{increment_spelled}
use Rattle.test_definitions.proofs.WorkedRuns.NoOwnerLaws.{OwnNone, set_none, no_roots, LeavesNone, const_none, find_none, load_none, add_none, store_none, print_none}

-- ---- instructions that read, and STORE

-- an instruction that leaves the image as it is, or stores a number
abbrev ReadsOrStores : Instruction → Type 0
ReadsOrStores i = (writes_image i.operation ≡ false) ⊎ (i.operation ≡ Operation.Store)

-- if registers own nothing, they own nothing after it
abbrev GivesNoOwner : List Constant → Instruction → Type 0
GivesNoOwner constants i = (s : State) → OwnNone s.registers → (room : Bool) → LeavesNone (outcome constants i room s)

abbrev IsAllowed : List Constant → Instruction → Type 0
IsAllowed constants i = ReadsOrStores i × GivesNoOwner constants i

module _ (constants : List Constant) (i : Instruction) (is : i.operation ≡ Operation.Store) {others : List Root} {s : State} {old : List ℕ} (pictured : Pictures others s old) (new : List ℕ) where
  grants : GrantsAsks constants i pictured new → live new ≡ live old
  grants g =
      let none : g.asks ≡ [] = subst (λ o. AsksBy constants i pictured o g.asks) is g.asked in
      let gives : g.gives ≡ [] = subst (λ o. ReturnsBy constants i pictured o g.gives) is g.returned in
      let had : Some (live old) ≡ Some g.blocks = subst (λ asks. after_asks (word old allocator_word) (live old) (length old) asks ≡ Some g.blocks) none g.granted in
      let blocks : live old ≡ g.blocks = cc in
      let left = ap (λ xs. after_gives g.blocks (replaced (word old allocator_word) (live old) (length old) xs ++ g.gives)) none in
      g.left ∙ left ∙ ap (λ ys. after_gives g.blocks ys) gives ∙ sym blocks

  store_live : (answer : Answer) → ChangesBlocks constants i pictured answer new → live new ≡ live old
  store_live success c = grants (subst (λ o. ChangesOnSuccess constants i pictured o new) is c)
  store_live bad_alloc c = c.left
  store_live answer c = c

row_owns : (constants : List Constant) (i : Instruction) (bytes : List ℕ) (s : State) (answer : Answer) (s' : State) → GivesNoOwner constants i → RowWith constants i bytes s answer s' → OwnNone s.registers → OwnNone s'.registers
row_owns constants i bytes s answer s' owns (inl w) h = (owns s h w.0).each answer s' w.1
row_owns constants i bytes s answer s' owns (inr u) h = subst (λ (t : State). OwnNone t.registers) (sym u.0.state) (set_none s.registers i.a _ refl h)

row_types : (constants : List Constant) (i : Instruction) (bytes : List ℕ) (s : State) (answer : Answer) (s' : State) → RowWith constants i bytes s answer s' → s'.types ≡ s.types
row_types constants i bytes s answer s' (inl w) = ((rows s constants i.operation i.a i.b i.c i.number w.0).each answer s' w.1).writes.types
row_types constants i bytes s answer s' (inr u) = ap (λ (t : State). t.types) u.0.state

only_form : (T : ℕ) (form : Form) → form_at (Form.i64 ∷ []) T ≡ Some form → form_at (Form.i64 ∷ []) T ≡ Some Form.i64
only_form zero form e = refl
only_form (suc T) form e = cc

-- a number owns no block
numbers_own_none : (bytes : List ℕ) (table : Table) (place : Place) (form : Form) (v : Value) (own : List ℕ) → table ≡ Form.i64 ∷ [] → form_at table place.type ≡ Some form → Holds bytes table place v own → own ≡ []
numbers_own_none bytes table place form v own is e h =
    let number = only_form place.type form (subst (λ t. form_at t place.type ≡ Some form) is e) in
    (Holds-one bytes table h (number_held bytes table place (subst (λ t. form_at t place.type ≡ Some Form.i64) (sym is) number))).1

-- ---- a run of them, where numbers are the only type

module _ (client : Client) (given : Given) (block : ℕ) (there : 1 ≤ times block (positions (live given.image))) where
  record AsGiven (x : Situation) : Type 0 where
    types : x.state.types ≡ Form.i64 ∷ []
    owns_none : OwnNone x.state.registers
    next_is : word x.image next_word ≡ word given.image next_word
    live_is : live x.image ≡ live given.image
    tag_is : tag_at x.image block ≡ tag_at given.image block

  same_image : (x y : Situation) → y.state.types ≡ x.state.types → OwnNone y.state.registers → y.image ≡ x.image → AsGiven x → AsGiven y
  same_image x y types none same h = record {
    types = types ∙ h.types;
    owns_none = none;
    next_is = ap (λ z. word z next_word) same ∙ h.next_is;
    live_is = ap live same ∙ h.live_is;
    tag_is = ap (λ z. tag_at z block) same ∙ h.tag_is;
  }

  row_keeps : (i : Instruction) (x : Situation) (answer : Answer) (y : Situation) → IsAllowed client.constants i → RowOn client.constants given.others given.moves i x answer y → AsGiven x → AsGiven y
  row_keeps i x answer y allowed row h = by allowed.0 row.ties.changes
    where
      types : y.state.types ≡ x.state.types
      types = row_types client.constants i x.image x.state answer y.state row.row

      none : OwnNone y.state.registers
      none = row_owns client.constants i x.image x.state answer y.state allowed.1 row.row h.owns_none

      by : ReadsOrStores i → (y.image ≡ x.image) ⊎ Changes client.constants i row.before.pictured y.image → AsGiven y
      by (inl reads) c = same_image x y types none (row.ties.image_kept (reads_keep i.operation reads answer)) h
      by (inr is) (inl same) = same_image x y types none same h
      by (inr is) (inr c) =
          let before = row.before.pictured in
          let touches = subst (λ o. TouchesBy client.constants i before o c.spot c.own) is c.touches in
          let plain : row.before.plain.types ≡ Form.i64 ∷ [] = sym (ap (λ (s : State). s.types) row.before.trees) ∙ h.types in
          let no_block : c.own ≡ [] = numbers_own_none x.image row.before.plain.types touches.place touches.form touches.value c.own plain touches.led_to.form_is touches.holds in
          let live_there : 1 ≤ times block (positions (live x.image)) = subst (λ bs. 1 ≤ times block (positions bs)) (sym h.live_is) there in
          let kept = c.kept block live_there (ap (times block) no_block) in
          let first = word x.image next_word in
          let next : next_after i.operation answer first ≡ first = subst (λ o. next_after o answer first ≡ first) (sym is) refl in
          record {
            types = types ∙ h.types;
            owns_none = none;
            next_is = row.ties.next_is ∙ next ∙ h.next_is;
            live_is = store_live client.constants i is before y.image answer row.blocks ∙ h.live_is;
            tag_is = kept.header.has_tag ∙ h.tag_is;
          }

  stop_keeps : (i : Instruction) (x y : Situation) → StopOn client.constants given.moves i x y → AsGiven x → AsGiven y
  stop_keeps i x y stop h = same_image x y (ap (λ (s : State). s.types) stop.cut.taken) (subst (λ (s : State). OwnNone s.registers) (sym stop.cut.taken) h.owns_none) stop.image h

  tick_keeps : (x y : Situation) → TickOn given.moves x y → AsGiven x → AsGiven y
  tick_keeps x y tick h = same_image x y (ap (λ (s : State). s.types) tick.state) (subst (λ (s : State). OwnNone s.registers) (sym tick.state) h.owns_none) tick.image h

  last_as_given : (left : Left) (runs : RunsClient client given left) → Each (IsAllowed client.constants) client.code → AsGiven runs.first → AsGiven runs.last
  last_as_given left runs each h =
      let keeps = code_keeps Situation (image_machine client.constants given.others given.moves) (IsAllowed client.constants) (λ k. AsGiven)
      (λ i x answer y k q r h. row_keeps i x answer y q r h) (λ i x y k q s h. stop_keeps i x y s h) (λ x y k t h. tick_keeps x y t h) client.code each in
      keeps.each runs.first runs.last left.steps left.ending 0 runs.run h

  -- registers own nothing at the end, so the image stays
  left_as_given : (left : Left) (runs : RunsClient client given left) → AsGiven runs.last → left.image ≡ runs.last.image
  left_as_given left runs last =
      let end = runs.is_left in
      let registers = ap (λ (s : State). s.registers) end.trees.trees in
      let m = meaning_in (word runs.last.image next_word) end.trees.pictured.picture in
      let roots = no_roots m end.trees.plain.registers end.trees.pictured.owned (subst OwnNone registers last.owns_none) end.trees.pictured.are_owned in
      end.image_kept (sym end.owned_are ∙ ap places_of roots)

-- ---- the increment

abbrev MayRun : Instruction → Type 0
MayRun = IsAllowed increment.constants

all_allowed : Each MayRun increment.code
all_allowed =
    let cs = increment.constants in
    let find : MayRun (at Operation.Find 0 16 16 (pos 0)) = (inl refl, λ s h room. find_none cs s h 0 16 16 (pos 0) room) in
    let load : MayRun (at Operation.Load 1 0 0 (pos 0)) = (inl refl, λ s h room. load_none cs s h 1 0 0 (pos 0) room) in
    let one : MayRun (at Operation.Const 2 0 0 (pos 1)) = (inl refl, λ s h room. const_none cs s h 2 (pos 1) room) in
    let add : MayRun (at Operation.Add 1 1 2 (pos 0)) = (inl refl, λ s h room. add_none cs s h 1 1 2 (pos 0) room) in
    let store : MayRun (at Operation.Store 0 0 1 (pos 0)) = (inr refl, λ s h room. store_none cs s h 0 0 1 (pos 0) room) in
    let print : MayRun (at Operation.OutInt 0 1 0 (pos 0)) = (inl refl, λ s h room. print_none cs s h 0 1 0 (pos 0) room) in
    ((find, (load, (one, (add, (store, (print, tt))))), tt), tt)

abbrev start : List ℕ
start = upgraded counter

record KeepsCounter (block : ℕ) (left : Left) : Type 0 where
  next_is : word left.image next_word ≡ word start next_word
  tag_is : tag_at left.image block ≡ tag_at start block

start_live : live start ≡ live_of counter_tiles
start_live = upgraded_live counter counter_picture counter_held ∙ live_evaluated counter counter_tiles counter_fill counter_headers

keeps_counter : (block : ℕ) → 1 ≤ times block (positions (live_of counter_tiles)) → (left : Left) → IsOutcomeOf increment counter left → KeepsCounter block left
keeps_counter block among left o =
    let one = one_run counter increment left increment_spelled o in
    let given = given_first start one.0 [] 0 [] in
    let runs = one.1 in
    let held = upgraded_held counter counter_picture counter_held in
    let there : 1 ≤ times block (positions (live given.image)) = subst (λ bs. 1 ≤ times block (positions bs)) (sym start_live) among in
    let same = first_image increment given runs.first counter_picture held refl runs.is_first in
    let types = first_types increment given runs.first counter_picture held refl runs.is_first in
    let none : OwnNone runs.first.state.registers = subst OwnNone (sym runs.is_first.registers) (refl, (refl, (refl, (refl, (refl, (refl, (refl, (refl, (refl, (refl, (refl, (refl, (refl, (refl, (refl, (refl, tt)))))))))))))))) in
    let first : AsGiven increment given block there runs.first = record { types = types; owns_none = none; next_is = ap (λ z. word z next_word) same; live_is = ap live same; tag_is = ap (λ z. tag_at z block) same } in
    let last = last_as_given increment given block there left runs all_allowed first in
    let end = left_as_given increment given block there left runs last in
    record { next_is = ap (λ z. word z next_word) end ∙ last.next_is; tag_is = ap (λ z. tag_at z block) end ∙ last.tag_is }

pub no_number : (left : Left) → IsOutcomeOf increment counter left → word left.image next_word ≡ 0
unfolding counter put set_number slice number number_of
no_number left o = (keeps_counter 704 (lit≤ tt) left o).next_is

-- the block of x has the tag of a named object, and the other block the tag of an index
pub blocks_stay : (left : Left) → IsOutcomeOf increment counter left → (tag_at left.image 704 ≡ 1) × (tag_at left.image 736 ≡ 5)
unfolding counter put set_number slice number number_of
blocks_stay left o = ((keeps_counter 704 (lit≤ tt) left o).tag_is, (keeps_counter 736 (lit≤ tt) left o).tag_is)

pub not_exchanged : (left : Left) → IsOutcomeOf increment counter left → left.image ≡ exchanged → ⊥
unfolding exchanged slice number number_of
not_exchanged left o same =
    let kept = (blocks_stay left o).0 in
    let other : tag_at left.image 704 ≡ 5 = ap (λ z. tag_at z 704) same in
    absurd (omega (arith, kept, other))
