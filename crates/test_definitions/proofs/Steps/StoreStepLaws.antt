-- Two situations that clients can't tell apart stay so after STORE.
use Rattle.std.proofs.Common.{◌≡◌, ℕ, ◌≤◌, false, List, [], ◌++◌, length, Some, refl, sym, ap, ◌∙◌, subst}
use Rattle.std.specs.List.{AllByRecursion}
use Rattle.seg_spec.specs.Bytes.{word}
use Rattle.seg_spec.specs.Header.{allocator_word}
use Rattle.seg_spec.specs.Types.{Form, Table, form_at}
use Rattle.seg_spec.specs.Value.{Value, Values, node, nil}
use Rattle.seg_spec.specs.Heap.{live}
use Rattle.seg_spec.specs.Reads.{Place, Opened, Opens, Holds, holds, HoldsEach, holds_none, holds_more}
use Rattle.seg_spec.specs.Index.{Root}
use Rattle.seg_spec.specs.Sound.{times, positions}
use Rattle.seg_spec.specs.Shared.{names_in, IsBelow}
use Rattle.seg_spec.specs.Demand.{after_asks, after_gives}
use Rattle.seg_spec.specs.Spending as spending
use Rattle.std.proofs.lemmas.List.{append-nil}
use Rattle.std.specs.Prelude.{⊤}
use Rattle.test_definitions.proofs.Rows.OwningRegisterLaws.{moves_owners, changes_names, changes_uniques}
use Rattle.test_definitions.proofs.Rows.OnePlaceLaws.{RefersTo}
use Rattle.seg_spec.proofs.Frozen.ValueCellLaws.{names_int, names_text}
use Rattle.client_spec.specs.declared.table.Operation.{Operation}
use Rattle.client_spec.specs.Syntax.{Constant, Instruction}
use Rattle.client_spec.specs.Machine.{State}
use Rattle.client_spec.specs.Answer.{Answer, success}
use Rattle.client_spec.specs.Pictures.{Pictures}
use Rattle.client_spec.specs.Asks.{AsksBy, ReturnsBy, ChangesOnSuccess, ChangesBlocks, GrantsAsks}
use Rattle.client_spec.specs.Ties.{TouchesBy, keeps_image}
use Rattle.client_spec.specs.OnImages.{Move, Situation, RowOn}
use Rattle.client_spec.proofs.Unfolded.UnfoldedValueLaws.{nothing_replaced}
use Rattle.test_definitions.specs.Alike.{AlikeAt, opens_alike, AlikeEach, none_alike, StandAlike, StaysAlike}
use Rattle.test_definitions.proofs.Rows.KeptRowLaws.{one, unchanged_alike}
use Rattle.test_definitions.proofs.Rows.PathOriginLaws.{at_place}
use Rattle.test_definitions.proofs.ValueChanges.PersistAlikeLaws.{Fits, open_as_one}
use Rattle.test_definitions.proofs.Rows.PlaceRowLaws.{refers_to, number_there}
use Rattle.test_definitions.proofs.Steps.PlaceStepLaws.{Touched}
use Rattle.test_definitions.proofs.Steps.PlaceTwoStepLaws.{Side, ChangesWithin, PlaceSteps, mine, theirs, within_whole, place_step}

-- ---- numbers and texts

-- a number or a text has no parts
abbrev pub Leaf : Form → Type 0
Leaf Form.i64 = ⊤
Leaf Form.str = ⊤
Leaf form = ⊥

pub record LeafHeld (bytes : List ℕ) (table : Table) (place : Place) (form : Form) (w : Value) (blocks : List ℕ) : Type 0 where
  pub opened : Opened
  pub opens : Opens bytes table place form opened
  pub value_is : w ≡ node opened.label nil
  pub blocks_are : blocks ≡ opened.blocks
  pub parts_are : opened.parts ≡ []
  pub no_cells : names_in w ≡ []

no_values : (bytes : List ℕ) (table : Table) (places : List Place) (vs : Values) (blocks : List ℕ) → places ≡ [] → HoldsEach bytes table places vs blocks → (vs ≡ nil) × (blocks ≡ [])
no_values bytes table places vs blocks e holds_none = (refl, refl)
no_values bytes table places vs blocks e (holds_more h hs) = cc

pub leaf_held : (bytes : List ℕ) (table : Table) (place : Place) (form : Form) {w : Value} {blocks : List ℕ} → Leaf form → form_at table place.type ≡ Some form → Holds bytes table place w blocks → LeafHeld bytes table place form w blocks
leaf_held bytes table place form {w = w} {blocks = blocks} leaf f (holds form' opened inside owned f' o hs v_is blocks_are) =
    let forms : form' ≡ form = (let e : Some form' ≡ Some form = sym f' ∙ f in cc) in
    by form leaf (subst (λ (k : Form). Opens bytes table place k opened) forms o)
  where
    made : (form : Form) (opens : Opens bytes table place form opened) → opened.parts ≡ [] → ((vs : Values) → vs ≡ nil → names_in (node opened.label vs) ≡ []) → LeafHeld bytes table place form w blocks
    made form opens parts cells =
        let n = no_values bytes table opened.parts inside owned parts hs in
        record {
          opened = opened;
          opens = opens;
          value_is = v_is ∙ ap (λ vs. node opened.label vs) n.0;
          blocks_are = blocks_are ∙ ap (λ bs. opened.blocks ++ bs) n.1 ∙ append-nil opened.blocks;
          parts_are = parts;
          no_cells = ap names_in v_is ∙ cells inside n.0;
        }

    by : (form : Form) → Leaf form → Opens bytes table place form opened → LeafHeld bytes table place form w blocks
    by Form.i64 leaf o = made Form.i64 o (ap (λ (x : Opened). x.parts) o) (λ vs e. (λ j. names_in (node ((o j).label) (e j))) ∙ names_int _)
    by Form.str leaf o = made Form.str o (ap (λ (x : Opened). x.parts) o.opened_is) (λ vs e. (λ j. names_in (node ((o.opened_is j).label) (e j))) ∙ names_text _)
    by form leaf o = absurd leaf

-- the same value, in the same blocks
pub leaf_alike : (first second : List ℕ) (table : Table) (place : Place) (form : Form) {a b : Value} {xs ys : List ℕ} → form_at table place.type ≡ Some form → LeafHeld first table place form a xs → LeafHeld second table place form b ys
    → a ≡ b → xs ≡ ys → AllByRecursion (Fits first) xs → AllByRecursion (Fits second) ys → AlikeAt first second table place
leaf_alike first second table place form f h k same blocks fits fits_too =
    let labels : h.opened.label ≡ k.opened.label = (let e : node h.opened.label nil ≡ node k.opened.label nil = sym h.value_is ∙ same ∙ k.value_is in cc) in
    let one_open = open_as_one first second table place h.opened k.opened labels (sym h.blocks_are ∙ blocks ∙ k.blocks_are) (ap length h.parts_are ∙ sym (ap length k.parts_are)) (subst (AllByRecursion (Fits first)) h.blocks_are fits)
    (subst (AllByRecursion (Fits second)) k.blocks_are fits_too) form h.opens k.opens in
    opens_alike form h.opened f h.opens (subst (λ (o : Opened). Opens second table place form o) (sym one_open.same) k.opens) one_open.counts (subst (AlikeEach first second table) (sym h.parts_are) none_alike)

-- ---- STORE

-- an instruction that asks for nothing and frees nothing
pub same_live : (constants : List Constant) (i : Instruction) {others : List Root} {s : State} {bytes : List ℕ} (p : Pictures others s bytes) (new : List ℕ) → i.operation ≡ Operation.Store → ChangesBlocks constants i p success new
    → live new ≡ live bytes
same_live constants i {bytes = bytes} p new is c =
    let g : GrantsAsks constants i p new = subst (λ o. ChangesOnSuccess constants i p o new) is c in
    let asks : g.asks ≡ [] = subst (λ o. AsksBy constants i p o g.asks) is g.asked in
    let gives : g.gives ≡ [] = subst (λ o. ReturnsBy constants i p o g.gives) is g.returned in
    let blocks : live bytes ≡ g.blocks = (let e : Some (live bytes) ≡ Some g.blocks = ap (after_asks (word bytes allocator_word) (live bytes) (length bytes)) (sym asks) ∙ g.granted in cc) in
    g.left ∙ (λ j. after_gives g.blocks (spending.replaced (word bytes allocator_word) (live bytes) (length bytes) (asks j) ++ gives j)) ∙ sym blocks

module _ (constants : List Constant) (others : List Root) (moves : List Move) (i : Instruction) (is : i.operation ≡ Operation.Store) (x z y w : Situation) where
  no_names : changes_names i.operation ≡ false
  no_names = ap changes_names is

  no_uniques : changes_uniques i.operation ≡ false
  no_uniques = ap changes_uniques is

  stored : (second : Answer) (stand : StandAlike others x z) (r : RowOn constants others moves i x success y) (q : RowOn constants others moves i z second w) → StaysAlike others success second y w
  stored second stand r q =
      place_step constants others moves i no_names no_uniques x z y w success second stand r q keeps found false (λ s bytes p spot own t. subst (λ o. TouchesBy constants i p o spot own) is t) steps
    where
      keeps : moves_owners i.operation success ≡ false
      keeps = ap (λ o. moves_owners o success) is

      found : RefersTo r.before.plain i.b
      found = refers_to constants i x.state x.image r.before success y.state r.row (ap at_place is)

      side : Side constants others i x.owned x.image y.image success r.after.pictured r.before.plain
      side = mine constants others moves i no_names no_uniques x z y w success second stand r q keeps found

      other : Side constants others i x.owned z.image w.image second q.after.pictured r.before.plain
      other = theirs constants others moves i no_names no_uniques x z y w success second stand r q keeps found

      -- nothing in the place can point to a frozen object, and the blocks stay
      within_place : {bytes new : List ℕ} (p : Pictures others r.before.plain bytes) (place : Place) (its : List ℕ) → form_at p.picture.table place.type ≡ Some Form.i64 → live new ≡ live bytes → ChangesWithin p new place its
      within_place {new = new} p place its f lives = record {
        cells = λ w news h. subst (AllByRecursion (IsBelow _ p.picture.frozen)) (sym (leaf_held new p.picture.table place Form.i64 tt f h).no_cells) tt;
        lives = λ h some none. subst (λ bs. 1 ≤ times h (positions bs)) (sym lives) some;
      }

      steps : (place : Place) (form : Form) (its : List ℕ) (t : Touched constants i false side.before y.image place form its) (u : Touched constants i false other.before w.image place form its)
          → PlaceSteps constants others moves i no_names no_uniques x z y w success second stand r q keeps found place form its t u
      steps place form its t u =
          let number : form ≡ Form.i64 = number_there constants i x.state x.image r.before success y.state r.row is place form t.led_to in
          let f : form_at side.before.picture.table place.type ≡ Some Form.i64 = ap (λ (k : Table). form_at k place.type) side.before.types ∙ t.led_to.form_is ∙ ap Some number in
          let g : form_at other.before.picture.table place.type ≡ Some Form.i64 = ap (λ (k : Table). form_at k place.type) other.before.types ∙ u.led_to.form_is ∙ ap Some number in
          let theirs_success : ChangesBlocks constants i other.before success w.image = subst (λ a. ChangesBlocks constants i other.before a w.image) (sym (one constants others moves i x z y w success second stand r q).0) other.blocks in
          record {
            within_first = within_whole constants others moves i no_names no_uniques x z y w success second stand r q keeps found side place form its t
                (within_place side.before place its f (same_live constants i side.before y.image is side.blocks));
            within_second = within_whole constants others moves i no_names no_uniques x z y w success second stand r q keeps found other place form its u
                (within_place other.before place its g (same_live constants i other.before w.image is theirs_success));
            inner = λ a b xs ys h fits k fits_too m n same forth back once once_too. (
                let mine_held = leaf_held y.image side.before.picture.table place Form.i64 tt f h in
                let their_held = leaf_held w.image side.before.picture.table place Form.i64 tt f k in
                let values : a ≡ b = sym (nothing_replaced m a mine_held.no_cells) ∙ same ∙ nothing_replaced n b their_held.no_cells in
                let no_blocks : xs ≡ [] = mine_held.blocks_are ∙ ap (λ (o : Opened). o.blocks) mine_held.opens in
                let no_blocks_too : ys ≡ [] = their_held.blocks_are ∙ ap (λ (o : Opened). o.blocks) their_held.opens in
                leaf_alike y.image w.image side.before.picture.table place Form.i64 f mine_held their_held values (no_blocks ∙ sym no_blocks_too) fits fits_too);
          }

  pub store_alike : (first second : Answer) → StandAlike others x z → RowOn constants others moves i x first y → RowOn constants others moves i z second w → StaysAlike others first second y w
  store_alike success second stand r q = stored second stand r q
  store_alike first second stand r q = unchanged_alike constants others moves i x z y w first second stand r q (ap (λ o. keeps_image o first) is)
