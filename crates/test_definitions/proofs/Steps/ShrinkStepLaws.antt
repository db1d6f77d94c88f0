-- Two situations that clients can't tell apart stay so after SHRINK.
use Rattle.std.proofs.Common.{◌≡◌, ℕ, zero, suc, ◌*◌, ◌≤◌, inl, inr, true, false, List, [], ◌∷◌, ◌++◌, length, Option, Some, None, option_map, option_to_list, refl, sym, ap, ◌∙◌, subst, arith}
use Rattle.std.specs.List.{AllByRecursion}
use Rattle.seg_spec.specs.Bytes.{word}
use Rattle.seg_spec.specs.Header.{next_word}
use Rattle.seg_spec.specs.Pointer.{target}
use Rattle.seg_spec.specs.Types.{Form, Table, form_at}
use Rattle.seg_spec.specs.Value.{Label, Value, Values, node}
use Rattle.seg_spec.specs.Heap.{Span, live}
use Rattle.seg_spec.specs.Block.{block_of, has_buffer}
use Rattle.seg_spec.specs.Reads.{Place, Opened, Opens, Holds, holds, HoldsEach, count_at, named}
use Rattle.seg_spec.specs.Parts.{PersistEach, KeepsAllParts}
use Rattle.seg_spec.specs.Index.{Root}
use Rattle.seg_spec.specs.Sound.{times, positions}
use Rattle.seg_spec.specs.Shared.{names_in, names_each, IsBelow, replaced}
use Rattle.seg_spec.specs.Counting.{owners_in}
use Rattle.seg_spec.specs.Spending.{units_named, item_size, cut_to}
use Rattle.seg_spec.proofs.Heap.LiveBlockLaws.{times-append, times-same, positions-resized}
use Rattle.seg_spec.proofs.Values.OneValueLaws.{HoldsEach-one}
use Rattle.seg_spec.proofs.Values.PersistenceLaws.{each_persists, HoldsEach-persist}
use Rattle.seg_spec.proofs.Values.PlaceFrameLaws.{each_left, each_right, parts_unchanged}
use Rattle.client_spec.specs.declared.table.Operation.{Operation}
use Rattle.client_spec.specs.Syntax.{Constant, Instruction}
use Rattle.client_spec.specs.Machine.{State}
use Rattle.client_spec.specs.Answer.{Answer, success}
use Rattle.client_spec.specs.Pictures.{Pictures}
use Rattle.client_spec.specs.Asks.{LedTo, CutsBuffer, ChangesOnSuccess, ChangesBlocks}
use Rattle.client_spec.specs.Ties.{TouchesBy, KeepsBy, keeps_image, places_of}
use Rattle.client_spec.specs.OnImages.{Move, Situation, RowOn}
use Rattle.test_definitions.specs.Alike.{AlikeAt, opens_alike, StandAlike, StaysAlike}
use Rattle.test_definitions.proofs.ValueChanges.AlikePlaceLaws.{open_alike, each_alike, buffer_blocks}
use Rattle.test_definitions.proofs.ValueChanges.ChangedPlaceLaws.{own_owner, value_below}
use Rattle.test_definitions.proofs.Rows.ChangedPlaceRowLaws.{cells_of}
use Rattle.test_definitions.proofs.Rows.KeptRowLaws.{one, unchanged_alike}
use Rattle.test_definitions.proofs.Rows.OnePlaceLaws.{RefersTo, led_in_both, led_one}
use Rattle.test_definitions.proofs.Rows.OneRow.{itself}
use Rattle.test_definitions.proofs.Rows.OwningRegisterLaws.{moves_owners, changes_names, changes_uniques}
use Rattle.test_definitions.proofs.Rows.PathOriginLaws.{at_place}
use Rattle.test_definitions.proofs.ValueChanges.PersistAlikeLaws.{Fits, open_as_one, persist_each_alike, persist_long}
use Rattle.test_definitions.proofs.Rows.PlaceRowLaws.{refers_to, buffer_there}
use Rattle.test_definitions.proofs.Steps.PlaceStepLaws.{Touched}
use Rattle.test_definitions.proofs.Steps.PlaceTwoStepLaws.{Side, ChangesWithin, PlaceSteps, mine, theirs, within_whole, place_step}
use Rattle.test_definitions.proofs.Steps.TextStepLaws.{members_one, kept_without}

-- ---- labels

label_of : Value → Label
label_of (node label vs) = label

-- a text, a sequence or a map keeps its label in the state that clients see
abbrev SeenLabel : Label → Type 0
SeenLabel label = (m : ℕ → Value) (vs : Values) → label_of (replaced m (node label vs)) ≡ label

seen_label : (bytes : List ℕ) (table : Table) (place : Place) (form : Form) (opened : Opened) → has_buffer (Some form) ≡ true → Opens bytes table place form opened → SeenLabel opened.label
unfolding label_of replaced
seen_label bytes table place Form.str opened e o m vs = ap (λ (k : Opened). label_of (replaced m (node k.label vs))) o.opened_is ∙ sym (ap (λ (k : Opened). k.label) o.opened_is)
seen_label bytes table place (Form.vec U) opened e o m vs = ap (λ (k : Opened). label_of (replaced m (node k.label vs))) o.opened_is ∙ sym (ap (λ (k : Opened). k.label) o.opened_is)
seen_label bytes table place (Form.flat_map U) opened e o m vs = ap (λ (k : Opened). label_of (replaced m (node k.label vs))) o.opened_is ∙ sym (ap (λ (k : Opened). k.label) o.opened_is)
seen_label bytes table place form opened e o m vs = cc

-- a text, a sequence or a map has the shared cells of its parts
plain_cells : (bytes : List ℕ) (table : Table) (place : Place) (form : Form) (opened : Opened) → has_buffer (Some form) ≡ true → Opens bytes table place form opened → (vs : Values) → names_in (node opened.label vs) ≡ names_each vs
unfolding names_in
plain_cells bytes table place Form.str opened e o vs = ap (λ (k : Opened). names_in (node k.label vs)) o.opened_is
plain_cells bytes table place (Form.vec U) opened e o vs = ap (λ (k : Opened). names_in (node k.label vs)) o.opened_is
plain_cells bytes table place (Form.flat_map U) opened e o vs = ap (λ (k : Opened). names_in (node k.label vs)) o.opened_is
plain_cells bytes table place form opened e o vs = cc

-- if all parts stay, so do the shared cells
cells_stay : (old new : List ℕ) (table : Table) (place : Place) (form : Form) → form_at table place.type ≡ Some form → has_buffer (Some form) ≡ true → KeepsAllParts old new table place → {v w : Value} {xs ys : List ℕ}
    → Holds old table place v xs
    → Holds new table place w ys → names_in w ≡ names_in v
cells_stay old new table place form f buffer k (holds form0 before inside0 owned0 f0 o0 hs0 v_is xs_are) (holds form1 after inside1 owned1 f1 o1 hs1 w_is ys_are) =
    let forms0 : form0 ≡ form = (let e : Some form0 ≡ Some form = sym f0 ∙ f in cc) in
    let forms1 : form1 ≡ form = (let e : Some form1 ≡ Some form = sym f1 ∙ f in cc) in
    let o = subst (λ (g : Form). Opens old table place g before) forms0 o0 in
    let p = subst (λ (g : Form). Opens new table place g after) forms1 o1 in
    let stay = each_persists old new table place form before after f o p k in
    let insides = (HoldsEach-one new table (HoldsEach-persist old new table hs0 stay) hs1).0 in
    ap names_in w_is ∙ plain_cells new table place form after buffer p inside1 ∙ ap names_each (sym insides) ∙ sym (plain_cells old table place form before buffer o inside0) ∙ sym (ap names_in v_is)

-- the buffer is one of the blocks
buffer_in : (bytes : List ℕ) (table : Table) (place : Place) (form : Form) → form_at table place.type ≡ Some form → has_buffer (Some form) ≡ true → {v : Value} {xs : List ℕ} → Holds bytes table place v xs → (h : ℕ) → times h xs ≡ 0
    → times h (named bytes place.at) ≡ 0
buffer_in bytes table place form f buffer (holds form0 opened inside owned f0 o hs v_is xs_are) h none =
    let forms0 : form0 ≡ form = (let e : Some form0 ≡ Some form = sym f0 ∙ f in cc) in
    let blocks = buffer_blocks bytes table place opened form buffer (subst (λ (g : Form). Opens bytes table place g opened) forms0 o) in
    omega (arith, none, ap (times h) xs_are ∙ times-append h opened.blocks owned, ap (times h) blocks)

-- ---- a place with a buffer, of which all parts stay

module _ (old new other another : List ℕ) (table : Table) (place : Place) (form : Form) (f : form_at table place.type ≡ Some form) (buffer : has_buffer (Some form) ≡ true) where
  -- a member of the first blocks is one of the others, since no block is in both lists
  in_first : (xs bs cs zs : List ℕ) → xs ≡ bs ++ zs → ((h : ℕ) → 1 ≤ times h xs → 1 ≤ times h (cs ++ zs)) → ((h : ℕ) → times h xs ≤ 1) → (h : ℕ) → 1 ≤ times h bs → 1 ≤ times h cs
  in_first xs bs cs zs e forth once h some = (
      let a = ap (times h) e ∙ times-append h bs zs in
      let b = forth h (omega (arith, a, some)) in
      omega (arith, a, some, once h, b, times-append h cs zs))

  pub buffer_alike : AlikeAt old other table place → {v : Value} {its : List ℕ} → Holds old table place v its → KeepsAllParts old new table place → KeepsAllParts other another table place → {a b : Value} {xs ys : List ℕ}
      → Holds new table place a xs
      → AllByRecursion (Fits new) xs → Holds another table place b ys → AllByRecursion (Fits another) ys → (m n : ℕ → Value) → replaced m a ≡ replaced n b → ((h : ℕ) → 1 ≤ times h xs → 1 ≤ times h ys)
      → ((h : ℕ) → 1 ≤ times h ys → 1 ≤ times h xs) → ((h : ℕ) → times h xs ≤ 1) → ((h : ℕ) → times h ys ≤ 1) → AlikeAt new another table place
  buffer_alike alike (holds form0 before inside0 owned0 f0 o0 hs0 v_is its_are) k q {a = a} {b = b} {xs = xs} {ys = ys} (holds form1 after inside1 owned1 f1 o1 hs1 a_is xs_are) fits
      (holds form2 after2 inside2 owned2 f2 o2 hs2 b_is ys_are) fits_too
      m n same forth back once once_too =
      let forms0 : form0 ≡ form = (let e : Some form0 ≡ Some form = sym f0 ∙ f in cc) in
      let forms1 : form1 ≡ form = (let e : Some form1 ≡ Some form = sym f1 ∙ f in cc) in
      let forms2 : form2 ≡ form = (let e : Some form2 ≡ Some form = sym f2 ∙ f in cc) in
      let o = subst (λ (g : Form). Opens old table place g before) forms0 o0 in
      let p = subst (λ (g : Form). Opens new table place g after) forms1 o1 in
      let r = subst (λ (g : Form). Opens another table place g after2) forms2 o2 in
      let two = open_alike old other table form before f o alike in
      let stay = each_persists old new table place form before after f o p k in
      let stay_too = each_persists other another table place form before after2 f two.opens r q in
      let insides = HoldsEach-one new table (HoldsEach-persist old new table hs0 stay) hs1 in
      let insides_too = HoldsEach-one another table (HoldsEach-persist other another table (each_alike old other table hs0 two.parts) stay_too) hs2 in
      let xs_is : xs ≡ after.blocks ++ owned0 = xs_are ∙ ap (λ zs. after.blocks ++ zs) (sym insides.1) in
      let ys_is : ys ≡ after2.blocks ++ owned0 = ys_are ∙ ap (λ zs. after2.blocks ++ zs) (sym insides_too.1) in
      let mine = buffer_blocks new table place after form buffer p in
      let theirs = buffer_blocks another table place after2 form buffer r in
      let blocks : named new place.at ≡ named another place.at = members_one (target new place.at) (target another place.at)
      (in_first xs (named new place.at) (named another place.at) owned0 (xs_is ∙ ap (λ bs. bs ++ owned0) mine) (λ h some. subst (λ zs. 1 ≤ times h zs) (ys_is ∙ ap (λ bs. bs ++ owned0) theirs) (forth h some)) once)
      (in_first ys (named another place.at) (named new place.at) owned0 (ys_is ∙ ap (λ bs. bs ++ owned0) theirs) (λ h some. subst (λ zs. 1 ≤ times h zs) (xs_is ∙ ap (λ bs. bs ++ owned0) mine) (back h some)) once_too) in
      let labels : after.label ≡ after2.label = sym (seen_label new table place form after buffer p m inside1) ∙ ap label_of
      (ap (replaced m) (sym a_is) ∙ same ∙ ap (replaced n) b_is) ∙ seen_label another table place form after2 buffer r n inside2 in
      let long : length after.parts ≡ length after2.parts = persist_long old new table stay ∙ sym (persist_long other another table stay_too) in
      let all = subst (AllByRecursion (Fits new)) xs_are fits in
      let all_too = subst (AllByRecursion (Fits another)) ys_are fits_too in
      let one_open = open_as_one new another table place after after2 labels (mine ∙ blocks ∙ sym theirs) long (each_left _ after.blocks owned1 all) (each_left _ after2.blocks owned2 all_too) form p r in
      let places_are = sym one_open.same in
      opens_alike form after f p (subst (λ (z : Opened). Opens another table place form z) places_are r) one_open.counts
      (persist_each_alike old new other another table two.parts stay (subst (λ (z : Opened). PersistEach other another table before.parts z.parts) places_are stay_too) hs1 (each_right _ after.blocks owned1 all)
      (subst (λ (z : Opened). HoldsEach another table z.parts inside2 owned2) places_are hs2) (each_right _ after2.blocks owned2 all_too))

-- ---- SHRINK

-- all blocks but the buffer stay allocated
cut_keeps : (bs : List Span) (end : ℕ) (t : Option ℕ) (units n : ℕ) (h : ℕ) → 1 ≤ times h (positions bs) → times h (option_to_list (option_map block_of t)) ≡ 0 → 1 ≤ times h (positions (cut_to bs end t units n))
cut_keeps bs end None units n h some none = some
cut_keeps bs end (Some p) units zero h some none = kept_without (block_of p) h (λ e. absurd (omega (arith, ap (λ k. times k (block_of p ∷ [])) e, times-same (block_of p) [], none))) bs some
cut_keeps bs end (Some p) units (suc n) h some none = subst (λ ps. 1 ≤ times h ps) (sym (positions-resized (block_of p) _ bs)) some

shrink_lives : (constants : List Constant) (i : Instruction) {others : List Root} {s : State} {bytes : List ℕ} (p : Pictures others s bytes) (new : List ℕ) → i.operation ≡ Operation.Shrink → RefersTo s i.b
    → ChangesBlocks constants i p success new
    → (place : Place) (form : Form) → LedTo constants i p place form → (h : ℕ) → 1 ≤ times h (positions (live bytes)) → times h (named bytes place.at) ≡ 0 → 1 ≤ times h (positions (live new))
shrink_lives constants i {others = others} {s = s} {bytes = bytes} p new is found c place form l h some none =
    let g : CutsBuffer constants i p new = subst (λ o. ChangesOnSuccess constants i p o new) is c in
    let one_place = led_one constants i (itself others (places_of p.owned) bytes p refl) p p refl refl found place g.place form g.form l g.led_to in
    let kept = cut_keeps (live bytes) (length bytes) (target bytes g.place.at) (units_named bytes g.place.at) (count_at bytes g.place.at * item_size s.types g.form) h some
    (subst (λ (z : Place). times h (named bytes z.at) ≡ 0) one_place.0 none) in
    subst (λ bs. 1 ≤ times h (positions bs)) (sym g.left) kept

module _ (constants : List Constant) (others : List Root) (moves : List Move) (i : Instruction) (is : i.operation ≡ Operation.Shrink) (x z y w : Situation) where
  no_names : changes_names i.operation ≡ false
  no_names = ap changes_names is

  no_uniques : changes_uniques i.operation ≡ false
  no_uniques = ap changes_uniques is

  -- the place's parts stay
  parts_stay : {s : State} {bytes new : List ℕ} (p : Pictures others s bytes) → RefersTo s i.b → KeepsBy constants i p i.operation new → (place : Place) (form : Form) → LedTo constants i p place form → {value : Value} {its : List ℕ}
      → Holds bytes p.picture.table place value its → KeepsAllParts bytes new p.picture.table place
  parts_stay {bytes = bytes} {new = new} p found k place form l h = by (subst (λ o. KeepsBy constants i p o new) is k)
    where
      by : KeepsBy constants i p Operation.Shrink new → KeepsAllParts bytes new p.picture.table place
      by (inl e) = subst (λ z. KeepsAllParts bytes z p.picture.table place) (sym e) (parts_unchanged bytes p.picture.table p.held.laid_out.is_table h)
      by (inr c) =
          let one_place = led_one constants i (itself others (places_of p.owned) bytes p refl) p p refl refl found place c.0 form c.1 l c.2 in
          subst (λ (t : Table). KeepsAllParts bytes new t place) (sym p.types) (subst (λ (z : Place). KeepsAllParts bytes new _ z) (sym one_place.0) c.3)

  shrunk : (second : Answer) (stand : StandAlike others x z) (r : RowOn constants others moves i x success y) (q : RowOn constants others moves i z second w) → StaysAlike others success second y w
  shrunk second stand r q =
      place_step constants others moves i no_names no_uniques x z y w success second stand r q keeps found false (λ s bytes p spot own t. subst (λ o. TouchesBy constants i p o spot own) is t) steps
    where
      keeps : moves_owners i.operation success ≡ false
      keeps = ap (λ o. moves_owners o success) is

      found : RefersTo r.before.plain i.b
      found = refers_to constants i x.state x.image r.before success y.state r.row (ap at_place is)

      side : Side constants others i x.owned x.image y.image success r.after.pictured r.before.plain
      side = mine constants others moves i no_names no_uniques x z y w success second stand r q keeps found

      other : Side constants others i x.owned z.image w.image second q.after.pictured r.before.plain
      other = theirs constants others moves i no_names no_uniques x z y w success second stand r q keeps found

      table_form : {bytes : List ℕ} (p : Pictures others r.before.plain bytes) (place : Place) (form : Form) → LedTo constants i p place form → form_at p.picture.table place.type ≡ Some form
      table_form p place form l = ap (λ (k : Table). form_at k place.type) p.types ∙ l.form_is

      within_place : {bytes new : List ℕ} (p : Pictures others r.before.plain bytes) (place : Place) (form : Form) (its : List ℕ) → has_buffer (Some form) ≡ true → Touched constants i false p new place form its
          → KeepsBy constants i p i.operation new
          → ChangesBlocks constants i p success new → ChangesWithin p new place its
      within_place {bytes = bytes} {new = new} p place form its buffer t k c =
          let l = t.led_to in
          let start = found l.path l.path_is in
          let f = table_form p place form l in
          let stay = parts_stay p found k place form l t.holds_it in
          let root = cells_of (IsBelow (word bytes next_word) p.picture.frozen) (owners_in p.picture) l.stands.root p.counted.counted.named (own_owner p new l.path place l.stands start.0 start.1 its t.holds_it t.kept) in
          let below = value_below p new l.path place l.stands start.0 start.1 its t.holds_it t.kept (word bytes next_word) p.picture.frozen root in
          record {
            cells = λ w news h. subst (AllByRecursion (IsBelow (word bytes next_word) p.picture.frozen)) (sym (cells_stay bytes new p.picture.table place form f buffer stay t.holds_it h)) below;
            lives = λ h some none. shrink_lives constants i p new is found c place form l h some (buffer_in bytes p.picture.table place form f buffer t.holds_it h none);
          }

      steps : (place : Place) (form : Form) (its : List ℕ) (t : Touched constants i false side.before y.image place form its) (u : Touched constants i false other.before w.image place form its)
          → PlaceSteps constants others moves i no_names no_uniques x z y w success second stand r q keeps found place form its t u
      steps place form its t u =
          let buffer = buffer_there constants i x.state x.image r.before success y.state r.row is place form t.led_to in
          let theirs_success : ChangesBlocks constants i other.before success w.image = subst (λ a. ChangesBlocks constants i other.before a w.image) (sym (one constants others moves i x z y w success second stand r q).0) other.blocks in
          let one_table : other.before.picture.table ≡ side.before.picture.table = other.before.types ∙ sym side.before.types in
          let mine_stay = parts_stay side.before found side.ties.kept_by place form t.led_to t.holds_it in
          let their_stay = subst (λ (k : Table). KeepsAllParts z.image w.image k place) one_table (parts_stay other.before found other.ties.kept_by place form u.led_to u.holds_it) in
          let like = (led_in_both constants i stand.images side.before other.before side.at other.at found place form t.led_to).alike_at in
          record {
            within_first = within_whole constants others moves i no_names no_uniques x z y w success second stand r q keeps found side place form its t
                (within_place side.before place form its buffer t side.ties.kept_by side.blocks);
            within_second = within_whole constants others moves i no_names no_uniques x z y w success second stand r q keeps found other place form its u
                (within_place other.before place form its buffer u other.ties.kept_by theirs_success);
            inner = λ a b xs ys h fits k fits_too m n same forth back once once_too.
                buffer_alike x.image y.image z.image w.image side.before.picture.table place form (table_form side.before place form t.led_to) buffer like t.holds_it mine_stay their_stay h fits k fits_too m n same forth back once once_too;
          }

  pub shrink_alike : (first second : Answer) → StandAlike others x z → RowOn constants others moves i x first y → RowOn constants others moves i z second w → StaysAlike others first second y w
  shrink_alike success second stand r q = shrunk second stand r q
  shrink_alike first second stand r q = unchanged_alike constants others moves i x z y w first second stand r q (ap (λ o. keeps_image o first) is)
