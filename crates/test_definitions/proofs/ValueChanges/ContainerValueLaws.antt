-- What clients see of a vector, a list or a map: as many values as its cell counts, and its keys.
use Rattle.std.proofs.Common.{◌≡◌, ℕ, zero, suc, ℤ, Bool, true, List, Option, Some, None, refl, sym, ap, ◌∙◌, subst}
use Rattle.seg_spec.specs.Bytes.{word}
use Rattle.seg_spec.specs.Header.{next_word}
use Rattle.seg_spec.specs.Types.{Form, Table, form_at}
use Rattle.seg_spec.specs.Value.{Label, Value, Values, node, nil, cons, count}
use Rattle.seg_spec.specs.Items.{key_place}
use Rattle.seg_spec.specs.Reads.{Place, Opens, Holds, holds, count_at}
use Rattle.seg_spec.specs.Frozen.{Frozen}
use Rattle.seg_spec.specs.Index.{Root}
use Rattle.seg_spec.specs.Roots.{HasFace}
use Rattle.seg_spec.specs.Shared.{replaced, replaced_each, value_at_position, owner_by, meaning}
use Rattle.seg_spec.proofs.Values.PathSplitLaws.{count_is}
use Rattle.client_spec.specs.Syntax.{Constant, Instruction}
use Rattle.client_spec.specs.Machine.{◌>>=◌, Path, State, path_value}
use Rattle.client_spec.specs.Answer.{integer_at, path_of, entries_in}
use Rattle.client_spec.specs.Pictures.{Pictures, meaning_in, trees_of}
use Rattle.client_spec.specs.Asks.{found_key}
use Rattle.client_spec.specs.Ties.{spot_of}
use Rattle.client_spec.proofs.TypedStates.ValueLaws.{Some_inj, bind_some}
use Rattle.client_spec.proofs.Unfolded.UnfoldedStateLaws.{integer_same, value_same}
use Rattle.client_spec.proofs.Unfolded.UnfoldedValueLaws.{count_replaced}
use Rattle.test_definitions.specs.Alike.{has_count, AlikeAt, opens_alike}
use Rattle.test_definitions.proofs.ValueChanges.AddedValueLaws.{IsContainer, SeenLabel, entries_value, values_in, label_in}
use Rattle.test_definitions.proofs.ValueChanges.ChangedPlaceLaws.{KeepsOwners}
use Rattle.test_definitions.proofs.Rows.ChangedPlaceRowLaws.{ObjectsThere}
use Rattle.test_definitions.proofs.ValueChanges.NewPartLaws.{container_label, container_long}
use Rattle.test_definitions.proofs.Rows.OnePlaceLaws.{RefersTo}
use Rattle.test_definitions.proofs.Steps.PlaceStepLaws.{Touched, nothing_changes}
use Rattle.test_definitions.proofs.ValueChanges.PlaceValueLaws.{value_there}

-- ---- counts

-- a value that a container contains
record Contained (bytes : List ℕ) (place : Place) (v : Value) : Type 0 where
  label : Label
  seen : SeenLabel label
  values : Values
  value_is : v ≡ node label values
  counted : count_at bytes place.at ≡ count values

contained : (bytes : List ℕ) (table : Table) (place : Place) (form : Form) → form_at table place.type ≡ Some form → IsContainer form → {v : Value} {its : List ℕ} → Holds bytes table place v its → Contained bytes place v
contained bytes table place form f s (holds form' opened inside owned f' o' hs v_is its_are) =
    let forms : form' ≡ form = (let e : Some form' ≡ Some form = sym f' ∙ f in cc) in
    let o = subst (λ (g : Form). Opens bytes table place g opened) forms o' in
    record {
      label = opened.label;
      seen = container_label bytes table place form opened s o;
      values = inside;
      value_is = v_is;
      counted = sym (container_long bytes table place form opened s o) ∙ count_is bytes table hs;
    }

-- the cell counts the items that clients see
pub seen_count : {others : List Root} {s : State} {bytes : List ℕ} (p : Pictures others s bytes) (path : Path) (table : Table) (place : Place) (form : Form) → form_at table place.type ≡ Some form → IsContainer form
    → {v : Value} {blocks : List ℕ} → Holds bytes table place v blocks → path_value s path ≡ Some v → (label : Label) (us : Values) → path_value (trees_of p) path ≡ Some (node label us) → count_at bytes place.at ≡ count us
seen_count {s = s} {bytes = bytes} p path table place form f container {v = v} h is label us seen =
    let mean = meaning_in (word bytes next_word) p.picture in
    let held = contained bytes table place form f container h in
    let trees : replaced mean v ≡ node label us = (let e : Some (replaced mean v) ≡ Some (node label us) = sym (value_same mean s path v is) ∙ seen in cc) in
    let values : replaced_each mean held.values ≡ us = values_in (sym (held.seen.trees mean held.values) ∙ ap (replaced mean) (sym held.value_is) ∙ trees) in
    held.counted ∙ sym (count_replaced mean held.values) ∙ ap count values

container_counts : (form : Form) → IsContainer form → has_count form ≡ true
container_counts (Form.vec U) s = refl
container_counts (Form.list U) s = refl
container_counts (Form.flat_map U) s = refl
container_counts (Form.map U) s = refl
container_counts form s = absurd s

pub count_alike : (first second : List ℕ) (table : Table) (place : Place) (form : Form) → form_at table place.type ≡ Some form → IsContainer form → AlikeAt first second table place → count_at second place.at ≡ count_at first place.at
count_alike first second table place form f s (opens_alike form' opened f' o p n each) = (let forms : form' ≡ form = (let e : Some form' ≡ Some form = sym f' ∙ f in cc) in n (ap has_count forms ∙ container_counts form s))

-- ---- keys

-- a cell is seen as an owner, so a value that is seen as a map is one
meaning_owner : (n : ℕ) (fs : List Frozen) (p : ℕ) → (vs : Values) × (meaning n fs p ≡ node Label.opt vs)
unfolding meaning
meaning_owner zero fs p = (nil, refl)
meaning_owner (suc n) fs p = go (value_at_position fs p)
  where
    go : (o : Option Value) → (vs : Values) × (owner_by (λ v. replaced (meaning n fs) v) o ≡ node Label.opt vs)
    go None = (nil, refl)
    go (Some v) = (cons (replaced (meaning n fs) v) nil, refl)

seen_map : (m : ℕ → Value) → ((p : ℕ) → (vs : Values) × (m p ≡ node Label.opt vs)) → (v : Value) (keys : List ℤ) (us : Values) → replaced m v ≡ node (Label.map keys) us → (vs : Values) × (v ≡ node (Label.map keys) vs)
unfolding replaced
seen_map m owner (node (Label.shared T p) vs) keys us e = absurd (let f : Label.opt ≡ Label.map keys = label_in (sym (owner p).1 ∙ e) in cc)
seen_map m owner (node (Label.map ks) vs) keys us e = (vs, ap (λ l. node l vs) (label_in e))
seen_map m owner (node (Label.int k) vs) keys us e = absurd (let f : Label.int k ≡ Label.map keys = label_in e in cc)
seen_map m owner (node (Label.text bytes) vs) keys us e = absurd (let f : Label.text bytes ≡ Label.map keys = label_in e in cc)
seen_map m owner (node Label.seq vs) keys us e = absurd (let f : Label.seq ≡ Label.map keys = label_in e in cc)
seen_map m owner (node Label.opt vs) keys us e = absurd (let f : Label.opt ≡ Label.map keys = label_in e in cc)
seen_map m owner (node Label.struct vs) keys us e = absurd (let f : Label.struct ≡ Label.map keys = label_in e in cc)

found_is : (i : Instruction) (s : State) (path : Path) (key : ℤ) (es : List ℤ × Values) → path_of s i.b ≡ Some path → integer_at s i.c ≡ Some key → (path_value s path >>= entries_in) ≡ Some es → found_key i s ≡ key_place es.0 key
found_is i s path key es is key_is there =
    ap (λ x. x >>= λ p. integer_at s i.c >>= λ k. (path_value s p >>= entries_in) >>= λ es. key_place es.0 k) is
    ∙ ap (λ x. x >>= λ k. (path_value s path >>= entries_in) >>= λ es. key_place es.0 k) key_is
    ∙ ap (λ x. x >>= λ (es : List ℤ × Values). key_place es.0 key) there

-- the entries that clients see have the keys of the state without copies
pub key_there : (i : Instruction) {others : List Root} {s : State} {bytes : List ℕ} (p : Pictures others s bytes) (path : Path) → path_of s i.b ≡ Some path → (v : Value) → path_value s path ≡ Some v → (o : Option ℕ) → found_key i s ≡ o
    → (k : ℤ) (es : List ℤ × Values) → integer_at (trees_of p) i.c ≡ Some k → (path_value (trees_of p) path >>= entries_in) ≡ Some es → key_place es.0 k ≡ o
key_there i {s = s} {bytes = bytes} p path is v value_is o found k es key entries =
    let next = word bytes next_word in
    let mean = meaning_in next p.picture in
    let seen = bind_some (path_value (trees_of p) path) entries_in es entries in
    let trees : replaced mean v ≡ node (Label.map es.0) es.1 = Some_inj (sym (value_same mean s path v value_is) ∙ seen.1) ∙ entries_value seen.0 es seen.2 in
    let w = seen_map mean (meaning_owner next p.picture.frozen) v es.0 es.1 trees in
    sym (found_is i s path k (es.0, w.0) is (sym (integer_same mean s i.c) ∙ key) (ap (λ o. o >>= entries_in) (value_is ∙ ap Some w.1))) ∙ found

-- ---- the value before an instruction

same_face : (a b : Root) → a ≡ b → HasFace a b
same_face a b e = subst (HasFace a) e (record { same_name = refl; same_words = refl; same_at = refl; same_type = refl; same_count = refl })

pub record ValueBefore {others : List Root} {s : State} {bytes : List ℕ} (p : Pictures others s bytes) (path : Path) (place : Place) : Type 0 where
  pub value : Value
  pub blocks : List ℕ
  pub holds_it : Holds bytes p.picture.table place value blocks
  pub value_is : path_value s path ≡ Some value

pub value_before : (constants : List Constant) (i : Instruction) {others : List Root} {s : State} {bytes : List ℕ} (p : Pictures others s bytes) → RefersTo s i.b → {releases : Bool} {new : List ℕ}
    → (place : Place) (form : Form) (its : List ℕ) (t : Touched constants i releases p new place form its) → ValueBefore p t.led_to.path place
value_before constants i {bytes = bytes} p found place form its t =
    let l = t.led_to in
    let start = found l.path l.path_is in
    let kept : KeepsOwners p bytes place its = λ h some none none_frozen. nothing_changes bytes bytes p.picture p.held (spot_of p.picture.table place) its refl h some none in
    let objects : ObjectsThere p bytes l.path place l.stands start.0 start.1 its t.holds_it kept p = record {
      tables = refl;
      names = λ name. refl;
      uniques = λ T. refl;
      stay = record { names = λ name a b e f. same_face a b (Some_inj (sym e ∙ f)); uniques = λ T a b e f. same_face a b (Some_inj (sym e ∙ f)) };
      owned_at = refl;
    } in
    let there = value_there p bytes l.path place l.stands start.0 start.1 its t.holds_it kept p objects refl in
    record { value = there.now; blocks = there.blocks; holds_it = there.holds_now; value_is = there.value_is }
