-- The number of a named object that a host found before a client ran, and reads after the run.
use Rattle.std.proofs.Common.{◌≡◌, ℕ, ◌+◌, ◌*◌, ◌≤◌, ◌≢◌, Bool, true, false, List, [], ◌∷◌, ◌++◌, Option, Some, None, eqb-true, refl, sym, ◌∙◌, ap, subst, arith}
use Rattle.std.specs.Prelude.{ℤ, if◌then◌else◌, ◌==◌, Result, Ok, Err}
use Rattle.seg_spec.specs.Bytes.{word, signed_long}
use Rattle.seg_spec.specs.Header.{next_word}
use Rattle.seg_spec.specs.Types.{Form, form_at, size}
use Rattle.seg_spec.specs.Value.{Value, Int, count}
use Rattle.seg_spec.specs.Index.{Root, AreEntries, same_name, root_named}
use Rattle.seg_spec.specs.Reads.{Place, here, Leads}
use Rattle.seg_spec.specs.Sound.{Picture, IsHeld}
use Rattle.seg_spec.specs.Counting.{AreCounted}
use Rattle.seg_spec.specs.Roots.{Listed, item_of, IsReached}
use Rattle.seg_spec.proofs.Images.ReachedPlaceLaws.{found_place}
use Rattle.seg_spec.proofs.Images.RootWriteLaws.{number_held}
use Rattle.seg_spec.proofs.Values.OneValueLaws.{Holds-one}
use Rattle.lezgauri.specs.Code.{Code}
use Rattle.lezgauri.specs.Code.TheVariants as code
use Rattle.lezgauri.specs.Image.{Image}
use Rattle.lezgauri.specs.Images.{segment_of, allocator_of, types_of, bytes_in, IsOpen}
use Rattle.lezgauri.specs.Syntax.{Client}
use Rattle.lezgauri.specs.Runs.{MayRun}
use Rattle.lezgauri.specs.Places.{first_place}
use Rattle.lezgauri.specs.NamedObjects.{found_of, found_as}
use Rattle.lezgauri.specs.Place as program
use Rattle.lezgauri.specs.Staying.{NameStays}
use Rattle.lezgauri_uses.specs.Numbers.{HasNumber}

record NamedEntry (names : List Root) (root : Root) : Type 0 where
  before : List Root
  after : List Root
  among : names ≡ before ++ root ∷ after
  some : 1 ≤ count root.values

named_entry : (bytes entries : List ℕ) (names : List Root) (name : List ℕ) (root : Root) → AreEntries bytes entries names → root_named names name ≡ Some root → NamedEntry names root
named_entry bytes [] [] name root h e = cc
named_entry bytes [] (r ∷ rs) name root h e = absurd h
named_entry bytes (x ∷ es) [] name root h e = absurd h
named_entry bytes (x ∷ es) (r ∷ rs) name root h e = choose (same_name name r.name) (named_entry bytes es rs name root h.1) e
  where
    choose : (t : Bool) → (root_named rs name ≡ Some root → NamedEntry rs root) → (if t then Some r else root_named rs name) ≡ Some root → NamedEntry (r ∷ rs) root
    choose true again f =
        let same : r ≡ root = cc in
        record { before = []; after = rs; among = ap (λ q. q ∷ rs) same; some = subst (λ (q : Root). 1 ≤ count q.values) same h.0.some }
    choose false again f =
        let m = again f in
        record { before = r ∷ m.before; after = m.after; among = ap (λ qs. r ∷ qs) m.among; some = m.some }

-- the number at an object's position is its value
pub number_there : (bytes : List ℕ) (picture : Picture) (held : IsHeld bytes picture) → AreCounted (word bytes next_word) picture → (name : List ℕ) (root : Root) → root_named picture.names name ≡ Some root
    → form_at picture.table root.type ≡ Some Form.i64 → HasNumber picture name (signed_long bytes root.at)
number_there bytes picture held counted name root is form =
    let m = named_entry bytes held.laid_out.names.index.entries picture.names name root held.laid_out.names.entries is in
    let place : Place = record { at = root.at; type = root.type } in
    let first : item_of picture.table root 0 ≡ place = ap (λ (at : ℕ). record { at = at; type = root.type }) (let n : root.at + 0 * size picture.table root.type ≡ root.at = omega arith in n) in
    let reached : IsReached bytes picture place = record {
      which = Listed.by_name;
      before = m.before;
      root = root;
      after = m.after;
      among = m.among;
      item = 0;
      within = m.some;
      path = [];
      leads = subst (λ q. Leads bytes picture.table q [] place) (sym first) here;
    } in
    let f = (found_place bytes picture held counted place reached).1 in
    let whole : f.whole ≡ Int (signed_long bytes root.at) = (let v = f.value_is in Some_same v) ∙ (Holds-one bytes picture.table f.stands.holds_it (number_held bytes picture.table place form)).0 in
    (root, is, f.item_is ∙ ap Some whole)
  where
    Some_same : {x y : Value} → Some x ≡ Some y → x ≡ y
    Some_same e = cc

-- ---- the calls

-- a call that found an object found the one with the name and type
found_root : (names : List Root) (name : List ℕ) (T : ℕ) (place : program.Place) → Ok place ≡ first_place T (found_as T (root_named names name))
    → (root : Root) × (root_named names name ≡ Some root) × (root.type ≡ T) × (place ≡ record { at = root.at; type_id = T })
found_root names name T place e = by (root_named names name) refl e
  where
    by : (o : Option Root) → root_named names name ≡ o → Ok place ≡ first_place T (found_as T o) → (root : Root) × (root_named names name ≡ Some root) × (root.type ≡ T) × (place ≡ record { at = root.at; type_id = T })
    by None is f = cc
    by (Some root) is f = of_type (root.type == T) refl f
      where
        of_type : (t : Bool) → (root.type == T) ≡ t → Ok place ≡ first_place T (if t then Ok (found_of root) else Err code.OtherType)
            → (root : Root) × (root_named names name ≡ Some root) × (root.type ≡ T) × (place ≡ record { at = root.at; type_id = T })
        of_type true g f = (root, is, eqb-true root.type T g, cc)
        of_type false g f = cc

-- a call that returned a number was on a number
number_form : (form : Option Form) (n : ℤ) (is : ℤ) (error : Code) → (form ≡ Some Form.i64 → ◌≡◌ {A = Result ℤ Code} (Ok n) (Ok is)) → (form ≢ Some Form.i64 → ◌≡◌ {A = Result ℤ Code} (Ok n) (Err error))
    → (form ≡ Some Form.i64) × (n ≡ is)
number_form None n is error number other = absurd (let e = other (λ f. cc) in cc)
number_form (Some Form.i64) n is error number other = (refl, (let e = number refl in cc))
number_form (Some form) n is error number other = absurd (let e = other (λ f. cc) in cc)

pub read_after : {A : Type 0} (old new : Image A) (others : List Root) (tree : Client) → MayRun (allocator_of old) others (segment_of old).window (types_of old) tree [] → (name : List ℕ) (place : program.Place) (number : ℤ)
    → ((picture : Picture) → IsOpen old picture → Ok place ≡ first_place 0 (found_as 0 (root_named picture.names name))) → NameStays (bytes_in old) (bytes_in new) name
    → (form_at (types_of new) place.type_id ≡ Some Form.i64 → ◌≡◌ {A = Result ℤ Code} (Ok number) (Ok (signed_long (bytes_in new) place.at)))
    → (form_at (types_of new) place.type_id ≢ Some Form.i64 → ◌≡◌ {A = Result ℤ Code} (Ok number) (Err code.OtherType))
    → (picture : Picture) → IsOpen new picture → HasNumber picture name number
read_after old new others tree may name place number found stays is_number is_other picture opened =
    let ready = may.ready in
    let f = found_root ready.picture.names name 0 place (found ready.picture (record { held = ready.held; counted = ready.counted; table_is = sym ready.table_is; allocator_is = ready.allocator_is })) in
    let s = stays ready.picture picture ready.held opened.held f.0 f.1 in
    let n = number_form (form_at (types_of new) place.type_id) number (signed_long (bytes_in new) place.at) code.OtherType is_number is_other in
    let at : place.at ≡ s.0.at = ap (λ (p : program.Place). p.at) f.3 ∙ sym s.2.same_at in
    let type : place.type_id ≡ s.0.type = ap (λ (p : program.Place). p.type_id) f.3 ∙ sym (s.2.same_type ∙ f.2) in
    let form : form_at picture.table s.0.type ≡ Some Form.i64 = ap (λ T. form_at picture.table T) (sym type) ∙ ap (λ ts. form_at ts place.type_id) (sym opened.table_is) ∙ n.0 in
    let there = number_there (bytes_in new) picture opened.held opened.counted name s.0 s.1 form in
    subst (HasNumber picture name) (ap (signed_long (bytes_in new)) (sym at) ∙ sym n.1) there
