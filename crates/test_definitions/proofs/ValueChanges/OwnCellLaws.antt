-- An own cell that points to an object, or to nothing: how it opens, and its value.
use Rattle.std.proofs.Common.{◌≡◌, ℕ, List, [], ◌∷◌, ◌++◌, length, Option, Some, None, option_map, option_to_list, unwrap_or, refl, sym, ap, ◌∙◌, subst, arith}
use Rattle.seg_spec.specs.Pointer.{target}
use Rattle.seg_spec.specs.Types.{Form, Table, form_at}
use Rattle.seg_spec.specs.Value.{Label, Value, Values, node, nil, cons, count, Empty}
use Rattle.seg_spec.specs.Block.{block_of}
use Rattle.seg_spec.specs.Reads.{Place, Opened, Opens, Holds, holds, HoldsEach, holds_none, holds_more, count_at, items}
use Rattle.seg_spec.specs.Shared.{names_in, names_each, replaced, replaced_each}
use Rattle.seg_spec.proofs.Values.PathSplitLaws.{count_is}
use Rattle.client_spec.proofs.Unfolded.UnfoldedValueLaws.{count_replaced}
use Rattle.client_spec.specs.Ties.{object_at}
use Rattle.std.proofs.lemmas.List.{append-nil}
use Rattle.test_definitions.specs.Alike.{AlikeAt, opens_alike, AlikeEach, none_alike, more_alike}
use Rattle.test_definitions.proofs.ValueChanges.AlikePlaceLaws.{open_alike}

-- how an own cell opens that points to the object
abbrev pub owning : ℕ → ℕ → Opened
owning at T = record { label = Label.opt; blocks = block_of at ∷ []; parts = object_at at T ∷ [] }

abbrev pub empty_own : Opened
empty_own = record { label = Label.opt; blocks = []; parts = [] }

module _ (bytes : List ℕ) (table : Table) (place : Place) (T : ℕ) (opened : Opened) (o : Opens bytes table place (Form.own T) opened) where
  pub counts_one : (at : ℕ) → target bytes place.at ≡ Some at → count_at bytes place.at ≡ 1
  counts_one at e = o.counted ∙ ap (λ t. length (option_to_list (option_map block_of t))) e

  pub opens_owning : (at : ℕ) → target bytes place.at ≡ Some at → opened ≡ owning at T
  opens_owning at e = (
      let n = counts_one at e in
      o.opened_is ∙ (λ j. record { label = Label.opt; blocks = option_to_list (option_map block_of (e j)); parts = items table (unwrap_or (e j) 0) T (n j) }))

  counts_none : target bytes place.at ≡ None → count_at bytes place.at ≡ 0
  counts_none e = o.counted ∙ ap (λ t. length (option_to_list (option_map block_of t))) e

  pub opens_empty : target bytes place.at ≡ None → opened ≡ empty_own
  opens_empty e = (
      let n = counts_none e in
      o.opened_is ∙ (λ j. record { label = Label.opt; blocks = option_to_list (option_map block_of (e j)); parts = items table (unwrap_or (e j) 0) T (n j) }))

pub one_form : (table : Table) (place : Place) (f g : Form) → form_at table place.type ≡ Some f → form_at table place.type ≡ Some g → f ≡ g
one_form table place f g e h = (let both : Some f ≡ Some g = sym e ∙ h in cc)

pub empty_names : names_in Empty ≡ []
unfolding names_in
empty_names = refl

pub owned_names : (v : Value) → names_in (node Label.opt (cons v nil)) ≡ names_each (cons v nil)
unfolding names_in
owned_names v = refl

-- ---- the content of an own cell

-- the cell points to an object with this value
pub record Owned (bytes : List ℕ) (table : Table) (at T : ℕ) (v : Value) (blocks : List ℕ) : Type 0 where
  pub content : Value
  pub inside : List ℕ
  pub holds_content : Holds bytes table (object_at at T) content inside
  pub value_is : v ≡ node Label.opt (cons content nil)
  pub blocks_are : blocks ≡ block_of at ∷ inside

module _ (bytes : List ℕ) (table : Table) where
  one_held : {ps : List Place} {q : Place} {vs : Values} {owned : List ℕ} → ps ≡ q ∷ [] → HoldsEach bytes table ps vs owned → (u : Value) × (xs : List ℕ) × Holds bytes table q u xs × (vs ≡ cons u nil) × (owned ≡ xs)
  one_held e holds_none = cc
  one_held {q = q} e (holds_more {place = p} {places = ps} {v = u} {blocks = xs} h hs) = (
      let first : p ≡ q = cc in
      let rest : ps ≡ [] = cc in
      let none = no_more rest hs in (
        u,
        xs,
        subst (λ (z : Place). Holds bytes table z u xs) first h,
        ap (cons u) none.0,
        ap (λ ys. xs ++ ys) none.1 ∙ append-nil xs,
      ))
    where
      no_more : {ps : List Place} {vs : Values} {owned : List ℕ} → ps ≡ [] → HoldsEach bytes table ps vs owned → (vs ≡ nil) × (owned ≡ [])
      no_more e holds_none = (refl, refl)
      no_more e (holds_more h hs) = cc

  pub owned_in : {place : Place} {v : Value} {blocks : List ℕ} (T at : ℕ) → form_at table place.type ≡ Some (Form.own T) → target bytes place.at ≡ Some at → Holds bytes table place v blocks → Owned bytes table at T v blocks
  owned_in {place = place} T at f e (holds form opened inside owned g o hs v_is blocks_are) =
      let forms = one_form table place form (Form.own T) g f in
      let opens = subst (λ (k : Form). Opens bytes table place k opened) forms o in
      let is = opens_owning bytes table place T opened opens at e in
      let one = one_held (ap (λ (x : Opened). x.parts) is) hs in
      record {
        content = one.0;
        inside = one.1;
        holds_content = one.2;
        value_is = v_is ∙ (λ j. node (is j).label (one.3 j));
        blocks_are = blocks_are ∙ (λ j. (is j).blocks ++ one.4 j);
      }

  -- the cell's pointer is null if the cell is read as empty
  pub null_in : {place : Place} {v : Value} {blocks : List ℕ} (T : ℕ) (m : ℕ → Value) → form_at table place.type ≡ Some (Form.own T) → Holds bytes table place v blocks → replaced m v ≡ Empty → target bytes place.at ≡ None
  unfolding replaced
  null_in {place = place} T m f (holds form opened inside owned g o hs v_is blocks_are) e =
      let forms = one_form table place form (Form.own T) g f in
      let opens : Opens bytes table place (Form.own T) opened = subst (λ (k : Form). Opens bytes table place k opened) forms o in
      let label : opened.label ≡ Label.opt = ap (λ (x : Opened). x.label) opens.opened_is in
      let read : node Label.opt (replaced_each m inside) ≡ Empty = sym (ap (λ (k : Label). replaced m (node k inside)) label) ∙ sym (ap (replaced m) v_is) ∙ e in
      let none : replaced_each m inside ≡ nil = cc in
      let long : length opened.parts ≡ 0 = count_is bytes table hs ∙ sym (count_replaced m inside) ∙ ap count none in
      by (target bytes place.at) refl opens long
    where
      by : (t : Option ℕ) → target bytes place.at ≡ t → (opens : Opens bytes table place (Form.own T) opened) → length opened.parts ≡ 0 → t ≡ None
      by None is opens long = refl
      by (Some at) is opens long = absurd (let n = ap (λ (x : Opened). length x.parts) (opens_owning bytes table place T opened opens at is) in omega (arith, n, long))

  -- a null cell owns nothing, and has no shared cells
  pub empty_in : {place : Place} {v : Value} {blocks : List ℕ} (T : ℕ) → form_at table place.type ≡ Some (Form.own T) → target bytes place.at ≡ None → Holds bytes table place v blocks → v ≡ Empty
  empty_in {place = place} T f e (holds form opened inside owned g o hs v_is blocks_are) =
      let forms = one_form table place form (Form.own T) g f in
      let opens = subst (λ (k : Form). Opens bytes table place k opened) forms o in
      let is = opens_empty bytes table place T opened opens e in
      v_is ∙ (λ j. node (is j).label (no_values (ap (λ (x : Opened). x.parts) is) hs j))
    where
      no_values : {ps : List Place} {vs : Values} {owned : List ℕ} → ps ≡ [] → HoldsEach bytes table ps vs owned → vs ≡ nil
      no_values e holds_none = refl
      no_values e (holds_more h hs) = cc

-- ---- two images

module _ (first second : List ℕ) (table : Table) (place : Place) (T : ℕ) (f : form_at table place.type ≡ Some (Form.own T)) where
  -- null cells are alike
  pub empty_alike : {v w : Value} {xs ys : List ℕ} → target first place.at ≡ None → target second place.at ≡ None → Holds first table place v xs → Holds second table place w ys → AlikeAt first second table place
  empty_alike e e' (holds form a inside owned g o hs v_is xs_are) (holds form' b inside' owned' g' o' hs' w_is ys_are) =
      let opens = subst (λ (k : Form). Opens first table place k a) (one_form table place form (Form.own T) g f) o in
      let opens' = subst (λ (k : Form). Opens second table place k b) (one_form table place form' (Form.own T) g' f) o' in
      let mine = opens_empty first table place T a opens e in
      let theirs = opens_empty second table place T b opens' e' in
      opens_alike (Form.own T) empty_own f (subst (λ (x : Opened). Opens first table place (Form.own T) x) mine opens) (subst (λ (x : Opened). Opens second table place (Form.own T) x) theirs opens')
      (λ c. counts_none second table place T b opens' e' ∙ sym (counts_none first table place T a opens e)) none_alike

  -- cells that point to one object are alike if its places are
  pub owning_alike : (at : ℕ) {v w : Value} {xs ys : List ℕ} → target first place.at ≡ Some at → target second place.at ≡ Some at → Holds first table place v xs → Holds second table place w ys → AlikeAt first second table (object_at at T)
      → AlikeAt first second table place
  owning_alike at e e' (holds form a inside owned g o hs v_is xs_are) (holds form' b inside' owned' g' o' hs' w_is ys_are) inner =
      let opens = subst (λ (k : Form). Opens first table place k a) (one_form table place form (Form.own T) g f) o in
      let opens' = subst (λ (k : Form). Opens second table place k b) (one_form table place form' (Form.own T) g' f) o' in
      let mine = opens_owning first table place T a opens at e in
      let theirs = opens_owning second table place T b opens' at e' in
      opens_alike (Form.own T) (owning at T) f (subst (λ (x : Opened). Opens first table place (Form.own T) x) mine opens) (subst (λ (x : Opened). Opens second table place (Form.own T) x) theirs opens')
      (λ c. counts_one second table place T b opens' at e' ∙ sym (counts_one first table place T a opens at e)) (more_alike inner none_alike)

  -- an own cell that is alike points to one object in both images, which is alike
  pub content_alike : (at other : ℕ) {v : Value} {xs : List ℕ} → target first place.at ≡ Some at → target second place.at ≡ Some other → Holds first table place v xs → AlikeAt first second table place
      → (other ≡ at) × AlikeAt first second table (object_at at T)
  content_alike at other e e' (holds form a inside owned g o hs v_is xs_are) alike =
      let opens = subst (λ (k : Form). Opens first table place k a) (one_form table place form (Form.own T) g f) o in
      let two = open_alike first second table (Form.own T) a f opens alike in
      let mine = opens_owning first table place T a opens at e in
      let theirs = opens_owning second table place T a two.opens other e' in
      let parts : ◌≡◌ {A = List Place} (object_at other T ∷ []) (object_at at T ∷ []) = ap (λ (x : Opened). x.parts) (sym theirs ∙ mine) in
      let one_place : object_at other T ≡ object_at at T = cc in (
        ap (λ (z : Place). z.at) one_place,
        first_of (subst (λ (x : Opened). AlikeEach first second table x.parts) mine two.parts),
      )
    where
      first_of : {q : Place} {qs : List Place} → AlikeEach first second table (q ∷ qs) → AlikeAt first second table q
      first_of (more_alike h hs) = h
