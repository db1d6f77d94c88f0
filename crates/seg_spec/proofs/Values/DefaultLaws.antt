-- A fresh place contains the default of its type, and owns nothing.
use Rattle.std.proofs.Common.{◌≡◌, ℕ, zero, suc, ◌+◌, ◌<◌, ◌≤◌, List, [], ◌∷◌, length, get_or, Some, refl, sym, ap, ◌∙◌, arith, pos, add-zero, add_assoc}
use Rattle.std.specs.Prelude.{All, slice_get}
use Rattle.std.specs.List.{AllByRecursion}
use Rattle.std.proofs.lemmas.List.Elements.{All-head, All-tail}
use Rattle.seg_spec.specs.Bytes.{slice, signed}
use Rattle.seg_spec.specs.Types.{Form, Table, form_at, size, IsForm, IsTable, built, Cell, shifted, cells, cells_by, cells_of_fields}
use Rattle.seg_spec.specs.Value.{Label, Value, Int, Struct, Values, nil, cons, field_defaults, default_by, default_of}
use Rattle.seg_spec.specs.Reads.{Place, fields, Holds, holds, HoldsEach, holds_none, holds_more}
use Rattle.seg_spec.specs.Shapes.{leaf}
use Rattle.seg_spec.specs.Fresh.{IsFreshCell, IsFresh}
use Rattle.seg_spec.proofs.Tables.TypeSizeLaws.{built_at}
use Rattle.seg_spec.proofs.Values.PlaceFrameLaws.{each_left, each_right, each_of_map, each_weaker}
use Rattle.seg_spec.proofs.Tables.TableExtensionLaws.{below_length}
use Rattle.seg_spec.proofs.Values.CellLaws.{cells-form}

-- ---- defaults

pick_agree : (xs ys : List Value) (k : ℕ) (Us : List ℕ) → ((U : ℕ) → U < k → get_or xs U (Int (pos 0)) ≡ get_or ys U (Int (pos 0))) → All (λ U. U < k) Us → field_defaults xs Us ≡ field_defaults ys Us
pick_agree xs ys k [] e h = refl
pick_agree xs ys k (U ∷ Us) e h =
    let first = e U (All-head (λ V. V < k) U Us h) in
    let rest = pick_agree xs ys k Us e (All-tail (λ V. V < k) U Us h) in
    rw (first, rest)

default_agree : (xs ys : List Value) (n k : ℕ) (form : Form) → IsForm n k form → ((U : ℕ) → U < k → get_or xs U (Int (pos 0)) ≡ get_or ys U (Int (pos 0))) → default_by k xs form ≡ default_by k ys form
default_agree xs ys n k (Form.struct Us) h e = ap Struct (pick_agree xs ys k Us e h.2)
default_agree xs ys n k Form.i64 h e = refl
default_agree xs ys n k Form.str h e = refl
default_agree xs ys n k (Form.vec U) h e = refl
default_agree xs ys n k (Form.list U) h e = refl
default_agree xs ys n k (Form.flat_map U) h e = refl
default_agree xs ys n k (Form.map U) h e = refl
default_agree xs ys n k (Form.own U) h e = refl
default_agree xs ys n k (Form.shared U) h e = refl

-- the defaults of fields
defaults_of : Table → List ℕ → Values
defaults_of table [] = nil
defaults_of table (U ∷ Us) = cons (default_of table U) (defaults_of table Us)

pick_is : (table : Table) (Us : List ℕ) → field_defaults (built default_by [] table) Us ≡ defaults_of table Us
unfolding default_of defaults_of
pick_is table [] = refl
pick_is table (U ∷ Us) = ap (λ vs. cons (default_of table U) vs) (pick_is table Us)

pub default-form : (table : Table) → IsTable table → (T : ℕ) (form : Form) → form_at table T ≡ Some form → default_of table T ≡ default_by T (built default_by [] table) form
unfolding default_of
default-form table t T form e = built_at default_by (Int (pos 0)) default_agree [] table T T (length table) form e (omega arith) (t.forms T form e)

-- ---- fresh places

module _ (bytes : List ℕ) (table : Table) (valid : IsTable table) where
  fresh_one : (at T : ℕ) (form : Form) → form_at table T ≡ Some form → AllByRecursion (λ (c : Cell). IsFreshCell bytes (at + c.from) (form_at table c.type)) (record { from = 0; type = T } ∷ []) → IsFreshCell bytes at (Some form)
  fresh_one at T form f a = rw (add-zero at, f) at a.0

  -- each field is fresh
  fresh_fields : (at n : ℕ) (Us : List ℕ) → AllByRecursion (λ (c : Cell). IsFreshCell bytes (at + c.from) (form_at table c.type)) (cells_of_fields table (built (cells_by table) [] table) n Us)
      → AllByRecursion (IsFresh bytes table) (fields table (at + n) Us)
  unfolding cells
  fresh_fields at n [] a = tt
  fresh_fields at n (U ∷ Us) a =
      let own = get_or (built (cells_by table) [] table) U [] in
      let mine = each_of_map _ _ own (each_left _ (shifted n own) (cells_of_fields table (built (cells_by table) [] table) (n + size table U) Us) a) in (
        each_weaker _ _ (λ c i. rw (add_assoc at n c.from) i) own mine,
        rw (add_assoc at n (size table U)) (fresh_fields at (n + size table U) Us (each_right _ (shifted n own) (cells_of_fields table (built (cells_by table) [] table) (n + size table U) Us) a)),
      )

  form_below : (forms : Table) (U : ℕ) → U < length forms → (form : Form) × (slice_get forms U ≡ Some form)
  form_below [] U l = absurd (omega arith)
  form_below (form ∷ forms) zero l = (form, refl)
  form_below (form ∷ forms) (suc U) l = form_below forms U (omega arith)

  each_fresh : (k : ℕ) → ((U at : ℕ) (form : Form) → U < k → form_at table U ≡ Some form → IsFresh bytes table (record { at = at; type = U }) → Holds bytes table (record { at = at; type = U }) (default_of table U) [])
      → (at : ℕ) (Us : List ℕ) → k ≤ length table → All (λ U. U < k) Us → AllByRecursion (IsFresh bytes table) (fields table at Us) → HoldsEach bytes table (fields table at Us) (defaults_of table Us) []
  unfolding defaults_of
  each_fresh k one at [] l h a = holds_none
  each_fresh k one at (U ∷ Us) l h a =
      let below : U < k = All-head (λ V. V < k) U Us h in
      let form = form_below table U (omega arith) in
      holds_more {blocks = []} {owned = []} (one U at form.0 below form.1 a.0) (each_fresh k one (at + size table U) Us l (All-tail (λ V. V < k) U Us h) a.1)

  -- a place whose type isn't a struct has one cell
  module _ (at T : ℕ) where
    cell_of : (form : Form) → form_at table T ≡ Some form → cells_by table T (built (cells_by table) [] table) form ≡ record { from = 0; type = T } ∷ [] → IsFresh bytes table (record { at = at; type = T }) → IsFreshCell bytes at (Some form)
    cell_of form f e a = fresh_one at T form f (rw (cells-form table valid T form f ∙ e) at a)

  fresh_holds : (k T at : ℕ) (form : Form) → T < k → form_at table T ≡ Some form → IsFresh bytes table (record { at = at; type = T }) → Holds bytes table (record { at = at; type = T }) (default_of table T) []
  unfolding signed slice
  fresh_holds zero T at form l f a = absurd (omega arith)
  fresh_holds (suc k) T at Form.i64 l f a =
      let c = cell_of at T Form.i64 f refl a in
      holds {place = record { at = at; type = T }} Form.i64 (record { label = Label.int (pos 0); blocks = []; parts = [] }) nil [] f (rw c refl) holds_none (default-form table valid T Form.i64 f) refl
  fresh_holds (suc k) T at Form.str l f a =
      let c = cell_of at T Form.str f refl a in
      holds {place = record { at = at; type = T }} Form.str (record { label = Label.text []; blocks = []; parts = [] }) nil [] f (record { named_room = rw c.0 c.1; ascending = tt; opened_is = rw (c.0, c.1) refl }) holds_none
      (default-form table valid T Form.str f) refl
  fresh_holds (suc k) T at (Form.vec U) l f a =
      let c = cell_of at T (Form.vec U) f refl a in
      holds {place = record { at = at; type = T }} (Form.vec U) (record { label = Label.seq; blocks = []; parts = [] }) nil [] f (record { named_room = rw c.0 c.1; ascending = tt; opened_is = rw (c.0, c.1) refl }) holds_none
      (default-form table valid T (Form.vec U) f) refl
  fresh_holds (suc k) T at (Form.list U) l f a =
      let c = cell_of at T (Form.list U) f refl a in
      holds {place = record { at = at; type = T }} (Form.list U) (record { label = Label.seq; blocks = []; parts = [] }) nil [] f (record { nodes = []; ring = rw c.0 tt; counted = sym c.1; are_nodes = tt; opened_is = refl })
      holds_none (default-form table valid T (Form.list U) f) refl
  fresh_holds (suc k) T at (Form.flat_map U) l f a =
      let c = cell_of at T (Form.flat_map U) f refl a in
      holds {place = record { at = at; type = T }} (Form.flat_map U) (record { label = Label.map []; blocks = []; parts = [] }) nil [] f
      (record { named_room = rw c.0 c.1; ascending = rw c.1 tt; opened_is = rw (c.0, c.1) refl }) holds_none (default-form table valid T (Form.flat_map U) f) refl
  fresh_holds (suc k) T at (Form.map U) l f a =
      let c = cell_of at T (Form.map U) f refl a in
      holds {place = record { at = at; type = T }} (Form.map U) (record { label = Label.map []; blocks = []; parts = [] }) nil [] f
      (record { tree = leaf; is_tree = rw c.0 tt; red_black = record { root = tt; height = 0; balanced = refl }; counted = sym c.1; are_nodes = tt; ascending = tt; opened_is = refl }) holds_none
      (default-form table valid T (Form.map U) f) refl
  fresh_holds (suc k) T at (Form.own U) l f a =
      let c = cell_of at T (Form.own U) f refl a in
      holds {place = record { at = at; type = T }} (Form.own U) (record { label = Label.opt; blocks = []; parts = [] }) nil [] f
      (record { named_room = rw c.0 c.1; counted = rw (c.0, c.1) refl; opened_is = rw (c.0, c.1) refl }) holds_none (default-form table valid T (Form.own U) f) refl
  fresh_holds (suc k) T at (Form.shared U) l f a =
      let c = cell_of at T (Form.shared U) f refl a in
      holds {place = record { at = at; type = T }} (Form.shared U) (record { label = Label.opt; blocks = []; parts = [] }) nil [] f
      (record { payload = λ p e. absurd (cc); counted = rw (c.0, c.1) refl; opened_is = rw c.0 refl }) holds_none (default-form table valid T (Form.shared U) f) refl
  fresh_holds (suc k) T at (Form.struct Us) l f a =
      let fresh = rw (add-zero at) at (fresh_fields at 0 Us (rw (cells-form table valid T (Form.struct Us) f) at a)) in
      let less = valid.forms T (Form.struct Us) f in
      let within = below_length table T (Form.struct Us) f in
      let each = each_fresh T (λ U p form below g b. fresh_holds k U p form (omega arith) g b) at Us (omega arith) less.2 fresh in
      holds {place = record { at = at; type = T }} (Form.struct Us) (record { label = Label.struct; blocks = []; parts = fields table at Us }) (defaults_of table Us) [] f refl each
      (default-form table valid T (Form.struct Us) f ∙ ap Struct (pick_is table Us)) refl

  pub Holds-default : (place : Place) → place.type < length table → IsFresh bytes table place → Holds bytes table place (default_of table place.type) []
  Holds-default place l a = let form = form_below table place.type l in fresh_holds (suc place.type) place.type place.at form.0 (omega arith) form.1 a
