-- A value stays the same after types are added to the table.
use Rattle.std.proofs.Common.{◌≡◌, ℕ, zero, suc, ◌+◌, ◌<◌, ◌≤◌, List, [], ◌∷◌, ◌++◌, length, Some, refl, sym, ap, arith}
use Rattle.std.specs.Prelude.{All}
use Rattle.std.proofs.lemmas.List.Elements.{All-head, All-tail}
use Rattle.seg_spec.specs.Types.{Form, Table, form_at, size, size_by, built, IsForm, IsTable}
use Rattle.seg_spec.specs.Value.{Value, Values}
use Rattle.seg_spec.specs.Reads.{Place, Opened, fields, Opens, Holds, holds, HoldsEach, holds_none, holds_more}
use Rattle.seg_spec.proofs.Tables.TypeSizeLaws.{built_kept}
use Rattle.seg_spec.proofs.Tables.TableEntryLaws.{length-built}

built-append : {X : Type 0} (step : ℕ → List X → Form → X) (before : List X) (old more : Table) → built step before (old ++ more) ≡ built step (built step before old) more
built-append step before [] more = refl
built-append step before (form ∷ old) more = built-append step (before ++ step (length before) before form ∷ []) old more

pub form_extended : (old more : Table) (T : ℕ) (form : Form) → form_at old T ≡ Some form → form_at (old ++ more) T ≡ Some form
form_extended [] more T form e = cc
form_extended (f ∷ old) more zero form e = e
form_extended (f ∷ old) more (suc T) form e = form_extended old more T form e

pub below_length : (old : Table) (T : ℕ) (form : Form) → form_at old T ≡ Some form → T < length old
below_length [] T form e = cc
below_length (f ∷ old) zero form e = omega arith
below_length (f ∷ old) (suc T) form e = let rest = below_length old T form e in omega arith

module _ (old more : Table) where
  pub size_extended : (U : ℕ) → U < length old → size old U ≡ size (old ++ more) U
  unfolding size
  size_extended U l =
      let len = length-built size_by [] old in
      rw (built-append size_by [] old more) (sym (built_kept size_by 8 (built size_by [] old) more U (omega arith)))

  fields_extended : (at k : ℕ) (Us : List ℕ) → k ≤ length old → All (λ U. U < k) Us → fields old at Us ≡ fields (old ++ more) at Us
  fields_extended at k [] l h = refl
  fields_extended at k (U ∷ Us) l h =
      let first : U < k = All-head (λ V. V < k) U Us h in
      rw (← size_extended U (omega arith)) (ap (λ ps. record { at = at; type = U } ∷ ps) (fields_extended (at + size old U) k Us l (All-tail (λ V. V < k) U Us h)))

  Opens-extended : (bytes : List ℕ) (place : Place) (form : Form) (opened : Opened) (T : ℕ) → T < length old → IsForm (length old) T form → Opens bytes old place form opened → Opens bytes (old ++ more) place form opened
  Opens-extended bytes place Form.i64 opened T l h o = o
  Opens-extended bytes place Form.str opened T l h o = o
  Opens-extended bytes place (Form.vec U) opened T l h o = rw (size_extended U h) at o
  Opens-extended bytes place (Form.list U) opened T l h o = record { nodes = o.nodes; ring = o.ring; counted = o.counted; are_nodes = rw (size_extended U h) at o.are_nodes; opened_is = o.opened_is }
  Opens-extended bytes place (Form.flat_map U) opened T l h o = rw (size_extended U h) at o
  Opens-extended bytes place (Form.map U) opened T l h o = record {
    tree = o.tree;
    is_tree = o.is_tree;
    red_black = o.red_black;
    counted = o.counted;
    are_nodes = rw (size_extended U h) at o.are_nodes;
    ascending = o.ascending;
    opened_is = o.opened_is;
  }
  Opens-extended bytes place (Form.own U) opened T l h o = rw (size_extended U h) at o
  Opens-extended bytes place (Form.shared U) opened T l h o = o
  Opens-extended bytes place (Form.struct Us) opened T l h o = rw (fields_extended place.at T Us (omega arith) h.2) at o

module _ (bytes : List ℕ) (old more : Table) (valid : IsTable old) where
  mutual
    pub Holds-extended : {place : Place} {v : Value} {blocks : List ℕ} → Holds bytes old place v blocks → Holds bytes (old ++ more) place v blocks
    Holds-extended {place = place} (holds form opened inside owned f o hs v_is blocks_are) =
        holds form opened inside owned (form_extended old more place.type form f) (Opens-extended old more bytes place form opened place.type (below_length old place.type form f) (valid.forms place.type form f) o)
        (HoldsEach-extended hs) v_is blocks_are

    pub HoldsEach-extended : {places : List Place} {vs : Values} {blocks : List ℕ} → HoldsEach bytes old places vs blocks → HoldsEach bytes (old ++ more) places vs blocks
    HoldsEach-extended holds_none = holds_none
    HoldsEach-extended (holds_more h hs) = holds_more (Holds-extended h) (HoldsEach-extended hs)
