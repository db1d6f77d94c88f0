-- An object gets another owner: its parts stay, and the cell points to it.
use Rattle.std.proofs.Common.{◌≡◌, ℕ, ◌≤◌, List, ◌∷◌, Option, Some, None, sym, ap, ◌∙◌, subst, arith}
use Rattle.seg_spec.specs.Pointer.{target}
use Rattle.seg_spec.specs.Types.{Form, Table, IsTable, form_at, size}
use Rattle.seg_spec.specs.Value.{Label, Value, Values, node, nil, Full}
use Rattle.seg_spec.specs.Block.{Kind, tag_of, IsBlock, KeepsBlock, block_of}
use Rattle.seg_spec.specs.Reads.{Place, Opened, Opens, Holds, holds, shared_label}
use Rattle.seg_spec.specs.Parts.{Persists}
use Rattle.seg_spec.specs.Sound.{times}
use Rattle.seg_spec.proofs.Values.PlaceFrameLaws.{Persists-kept, payload-same}
use Rattle.seg_spec.proofs.Heap.LiveBlockLaws.{times-same, times-more, each_there}
use Rattle.seg_spec.proofs.Deallocation.OwnLaws.{full_own}
use Rattle.client_spec.specs.Ties.{object_at}

-- each of these blocks is kept
abbrev pub KeepsEach : List ℕ → List ℕ → List ℕ → Type 0
KeepsEach old new blocks = (h : ℕ) → 1 ≤ times h blocks → KeepsBlock old new h

-- an object whose blocks are kept keeps its parts
pub object_stays : {old new : List ℕ} {table : Table} → IsTable table → {at T : ℕ} {v : Value} {inside : List ℕ} → IsBlock old at (tag_of Kind.object T) (size table T) → Holds old table (object_at at T) v inside
    → KeepsEach old new (block_of at ∷ inside) → Persists old new table (object_at at T) (object_at at T)
object_stays {old} {new} {table} valid {at} {T} {inside = inside} block value kept = Persists-kept old new table valid value
    (payload-same old new at (tag_of Kind.object T) (size table T) (kept (block_of at) (omega (arith, times-same (block_of at) inside))) block)
    (each_there (KeepsBlock old new) inside (λ h some. kept h (omega (arith, some, times-more h (block_of at) inside))))

-- two payloads of one block
one_payload : (p q : ℕ) → 16 ≤ p → 16 ≤ q → block_of p ≡ block_of q → p ≡ q
one_payload p q low high same = omega (arith, low, high, same)

first_block : {a b : ℕ} {xs ys : List ℕ} → a ∷ xs ≡ b ∷ ys → a ≡ b
first_block e = cc

module _ (bytes : List ℕ) (table : Table) (place : Place) (U : ℕ) (form : form_at table place.type ≡ Some (Form.own U)) {v : Value} {object : ℕ} {inside : List ℕ} (low : 16 ≤ object)
    (content : Holds bytes table place (Full v) (block_of object ∷ inside)) where
  -- an own points to the object whose block is its first
  pub own_points : target bytes place.at ≡ Some object
  own_points =
      let full = full_own bytes table place U v (block_of object ∷ inside) form content in
      full.names ∙ ap Some (one_payload full.object object full.block.after_header low (sym (first_block full.blocks_are)))

  -- the object in an own keeps its parts if its blocks are kept
  pub content_stays : {new : List ℕ} → IsTable table → KeepsEach bytes new (block_of object ∷ inside) → Persists bytes new table (object_at object U) (object_at object U)
  content_stays {new} valid kept =
      let full = full_own bytes table place U v (block_of object ∷ inside) form content in
      let same = one_payload full.object object full.block.after_header low (sym (first_block full.blocks_are)) in
      subst (λ at. Persists bytes new table (object_at at U) (object_at at U)) same
      (object_stays valid full.block full.holds_it (subst (KeepsEach bytes new) full.blocks_are kept))

-- a shared cell points to the object of its label
pub cell_points : (bytes : List ℕ) (table : Table) (cell : Place) (T payload : ℕ) {blocks : List ℕ} → form_at table cell.type ≡ Some (Form.shared T) → Holds bytes table cell (node (Label.shared T payload) nil) blocks
    → target bytes cell.at ≡ Some payload
cell_points bytes table cell T payload form (holds other opened inside owned f o hs v_is blocks_are) =
    let same : other ≡ Form.shared T = (let e : Some other ≡ Some (Form.shared T) = sym f ∙ form in cc) in
    let opens = subst (λ (k : Form). Opens bytes table cell k opened) same o in
    let label : Label.shared T payload ≡ shared_label T (target bytes cell.at) = labels v_is ∙ ap (λ (x : Opened). x.label) opens.opened_is in
    there (target bytes cell.at) label
  where
    labels : {l m : Label} {vs ws : Values} → node l vs ≡ node m ws → l ≡ m
    labels e = cc

    there : (o : Option ℕ) → Label.shared T payload ≡ shared_label T o → o ≡ Some payload
    there None e = cc
    there (Some p) e = ap Some (let f : payload ≡ p = cc in sym f)
