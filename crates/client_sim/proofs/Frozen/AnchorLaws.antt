-- A read-only register stays anchored over a row that keeps the register and the cells of its
-- class, if frozen objects that are shared stay.
use Rattle.std.proofs.Common.{◌≡◌, ℕ, ◌+◌, List, Option, Some, sym, ◌∙◌, ap, subst, arith}
use Rattle.seg_spec.specs.Bytes.{word}
use Rattle.seg_spec.specs.Header.{next_word}
use Rattle.seg_spec.specs.Types.{Table}
use Rattle.seg_spec.specs.Value.{Label, node, nil}
use Rattle.seg_spec.specs.Index.{Root}
use Rattle.seg_spec.specs.Reads.{Place}
use Rattle.seg_spec.proofs.Frozen.SharedLaws.{wider}
use Rattle.client_spec.specs.Syntax.{Constant}
use Rattle.client_spec.specs.Machine.{Path, State, path_value}
use Rattle.client_spec.specs.Typed.{Class, RegisterType, RegisterTypes, known}
use Rattle.client_spec.specs.Pictures.{Pictures}
use Rattle.client_spec.proofs.Rows.SharedCellLaws.{CellsKept}
use Rattle.client_sim.specs.Shows.{World, KeepsRegister}
use Rattle.client_sim.specs.Seeing.{LeadsFrozen, Anchored, Sees}
use Rattle.client_sim.proofs.Frozen.FrozenFrameLaws.{StayNamed, NamedStill, leads_still}
use Rattle.client_sim.proofs.Frozen.ReadOnlyLaws.{cell_named, cell_within}

-- the row's own pictures may differ from those by which the worlds represent states
module _ {others : List Root} {types : Table} {constants : List Constant} {first : Option (List ℕ)} {allocator : ℕ} {ks : RegisterTypes} {t : State} {w : World} (h : Sees others types constants first allocator ks t w)
    {s' : State} (new : World) (before : Pictures others h.plain w.image) (after later : Pictures others s' new.image)
    (stays : StayNamed w.image new.image before.picture.table before.picture.frozen after.picture.frozen) where
  -- an object that a cell shares before and after is shared in each picture of both images
  named_still : (types_stay : s'.types ≡ h.plain.types) (cell : Path) (U at : ℕ) → path_value h.plain cell ≡ Some (node (Label.shared U at) nil) → path_value s' cell ≡ Some (node (Label.shared U at) nil)
      → NamedStill h.shows.pictured before after later stays types_stay (record { at = at; type = U })
  named_still types_stay cell U at names named =
      let q : Place = record { at = at; type = U } in
      let k = word w.image next_word in
      let l = word new.image next_word in
      let was = λ (z : Pictures others h.plain w.image). wider k (k + l) z.picture.frozen q (omega arith) (cell_named z cell U at names) in
      let is = λ (z : Pictures others s' new.image). wider l (k + l) z.picture.frozen q (omega arith) (cell_named z cell U at named) in
      record { n = k + l; there = was h.shows.pictured; there_before = was before; there_after = is after; there_then = is later }

  pub still_anchored : (r : ℕ) (x : Class) (T : ℕ) → known ks r ≡ RegisterType.Reference (Class.Frozen x) T → CellsKept constants (Class.Frozen x) h.plain s' → KeepsRegister h.plain s' w new r → Anchored later new r T
  still_anchored r x T was kept keeps =
      let a = h.anchored r x T was in
      let names = kept.cells a.cell a.object_type a.object (cell_within h r x T was) a.names in
      let q : Place = record { at = a.object; type = a.object_type } in
      record {
        unowned = keeps.owns_is ∙ a.unowned;
        cell = a.cell;
        rest = a.rest;
        path_is = keeps.register_is ∙ a.path_is;
        object_type = a.object_type;
        object = a.object;
        names = names;
        type_is = ap (λ (y : Place). y.type) keeps.place_is ∙ a.type_is;
        leads = subst (LeadsFrozen new.image later.picture.table later.picture.frozen q a.rest) (sym keeps.place_is)
            (leads_still h.shows.pictured before after later stays kept.types q (named_still kept.types a.cell a.object_type a.object a.names names) a.leads);
      }
