-- A map's cell counts its keys.
use Rattle.std.proofs.Common.{◌≡◌, ℕ, ◌+◌, List, ℤ, length, map, Option, Some, refl, ap, ◌∙◌}
use Rattle.std.proofs.lemmas.List.{length-map}
use Rattle.seg_spec.specs.Bytes.{signed_long}
use Rattle.seg_spec.specs.Types.{Form, Table, form_at}
use Rattle.seg_spec.specs.Value.{Values, Map}
use Rattle.seg_spec.specs.Reads.{Place, count_at}
use Rattle.seg_spec.specs.Shapes.{nodes_of}
use Rattle.seg_spec.specs.Owning.{Stands}
use Rattle.seg_map.specs.EitherMap.{IsMapOf}
use Rattle.seg_map.proofs.FlatMaps.{length_is}
use Rattle.seg_map.proofs.TreeMaps.{its}

module _ (allocator : ℕ) (bytes : List ℕ) (table : Table) (place : Place) (U : ℕ) (keys : List ℤ) (vs : Values) (blocks : List ℕ) (s : Stands allocator bytes table place (Map keys vs) blocks) where
  tree_counted : form_at table place.type ≡ Some (Form.map U) → length keys ≡ count_at bytes place.at
  tree_counted f =
      let t = its allocator bytes table place U keys vs blocks f s in
      let nodes = nodes_of t.opens.tree in
      ap length t.keys_are ∙ length-map (map (λ p. p + 16) nodes) (signed_long bytes) ∙ length-map nodes (λ p. p + 16) ∙ t.opens.counted

  pub keys_counted : IsMapOf (form_at table place.type) U → length keys ≡ count_at bytes place.at
  keys_counted is = go (form_at table place.type) refl is
    where
      go : (form : Option Form) → form_at table place.type ≡ form → IsMapOf form U → length keys ≡ count_at bytes place.at
      go (Some (Form.flat_map V)) f e = length_is allocator bytes table place U keys vs blocks (f ∙ ap (λ T. Some (Form.flat_map T)) e) s
      go (Some (Form.map V)) f e = tree_counted (f ∙ ap (λ T. Some (Form.map T)) e)
      go form f e = absurd e
