-- The value in a place has the shape of its type, whatever numbers its bytes are.
use Rattle.std.proofs.Common.{◌≡◌, ℕ, ◌+◌, List, length, map, Option, Some, None, arith, refl, ap, sym, ◌∙◌, subst}
use Rattle.std.proofs.lemmas.List.{length-map}
use Rattle.seg_spec.specs.Pointer.{target}
use Rattle.seg_spec.specs.Types.{Form, Table, size}
use Rattle.seg_spec.specs.Value.{Value, Values, types_inside}
use Rattle.seg_spec.specs.Shapes.{nodes_of}
use Rattle.seg_spec.specs.Reads.{shared_label, Place, Opened, count_at, start, spaced, places_of, keys_at, Opens, Holds, holds, HoldsEach, holds_none, holds_more}
use Rattle.seg_spec.proofs.Values.ValueTypeLaws.{length-spaced, types_of, types_of-fields, length-places_of, typed, one_at_most}
use Rattle.seg_spec.proofs.Values.PathSplitLaws.{count_is}
use Rattle.client_spec.specs.Shape.{IsLabel, HasShape, HaveShapes}

-- the label belongs to the form, and the places inside have the types of the values inside
record OpensShaped (form : Form) (opened : Opened) : Type 0 where
  label : IsLabel form opened.label (length opened.parts)
  types : types_of opened.parts ≡ types_inside form (length opened.parts)

shaped_as : (form : Form) (a b : Opened) → a ≡ b → OpensShaped form b → OpensShaped form a
shaped_as form a b e o = rw e o

keyed : (bytes : List ℕ) (U m head : ℕ) (ps : List ℕ) → length (keys_at bytes (map (λ p. p + m) ps)) ≡ length (places_of U (map (λ p. p + head) ps))
keyed bytes U m head ps = length-map (map (λ p. p + m) ps) _ ∙ length-map ps _ ∙ sym (length-places_of U (map (λ p. p + head) ps) ∙ length-map ps _)

shared_shape : (U : ℕ) (o : Option ℕ) → IsLabel (Form.shared U) (shared_label U o) 0
shared_shape U None = omega arith
shared_shape U (Some p) = (refl, refl)

Opens-shaped : (bytes : List ℕ) (table : Table) (place : Place) (form : Form) (opened : Opened) → Opens bytes table place form opened → OpensShaped form opened
Opens-shaped bytes table place Form.i64 opened o = shaped_as Form.i64 _ _ o (record { label = refl; types = refl })
Opens-shaped bytes table place Form.str opened o = shaped_as Form.str _ _ o.opened_is (record { label = refl; types = refl })
Opens-shaped bytes table place (Form.vec U) opened o = shaped_as (Form.vec U) _ _ o.opened_is (record { label = tt; types = typed U _ })
Opens-shaped bytes table place (Form.list U) opened o = shaped_as (Form.list U) _ _ o.opened_is (record { label = tt; types = typed U _ })
Opens-shaped bytes table place (Form.flat_map U) opened o =
    let entries = spaced (start bytes place.at) (8 + size table U) (count_at bytes place.at) in
    shaped_as (Form.flat_map U) _ _ o.opened_is (record { label = length-map entries _ ∙ sym (length-places_of U (map (λ p. p + 8) entries) ∙ length-map entries _); types = typed U _ })
Opens-shaped bytes table place (Form.map U) opened o = shaped_as (Form.map U) _ _ o.opened_is (record { label = keyed bytes U 16 24 (nodes_of o.tree); types = typed U _ })
Opens-shaped bytes table place (Form.own U) opened o = shaped_as (Form.own U) _ _ o.opened_is (record {
  label = rw (
    length-places_of U (spaced (start bytes place.at) (size table U)
        (count_at bytes place.at)),
    length-spaced (start bytes place.at) (size table U) (count_at bytes place.at),
    o.counted,
  ) (one_at_most (target bytes place.at));
  types = typed U _;
})
Opens-shaped bytes table place (Form.shared U) opened o = shaped_as (Form.shared U) _ _ o.opened_is (record { label = shared_shape U (target bytes place.at); types = refl })
Opens-shaped bytes table place (Form.struct Us) opened o = shaped_as (Form.struct Us) _ _ o (record { label = tt; types = types_of-fields table place.at Us })

module _ (bytes : List ℕ) (table : Table) where
  mutual
    unfolding HasShape

    pub held_shape : {place : Place} {v : Value} {blocks : List ℕ} → Holds bytes table place v blocks → HasShape table place.type v
    held_shape {place = place} (holds form opened inside owned f o hs v_is blocks_are) =
        let shaped = Opens-shaped bytes table place form opened o in
        let number = count_is bytes table hs in
        subst (HasShape table place.type) (sym v_is) (form, f, subst (IsLabel form opened.label) number shaped.label, subst (λ Us. HaveShapes table Us inside) (shaped.types ∙ ap (types_inside form) number) (held_shapes hs))

    pub held_shapes : {places : List Place} {vs : Values} {blocks : List ℕ} → HoldsEach bytes table places vs blocks → HaveShapes table (types_of places) vs
    held_shapes holds_none = tt
    held_shapes (holds_more h hs) = (held_shape h, held_shapes hs)
