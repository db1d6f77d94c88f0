-- The value that a place contains fits the place's type.
use Rattle.std.proofs.Common.{◌≡◌, ℕ, zero, suc, ◌+◌, ◌<◌, ◌≤◌, List, [], ◌∷◌, length, map, drop, replicate, Option, Some, None, option_to_list, option_map, refl, sym, ap, ◌∙◌, subst, arith}
use Rattle.std.specs.Prelude.{All, FitsSigned}
use Rattle.std.specs.Int.{w64}
use Rattle.std.proofs.lemmas.Int.{ints}
use Rattle.std.proofs.lemmas.List.{length-map}
use Rattle.std.proofs.lemmas.List.Elements.{All-take, All-drop, All-nil, All-cons}
use Rattle.seg_spec.specs.Bytes.{slice, long, signed, signed_long}
use Rattle.seg_spec.specs.Pointer.{target}
use Rattle.seg_spec.specs.Types.{Form, Table, size}
use Rattle.seg_spec.specs.Value.{Value, Values, FitsForm, types_inside, Has, has, HasEach, has_none, has_more}
use Rattle.seg_spec.specs.Shapes.{nodes_of, tree_words}
use Rattle.seg_spec.specs.Block.{block_of}
use Rattle.seg_spec.specs.Reads.{Place, Opened, count_at, start, spaced, places_of, fields, keys_at, shared_label, Opens, Holds, holds, HoldsEach, holds_none, holds_more, map_words}
use Rattle.seg_spec.proofs.Values.PathSplitLaws.{count_is}

signed_fits : (n : ℕ) → FitsSigned w64 (signed n)
unfolding signed
signed_fits n = search (arith, ints)

keys_fit : (bytes : List ℕ) (ps : List ℕ) → All (FitsSigned w64) (keys_at bytes ps)
keys_fit bytes [] = All-nil (FitsSigned w64)
keys_fit bytes (p ∷ ps) = All-cons (FitsSigned w64) (signed_long bytes p) (keys_at bytes ps) (signed_fits (long bytes p)) (keys_fit bytes ps)

slice_bytes : (bytes : List ℕ) (at n : ℕ) → All (λ b. b < 256) bytes → All (λ b. b < 256) (slice bytes at n)
unfolding slice
slice_bytes bytes at n h = All-take (λ b. b < 256) n (drop at bytes) (All-drop (λ b. b < 256) at bytes h)

pub length-spaced : (at step n : ℕ) → length (spaced at step n) ≡ n
length-spaced at step zero = refl
length-spaced at step (suc n) = ap suc (length-spaced (at + step) step n)

abbrev pub types_of : List Place → List ℕ
types_of places = map (λ (p : Place). p.type) places

types_of-places_of : (U : ℕ) (ps : List ℕ) → types_of (places_of U ps) ≡ replicate (length ps) U
types_of-places_of U [] = refl
types_of-places_of U (p ∷ ps) = ap (λ Us. U ∷ Us) (types_of-places_of U ps)

pub types_of-fields : (table : Table) (at : ℕ) (Us : List ℕ) → types_of (fields table at Us) ≡ Us
types_of-fields table at [] = refl
types_of-fields table at (U ∷ Us) = ap (λ Vs. U ∷ Vs) (types_of-fields table (at + size table U) Us)

pub length-places_of : (U : ℕ) (ps : List ℕ) → length (places_of U ps) ≡ length ps
length-places_of U ps = length-map ps _

-- the label fits the form, and the places inside have the types of the values inside
record OpensFitting (form : Form) (opened : Opened) : Type 0 where
  label : FitsForm form opened.label (length opened.parts)
  types : types_of opened.parts ≡ types_inside form (length opened.parts)

fits_as : (form : Form) (a b : Opened) → a ≡ b → OpensFitting form b → OpensFitting form a
fits_as form a b e o = rw e o

pub typed : (U : ℕ) (ps : List ℕ) → types_of (places_of U ps) ≡ replicate (length (places_of U ps)) U
typed U ps = types_of-places_of U ps ∙ ap (λ n. replicate n U) (sym (length-places_of U ps))

keyed : (bytes : List ℕ) (U head : ℕ) (ps : List ℕ) → length (keys_at bytes ps) ≡ length (places_of U (map (λ p. p + head) ps))
keyed bytes U head ps = length-map ps _ ∙ sym (length-places_of U (map (λ p. p + head) ps) ∙ length-map ps _)

pub one_at_most : (o : Option ℕ) → length (option_to_list (option_map block_of o)) ≤ 1
one_at_most None = omega arith
one_at_most (Some p) = omega arith

shared_fits : (U : ℕ) (o : Option ℕ) → FitsForm (Form.shared U) (shared_label U o) 0
shared_fits U None = omega arith
shared_fits U (Some p) = (refl, refl)

Opens-fits : (bytes : List ℕ) (table : Table) → All (λ b. b < 256) bytes → (place : Place) (form : Form) (opened : Opened) → Opens bytes table place form opened → OpensFitting form opened
Opens-fits bytes table are place Form.i64 opened o = fits_as Form.i64 _ _ o (record { label = signed_fits (long bytes place.at); types = refl })
Opens-fits bytes table are place Form.str opened o = fits_as Form.str _ _ o.opened_is (record { label = slice_bytes bytes (start bytes place.at) (count_at bytes place.at) are; types = refl })
Opens-fits bytes table are place (Form.vec U) opened o = fits_as (Form.vec U) _ _ o.opened_is (record { label = tt; types = typed U _ })
Opens-fits bytes table are place (Form.list U) opened o = fits_as (Form.list U) _ _ o.opened_is (record { label = tt; types = typed U _ })
Opens-fits bytes table are place (Form.flat_map U) opened o = fits_as (Form.flat_map U) _ _ o.opened_is (record { label = (keyed bytes U 8 _, o.ascending, keys_fit bytes _); types = typed U _ })
Opens-fits bytes table are place (Form.map U) opened o = fits_as (Form.map U) _ _ o.opened_is (record {
  label = (
    length-map (map (λ p. p + tree_words) (nodes_of o.tree)) _ ∙ length-map (nodes_of o.tree) _ ∙ sym (length-places_of U (map (λ p. p + map_words) (nodes_of o.tree)) ∙ length-map (nodes_of o.tree) _),
    o.ascending,
    keys_fit bytes
        _,
  );
  types = typed U _;
})
Opens-fits bytes table are place (Form.own U) opened o = fits_as (Form.own U) _ _ o.opened_is (record {
  label = rw (length-places_of U (spaced (start bytes place.at) (size table U) (count_at bytes place.at)), length-spaced (start bytes place.at) (size table U) (count_at bytes place.at), o.counted)
      (one_at_most (target bytes place.at));
  types = typed U _;
})
Opens-fits bytes table are place (Form.struct Us) opened o = fits_as (Form.struct Us) _ _ o (record { label = tt; types = types_of-fields table place.at Us })
Opens-fits bytes table are place (Form.shared U) opened o = fits_as (Form.shared U) _ _ o.opened_is (record { label = shared_fits U (target bytes place.at); types = refl })

module _ (bytes : List ℕ) (table : Table) (are : All (λ b. b < 256) bytes) where
  mutual
    pub Holds-has : {place : Place} {v : Value} {blocks : List ℕ} → Holds bytes table place v blocks → Has table place.type v
    Holds-has {place = place} (holds form opened inside owned f o hs v_is blocks_are) =
        let fits = Opens-fits bytes table are place form opened o in
        let number = count_is bytes table hs in
        rw v_is (has f (subst (λ n. FitsForm form opened.label n) number fits.label) (subst (λ Us. HasEach table Us inside) (fits.types ∙ ap (types_inside form) number) (HoldsEach-has hs)))

    pub HoldsEach-has : {places : List Place} {vs : Values} {blocks : List ℕ} → HoldsEach bytes table places vs blocks → HasEach table (types_of places) vs
    HoldsEach-has holds_none = has_none
    HoldsEach-has (holds_more h hs) = has_more (Holds-has h) (HoldsEach-has hs)
