-- The objects of a cache in an image, found or made.
use Rattle.std.proofs.Common.{◌≡◌, ℕ, inl, inr, List, [], ◌∷◌, ◌++◌, Some, None, refl, sym, ap, ◌∙◌, subst, arith}
use Rattle.std.specs.Prelude.{codes}
use Rattle.seg_spec.specs.Types.{Table}
use Rattle.seg_spec.specs.Value.{Value, nil, cons, Map, Seq, default_of}
use Rattle.seg_spec.specs.Index.{Root, plain_root, root_named, Precedes}
use Rattle.seg_spec.specs.Sound.{Picture}
use Rattle.seg_spec.specs.Roots.{Listed, with_roots}
use Rattle.lezgauri.specs.Stored.{Stored}
use Rattle.lezgauri.specs.Segments.{IsSegment, new_root}
use Rattle.lezgauri.specs.NamedObjects.{FindsOrMakesNamed}
use Rattle.lezgauri.specs.Image.{Image}
use Rattle.lezgauri.specs.Images.{segment_of, allocator_of, ChangesBytes, IsOpen}
use Rattle.lezgauri_uses.specs.Caches.{types, bare, picture_of}

-- ---- objects that are there

same_root : (r s : Root) → Some r ≡ Some s → r ≡ s
same_root r s is = cc

no_root : (r : Root) → Some r ≡ None → ⊥
no_root r is = cc

pub found_there : (old new : Stored) (names : List Root) (name : List ℕ) (T at : ℕ) (root : Root) → root_named names name ≡ Some root → FindsOrMakesNamed old new names name T at → (root.at ≡ at) × (new ≡ old)
found_there old new names name T at root is (inl it) = (ap (λ (r : Root). r.at) (same_root root it.0 (sym is ∙ it.1)) ∙ it.3, it.4)
found_there old new names name T at root is (inr missing) = absurd (no_root root (sym is ∙ missing.1))

-- a call that changed nothing leaves the image open
pub open_still : {A : Type 0} (image new : Image A) (picture : Picture) → IsOpen image picture → segment_of new ≡ segment_of image → ChangesBytes image new → IsOpen new picture
open_still image new picture is same changes =
    subst (λ a. IsSegment a (segment_of new) picture) (sym changes.allocator) (subst (λ (s : Stored). IsSegment (allocator_of image) s picture) (sym same) is)

-- ---- new objects

values_default : default_of types 1 ≡ Map [] nil
unfolding default_of
values_default = refl

order_default : default_of types 2 ≡ Seq nil
unfolding default_of
order_default = refl

abbrev pub values_with : ℕ → Root
values_with at = plain_root (codes "values") at 1 (cons (Map [] nil) nil)

abbrev pub order_with : ℕ → Root
order_with at = plain_root (codes "order") at 2 (cons (Seq nil) nil)

-- the content of an image with the map alone
abbrev pub half : ℕ → Picture
half values_at = with_roots bare Listed.by_name (values_with values_at ∷ [])

pub values_made : (allocator : ℕ) (old_types : Table) (new : Stored) (before after : List Root) (at : ℕ) → old_types ≡ types → [] ≡ before ++ after
    → IsSegment allocator new (with_roots bare Listed.by_name (before ++ new_root old_types (codes "values") 1 1 at ∷ after)) → IsSegment allocator new (half at)
values_made allocator old_types new before after at types_are alone is =
    let root = new_root old_types (codes "values") 1 1 at in
    let root_is : root ≡ values_with at =
    ap (λ (t : Table). new_root t (codes "values") 1 1 at) types_are ∙ ap (λ (v : Value). plain_root (codes "values") at 1 (cons v nil)) values_default in
    subst (λ (roots : List Root). IsSegment allocator new (with_roots bare Listed.by_name roots)) (only before after root alone ∙ ap (λ (r : Root). r ∷ []) root_is) is
  where
    only : (before after : List Root) (root : Root) → [] ≡ before ++ after → before ++ root ∷ after ≡ root ∷ []
    only [] [] root e = refl
    only [] (a ∷ after) root e = cc
    only (b ∷ before) after root e = cc

-- `order` comes before `values`
not_after : Precedes (codes "values") (codes "order") → ⊥
not_after (inl lt) = absurd (omega arith)
not_after (inr same) = absurd (let is = same.0 in omega arith)

first_same : (r b : Root) (rs bs : List Root) → r ∷ rs ≡ b ∷ bs → r ≡ b
first_same r b rs bs e = cc

too_many : (r b c : Root) (bs : List Root) → r ∷ [] ≡ b ∷ c ∷ bs → ⊥
too_many r b c bs e = cc

pub order_made : (allocator : ℕ) (old_types : Table) (new : Stored) (before after : List Root) (values_at at : ℕ) → old_types ≡ types → values_with values_at ∷ [] ≡ before ++ after
    → IsSegment allocator new (with_roots bare Listed.by_name (before ++ new_root old_types (codes "order") 2 1 at ∷ after)) → IsSegment allocator new (picture_of at values_at [] ([], nil))
order_made allocator old_types new before after values_at at types_are alone is = by before after alone is
  where
    by : (before after : List Root) → values_with values_at ∷ [] ≡ before ++ after → IsSegment allocator new (with_roots bare Listed.by_name (before ++ new_root old_types (codes "order") 2 1 at ∷ after)) → IsSegment allocator new
        (picture_of at values_at [] ([], nil))
    by [] after e is =
        let root_is : new_root old_types (codes "order") 2 1 at ≡ order_with at =
        ap (λ (t : Table). new_root t (codes "order") 2 1 at) types_are ∙ ap (λ (v : Value). plain_root (codes "order") at 2 (cons v nil)) order_default in
        subst (λ (roots : List Root). IsSegment allocator new (with_roots bare Listed.by_name (order_with at ∷ roots))) (sym e)
        (subst (λ (r : Root). IsSegment allocator new (with_roots bare Listed.by_name (r ∷ after))) root_is is)
    by (b ∷ []) after e is =
        let name : codes "values" ≡ b.name = ap (λ (r : Root). r.name) (first_same _ b [] after e) in
        absurd (not_after (subst (λ (n : List ℕ). Precedes n (codes "order")) (sym name) is.held.laid_out.names.ascending.0))
    by (b ∷ c ∷ before) after e is = absurd (too_many _ b c (before ++ after) e)
