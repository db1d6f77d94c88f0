-- The blocks of roots and of frozen objects, and which of them are freed.
use Rattle.std.proofs.Common.{◌≡◌, ◌≢◌, ℕ, zero, suc, ◌+◌, ◌-◌, ◌≤◌, ◌⊎◌, inl, inr, List, [], ◌∷◌, ◌++◌, map, refl, sym, ap, ◌∙◌, subst, arith}
use Rattle.std.proofs.lemmas.Bool.{cases_eq}
use Rattle.seg_spec.specs.Types.{Table}
use Rattle.seg_spec.specs.Value.{count}
use Rattle.seg_spec.specs.Heap.{Span, without}
use Rattle.seg_spec.specs.Block.{block_of}
use Rattle.seg_spec.specs.Reads.{Place, items, HoldsEach}
use Rattle.seg_spec.specs.Index.{Root}
use Rattle.seg_spec.specs.Frozen.{Frozen, root_of_frozen, blocks_by}
use Rattle.seg_spec.specs.Shared.{names_in, times_named, freed_with, freed}
use Rattle.seg_spec.specs.Sound.{payload_of, HoldsRoot, HoldsRoots, holds_no_root, holds_more_roots, times, positions}
use Rattle.seg_spec.specs.Destroying.{HoldFrozen}
use Rattle.seg_spec.specs.Demand.{after_gives}
use Rattle.seg_spec.specs.Roots.{HasFace}
use Rattle.seg_spec.proofs.Heap.LiveBlockLaws.{times-append, times-same, times-other, times-without}
use Rattle.seg_spec.proofs.Values.OneValueLaws.{HoldsEach-one}
use Rattle.test_definitions.proofs.Frozen.FrozenOrderLaws.{IsOneOf}
use Rattle.test_definitions.proofs.Frozen.ReachedFrozenLaws.{StandsAt}

-- ---- blocks of roots

-- the bytes determine which blocks roots own
root_one : (bytes : List ℕ) (table : Table) (root : Root) (xs ys : List ℕ) → HoldsRoot bytes table root xs → HoldsRoot bytes table root ys → xs ≡ ys
root_one bytes table root xs ys h k = h.blocks_are ∙ ap (λ zs. block_of (payload_of root) ∷ zs) (HoldsEach-one bytes table h.values k.values).1 ∙ sym k.blocks_are

pub roots_one : (bytes : List ℕ) (table : Table) {roots : List Root} {xs ys : List ℕ} → HoldsRoots bytes table roots xs → HoldsRoots bytes table roots ys → xs ≡ ys
roots_one bytes table holds_no_root holds_no_root = refl
roots_one bytes table (holds_more_roots {root = root} {blocks = as'} {rest = bs} h hs) (holds_more_roots {blocks = cs} {rest = ds} k ks) =
    ap (λ zs. zs ++ bs) (root_one bytes table root as' cs h k) ∙ ap (λ zs. cs ++ zs) (roots_one bytes table hs ks)

pub frozen_by : (bytes : List ℕ) (table : Table) (theirs : ℕ → List ℕ) (fs : List Frozen) (xs : List ℕ) → HoldsRoots bytes table (map root_of_frozen fs) xs → HoldFrozen bytes table theirs fs → xs ≡ blocks_by theirs fs
frozen_by bytes table theirs [] xs holds_no_root k = refl
frozen_by bytes table theirs (f ∷ fs) xs (holds_more_roots {blocks = as'} {rest = bs} h hs) k =
    ap (λ zs. zs ++ bs) (root_one bytes table (root_of_frozen f) as' (theirs f.at) h k.0) ∙ ap (λ zs. theirs f.at ++ zs) (frozen_by bytes table theirs fs bs hs k.1)

-- a root that may replace another is the same if its values are there
pub face_one : (bytes : List ℕ) (table : Table) (a b : Root) (xs ys : List ℕ) → HasFace a b → HoldsRoot bytes table a xs → HoldsRoot bytes table b ys → a ≡ b
face_one bytes table a b xs ys face h k =
    let places = λ (at T n : ℕ). items table at T n in
    let moved : items table b.at b.type (count b.values) ≡ items table a.at a.type (count a.values) = λ i. places (face.same_at i) (face.same_type i) (face.same_count i) in
    let values = (HoldsEach-one bytes table h.values (subst (λ ps. HoldsEach bytes table ps b.values k.inside) moved k.values)).0 in
    λ i. record { name = sym face.same_name i; words = sym face.same_words i; at = sym face.same_at i; type = sym face.same_type i; values = values i }

-- ---- blocks that are freed

pub gives_times : (bs : List Span) (gives : List ℕ) (h : ℕ) → ((g : ℕ) → times g gives ≤ times g (positions bs)) → times h (positions (after_gives bs gives)) + times h gives ≡ times h (positions bs)
gives_times bs [] h fewer = omega arith
gives_times bs (at ∷ gives) h fewer =
    let first = λ (g : ℕ). times-without g at bs (let l = fewer at in omega (arith, l, times-same at gives)) in
    let rest = λ (g : ℕ). times-append g (at ∷ []) gives in
    let rest_too = λ (g : ℕ). times-append g (at ∷ []) (positions (without at bs)) in
    let later = gives_times (without at bs) gives h (λ g. omega (arith, fewer g, first g, rest g, rest_too g)) in
    omega (arith, later, first h, rest h, rest_too h)

-- each frozen object remains or is freed
pub parted : (theirs : ℕ → List ℕ) (gone : List Place) (fs : List Frozen) (h : ℕ) → times h (blocks_by theirs (freed gone fs)) ≤ times h (blocks_by theirs fs)
parted theirs gone [] h = omega arith
parted theirs gone (f ∷ fs) h = go (f.count - times_named f.at gone) (parted theirs (gone ++ names_in f.value) fs h) (parted theirs gone fs h)
  where
    go : (n : ℕ) → times h (blocks_by theirs (freed (gone ++ names_in f.value) fs)) ≤ times h (blocks_by theirs fs) → times h (blocks_by theirs (freed gone fs)) ≤ times h (blocks_by theirs fs)
        → times h (blocks_by theirs (freed_with f n (freed (gone ++ names_in f.value) fs) (freed gone fs))) ≤ times h (theirs f.at ++ blocks_by theirs fs)
    go zero freed_too with_it = omega (arith, freed_too, times-append h (theirs f.at) (blocks_by theirs fs), times-append h (theirs f.at) (blocks_by theirs (freed (gone ++ names_in f.value) fs)))
    go (suc n) freed_too with_it = omega (arith, with_it, times-append h (theirs f.at) (blocks_by theirs fs))

-- the blocks of one of the objects are among the blocks of all
pub its_fewer : (theirs : ℕ → List ℕ) (f : Frozen) (fs : List Frozen) → IsOneOf f fs → (h : ℕ) → times h (theirs f.at) ≤ times h (blocks_by theirs fs)
its_fewer theirs f [] i h = absurd i
its_fewer theirs f (g ∷ fs) (inl e) h = subst (λ (x : Frozen). times h (theirs x.at) ≤ times h (theirs g.at ++ blocks_by theirs fs)) (sym e) (omega (arith, times-append h (theirs g.at) (blocks_by theirs fs)))
its_fewer theirs f (g ∷ fs) (inr i) h = omega (arith, its_fewer theirs f fs i h, times-append h (theirs g.at) (blocks_by theirs fs))

pub record OwnedBy (theirs : ℕ → List ℕ) (h : ℕ) (fs : List Frozen) : Type 0 where
  pub object : Frozen
  pub among : IsOneOf object fs
  pub owns : 1 ≤ times h (theirs object.at)

pub owned_by : (theirs : ℕ → List ℕ) (h : ℕ) (fs : List Frozen) → 1 ≤ times h (blocks_by theirs fs) → OwnedBy theirs h fs
owned_by theirs h [] some = absurd (omega (arith, some))
owned_by theirs h (f ∷ fs) some = by (cases_eq (times h (theirs f.at)) 0) (owned_by theirs h fs)
  where
    by : (times h (theirs f.at) ≡ 0) ⊎ (times h (theirs f.at) ≢ 0) → (1 ≤ times h (blocks_by theirs fs) → OwnedBy theirs h fs) → OwnedBy theirs h (f ∷ fs)
    by (inl none) later = (let k = later (omega (arith, some, none, times-append h (theirs f.at) (blocks_by theirs fs))) in record { object = k.object; among = inr k.among; owns = k.owns })
    by (inr more) later = record { object = f; among = inl refl; owns = omega (arith, more) }

-- ---- objects at a position

pub at_one : (p : ℕ) (fs : List Frozen) → 1 ≤ times p (map (λ (f : Frozen). f.at) fs) → StandsAt p fs
at_one p [] some = absurd (omega (arith, some))
at_one p (f ∷ fs) some = by (cases_eq f.at p) (at_one p fs)
  where
    by : (f.at ≡ p) ⊎ (f.at ≢ p) → (1 ≤ times p (map (λ (g : Frozen). g.at) fs) → StandsAt p fs) → StandsAt p (f ∷ fs)
    by (inl same) later = record { object = f; among = inl refl; at_is = same }
    by (inr other) later = (let k = later (omega (arith, some, times-other p f.at (map (λ (g : Frozen). g.at) fs) other)) in record { object = k.object; among = inr k.among; at_is = k.at_is })

pub at_times : (f : Frozen) (fs : List Frozen) → IsOneOf f fs → 1 ≤ times f.at (map (λ (g : Frozen). g.at) fs)
at_times f [] i = absurd i
at_times f (g ∷ fs) (inl same) = subst (λ (k : Frozen). 1 ≤ times f.at (k.at ∷ map (λ (g : Frozen). g.at) fs)) same (let n = times-same f.at (map (λ (g : Frozen). g.at) fs) in omega arith)
at_times f (g ∷ fs) (inr i) = omega (arith, at_times f fs i, times-append f.at (g.at ∷ []) (map (λ (k : Frozen). k.at) fs))
