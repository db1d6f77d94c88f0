-- The blocks of an image's frozen objects are apart from the blocks of its other objects and of its index.
use Rattle.std.proofs.Common.{◌≡◌, ℕ, ◌+◌, ◌⊎◌, inl, inr, List, [], ◌∷◌, ◌++◌, ap, ◌∙◌, arith}
use Rattle.seg_spec.specs.Heap.{live}
use Rattle.seg_spec.specs.Index.{Root}
use Rattle.seg_spec.specs.Sound.{Picture, IsHeld, HoldsRoots, frozen_roots, roots_of, times, positions}
use Rattle.seg_spec.specs.Counting.{owners_in}
use Rattle.seg_spec.proofs.Heap.LiveBlockLaws.{times-append}
use Rattle.seg_spec.proofs.Images.RootLaws.{HoldsRoots-split, HoldsRoots-append}
use Rattle.test_definitions.proofs.Alike.RootMemberLaws.{IsAmong, among_left, among_right}

module _ (bytes : List ℕ) (p : Picture) (held : IsHeld bytes p) where
  pub record FrozenApart : Type 0 where
    pub owners : List ℕ
    pub holds_owners : HoldsRoots bytes p.table (owners_in p) owners
    pub frozen : List ℕ
    pub holds_frozen : HoldsRoots bytes p.table (frozen_roots p) frozen
    pub counts : (h : ℕ) → times h (positions (live bytes)) ≡ times h held.index_blocks + (times h owners + times h frozen)

  pub frozen_apart : FrozenApart
  frozen_apart =
      let a = HoldsRoots-split bytes p.table p.names (p.uniques ++ (p.loose ++ frozen_roots p)) held.root_blocks held.roots in
      let b = HoldsRoots-split bytes p.table p.uniques (p.loose ++ frozen_roots p) a.right a.rights in
      let c = HoldsRoots-split bytes p.table p.loose (frozen_roots p) b.right b.rights in
      record {
        owners = a.left ++ (b.left ++ c.left);
        holds_owners = HoldsRoots-append bytes p.table a.lefts (HoldsRoots-append bytes p.table b.lefts c.lefts);
        frozen = c.right;
        holds_frozen = c.rights;
        counts = λ h. (
            let o = held.owners h in
            let u = times-append h held.index_blocks held.root_blocks in
            let x = ap (times h) a.blocks_are ∙ times-append h a.left a.right in
            let y = ap (times h) b.blocks_are ∙ times-append h b.left b.right in
            let z = ap (times h) c.blocks_are ∙ times-append h c.left c.right in
            omega (arith, o, u, x, y, z, times-append h a.left (b.left ++ c.left), times-append h b.left c.left));
      }

pub among_either : (r : Root) (xs ys : List Root) → IsAmong r (xs ++ ys) → IsAmong r xs ⊎ IsAmong r ys
among_either r [] ys i = inr i
among_either r (x ∷ xs) ys (inl e) = inl (inl e)
among_either r (x ∷ xs) ys (inr i) = elim (among_either r xs ys i) [ inl j ↦ inl (inr j) | inr j ↦ inr j ]

-- ---- objects with an owner, and frozen objects

pub owner_in_roots : (p : Picture) (c : Root) → IsAmong c (owners_in p) → IsAmong c (roots_of p)
owner_in_roots p c i = (
    elim (among_either c p.names (p.uniques ++ p.loose) i) [
      | inl j ↦ among_left c p.names (p.uniques ++ (p.loose ++ frozen_roots p)) j
      | inr k ↦ elim (among_either c p.uniques p.loose k) [
        | inl j ↦ among_right c p.names (p.uniques ++ (p.loose ++ frozen_roots p)) (among_left c p.uniques (p.loose ++ frozen_roots p) j)
        | inr j ↦ among_right c p.names (p.uniques ++ (p.loose ++ frozen_roots p)) (among_right c p.uniques (p.loose ++ frozen_roots p) (among_left c p.loose (frozen_roots p) j))
      ]
    ])

pub owner_or_frozen : (p : Picture) (c : Root) → IsAmong c (roots_of p) → IsAmong c (owners_in p) ⊎ IsAmong c (frozen_roots p)
owner_or_frozen p c i = (
    elim (among_either c p.names (p.uniques ++ (p.loose ++ frozen_roots p)) i) [
      | inl j ↦ inl (among_left c p.names (p.uniques ++ p.loose) j)
      | inr k ↦ elim (among_either c p.uniques (p.loose ++ frozen_roots p) k) [
        | inl j ↦ inl (among_right c p.names (p.uniques ++ p.loose) (among_left c p.uniques p.loose j))
        | inr k ↦ elim (among_either c p.loose (frozen_roots p) k) [
          | inl j ↦ inl (among_right c p.names (p.uniques ++ p.loose) (among_right c p.uniques p.loose j))
          | inr j ↦ inr j
        ]
      ]
    ])
