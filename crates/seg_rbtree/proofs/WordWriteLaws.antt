-- The bytes that a write of a word keeps.
use Rattle.std.proofs.Common.{◌≡◌, ◌≢◌, ℕ, ◌+◌, ◌≤◌, ◌⊎◌, inl, inr, List, [], ◌∷◌, ◌++◌, length, Option, Some, None, refl, sym, ◌∙◌, subst, arith}
use Rattle.std.specs.List.{AllByRecursion}
use Rattle.seg_spec.specs.Bytes.{spelling, set_number, set_word, IsSame}
use Rattle.seg_spec.specs.Pointer.{target, distance, set_pointer}
use Rattle.seg_spec.specs.Apart.{Separate}
use Rattle.seg_spec.specs.Shapes.{Colour, Tree, leaf, fork, nodes_of, HasColour, IsTree}
use Rattle.seg_spec.proofs.BytesLaws.{length-spelling, length-set_number}
use Rattle.seg_spec.proofs.SliceLaws.{slice-put_other}
use Rattle.seg_spec.proofs.PointerLaws.{target-set_same}
use Rattle.seg_spec.proofs.Values.PlaceFrameLaws.{each_both, word-same, target-same, IsTree-same}
use Rattle.seg_rbtree.specs.Changes.{StandApart, KeepsBeside}
use Rattle.seg_rbtree.proofs.Apartness.{Clear, Beside, separate-swap, separate-part, nothing_beside}

pub word_others : (bytes : List ℕ) (at v p n : ℕ) → Separate p n at 4 → IsSame bytes (set_word bytes at v) p n
unfolding set_number
word_others bytes at v p n h =
    slice-put_other bytes at (spelling 4 v) p n (subst (λ m. (p + n ≤ at) ⊎ (at + m ≤ p)) (sym (length-spelling 4 v)) h)

-- ---- lemmas about kept bytes

pub keeps-none : (bytes : List ℕ) (at : ℕ) (nodes : List ℕ) → KeepsBeside bytes bytes at nodes
keeps-none bytes at nodes = record { length_kept = refl; others = λ p n h k. refl }

pub keeps-trans : (a b c : List ℕ) (at : ℕ) (nodes : List ℕ) → KeepsBeside a b at nodes → KeepsBeside b c at nodes → KeepsBeside a c at nodes
keeps-trans a b c at nodes h k = record {
  length_kept = k.length_kept ∙ h.length_kept;
  others = λ p n s t. k.others p n s t ∙ h.others p n s t;
}

pub keeps-word : (bytes : List ℕ) (at v : ℕ) (nodes : List ℕ) → KeepsBeside bytes (set_word bytes at v) at nodes
keeps-word bytes at v nodes = record {
  length_kept = length-set_number 4 bytes at v;
  others = λ p n h k. word_others bytes at v p n h;
}

-- a write to a word of one of the nodes changes only these nodes
pub keeps-inside : (bytes : List ℕ) (at v root : ℕ) (nodes : List ℕ) → ((p n : ℕ) → Clear p n nodes → Separate p n at 4) → KeepsBeside bytes (set_word bytes at v) root nodes
keeps-inside bytes at v root nodes inside = record {
  length_kept = length-set_number 4 bytes at v;
  others = λ p n h k. word_others bytes at v p n (inside p n k);
}

pub keeps-wider : (old new : List ℕ) (at to : ℕ) (nodes more : List ℕ) → ((p n : ℕ) → Separate p n to 4 → Clear p n more → Separate p n at 4 × Clear p n nodes) → KeepsBeside old new at nodes → KeepsBeside old new to more
keeps-wider old new at to nodes more within h = record {
  length_kept = h.length_kept;
  others = λ p n s t. h.others p n (within p n s t).0 (within p n s t).1;
}

-- ---- trees that are kept

pub target-kept : (old new : List ℕ) (at p : ℕ) (nodes : List ℕ) → KeepsBeside old new at nodes → Separate p 4 at 4 → Clear p 4 nodes → target new p ≡ target old p
target-kept old new at p nodes h s t = target-same old new p (h.others p 4 s t)

pub colour-kept : (old new : List ℕ) (at node : ℕ) (nodes : List ℕ) (colour : Colour) → KeepsBeside old new at nodes → Separate (node + 8) 8 at 4 → Clear (node + 8) 8 nodes → HasColour old node colour → HasColour new node colour
colour-kept old new at node nodes colour h s t c =
    let first : IsSame old new (node + 8) 4 = h.others (node + 8) 4 (separate-part (node + 8) 8 at 4 (node + 8) 4 (omega arith) (omega arith) s) (parts (node + 8) (omega arith) (omega arith) nodes t) in
    let second : IsSame old new (node + 12) 4 = h.others (node + 12) 4 (separate-part (node + 8) 8 at 4 (node + 12) 4 (omega arith) (omega arith) s) (parts (node + 12) (omega arith) (omega arith) nodes t) in
    record {
      colour_is = word-same old new (node + 8) first ∙ c.colour_is;
      zero_is = word-same old new (node + 12) second ∙ c.zero_is;
    }
  where
    parts : (q : ℕ) → node + 8 ≤ q → q + 4 ≤ node + 8 + 8 → (xs : List ℕ) → Clear (node + 8) 8 xs → Clear q 4 xs
    parts q low high [] t = tt
    parts q low high (x ∷ xs) t = (separate-part (node + 8) 8 x 16 q 4 low high t.0, parts q low high xs t.1)

pub tree-kept : (old new : List ℕ) (at : ℕ) (nodes : List ℕ) (to : Option ℕ) (tree : Tree) → KeepsBeside old new at nodes → Clear at 4 (nodes_of tree) → Beside (nodes_of tree) nodes → IsTree old to tree → IsTree new to tree
tree-kept old new at nodes to tree h clear beside t =
    IsTree-same old new to tree (each_both _ _ _ (λ p s k. h.others p 16 (separate-swap at 4 p 16 s) k) (nodes_of tree) clear beside) t

-- a tree is kept if a word outside its nodes is written
pub tree-word : (bytes : List ℕ) (at v : ℕ) (to : Option ℕ) (tree : Tree) → Clear at 4 (nodes_of tree) → IsTree bytes to tree → IsTree (set_word bytes at v) to tree
tree-word bytes at v to tree clear t =
    tree-kept bytes (set_word bytes at v) at [] to tree (keeps-word bytes at v []) clear (nothing_beside (nodes_of tree)) t

pub target-word : (bytes : List ℕ) (at v p : ℕ) → Separate p 4 at 4 → target (set_word bytes at v) p ≡ target bytes p
target-word bytes at v p s = target-kept bytes (set_word bytes at v) at p [] (keeps-word bytes at v []) s tt

pub colour-word : (bytes : List ℕ) (at v node : ℕ) (colour : Colour) → Separate (node + 8) 8 at 4 → HasColour bytes node colour → HasColour (set_word bytes at v) node colour
colour-word bytes at v node colour s c = colour-kept bytes (set_word bytes at v) at node [] colour (keeps-word bytes at v []) s tt c

-- ---- a pointer that is written

other_than_next : (at p : ℕ) → Separate at 4 p 16 → p ≢ at + 1
other_than_next at p (inl h) e = absurd (omega arith)
other_than_next at p (inr h) e = absurd (omega arith)

root_of : (bytes : List ℕ) (to : Option ℕ) (tree : Tree) (P : ℕ → Type 0) → IsTree bytes to tree → AllByRecursion P (nodes_of tree) → (t : ℕ) → to ≡ Some t → P t
root_of bytes None leaf P h all t e = absurd (cc)
root_of bytes None (fork l a c r) P h all t e = absurd h
root_of bytes (Some p) leaf P h all t e = absurd h
root_of bytes (Some p) (fork l a c r) P h all t e =
    let same : a ≡ t = let q = h.0 in cc in
    subst P same (middle (nodes_of l) all)
  where
    middle : (xs : List ℕ) → AllByRecursion P (xs ++ a ∷ nodes_of r) → P a
    middle [] all = all.0
    middle (x ∷ xs) all = middle xs all.1

-- a tree is kept if a pointer to it is written outside its nodes
pub tree-hung : (bytes : List ℕ) (at : ℕ) (to : Option ℕ) (tree : Tree) → StandApart (length bytes) at (nodes_of tree) → IsTree bytes to tree → IsTree (set_pointer bytes at to) (target (set_pointer bytes at to) at) tree
tree-hung bytes at to tree apart h =
    let names : target (set_pointer bytes at to) at ≡ to = target-set_same bytes at to apart.word_fits (omega (arith, apart.small, apart.word_fits)) (λ t e.
    let fits : t + 16 ≤ length bytes = root_of bytes to tree (λ p. p + 16 ≤ length bytes) h apart.nodes_fit t e in
    (omega (arith, apart.small), other_than_next at t (root_of bytes to tree (λ p. Separate at 4 p 16) h apart.word_apart t e))) in
    subst (λ o. IsTree (set_pointer bytes at to) o tree) (sym names) (tree-word bytes at (distance at to) to tree apart.word_apart h)
