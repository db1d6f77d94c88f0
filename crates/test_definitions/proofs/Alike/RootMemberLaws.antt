-- Which blocks the roots of an image and its index own, told by the tags of blocks. Roots that are
-- among others.
use Rattle.std.proofs.Common.{◌≡◌, ◌≢◌, ℕ, zero, suc, ◌+◌, ◌%◌, ◌≤◌, ◌⊎◌, inl, inr, Bool, true, false, List, [], ◌∷◌, ◌++◌, length, map}
use Rattle.std.proofs.Common.{Some, refl, sym, ap, ◌∙◌, subst, arith}
use Rattle.std.specs.List.{AllByRecursion}
use Rattle.std.specs.Prelude.{if◌then◌else◌}
use Rattle.std.proofs.lemmas.Bool.{cases_eq}
use Rattle.seg_spec.specs.Bytes.{word}
use Rattle.seg_spec.specs.Header.{index_kind_word, index_cell, allocator_word}
use Rattle.seg_spec.specs.Heap.{tag_at, live}
use Rattle.seg_spec.specs.Block.{block_of, Kind, tag_of}
use Rattle.seg_spec.specs.Shapes.{nodes_of}
use Rattle.seg_spec.specs.Index.{Root, Index, OpensIndex, AreEntries, same_name, root_named}
use Rattle.seg_spec.specs.Sound.{Picture, IsHeld, frozen_roots, HoldsRoot, HoldsRoots, holds_no_root, holds_more_roots, times, positions}
use Rattle.seg_spec.proofs.Heap.LiveBlockLaws.{times-append, times-other, there, live-once}
use Rattle.seg_spec.proofs.Values.PartPositionLaws.{In}
use Rattle.seg_spec.proofs.Images.PlainRootLaws.{plain_of}
use Rattle.seg_spec.proofs.Images.RootLaws.{HoldsRoots-split}
use Rattle.test_definitions.proofs.ValueChanges.BlockKindLaws.{Tagged, named_tagged, nodes_tagged}

-- ---- members of lists

abbrev pub IsAmong : Root → List Root → Type 0
IsAmong r [] = ⊥
IsAmong r (root ∷ roots) = (r ≡ root) ⊎ IsAmong r roots

pub each_among : (P : Root → Type 0) (r : Root) (roots : List Root) → IsAmong r roots → AllByRecursion P roots → P r
each_among P r [] i a = absurd i
each_among P r (root ∷ roots) (inl e) a = subst P (sym e) a.0
each_among P r (root ∷ roots) (inr i) a = each_among P r roots i a.1

pub among_left : (r : Root) (xs ys : List Root) → IsAmong r xs → IsAmong r (xs ++ ys)
among_left r [] ys i = absurd i
among_left r (x ∷ xs) ys (inl e) = inl e
among_left r (x ∷ xs) ys (inr i) = inr (among_left r xs ys i)

pub among_right : (r : Root) (xs ys : List Root) → IsAmong r ys → IsAmong r (xs ++ ys)
among_right r [] ys i = i
among_right r (x ∷ xs) ys i = inr (among_right r xs ys i)

pub times_in : (h : ℕ) (xs : List ℕ) → 1 ≤ times h xs → In h xs
times_in h [] l = absurd (omega arith)
times_in h (x ∷ xs) l = elim (cases_eq x h) [ inl e ↦ inl (sym e) | inr other ↦ inr (times_in h xs (omega (arith, l, times-other h x xs other))) ]

-- ---- tags

-- no block of the index has this tag, and no named object
abbrev pub NotOfNames : ℕ → Type 0
NotOfNames t = (t % 256 ≢ 1) × (t % 256 ≢ 5) × (t % 256 ≢ 6)

-- ---- the owners of blocks

module _ (bytes : List ℕ) (p : Picture) (held : IsHeld bytes p) where
  pub counts : (h : ℕ) → times h (positions (live bytes)) ≡ times h held.index_blocks + times h held.root_blocks
  counts h = held.owners h ∙ times-append h held.index_blocks held.root_blocks

  pub index_live : (h : ℕ) → 1 ≤ times h held.index_blocks → 1 ≤ times h (positions (live bytes))
  index_live h l = omega (arith, counts h)

  index_blocks_tagged : (P : ℕ → Type 0) → P (tag_of Kind.index_buffer 0) → P (tag_of Kind.index_node 0) → AllByRecursion (Tagged bytes P) held.index_blocks
  index_blocks_tagged P a b = let l = held.laid_out.names in subst (AllByRecursion (Tagged bytes P)) (sym l.blocks_are) (by (word bytes index_kind_word) l.index l.opens)
    where
      by : (kind : ℕ) (index : Index) → OpensIndex bytes kind index → AllByRecursion (Tagged bytes P) index.blocks
      by zero index o = subst (AllByRecursion (Tagged bytes P)) (sym (ap (λ (i : Index). i.blocks) o.index_is)) (named_tagged bytes P index_cell _ 8 a o.named_room)
      by (suc n) index o = subst (AllByRecursion (Tagged bytes P)) (sym (ap (λ (i : Index). i.blocks) o.index_is)) (nodes_tagged bytes P _ _ b (nodes_of o.tree) o.are_nodes)

  -- a block of the index has a tag of the index
  pub index_tagged : (h : ℕ) → 1 ≤ times h held.index_blocks → NotOfNames (tag_at bytes h) → ⊥
  index_tagged h some n =
      let all = index_blocks_tagged (λ t. (t % 256 ≡ 5) ⊎ (t % 256 ≡ 6)) (inl (omega arith)) (inr (omega arith)) in
      elim (there (Tagged bytes (λ t. (t % 256 ≡ 5) ⊎ (t % 256 ≡ 6))) h held.index_blocks all some) [ inl e ↦ n.1 e | inr e ↦ n.2 e ]

  -- the blocks of a root are among the blocks of all
  pub record Owns (root : Root) (all : List ℕ) : Type 0 where
    pub its : List ℕ
    pub holds_it : HoldsRoot bytes p.table root its
    pub fewer : (h : ℕ) → times h its ≤ times h all

  pub owns : {roots : List Root} {all : List ℕ} (root : Root) → HoldsRoots bytes p.table roots all → IsAmong root roots → Owns root all
  owns root holds_no_root i = absurd i
  owns root (holds_more_roots {root = first} {blocks = xs} {rest = ys} h hs) (inl e) = record { its = xs; holds_it = subst (λ r. HoldsRoot bytes p.table r xs) (sym e) h; fewer = λ k. omega (arith, times-append k xs ys) }
  owns root (holds_more_roots {blocks = xs} {rest = ys} h hs) (inr i) =
      let o = owns root hs i in
      record { its = o.its; holds_it = o.holds_it; fewer = λ k. omega (arith, times-append k xs ys, o.fewer k) }

  -- ---- the blocks of named objects

  abbrev NoWords : Root → Type 0
  NoWords r = r.words ≡ []

  entries_plain : (entries : List ℕ) (names : List Root) → AreEntries bytes entries names → AllByRecursion NoWords names
  entries_plain [] [] e = tt
  entries_plain (x ∷ entries) [] e = tt
  entries_plain [] (r ∷ names) e = absurd e
  entries_plain (x ∷ entries) (r ∷ names) e = (e.0.no_words, entries_plain entries names e.1)

  pub names_plain : AllByRecursion (λ (r : Root). r.words ≡ []) p.names
  names_plain = entries_plain held.laid_out.names.index.entries p.names held.laid_out.names.entries

  -- ---- the number of named objects

  own_times : {roots : List Root} {all : List ℕ} (h : ℕ) → HoldsRoots bytes p.table roots all → AllByRecursion NoWords roots → times h (map (λ (r : Root). block_of r.at) roots) ≤ times h all
  own_times h holds_no_root a = omega arith
  own_times h (holds_more_roots {root = root} {roots = roots} {blocks = xs} {rest = ys} k ks) a =
      let plain = plain_of bytes p.table root xs a.0 k in
      let same : times h xs ≡ times h (block_of root.at ∷ plain.inside) = ap (times h) plain.blocks_are in
      let one = times-append h (block_of root.at ∷ []) plain.inside in
      let two = times-append h (block_of root.at ∷ []) (map (λ (r : Root). block_of r.at) roots) in
      omega (arith, same, one, two, times-append h xs ys, own_times h ks a.1)

  pub names_once : (h : ℕ) → times h (map (λ (r : Root). block_of r.at) p.names) ≤ 1
  names_once h =
      let s = HoldsRoots-split bytes p.table p.names (p.uniques ++ (p.loose ++ frozen_roots p)) held.root_blocks held.roots in
      let parts : times h held.root_blocks ≡ times h (s.left ++ s.right) = ap (times h) s.blocks_are in
      omega (arith, own_times h s.lefts names_plain, counts h, parts, times-append h s.left s.right, live-once bytes (word bytes allocator_word) held.laid_out.heap h)

  entries_as_many : (entries : List ℕ) (names : List Root) → AreEntries bytes entries names → length entries ≡ length names
  entries_as_many [] [] e = refl
  entries_as_many [] (r ∷ names) e = absurd e
  entries_as_many (x ∷ entries) [] e = absurd e
  entries_as_many (x ∷ entries) (r ∷ names) e = ap suc (entries_as_many entries names e.1)

  pub as_many : length held.laid_out.names.index.entries ≡ length p.names
  as_many = entries_as_many held.laid_out.names.index.entries p.names held.laid_out.names.entries

pub looked_up : (name : List ℕ) (r : Root) (roots : List Root) → root_named roots name ≡ Some r → IsAmong r roots × (same_name name r.name ≡ true)
looked_up name r [] e = cc
looked_up name r (x ∷ roots) e = go (same_name name x.name) refl (looked_up name r roots) e
  where
    go : (b : Bool) → same_name name x.name ≡ b → (root_named roots name ≡ Some r → IsAmong r roots × (same_name name r.name ≡ true)) → (if b then Some x else root_named roots name) ≡ Some r
        → IsAmong r (x ∷ roots) × (same_name name r.name ≡ true)
    go true p more f = (let same : x ≡ r = cc in (inl (sym same), ap (λ (t : Root). same_name name t.name) (sym same) ∙ p))
    go false p more f = (let k = more f in (inr k.0, k.1))
