-- An image without roots has no allocated block, so its heap is one free block.
use Rattle.std.proofs.Common.{◌≡◌, ℕ, zero, suc, ◌+◌, ◌-◌, ◌/◌, true, List, [], ◌∷◌, ◌++◌, length, map, cond, option_to_list, option_map, refl, sym, ap, ◌∙◌, arith}
use Rattle.std.specs.Prelude.{nat_lt}
use Rattle.std.proofs.lemmas.Bool.Decides.{nat_tests}
use Rattle.seg_spec.specs.Bytes.{word}
use Rattle.seg_spec.specs.Types.{Table}
use Rattle.seg_spec.specs.Heap.{Span, span, live, gaps, gaps_of, heap_start}
use Rattle.seg_spec.specs.Block.{block_of}
use Rattle.seg_spec.specs.Shapes.{nodes_of}
use Rattle.seg_spec.specs.Reads.{count_at, start, spaced}
use Rattle.seg_spec.specs.Index.{Root, Index, OpensIndex, AreEntries}
use Rattle.seg_spec.specs.Sound.{Picture, frozen_roots, roots_of, HoldsRoots, holds_no_root, IsHeld, times, positions}
use Rattle.seg_spec.proofs.Heap.LiveBlockLaws.{times-same}

left_empty : {X : Type 0} (xs ys : List X) → xs ++ ys ≡ [] → xs ≡ []
left_empty [] ys e = refl
left_empty (x ∷ xs) ys e = absurd (let f : x ∷ (xs ++ ys) ≡ [] = e in cc)

map_empty : (f : ℕ → ℕ) (xs : List ℕ) → map f xs ≡ [] → xs ≡ []
map_empty f [] e = refl
map_empty f (x ∷ xs) e = absurd (let g : f x ∷ map f xs ≡ [] = e in cc)

no_entries : (bytes : List ℕ) (entries : List ℕ) (roots : List Root) → AreEntries bytes entries roots → roots ≡ [] → entries ≡ []
no_entries bytes [] roots a e = refl
no_entries bytes (x ∷ entries) [] a e = absurd a
no_entries bytes (x ∷ entries) (root ∷ roots) a e = absurd (let f : root ∷ roots ≡ [] = e in cc)

none_spaced : (at step n : ℕ) → spaced at step n ≡ [] → n ≡ 0
none_spaced at step zero e = refl
none_spaced at step (suc n) e = absurd (let f : at ∷ spaced (at + step) step n ≡ [] = e in cc)

no_index : (bytes : List ℕ) (kind : ℕ) (index : Index) → OpensIndex bytes kind index → index.entries ≡ [] → index.blocks ≡ []
no_index bytes zero index o e =
    let entries : spaced (start bytes 32) 8 (count_at bytes 32) ≡ [] = sym (ap (λ (x : Index). x.entries) o.index_is) ∙ e in
    ap (λ (x : Index). x.blocks) o.index_is ∙ ap (λ t. option_to_list (option_map block_of t)) (o.none_if_empty (none_spaced (start bytes 32) 8 (count_at bytes 32) entries))
no_index bytes (suc n) index o e =
    let nodes : nodes_of o.tree ≡ [] = map_empty (λ p. p + 16) (nodes_of o.tree) (sym (ap (λ (x : Index). x.entries) o.index_is) ∙ e) in
    ap (λ (x : Index). x.blocks) o.index_is ∙ ap (map block_of) nodes

no_blocks : (bytes : List ℕ) (table : Table) (roots : List Root) (blocks : List ℕ) → HoldsRoots bytes table roots blocks → roots ≡ [] → blocks ≡ []
no_blocks bytes table [] blocks holds_no_root e = refl
no_blocks bytes table (root ∷ roots) blocks h e = absurd (let f : root ∷ roots ≡ [] = e in cc)

none_at : (bs : List Span) → ((h : ℕ) → times h (positions bs) ≡ 0) → bs ≡ []
none_at [] s = refl
none_at (b ∷ bs) s = absurd (let e = s b.at in omega (arith, times-same b.at (positions bs)))

pub nothing_held : (bytes : List ℕ) (picture : Picture) → IsHeld bytes picture → roots_of picture ≡ [] → (live bytes ≡ []) × (gaps bytes ≡ span heap_start ((length bytes - heap_start) / 16) ∷ [])
nothing_held bytes picture held e =
    let names : picture.names ≡ [] = left_empty picture.names (picture.uniques ++ (picture.loose ++ frozen_roots picture)) e in
    let lists = held.laid_out.names in
    let entries = no_entries bytes lists.index.entries picture.names lists.entries names in
    let index : held.index_blocks ≡ [] = lists.blocks_are ∙ no_index bytes (word bytes 20) lists.index lists.opens entries in
    let roots : held.root_blocks ≡ [] = no_blocks bytes picture.table (roots_of picture) held.root_blocks held.roots e in
    let none : live bytes ≡ [] = none_at (live bytes) (λ h. held.owners h ∙ ap (λ bs. times h (bs ++ held.root_blocks)) index ∙ ap (times h) roots) in
    let size = held.laid_out.header.not_small in
    let less : nat_lt heap_start (length bytes) ≡ true = grind (arith, nat_tests) in
    (none, ap (λ bs. gaps_of bs (length bytes)) none ∙ ap (λ t. cond t (span heap_start ((length bytes - heap_start) / 16) ∷ []) []) less)
