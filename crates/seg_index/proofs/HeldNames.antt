-- The state in which calls on the index begin: in an image, and after another call on the index.
use Rattle.std.proofs.Common.{◌≡◌, ℕ, ◌+◌, ◌*◌, ◌≤◌, List, [], ◌∷◌, ◌++◌, length, refl, sym, ◌∙◌, subst, arith}
use Rattle.std.specs.List.{AllByRecursion}
use Rattle.seg_spec.specs.Bytes.{word}
use Rattle.seg_spec.specs.Header.{allocator_word}
use Rattle.seg_spec.specs.Types.{Table, size}
use Rattle.seg_spec.specs.Value.{count}
use Rattle.seg_spec.specs.Heap.{live}
use Rattle.seg_spec.specs.Block.{Kind, tag_of, block_of, IsBlock}
use Rattle.seg_spec.specs.Index.{Root, IsName, AreEntries}
use Rattle.seg_spec.specs.Sound.{Picture, frozen_roots, kind_with, HoldsRoots, holds_more_roots, IsHeld, times, positions}
use Rattle.seg_spec.proofs.Heap.LiveBlockLaws.{live-once, times-append, times-same}
use Rattle.seg_index.specs.Lists.{IsNamed, FindsNamesOf}
use Rattle.seg_spec.proofs.Images.PlainRootLaws.{plain_of}

-- ---- lists

-- ---- the index in an image

entry_names : (bytes entries : List ℕ) (names : List Root) → AreEntries bytes entries names → AllByRecursion (λ r. IsName r.name × (r.words ≡ [])) names
entry_names bytes [] [] h = tt
entry_names bytes [] (r ∷ names) h = absurd h
entry_names bytes (e ∷ entries) [] h = absurd h
entry_names bytes (e ∷ entries) (r ∷ names) h = ((h.0.is_name, h.0.no_words), entry_names bytes entries names h.1)

-- an object with a name is a named object
named_kind : (name : List ℕ) → 1 ≤ length name → kind_with [] name ≡ Kind.named
named_kind [] h = absurd (omega arith)
named_kind (b ∷ name) h = refl

module _ (bytes : List ℕ) (table : Table) (index_blocks : List ℕ) where
  each_named : (names rest : List Root) (blocks : List ℕ) → HoldsRoots bytes table (names ++ rest) blocks → AllByRecursion (λ r. IsName r.name × (r.words ≡ [])) names
      → ((h : ℕ) → 1 ≤ times h blocks → (1 ≤ times h (positions (live bytes))) × (times h index_blocks ≡ 0))
      → AllByRecursion (λ r. IsNamed bytes table r × (times (block_of r.at) index_blocks ≡ 0)) names
  each_named [] rest blocks h are own = tt
  each_named (r ∷ names) rest _ (holds_more_roots {blocks = mine} {rest = others} h hs) are own =
      let p = plain_of bytes table r mine are.0.1 h in
      let its : 1 ≤ times (block_of r.at) mine = subst (λ bs. 1 ≤ times (block_of r.at) bs) (sym p.blocks_are) (omega (arith, times-same (block_of r.at) p.inside)) in
      let here = own (block_of r.at) (omega (arith, times-append (block_of r.at) mine others)) in (
        (
          record {
            block = subst (λ kind. IsBlock bytes r.at (tag_of kind r.type) (count r.values * size table r.type + length r.name)) (named_kind r.name are.0.0.not_empty) p.block;
            name_is = p.name_is;
            is_live = here.0;
          },
          here.1,
        ),
        each_named names rest others hs are.1 (λ k some. own k (omega (arith, times-append k mine others))),
      )

pub finds_held : (bytes : List ℕ) (picture : Picture) (held : IsHeld bytes picture) → FindsNamesOf (word bytes allocator_word) bytes picture.table picture.names held.index_blocks
finds_held bytes picture held =
    let l = held.laid_out in
    let both = λ (h : ℕ). held.owners h ∙ times-append h held.index_blocks held.root_blocks in
    record {
      heap = l.heap;
      allocator_is = refl;
      kind_is = l.header.index_is;
      is_table = l.is_table;
      ownable = l.blocks;
      lists = l.names;
      owned = λ h. omega (arith, both h);
      named = each_named bytes picture.table held.index_blocks picture.names (picture.uniques ++ (picture.loose ++ frozen_roots picture)) held.root_blocks held.roots (entry_names bytes l.names.index.entries picture.names l.names.entries)
          (λ h some. (omega (arith, both h), omega (arith, both h, live-once bytes (word bytes allocator_word) l.heap h)));
    }
