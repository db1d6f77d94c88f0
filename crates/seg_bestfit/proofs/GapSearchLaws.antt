-- The gap that a search in the tree finds.
use Rattle.std.proofs.Common.{◌≡◌, ℕ, ◌+◌, ◌-◌, ◌*◌, ◌^◌, ◌<◌, ◌≤◌, List, [], ◌∷◌, ◌++◌, length, Option, Some, None, refl, sym, ◌∙◌, subst, arith}
use Rattle.std.specs.Prelude.{IsSomeAnd}
use Rattle.std.specs.Option.{option_map}
use Rattle.std.specs.Ordering.{nat_cmp}
use Rattle.std.specs.declared.cmp.Ordering.TheVariants.{Equal}
use Rattle.seg_spec.specs.Heap.{Span, units_at, best_fit, IsFreeTree}
use Rattle.seg_spec.specs.Search.{reaches, Ascend, first_where, IsSearchTree}
use Rattle.seg_spec.specs.Shapes.{Tree, nodes_of}
use Rattle.seg_spec.proofs.Heap.GapPickLaws.{best_fit-smallest}
use Rattle.seg_block.specs.declared.block.Block.{Block}
use Rattle.seg_block.specs.Blocks.{IsSized}
use Rattle.seg_block.specs.FreeBlocks.{AreFreeBlocks}
use Rattle.seg_bestfit.specs.FreeTree.{by_units}
use Rattle.seg_bestfit.proofs.SizeOrder.{node_of}
use Rattle.seg_bestfit.proofs.TreeChangeLaws.{search_tree, tree_ascends, best_node}

block_in : (bytes : List ℕ) (from : ℕ) (xs : List Span) (g : Span) (ys : List Span) → AreFreeBlocks bytes from (xs ++ g ∷ ys) → IsSized bytes g
block_in bytes from [] g ys a = a.1
block_in bytes from (x ∷ xs) g ys a = block_in bytes (x.at + 16 * x.units) xs g ys a.2

-- what the search down the tree at the word `root` ensures
abbrev pub Finds : List ℕ → ℕ → ℕ → Option ℕ → Type 0
Finds bytes root u node = (shape : Tree) → IsSearchTree bytes root shape → Ascend (by_units bytes) (nodes_of shape) → node ≡ first_where (λ x. reaches Equal (nat_cmp (units_at bytes (x - 16)) u)) (nodes_of shape)

-- what reading the block of a node ensures
abbrev pub Reads : List ℕ → ℕ → Option Block → Type 0
Reads bytes node result = (g : Span) → node ≡ g.at + 16 → IsSized bytes g → IsSomeAnd result (λ f. (f.at ≡ g.at) × (f.units ≡ g.units))

module _ (bytes : List ℕ) (root u : ℕ) (node : Option ℕ) (root_is : root ≡ 24) (finds : Finds bytes root u node) (gs : List Span) (holds : IsFreeTree bytes gs)
    (free : AreFreeBlocks bytes 704 gs) (low : 704 ≤ length bytes) (small : length bytes ≤ 2 ^ 30) where
  pub node_is : node ≡ option_map node_of (best_fit gs u)
  node_is = subst (λ r. Finds bytes r u node) root_is finds holds.tree (search_tree bytes gs low small free holds) (tree_ascends bytes gs low small free holds) ∙ best_node bytes gs low small free holds u

  pub finds_none : node ≡ None → best_fit gs u ≡ None
  finds_none e = go (best_fit gs u) (sym node_is ∙ e)
    where
      go : (o : Option Span) → option_map node_of o ≡ None → o ≡ None
      go None e = cc
      go (Some g) e = absurd (no e)
        where
          no : Some (node_of g) ≡ None → ⊥
          no e = cc

  -- the node that was found belongs to the smallest gap that fits
  pub record IsBest (at : ℕ) : Type 0 where
    pub gap : Span
    pub is_best : best_fit gs u ≡ Some gap
    pub place : at ≡ gap.at + 16
    pub fits : u ≤ gap.units
    pub block : IsSized bytes gap

  pub finds_some : (at : ℕ) → node ≡ Some at → IsBest at
  finds_some at e = go (best_fit gs u) (sym node_is ∙ e) (λ g k. k)
    where
      go : (o : Option Span) → option_map node_of o ≡ Some at → ((g : Span) → o ≡ Some g → best_fit gs u ≡ Some g) → IsBest at
      go None e same = absurd (no e)
        where
          no : None ≡ Some at → ⊥
          no e = cc
      go (Some g) e same =
          let s = best_fit-smallest gs u g (same g refl) in
          record { gap = g; is_best = same g refl; place = sym (some_same e); fits = s.fits; block = block_in bytes 704 s.before g s.after (subst (λ l. AreFreeBlocks bytes 704 l) s.gaps_are free) }
        where
          some_same : Some (node_of g) ≡ Some at → node_of g ≡ at
          some_same e = cc

  module _ (at : ℕ) (found : node ≡ Some at) where
    pub never_unread : Reads bytes at None → ⊥
    never_unread read = let b = finds_some at found in read b.gap b.place b.block

    pub never_small : (f : Block) → Reads bytes at (Some f) → f.units < u → ⊥
    never_small f read small = let b = finds_some at found in let r = read b.gap b.place b.block in omega (arith, b.fits, r.1)

    pub finds_best : (f : Block) → Reads bytes at (Some f) → best_fit gs u ≡ Some (record { at = f.at; units = f.units })
    finds_best f read = let b = finds_some at found in let r = read b.gap b.place b.block in b.is_best ∙ (λ i. Some (record { at = sym r.0 i; units = sym r.1 i }))
