-- Free blocks, and the pointer words that point to them.
use Rattle.std.specs.Prelude.{◌≡◌, ℕ, ◌+◌, List, [], ◌∷◌, ◌++◌, Some}
use Rattle.seg_spec.specs.Heap.{Span, first_fit, span}
use Rattle.seg_ptr.specs.declared.header.TheConstants.{FREE}
use Rattle.seg_block.specs.declared.header.TheConstants.{LINK}

-- the position of the pointer word after these free blocks
abbrev pub link_after : ℕ → List Span → ℕ
link_after at [] = at
link_after at (g ∷ gs) = link_after (g.at + LINK) gs

-- the pointer word at `link` points to the first free block of at least u units
pub record IsFirstFit (gs : List Span) (u link at units : ℕ) : Type 0 where
  pub seen : List Span
  pub rest : List Span
  pub parts : gs ≡ seen ++ span at units ∷ rest
  pub link_is : link ≡ link_after FREE seen
  pub is_first : first_fit gs u ≡ Some (span at units)
