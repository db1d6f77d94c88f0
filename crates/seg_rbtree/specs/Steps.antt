-- A step of a path in a tree, and its word.
--     NodeAndSide           a node, and the side on which the path continues
--     bit_of side           the side as the lowest bit of the word
--     side_of word          the side in the word
use Rattle.std.specs.Prelude.{ℕ, ◌%◌, ◌==◌, if◌then◌else◌}
use Rattle.seg_rbtree.specs.declared.node.Side.{Side}
use Rattle.seg_rbtree.specs.declared.node.Side.TheVariants.{Left, Right}

pub record NodeAndSide : Type 0 where
  pub node : ℕ
  pub side : Side

abbrev pub bit_of : Side → ℕ
bit_of Left = 0
bit_of Right = 1

abbrev pub side_of : ℕ → Side
side_of word = if word % 2 == 0 then Left else Right
