-- Searches from either side of a tree.
--     nodes_from side tree          the nodes of a tree in order from this side
--     last_where is_before nodes    the last node for which is_before is true
--     is_beyond side found          a node that compares like this with a key is on this side of the key
use Rattle.std.specs.Prelude.{ℕ, Bool, List, reverse, Option}
use Rattle.std.specs.Ordering.{is_lt}
use Rattle.std.specs.declared.cmp.Ordering.{Ordering}
use Rattle.std.specs.declared.cmp.Ordering.TheVariants.{Greater}
use Rattle.seg_spec.specs.Shapes.{Tree, nodes_of}
use Rattle.seg_spec.specs.Search.{first_where, reaches}
use Rattle.seg_rbtree.specs.declared.node.Side.{Side}
use Rattle.seg_rbtree.specs.declared.node.Side.TheVariants.{Left, Right}

abbrev pub nodes_from : Side → Tree → List ℕ
nodes_from Left tree = nodes_of tree
nodes_from Right tree = reverse (nodes_of tree)

abbrev pub last_where : (ℕ → Bool) → List ℕ → Option ℕ
last_where is_before nodes = first_where is_before (reverse nodes)

abbrev pub is_beyond : Side → Ordering → Bool
is_beyond Left found = is_lt found
is_beyond Right found = reaches Greater found
