-- A tree and a path in contracts.
use Rattle.std.specs.Prelude.{ℕ}
use Rattle.seg_rbtree.specs.declared.tree.Tree as declared
use Rattle.seg_rbtree.specs.declared.path.Path.{Path}

-- the position of the pointer word to the tree's root
abbrev pub root_word : declared.Tree → ℕ
root_word t = t.root

-- the position of the pointer word to the root of the path's tree
abbrev pub path_root : Path → ℕ
path_root path = path.root
