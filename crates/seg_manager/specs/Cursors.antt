-- Cursors: the path to a key of a map, which may be kept.
--     IsCursorInside bytes cursor
--                                if the cursor keeps a path, the path lies in each search tree at its root
use Rattle.std.specs.Prelude.{◌≡◌, ℕ, List, true}
use Rattle.seg_rbtree.specs.Following.{LeadsInside}
use Rattle.seg_manager.specs.declared.cursor.Cursor.{Cursor}

abbrev pub IsCursorInside : List ℕ → Cursor → Type 0
IsCursorInside bytes cursor = cursor.is_kept ≡ true → LeadsInside bytes cursor.key.path
