-- The words of a node.
--     side_word node side                   the position of the pointer to a child
--     colour_at bytes node                  the colour of a node; black if there is no node
--     shade colour                          the colour in the definitions of `Shapes`
--     with_child, with_colour, with_new_node      the bytes with a child, a colour, or a red node without children
--     rotated bytes word node side          the bytes after a rotation of the node at a pointer word with its child on
--                                           the other side
--     rotated_and_coloured bytes word node side
--                                           the same, with the node red and the child black
--     straightened bytes word grandparent way parent turn      the bytes after two red nodes in a row below a black one
--                                           were repaired
use Rattle.std.specs.Prelude.{ℕ, Bool, true, false, ◌+◌, ◌==◌, if◌then◌else◌, List, Option, None, Some}
use Rattle.seg_spec.specs.Bytes.{word, set_word}
use Rattle.seg_spec.specs.Pointer.{target, set_pointer}
use Rattle.seg_spec.specs.Shapes
use Rattle.seg_spec.specs.Shapes.{black, red}
use Rattle.seg_rbtree.specs.declared.node.Side.{Side}
use Rattle.seg_rbtree.specs.declared.node.Side.TheVariants.{Left, Right}
use Rattle.seg_rbtree.specs.declared.node.Colour.{Colour}
use Rattle.seg_rbtree.specs.declared.node.Colour.TheVariants.{Black, Red}

abbrev pub side_word : ℕ → Side → ℕ
side_word node Left = node
side_word node Right = node + 4

-- the other side
abbrev pub opposite : Side → Side
opposite Left = Right
opposite Right = Left

abbrev pub colour_at : List ℕ → Option ℕ → Colour
colour_at bytes None = Black
colour_at bytes (Some node) = if word bytes (node + 8) == 1 then Red else Black

-- the word of a colour
abbrev pub colour_number : Colour → ℕ
colour_number Black = 0
colour_number Red = 1

abbrev pub shade : Colour → Shapes.Colour
shade Black = black
shade Red = red

abbrev pub with_child : List ℕ → ℕ → Side → Option ℕ → List ℕ
with_child bytes node side child = set_pointer bytes (side_word node side) child

abbrev pub with_colour : List ℕ → ℕ → Colour → List ℕ
with_colour bytes node colour = set_word bytes (node + 8) (colour_number colour)

abbrev pub with_new_node : List ℕ → ℕ → List ℕ
with_new_node bytes node =
    let lone = with_child (with_child bytes node Left None) node Right None in
    set_word (with_colour lone node Red) (node + 12) 0

-- the bytes after a node moved down to a side of the node that moved up to its pointer word
abbrev pub rotated_up : List ℕ → ℕ → ℕ → Side → Option ℕ → List ℕ
rotated_up bytes word node side None = bytes
rotated_up bytes word node side (Some up) =
    let moved = with_child bytes node (opposite side) (target bytes (side_word up side)) in
    set_pointer (with_child moved up side (Some node)) word (Some up)

-- the bytes after the node at a pointer word moved down to a side, and its child on the other side
-- moved up
abbrev pub rotated : List ℕ → ℕ → ℕ → Side → List ℕ
rotated bytes word node side =
    rotated_up bytes word node side (target bytes (side_word node (opposite side)))

-- the bytes after the node that moved up was painted black and the other one red
abbrev pub raised_up : List ℕ → ℕ → Option ℕ → List ℕ
raised_up bytes node None = bytes
raised_up bytes node (Some up) = with_colour (with_colour bytes up Black) node Red

-- the bytes after a rotation: the node that moved down is red, and the child that moved up is black
abbrev pub rotated_and_coloured : List ℕ → ℕ → ℕ → Side → List ℕ
rotated_and_coloured bytes word node side =
    raised_up (rotated bytes word node side) node (target bytes (side_word node (opposite side)))

abbrev pub is_same : Side → Side → Bool
is_same Left Left = true
is_same Left Right = false
is_same Right Left = false
is_same Right Right = true

-- the bytes after the inner grandchild on a side moved up, if the two red nodes are on different
-- sides
abbrev pub turned_out : List ℕ → ℕ → Side → ℕ → Side → List ℕ
turned_out bytes grandparent way parent turn =
    if is_same turn way then bytes else rotated bytes (side_word grandparent way) parent way

-- the bytes after the middle one of three nodes moved up to the pointer word
abbrev pub straightened : List ℕ → ℕ → ℕ → Side → ℕ → Side → List ℕ
straightened bytes word grandparent way parent turn =
    rotated_and_coloured (turned_out bytes grandparent way parent turn) word grandparent
    (opposite way)
