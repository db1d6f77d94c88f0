-- The program's layouts (`Content`) in the definitions' terms. A layout describes the blocks to
-- which a cell points.
--     IsContent table shape tag before U content
--                                         blocks of this shape and tag; each entry has a value of the type U after
--                                         `before` bytes
--     IsText tag content                  a buffer of bytes
--     kind_of_shape shape                 the kind of the blocks of a shape
--     ContentOf table T form content      the layout of what the cell of a type points to, by the type's form
--     OfBlock table kind T content        the layout that a block of a tag belongs to
--     IsIndexBuffer, IsIndexNode content  the layouts of the flat index and the tree index: entries of 8 bytes that
--                                         begin with a pointer to an object
use Rattle.std.specs.Prelude.{◌≡◌, ℕ, ⊤, Option, Some, None, IsSomeAnd}
use Rattle.seg_spec.specs.Types.{Form, Table, form_at}
use Rattle.seg_spec.specs.Frozen.{frozen_words}
use Rattle.seg_spec.specs.Index.{index_node_size}
use Rattle.seg_spec.specs.Shapes.{tree_words}
use Rattle.seg_spec.specs.Block as block
use Rattle.seg_spec.specs.Block.{tag_of}
use Rattle.seg_block.specs.Tags.{word_of}
use Rattle.seg_block.specs.declared.tag.Kind.{Kind}
use Rattle.seg_block.specs.declared.tag.Kind.TheVariants as kind
use Rattle.seg_cells.specs.Entries.{IsEntryOf}
use Rattle.seg_cells.specs.declared.entry.Held.TheVariants as held
use Rattle.seg_cells.specs.declared.content.Content.{Content}
use Rattle.seg_cells.specs.declared.content.Shape.{Shape}
use Rattle.seg_cells.specs.declared.content.Shape.TheVariants as shape

pub record IsContent (table : Table) (shape : Shape) (tag before U : ℕ)
    (content : Content) : Type 0 where
  pub shape_is : content.shape ≡ shape
  pub tag_is : word_of content.tag ≡ tag
  pub entry_is : IsEntryOf table before U content.entry

pub record IsText (tag : ℕ) (content : Content) : Type 0 where
  pub shape_is : content.shape ≡ shape.Buffer
  pub tag_is : word_of content.tag ≡ tag
  pub size_is : content.entry.size ≡ 1
  pub before_is : content.entry.before ≡ 0
  pub held_is : content.entry.held ≡ held.Bytes

abbrev pub kind_of_shape : Shape → block.Kind
kind_of_shape shape.Buffer = block.Kind.buffer
kind_of_shape shape.Ring = block.Kind.node
kind_of_shape shape.Tree = block.Kind.node
kind_of_shape shape.Object = block.Kind.object

-- the layout of what the cell of a type of this form points to
abbrev pub ContentOf : Table → ℕ → Option Form → Option Content → Type 0
ContentOf table T None None = ⊤
ContentOf table T (Some Form.i64) None = ⊤
ContentOf table T (Some (Form.struct Us)) None = ⊤
ContentOf table T (Some (Form.shared U)) None = ⊤
ContentOf table T (Some Form.str) (Some content) = IsText (tag_of block.Kind.buffer T) content
ContentOf table T (Some (Form.vec U)) (Some content) =
    IsContent table shape.Buffer (tag_of block.Kind.buffer T) 0 U content
ContentOf table T (Some (Form.flat_map U)) (Some content) =
    IsContent table shape.Buffer (tag_of block.Kind.buffer T) 8 U content
ContentOf table T (Some (Form.list U)) (Some content) =
    IsContent table shape.Ring (tag_of block.Kind.node T) 8 U content
ContentOf table T (Some (Form.map U)) (Some content) =
    IsContent table shape.Tree (tag_of block.Kind.node T) 24 U content
ContentOf table T (Some (Form.own U)) (Some content) =
    IsContent table shape.Object (tag_of block.Kind.object U) 0 U content
ContentOf _ _ _ _ = ⊥

-- the layout of a block of a kind and a type, unless the block is a named object or is in the index
abbrev pub OfBlock : Table → Kind → ℕ → Option Content → Type 0
OfBlock table kind.Object T content =
    IsSomeAnd content (IsContent table shape.Object (tag_of block.Kind.object T) 0 T)
OfBlock table kind.Frozen T content =
    IsSomeAnd content (IsContent table shape.Object (tag_of block.Kind.frozen T) frozen_words T)
OfBlock table kind.Buffer T content = ContentOf table T (form_at table T) content
OfBlock table kind.Node T content = ContentOf table T (form_at table T) content
OfBlock table kind.Named T content = content ≡ None
OfBlock table kind.IndexBuffer T content = content ≡ None
OfBlock table kind.IndexNode T content = content ≡ None

-- a buffer of entries of 8 bytes, each with a pointer to an object that it doesn't own
pub record IsIndexBuffer (content : Content) : Type 0 where
  pub shape_is : content.shape ≡ shape.Buffer
  pub tag_is : word_of content.tag ≡ tag_of block.Kind.index_buffer 0
  pub size_is : content.entry.size ≡ 8
  pub before_is : content.entry.before ≡ 0
  pub held_is : content.entry.held ≡ held.Pointer

-- a node of the tree index: tree words, then an entry like those in a buffer
pub record IsIndexNode (content : Content) : Type 0 where
  pub shape_is : content.shape ≡ shape.Tree
  pub tag_is : word_of content.tag ≡ tag_of block.Kind.index_node 0
  pub size_is : content.entry.size ≡ index_node_size
  pub before_is : content.entry.before ≡ tree_words
  pub held_is : content.entry.held ≡ held.Pointer
