-- The program's tags in the definitions' terms.
use Rattle.std.specs.Prelude.{ℕ}
use Rattle.seg_spec.specs.Block as block
use Rattle.seg_block.specs.declared.tag.Kind.{Kind}
use Rattle.seg_block.specs.declared.tag.Kind.TheVariants.{Named, Object, Buffer, Node, IndexBuffer, IndexNode, Frozen}
use Rattle.seg_block.specs.declared.tag.Tag.{Tag}

-- the kind in the definitions
abbrev pub kind_of : Kind → block.Kind
kind_of Named = block.Kind.named
kind_of Object = block.Kind.object
kind_of Buffer = block.Kind.buffer
kind_of Node = block.Kind.node
kind_of IndexBuffer = block.Kind.index_buffer
kind_of IndexNode = block.Kind.index_node
kind_of Frozen = block.Kind.frozen

-- the word of a tag
abbrev pub word_of : Tag → ℕ
word_of t = block.tag_of (kind_of t.kind) t.type_id
