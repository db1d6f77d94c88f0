use Rattle.std.proofs.Common.{arith}
use Rattle.seg_spec.specs.Types.{Form}
use Rattle.seg_spec.specs.Block.{Kind, tag_of}
use Rattle.seg_spec.proofs.Tables.TableExtensionLaws.{below_length}
use Rattle.seg_cells.specs.Places.{object_at}
use Rattle.seg_cells.specs.declared.content.Shape.TheVariants as shape
use Rattle.seg_seq.proofs.NodeAdditionLaws.{item_pushed}
use Rattle.seg_seq.proofs.Results.{refused_so}
use Rattle.seg_seq.proofs.list.push_node.Goals as goal

pub returns-in_err-node-clause-pushed : goal.returns-in_err-node-clause-pushed
returns-in_err-node-clause-pushed g c = λ T U vs blocks is s.
    let few = s.is_table.few in
    let known = below_length c.args.heap.now.types T (Form.list U) is.form_is in
    let refused = c.in_err-node.ensures.given 8 U (tag_of Kind.node T) shape.Ring is.content_is (omega arith) (omega arith) s.is_table (s.is_table.forms T (Form.list U) is.form_is) s.heap in
    refused_so _ c.from_residual.result c.from_residual.ensures.0 refused

pub returns-clause-pushed : goal.returns-clause-pushed
returns-clause-pushed g c = λ T U vs blocks is s.
    let few = s.is_table.few in
    let known = below_length c.args.heap.now.types T (Form.list U) is.form_is in
    let given = c.in_ok-node.ensures.given 8 U (tag_of Kind.node T) shape.Ring is.content_is (omega arith) (omega arith) s.is_table (s.is_table.forms T (Form.list U) is.form_is) s.heap in
    item_pushed g.F.Fit.allocator c.args.heap.now.window.bytes c.new_block.new.self.window.bytes c.insert.new.heap.window.bytes c.args.heap.now.types (object_at c.args.cell T) U c.in_ok-node.node c.item_of.result
    is.form_is vs blocks s given c.item_of.ensures c.insert.ensures.inserted
