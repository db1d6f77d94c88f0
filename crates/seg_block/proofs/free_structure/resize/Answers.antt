use Rattle.std.proofs.Common.{ap, subst, sym, true}
use Rattle.seg_spec.specs.Window.{Placement}
use Rattle.seg_block.specs.Blocks.{IsResized}
use Rattle.seg_block.proofs.ResizedBlockLaws.{resized_not, before, following, was}
use Rattle.seg_block.proofs.BlockExpansionLaws.{resized}
use Rattle.seg_block.proofs.free_structure.resize.Goals as goal

pub returns-then-units-block-clause-resized : goal.returns-then-units-block-clause-resized
returns-then-units-block-clause-resized g c = λ h held room_is.
    let old = c.args.w.now.bytes in
    let block = c.args.block in
    subst (λ n. IsResized g.S.FreeStructure.allocator old old block.at n) (sym c.if-units-block.true) (resized_not old block.at block.units h held)

pub returns-clause-resized : goal.returns-clause-resized
returns-clause-resized g c = λ h held room_is.
    let bytes = λ (p : Placement). p.bytes in
    let old = c.args.w.now.bytes in
    let at = c.args.block.at in
    let u = c.args.block.units in
    let leads = c.predecessor-predecessor.ensures (before old at u h held) (following old at u h held) true (was old at u h held) in
    resized (g.S.FreeStructure.leads c.predecessor-predecessor.result) old c.absorb.new.w.bytes c.cut.new.w.bytes at u c.args.room c.args.units h held room_is leads
    (λ e. ap bytes (c.absorb.ensures.none e)) c.absorb.ensures.tiles (λ e. ap bytes (c.cut.ensures.whole e)) c.cut.ensures.tiles
    c.if-units-block.false c.requires.rest
