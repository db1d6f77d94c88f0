use Rattle.std.proofs.Common.{◌≡◌, ◌⊎◌, inl, inr, sym, ap, ◌∙◌, subst}
use Rattle.seg_spec.specs.Block.{tag_of}
use Rattle.seg_block.specs.Tags.{kind_of}
use Rattle.seg_block.specs.declared.tag.Kind.{Kind}
use Rattle.seg_block.specs.declared.tag.Kind.TheVariants.{Named, Object, Buffer, Node, IndexBuffer, IndexNode, Frozen}
use Rattle.seg_cells.specs.declared.content.Content.{Content}
use Rattle.seg_check.specs.Turns.{HasEntries, HoldsEntries}
use Rattle.seg_check.proofs.Heap.TagLaws.{stands_named, stands_in, none_in, has_tag}
use Rattle.seg_check.proofs.image.TypedImage.entry_of.Goals as goal
use Rattle.seg_check.proofs.image.TypedImage.entry_of.Goals.{in-Named, in-Object+in_ok-content-in-Object}

other : (k : Kind) → (k ≡ Object) ⊎ ((k ≡ Buffer) ⊎ ((k ≡ Node) ⊎ ((k ≡ IndexBuffer) ⊎ ((k ≡ IndexNode) ⊎ (k ≡ Frozen))))) → k ≡ Named → ⊥
other k (inl e) n = cc
other k (inr (inl e)) n = cc
other k (inr (inr (inl e))) n = cc
other k (inr (inr (inr (inl e)))) n = cc
other k (inr (inr (inr (inr (inl e))))) n = cc
other k (inr (inr (inr (inr (inr e))))) n = cc

pub returns-in_err-tag : goal.returns-in_err-tag
returns-in_err-tag c = λ valid own.
    absurd (has_tag c.args.self.now.bytes.bytes.now c.args.self.now.types.now valid c.args.block own (λ t small e. c.in_err-tag.ensures.every t small (c.tag_word_in.ensures ∙ e)))

pub returns-in_err-content-in-Object : goal.returns-in_err-content-in-Object
returns-in_err-content-in-Object c = λ valid own.
    subst (HoldsEntries c.args.self.now.bytes.bytes.now c.args.self.now.types.now c.args.block) (sym c.from_residual-in_err-content-in-Object.ensures)
    (none_in c.args.self.now.bytes.bytes.now c.args.self.now.types.now valid c.args.block c.in_ok-tag.tag.kind c.in_ok-tag.tag.type_id (other c.in_ok-tag.tag.kind c.in-Object.is) (sym c.tag_word_in.ensures
    ∙ c.in_ok-tag.ensures.spelled) c.in_err-content-in-Object.ensures)

pub returns : goal.returns
returns c = λ valid own.
    let bytes = c.args.self.now.bytes.bytes.now in
    let table = c.args.self.now.types.now in
    let T = c.in_ok-tag.tag.type_id in
    let tagged = sym c.tag_word_in.ensures ∙ c.in_ok-tag.ensures.spelled in
    let P : Content → Type 0 = λ content. HasEntries bytes table c.args.block content.entry in
    elim c.match-tag.branch [
      | in-Named w ↦ subst P (sym w.content-is) (stands_named bytes table valid c.args.block T w.object-content.result own (tagged ∙ ap (λ k. tag_of (kind_of k) T) w.in-Named.is) w.object-content.ensures.content)
      | in-Object+in_ok-content-in-Object w ↦ subst P (sym w.content-is) (stands_in bytes table valid c.args.block c.in_ok-tag.tag.kind T w.in_ok-content-in-Object.content
          (other c.in_ok-tag.tag.kind w.in-Object.is) own tagged w.in_ok-content-in-Object.ensures)
    ]
