use Rattle.std.proofs.Common.{◌+◌, ◌*◌, sym, subst}
use Rattle.seg_spec.specs.Heap.{Gives}
use Rattle.seg_spec.specs.Window.{Placement}
use Rattle.seg_block.specs.declared.block.Block.{Block}
use Rattle.seg_block.proofs.BlockFreeLaws.{has_following, freed_alone, freed_joined}
use Rattle.seg_block.proofs.LiveBlocks.{unread, read_is, read_held}
use Rattle.seg_block.proofs.ResizedBlockLaws.{before}
use Rattle.seg_bestfit.specs.FreeTree.{IsGapAt, MakesGapWith}
use Rattle.seg_bestfit.proofs.TileMergeLaws.{after-retiles, both-retiles}
use Rattle.seg_bestfit.proofs.bestfit.BestFitFit.free.Goals.{in-Some-free_before, in-None}
use Rattle.seg_bestfit.proofs.bestfit.BestFitFit.free.Goals as goal

pub returns-in_default-clause-gives : goal.returns-in_default-clause-gives
returns-in_default-clause-gives g c = λ h held. absurd (unread c.args.w.now.bytes c.args.block held.0 h held.1 c.in_default.ensures.read)

pub returns-clause-gives : goal.returns-clause-gives
returns-clause-gives g c = λ h held.
    let old = c.args.w.now.bytes in
    let new = c.release_joined.new.w.bytes in
    let at = c.in-Some.block.at in
    let u = c.in-Some.block.units in
    let room = c.room_after-room.result in
    let is = read_is old c.args.block held.0 h held.1 at u c.in-Some.ensures.read in
    let here = read_held old c.args.block held.0 h held.1 at u c.in-Some.ensures.read in
    let room_is = c.room_after-room.ensures.room 1 h here in
    let b = has_following old at u room h here room_is in
    subst (λ p. Gives 1 old new p) is.0
    (elim c.match-free_before.branch [
      | in-Some-free_before w ↦
          let gap = w.in-Some-free_before.gap in
          let found = w.in-Some-free_before.ensures in
          let gap_is = subst (λ p. IsGapAt (p + 16 * u) room b.ms) (sym found.bounds.0) (b.alone, b.there) in
          let makes = subst (λ (v : Placement). MakesGapWith v.bytes new gap.at (gap.units + u) room) w.w-is
          (subst (λ (whole : Block). MakesGapWith c.match-free_before.w.bytes new whole.at whole.units room) w.whole-is c.release_joined.ensures.tiles) in
          freed_joined old at u room h here room_is new b gap found.read found.none found.bounds.0
          (λ xs t. both-retiles old w.take_out.new.w.bytes new xs b.ms b.rest gap.at gap.units u room gap_is t (w.take_out.ensures.leaves h.small) makes)
      | in-None w ↦
          let makes = subst (λ (v : Placement). MakesGapWith v.bytes new at u room) w.w-is
          (subst (λ (whole : Block). MakesGapWith c.match-free_before.w.bytes new whole.at whole.units room) w.whole-is c.release_joined.ensures.tiles) in
          freed_alone old at u room h here room_is new b w.in-None.ensures.read
          (after-retiles old new (before old at u h here) b.ms b.rest at u room (b.alone, b.there) b.tiling makes)
    ])
