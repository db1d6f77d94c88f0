use Rattle.std.proofs.Common.{◌+◌, ◌*◌, true, false, ◌∷◌, List, ℕ, refl, sym, ap, ◌∙◌, subst, arith}
use Rattle.seg_spec.specs.Heap.{Gives}
use Rattle.seg_spec.specs.Pointer.{target}
use Rattle.seg_block.specs.Tiling.{tile}
use Rattle.seg_block.proofs.BlockFreeLaws.{has_following, freed_alone, freed_joined}
use Rattle.seg_block.proofs.ResizedBlockLaws.{before, following, was}
use Rattle.seg_seqfit.proofs.TileRangeLaws.{fill_from, link_is}
use Rattle.seg_seqfit.proofs.LentBytesLaws.{lent_bytes, lent_keeps, PutsIn, Widens}
use Rattle.seg_seqfit.proofs.free_list.release_joined.Goals as goal

pub returns-in_default-clause-host : goal.returns-in_default-clause-host
returns-in_default-clause-host g c = lent_keeps c.args.w.now c.bytes_mut.result.now c.put_in.new.bytes c.put_in.ensures.length c.bytes_mut.ensures.value

pub returns-clause-host : goal.returns-clause-host
returns-clause-host g c = lent_keeps c.args.w.now c.bytes_mut-2.result.now c.widen.new.bytes c.widen.ensures.length c.bytes_mut-2.ensures.value

pub returns-in_default-clause-gives : goal.returns-in_default-clause-gives
returns-in_default-clause-gives g c = λ h held.
    let old = c.args.w.now.bytes in
    let at = c.args.block.at in
    let u = c.args.block.units in
    let room = c.room_after-room.result in
    let room_is = c.room_after-room.ensures.room 0 h held in
    let b = has_following old at u room h held room_is in
    let link = c.link_before-link.result in
    let next = c.target-next.ensures ∙ ap (target old) (link_is old at u room h held room_is b link c.link_after.result c.link_after.ensures.alone c.link_after.ensures.following) in
    let new = c.put_in.new.bytes in
    let written = lent_bytes c.args.w.now c.bytes_mut.result.now new c.put_in.ensures.length c.bytes_mut.ensures.value in
    let puts = subst (λ (bs : List ℕ). PutsIn bs new link at (u + room) c.target-next.result) c.bytes_mut.ensures.value c.put_in.ensures.tiles in
    subst (λ (bs : List ℕ). Gives 0 old bs at) (sym written)
    (freed_alone old at u room h held room_is new b c.in_default.ensures.read
    (puts (before old at u h held) b.ms b.rest (tile at u true)
    (c.link_before-link.ensures (before old at u h held) (following old at u h held) true (was old at u h held)) b.tiling
    (fill_from old at u room h held room_is b at _ refl refl) next))

pub returns-clause-gives : goal.returns-clause-gives
returns-clause-gives g c = λ h held.
    let old = c.args.w.now.bytes in
    let at = c.args.block.at in
    let u = c.args.block.units in
    let gap = c.in-Some.gap in
    let found = c.in-Some.ensures in
    let room = c.room_after-room.result in
    let room_is = c.room_after-room.ensures.room 0 h held in
    let b = has_following old at u room h held room_is in
    let next = c.target-next-2.ensures ∙ ap (target old) (link_is old at u room h held room_is b (gap.at + 12) c.link_after-2.result c.link_after-2.ensures.alone c.link_after-2.ensures.following) in
    let new = c.widen.new.bytes in
    let written = lent_bytes c.args.w.now c.bytes_mut-2.result.now new c.widen.ensures.length c.bytes_mut-2.ensures.value in
    let widens = subst (λ (bs : List ℕ). Widens bs new gap.at (gap.units + u + room) c.target-next-2.result) c.bytes_mut-2.ensures.value c.widen.ensures.tiles in
    subst (λ (bs : List ℕ). Gives 0 old bs at) (sym written)
    (freed_joined old at u room h held room_is new b gap found.read found.none found.bounds.0
    (λ zs t. widens zs (tile (gap.at + 16 * gap.units) u true ∷ b.ms) b.rest (tile gap.at gap.units false) refl t
    (refl, found.bounds.1, fill_from old at u room h held room_is b (gap.at + 16 * gap.units) _ found.bounds.0 (omega (arith, found.bounds))) next))
