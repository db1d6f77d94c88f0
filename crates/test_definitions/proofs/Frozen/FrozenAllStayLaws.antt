-- An instruction that changes no block of a frozen object: all frozen objects stay.
use Rattle.std.proofs.Common.{◌≡◌, ℕ, ◌%◌, ◌≤◌, List, Some, ap, arith}
use Rattle.seg_spec.specs.Heap.{live, tag_at}
use Rattle.seg_spec.specs.Block.{block_of}
use Rattle.seg_spec.specs.Reads.{Place, Holds}
use Rattle.seg_spec.specs.Value.{Value}
use Rattle.seg_spec.specs.Index.{Root}
use Rattle.seg_spec.specs.Frozen.{Frozen, root_of_frozen}
use Rattle.seg_spec.specs.Sound.{HoldsRoot, times, positions}
use Rattle.seg_spec.proofs.Frozen.ReleaseLaws.{frozen_there}
use Rattle.seg_spec.proofs.Heap.LiveBlockLaws.{times-same}
use Rattle.client_spec.specs.Machine.{Path, State, at_origin}
use Rattle.client_spec.specs.Pictures.{Pictures, LeadsInImage}
use Rattle.client_spec.specs.Ties.{spot_of, KeepsBut, FrozenKept}
use Rattle.test_definitions.proofs.ValueChanges.ChangedPlaceLaws.{KeepsOwners, beside_frozen, its_owned, its_within, once}
use Rattle.test_definitions.proofs.Frozen.FreedBlockLaws.{frozen_by, its_fewer}
use Rattle.test_definitions.proofs.Frozen.FrozenOrderLaws.{IsOneOf, each_of}
use Rattle.test_definitions.proofs.Rows.OneFrozenLaws.{of_frozen, is_there}
use Rattle.test_definitions.proofs.Frozen.ReachedFrozenLaws.{StandsAt}

module _ {others : List Root} {s s' : State} {old : List ℕ} (p : Pictures others s old) (new : List ℕ) (path : Path) (place : Place) (l : LeadsInImage p path place) (found : Value × ℕ) (begins : at_origin s path.origin ≡ Some found)
    {value : Value} (its : List ℕ) (holds_it : Holds old p.picture.table place value its) (kept : KeepsOwners p new place its) (p' : Pictures others s' new) (whole : KeepsBut old new (spot_of p.picture.table place) its)
    (frozen : FrozenKept old new p.picture.table p.picture.frozen p'.picture.frozen) (lives : (h : ℕ) → 1 ≤ times h (positions (live old)) → times h its ≡ 0 → 1 ≤ times h (positions (live new))) where
  pub all_stay : (f : Frozen) → IsOneOf f p.picture.frozen → StandsAt f.at p'.picture.frozen
  all_stay f i =
      let h = block_of f.at in
      let apart = beside_frozen p new path place l found begins its holds_it kept in
      let o = frozen_there old p.picture.table f (frozen.theirs f.at) (each_of (λ (x : Frozen). HoldsRoot old p.picture.table (root_of_frozen x) (frozen.theirs x.at)) f p.picture.frozen i frozen.holds) in
      let mine = ap (times h) o.blocks_are in
      let all = ap (times h) (frozen_by old p.picture.table frozen.theirs p.picture.frozen apart.frozen apart.holds_frozen frozen.holds) in
      let some : 1 ≤ times h apart.frozen = omega (arith, mine, times-same h o.inside, its_fewer frozen.theirs f p.picture.frozen i h, all) in
      let was_live : 1 ≤ times h (positions (live old)) = omega (arith, some, apart.counts h) in
      let none : times h its ≡ 0 = omega
      (arith, some, apart.counts h, its_within p new path place l found begins its holds_it kept h, its_owned p new path place l found begins its holds_it kept h, once p new path place l found begins its holds_it kept h) in
      let same_tag : tag_at new h ≡ tag_at old h = (whole h was_live none).header.has_tag in
      let tag : tag_at new h % 256 ≡ 7 = (let t = o.block.has_tag in omega (arith, same_tag, t)) in
      let now = of_frozen new p'.picture p'.held h (lives h was_live none) tag in
      let there_is = is_there new p'.picture p'.held now.object now.among in
      let its_block = (frozen_there new p'.picture.table now.object there_is.its there_is.holds).block.after_header in
      record { object = now.object; among = now.among; at_is = omega (arith, now.block_is, its_block, o.block.after_header) }
