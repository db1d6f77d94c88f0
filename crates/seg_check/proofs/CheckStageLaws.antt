-- The facts that follow from each stage of the check of an image's content.
use Rattle.std.proofs.Common.{◌≡◌, ℕ, ◌+◌, ◌≤◌, refl, arith, [], map, List, Result, Ok, Err, sym, subst}
use Rattle.std.specs.Prelude.{MatchResult}
use Rattle.seg_spec.specs.Types.{Table}
use Rattle.seg_spec.specs.Images.{IsSound}
use Rattle.seg_spec.specs.Heap.{live}
use Rattle.seg_spec.specs.Sound.{times, positions}
use Rattle.seg_check.specs.Owners.{HoldsOnce}
use Rattle.seg_check.specs.declared.fault.ContentFault.{ContentFault}
use Rattle.seg_check.specs.declared.fault.ContentFault.TheVariants.{Memory, BadIndex, BadPointer, DoubleOwner, BadValue}
use Rattle.seg_check.specs.ContentFaults.{fault_of}
use Rattle.seg_spec.specs.Faulty.{HasFront}
use Rattle.seg_check.specs.Claiming.{Refutes}
use Rattle.seg_check.specs.Positions.{in_frozen, LacksAt, IsFaultAt}
use Rattle.seg_check.specs.Marks.{Known}
use Rattle.seg_check.specs.Turns.{AreWaiting, frozen_place}
use Rattle.seg_check.specs.Resolving.{IsReady}
use Rattle.seg_check.specs.Cells.{Owned, CanResolveAll, AreCountsRight}
use Rattle.seg_check.specs.Roots.{uniques_ahead, ResolvesIndex, CanResolveIndex, CanResolveRoots, AdvancesIndex, AdvancesUniques}
use Rattle.seg_check.specs.Stations.{KnowsHeap, FindsOwners}
use Rattle.seg_check.proofs.Heap.HeapLaws.{ready_known}
use Rattle.seg_check.proofs.Queue.QueueStepLaws.{refuses_map, ready_found}
use Rattle.seg_check.proofs.WholeImageLaws.{sound_once, image_read, roots_can, are_waiting, image_can, image_end, all_owned, some_unowned, first_unowned, counted_last, counts_last}

module _ (bytes : List ℕ) (table : Table) where
  -- a fault that refutes a fact about images in which no block has several owners
  pub finds_wrong : {A : Type 0} (new : Known) (P : Type 0) → (HoldsOnce bytes → P) → (result : Result A ContentFault) (e : ContentFault) → Refutes e P × LacksAt bytes table e → (x : ContentFault) × (result ≡ Err x) × (x ≡ e)
      → FindsOwners bytes table new result
  finds_wrong {A = A} new P lead result e refused r =
      let once = refuses_map e P (HoldsOnce bytes) lead refused.0 in
      subst (λ (x : Result A ContentFault). FindsOwners bytes table new x) (sym r.1)
      (subst (λ f. Refutes f (IsSound bytes) × Refutes f (HoldsOnce bytes) × LacksAt bytes table f) (sym r.2) (refuses_map e (HoldsOnce bytes) (IsSound bytes) (sound_once bytes) once, once, refused.1))

  module _ (first : Known) (heap : KnowsHeap bytes table first) where
    pub first_ready : IsReady bytes table first
    first_ready = ready_known bytes table heap.front heap.tiles heap.free first heap.knows heap.room

    pub first_can : HoldsOnce bytes → CanResolveIndex bytes table first
    first_can (left, but) =
        let r = image_read bytes table first heap.front heap.tiles heap.free heap.knows left but in
        record {
          left = left;
          places = map (frozen_place bytes) r.blocks;
          found = r.found;
          resolves = subst (λ k. ResolvesIndex bytes table k first.unclaimed left (map (frozen_place bytes) r.blocks) r.found) (sym heap.knows.no_limit) r.index;
        }

    module _ (second : Known) (index : AdvancesIndex bytes table first second) where
      pub second_ready : IsReady bytes table second
      second_ready = ready_found bytes table first second [] first_ready index.within index.finds

      pub second_can : HoldsOnce bytes → CanResolveRoots bytes table second uniques_ahead
      second_can s = roots_can bytes table first heap.front heap.tiles heap.free heap.knows second second index s

      module _ (third : Known) (uniques : AdvancesUniques bytes table second third) where
        pub third_ready : IsReady bytes table third
        third_ready = ready_found bytes table second third [] second_ready uniques.within uniques.finds

        pub third_waits : AreWaiting bytes table third.turns
        third_waits = are_waiting bytes table first heap.front heap.tiles heap.free heap.knows second third index uniques

        pub third_can : HoldsOnce bytes → CanResolveAll bytes table third
        third_can (left, but) = image_can bytes table first heap.front heap.tiles heap.free heap.knows second third index uniques left but

        -- the result of the check of counts
        pub finds_counts : {A : Type 0} (last : Known) → Owned bytes table third last → (result : Result A ContentFault)
            → MatchResult result (λ _. AreCountsRight bytes last) (λ f. Refutes f (AreCountsRight bytes last) × ((block : ℕ) × (f ≡ BadValue (block + 16)) × (1 ≤ times block last.naming.named))) → FindsOwners bytes table last result
        finds_counts last values (Ok x) right = record {
          counted = counted_last bytes table first heap.front heap.tiles heap.free heap.knows second third index uniques last values;
          all_owned = all_owned bytes table first heap.front heap.tiles heap.free heap.knows second third index uniques last values right;
          some_unowned = some_unowned bytes table first heap.front heap.tiles heap.free heap.knows second third index uniques last values right;
          first_unowned = first_unowned bytes table first heap.front heap.tiles heap.free heap.knows second third index uniques last values right;
        }
        finds_counts last values (Err f) refused =
            let once = refuses_map f (AreCountsRight bytes last) (HoldsOnce bytes) (λ (left, but). (image_end bytes table first heap.front heap.tiles heap.free heap.knows second third index uniques last values left but).right) refused.0 in
            let named = refused.1 in
            let frozen = (counts_last bytes table first heap.front heap.tiles heap.free heap.knows second third index uniques last values).frozen named.0 named.2 in
            let there : 1 ≤ times named.0 (positions (live bytes)) = omega (arith, named.2, values.standing_kept named.0 frozen, third_ready.standing named.0) in
            (refuses_map f (HoldsOnce bytes) (IsSound bytes) (sound_once bytes) once, once, subst (LacksAt bytes table) (sym named.1) (in_frozen named.0 refl frozen there))

-- a fault of the content as a fault of the image
pub content_at : (bytes : List ℕ) (table : Table) → HasFront bytes table → (e : ContentFault) → LacksAt bytes table e → IsFaultAt bytes (fault_of e)
content_at bytes table front Memory lacks = tt
content_at bytes table front (BadIndex at) lacks = (table, front, lacks)
content_at bytes table front (BadPointer at) lacks = (table, front, lacks)
content_at bytes table front (DoubleOwner at) lacks = (table, front, lacks)
content_at bytes table front (BadValue at) lacks = (table, front, lacks)
