-- An own gets a new object in a new block, and its previous object is destroyed.
use Rattle.std.proofs.Common.{◌≡◌, ◌≢◌, ℕ, ◌+◌, ◌≤◌, ◌⊎◌, inl, inr, List, [], ◌∷◌, ◌++◌, length, Some, sym, ◌∙◌, subst, arith, add-zero}
use Rattle.std.proofs.lemmas.Bool.{cases_eq}
use Rattle.seg_spec.specs.Types.{Form, Table, form_at, size}
use Rattle.seg_spec.specs.Value.{Value, default_of}
use Rattle.seg_spec.specs.Heap.{IsHeap, heap_start, live}
use Rattle.seg_spec.specs.Block.{Kind, tag_of, IsOwnable, block_of}
use Rattle.seg_spec.specs.Reads.{Place}
use Rattle.seg_spec.specs.Sound.{times, positions}
use Rattle.seg_spec.specs.Owning.{Stands}
use Rattle.seg_spec.specs.Calls.{IsLoose}
use Rattle.seg_spec.specs.Demand.{need, block_for, after_asks}
use Rattle.seg_spec.specs.Clearing.{SharedBeside, BesideShared}
use Rattle.seg_spec.specs.Frozen.{Frozen, blocks_by}
use Rattle.seg_spec.specs.Shared.{named_in}
use Rattle.seg_spec.proofs.Heap.BlockFrameLaws.{around_twice, around_kept}
use Rattle.seg_spec.proofs.Heap.LiveBlockLaws.{LiesIn, there, live-lie, times-other, times-more, times-append}
use Rattle.seg_spec.proofs.Frozen.FrozenBlockLaws.{hold_kept, frozen_twice, frozen_kept, left_fewer}
use Rattle.seg_spec.proofs.Heap.RequestLaws.{counts_one}
use Rattle.seg_spec.proofs.Values.CallPlaceLaws.{each_live_at, live_at, stands_still, still_home}
use Rattle.seg_value.specs.Contents.{GivesBlock}
use Rattle.seg_value.specs.CellPlaces.{object_at}
use Rattle.seg_value.specs.Places.{SetsOwn}
use Rattle.seg_image.specs.Owners.{PutsNew}

module _ (allocator : ℕ) (old mid new : List ℕ) (table : Table) (own : Place) (U at : ℕ) (v : Value) (blocks : List ℕ)
    (form : form_at table own.type ≡ Some (Form.own U)) (s : Stands allocator old table own v blocks) (given : GivesBlock allocator old mid table (tag_of Kind.object U) 0 U at) where
  counts : (h : ℕ) → times h (positions (live mid)) ≡ times h (block_of at ∷ positions (live old))
  counts h = counts_one allocator (live old) (live mid) (length old) (need (0 + size table U)) given.granted_is (block_of at) given.was_free given.now_live h

  ownable_at : (h : ℕ) → 1 ≤ times h (positions (live mid)) → IsOwnable mid table h
  ownable_at h some = go (cases_eq (block_of at) h)
    where
      go : (block_of at ≡ h) ⊎ (block_of at ≢ h) → IsOwnable mid table h
      go (inl e) = subst (λ x. IsOwnable mid table x) e (record {
        kind = Kind.object;
        type = U;
        allowed = s.is_table.forms own.type (Form.own U) form;
        tag_is = given.is_block.has_tag;
        link_is = given.link_is;
      })
      go (inr other) =
          let c = counts h in
          let t = times-other h (block_of at) (positions (live old)) other in
          let some_old : 1 ≤ times h (positions (live old)) = omega arith in
          let k = given.kept h some_old in
          let o = live_at (IsOwnable old table) (live old) h s.ownable some_old in
          record { kind = o.kind; type = o.type; allowed = o.allowed; tag_is = k.0.has_tag ∙ o.tag_is; link_is = k.1 ∙ o.link_is }

  more : (h : ℕ) → times h (positions (live old)) ≤ times h (positions (live mid))
  more h = rw (counts h) (let x = times-more h (block_of at) (positions (live old)) in omega arith)

  was_live : (h : ℕ) → 1 ≤ times h (s.home ∷ blocks) → 1 ≤ times h (positions (live old))
  was_live h some = omega (arith, s.owned h)

  stands : Stands allocator mid table own v blocks
  stands = stands_still allocator old table own v blocks s mid given.heap given.front_kept (λ h some. (given.kept h (was_live h some)).0)
      (each_live_at (IsOwnable mid table) (live mid) ownable_at) (λ h. let m = more h in let o = s.owned h in omega arith)

  home_is : stands.home ≡ s.home
  unfolding stands
  home_is = still_home allocator old table own v blocks s mid given.heap given.front_kept (λ h some. (given.kept h (was_live h some)).0)
      (each_live_at (IsOwnable mid table) (live mid) ownable_at) (λ h. let m = more h in let o = s.owned h in omega arith)

  granted : after_asks allocator (live old) (length old) (block_for (size table U) ∷ []) ≡ Some (live mid)
  granted = let sized : 0 + size table U ≡ size table U = omega arith in rw sized at given.granted_is

  loose : IsLoose mid table (object_at at U) (default_of table U) []
  loose = record {
    block = let sized : 0 + size table U ≡ size table U = omega arith in rw sized at given.is_block;
    holds_it = rw (add-zero at) at given.value;
    owned = λ h. rw (counts h) (let a = times-append h (block_of at ∷ []) (positions (live old)) in omega arith);
  }

  -- frozen objects are apart from these blocks, and also from the new one
  beside_then : (names : List ℕ) (theirs : ℕ → List ℕ) (kept : List Place) (now final : List Frozen) → SharedBeside old table (s.home ∷ blocks) names theirs kept now final
      → SharedBeside mid table (stands.home ∷ (blocks ++ block_of at ∷ [])) names theirs kept now final
  beside_then names theirs kept now final b =
      let shared_live : (h : ℕ) → 1 ≤ times h (blocks_by theirs now) → 1 ≤ times h (positions (live old)) = λ h some. omega (arith, b.owned h, times-append h (s.home ∷ blocks) (blocks_by theirs now)) in
      record {
        holds = hold_kept old mid table s.is_table theirs now (λ h some. (given.kept h (shared_live h some)).0) b.holds;
        ownable = λ h some. ownable_at h (let m = more h in omega (arith, shared_live h some));
        owned = λ h. subst (λ x. times h ((x ∷ (blocks ++ block_of at ∷ [])) ++ blocks_by theirs now) ≤ times h (positions (live mid))) (sym home_is)
            (let c = counts h in
            let own = times-append h (block_of at ∷ []) (positions (live old)) in
            let all = times-append h (s.home ∷ (blocks ++ block_of at ∷ [])) (blocks_by theirs now) in
            let both = times-append h (s.home ∷ blocks) (block_of at ∷ []) in
            let were = times-append h (s.home ∷ blocks) (blocks_by theirs now) in
            omega (arith, b.owned h));
        releasing = b.releasing;
      }

  pub holds_new : ((w v : Value) (bs inside : List ℕ) → (t : Stands allocator mid table own v bs) → IsLoose mid table (object_at at U) w inside
      → BesideShared mid table (t.home ∷ (bs ++ block_of at ∷ inside)) (named_in v) (SetsOwn mid new table own w bs (block_of at ∷ inside)))
      → BesideShared old table (s.home ∷ blocks) (named_in v) (PutsNew allocator old new table own U blocks at)
  holds_new sets = λ theirs kept now final b.
      let o = sets (default_of table U) v blocks [] stands loose theirs kept now final (beside_then (named_in v) theirs kept now final b) in
      let c = o.clears.changes in
      let mine : List ℕ = block_of at ∷ [] in
      let shared = blocks_by theirs now in
      let still = blocks_by theirs final in
      let fewer : (h : ℕ) → times h still ≤ times h shared = λ h. subst (λ fs. times h (blocks_by theirs fs) ≤ times h shared) b.releasing.leaves (left_fewer theirs b.releasing.pending now h) in
      let shared_live : (h : ℕ) → 1 ≤ times h still → 1 ≤ times h (positions (live old)) = λ h some. omega (arith, fewer h, b.owned h, times-append h (s.home ∷ blocks) shared) in
      record {
        granted = live mid;
        granted_is = granted;
        gives = o.clears.gives;
        gives_are = λ h. omega (
          arith,
          o.clears.all_are h,
          times-append h (blocks ++ mine) shared,
          times-append h blocks mine,
          times-append h blocks shared,
          times-append h o.clears.gives (mine ++ still),
          times-append h mine still,
          times-append h o.clears.gives still,
        );
        changes = record {
          length_kept = c.length_kept ∙ given.length_kept;
          front_kept = c.front_kept ∙ given.front_kept;
          back_kept = c.back_kept ∙ given.back_kept;
          heap = subst (λ a. IsHeap a new) (stands.allocator_is ∙ sym s.allocator_is) c.heap;
          ownable = c.ownable;
          holds_it = c.holds_it;
          live_is = c.live_is;
          live_are = λ h. omega (arith, c.live_are h, counts h, times-append h mine (positions (live old)), times-append h (blocks ++ mine) shared, times-append h blocks mine, times-append h blocks shared, times-append h mine still);
          kept = λ h some none.
              let two = (there (LiesIn old heap_start (length old)) h (positions (live old)) (live-lie old allocator s.heap) some).size in
              let other : times h mine ≡ 0 = times-other h (block_of at) [] (λ e. let free : times h (positions (live old)) ≡ 0 = subst (λ x. times x (positions (live old)) ≡ 0) e given.was_free in absurd (omega arith)) in
              around_twice old mid new own.at (size table own.type) h (around_kept old mid own.at (size table own.type) h (omega arith) (given.kept h some).0)
              (c.kept h (let m = more h in omega arith) (omega (arith, none, other, times-append h (blocks ++ mine) shared, times-append h blocks mine, times-append h blocks shared)));
        };
        shared_kept = frozen_twice old mid new theirs final (frozen_kept allocator old mid s.heap theirs final shared_live (λ h some. (given.kept h (shared_live h some)).0)) o.clears.shared_kept;
        holds = o.clears.holds;
      }
