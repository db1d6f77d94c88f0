-- A list before its new node is linked: the node's block is allocated, and differs from all blocks
-- before.
use Rattle.std.proofs.Common.{◌≡◌, ◌≢◌, ℕ, ◌+◌, ◌≤◌, ◌⊎◌, inl, inr, List, [], ◌∷◌, length, Option, Some, None, refl, sym, ap, ◌∙◌, subst, arith}
use Rattle.std.proofs.lemmas.Bool.{cases_eq}
use Rattle.seg_spec.specs.Types.{Form, Table, form_at, size}
use Rattle.seg_spec.specs.Value.{Value}
use Rattle.seg_spec.specs.Heap.{Span, live, with_block, granted, pick, gaps_of, after_take}
use Rattle.seg_spec.specs.Block.{Kind, tag_of, block_of, IsOwnable, KeepsBlock}
use Rattle.seg_spec.specs.Reads.{Place}
use Rattle.seg_spec.specs.Sound.{times, positions}
use Rattle.seg_spec.specs.Owning.{Stands}
use Rattle.seg_spec.specs.Demand.{need, block_for, after_asks}
use Rattle.seg_spec.specs.Spending.{spent}
use Rattle.seg_spec.proofs.Heap.LiveBlockLaws.{times-other, times-with_block}
use Rattle.seg_spec.proofs.Heap.GrantLaws.{spent_fresh}
use Rattle.seg_spec.proofs.Values.CallPlaceLaws.{each_live_at, live_at, stands_still}
use Rattle.seg_value.specs.Contents.{GivesBlock}

-- the block that was granted, and the allocated blocks including it
record Grants (allocator : ℕ) (bs after : List Span) (end u : ℕ) : Type 0 where
  at : ℕ
  taken : after_take allocator bs end u ≡ Some (at, after)
  counts : (h : ℕ) → times h (positions after) ≡ times h (at ∷ positions bs)

granted_one : (allocator : ℕ) (bs after : List Span) (end n : ℕ) → after_asks allocator bs end (block_for n ∷ []) ≡ Some after → Grants allocator bs after end (need n)
granted_one allocator bs after end n e = go (pick allocator (gaps_of bs end) (need n)) refl
  where
    go : (o : Option Span) → pick allocator (gaps_of bs end) (need n) ≡ o → Grants allocator bs after end (need n)
    go None p = let f : None ≡ Some after = rw p at e in absurd (cc)
    go (Some g) p =
        let f : Some (with_block (record { at = g.at; units = granted g.units (need n) }) bs) ≡ Some after = rw p at e in
        let is : with_block (record { at = g.at; units = granted g.units (need n) }) bs ≡ after = cc in
        record {
          at = g.at;
          taken = rw (p, ← is) refl;
          counts = λ h. ap (λ cs. times h (positions cs)) (sym is) ∙ times-with_block h (record { at = g.at; units = granted g.units (need n) }) bs;
        }

module _ (allocator : ℕ) (old mid : List ℕ) (table : Table) (list : Place) (U payload : ℕ) (f : form_at table list.type ≡ Some (Form.list U)) (v : Value) (blocks : List ℕ) (s : Stands allocator old table list v blocks)
    (given : GivesBlock allocator old mid table (tag_of Kind.node list.type) 8 U payload) where
  grants : Grants allocator (live old) (live mid) (length old) (need (8 + size table U))
  grants = granted_one allocator (live old) (live mid) (length old) (8 + size table U) given.granted_is

  at_is : grants.at ≡ block_of payload
  at_is = go (cases_eq grants.at (block_of payload))
    where
      go : (grants.at ≡ block_of payload) ⊎ (grants.at ≢ block_of payload) → grants.at ≡ block_of payload
      go (inl e) = e
      go (inr ne) =
          let c = grants.counts (block_of payload) in
          let o = times-other (block_of payload) grants.at (positions (live old)) ne in
          let n = given.now_live in
          let w = given.was_free in
          absurd (omega arith)

  pub taken_counts : (h : ℕ) → times h (positions (live mid)) ≡ times h (block_of payload ∷ positions (live old))
  taken_counts h = grants.counts h ∙ ap (λ a. times h (a ∷ positions (live old))) at_is

  pub taken_spent : spent allocator (live old) (length old) (block_for (8 + size table U) ∷ []) [] ≡ Some (live mid)
  taken_spent = spent_fresh allocator (live old) (live mid) (length old) grants.at (block_for (8 + size table U)) (rw grants.taken refl)

  ownable_at : (h : ℕ) → 1 ≤ times h (positions (live mid)) → IsOwnable mid table h
  ownable_at h some = go (cases_eq (block_of payload) h)
    where
      go : (block_of payload ≡ h) ⊎ (block_of payload ≢ h) → IsOwnable mid table h
      go (inl e) = subst (λ x. IsOwnable mid table x) e (record {
        kind = Kind.node;
        type = list.type;
        allowed = rw f refl;
        tag_is = given.is_block.has_tag;
        link_is = given.link_is;
      })
      go (inr other) =
          let c = taken_counts h in
          let t = times-other h (block_of payload) (positions (live old)) other in
          let some_old : 1 ≤ times h (positions (live old)) = omega arith in
          let k = given.kept h some_old in
          let o = live_at (IsOwnable old table) (live old) h s.ownable some_old in
          record { kind = o.kind; type = o.type; allowed = o.allowed; tag_is = k.0.has_tag ∙ o.tag_is; link_is = k.1 ∙ o.link_is }

  taken_kept : (h : ℕ) → 1 ≤ times h (s.home ∷ blocks) → KeepsBlock old mid h
  taken_kept h some = (given.kept h (let o = s.owned h in omega arith)).0

  -- the place still contains its value
  pub taken_stands : Stands allocator mid table list v blocks
  taken_stands = stands_still allocator old table list v blocks s mid given.heap given.front_kept taken_kept (each_live_at (IsOwnable mid table) (live mid) ownable_at)
      (λ h. let c = taken_counts h in let o = s.owned h in omega arith)

  pub taken_home : taken_stands.home ≡ s.home
  unfolding taken_stands
  taken_home = Rattle.seg_spec.proofs.Values.CallPlaceLaws.still_home allocator old table list v blocks s mid given.heap given.front_kept taken_kept (each_live_at (IsOwnable mid table) (live mid) ownable_at)
      (λ h. let c = taken_counts h in let o = s.owned h in omega arith)
