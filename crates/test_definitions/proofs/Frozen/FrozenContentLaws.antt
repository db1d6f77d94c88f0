-- A frozen object whose blocks are kept, except for its count, keeps its content.
use Rattle.std.proofs.Common.{◌≡◌, ℕ, ◌+◌, ◌≤◌, inl, inr, List, [], ◌∷◌, sym, ap, ◌∙◌, subst, arith}
use Rattle.std.specs.List.{AllByRecursion}
use Rattle.seg_spec.specs.Bytes.{word}
use Rattle.seg_spec.specs.Types.{Table, IsTable, size}
use Rattle.seg_spec.specs.Heap.{IsHeap, live, tag_at}
use Rattle.seg_spec.specs.Block.{KeepsBlock, block_of, payload_size}
use Rattle.seg_spec.specs.Apart.{KeepsBlockAround}
use Rattle.seg_spec.specs.Reads.{Place, Holds}
use Rattle.seg_spec.specs.Frozen.{Frozen}
use Rattle.seg_spec.specs.Sound.{times, positions}
use Rattle.seg_spec.proofs.Heap.LiveBlockLaws.{OneOrApart, times-same, times-append, there, each_there, live-apart, live-once}
use Rattle.seg_spec.proofs.Values.OneValueLaws.{Holds-one}
use Rattle.seg_spec.proofs.Values.PlaceFrameLaws.{SamePlace, word-same, Holds-kept}
use Rattle.seg_spec.proofs.Frozen.ReleaseLaws.{IsFrozenThere}
use Rattle.test_definitions.proofs.Frozen.FrozenStayLaws.{SameContent}

module _ (allocator : ℕ) (old new : List ℕ) (table : Table) (valid : IsTable table) (heap : IsHeap allocator old) (f : Frozen) (mine : List ℕ) (o : IsFrozenThere old table f mine)
    (owned : (h : ℕ) → times h mine ≤ times h (positions (live old))) (kept : AllByRecursion (KeepsBlockAround old new f.at 4) mine) where
  own : ℕ
  own = block_of f.at

  split_off : (h : ℕ) → times h mine ≡ times h (block_of f.at ∷ []) + times h o.inside
  split_off h = ap (times h) o.blocks_are ∙ times-append h (block_of f.at ∷ []) o.inside

  header_live : 1 ≤ times (block_of f.at) (positions (live old))
  header_live = omega (arith, owned (block_of f.at), split_off (block_of f.at), times-same (block_of f.at) [])

  around : (h : ℕ) → 1 ≤ times h mine → KeepsBlockAround old new f.at 4 h
  around h some = there (KeepsBlockAround old new f.at 4) h mine kept some

  header_around : KeepsBlockAround old new f.at 4 (block_of f.at)
  header_around = around (block_of f.at) (omega (arith, split_off (block_of f.at), times-same (block_of f.at) []))

  -- the blocks of the value are whole
  inside_whole : (h : ℕ) → 1 ≤ times h o.inside → KeepsBlock old new h
  inside_whole h some = by (there (OneOrApart old (block_of f.at)) h (positions (live old))
      (there (λ s. AllByRecursion (OneOrApart old s) (positions (live old))) (block_of f.at) (positions (live old)) (live-apart old allocator heap) header_live) h_live)
    where
      k : KeepsBlockAround old new f.at 4 h
      k = around h (omega (arith, split_off h, some))

      h_live : 1 ≤ times h (positions (live old))
      h_live = omega (arith, split_off h, some, owned h)

      by : OneOrApart old (block_of f.at) h → KeepsBlock old new h
      by (inl same) = absurd (
          let twice : 1 ≤ times (block_of f.at) o.inside = subst (λ x. 1 ≤ times x o.inside) same some in
          omega (arith, twice, split_off (block_of f.at), times-same (block_of f.at) [], owned (block_of f.at), live-once old allocator heap (block_of f.at)))
      by (inr (inl low)) = record {
        live = k.header.live;
        has_tag = k.header.has_tag;
        room = k.header.room;
        payload = k.payload (h + 16) (payload_size old h) (omega arith) (omega arith) (inr (omega (arith, low, o.block.room, o.block.after_header)));
      }
      by (inr (inr high)) = record {
        live = k.header.live;
        has_tag = k.header.has_tag;
        room = k.header.room;
        payload = k.payload (h + 16) (payload_size old h) (omega arith) (omega arith) (inl (omega (arith, high, k.solid, o.block.after_header)));
      }

  pub inside_kept : AllByRecursion (KeepsBlock old new) o.inside
  inside_kept = each_there (KeepsBlock old new) o.inside inside_whole

  pub value_same : SamePlace old new table (record { at = f.at + 8; type = f.type })
  value_same = header_around.payload (f.at + 8) (size table f.type) (omega (arith, o.block.after_header)) (omega (arith, o.block.room, o.block.after_header)) (inr (omega arith))

  -- the value of an object of the new image at this position, and its blocks
  both : (g : Frozen) (theirs : List ℕ) → g.at ≡ f.at → g.type ≡ f.type → (q : IsFrozenThere new table g theirs) → (f.value ≡ g.value) × (o.inside ≡ q.inside)
  both g theirs at types q =
      let then = Holds-kept old new table valid o.value value_same inside_kept in
      let place : ◌≡◌ {A = Place} (record { at = g.at + 8; type = g.type }) (record { at = f.at + 8; type = f.type }) = λ i. record { at = at i + 8; type = types i } in
      Holds-one new table then (subst (λ p. Holds new table p g.value q.inside) place q.value)

  -- an object of the new image at this position
  pub same_content : (g : Frozen) (theirs : List ℕ) → g.at ≡ f.at → IsFrozenThere new table g theirs → SameContent f g
  same_content g theirs at q =
      let tags = sym o.block.has_tag ∙ sym header_around.header.has_tag ∙ ap (λ p. tag_at new (block_of p)) (sym at) ∙ q.block.has_tag in
      let types : g.type ≡ f.type = omega (arith, tags) in
      let number_kept : word new (f.at + 4) ≡ word old (f.at + 4)
      = word-same old new (f.at + 4) (header_around.payload (f.at + 4) 4 (omega (arith, o.block.after_header)) (omega (arith, o.block.room, o.block.after_header)) (inr (omega arith))) in
      let numbers : g.number ≡ f.number = sym q.number_is ∙ ap (λ p. word new (p + 4)) at ∙ number_kept ∙ o.number_is in
      let values = (both g theirs at types q).0 in
      record { at = at; type = types; number = numbers; value = sym values }

  pub same_blocks : (g : Frozen) (theirs : List ℕ) → g.at ≡ f.at → IsFrozenThere new table g theirs → theirs ≡ mine
  same_blocks g theirs at q = q.blocks_are ∙ ap (λ p. block_of p ∷ q.inside) at ∙ ap (λ xs. block_of f.at ∷ xs) (sym (both g theirs at (same_content g theirs at q).type q).1) ∙ sym o.blocks_are
