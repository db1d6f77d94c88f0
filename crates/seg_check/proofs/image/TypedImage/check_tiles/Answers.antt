use Rattle.std.proofs.Common.{◌≡◌, ℕ, ◌+◌, ◌-◌, ◌*◌, ◌/◌, ◌^◌, ◌%◌, ◌<◌, ◌≤◌, Bool, true, false, not, List, ◌∷◌, [], ◌++◌, length, refl, sym, ap, ◌∙◌, subst, arith}
use Rattle.seg_spec.specs.Bytes.{word}
use Rattle.seg_spec.specs.Header.{version_word}
use Rattle.seg_spec.specs.Heap.{Span, span_of, units_at, is_live_at, heap_start}
use Rattle.seg_block.specs.declared.header.Header.{Header}
use Rattle.seg_block.specs.Headers.{header_at}
use Rattle.seg_check.specs.declared.free_list.FreeList.{FreeList}
use Rattle.seg_check.specs.Tiles.{FollowsHeader, KnowsGaps}
use Rattle.seg_check.specs.Marks.{IsUnit, AddsBlock}
use Rattle.seg_check.proofs.Heap.PassedTileLaws.{KnowsPassed, knows_none, knows_more, knows_all, no_live, no_free, no_block}
use Rattle.seg_check.proofs.Heap.TileWalkLaws.{Walked, walked_none, walked_more, walked_all, next_is, fits_is, tile_at, end_at}
use Rattle.seg_check.proofs.image.TypedImage.check_tiles.Goals as goal
use Rattle.seg_check.proofs.image.TypedImage.check_tiles.Goals.{then-units-lt2-via-then-units-lt2, then-units-lt2-via-else-units-lt2+then-units-end}
use Rattle.seg_check.proofs.image.TypedImage.check_tiles.Goals.{then-units-lt2-via-else-units-lt2+else-units-end+then-not-follows, then-not-header, else-not-header}

false_true : (X : Type 0) → false ≡ true → X
false_true X e = absurd (let no : false ≡ true = e in cc)

not_true : (b : Bool) → not b ≡ true → b ≡ false
not_true true e = false_true _ e
not_true false e = refl

not_false : (b : Bool) → not b ≡ false → b ≡ true
not_false true e = refl
not_false false e = false_true _ (sym e)

pub loop-at-init : goal.loop-at-init
loop-at-init g c = λ front.
    let bytes = c.args.self.now.bytes.bytes.now in
    let large = front.header.not_small in
    let w = walked_none bytes c.args.self.now.types.now _ c.new-free_list.result refl refl (c.new-free_list.ensures bytes) (omega arith) in
    (w.0, λ slots new. subst (λ ts. KnowsPassed c.args.claims.now ((length bytes - heap_start) / 16) slots ts) (sym w.1) (knows_none c.args.claims.now ((length bytes - heap_start) / 16) slots new))

-- a header at an aligned position before the end lies in the bytes
whole : (n at : ℕ) → at < n → n % 16 ≡ 0 → at % 16 ≡ 0 → at + 16 ≤ n
whole n at inside n_whole at_whole = omega arith

small : (n at : ℕ) → at + 16 ≤ n → n ≤ 2 ^ 30 → at + 16 < 2 ^ 32
small n at fits few = omega arith

unit_at : (at : ℕ) → heap_start ≤ at → at % 16 ≡ 0 → at ≡ heap_start + 16 * ((at - heap_start) / 16)
unit_at at low aligned = omega arith

unit_inside : (n at : ℕ) → at + 16 ≤ n → heap_start ≤ at → (at - heap_start) / 16 < (n - heap_start) / 16
unit_inside n at fits low = omega arith

pub loop-at-preserved : goal.loop-at-preserved
loop-at-preserved g c = λ front.
    let bytes = c.args.self.now.bytes.bytes.now in
    let table = c.args.self.now.types.now in
    let at = c.loop-at.at in
    let before = c.loop-at.before in
    let w = (c.loop-at.invariant front).0 in
    let len = c.len-end.ensures in
    let inside : at < length bytes = omega (arith, c.loop-at-test.true, len) in
    let fits : at + 16 ≤ length bytes = whole (length bytes) at inside front.header.whole_units w.aligned in
    let is : c.read-header.result ≡ header_at bytes at = c.read-header.ensures.inside fits in
    let units : c.read-header.result.units ≡ units_at bytes at = ap (λ (h : Header). h.units) is in
    let live : c.read-header.result.is_live ≡ is_live_at bytes at = ap (λ (h : Header). h.is_live) is in
    let large : 2 ≤ units_at bytes at = omega (arith, units, c.if-units-lt2.false) in
    let ends : end_at bytes table at ≤ length bytes = omega (arith, units, c.if-units-end.false, len, inside) in
    let tags = c.of-tags.ensures (word bytes version_word) c.shares.ensures front.is_table in
    let next : FollowsHeader (word bytes version_word) table before (header_at bytes at) =
    subst (λ (h : Header). FollowsHeader (word bytes version_word) table before h) is ((c.follows.ensures (word bytes version_word) table tags).0 c.if-not-follows.false) in
    let near : at + 16 < 2 ^ 32 = small (length bytes) at fits front.header.not_large in
    let list = c.if-not-header.free_list in
    let gap : Span = span_of (tile_at bytes table at) in
    let kept : is_live_at bytes at ≡ true → list ≡ c.loop-at.free_list =
    λ e. elim c.if-not-header.branch [
      | then-not-header v ↦ false_true _ (sym (not_true _ v.if-not-header.true) ∙ live ∙ e)
      | else-not-header v ↦ v.free_list-is
    ] in
    let added : is_live_at bytes at ≡ false → (gs : List Span) → KnowsGaps bytes c.loop-at.free_list gs → KnowsGaps bytes list (gs ++ gap ∷ []) =
    λ e gs known. elim c.if-not-header.branch [
      | then-not-header v ↦ subst (λ (l : FreeList). KnowsGaps bytes l (gs ++ gap ∷ [])) (sym v.free_list-is) (v.add-then-not-header.ensures gs gap refl near known)
      | else-not-header v ↦ false_true _ (sym e ∙ sym live ∙ not_false _ v.if-not-header.false)
    ] in
    let more = walked_more bytes table at before c.loop-at.free_list list w inside large ends next kept added in
    let all = subst (λ (h : Header). (m : Walked bytes table (at + 16 * h.units) h list) × (m.passed ≡ w.passed ++ tile_at bytes table at ∷ [])) (sym is) more in
    let unit : IsUnit ((length bytes - heap_start) / 16) at = record { unit = (at - heap_start) / 16; at_is = unit_at at w.low w.aligned; inside = unit_inside (length bytes) at fits w.low } in (
      all.0,
      λ slots new.
          let k = (c.loop-at.invariant front).1 slots new in
          let below = w.tiled.below in
          let adds = c.add.ensures.added (subst (λ n. IsUnit n at) (sym k.units_are) unit) (no_live _ _ _ w.passed k at below) (no_free _ _ _ w.passed k at below) (no_block _ _ _ w.passed k at below) in
          subst (λ ts. KnowsPassed c.add.new.self ((length bytes - heap_start) / 16) slots ts) (sym all.1)
          (knows_more _ _ _ w.passed k at below c.add.new.self (tile_at bytes table at) refl (subst (λ l. AddsBlock c.loop-at.claims at l c.add.new.self) live adds) c.add.ensures.units),
    )

pub returns-then-units-lt2-clause-tiles : goal.returns-then-units-lt2-clause-tiles
returns-then-units-lt2-clause-tiles g c = λ front.
    let bytes = c.args.self.now.bytes.bytes.now in
    let table = c.args.self.now.types.now in
    let at = c.loop-at.at in
    let before = c.loop-at.before in
    let w = (c.loop-at.invariant front).0 in
    let len = c.len-end.ensures in
    let inside : at < length bytes = omega (arith, c.loop-at-test.true, len) in
    let fits : at + 16 ≤ length bytes = whole (length bytes) at inside front.header.whole_units w.aligned in
    let is : c.read-header.result ≡ header_at bytes at = c.read-header.ensures.inside fits in
    let units : c.read-header.result.units ≡ units_at bytes at = ap (λ (h : Header). h.units) is in
    let tags = c.of-tags.ensures (word bytes version_word) c.shares.ensures front.is_table in (
      λ e. false_true _ e,
      λ a.
          let sized = fits_is bytes table w.passed at before w.tiled inside a in
          let next = next_is bytes table w.passed at before w.tiled inside a in
          elim c.then-units-lt2.branch [
            | then-units-lt2-via-then-units-lt2 v ↦ absurd (omega (arith, v.if-units-lt2.true, sized.0, units))
            | then-units-lt2-via-else-units-lt2+then-units-end v ↦ absurd (omega (arith, v.if-units-end.true, sized.1, units, len))
            | then-units-lt2-via-else-units-lt2+else-units-end+then-not-follows v ↦
                false_true _ (sym v.if-not-follows.true ∙ (v.follows.ensures (word bytes version_word) table tags).1 (subst (λ (h : Header). FollowsHeader (word bytes version_word) table before h) (sym is) next))
          ],
    )

pub returns-clause-tiles : goal.returns-clause-tiles
returns-clause-tiles g c = λ front.
    let bytes = c.args.self.now.bytes.bytes.now in
    let w = (c.loop-at.invariant front).0 in
    let len = c.len-end.ensures in
    let end : c.loop-at.at ≡ length bytes = omega (arith, w.high, len, c.loop-at-test.false) in
    (λ e. (walked_all bytes c.args.self.now.types.now c.loop-at.at c.loop-at.before c.loop-at.free_list w end).0, λ a. refl)

pub returns-clause-free_list : goal.returns-clause-free_list
returns-clause-free_list g c = λ front.
    let bytes = c.args.self.now.bytes.bytes.now in
    let w = (c.loop-at.invariant front).0 in
    let len = c.len-end.ensures in
    let end : c.loop-at.at ≡ length bytes = omega (arith, w.high, len, c.loop-at-test.false) in
    (walked_all bytes c.args.self.now.types.now c.loop-at.at c.loop-at.before c.loop-at.free_list w end).1

pub returns-clause-known : goal.returns-clause-known
returns-clause-known g c = λ front slots new.
    let bytes = c.args.self.now.bytes.bytes.now in
    let w = (c.loop-at.invariant front).0 in
    let len = c.len-end.ensures in
    let end : c.loop-at.at ≡ length bytes = omega (arith, w.high, len, c.loop-at-test.false) in
    let all = (walked_all bytes c.args.self.now.types.now c.loop-at.at c.loop-at.before c.loop-at.free_list w end).2 in
    let k = (c.loop-at.invariant front).1 slots new in
    (knows_all bytes c.loop-at.claims _ slots w.passed k all, k.slots_are)
