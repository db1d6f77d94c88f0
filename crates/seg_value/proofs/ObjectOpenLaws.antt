-- A block with an object is taken from the waiting ones. What its value owns is all that is freed with it.
use Rattle.std.proofs.Common.{◌≡◌, ℕ, ◌+◌, ◌*◌, ◌≤◌, ⊎_elim, List, [], ◌∷◌, ◌++◌, length, Option, refl, sym, ap, ◌∙◌, subst, arith}
use Rattle.std.proofs.lemmas.List.{append-nil}
use Rattle.seg_spec.specs.Types.{Table, IsTable, size}
use Rattle.seg_spec.specs.Heap.{tag_at, live, heap_start}
use Rattle.seg_spec.specs.Block as block
use Rattle.seg_spec.specs.Block.{tag_of, IsInside, block_of, payload_size}
use Rattle.seg_spec.specs.Reads.{Place}
use Rattle.seg_spec.specs.Sound.{times, SameBlocks, positions}
use Rattle.seg_spec.specs.Owing.{IsPart, AreParts, no_parts, more_parts, entries_at, OwesLinks, no_links}
use Rattle.seg_spec.specs.Frozen.{Frozen}
use Rattle.seg_spec.specs.Destroying.{AreLive, GoesWith, Awaits}
use Rattle.seg_spec.proofs.Tables.TypeSizeLaws.{size_large}
use Rattle.seg_spec.proofs.Heap.LiveBlockLaws.{times-append, times-same, LiesIn, live-lie, there}
use Rattle.seg_spec.proofs.Deallocation.DestructionLaws.{awaits_names}
use Rattle.seg_block.specs.declared.tag.Kind.TheVariants as kind
use Rattle.seg_cells.specs.Contents.{IsContent}
use Rattle.seg_cells.specs.declared.content.Content.{Content}
use Rattle.seg_cells.specs.declared.content.Shape.TheVariants as shape
use Rattle.seg_cells.specs.declared.entry.Held.TheVariants as held
use Rattle.seg_value.specs.Waiting.{AddsIn, IsOpened}
use Rattle.seg_value.proofs.WaitingOpenLaws.{Parted, parted, HasEntries}

module _ (bytes : List ℕ) (table : Table) (valid : IsTable table) (p t : ℕ) where
  abbrev content : Content
  content = record {
    shape = shape.Object;
    tag = record { kind = kind.Object; type_id = t };
    entry = record { size = size table t; before = 0; held = held.Value t; some = (let large = size_large table valid t in omega arith) };
  }

  pub record HasValue (xs ns : List ℕ) : Type 0 where
    pub us : List ℕ
    pub vs : List ℕ
    pub xs_are : SameBlocks xs (block_of p ∷ us)
    pub ns_are : SameBlocks ns vs
    pub low : 16 ≤ p
    pub room : size table t ≤ payload_size bytes (block_of p)
    pub part : IsPart bytes table (record { at = p; type = t }) us vs

  one_part : (place : Place) (us vs : List ℕ) → AreParts bytes table (place ∷ []) us vs → IsPart bytes table place us vs
  one_part place us vs (more_parts {blocks = bs} {names = ms} first no_parts) = rw (append-nil bs, append-nil ms) first

  entry_value : (us vs : List ℕ) → HasEntries bytes table valid p content us vs → IsPart bytes table (record { at = p; type = t }) us vs × (size table t ≤ payload_size bytes (block_of p))
  entry_value us vs e =
      let zero : 0 ≡ e.before = e.entry_is.before_is in
      let same : t ≡ e.U = (let held_is = e.entry_is.held_is in cc) in
      let one : e.n ≡ 1 = ⊎_elim (λ b. let never = b.0 in cc) (λ o. o.1) e.count in
      let zero_off : p + 0 ≡ p = omega arith in
      let parts : AreParts bytes table (entries_at table p 0 t 1) us vs =
      subst (λ n. AreParts bytes table (entries_at table p 0 t n) us vs) one
      (subst (λ u. AreParts bytes table (entries_at table p 0 u e.n) us vs) (sym same) (subst (λ b. AreParts bytes table (entries_at table p b e.U e.n) us vs) (sym zero) e.parts)) in
      let fits : 1 * (0 + size table t) ≤ payload_size bytes (block_of p) =
      subst (λ n. n * (0 + size table t) ≤ payload_size bytes (block_of p)) one
      (subst (λ u. e.n * (0 + size table u) ≤ payload_size bytes (block_of p)) (sym same) (subst (λ b. e.n * (b + size table e.U) ≤ payload_size bytes (block_of p)) (sym zero) e.fits)) in
      (one_part (record { at = p; type = t }) us vs (subst (λ at. AreParts bytes table (record { at = at; type = t } ∷ []) us vs) zero_off parts), omega arith)

  value_of : (xs ns : List ℕ) → tag_at bytes (block_of p) ≡ tag_of block.Kind.object t → GoesWith bytes table p xs ns → HasValue xs ns
  value_of xs ns tag goes =
      let is_object : IsContent table shape.Object (tag_of block.Kind.object t) 0 t content = record { shape_is = refl; tag_is = refl; entry_is = record { size_is = omega arith; before_is = refl; held_is = refl } } in
      go (parted bytes table valid p content kind.Object t xs ns tag is_object goes)
    where
      no_links_owed : (bs ws : List ℕ) → OwesLinks bytes table [] bs ws → (bs ≡ []) × (ws ≡ [])
      no_links_owed bs ws no_links = (refl, refl)

      go : Parted bytes table valid p content xs ns → HasValue xs ns
      go q =
          let none = no_links_owed q.bs q.ws q.shows.links in
          let value = ⊎_elim (λ text. let never = text.0 in cc) (entry_value q.us q.vs) q.shows.entries in
          record {
            us = q.us;
            vs = q.vs;
            xs_are = subst (λ bs. SameBlocks xs (block_of p ∷ bs)) (ap (λ bs. q.us ++ bs) none.0 ∙ append-nil q.us) q.xs_are;
            ns_are = subst (λ ms. SameBlocks ns ms) (ap (λ ms. q.vs ++ ms) none.1 ∙ append-nil q.vs) q.ns_are;
            low = q.shows.low;
            room = value.1;
            part = value.0;
          }

  module _ (allocator : ℕ) (new : List ℕ) (f k : Option ℕ) (xs ns ys names : List ℕ) (kept : List Place) (theirs : ℕ → List ℕ) (final : List Frozen) (v : HasValue xs ns)
      (w : Awaits allocator bytes table f ys (ns ++ names) kept theirs final) (fits : AreLive bytes (xs ++ ys)) where
    counts : (h : ℕ) → times h (block_of p ∷ (v.us ++ ys)) ≤ times h (positions (live bytes))
    counts h = let a = fits h in let b = times-append h xs ys in let c = v.xs_are h in let d = times-append h v.us ys in omega arith

    inside : IsInside bytes (block_of p) p (size table t)
    inside =
        let c = counts (block_of p) in
        let o = times-same (block_of p) (v.us ++ ys) in
        let home_live : 1 ≤ times (block_of p) (positions (live bytes)) = omega arith in
        let lies = there (LiesIn bytes heap_start (length bytes)) (block_of p) (positions (live bytes)) (live-lie bytes allocator w.beside.pends.heap) home_live in
        let low = v.low in
        let room = v.room in
        let l = lies.size in
        record { low = omega arith; high = omega arith }

    opened_by : ((home : ℕ) (us vs : List ℕ) → IsInside bytes home p (size table t) → IsPart bytes table (record { at = p; type = t }) us vs → AddsIn bytes new table f k (home ∷ []) us vs)
        → IsOpened allocator bytes new table k p xs ys names kept theirs final
    opened_by adds = record {
      rest = v.us;
      xs_are = v.xs_are;
      adds = adds (block_of p) v.us v.vs inside v.part allocator ys names kept theirs final valid
          (awaits_names allocator bytes table f ys (ns ++ names) (v.vs ++ names) kept theirs final (λ h. omega (arith, v.ns_are h, times-append h ns names, times-append h v.vs names)) w) counts;
    }

-- an object is opened by adding its value
pub object_opened : (bytes : List ℕ) (table : Table) (p t : ℕ) (xs ns : List ℕ) (new : List ℕ) (f k : Option ℕ) → tag_at bytes (block_of p) ≡ tag_of block.Kind.object t → GoesWith bytes table p xs ns
    → ((home : ℕ) (us vs : List ℕ) → IsInside bytes home p (size table t) → IsPart bytes table (record { at = p; type = t }) us vs → AddsIn bytes new table f k (home ∷ []) us vs)
    → (allocator : ℕ) (ys names : List ℕ) (kept : List Place) (theirs : ℕ → List ℕ) (final : List Frozen) → IsTable table → Awaits allocator bytes table f ys (ns ++ names) kept theirs final
    → AreLive bytes (xs ++ ys) → IsOpened allocator bytes new table k p xs ys names kept theirs final
object_opened bytes table p t xs ns new f k tag goes adds allocator ys names kept theirs final valid w fits =
    opened_by bytes table valid p t allocator new f k xs ns ys names kept theirs final (value_of bytes table valid p t xs ns tag goes) w fits adds
