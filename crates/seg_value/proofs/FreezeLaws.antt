-- An object moves to a new block, and is frozen there.
use Rattle.std.proofs.Common.{◌≡◌, ◌≢◌, ℕ, suc, ◌+◌, ◌-◌, ◌*◌, ◌%◌, ◌^◌, ◌<◌, ◌≤◌, inl, inr, List, [], ◌∷◌, length, None, refl, sym, ap, ◌∙◌, subst, arith, append-nil}
use Rattle.seg_spec.specs.Bytes.{word, set_word, IsSame, ChangesOnly}
use Rattle.seg_spec.specs.Header.{free_word, back_start, back_size, index_cell, next_word}
use Rattle.seg_spec.specs.Types.{Table, IsTable, size}
use Rattle.seg_spec.specs.Value.{Value, Values, nil, cons}
use Rattle.seg_spec.specs.Heap.{IsHeap, IsLive, live, link_at, heap_start, Gives}
use Rattle.seg_spec.specs.Block.{Kind, tag_of, IsBlock, IsInside, KeepsBlock, block_of}
use Rattle.seg_spec.specs.Reads.{Place, items, Holds, HoldsEach, holds_none, holds_more}
use Rattle.seg_spec.specs.Parts.{Persists, PersistEach, persist_none, persist_more}
use Rattle.seg_spec.specs.Cells.{IsWithin}
use Rattle.seg_spec.specs.Calls.{IsLoose}
use Rattle.seg_spec.specs.Sound.{times, positions}
use Rattle.seg_spec.specs.Demand.{need, after_gives}
use Rattle.seg_spec.specs.Frozen.{frozen_words}
use Rattle.seg_spec.specs.Owning.{StandsBeside}
use Rattle.seg_spec.specs.Owing.{KeepsLinked}
use Rattle.seg_spec.proofs.SliceLaws.{IsSame-part}
use Rattle.seg_spec.proofs.Values.PlaceFrameLaws.{word-same, target-same, Persists-kept, IsBlock-kept, payload-same}
use Rattle.seg_spec.proofs.Values.PersistenceLaws.{Holds-persists, persists_then}
use Rattle.seg_spec.proofs.BytesLaws.{number-set_same, number-set_other, length-set_number}
use Rattle.seg_spec.proofs.Images.RootWriteLaws.{set_number-changes}
use Rattle.seg_spec.proofs.Heap.LiveBlockLaws.{times-same, times-other, times-more, times-without, there, each_there, LiesIn, live-lie, live-once}
use Rattle.seg_spec.proofs.Heap.RequestLaws.{counts_one}
use Rattle.seg_spec.proofs.Heap.BlockFrameLaws.{kept_twice}
use Rattle.seg_spec.proofs.Heap.KeptBlockLaws.{front_kept}
use Rattle.seg_spec.proofs.Deallocation.BlockFreeLaws.{given_kept}
use Rattle.seg_spec.proofs.Heap.BlockWriteLaws.{KeptBut, live_kept_but}
use Rattle.seg_spec.proofs.Deallocation.OwnLaws.{cell_changes}
use Rattle.seg_spec.proofs.Deallocation.CellDestructionLaws.{block_there}
use Rattle.seg_spec.proofs.Deallocation.DestructionLaws.{heap_written, payload_written}
use Rattle.seg_spec.proofs.Frozen.ReleaseLaws.{there_frozen}
use Rattle.seg_value.specs.Contents.{GivesBlock}
use Rattle.seg_spec.specs.Sharing.{frozen_now}
use Rattle.seg_cells.specs.Places.{object_at}
use Rattle.seg_value.specs.Sharing.{MovesParts}
use Rattle.seg_value.proofs.HeaderLaws.{header_fits, header_heap, header_live, header_kept}
use Rattle.seg_value.proofs.Turns.{is_live}

-- a block is kept with its link
abbrev IsKept : List ℕ → List ℕ → ℕ → Type 0
IsKept old new h = KeepsBlock old new h × (link_at new h ≡ link_at old h)

is_twice : (a b c : List ℕ) (h : ℕ) → IsKept a b h → IsKept b c h → IsKept a c h
is_twice a b c h j k = (kept_twice a b c h j.0 k.0, k.1 ∙ j.1)

is_linked : (a b : List ℕ) (h : ℕ) → KeepsLinked a b h → IsKept a b h
is_linked a b h k = (k.whole.kept, k.link_kept)

one_stays : {old new : List ℕ} {table : Table} {p q : Place} → PersistEach old new table (p ∷ []) (q ∷ []) → Persists old new table p q
one_stays (persist_more one persist_none) = one

module _ (allocator : ℕ) (a b c d : List ℕ) (table : Table) (valid : IsTable table) (T object p : ℕ) (v : Value) (inside : List ℕ) (heap : IsHeap allocator a) (loose : IsLoose a table (record { at = object; type = T }) v inside)
    (g : GivesBlock allocator a b table (tag_of Kind.frozen T) frozen_words T p) where
  abbrev own : ℕ
  own = block_of p

  abbrev gone : ℕ
  gone = block_of object

  live_b : (h : ℕ) → times h (positions (live b)) ≡ times h (own ∷ positions (live a))
  live_b h = counts_one allocator (live a) (live b) (length a) (need (8 + size table T)) g.granted_is (block_of p) g.was_free g.now_live h

  own_b : 1 ≤ times own (positions (live b))
  own_b = omega (arith, g.now_live)

  old_b : (h : ℕ) → 1 ≤ times h (positions (live a)) → 1 ≤ times h (positions (live b))
  old_b h some = omega (arith, live_b h, times-more h (block_of p) (positions (live a)))

  other : (h : ℕ) → 1 ≤ times h (positions (live a)) → h ≢ own
  other h some e = let z : times h (positions (live a)) ≡ 0 = subst (λ x. times x (positions (live a)) ≡ 0) (sym e) g.was_free in absurd (omega arith)

  gone_live : 1 ≤ times gone (positions (live a))
  gone_live = omega (arith, loose.owned (block_of object), times-same (block_of object) inside)

  inside_live : (h : ℕ) → 1 ≤ times h inside → 1 ≤ times h (positions (live a))
  inside_live h some = omega (arith, loose.owned h, times-more h (block_of object) inside)

  inside_other : (h : ℕ) → 1 ≤ times h inside → h ≢ gone
  inside_other h some e =
      let o = loose.owned (block_of object) in
      let s = times-same (block_of object) inside in
      let once = live-once a allocator heap (block_of object) in
      let m : 1 ≤ times (block_of object) inside = subst (λ x. 1 ≤ times x inside) e some in absurd (omega arith)

  lies_b : LiesIn b heap_start (length b) own
  lies_b = there (LiesIn b heap_start (length b)) (block_of p) (positions (live b)) (live-lie b allocator g.heap) own_b

  even : p % 8 ≡ 0
  even = omega (arith, lies_b.aligned, g.is_block.after_header)

  place_inside : IsInside b own (p + 8) (size table T)
  place_inside = let room = g.is_block.room in let low = g.is_block.after_header in record { low = omega arith; high = omega (arith, lies_b.size) }

  stays_b : Persists a b table (object_at object T) (object_at object T)
  stays_b =
      let mine = (g.kept (block_of object) gone_live).0 in
      Persists-kept a b table valid loose.holds_it (payload-same a b object (tag_of Kind.object T) (size table T) mine loose.block)
      (each_there (KeepsBlock a b) inside (λ h some. (g.kept h (inside_live h some)).0))

  value_b : Holds b table (object_at object T) v inside
  value_b = Holds-persists a b table loose.holds_it stays_b

  one : 1 * size table T ≡ size table T
  one = omega arith

  -- the place of the value isn't in the value's blocks
  stands_b : StandsBeside b own (p + 8) (1 * size table T) inside
  stands_b = record {
    inside = subst (IsInside b (block_of p) (p + 8)) (sym one) place_inside;
    home_live = own_b;
    others = λ h some. (old_b h (inside_live h some), other h (inside_live h some));
  }

  from_within : IsWithin b object (1 * size table T)
  from_within =
      let l = there (LiesIn a heap_start (length a)) (block_of object) (positions (live a)) (live-lie a allocator heap) gone_live in
      let block = loose.block in
      let room = block.room in
      let low = block.after_header in
      record { fits = omega (arith, l.high, l.size, g.length_kept, one); small = omega (arith, g.heap.small) }

  to_within : IsWithin b (p + 8) (1 * size table T)
  to_within = record { fits = omega (arith, lies_b.high, place_inside.high, one); small = g.heap.small }

  values_b : HoldsEach b table (items table object T 1) (cons v nil) inside
  values_b = subst (λ xs. HoldsEach b table (items table object T 1) (cons v nil) xs) (append-nil inside) (holds_more value_b holds_none)

  -- the value moves, and then its old block is freed
  module _ (changes : ChangesOnly b c (p + 8) (1 * size table T)) (values : PersistEach b c table (items table object T 1) (items table (p + 8) T 1)) where
    changes_c : ChangesOnly b c (p + 8) (size table T)
    changes_c = subst (ChangesOnly b c (p + 8)) one changes

    heap_c : IsHeap allocator c
    heap_c = heap_written allocator b c (p + 8) (size table T) (block_of p) g.heap place_inside own_b changes_c

    live_c : live c ≡ live b
    live_c = (payload_written allocator b c (p + 8) (size table T) (block_of p) g.heap place_inside own_b changes_c).live_kept

    kept_c : (h : ℕ) → 1 ≤ times h (positions (live a)) → IsKept a c h
    kept_c h some = is_twice a b c h (g.kept h some)
        (is_linked b c h ((payload_written allocator b c (p + 8) (size table T) (block_of p) g.heap place_inside own_b changes_c).others h (old_b h some)
        (times-other h (block_of p) [] (λ e. other h some (sym e)))))

    block_c : IsBlock c p (tag_of Kind.frozen T) (8 + size table T)
    block_c = block_there allocator b c (p + 8) (size table T) (block_of p) g.heap place_inside own_b changes_c p (tag_of Kind.frozen T) (8 + size table T) own_b g.is_block

    but_c : KeptBut b c (p + 8) (size table T) changes_c allocator g.heap own place_inside own_b own
    but_c = there (KeptBut b c (p + 8) (size table T) changes_c allocator g.heap (block_of p) place_inside own_b) (block_of p) (positions (live b))
        (live_kept_but b c (p + 8) (size table T) changes_c allocator g.heap (block_of p) place_inside own_b) own_b

    link_c : link_at c own ≡ None
    link_c = target-same b c (block_of p + 12) (but_c.outside (block_of p + 12) 4 (omega arith) (omega arith)) ∙ g.link_is

    pub gone_c : IsLive c (block_of object)
    gone_c = is_live c (block_of object) (subst (λ bs. 1 ≤ times (block_of object) (positions bs)) (sym live_c) (old_b (block_of object) gone_live))

    module _ (gives : Gives allocator c d (block_of object)) where
      gone_other : own ≢ gone
      gone_other e = other (block_of object) gone_live (sym e)

      counts_d : (h : ℕ) → times h (block_of object ∷ positions (live d)) ≡ times h (positions (live b))
      counts_d h = ap (λ bs. times h (block_of object ∷ positions bs)) gives.given
          ∙ times-without h (block_of object) (live c) (subst (λ bs. 1 ≤ times (block_of object) (positions bs)) (sym live_c) (old_b (block_of object) gone_live)) ∙ ap (λ bs. times h (positions bs)) live_c

      own_c : 1 ≤ times own (positions (live c))
      own_c = subst (λ bs. 1 ≤ times (block_of p) (positions bs)) (sym live_c) own_b

      own_d : 1 ≤ times own (positions (live d))
      own_d = omega (arith, own_b, counts_d (block_of p), times-other (block_of p) (block_of object) (positions (live d)) (λ e. gone_other (sym e)))

      kept_d : (h : ℕ) → 1 ≤ times h (positions (live a)) → h ≢ gone → IsKept a d h
      kept_d h some ne = is_twice a c d h (kept_c h some) (is_linked c d h (given_kept allocator c d (block_of object) heap_c gives h (subst (λ bs. 1 ≤ times h (positions bs)) (sym live_c) (old_b h some)) ne))

      own_kept : KeepsLinked c d own
      own_kept = given_kept allocator c d (block_of object) heap_c gives (block_of p) own_c gone_other

      block_d : IsBlock d p (tag_of Kind.frozen T) (8 + size table T)
      block_d = IsBlock-kept c d p (tag_of Kind.frozen T) (8 + size table T) own_kept.whole.kept block_c

      value_c : Holds c table (object_at (p + 8) T) v inside
      value_c = Holds-persists b c table value_b (one_stays values)

      stays_d : Persists c d table (object_at (p + 8) T) (object_at (p + 8) T)
      stays_d =
          let same = payload-same c d p (tag_of Kind.frozen T) (8 + size table T) own_kept.whole.kept block_c in
          Persists-kept c d table valid value_c (IsSame-part c d p (8 + size table T) (p + 8) (size table T) (omega arith) (omega arith) same)
          (each_there (KeepsBlock c d) inside (λ h some. (given_kept allocator c d (block_of object) heap_c gives h (subst (λ bs. 1 ≤ times h (positions bs)) (sym live_c) (old_b h (inside_live h some))) (inside_other h some)).whole.kept))

      value_d : Holds d table (object_at (p + 8) T) v inside
      value_d = Holds-persists c d table value_c stays_d

      -- ---- the frozen object's words and the next number are written

      module _ (number : ℕ) (number_is : number ≡ word a next_word) (small : suc number < 2 ^ 32) where
        e : List ℕ
        e = set_word (set_word d p 1) (p + 4) number

        f : List ℕ
        f = set_word e next_word (suc number)

        changes_e : ChangesOnly d e p 8
        unfolding e
        changes_e = cell_changes d p 1 number

        changes_f : ChangesOnly e f next_word 4
        unfolding f
        changes_f = set_number-changes 4 e next_word (suc number)

        lies_d : LiesIn d heap_start (length d) own
        lies_d = there (LiesIn d heap_start (length d)) (block_of p) (positions (live d)) (live-lie d allocator gives.heap) own_d

        words_inside : IsInside d own p 8
        words_inside = let room = block_d.room in let low = block_d.after_header in record { low = omega arith; high = omega (arith, lies_d.size) }

        heap_e : IsHeap allocator e
        heap_e = heap_written allocator d e p 8 (block_of p) gives.heap words_inside own_d changes_e

        live_e : live e ≡ live d
        live_e = (payload_written allocator d e p 8 (block_of p) gives.heap words_inside own_d changes_e).live_kept

        heap_f : IsHeap allocator f
        heap_f = header_heap allocator e f next_word 4 heap_e changes_f (omega arith) (omega arith)

        live_f : live f ≡ live d
        live_f = header_live allocator e f next_word 4 heap_e changes_f (omega arith) (omega arith) ∙ live_e

        fits_d : p + 8 ≤ length d
        fits_d = omega (arith, lies_d.high, words_inside.high)

        above_d : heap_start ≤ p
        above_d = omega (arith, lies_d.low, block_d.after_header)

        kept_then : (h : ℕ) → 1 ≤ times h (positions (live e)) → IsKept e f h
        kept_then h some =
            let l = there (LiesIn e heap_start (length e)) h (positions (live e)) (live-lie e allocator heap_e) some in
            (header_kept allocator e f next_word 4 heap_e changes_f (omega arith) (omega arith) h some, target-same e f (h + 12) (changes_f.others (h + 12) 4 (inr (omega (arith, l.low)))))

        old_d : (h : ℕ) → 1 ≤ times h (positions (live a)) → h ≢ gone → 1 ≤ times h (positions (live d))
        old_d h some ne = omega (arith, old_b h some, counts_d h, times-other h (block_of object) (positions (live d)) (λ s. ne (sym s)))

        kept_f : (h : ℕ) → 1 ≤ times h (positions (live a)) → h ≢ gone → IsKept a f h
        kept_f h some ne =
            let alive = old_d h some ne in
            let written = (payload_written allocator d e p 8 (block_of p) gives.heap words_inside own_d changes_e).others h alive (times-other h (block_of p) [] (λ s. other h some (sym s))) in
            is_twice a d f h (kept_d h some ne) (is_twice d e f h (is_linked d e h written) (kept_then h (subst (λ bs. 1 ≤ times h (positions bs)) (sym live_e) alive)))

        but_e : KeptBut d e p 8 changes_e allocator gives.heap own words_inside own_d own
        but_e = there (KeptBut d e p 8 changes_e allocator gives.heap (block_of p) words_inside own_d) (block_of p) (positions (live d)) (live_kept_but d e p 8 changes_e allocator gives.heap (block_of p) words_inside own_d) own_d

        own_e : 1 ≤ times own (positions (live e))
        own_e = subst (λ bs. 1 ≤ times (block_of p) (positions bs)) (sym live_e) own_d

        block_f : IsBlock f p (tag_of Kind.frozen T) (8 + size table T)
        block_f = IsBlock-kept e f p (tag_of Kind.frozen T) (8 + size table T) (kept_then (block_of p) own_e).0
            (block_there allocator d e p 8 (block_of p) gives.heap words_inside own_d changes_e p (tag_of Kind.frozen T) (8 + size table T) own_d block_d)

        link_f : link_at f own ≡ None
        link_f = (kept_then (block_of p) own_e).1 ∙ target-same d e (block_of p + 12) (but_e.outside (block_of p + 12) 4 (omega arith) (omega arith)) ∙ own_kept.link_kept ∙ link_c

        stays_e : Persists d e table (object_at (p + 8) T) (object_at (p + 8) T)
        stays_e = Persists-kept d e table valid value_d (changes_e.others (p + 8) (size table T) (inr (omega arith)))
            (each_there (KeepsBlock d e) inside (λ h some.
            ((payload_written allocator d e p 8 (block_of p) gives.heap words_inside own_d changes_e).others h (old_d h (inside_live h some) (inside_other h some))
            (times-other h (block_of p) [] (λ s. other h (inside_live h some) (sym s)))).whole.kept))

        value_e : Holds e table (object_at (p + 8) T) v inside
        value_e = Holds-persists d e table value_d stays_e

        stays_f : Persists e f table (object_at (p + 8) T) (object_at (p + 8) T)
        stays_f = Persists-kept e f table valid value_e (changes_f.others (p + 8) (size table T) (inr (omega (arith, above_d))))
            (each_there (KeepsBlock e f) inside (λ h some. (kept_then h (subst (λ bs. 1 ≤ times h (positions bs)) (sym live_e) (old_d h (inside_live h some) (inside_other h some)))).0))

        value_f : Holds f table (object_at (p + 8) T) v inside
        value_f = Holds-persists e f table value_e stays_f

        -- the value keeps its parts in each step
        stays : Persists a f table (object_at object T) (object_at (p + 8) T)
        stays = persists_then a b f table stays_b (persists_then b c f table (one_stays values)
            (persists_then c d f table stays_d (persists_then d e f table stays_e stays_f)))

        count_e : word e p ≡ 1
        unfolding e
        count_e = number-set_other 4 4 (set_word d p 1) (p + 4) number p (inl (omega arith)) ∙ number-set_same 4 d p 1 (omega (arith, fits_d)) (omega arith)

        number_e : word e (p + 4) ≡ number
        unfolding e
        number_e = number-set_same 4 (set_word d p 1) (p + 4) number (rw (length-set_number 4 d p 1) (omega (arith, fits_d))) (omega arith)

        length_e : length e ≡ length d
        length_e = changes_e.length_kept

        next_f : word f next_word ≡ suc number
        unfolding f
        next_f = number-set_same 4 e next_word (suc number) (omega (arith, length_e, header_fits allocator d gives.heap)) (omega arith)

        front_d : (IsSame c d 0 free_word) × (IsSame c d back_start back_size)
        front_d = front_kept c d gives.kept (header_fits allocator c heap_c)

        pub moved : MovesParts allocator a (set_word (set_word (set_word d p 1) (p + 4) number) next_word (suc number)) table T object v inside p
        unfolding e f
        moved = (
          record {
            length_kept = changes_f.length_kept ∙ changes_e.length_kept ∙ gives.kept.front_kept.length_kept ∙ changes.length_kept ∙ g.length_kept;
            front_kept = changes_f.others 0 free_word (inl (omega arith)) ∙ changes_e.others 0 free_word (inl (omega (arith, above_d))) ∙ front_d.0
                ∙ changes.others 0 free_word (inl (omega (arith, lies_b.low, place_inside.low))) ∙ g.front_kept;
            next_is = next_f ∙ ap suc number_is;
            back_kept = changes_f.others index_cell (heap_start - index_cell) (inr (omega arith)) ∙ changes_e.others index_cell (heap_start - index_cell) (inl (omega (arith, above_d)))
                ∙ IsSame-part c d back_start back_size index_cell (heap_start - index_cell) (omega arith) (omega arith) front_d.1 ∙ changes.others index_cell (heap_start - index_cell) (inl (omega (arith, lies_b.low, place_inside.low)))
                ∙ IsSame-part a b back_start back_size index_cell (heap_start - index_cell) (omega arith) (omega arith) g.back_kept;
            heap = heap_f;
            spans = live b;
            granted_is = g.granted_is;
            live_is = live_f ∙ gives.given ∙ ap (λ bs. after_gives bs (block_of object ∷ [])) live_c;
            holds_it = there_frozen f table (frozen_now p T (word a next_word) v) (block_of p ∷ inside) (record {
              block = block_f;
              count_is = word-same e f p (changes_f.others p 4 (inr (omega (arith, above_d)))) ∙ count_e;
              number_is = word-same e f (p + 4) (changes_f.others (p + 4) 4 (inr (omega (arith, above_d)))) ∙ number_e ∙ number_is;
              inside = inside;
              value = value_f;
              blocks_are = refl;
            });
            link_is = link_f;
            was_free = g.was_free;
            live_are = λ h.
                let l : times h (positions (live f)) ≡ times h (positions (live d)) = ap (λ bs. times h (positions bs)) live_f in
                omega (arith, counts_d h, live_b h);
            kept = kept_f;
          },
          stays,
        )

-- the whole call, from what each step ensures
pub all_moved : (allocator : ℕ) (a b c d f : List ℕ) (table here : Table) (T object p to number next : ℕ) (v : Value) (inside : List ℕ) → IsTable table → IsHeap allocator a → IsLoose a table (record { at = object; type = T }) v inside
    → number ≡ word a next_word → suc number < 2 ^ 32 → GivesBlock allocator a b table (tag_of Kind.frozen T) frozen_words T p → here ≡ table → to ≡ (p + 8) % 2 ^ 32
    → (IsWithin b object (1 * size here T) → IsWithin b to (1 * size here T) → ChangesOnly b c to (1 * size here T))
    → ((n home : ℕ) (vs : Values) (blocks : List ℕ) → IsHeap n b → to % 8 ≡ 0 → IsWithin b object (1 * size here T) → StandsBeside b home to (1 * size here T) blocks → HoldsEach b here (items here object T 1) vs blocks
    → PersistEach b c here (items here object T 1) (items here to T 1))
    → (IsHeap allocator c → IsLive c (block_of object) → Gives allocator c d (block_of object))
    → f ≡ set_word (set_word (set_word d p 1) (p + 4) number) next_word next → next ≡ (number + 1) % 2 ^ 32 → MovesParts allocator a f table T object v inside p
all_moved allocator a b c d f table here T object p to number next v inside valid heap loose number_is small g same to_is changes values gives f_is next_is =
    let lies = lies_b allocator a b c d table valid T object p v inside heap loose g in
    let room = place_inside allocator a b c d table valid T object p v inside heap loose g in
    let to_then : to ≡ p + 8 = to_is ∙ omega (arith, lies.high, room.high, g.heap.small) in
    let Changes : ℕ → Table → Type 0 = λ x t. IsWithin b object (1 * size t T) → IsWithin b x (1 * size t T) → ChangesOnly b c x (1 * size t T) in
    let Moves : ℕ → Table → Type 0 = λ x t. (n home : ℕ) (vs : Values) (blocks : List ℕ) → IsHeap n b → x % 8 ≡ 0 → IsWithin b object (1 * size t T) → StandsBeside b home x (1 * size t T) blocks
    → HoldsEach b t (items t object T 1) vs blocks
    → PersistEach b c t (items t object T 1) (items t x T 1) in
    let changes' : Changes (p + 8) table = subst (λ x. Changes x table) to_then (subst (λ t. Changes to t) same changes) in
    let values' : Moves (p + 8) table = subst (λ x. Moves x table) to_then (subst (λ t. Moves to t) same values) in
    let from = from_within allocator a b c d table valid T object p v inside heap loose g in
    let onto = to_within allocator a b c d table valid T object p v inside heap loose g in
    let eight = even allocator a b c d table valid T object p v inside heap loose g in
    let changed = changes' from onto in
    let held = values' allocator (block_of p) (cons v nil) inside g.heap (omega (arith, eight)) from (stands_b allocator a b c d table valid T object p v inside heap loose g)
    (values_b allocator a b c d table valid T object p v inside heap loose g) in
    let given = gives (heap_c allocator a b c d table valid T object p v inside heap loose g changed held) (gone_c allocator a b c d table valid T object p v inside heap loose g changed held) in
    let next_then : next ≡ suc number = next_is ∙ omega arith in
    subst (λ bytes. MovesParts allocator a bytes table T object v inside p) (sym (f_is ∙ ap (set_word (set_word (set_word d p 1) (p + 4) number) next_word) next_then))
    (moved allocator a b c d table valid T object p v inside heap loose g changed held given number number_is small)
