-- A value inside a place is cleared, with the frozen objects that lost their last cell. The place
-- contains the changed value, and everything around it is kept.
use Rattle.std.proofs.Common.{◌≡◌, ◌≢◌, ℕ, ◌+◌, ◌*◌, ◌%◌, ◌≤◌, inl, inr, ⊎_elim, List, [], ◌∷◌, ◌++◌, length, refl, sym, ap, ◌∙◌, subst, arith}
use Rattle.std.proofs.lemmas.Bool.{cases_eq}
use Rattle.std.specs.List.{AllByRecursion}
use Rattle.seg_spec.specs.Bytes.{word, IsSame}
use Rattle.seg_spec.specs.Types.{Table, size}
use Rattle.seg_spec.specs.Value.{Value, Values, Selector, with_value_at}
use Rattle.seg_spec.specs.Heap.{units_at, IsHeap, live, heap_start}
use Rattle.seg_spec.specs.Block.{IsInside, KeepsBlock, payload_size}
use Rattle.seg_spec.specs.Reads.{Place, Holds, HoldsEach, Leads}
use Rattle.seg_spec.specs.Parts.{PersistEach}
use Rattle.seg_spec.specs.Apart.{Separate, RangeApart, BlocksApart, KeptAround, KeepsBlockAround, ComesApart}
use Rattle.seg_spec.specs.Sound.{times, positions}
use Rattle.seg_spec.specs.Frozen.{Frozen, blocks_by}
use Rattle.seg_spec.specs.Shared.{named_in}
use Rattle.seg_spec.specs.Destroying.{AreLive}
use Rattle.seg_spec.specs.Clearing.{SharedBeside, ClearsPlace}
use Rattle.seg_spec.specs.Roots.{ChangesPlace}
use Rattle.seg_spec.specs.Owning.{Stands}
use Rattle.seg_spec.specs.Shrinking.{KeepsPathsInside}
use Rattle.seg_spec.proofs.Values.PathFrameLaws.{Leads-kept}
use Rattle.seg_spec.proofs.SliceLaws.{IsSame-part}
use Rattle.seg_spec.proofs.Values.PlaceFrameLaws.{word-same, SamePlace, each_weaker, PersistEach-kept}
use Rattle.seg_spec.proofs.Heap.LiveBlockLaws.{OneOrApart, times-same, times-other, times-more, times-append, there, each_there, LiesIn, live-lie, live-once, live-apart, apart_once}
use Rattle.seg_spec.proofs.Values.PutLaws.{comes_apart}
use Rattle.seg_spec.proofs.Heap.BlockFrameLaws.{around_twice, around_kept}
use Rattle.seg_spec.proofs.Frozen.FrozenBlockLaws.{hold_kept, frozen_twice, frozen_kept}
use Rattle.seg_spec.proofs.Deallocation.SharedDestructionLaws.{shared_fewer}

module _ (allocator : ℕ) (old : List ℕ) (table : Table) (place : Place) (v : Value) (blocks : List ℕ) (s : Stands allocator old table place v blocks)
    (inner : Place) (path : List Selector) (leads : Leads old table place path inner) where
  pub c : ComesApart old table place path inner v blocks
  c = comes_apart old table s.is_table leads s.holds_it

  abbrev pub rest : List ℕ
  rest = c.left ++ c.right

  pub counts : (h : ℕ) → times h blocks ≡ times h c.its + times h rest
  counts h =
      let a = ap (times h) c.blocks_are in
      let b = times-append h c.left (c.its ++ c.right) in
      let d = times-append h c.its c.right in
      let e = times-append h c.left c.right in
      omega arith

  own_home : (h : ℕ) → times h (s.home ∷ []) + times h blocks ≤ times h (positions (live old))
  own_home h = ⊎_elim
      (λ (e : s.home ≡ h). let l : times h (s.home ∷ blocks) ≡ 1 + times h blocks = subst (λ x. times h (x ∷ blocks) ≡ 1 + times h blocks) (sym e) (times-same h blocks) in
      let k : times h (s.home ∷ []) ≡ 1 + times h [] = subst (λ x. times h (x ∷ []) ≡ 1 + times h []) (sym e) (times-same h []) in omega (arith, s.owned h))
      (λ ne. let l = times-other h s.home blocks ne in let k = times-other h s.home [] ne in omega (arith, s.owned h))
      (cases_eq s.home h)

  once : (h : ℕ) → times h (positions (live old)) ≤ 1
  once h = live-once old allocator s.heap h

  lies : (h : ℕ) → 1 ≤ times h (positions (live old)) → LiesIn old heap_start (length old) h
  lies h some = there (LiesIn old heap_start (length old)) h (positions (live old)) (live-lie old allocator s.heap) some

  pair : (g h : ℕ) → 1 ≤ times g (positions (live old)) → 1 ≤ times h (positions (live old)) → OneOrApart old g h
  pair g h some more = there (OneOrApart old g) h (positions (live old)) (there (λ t. AllByRecursion (OneOrApart old t) (positions (live old))) g (positions (live old)) (live-apart old allocator s.heap) some) more

  pub blocks_once : (h : ℕ) → times h blocks ≤ 1
  blocks_once h = omega (arith, own_home h, once h)

  home_once : times s.home (s.home ∷ []) ≡ 1
  home_once = times-same s.home []

  home_live : 1 ≤ times s.home (positions (live old))
  home_live = omega (arith, own_home s.home, home_once)

  home_apart : times s.home blocks ≡ 0
  home_apart = omega (arith, own_home s.home, home_once, once s.home)

  rest_live : (h : ℕ) → 1 ≤ times h rest → 1 ≤ times h (positions (live old))
  rest_live h some = omega (arith, own_home h, counts h)

  rest_other : (h : ℕ) → 1 ≤ times h rest → h ≢ s.home
  rest_other h some e =
      let mine : 1 ≤ times s.home rest = subst (λ x. 1 ≤ times x rest) e some in
      omega (arith, counts s.home, home_apart)

  -- ---- the place of the value

  module _ (block : ℕ) (inside : IsInside old block inner.at (size table inner.type)) (mine : 1 ≤ times block rest) (aligned : inner.at % 8 ≡ 0) where
    pub inner_stands : Stands allocator old table inner c.value c.its
    inner_stands = record {
      heap = s.heap;
      allocator_is = s.allocator_is;
      is_table = s.is_table;
      ownable = s.ownable;
      holds_it = c.holds_it;
      aligned = aligned;
      home = block;
      inside = inside;
      owned = λ h. ⊎_elim
          (λ (e : block ≡ h). let l : times h (block ∷ c.its) ≡ 1 + times h c.its = subst (λ x. times h (x ∷ c.its) ≡ 1 + times h c.its) (sym e) (times-same h c.its) in
          let some : 1 ≤ times h rest = subst (λ x. 1 ≤ times x rest) e mine in omega (arith, own_home h, counts h))
          (λ ne. let l = times-other h block c.its ne in omega (arith, own_home h, counts h))
          (cases_eq block h);
    }

    pub inner_home : inner_stands.home ≡ block
    unfolding inner_stands
    inner_home = refl

    -- the state in which the call that destroys the value begins
    pub inner_beside : (theirs : ℕ → List ℕ) (kept : List Place) (now final : List Frozen) → SharedBeside old table (s.home ∷ blocks) (named_in c.value) theirs kept now final
        → SharedBeside old table (block ∷ c.its) (named_in c.value) theirs kept now final
    inner_beside theirs kept now final beside = shared_fewer old table (s.home ∷ blocks) (block ∷ c.its) (named_in c.value) theirs kept now final fewer beside
      where
        fewer : (h : ℕ) → times h (block ∷ c.its) ≤ times h (s.home ∷ blocks)
        fewer h =
            let more = times-more h s.home blocks in
            ⊎_elim
            (λ (e : block ≡ h). let l : times h (block ∷ c.its) ≡ 1 + times h c.its = subst (λ x. times h (x ∷ c.its) ≡ 1 + times h c.its) (sym e) (times-same h c.its) in
            let some : 1 ≤ times h rest = subst (λ x. 1 ≤ times x rest) e mine in omega (arith, counts h))
            (λ ne. let l = times-other h block c.its ne in omega (arith, counts h))
            (cases_eq block h)

    module _ (theirs : ℕ → List ℕ) (now final : List Frozen) (fits : AreLive old ((s.home ∷ blocks) ++ blocks_by theirs now)) (mid : List ℕ) (w : Value)
        (change : ClearsPlace old mid table inner w c.its [] theirs now final) where
      abbrev shares : List ℕ
      shares = blocks_by theirs now

      abbrev left : List ℕ
      left = blocks_by theirs final

      -- the blocks of frozen objects aren't the place's
      all_fit : (h : ℕ) → times h (s.home ∷ []) + times h blocks + times h shares ≤ times h (positions (live old))
      all_fit h = ⊎_elim
          (λ (e : s.home ≡ h). let l : times h (s.home ∷ blocks) ≡ 1 + times h blocks = subst (λ x. times h (x ∷ blocks) ≡ 1 + times h blocks) (sym e) (times-same h blocks) in
          let k : times h (s.home ∷ []) ≡ 1 + times h [] = subst (λ x. times h (x ∷ []) ≡ 1 + times h []) (sym e) (times-same h []) in omega (arith, fits h, times-append h (s.home ∷ blocks) shares))
          (λ ne. let l = times-other h s.home blocks ne in let k = times-other h s.home [] ne in omega (arith, fits h, times-append h (s.home ∷ blocks) shares))
          (cases_eq s.home h)

      gone : (h : ℕ) → times h (c.its ++ shares) ≡ times h c.its + times h shares
      gone h = times-append h c.its shares

      stays : (h : ℕ) → times h (c.its ++ shares) ≡ times h change.gives + times h left
      stays h = change.all_are h ∙ times-append h change.gives left

      home_stays : times s.home (c.its ++ shares) ≡ 0
      home_stays = omega (arith, all_fit s.home, home_once, once s.home, counts s.home, gone s.home)

      rest_stays : (h : ℕ) → 1 ≤ times h rest → times h (c.its ++ shares) ≡ 0
      rest_stays h some = omega (arith, all_fit h, once h, counts h, gone h)

      home_around : KeepsBlockAround old mid inner.at (size table inner.type) s.home
      home_around = change.changes.kept s.home home_live home_stays

      place_around : KeptAround old mid inner.at (size table inner.type) place.at (size table place.type)
      place_around g m low high apart =
          let l = lies s.home home_live in
          home_around.payload g m (omega (arith, s.inside.low)) (omega (arith, s.inside.high, l.size)) apart

      rest_around : AllByRecursion (KeepsBlockAround old mid inner.at (size table inner.type)) rest
      rest_around = each_there (KeepsBlockAround old mid inner.at (size table inner.type)) rest (λ h some. change.changes.kept h (rest_live h some) (rest_stays h some))

      place_beside : RangeApart old place.at (size table place.type) rest
      place_beside = each_there (λ h. Separate place.at (size table place.type) h (16 * units_at old h)) rest (λ h some. go h (rest_other h some) (pair s.home h home_live (rest_live h some)))
        where
          go : (h : ℕ) → h ≢ s.home → OneOrApart old s.home h → Separate place.at (size table place.type) h (16 * units_at old h)
          go h ne (inl e) = absurd (ne e)
          go h ne (inr (inl l)) = inl (omega (arith, s.inside.high))
          go h ne (inr (inr l)) = inr (omega (arith, s.inside.low))

      -- the place itself is kept
      pub place_same : IsSame old mid place.at (size table place.type)
      place_same = place_around place.at (size table place.type) (omega arith) (omega arith)
          (⊎_elim (λ l. inl (omega (arith, inside.low))) (λ l. inr (omega (arith, inside.high))) (there (λ h. Separate place.at (size table place.type) h (16 * units_at old h)) block rest place_beside mine))

      -- a block of the other parts is kept whole, unless the value is in it
      beside_whole : (g : ℕ) → 1 ≤ times g rest → g ≢ block → KeepsBlock old mid g
      beside_whole g some ne =
          let k = change.changes.kept g (rest_live g some) (rest_stays g some) in
          record {
            live = k.header.live;
            has_tag = k.header.has_tag;
            room = k.header.room;
            payload = k.payload (g + 16) (payload_size old g) (omega arith) (omega arith) (off (pair block g (rest_live block mine) (rest_live g some)));
          }
        where
          off : OneOrApart old block g → Separate (g + 16) (payload_size old g) inner.at (size table inner.type)
          off (inl e) = absurd (ne e)
          off (inr (inl before)) = inr (omega (arith, inside.high))
          off (inr (inr following)) = let l = lies g (rest_live g some) in inl (omega (arith, inside.low, l.size))

      -- the other bytes of the value's block are kept
      beside_same : (at n : ℕ) → IsInside old block at n → Separate at n inner.at (size table inner.type) → IsSame old mid at n
      beside_same at n in_block apart =
          let b = change.changes.kept block (rest_live block mine) (rest_stays block mine) in
          let l = lies block (rest_live block mine) in
          b.payload at n (omega (arith, in_block.low)) (omega (arith, in_block.high, l.size)) apart

      -- Each path from a part that doesn't overlap the value still reaches the same place, also if
      -- the part is in the same block.
      pub beside_paths : (other : Place) (u : Value) (bs : List ℕ) → Holds old table other u bs → IsInside old block other.at (size table other.type)
          → Separate other.at (size table other.type) inner.at (size table inner.type) → ((h : ℕ) → 1 ≤ times h bs → (1 ≤ times h rest) × (h ≢ block)) → KeepsPathsInside old mid table other
      beside_paths other u bs holds_it in_block apart ours path goal way =
          Leads-kept old mid table s.is_table way holds_it (beside_same other.at (size table other.type) in_block apart)
          (each_there (KeepsBlock old mid) bs (λ g some. beside_whole g (ours g some).0 (ours g some).1))

      -- such parts persist
      pub beside_persist : (others : List Place) (us : Values) (bs : List ℕ) → HoldsEach old table others us bs
          → AllByRecursion (λ other. IsInside old block other.at (size table other.type) × Separate other.at (size table other.type) inner.at (size table inner.type)) others
          → ((h : ℕ) → 1 ≤ times h bs → (1 ≤ times h rest) × (h ≢ block)) → PersistEach old mid table others others
      beside_persist others us bs hold apart ours =
          PersistEach-kept old mid table s.is_table hold (each_weaker _ (SamePlace old mid table) (λ (other : Place) a. beside_same other.at (size table other.type) a.0 a.1) others apart)
          (each_there (KeepsBlock old mid) bs (λ g some. beside_whole g (ours g some).0 (ours g some).1))

      rest_apart : BlocksApart old rest
      rest_apart = apart_once old rest
          (each_there (λ t. AllByRecursion (OneOrApart old t) rest) rest (λ g some. each_there (OneOrApart old g) rest (λ h more. pair g h (rest_live g some) (rest_live h more))))
          (λ h. omega (arith, own_home h, once h, counts h))

      pub holds_mid : Holds mid table place (with_value_at path w v) rest
      holds_mid = c.becomes mid w [] place_around rest_around place_beside rest_apart change.changes.holds_it

      allocator_mid : word mid 16 ≡ word old 16
      allocator_mid = word-same old mid 16 (IsSame-part old mid 0 24 16 4 (omega arith) (omega arith) change.changes.front_kept)

      live_mid : (h : ℕ) → times h (positions (live mid)) + times h change.gives ≡ times h (positions (live old))
      live_mid h = omega (arith, change.changes.live_are h, stays h)

      heap_mid : IsHeap allocator mid
      heap_mid = subst (λ n. IsHeap n mid) s.allocator_is change.changes.heap

      home_mid : 1 ≤ times s.home (positions (live mid))
      home_mid = omega (arith, live_mid s.home, home_live, home_stays, stays s.home)

      inside_mid : IsInside mid s.home place.at (size table place.type)
      inside_mid = let room = home_around.header.room in let two = (lies s.home home_live).size in record { low = s.inside.low; high = omega (arith, s.inside.high) }

      pub stands_mid : Stands allocator mid table place (with_value_at path w v) rest
      stands_mid = record {
        heap = heap_mid;
        allocator_is = allocator_mid ∙ s.allocator_is;
        is_table = s.is_table;
        ownable = change.changes.ownable;
        holds_it = holds_mid;
        aligned = s.aligned;
        home = s.home;
        inside = inside_mid;
        owned = λ h. ⊎_elim
            (λ (e : s.home ≡ h). let l : times h (s.home ∷ rest) ≡ 1 + times h rest = subst (λ x. times h (x ∷ rest) ≡ 1 + times h rest) (sym e) (times-same h rest) in
            let k : times h (s.home ∷ []) ≡ 1 + times h [] = subst (λ x. times h (x ∷ []) ≡ 1 + times h []) (sym e) (times-same h []) in omega (arith, all_fit h, counts h, live_mid h, stays h, gone h))
            (λ ne. let l = times-other h s.home rest ne in omega (arith, all_fit h, counts h, live_mid h, stays h, gone h))
            (cases_eq s.home h);
      }

      -- a block is kept whole unless the place or a frozen object owned it
      kept_mid : (h : ℕ) → 1 ≤ times h (positions (live old)) → times h (blocks ++ shares) ≡ 0 → KeepsBlock old mid h
      kept_mid h some none =
          let both = times-append h blocks shares in
          let k = change.changes.kept h some (omega (arith, counts h, gone h)) in
          record {
            live = k.header.live;
            has_tag = k.header.has_tag;
            room = k.header.room;
            payload = k.payload (h + 16) (payload_size old h) (omega arith) (omega arith) (go (pair block h (rest_live block mine) some));
          }
        where
          go : OneOrApart old block h → Separate (h + 16) (payload_size old h) inner.at (size table inner.type)
          go (inl e) =
              let both = times-append h blocks shares in
              let zero_rest : times block rest ≡ 0 = subst (λ x. times x rest ≡ 0) e (omega (arith, counts h)) in absurd (omega arith)
          go (inr (inl before)) = inr (omega (arith, inside.high))
          go (inr (inr following)) = let l = lies h some in inl (omega (arith, inside.low, l.size))

      -- the blocks of the remaining frozen objects
      left_mid : (h : ℕ) → 1 ≤ times h left → (1 ≤ times h (positions (live mid))) × (times h rest ≡ 0) × (h ≢ s.home)
      left_mid h some = (
        omega (arith, live_mid h, stays h, gone h, all_fit h, counts h),
        omega (arith, stays h, gone h, all_fit h, counts h, once h),
        λ e. let z : times s.home left ≡ times h left = ap (λ x. times x left) (sym e) in absurd (omega (arith, home_stays, stays s.home)),
      )

      -- a second call gives the place another value, which owns the remaining blocks
      module _ (new : List ℕ) (u : Value) (last : ChangesPlace mid new table place u rest (live mid) rest rest) where
        left_kept : (h : ℕ) → 1 ≤ times h left → KeepsBlock mid new h
        left_kept h some =
            let l = left_mid h some in
            let k = last.kept h l.0 l.1 in
            let solid = (there (LiesIn mid heap_start (length mid)) h (positions (live mid)) (live-lie mid allocator heap_mid) l.0).size in
            let mine = (there (LiesIn mid heap_start (length mid)) s.home (positions (live mid)) (live-lie mid allocator heap_mid) home_mid).size in
            let two = there (OneOrApart mid s.home) h (positions (live mid)) (there (λ t. AllByRecursion (OneOrApart mid t) (positions (live mid))) s.home (positions (live mid)) (live-apart mid allocator heap_mid) home_mid) l.0 in
            record {
              live = k.header.live;
              has_tag = k.header.has_tag;
              room = k.header.room;
              payload = k.payload (h + 16) (payload_size mid h) (omega arith) (omega arith) (go l.2 solid mine two);
            }
          where
            go : h ≢ s.home → 2 ≤ units_at mid h → 2 ≤ units_at mid s.home → OneOrApart mid s.home h → Separate (h + 16) (payload_size mid h) place.at (size table place.type)
            go ne solid mine (inl e) = absurd (ne e)
            go ne solid mine (inr (inl before)) = inr (omega (arith, inside_mid.high))
            go ne solid mine (inr (inr following)) = inl (omega (arith, inside_mid.low))

        pub cleared : ClearsPlace old new table place u blocks rest theirs now final
        cleared = record {
          gives = change.gives;
          all_are = λ h. omega (arith, times-append h blocks shares, counts h, stays h, gone h, times-append h change.gives (rest ++ left), times-append h rest left);
          changes = record {
            length_kept = last.length_kept ∙ change.changes.length_kept;
            front_kept = last.front_kept ∙ change.changes.front_kept;
            back_kept = last.back_kept ∙ change.changes.back_kept;
            heap = subst (λ n. IsHeap n new) allocator_mid last.heap;
            ownable = last.ownable;
            holds_it = last.holds_it;
            live_is = last.live_is ∙ change.changes.live_is;
            live_are = λ h. omega (arith, last.live_are h, live_mid h, counts h, stays h, gone h, times-append h blocks shares, times-append h rest left);
            kept = λ h some none. around_twice old mid new place.at (size table place.type) h
                (around_kept old mid place.at (size table place.type) h (omega (arith, (lies h some).size)) (kept_mid h some none))
                (last.kept h (omega (arith, live_mid h, counts h, stays h, gone h, times-append h blocks shares, none)) (omega (arith, counts h, times-append h blocks shares, none)));
          };
          shared_kept = frozen_twice old mid new theirs final change.shared_kept (frozen_kept allocator mid new heap_mid theirs final (λ h some. (left_mid h some).0) left_kept);
          holds = hold_kept mid new table s.is_table theirs final left_kept change.holds;
        }
