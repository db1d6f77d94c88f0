-- A cell's count is written, or bytes of the buffer to which the cell points.
use Rattle.std.proofs.Common.{◌≡◌, ◌≢◌, ℕ, ◌+◌, ◌-◌, ◌*◌, ◌^◌, ◌<◌, ◌≤◌, ◌⊎◌, inl, inr, List, length, Some, refl, ap, ◌∙◌, subst, arith}
use Rattle.seg_spec.specs.Bytes.{set_word, IsSame, ChangesOnly}
use Rattle.seg_spec.specs.Pointer.{target}
use Rattle.seg_spec.specs.Types.{Table, IsTable, size}
use Rattle.seg_spec.specs.Heap.{Span, live, heap_start}
use Rattle.seg_spec.specs.Block.{IsInside, KeepsBlock, payload_size}
use Rattle.seg_spec.specs.Reads.{Place, count_at}
use Rattle.seg_spec.specs.Sound.{times, positions}
use Rattle.seg_spec.proofs.BytesLaws.{number-set_same}
use Rattle.seg_spec.proofs.SliceLaws.{IsSame-part}
use Rattle.seg_spec.proofs.Tables.TypeSizeLaws.{size_large}
use Rattle.seg_spec.proofs.Values.PlaceFrameLaws.{target-same, cell-target, cell-count}
use Rattle.seg_spec.proofs.Heap.LiveBlockLaws.{LiesIn, live-lie, there}
use Rattle.seg_spec.proofs.Images.RootWriteLaws.{set_number-changes}
use Rattle.seg_seq.proofs.CallPlaceLaws.{Leaves, home_live, its_live, its_other, other_kept, header_same, written_inside, written_there}

module _ (allocator : ℕ) (old mid : List ℕ) (table : Table) (valid : IsTable table) (place : Place) (blocks others : List ℕ) (spans : List Span) (l : Leaves allocator old mid table place blocks others spans) where
  large : 8 ≤ size table place.type
  large = size_large table valid place.type

  home_lies : LiesIn mid heap_start (length mid) l.home
  home_lies = there (LiesIn mid heap_start (length mid)) l.home (positions (live mid)) (live-lie mid allocator l.heap) (home_live allocator old mid table place blocks others spans l)

  cell_in : place.at + 8 ≤ length mid
  cell_in = let h = home_lies in let w = large in omega (arith, l.inside.high, h.high)

  -- ---- the count

  module _ (n : ℕ) (small : n < 2 ^ 32) (new : List ℕ) (new_is : new ≡ set_word mid (place.at + 4) n) where
    changes : ChangesOnly mid new (place.at + 4) 4
    changes = subst (λ b. ChangesOnly mid b (place.at + 4) 4) (Rattle.std.proofs.Common.sym new_is) (set_number-changes 4 mid (place.at + 4) n)

    within : IsInside mid l.home (place.at + 4) 4
    within = let w = large in record { low = omega (arith, l.inside.low); high = omega (arith, l.inside.high) }

    its_home : 1 ≤ times l.home (positions (live mid))
    its_home = home_live allocator old mid table place blocks others spans l

    pub count_leaves : Leaves allocator old new table place blocks others spans
    count_leaves = let w = large in written_there allocator old mid table place blocks others spans l new l.home (place.at + 4) 4 changes within its_home (omega arith) (omega arith)

    pub count_names : target new place.at ≡ target mid place.at
    count_names = target-same mid new place.at (changes.others place.at 4 (inl (omega arith)))

    pub count_is : count_at new place.at ≡ n
    count_is = let c = cell_in in rw new_is (number-set_same 4 mid (place.at + 4) n (omega arith) (omega arith))

    pub count_kept : (h : ℕ) → 1 ≤ times h others → KeepsBlock mid new h
    count_kept h mine =
        other_kept allocator old mid table place blocks others spans l new l.home (place.at + 4) 4 changes within its_home h (its_live allocator old mid table place blocks others spans l h mine)
        (its_other allocator old mid table place blocks others spans l h mine)

    pub count_header : (h : ℕ) → 1 ≤ times h others → IsSame mid new h 16
    count_header h mine = header_same allocator old mid table place blocks others spans l new l.home (place.at + 4) 4 changes within its_home h (its_live allocator old mid table place blocks others spans l h mine)

  -- ---- bytes of a block that the place owns

  module _ (new : List ℕ) (g at m : ℕ) (changes : ChangesOnly mid new at m) (within : IsInside mid g at m) (mine : 1 ≤ times g others) where
    g_live : 1 ≤ times g (positions (live mid))
    g_live = its_live allocator old mid table place blocks others spans l g mine

    pub inner_leaves : Leaves allocator old new table place blocks others spans
    inner_leaves = written_inside allocator old mid table place blocks others spans l new g at m changes within g_live mine

    home_kept : KeepsBlock mid new l.home
    home_kept = other_kept allocator old mid table place blocks others spans l new g at m changes within g_live l.home (home_live allocator old mid table place blocks others spans l)
        (λ e. its_other allocator old mid table place blocks others spans l g mine (Rattle.std.proofs.Common.sym e))

    cell_same : IsSame mid new place.at 8
    cell_same =
        let k = home_kept in
        let h = home_lies in
        let w = large in
        IsSame-part mid new (l.home + 16) (payload_size mid l.home) place.at 8 (omega (arith, l.inside.low)) (omega (arith, l.inside.high, h.size)) k.payload

    pub inner_names : target new place.at ≡ target mid place.at
    inner_names = cell-target mid new place.at cell_same

    pub inner_count : count_at new place.at ≡ count_at mid place.at
    inner_count = cell-count mid new place.at cell_same

    pub inner_kept : (h : ℕ) → 1 ≤ times h others → h ≢ g → KeepsBlock mid new h
    inner_kept h some other = other_kept allocator old mid table place blocks others spans l new g at m changes within g_live h (its_live allocator old mid table place blocks others spans l h some) other

    pub inner_header : (h : ℕ) → 1 ≤ times h others → IsSame mid new h 16
    inner_header h some = header_same allocator old mid table place blocks others spans l new g at m changes within g_live h (its_live allocator old mid table place blocks others spans l h some)
