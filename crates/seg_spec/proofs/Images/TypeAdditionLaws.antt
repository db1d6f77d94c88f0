-- An image contains the same values after its type table grows.
use Rattle.std.proofs.Common.{◌≡◌, ℕ, ◌+◌, ◌-◌, ◌*◌, ◌<◌, ◌≤◌, Bool, true, false, List, [], ◌∷◌, ◌++◌, length, cond, Option, Some, None, refl, sym, ap, ◌∙◌, subst, arith}
use Rattle.std.specs.List.{AllByRecursion}
use Rattle.std.proofs.lemmas.List.{length-append}
use Rattle.std.proofs.lemmas.Bool.{false≢true}
use Rattle.seg_spec.specs.Bytes.{word, IsSame}
use Rattle.seg_spec.specs.Types.{Form, Table, form_at, size, IsTable, AreOfVersion, HasTable}
use Rattle.seg_spec.specs.Header.{version_word, next_word, IsVersion}
use Rattle.seg_spec.specs.Value.{Value, Values, nil, cons, count}
use Rattle.seg_spec.specs.Heap.{Tile, span_of, tiles, Fill, free_of, live, IsHeap, heap_start, KeepsTiles}
use Rattle.seg_spec.specs.Block.{Kind, AllowsType, has_buffer, has_nodes, KeepsBlock, payload_size}
use Rattle.seg_spec.specs.Reads.{Place, spaced, places_of, items, Holds, holds, HoldsEach, holds_more}
use Rattle.seg_spec.specs.Index.{Root}
use Rattle.seg_spec.specs.Sound.{Picture, HasHeader, HoldsRoot, HoldsRoots, holds_no_root, holds_more_roots, IsHeld, times, SameBlocks, positions}
use Rattle.seg_spec.proofs.SliceLaws.{IsSame-part}
use Rattle.seg_spec.proofs.Values.PlaceFrameLaws.{word-same, each_weaker, each_left, each_right}
use Rattle.seg_spec.proofs.Tables.TableExtensionLaws.{form_extended, below_length, size_extended, HoldsEach-extended}
use Rattle.seg_spec.proofs.Heap.TileLaws.{Fill-le}
use Rattle.seg_spec.proofs.Heap.HeapFrameLaws.{IsHeap-kept, live-kept, IsOwnable-kept}
use Rattle.seg_spec.proofs.Heap.GapOrderLaws.{gaps-free}
use Rattle.seg_spec.proofs.Heap.LiveBlockLaws.{LiesIn, live-lie, each_same}
use Rattle.seg_spec.proofs.Images.RootFrameLaws.{HoldsRoots-kept, ListsNames-kept, ListsUniques-kept}

-- ---- more types

more_length : (old more : Table) (T : ℕ) → T < length old → T < length (old ++ more)
more_length old more T l = simp length-append (omega arith)

has_form : (old more : Table) (p : Option Form → Bool) (T : ℕ) → p None ≡ false → p (form_at old T) ≡ true → p (form_at (old ++ more) T) ≡ true
has_form old more p T none e = go (form_at old T) refl e
  where
    go : (o : Option Form) → form_at old T ≡ o → p o ≡ true → p (form_at (old ++ more) T) ≡ true
    go None f e = absurd (false≢true (sym none ∙ e))
    go (Some form) f e = rw (form_extended old more T form f) e

AllowsType-extended : (old more : Table) (kind : Kind) (T : ℕ) → AllowsType old kind T → AllowsType (old ++ more) kind T
AllowsType-extended old more Kind.named T a = more_length old more T a
AllowsType-extended old more Kind.object T a = more_length old more T a
AllowsType-extended old more Kind.buffer T a = has_form old more has_buffer T refl a
AllowsType-extended old more Kind.node T a = has_form old more has_nodes T refl a
AllowsType-extended old more Kind.index_buffer T a = a
AllowsType-extended old more Kind.index_node T a = a
AllowsType-extended old more Kind.frozen T a = more_length old more T a

module _ (bytes : List ℕ) (old more : Table) (valid : IsTable old) where
  typed : {place : Place} {v : Value} {xs : List ℕ} → Holds bytes old place v xs → place.type < length old
  typed {place = place} (holds form opened inside owned f o hs v_is xs_is) = below_length old place.type form f

  -- values of a known type have the same size
  known_size : (at U : ℕ) (vs : Values) (blocks : List ℕ) → HoldsEach bytes old (items old at U (count vs)) vs blocks → count vs * size (old ++ more) U ≡ count vs * size old U
  known_size at U nil blocks h = grind arith
  known_size at U (cons v vs) blocks (holds_more h hs) = ap (λ n. count (cons v vs) * n) (sym (size_extended old more U (typed h)))

  same_items : (at U : ℕ) (vs : Values) (blocks : List ℕ) → HoldsEach bytes old (items old at U (count vs)) vs blocks → items (old ++ more) at U (count vs) ≡ items old at U (count vs)
  same_items at U nil blocks h = refl
  same_items at U (cons v vs) blocks (holds_more h hs) = ap (λ n. places_of U (spaced at n (count (cons v vs)))) (sym (size_extended old more U (typed h)))

  HoldsRoot-extended : (root : Root) (blocks : List ℕ) → HoldsRoot bytes old root blocks → HoldsRoot bytes (old ++ more) root blocks
  HoldsRoot-extended root blocks o =
      let sizes = known_size root.at root.type root.values o.inside o.values in
      record {
        before = o.before;
        block = rw sizes o.block;
        words_are = o.words_are;
        name_is = rw sizes o.name_is;
        inside = o.inside;
        values = subst (λ ps. HoldsEach bytes (old ++ more) ps root.values o.inside) (sym (same_items root.at root.type root.values o.inside o.values)) (HoldsEach-extended bytes old more valid o.values);
        blocks_are = o.blocks_are;
      }

  HoldsRoots-extended : {roots : List Root} {blocks : List ℕ} → HoldsRoots bytes old roots blocks → HoldsRoots bytes (old ++ more) roots blocks
  HoldsRoots-extended holds_no_root = holds_no_root
  HoldsRoots-extended (holds_more_roots {root = root} {blocks = blocks} h hs) = holds_more_roots (HoldsRoot-extended root blocks h) (HoldsRoots-extended hs)

-- ---- bytes whose heap is the same

record Within (from to at units : ℕ) : Type 0 where
  low : from ≤ at
  size : 2 ≤ units
  high : at + 16 * units ≤ to

tiles_within : (ts : List Tile) (from to : ℕ) → Fill from ts to → AllByRecursion (λ t. Within from to t.at t.units) ts
tiles_within [] from to f = tt
tiles_within (t ∷ ts) from to f =
    let le = Fill-le ts (from + 16 * t.units) to f.2 in (
      record { low = omega (arith, f.0); size = f.1; high = omega (arith, f.0) },
      each_weaker _ _ (λ s w. record { low = omega (arith, w.low); size = w.size; high = w.high }) ts (tiles_within ts (from + 16 * t.units) to f.2),
    )

free_within : (P : ℕ → ℕ → Type 0) (ts : List Tile) → AllByRecursion (λ t. P t.at t.units) ts → AllByRecursion (λ g. P g.at g.units) (free_of ts)
free_within P [] a = tt
free_within P (t ∷ ts) a =
    let rest = free_within P ts a.1 in
    elim t.live as (λ b. AllByRecursion (λ g. P g.at g.units) (cond b (free_of ts) (span_of t ∷ free_of ts))) [ true ↦ rest | false ↦ (a.0, rest) ]

module _ (old new : List ℕ) (allocator : ℕ) (heap : IsHeap allocator old) (len : length new ≡ length old) (low : IsSame old new 24 4) (high : IsSame old new heap_start (length old - heap_start)) where
  in_heap : (p n : ℕ) → heap_start ≤ p → p + n ≤ length old → IsSame old new p n
  in_heap p n l h = IsSame-part old new heap_start (length old - heap_start) p n l (omega arith) high

  all_within : AllByRecursion (λ t. Within heap_start (length old) t.at t.units) (tiles old)
  all_within = tiles_within (tiles old) heap_start (length old) heap.filled

  pub heap_same : KeepsTiles old new
  heap_same = record {
    length_kept = len;
    root_kept = low;
    headers_kept = each_weaker _ _ (λ t w. in_heap t.at 16 w.low (omega (arith, w.size, w.high))) (tiles old) all_within;
    free_kept = subst (λ gs. AllByRecursion (λ g. IsSame old new (g.at + 16) 16) gs) (sym (gaps-free old allocator heap))
        (each_weaker _ _ (λ g w. in_heap (g.at + 16) 16 (omega (arith, w.low)) (omega (arith, w.size, w.high))) (free_of (tiles old)) (free_within (Within heap_start (length old)) (tiles old) all_within));
  }

  block_same : (h : ℕ) → LiesIn old heap_start (length old) h → KeepsBlock old new h
  block_same h l =
      let first : word new h ≡ word old h = word-same old new h (in_heap h 4 l.low (omega (arith, l.high, l.size))) in
      record {
        live = rw first refl;
        has_tag = word-same old new (h + 8) (in_heap (h + 8) 4 (omega (arith, l.low)) (omega (arith, l.high, l.size)));
        room = rw first (omega arith);
        payload = in_heap (h + 16) (payload_size old h) (omega (arith, l.low)) (omega (arith, l.high, l.size));
      }

  pub blocks_same : (xs : List ℕ) → SameBlocks (positions (live old)) xs → AllByRecursion (KeepsBlock old new) xs
  blocks_same xs same = each_same (KeepsBlock old new) (positions (live old)) xs same (each_weaker _ _ (λ h l. block_same h l) (positions (live old)) (live-lie old allocator heap))

-- ---- the image

pub header_same : (old new : List ℕ) → length new ≡ length old → IsSame old new 0 64 → HasHeader old → HasHeader new
header_same old new len h o =
    let part = λ (at n : ℕ) (fits : at + n ≤ 64). IsSame-part old new 0 64 at n (omega arith) (omega arith) h in
    record {
      not_small = rw len o.not_small;
      not_large = rw len o.not_large;
      whole_units = rw len o.whole_units;
      magic = part 0 8 (omega arith) ∙ o.magic;
      version = subst (λ n. IsVersion n (word new next_word)) (sym (word-same old new version_word (part version_word 4 (omega arith))))
          (subst (IsVersion (word old version_word)) (sym (word-same old new next_word (part next_word 4 (omega arith)))) o.version);
      units_are = rw (word-same old new 12 (part 12 4 (omega arith)), len) o.units_are;
      allocator_is = rw (word-same old new 16 (part 16 4 (omega arith))) o.allocator_is;
      index_is = rw (word-same old new 20 (part 20 4 (omega arith))) o.index_is;
      zeros = part 40 24 (omega arith) ∙ o.zeros;
    }

pub types_added : (old new : List ℕ) (picture : Picture) (more : Table) → IsHeld old picture → length new ≡ length old → IsSame old new 0 64 → IsSame old new 576 (length old - 576) → HasTable new 64 (picture.table ++ more)
    → IsTable (picture.table ++ more) → AreOfVersion (word old version_word) (picture.table ++ more)
    → IsHeld new (record picture { table = picture.table ++ more })
types_added old new picture more held len low high types valid of_version =
    let l = held.laid_out in
    let heap = l.heap in
    let long = l.header.not_small in
    let all_high : IsSame old new heap_start (length old - heap_start) = IsSame-part old new 576 (length old - 576) heap_start (length old - heap_start) (omega arith) (omega arith) high in
    let root = IsSame-part old new 0 64 24 4 (omega arith) (omega arith) low in
    let tiles_same = heap_same old new (word old 16) heap len root all_high in
    let kept = blocks_same old new (word old 16) heap len root all_high (held.index_blocks ++ held.root_blocks) held.owners in
    let allocator : word new 16 ≡ word old 16 = word-same old new 16 (IsSame-part old new 0 64 16 4 (omega arith) (omega arith) low) in
    let same_live = live-kept old new (word old 16) heap tiles_same in
    record {
      index_blocks = held.index_blocks;
      laid_out = record {
        header = header_same old new len low l.header;
        types = types;
        is_table = valid;
        of_version = subst (λ n. AreOfVersion n (picture.table ++ more)) (sym (word-same old new version_word (IsSame-part old new 0 64 version_word 4 (omega arith) (omega arith) low))) of_version;
        heap = rw allocator (IsHeap-kept old new (word old 16) heap tiles_same);
        blocks = each_weaker _ _ (λ b o. record { kind = o.kind; type = o.type; allowed = AllowsType-extended picture.table more o.kind o.type o.allowed; tag_is = o.tag_is; link_is = o.link_is }) (live new)
            (IsOwnable-kept old new (word old 16) heap tiles_same picture.table l.blocks);
        names = ListsNames-kept old new picture.names held.index_blocks (IsSame-part old new 0 64 20 4 (omega arith) (omega arith) low) (IsSame-part old new 0 64 32 8 (omega arith) (omega arith) low)
            (each_left _ held.index_blocks held.root_blocks kept) l.names;
        uniques = ListsUniques-kept old new picture.uniques (IsSame-part old new 576 (length old - 576) 576 128 (omega arith) (omega arith) high) l.uniques;
        plain = l.plain;
      };
      root_blocks = held.root_blocks;
      roots = HoldsRoots-extended new picture.table more l.is_table (HoldsRoots-kept old new picture.table l.is_table held.roots (each_right _ held.index_blocks held.root_blocks kept));
      owners = λ h. ap (λ bs. times h (positions bs)) same_live ∙ held.owners h;
    }
