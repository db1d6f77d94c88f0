-- Parts of an image, and an image built from its parts.
use Rattle.std.proofs.Common.{◌≡◌, ℕ, ◌^◌, ◌≤◌, true, List, [], ◌∷◌, ◌++◌, length, get_or, refl, sym, ap, subst, lit<, lit≤, arith, inl, inr}
use Rattle.std.proofs.lemmas.Bool.{cases_lt}
use Rattle.std.specs.List.{AllByRecursion}
use Rattle.seg_spec.specs.Bytes.{slice, put, number, number_of, word, set_number}
use Rattle.seg_spec.specs.Pointer.{target}
use Rattle.seg_spec.specs.Types.{Form, Table, size, form_bytes, version_of, IsRight, IsFirstWrong}
use Rattle.seg_spec.specs.Heap.{Tile, Fill, AreHeaders, AreApart, heap_start, tag_at, live, live_of, gaps, gaps_of, HoldsGaps, IsHeap}
use Rattle.seg_spec.specs.Block.{Kind, IsOwnable}
use Rattle.seg_spec.specs.Images.{IsSound}
use Rattle.seg_spec.specs.Sound.{HasHeader, IsLaidOut, holds_no_root, SameBlocks, times, positions}
use Rattle.seg_spec.specs.Header.{version_word, next_word, sharing_version}
use Rattle.seg_spec.specs.Faulty.{IsImageLength, IsTagOf, HasTiles, HoldsAll, HasFront, LacksHeader, LacksType, LacksTiles, LacksGaps, LacksContent, LacksOwner, Failure, Lacks}
use Rattle.seg_spec.specs.Fixtures.{counter, empty, neighbours, linked, odd_kind, lost_gap, two_owners, no_owner, other_magic, odd_type, empty_picture}
use Rattle.seg_spec.proofs.Images.UnsoundImageLaws.{right_types}
use Rattle.seg_spec.proofs.Tables.OneTableLaws.{HasTable-one}
use Rattle.seg_spec.proofs.Heap.TileLaws.{tiles-unique}
use Rattle.seg_spec.proofs.Heap.LiveBlockLaws.{each_there}
use Rattle.test_definitions.proofs.WorkedImages.ImageEvaluationLaws.{live_evaluated, gaps_evaluated, heap_evaluated, uniques_evaluated, unshared, numbers-valid, numbers-old}
use Rattle.test_definitions.proofs.WorkedImages.SoundImages.{counter_tiles, empty_tiles, counter_sound}
use Rattle.seg_spec.proofs.Images.OwnedTagLaws.{tags_of_version}
use Rattle.test_definitions.proofs.WorkedImages.UnsoundImages.{linked_live, odd_kind_live, two_free, two_owners-unsound, no_owner-unsound}

pub image_length : (bytes : List ℕ) → HasHeader bytes → IsImageLength (length bytes)
image_length bytes h = record { not_small = h.not_small; not_large = h.not_large; whole_units = h.whole_units }

pub heap_of_tiles : (bytes : List ℕ) (table : Table) (allocator : ℕ) → HasTiles bytes table → HoldsGaps allocator bytes (gaps bytes) → length bytes ≤ 2 ^ 30 → IsHeap allocator bytes
heap_of_tiles bytes table allocator t free small = record { filled = t.filled; headers = t.headers; apart = t.apart; free = free; small = small }

pub all_held : (bytes : List ℕ) → IsSound bytes → HoldsAll bytes
all_held bytes s =
    let owned = s.held.index_blocks ++ s.held.root_blocks in
    record {
      picture = s.picture;
      none_loose = s.none_loose;
      counted = s.counted;
      index_blocks = s.held.index_blocks;
      laid_out = s.held.laid_out;
      of_version = tags_of_version bytes s;
      root_blocks = s.held.root_blocks;
      roots = s.held.roots;
      live_ones = each_there (λ h. 1 ≤ times h (positions (live bytes))) owned (λ h some. let same = s.held.owners h in omega arith);
    }

pub sound_of_all : (bytes : List ℕ) (h : HoldsAll bytes) → SameBlocks (positions (live bytes)) (h.index_blocks ++ h.root_blocks) → IsSound bytes
sound_of_all bytes h owners = record {
  picture = h.picture;
  held = record { index_blocks = h.index_blocks; laid_out = h.laid_out; root_blocks = h.root_blocks; roots = h.roots; owners = owners };
  counted = h.counted;
  none_loose = h.none_loose;
}

-- ---- what is wrong excludes a sound image, and what is wrong before

tiles_there : (bytes : List ℕ) (t u : Table) → HasFront bytes t → HasFront bytes u → HasTiles bytes t → HasTiles bytes u
tiles_there bytes t u f g tiles = subst (HasTiles bytes) (HasTable-one bytes 64 t u f.is_table g.is_table f.types g.types) tiles

one_entry : (version : ℕ) (bytes : List ℕ) (j k : ℕ) → IsFirstWrong version bytes j → IsFirstWrong version bytes k → j ≡ k
one_entry version bytes j k f g = elim (cases_lt j k) [
  | inl less ↦ absurd (g.right_before j less f.wrong)
  | inr above ↦ (elim (cases_lt k j) [
    | inl less ↦ absurd (f.right_before k less g.wrong)
    | inr below ↦ omega arith
  ])
]

pub one_failure : (bytes : List ℕ) (failure other : Failure) → Lacks bytes failure → Lacks bytes other → failure ≡ other
one_failure bytes Failure.bad_header Failure.bad_header l m = refl
one_failure bytes Failure.bad_header (Failure.bad_type k) l m = absurd (l m.0)
one_failure bytes Failure.bad_header Failure.bad_tiles l m = absurd (l m.1.header)
one_failure bytes Failure.bad_header Failure.bad_gaps l m = absurd (l m.1.header)
one_failure bytes Failure.bad_header Failure.bad_content l m = absurd (l m.1.header)
one_failure bytes (Failure.bad_type j) Failure.bad_header l m = absurd (m l.0)
one_failure bytes (Failure.bad_type j) (Failure.bad_type k) l m = ap Failure.bad_type (one_entry (word bytes version_word) (slice bytes 64 512) j k l.1 m.1)
one_failure bytes (Failure.bad_type j) Failure.bad_tiles l m = absurd (right_types bytes m.0 j m.1 l)
one_failure bytes (Failure.bad_type j) Failure.bad_gaps l m = absurd (right_types bytes m.0 j m.1 l)
one_failure bytes (Failure.bad_type j) Failure.bad_content l m = absurd (right_types bytes m.0 j m.1 l)
one_failure bytes Failure.bad_tiles Failure.bad_header l m = absurd (m l.1.header)
one_failure bytes Failure.bad_tiles (Failure.bad_type k) l m = absurd (right_types bytes l.0 k l.1 m)
one_failure bytes Failure.bad_tiles Failure.bad_tiles l m = refl
one_failure bytes Failure.bad_tiles Failure.bad_gaps l m = absurd (l.2 (tiles_there bytes m.0 l.0 m.1 l.1 m.2))
one_failure bytes Failure.bad_tiles Failure.bad_content l m = absurd (l.2 (tiles_there bytes m.0 l.0 m.1 l.1 m.2))
one_failure bytes Failure.bad_gaps Failure.bad_header l m = absurd (m l.1.header)
one_failure bytes Failure.bad_gaps (Failure.bad_type k) l m = absurd (right_types bytes l.0 k l.1 m)
one_failure bytes Failure.bad_gaps Failure.bad_tiles l m = absurd (m.2 (tiles_there bytes l.0 m.0 l.1 m.1 l.2))
one_failure bytes Failure.bad_gaps Failure.bad_gaps l m = refl
one_failure bytes Failure.bad_gaps Failure.bad_content l m = absurd (l.3 m.3)
one_failure bytes Failure.bad_content Failure.bad_header l m = absurd (m l.1.header)
one_failure bytes Failure.bad_content (Failure.bad_type k) l m = absurd (right_types bytes l.0 k l.1 m)
one_failure bytes Failure.bad_content Failure.bad_tiles l m = absurd (m.2 (tiles_there bytes l.0 m.0 l.1 m.1 l.2))
one_failure bytes Failure.bad_content Failure.bad_gaps l m = absurd (m.3 l.3)
one_failure bytes Failure.bad_content Failure.bad_content l m = refl

pub owner_is_content : (bytes : List ℕ) → LacksOwner bytes → LacksContent bytes
owner_is_content bytes l =
    let laid_out = l.0.laid_out in (
      l.0.picture.table,
      record { header = laid_out.header; types = laid_out.types; is_table = laid_out.is_table; of_version = laid_out.of_version },
      record { filled = laid_out.heap.filled; headers = laid_out.heap.headers; apart = laid_out.heap.apart; ownable = laid_out.blocks; of_version = l.0.of_version },
      laid_out.heap.free,
      l.1,
    )

-- ---- small images

has_tiles : (bytes : List ℕ) (table : Table) (ts : List Tile) → Fill heap_start ts (length bytes) → AreHeaders bytes 0 ts → AreApart true ts → AllByRecursion (λ b. IsOwnable bytes table b.at) (live_of ts)
    → AllByRecursion (λ b. IsTagOf (word bytes version_word) (tag_at bytes b.at)) (live_of ts) → HasTiles bytes table
has_tiles bytes table ts fill headers apart ownable of_version =
    let same = tiles-unique bytes ts fill headers in
    record {
      filled = rw same fill;
      headers = rw same headers;
      apart = rw same apart;
      ownable = subst (λ bs. AllByRecursion (λ b. IsOwnable bytes table b.at) bs) (sym (live_evaluated bytes ts fill headers)) ownable;
      of_version = subst (λ bs. AllByRecursion (λ b. IsTagOf (word bytes version_word) (tag_at bytes b.at)) bs) (sym (live_evaluated bytes ts fill headers)) of_version;
    }

pub lost_gap-tiles : HasTiles lost_gap (Form.i64 ∷ [])
unfolding lost_gap empty slice put set_number number number_of
lost_gap-tiles = has_tiles lost_gap (Form.i64 ∷ []) empty_tiles (refl, lit≤ tt, refl) (record { units_is = refl; live_is = refl; before_is = refl; tag_is = λ e. refl }, tt) ((λ e. cc), tt) tt tt

pub neighbours-tiles : (table : Table) → HasTiles neighbours table → ⊥
unfolding neighbours empty slice put number number_of
neighbours-tiles table t =
    let same = tiles-unique neighbours two_free (refl, lit≤ tt, (refl, lit≤ tt, refl)) (
      record { units_is = refl; live_is = refl; before_is = refl; tag_is = λ e. refl },
      (record { units_is = refl; live_is = refl; before_is = refl; tag_is = λ e. refl }, tt),
    ) in
    let apart = subst (λ us. AreApart true us) same t.apart in
    let never = apart.1.0 refl in
    cc

pub linked-tiles : (table : Table) → HasTiles linked table → ⊥
unfolding linked counter slice put set_number number number_of target
linked-tiles table t =
    let blocks = subst (λ bs. AllByRecursion (λ b. IsOwnable linked table b.at) bs) linked_live t.ownable in
    let link = blocks.0.link_is in
    cc

pub odd_kind-tiles : (table : Table) → HasTiles odd_kind table → ⊥
unfolding odd_kind counter slice put set_number number number_of
odd_kind-tiles table t =
    let tags = subst (λ bs. AllByRecursion (λ b. IsTagOf (word odd_kind version_word) (tag_at odd_kind b.at)) bs) odd_kind_live t.of_version in
    let shares : word odd_kind version_word ≡ sharing_version = tags.0 refl in
    cc

pub counter-all : HoldsAll counter
counter-all = all_held counter counter_sound

no_owner-fill : Fill heap_start counter_tiles (length no_owner)
unfolding no_owner counter slice put
no_owner-fill = (refl, lit≤ tt, (refl, lit≤ tt, refl))

no_owner-headers : AreHeaders no_owner 0 counter_tiles
unfolding no_owner counter slice put number number_of
no_owner-headers = (record { units_is = refl; live_is = refl; before_is = refl; tag_is = λ e. cc }, (record { units_is = refl; live_is = refl; before_is = refl; tag_is = λ e. cc }, tt))

no_owner-laid_out : IsLaidOut no_owner empty_picture []
unfolding no_owner counter slice put number number_of target size
no_owner-laid_out = record {
  header = record {
    not_small = lit≤ tt;
    not_large = lit≤ tt;
    whole_units = refl;
    magic = refl;
    version = inl (refl, refl);
    units_are = refl;
    allocator_is = lit≤ tt;
    index_is = lit≤ tt;
    zeros = refl;
  };
  types = refl;
  is_table = numbers-valid;
  of_version = numbers-old;
  heap = heap_evaluated no_owner counter_tiles no_owner-fill no_owner-headers 0 ((λ e. refl), ((λ e. refl), tt)) refl (lit≤ tt);
  blocks = subst (λ bs. AllByRecursion (λ b. IsOwnable no_owner (Form.i64 ∷ []) b.at) bs) (sym (live_evaluated no_owner counter_tiles no_owner-fill no_owner-headers))
      (record { kind = Kind.named; type = 0; allowed = lit< tt; tag_is = refl; link_is = refl }, (record { kind = Kind.index_buffer; type = 0; allowed = refl; tag_is = refl; link_is = refl }, tt));
  names = record {
    index = record { blocks = []; entries = [] };
    opens = record { named_room = refl; none_if_empty = λ e. refl; index_is = refl };
    entries = tt;
    ascending = tt;
    blocks_are = refl;
  };
  uniques = uniques_evaluated no_owner [] (search parts 40) tt;
  plain = tt;
}

pub no_owner-all : HoldsAll no_owner
unfolding no_owner counter slice put number number_of
no_owner-all = record {
  picture = empty_picture;
  none_loose = refl;
  counted = unshared (word no_owner next_word) empty_picture refl refl;
  index_blocks = [];
  laid_out = no_owner-laid_out;
  of_version = subst (λ bs. AllByRecursion (λ b. IsTagOf (word no_owner version_word) (tag_at no_owner b.at)) bs) (sym (live_evaluated no_owner counter_tiles no_owner-fill no_owner-headers)) ((λ e. cc), ((λ e. cc), tt));
  root_blocks = [];
  roots = holds_no_root;
  live_ones = tt;
}

pub lost_gap-lacks : LacksGaps lost_gap
unfolding lost_gap empty slice put set_number number number_of target size
lost_gap-lacks = (
  Form.i64 ∷ [],
  record {
    header = record {
      not_small = lit≤ tt;
      not_large = lit≤ tt;
      whole_units = refl;
      magic = refl;
      version = inl (refl, refl);
      units_are = refl;
      allocator_is = lit≤ tt;
      index_is = lit≤ tt;
      zeros = refl;
    };
    types = refl;
    is_table = numbers-valid;
    of_version = numbers-old;
  },
  lost_gap-tiles,
  λ free.
      let same : gaps lost_gap ≡ gaps_of (live_of empty_tiles) (length lost_gap) = gaps_evaluated lost_gap empty_tiles (refl, lit≤ tt, refl) (record { units_is = refl; live_is = refl; before_is = refl; tag_is = λ e. refl }, tt) in
      let first = (subst (λ gs. HoldsGaps 0 lost_gap gs) same free).0 in
      cc,
)

pub no_owner-lacks : LacksOwner no_owner
no_owner-lacks = (no_owner-all, no_owner-unsound)

kinds_few : (form : Form) → version_of form ≤ 1 → get_or (form_bytes form) 0 0 ≤ 8
kinds_few Form.i64 old = lit≤ tt
kinds_few Form.str old = lit≤ tt
kinds_few (Form.vec U) old = lit≤ tt
kinds_few (Form.list U) old = lit≤ tt
kinds_few (Form.flat_map U) old = lit≤ tt
kinds_few (Form.map U) old = lit≤ tt
kinds_few (Form.own U) old = lit≤ tt
kinds_few (Form.shared U) old = absurd (omega arith)
kinds_few (Form.struct Us) old = lit≤ tt

odd_entry : IsRight 1 (slice odd_type 64 512) 0 → ⊥
unfolding odd_type counter slice put set_number
odd_entry r = elim r.1 [
  | inl zeros ↦ absurd (omega (arith, ap (λ xs. get_or xs 0 0) zeros))
  | inr entry ↦ absurd (let few = kinds_few entry.0 entry.1.of_version in omega (arith, ap (λ xs. get_or xs 0 0) (entry.1.spelled)))
]

pub odd_type-lacks : LacksType odd_type 0
unfolding odd_type counter slice put set_number number number_of
odd_type-lacks = (
  record {
    not_small = lit≤ tt;
    not_large = lit≤ tt;
    whole_units = refl;
    magic = refl;
    version = inl (refl, refl);
    units_are = refl;
    allocator_is = lit≤ tt;
    index_is = lit≤ tt;
    zeros = refl;
  },
  record { wrong = (lit< tt, odd_entry); right_before = λ j l w. absurd (omega arith) },
)

linked-front : HasFront linked (Form.i64 ∷ [])
unfolding linked counter slice put set_number number number_of
linked-front = record {
  header = record {
    not_small = lit≤ tt;
    not_large = lit≤ tt;
    whole_units = refl;
    magic = refl;
    version = inl (refl, refl);
    units_are = refl;
    allocator_is = lit≤ tt;
    index_is = lit≤ tt;
    zeros = refl;
  };
  types = refl;
  is_table = numbers-valid;
  of_version = numbers-old;
}

pub linked-lacks : LacksTiles linked
linked-lacks = (Form.i64 ∷ [], linked-front, linked-tiles (Form.i64 ∷ []))

pub linked-right_type : LacksType linked 0 → ⊥
linked-right_type l = right_types linked (Form.i64 ∷ []) 0 linked-front l

pub two_owners-lacks : LacksContent two_owners
unfolding two_owners counter slice put set_number number number_of target
two_owners-lacks =
    let fill : Fill heap_start counter_tiles (length two_owners) = (refl, lit≤ tt, (refl, lit≤ tt, refl)) in
    let headers : AreHeaders two_owners 0 counter_tiles = (record { units_is = refl; live_is = refl; before_is = refl; tag_is = λ e. cc }, (record { units_is = refl; live_is = refl; before_is = refl; tag_is = λ e. cc }, tt)) in (
      Form.i64 ∷ [],
      record {
        header = record {
          not_small = lit≤ tt;
          not_large = lit≤ tt;
          whole_units = refl;
          magic = refl;
          version = inl (refl, refl);
          units_are = refl;
          allocator_is = lit≤ tt;
          index_is = lit≤ tt;
          zeros = refl;
        };
        types = refl;
        is_table = numbers-valid;
        of_version = numbers-old;
      },
      has_tiles two_owners (Form.i64 ∷ []) counter_tiles fill headers ((λ e. refl), ((λ e. refl), tt))
          (record { kind = Kind.named; type = 0; allowed = lit< tt; tag_is = refl; link_is = refl }, (record { kind = Kind.index_buffer; type = 0; allowed = refl; tag_is = refl; link_is = refl }, tt)) ((λ e. cc), ((λ e. cc), tt)),
      subst (λ gs. HoldsGaps 0 two_owners gs) (sym (gaps_evaluated two_owners counter_tiles fill headers)) refl,
      two_owners-unsound,
    )

pub lost_gap-tiles_right : LacksTiles lost_gap → ⊥
lost_gap-tiles_right l = let e : Failure.bad_tiles ≡ Failure.bad_gaps = one_failure lost_gap Failure.bad_tiles Failure.bad_gaps l lost_gap-lacks in cc

pub lost_gap-content_right : LacksContent lost_gap → ⊥
lost_gap-content_right l = let e : Failure.bad_content ≡ Failure.bad_gaps = one_failure lost_gap Failure.bad_content Failure.bad_gaps l lost_gap-lacks in cc

pub other_magic-lacks : LacksHeader other_magic
unfolding other_magic counter slice put set_number
other_magic-lacks h = absurd (omega (arith, ap (λ xs. get_or xs 0 0) h.magic))
