-- Writing an empty image.
use Rattle.std.proofs.Common.{◌≡◌, ℕ, zero, suc, ◌+◌, ◌-◌, ◌/◌, ◌^◌, ◌<◌, ◌≤◌, ◌⊎◌, inl, inr, ⊎_elim, List, [], length, take, replicate, Some, None, refl, sym, ap, ◌∙◌, subst, arith}
use Rattle.std.specs.Prelude.{codes}
use Rattle.std.proofs.lemmas.Bool.{cases_eq}
use Rattle.std.proofs.lemmas.List.{length-replicate, take-replicate, drop-replicate}
use Rattle.seg_spec.specs.Bytes.{slice, put, number, number_of, word, set_word, IsSame, ChangesOnly}
use Rattle.seg_spec.specs.Header.{version_word, units_word, allocator_word, index_kind_word, free_word, next_word, index_cell, back_start, reserved, reserved_size}
use Rattle.seg_spec.specs.Header.{types_start, types_size, uniques_start, uniques_size, heap_start, min_length, sharing_version}
use Rattle.seg_spec.specs.Pointer.{target, set_pointer, distance}
use Rattle.seg_spec.specs.Types.{IsTable, size}
use Rattle.seg_spec.specs.Heap.{Begins}
use Rattle.seg_spec.specs.Shapes.{leaf}
use Rattle.seg_spec.specs.Reads.{count_at}
use Rattle.seg_spec.specs.Index.{OpensIndex, unique_word}
use Rattle.seg_spec.specs.Sound.{HasHeader, IsHeld, holds_no_root}
use Rattle.seg_spec.specs.Faulty.{IsImageLength}
use Rattle.seg_spec.proofs.BytesLaws.{number-set_same, number-slice, slice-agrees, length-put}
use Rattle.seg_spec.proofs.SliceLaws.{slice-slice, slice-put_same, put-changes}
use Rattle.seg_spec.proofs.PointerLaws.{target-set_same, target-same}
use Rattle.seg_spec.proofs.Values.CellChangeLaws.{ChangesOnly-trans, ChangesOnly-wider}
use Rattle.seg_spec.proofs.Images.RootWriteLaws.{set_number-changes}
use Rattle.seg_cells.specs.declared.kind.IndexKind.{IndexKind}
use Rattle.seg_cells.specs.declared.kind.IndexKind.TheVariants as kinds
use Rattle.seg_manager.specs.NewSegments.{nothing, word_of_kind}

-- ---- zeros

zeros_sliced : (m p n : ℕ) → p + n ≤ m → slice (replicate m 0) p n ≡ replicate n 0
unfolding slice
zeros_sliced m p n fits = ap (take n) (drop-replicate p m 0) ∙ take-replicate n (m - p) 0 (omega arith)

zero_word_at : (bytes : List ℕ) (p : ℕ) → slice bytes p 4 ≡ replicate 4 0 → word bytes p ≡ 0
unfolding number number_of
zero_word_at bytes p e = ap (number_of 4) e

-- ---- an empty table, index and table of unique objects

no_types : IsTable []
unfolding size
no_types = record { few = omega arith; forms = λ T form e. absurd (let f : None ≡ Some form = e in cc); sizes = λ T. omega arith }

no_index : (bytes : List ℕ) (kind : ℕ) → target bytes index_cell ≡ None → count_at bytes index_cell ≡ 0 → OpensIndex bytes kind (record { blocks = []; entries = [] })
no_index bytes zero none count = record { named_room = rw none count; none_if_empty = λ e. none; index_is = rw (none, count) refl }
no_index bytes (suc n) none count = record {
  tree = leaf;
  is_tree = rw none tt;
  red_black = record { root = tt; height = 0; balanced = refl };
  counted = sym count;
  are_nodes = tt;
  index_is = refl;
}

pub kind_word : (i : IndexKind) (n : ℕ) → (i ≡ kinds.Flat → n ≡ 0) → (i ≡ kinds.Tree → n ≡ 1) → n ≡ word_of_kind i
kind_word kinds.Flat n f t = f refl
kind_word kinds.Tree n f t = t refl

pub few_kinds_of : (i : IndexKind) → word_of_kind i ≤ 1
few_kinds_of kinds.Flat = omega arith
few_kinds_of kinds.Tree = omega arith

-- the pointer words of the types up to t are null
pub one_more_null : (first old new : List ℕ) (t : ℕ) → ChangesOnly first old uniques_start uniques_size → t < 32 → new ≡ set_pointer old (unique_word t) None
    → (heap_start ≤ length first → (T : ℕ) → T < t → target old (unique_word T) ≡ None)
    → ChangesOnly first new uniques_start uniques_size × (heap_start ≤ length first → (T : ℕ) → T < t + 1 → target new (unique_word T) ≡ None)
one_more_null first old new t changes less new_is nulls =
    let own : ChangesOnly old new (unique_word t) 4 = rw new_is (set_number-changes 4 old (unique_word t) (distance (unique_word t) None)) in
    let same_length = changes.length_kept in (
      ChangesOnly-trans first old new uniques_start uniques_size changes (ChangesOnly-wider old new (unique_word t) 4 uniques_start uniques_size (omega arith) (omega arith) own),
      λ long T below. ⊎_elim
          (λ e. subst (λ U. target new (unique_word U) ≡ None) (sym e) (ap (λ b. target b (unique_word t)) new_is ∙ target-set_same old (unique_word t) None (omega arith) (omega arith) (λ p f. absurd (let g : None ≡ Some p = f in cc))))
          (λ ne. target-same old new (unique_word T) (number-slice 4 old new (unique_word T) (unique_word T) (own.others (unique_word T) 4 (inl (omega arith)))) ∙ nulls long T (omega arith))
          (cases_eq T t),
    )

-- ---- the header

-- The header is written in steps: zeros for the shortest segment, the magic bytes, the version, the length, the allocator,
-- the kind of index, and the index's cell.
module _ (len allocator kind : ℕ) (old zeros magic version units with_allocator with_kind empty : List ℕ) (sized : IsImageLength len) (old_long : length old ≡ len) (zeros_is : zeros ≡ put old 0 (replicate min_length 0))
    (magic_is : magic ≡ put zeros 0 (codes "SEGIMAGE")) (version_is : version ≡ set_word magic version_word sharing_version) (units_is : units ≡ set_word version units_word (len / 16))
    (allocator_is : with_allocator ≡ set_word units allocator_word allocator) (kind_is : with_kind ≡ set_word with_allocator index_kind_word kind) (empty_is : empty ≡ set_pointer with_kind index_cell None)
    (few_allocators : allocator ≤ 1) (few_kinds : kind ≤ 1) where
  abbrev At : List ℕ → List ℕ → ℕ → ℕ → Type 0
  At a b at n = ChangesOnly a b at n

  c1 : At zeros magic 0 8
  c1 = rw magic_is (put-changes zeros 0 (codes "SEGIMAGE"))

  c2 : At magic version 8 4
  c2 = rw version_is (set_number-changes 4 magic version_word sharing_version)

  c3 : At version units 12 4
  c3 = rw units_is (set_number-changes 4 version units_word (len / 16))

  c4 : At units with_allocator 16 4
  c4 = rw allocator_is (set_number-changes 4 units allocator_word allocator)

  c5 : At with_allocator with_kind 20 4
  c5 = rw kind_is (set_number-changes 4 with_allocator index_kind_word kind)

  c6 : At with_kind empty 32 4
  c6 = rw empty_is (set_number-changes 4 with_kind index_cell (distance index_cell None))

  zeros_long : length zeros ≡ len
  zeros_long = ap length zeros_is ∙ length-put old 0 (replicate min_length 0) ∙ old_long

  pub empty_long : length empty ≡ len
  empty_long = c6.length_kept ∙ c5.length_kept ∙ c4.length_kept ∙ c3.length_kept ∙ c2.length_kept ∙ c1.length_kept ∙ zeros_long

  all_zeros : (p n : ℕ) → p + n ≤ min_length → slice zeros p n ≡ replicate n 0
  all_zeros p n fits =
      let low = sized.not_small in
      let front : slice zeros 0 min_length ≡ replicate min_length 0 = ap (λ b. slice b 0 min_length) zeros_is
      ∙ slice-put_same old 0 (replicate min_length 0) min_length (sym (length-replicate {A = ℕ} min_length 0)) (omega (arith, old_long)) in
      let from : 0 + p ≡ p = omega arith in
      let part : slice (slice zeros 0 min_length) p n ≡ slice zeros p n = slice-slice zeros 0 min_length p n fits ∙ ap (λ q. slice zeros q n) from in
      sym part ∙ ap (λ b. slice b p n) front ∙ zeros_sliced min_length p n fits

  -- no later step changes these bytes
  from_kind : (p n : ℕ) → p + n ≤ 32 → IsSame with_kind empty p n
  from_kind p n l = c6.others p n (inl l)

  from_allocator : (p n : ℕ) → p + n ≤ 20 → IsSame with_allocator empty p n
  from_allocator p n l = from_kind p n (omega arith) ∙ c5.others p n (inl l)

  from_units : (p n : ℕ) → p + n ≤ 16 → IsSame units empty p n
  from_units p n l = from_allocator p n (omega arith) ∙ c4.others p n (inl l)

  from_version : (p n : ℕ) → p + n ≤ 12 → IsSame version empty p n
  from_version p n l = from_units p n (omega arith) ∙ c3.others p n (inl l)

  from_magic : (p n : ℕ) → p + n ≤ 8 → IsSame magic empty p n
  from_magic p n l = from_version p n (omega arith) ∙ c2.others p n (inl l)

  after_kind : (p n : ℕ) → 24 ≤ p → IsSame zeros with_kind p n
  after_kind p n l = c5.others p n (inr (omega arith)) ∙ c4.others p n (inr (omega arith)) ∙ c3.others p n (inr (omega arith)) ∙ c2.others p n (inr (omega arith)) ∙ c1.others p n (inr (omega arith))

  zeros_then : (p n : ℕ) → 24 ≤ p → (p + n ≤ 32) ⊎ (36 ≤ p) → p + n ≤ min_length → slice empty p n ≡ replicate n 0
  zeros_then p n l beside fits = c6.others p n beside ∙ after_kind p n l ∙ all_zeros p n fits

  long_enough : min_length ≤ len
  long_enough = sized.not_small

  -- the facts about the bytes before the words of the unique objects, and about the pointer to the
  -- free structure
  pub record Front (bytes : List ℕ) : Type 0 where
    pub magic_there : slice bytes 0 8 ≡ codes "SEGIMAGE"
    pub version_there : word bytes version_word ≡ sharing_version
    pub units_there : word bytes units_word ≡ len / 16
    pub allocator_there : word bytes allocator_word ≡ allocator
    pub kind_there : word bytes index_kind_word ≡ kind
    pub next_there : word bytes next_word ≡ 0
    pub index_there : target bytes index_cell ≡ None
    pub count_there : count_at bytes index_cell ≡ 0
    pub reserved_there : slice bytes reserved reserved_size ≡ replicate reserved_size 0
    pub types_there : slice bytes types_start types_size ≡ replicate types_size 0

  units_small : len / 16 < 2 ^ 32
  units_small = omega (arith, sized.not_large)

  pub front_written : Front empty
  front_written =
      let long = long_enough in
      record {
        magic_there = from_magic 0 8 (omega arith) ∙ ap (λ b. slice b 0 8) magic_is ∙ slice-put_same zeros 0 (codes "SEGIMAGE") 8 refl (omega (arith, zeros_long));
        version_there = number-slice 4 version empty 8 8 (from_version 8 4 (omega arith)) ∙ ap (λ b. word b 8) version_is ∙ number-set_same 4 magic 8 2 (omega (arith, zeros_long, c1.length_kept)) (omega arith);
        units_there = number-slice 4 units empty 12 12 (from_units 12 4 (omega arith)) ∙ ap (λ b. word b 12) units_is
            ∙ number-set_same 4 version 12 (len / 16) (omega (arith, zeros_long, c1.length_kept, c2.length_kept)) (omega (arith, units_small));
        allocator_there = number-slice 4 with_allocator empty 16 16 (from_allocator 16 4 (omega arith)) ∙ ap (λ b. word b 16) allocator_is
            ∙ number-set_same 4 units 16 allocator (omega (arith, zeros_long, c1.length_kept, c2.length_kept, c3.length_kept)) (omega arith);
        kind_there = number-slice 4 with_kind empty 20 20 (from_kind 20 4 (omega arith)) ∙ ap (λ b. word b 20) kind_is
            ∙ number-set_same 4 with_allocator 20 kind (omega (arith, zeros_long, c1.length_kept, c2.length_kept, c3.length_kept, c4.length_kept)) (omega arith);
        next_there = zero_word_at empty 28 (zeros_then 28 4 (omega arith) (inl (omega arith)) (omega arith));
        index_there = ap (λ b. target b 32) empty_is
            ∙ target-set_same with_kind 32 None (omega (arith, zeros_long, c1.length_kept, c2.length_kept, c3.length_kept, c4.length_kept, c5.length_kept)) (omega arith) (λ t e. absurd (let f : None ≡ Some t = e in cc));
        count_there = zero_word_at empty 36 (zeros_then 36 4 (omega arith) (inr (omega arith)) (omega arith));
        reserved_there = zeros_then 40 24 (omega arith) (inr (omega arith)) (omega arith);
        types_there = zeros_then 64 512 (omega arith) (inr (omega arith)) (omega arith);
      }

  -- ---- the words of the unique objects, and the heap

  module _ (ready new : List ℕ) (changes : ChangesOnly empty ready uniques_start uniques_size) (uniques : (T : ℕ) → T < 32 → target ready (unique_word T) ≡ None) (begins : Begins allocator ready new) where
    ready_long : length ready ≡ len
    ready_long = changes.length_kept ∙ empty_long

    pub new_long : length new ≡ len
    new_long = begins.back_kept.length_kept ∙ ready_long

    low : (p n : ℕ) → p + n ≤ free_word → IsSame empty new p n
    low p n l = slice-agrees ready new 0 free_word p n begins.front_kept (omega arith) l (omega (arith, ready_long, long_enough)) ∙ changes.others p n (inl (omega arith))

    high : (p n : ℕ) → back_start ≤ p → p + n ≤ heap_start → IsSame ready new p n
    high p n l h = slice-agrees ready new back_start heap_start p n begins.back_kept l h (omega (arith, ready_long, long_enough))

    middle : (p n : ℕ) → back_start ≤ p → p + n ≤ uniques_start → IsSame empty new p n
    middle p n l h = high p n l (omega arith) ∙ changes.others p n (inl h)

    pub kind_then : word new index_kind_word ≡ kind
    kind_then = number-slice 4 empty new 20 20 (low 20 4 (omega arith)) ∙ front_written.kind_there

    pub version_then : word new version_word ≡ sharing_version
    version_then = number-slice 4 empty new 8 8 (low 8 4 (omega arith)) ∙ front_written.version_there

    pub next_then : word new next_word ≡ 0
    next_then = number-slice 4 empty new 28 28 (middle 28 4 (omega arith) (omega arith)) ∙ front_written.next_there

    pub allocator_then : word new allocator_word ≡ allocator
    allocator_then = number-slice 4 empty new 16 16 (low 16 4 (omega arith)) ∙ front_written.allocator_there

    header : HasHeader new
    header =
        let f = front_written in
        record {
          not_small = rw new_long sized.not_small;
          not_large = rw new_long sized.not_large;
          whole_units = rw new_long sized.whole_units;
          magic = low 0 8 (omega arith) ∙ f.magic_there;
          version = inr version_then;
          units_are = let units_then : word new 12 ≡ len / 16 = number-slice 4 empty new 12 12 (low 12 4 (omega arith)) ∙ f.units_there in let whole = sized.whole_units in omega (arith, new_long);
          allocator_is = rw allocator_then few_allocators;
          index_is = rw kind_then few_kinds;
          zeros = middle 40 24 (omega arith) (omega arith) ∙ f.reserved_there;
        }

    pub nothing_held : IsHeld new nothing
    nothing_held =
        let f = front_written in
        let index_is : target new 32 ≡ None = target-same empty new 32 (number-slice 4 empty new 32 32 (middle 32 4 (omega arith) (omega arith))) ∙ f.index_there in
        let count_is : count_at new 32 ≡ 0 = number-slice 4 empty new 36 36 (middle 36 4 (omega arith) (omega arith)) ∙ f.count_there in
        record {
          index_blocks = [];
          laid_out = record {
            header = header;
            types = middle types_start types_size (omega arith) (omega arith) ∙ f.types_there;
            is_table = no_types;
            of_version = record { each = λ T form e. cc };
            heap = rw allocator_then begins.heap;
            blocks = rw begins.no_block tt;
            names = record { index = record { blocks = []; entries = [] }; opens = no_index new (word new index_kind_word) index_is count_is; entries = tt; ascending = tt; blocks_are = refl };
            uniques = record {
              words = λ T less. target-same ready new (unique_word T) (number-slice 4 ready new (unique_word T) (unique_word T) (high (unique_word T) 4 (omega arith) (omega arith))) ∙ uniques T less;
              rising = tt;
            };
            plain = tt;
          };
          root_blocks = [];
          roots = holds_no_root;
          owners = λ h. rw begins.no_block refl;
        }
