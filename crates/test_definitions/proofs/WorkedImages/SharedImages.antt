-- An image of version 2 with an object that two cells share, and an image of version 1 after it is
-- opened.
use Rattle.std.proofs.Common.{◌≡◌, ℕ, zero, suc, ◌≤◌, true, inl, inr, List, [], ◌∷◌, length, refl, Some, pos, lit<, lit≤, arith, subst, sym}
use Rattle.std.proofs.lemmas.List.Elements.{All-cons, All-nil}
use Rattle.std.specs.List.{AllByRecursion}
use Rattle.seg_spec.specs.Bytes.{slice, put, number_of, number, set_number, set_byte, signed}
use Rattle.seg_spec.specs.Pointer.{target}
use Rattle.seg_spec.specs.Header.{sharing_version}
use Rattle.seg_spec.specs.Types.{Form, Table, form_at, size, IsForm, IsTable, AreOfVersion}
use Rattle.seg_spec.specs.Value.{Int, nil, cons}
use Rattle.seg_spec.specs.Heap.{Tile, Fill, AreHeaders, heap_start}
use Rattle.seg_spec.specs.Block.{Kind, IsPayload, IsOwnable}
use Rattle.seg_spec.specs.Reads.{Holds, holds, holds_none, holds_more}
use Rattle.seg_spec.specs.Index.{plain_root}
use Rattle.seg_spec.specs.Frozen.{root_of_frozen}
use Rattle.seg_spec.specs.Shared.{names_in, names_each}
use Rattle.seg_spec.specs.Counting.{AreCounted}
use Rattle.seg_spec.specs.Images.{IsSound, upgraded}
use Rattle.seg_spec.specs.Sound.{HoldsRoot, holds_no_root, holds_more_roots, IsLaidOut, IsHeld, times, positions}
use Rattle.seg_spec.specs.Fixtures.{counter, sharing_image, sharing_table, sharing_cell, sharing_number, sharing_picture}
use Rattle.seg_spec.proofs.Images.UpgradeLaws.{any_type, upgraded_sound}
use Rattle.test_definitions.proofs.WorkedImages.ImageEvaluationLaws.{live_evaluated, heap_evaluated, uniques_evaluated}
use Rattle.test_definitions.proofs.WorkedImages.SoundImages.{counter_sound}

abbrev sharing_tiles : List Tile
sharing_tiles = record { at = 704; units = 3; live = true } ∷ record { at = 752; units = 3; live = true } ∷ record { at = 800; units = 2; live = true } ∷ []

some_is : (a b : Form) → Some a ≡ Some b → a ≡ b
some_is a b e = cc

pub sharing_table-valid : IsTable sharing_table
unfolding size
sharing_table-valid = record { few = lit≤ tt; forms = forms; sizes = sizes }
  where
    forms : (T : ℕ) (form : Form) → form_at sharing_table T ≡ Some form → IsForm 2 T form
    forms zero form e = subst (λ f. IsForm 2 0 f) (some_is Form.i64 form e) tt
    forms (suc zero) form e = subst (λ f. IsForm 2 1 f) (some_is (Form.shared 0) form e) (lit< tt)
    forms (suc (suc T)) form e = cc

    sizes : (T : ℕ) → size sharing_table T ≤ 4096
    sizes zero = lit≤ tt
    sizes (suc zero) = lit≤ tt
    sizes (suc (suc T)) = lit≤ tt

pub all_types : (table : Table) → AreOfVersion sharing_version table
all_types table = record { each = λ T form e. any_type form }

-- ---- the values of the roots

some_number : (a b : ℕ) → Some a ≡ Some b → a ≡ b
some_number a b e = cc

first_cell : Holds sharing_image sharing_table (record { at = 720; type = 1 }) sharing_cell []
unfolding sharing_image slice number number_of target
first_cell = holds {place = record { at = 720; type = 1 }} (Form.shared 0) _ nil [] refl
    (record { payload = λ p e. subst IsPayload (some_number 816 p e) (record { low = lit≤ tt; aligned = refl }); counted = refl; opened_is = refl }) holds_none refl refl

second_cell : Holds sharing_image sharing_table (record { at = 728; type = 1 }) sharing_cell []
unfolding sharing_image slice number number_of target
second_cell = holds {place = record { at = 728; type = 1 }} (Form.shared 0) _ nil [] refl
    (record { payload = λ p e. subst IsPayload (some_number 816 p e) (record { low = lit≤ tt; aligned = refl }); counted = refl; opened_is = refl }) holds_none refl refl

the_number : Holds sharing_image sharing_table (record { at = 824; type = 0 }) (Int (pos 41)) []
unfolding sharing_image slice number number_of signed
the_number = holds Form.i64 _ nil [] refl refl holds_none refl refl

cells_hold : HoldsRoot sharing_image sharing_table (plain_root (112 ∷ []) 720 1 (cons sharing_cell (cons sharing_cell nil))) (704 ∷ [])
unfolding sharing_image slice number number_of size
cells_hold = record {
  before = lit≤ tt;
  block = record { after_header = lit≤ tt; live = refl; has_tag = refl; room = lit≤ tt };
  words_are = tt;
  name_is = refl;
  inside = [];
  values = holds_more {blocks = []} first_cell (holds_more {blocks = []} second_cell holds_none);
  blocks_are = refl;
}

number_holds : HoldsRoot sharing_image sharing_table (root_of_frozen sharing_number) (800 ∷ [])
unfolding sharing_image slice number number_of size
number_holds = record {
  before = lit≤ tt;
  block = record { after_header = lit≤ tt; live = refl; has_tag = refl; room = lit≤ tt };
  words_are = (refl, (refl, tt));
  name_is = refl;
  inside = [];
  values = holds_more the_number holds_none;
  blocks_are = refl;
}

-- ---- the image

sharing_fill : Fill heap_start sharing_tiles (length sharing_image)
unfolding sharing_image
sharing_fill = (refl, lit≤ tt, (refl, lit≤ tt, (refl, lit≤ tt, refl)))

sharing_headers : AreHeaders sharing_image 0 sharing_tiles
unfolding sharing_image slice number number_of
sharing_headers = (
  record { units_is = refl; live_is = refl; before_is = refl; tag_is = λ e. cc },
  (
    record { units_is = refl; live_is = refl; before_is = refl; tag_is = λ e. cc },
    (record { units_is = refl; live_is = refl; before_is = refl; tag_is = λ e. cc }, tt),
  ),
)

sharing_laid_out : IsLaidOut sharing_image sharing_picture (752 ∷ [])
unfolding sharing_image slice number number_of target size
sharing_laid_out = record {
  header = record {
    not_small = lit≤ tt;
    not_large = lit≤ tt;
    whole_units = refl;
    magic = refl;
    version = inr refl;
    units_are = refl;
    allocator_is = lit≤ tt;
    index_is = lit≤ tt;
    zeros = refl;
  };
  types = refl;
  is_table = sharing_table-valid;
  of_version = all_types sharing_table;
  heap = heap_evaluated sharing_image sharing_tiles sharing_fill sharing_headers 0 ((λ e. refl), ((λ e. refl), ((λ e. refl), tt))) refl (lit≤ tt);
  blocks = subst (λ bs. AllByRecursion (λ b. IsOwnable sharing_image sharing_table b.at) bs) (sym (live_evaluated sharing_image sharing_tiles sharing_fill sharing_headers)) (
    record { kind = Kind.named; type = 1; allowed = lit< tt; tag_is = refl; link_is = refl },
    (
      record { kind = Kind.index_buffer; type = 0; allowed = refl; tag_is = refl; link_is = refl },
      (record { kind = Kind.frozen; type = 0; allowed = lit< tt; tag_is = refl; link_is = refl }, tt),
    ),
  );
  names = record {
    index = record { blocks = 752 ∷ []; entries = 768 ∷ [] };
    opens = record {
      named_room = record { after_header = lit≤ tt; live = refl; has_tag = refl; room = lit≤ tt };
      none_if_empty = λ e. absurd (omega arith);
      index_is = refl;
    };
    entries = (
      record {
        no_words = refl;
        points = refl;
        counted = refl;
        measured = refl;
        zero_is = refl;
        is_name = record { not_empty = lit≤ tt; short = lit≤ tt; printable = All-cons (λ b. (33 ≤ b) × (b ≤ 126)) 112 [] (lit≤ tt, lit≤ tt) (All-nil (λ b. (33 ≤ b) × (b ≤ 126))) };
        some = lit≤ tt;
        few = lit≤ tt;
      },
      tt,
    );
    ascending = tt;
    blocks_are = refl;
  };
  uniques = uniques_evaluated sharing_image [] (search parts 40) tt;
  plain = tt;
}

pub sharing_held : IsHeld sharing_image sharing_picture
sharing_held = record {
  index_blocks = 752 ∷ [];
  laid_out = sharing_laid_out;
  root_blocks = 704 ∷ 800 ∷ [];
  roots = holds_more_roots {blocks = 704 ∷ []} cells_hold (holds_more_roots {blocks = 800 ∷ []} number_holds holds_no_root);
  owners = λ h. subst (λ bs. times h (positions bs) ≡ times h (752 ∷ 704 ∷ 800 ∷ [])) (sym (live_evaluated sharing_image sharing_tiles sharing_fill sharing_headers)) (omega arith);
}

-- the number counts both cells
pub sharing_counted : AreCounted 1 sharing_picture
unfolding names_in names_each
sharing_counted = record {
  counted = record {
    distinct = (tt, tt);
    numbered = (lit< tt, tt);
    named = (inl (refl, refl, lit< tt), (inl (refl, refl, lit< tt), tt));
    falling = (tt, tt);
    some = (lit≤ tt, tt);
    counts = (refl, tt);
  };
  falling = (tt, tt);
}

pub sharing_sound : IsSound sharing_image
unfolding sharing_image slice number number_of
sharing_sound = record { picture = sharing_picture; held = sharing_held; counted = sharing_counted; none_loose = refl }

-- ---- an image of version 1 as it is opened

pub opened_sound : IsSound (upgraded counter)
opened_sound = upgraded_sound counter counter_sound

pub opened_bytes : upgraded counter ≡ set_byte counter 8 2
unfolding counter put set_number
opened_bytes = refl
