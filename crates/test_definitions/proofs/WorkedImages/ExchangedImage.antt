-- The image in which x and the index are in each other's blocks is sound.
use Rattle.std.proofs.Common.{◌≡◌, ◌≤◌, true, inr, List, [], ◌∷◌, length, refl, pos, lit<, lit≤, arith, subst, sym}
use Rattle.std.proofs.lemmas.List.Elements.{All-cons, All-nil}
use Rattle.std.specs.List.{AllByRecursion}
use Rattle.seg_spec.specs.Bytes.{word, slice, number_of, number, signed}
use Rattle.seg_spec.specs.Pointer.{target}
use Rattle.seg_spec.specs.Types.{Form, size}
use Rattle.seg_spec.specs.Value.{Int, nil, cons}
use Rattle.seg_spec.specs.Heap.{Tile, Fill, AreHeaders, heap_start}
use Rattle.seg_spec.specs.Block.{Kind, IsOwnable}
use Rattle.seg_spec.specs.Reads.{Holds, holds, holds_none, holds_more}
use Rattle.seg_spec.specs.Header.{next_word}
use Rattle.seg_spec.specs.Index.{Root, plain_root}
use Rattle.seg_spec.specs.Shared.{names_in, names_each}
use Rattle.seg_spec.specs.Images.{IsSound}
use Rattle.seg_spec.specs.Sound.{Picture, HoldsRoot, holds_no_root, holds_more_roots, IsLaidOut, IsHeld, times, positions}
use Rattle.test_definitions.specs.RefusedOutcomes.{exchanged}
use Rattle.test_definitions.proofs.WorkedImages.ImageEvaluationLaws.{live_evaluated, heap_evaluated, uniques_evaluated, unshared, numbers-valid}
use Rattle.test_definitions.proofs.WorkedImages.SharedImages.{all_types}

abbrev exchanged_root : Root
exchanged_root = plain_root (120 ∷ []) 752 0 (cons (Int (pos 42)) nil)

abbrev exchanged_picture : Picture
exchanged_picture = record { table = Form.i64 ∷ []; names = exchanged_root ∷ []; uniques = []; loose = []; frozen = [] }

abbrev exchanged_tiles : List Tile
exchanged_tiles = record { at = 704; units = 2; live = true } ∷ record { at = 736; units = 3; live = true } ∷ []

exchanged_x : Holds exchanged (Form.i64 ∷ []) (record { at = 752; type = 0 }) (Int (pos 42)) []
unfolding exchanged slice number number_of signed
exchanged_x = holds Form.i64 _ nil [] refl refl holds_none refl refl

exchanged_holds : HoldsRoot exchanged (Form.i64 ∷ []) exchanged_root (736 ∷ [])
unfolding exchanged slice number number_of size
exchanged_holds = record {
  before = lit≤ tt;
  block = record { after_header = lit≤ tt; live = refl; has_tag = refl; room = lit≤ tt };
  words_are = tt;
  name_is = refl;
  inside = [];
  values = holds_more exchanged_x holds_none;
  blocks_are = refl;
}

exchanged_fill : Fill heap_start exchanged_tiles (length exchanged)
unfolding exchanged
exchanged_fill = (refl, lit≤ tt, (refl, lit≤ tt, refl))

exchanged_headers : AreHeaders exchanged 0 exchanged_tiles
unfolding exchanged slice number number_of
exchanged_headers = (record { units_is = refl; live_is = refl; before_is = refl; tag_is = λ e. cc }, (record { units_is = refl; live_is = refl; before_is = refl; tag_is = λ e. cc }, tt))

exchanged_laid_out : IsLaidOut exchanged exchanged_picture (704 ∷ [])
unfolding exchanged slice number number_of target size
exchanged_laid_out = record {
  header = record {
    not_small = lit≤ tt;
    not_large = lit≤ tt;
    whole_units = refl;
    magic = refl;
    version = inr refl;
    units_are = refl;
    allocator_is = lit≤ tt;
    index_is = lit≤ tt;
    zeros = refl;
  };
  types = refl;
  is_table = numbers-valid;
  of_version = all_types (Form.i64 ∷ []);
  heap = heap_evaluated exchanged exchanged_tiles exchanged_fill exchanged_headers 0 ((λ e. refl), ((λ e. refl), tt)) refl (lit≤ tt);
  blocks = subst (λ bs. AllByRecursion (λ b. IsOwnable exchanged (Form.i64 ∷ []) b.at) bs) (sym (live_evaluated exchanged exchanged_tiles exchanged_fill exchanged_headers))
      (record { kind = Kind.index_buffer; type = 0; allowed = refl; tag_is = refl; link_is = refl }, (record { kind = Kind.named; type = 0; allowed = lit< tt; tag_is = refl; link_is = refl }, tt));
  names = record {
    index = record { blocks = 704 ∷ []; entries = 720 ∷ [] };
    opens = record {
      named_room = record { after_header = lit≤ tt; live = refl; has_tag = refl; room = lit≤ tt };
      none_if_empty = λ e. absurd (omega arith);
      index_is = refl;
    };
    entries = (
      record {
        no_words = refl;
        points = refl;
        counted = refl;
        measured = refl;
        zero_is = refl;
        is_name = record { not_empty = lit≤ tt; short = lit≤ tt; printable = All-cons (λ b. (33 ≤ b) × (b ≤ 126)) 120 [] (lit≤ tt, lit≤ tt) (All-nil (λ b. (33 ≤ b) × (b ≤ 126))) };
        some = lit≤ tt;
        few = lit≤ tt;
      },
      tt,
    );
    ascending = tt;
    blocks_are = refl;
  };
  uniques = uniques_evaluated exchanged [] (search parts 40) tt;
  plain = tt;
}

exchanged_held : IsHeld exchanged exchanged_picture
exchanged_held = record {
  index_blocks = 704 ∷ [];
  laid_out = exchanged_laid_out;
  root_blocks = 736 ∷ [];
  roots = holds_more_roots {blocks = 736 ∷ []} exchanged_holds holds_no_root;
  owners = λ h. subst (λ bs. times h (positions bs) ≡ times h (704 ∷ 736 ∷ [])) (sym (live_evaluated exchanged exchanged_tiles exchanged_fill exchanged_headers)) (omega arith);
}

pub exchanged_sound : IsSound exchanged
unfolding names_in names_each
exchanged_sound = record { picture = exchanged_picture; held = exchanged_held; counted = unshared (word exchanged next_word) exchanged_picture refl refl; none_loose = refl }
