-- Calls on small heaps, byte by byte.
use Rattle.std.proofs.Common.{◌≡◌, true, false, List, [], ◌∷◌, length, refl, Some, lit≤, subst, arith}
use Rattle.std.specs.Prelude.{Contains}
use Rattle.seg_spec.specs.Bytes.{slice, put, number_of, number, set_number}
use Rattle.seg_spec.specs.Pointer.{target}
use Rattle.seg_spec.specs.Heap.{Span, span, Tile, live, Fill, AreHeaders, heap_start, Takes, Gives, Expands}
use Rattle.seg_spec.specs.Fixtures.{empty, taken, widened, given_back}
use Rattle.seg_spec.proofs.SliceLaws.{Agrees-same_slice}
use Rattle.seg_spec.proofs.Heap.KeptBlockLaws.{each_contained}
use Rattle.test_definitions.proofs.WorkedImages.ImageEvaluationLaws.{live_evaluated, heap_evaluated}
use Rattle.test_definitions.proofs.WorkedImages.SoundImages.{empty_tiles, empty_fill, empty_headers}

abbrev taken_tiles : List Tile
taken_tiles = record { at = 704; units = 2; live = true } ∷ record { at = 736; units = 2; live = false } ∷ []

taken_fill : Fill heap_start taken_tiles (length taken)
unfolding taken empty slice put set_number
taken_fill = (refl, lit≤ tt, (refl, lit≤ tt, refl))

taken_headers : AreHeaders taken 0 taken_tiles
unfolding taken empty slice put set_number number number_of
taken_headers = (record { units_is = refl; live_is = refl; before_is = refl; tag_is = λ e. cc }, (record { units_is = refl; live_is = refl; before_is = refl; tag_is = λ e. refl }, tt))

abbrev grown_tiles : List Tile
grown_tiles = record { at = 704; units = 4; live = true } ∷ []

grown_fill : Fill heap_start grown_tiles (length widened)
unfolding widened taken empty slice put set_number
grown_fill = (refl, lit≤ tt, refl)

grown_headers : AreHeaders widened 0 grown_tiles
unfolding widened taken empty slice put set_number number number_of
grown_headers = (record { units_is = refl; live_is = refl; before_is = refl; tag_is = λ e. cc }, tt)

given_fill : Fill heap_start empty_tiles (length given_back)
unfolding given_back taken empty slice put set_number
given_fill = (refl, lit≤ tt, refl)

given_headers : AreHeaders given_back 0 empty_tiles
unfolding given_back taken empty slice put set_number number number_of
given_headers = (record { units_is = refl; live_is = refl; before_is = refl; tag_is = λ e. refl }, tt)

live_empty : live empty ≡ []
live_empty = live_evaluated empty empty_tiles empty_fill empty_headers

live_taken : live taken ≡ span 704 2 ∷ []
live_taken = live_evaluated taken taken_tiles taken_fill taken_headers

live_grown : live widened ≡ span 704 4 ∷ []
live_grown = live_evaluated widened grown_tiles grown_fill grown_headers

live_given : live given_back ≡ []
live_given = live_evaluated given_back empty_tiles given_fill given_headers

none_contained : (bs : List Span) (b : Span) → bs ≡ [] → Contains bs b → ⊥
none_contained bs b e c = each_contained (λ x. ⊥) [] b tt (subst (λ xs. Contains xs b) e c)

one_contained : (bs : List Span) (b s : Span) → bs ≡ s ∷ [] → Contains bs b → b ≡ s
one_contained bs b s e c = each_contained (λ x. x ≡ s) (s ∷ []) b (refl, tt) (subst (λ xs. Contains xs b) e c)

pub takes : Takes 0 empty taken 2 (Some 704)
unfolding taken empty slice put set_number number number_of target
takes = record {
  heap = heap_evaluated taken taken_tiles taken_fill taken_headers 0 ((λ e. refl), ((λ e. cc), tt)) (refl, refl) (lit≤ tt);
  kept = record {
    length_kept = refl;
    front_kept = Agrees-same_slice empty taken 0 24 refl refl;
    back_kept = Agrees-same_slice empty taken 28 676 refl refl;
    blocks_kept = λ b c old new e. absurd (none_contained (live empty) b live_empty old);
  };
  taken = rw live_empty (refl, live_taken, refl);
}

pub expands : Expands 0 taken widened 704 2 3 true
unfolding widened taken empty slice put set_number number number_of target
expands = record {
  heap = heap_evaluated widened grown_tiles grown_fill grown_headers 0 ((λ e. refl), tt) refl (lit≤ tt);
  kept = record {
    length_kept = refl;
    front_kept = Agrees-same_slice taken widened 0 24 refl refl;
    back_kept = Agrees-same_slice taken widened 28 676 refl refl;
    blocks_kept = λ b c old new e.
        let was = one_contained (live taken) b (span 704 2) live_taken old in
        let is = one_contained (live widened) c (span 704 4) live_grown new in
        rw (was, is) (Agrees-same_slice taken widened 712 24 refl refl);
  };
  unchanged = λ less. absurd (omega arith);
  expands = rw live_taken (refl, live_grown);
}

pub gives : Gives 0 taken given_back 704
unfolding given_back taken empty slice put set_number number number_of target
gives = record {
  heap = heap_evaluated given_back empty_tiles given_fill given_headers 0 ((λ e. cc), tt) (refl, refl) (lit≤ tt);
  kept = record {
    length_kept = refl;
    front_kept = Agrees-same_slice taken given_back 0 24 refl refl;
    back_kept = Agrees-same_slice taken given_back 28 676 refl refl;
    blocks_kept = λ b c old new e. absurd (none_contained (live given_back) c live_given new);
  };
  given = rw live_taken live_given;
}
