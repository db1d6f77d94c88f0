-- The small sound images, and their contents.
use Rattle.std.proofs.Common.{◌≡◌, ◌≤◌, true, false, inl, List, [], ◌∷◌, length, refl, pos, lit<, lit≤, arith, subst, sym}
use Rattle.std.proofs.lemmas.List.Elements.{All-cons, All-nil}
use Rattle.std.specs.List.{AllByRecursion}
use Rattle.seg_spec.specs.Bytes.{slice, number_of, number, word, signed}
use Rattle.seg_spec.specs.Pointer.{target}
use Rattle.seg_spec.specs.Types.{Form, size}
use Rattle.seg_spec.specs.Value.{Int, Text, nil, cons}
use Rattle.seg_spec.specs.Shapes.{leaf, fork, black}
use Rattle.seg_spec.specs.Heap.{Tile, Fill, AreHeaders, heap_start}
use Rattle.seg_spec.specs.Block.{Kind, IsOwnable}
use Rattle.seg_spec.specs.Reads.{Holds, holds, holds_none, holds_more}
use Rattle.seg_spec.specs.Index.{Root, plain_root}
use Rattle.seg_spec.specs.Header.{next_word}
use Rattle.seg_spec.specs.Shared.{names_in, names_each}
use Rattle.seg_spec.specs.Counting.{AreCounted}
use Rattle.seg_spec.specs.Images.{IsSound}
use Rattle.seg_spec.specs.Sound.{HoldsRoot, holds_no_root, holds_more_roots, IsLaidOut, IsHeld, times, positions}
use Rattle.seg_spec.specs.Fixtures.{counter, greeting, empty, empty_tree, counter_picture, greeting_picture, empty_picture}
use Rattle.test_definitions.proofs.WorkedImages.ImageEvaluationLaws.{live_evaluated, heap_evaluated, uniques_evaluated, unshared, numbers-valid, texts-valid, numbers-old, texts-old}

abbrev counter_root : Root
counter_root = plain_root (120 ∷ []) 720 0 (cons (Int (pos 41)) nil)

abbrev pub counter_tiles : List Tile
counter_tiles = record { at = 704; units = 2; live = true } ∷ record { at = 736; units = 3; live = true } ∷ []

counter_x : Holds counter (Form.i64 ∷ []) (record { at = 720; type = 0 }) (Int (pos 41)) []
unfolding counter slice number number_of signed
counter_x = holds Form.i64 _ nil [] refl refl holds_none refl refl

counter_holds : HoldsRoot counter (Form.i64 ∷ []) counter_root (704 ∷ [])
unfolding counter slice number number_of size
counter_holds = record {
  before = lit≤ tt;
  block = record { after_header = lit≤ tt; live = refl; has_tag = refl; room = lit≤ tt };
  words_are = tt;
  name_is = refl;
  inside = [];
  values = holds_more counter_x holds_none;
  blocks_are = refl;
}

pub counter_fill : Fill heap_start counter_tiles (length counter)
unfolding counter
counter_fill = (refl, lit≤ tt, (refl, lit≤ tt, refl))

pub counter_headers : AreHeaders counter 0 counter_tiles
unfolding counter slice number number_of
counter_headers = (record { units_is = refl; live_is = refl; before_is = refl; tag_is = λ e. cc }, (record { units_is = refl; live_is = refl; before_is = refl; tag_is = λ e. cc }, tt))

counter_laid_out : IsLaidOut counter counter_picture (736 ∷ [])
unfolding counter slice number number_of target size
counter_laid_out = record {
  header = record {
    not_small = lit≤ tt;
    not_large = lit≤ tt;
    whole_units = refl;
    magic = refl;
    version = inl (refl, refl);
    units_are = refl;
    allocator_is = lit≤ tt;
    index_is = lit≤ tt;
    zeros = refl;
  };
  types = refl;
  is_table = numbers-valid;
  of_version = numbers-old;
  heap = heap_evaluated counter counter_tiles counter_fill counter_headers 0 ((λ e. refl), ((λ e. refl), tt)) refl (lit≤ tt);
  blocks = subst (λ bs. AllByRecursion (λ b. IsOwnable counter (Form.i64 ∷ []) b.at) bs) (sym (live_evaluated counter counter_tiles counter_fill counter_headers))
      (record { kind = Kind.named; type = 0; allowed = lit< tt; tag_is = refl; link_is = refl }, (record { kind = Kind.index_buffer; type = 0; allowed = refl; tag_is = refl; link_is = refl }, tt));
  names = record {
    index = record { blocks = 736 ∷ []; entries = 752 ∷ [] };
    opens = record {
      named_room = record { after_header = lit≤ tt; live = refl; has_tag = refl; room = lit≤ tt };
      none_if_empty = λ e. absurd (omega arith);
      index_is = refl;
    };
    entries = (
      record {
        no_words = refl;
        points = refl;
        counted = refl;
        measured = refl;
        zero_is = refl;
        is_name = record { not_empty = lit≤ tt; short = lit≤ tt; printable = All-cons (λ b. (33 ≤ b) × (b ≤ 126)) 120 [] (lit≤ tt, lit≤ tt) (All-nil (λ b. (33 ≤ b) × (b ≤ 126))) };
        some = lit≤ tt;
        few = lit≤ tt;
      },
      tt,
    );
    ascending = tt;
    blocks_are = refl;
  };
  uniques = uniques_evaluated counter [] (search parts 40) tt;
  plain = tt;
}

pub counter_held : IsHeld counter counter_picture
counter_held = record {
  index_blocks = 736 ∷ [];
  laid_out = counter_laid_out;
  root_blocks = 704 ∷ [];
  roots = holds_more_roots {blocks = 704 ∷ []} counter_holds holds_no_root;
  owners = λ h. subst (λ bs. times h (positions bs) ≡ times h (736 ∷ 704 ∷ [])) (sym (live_evaluated counter counter_tiles counter_fill counter_headers)) (omega arith);
}

pub counter_counted : AreCounted (word counter next_word) counter_picture
unfolding names_in names_each
counter_counted = unshared (word counter next_word) counter_picture refl refl

pub counter_sound : IsSound counter
counter_sound = record { picture = counter_picture; held = counter_held; counted = counter_counted; none_loose = refl }

-- ---- the text

abbrev greeting_root : Root
greeting_root = plain_root (115 ∷ []) 720 0 (cons (Text (104 ∷ 105 ∷ [])) nil)

abbrev pub greeting_tiles : List Tile
greeting_tiles = record { at = 704; units = 2; live = true } ∷ record { at = 736; units = 3; live = true } ∷ record { at = 784; units = 2; live = true } ∷ []

greeting_s : Holds greeting (Form.str ∷ []) (record { at = 720; type = 0 }) (Text (104 ∷ 105 ∷ [])) (784 ∷ [])
unfolding greeting slice number number_of target
greeting_s = holds {place = record { at = 720; type = 0 }} Form.str _ nil [] refl (record { named_room = record { after_header = lit≤ tt; live = refl; has_tag = refl; room = lit≤ tt }; ascending = tt; opened_is = refl })
    holds_none refl refl

greeting_holds : HoldsRoot greeting (Form.str ∷ []) greeting_root (704 ∷ 784 ∷ [])
unfolding greeting slice number number_of size
greeting_holds = record {
  before = lit≤ tt;
  block = record { after_header = lit≤ tt; live = refl; has_tag = refl; room = lit≤ tt };
  words_are = tt;
  name_is = refl;
  inside = 784 ∷ [];
  values = holds_more greeting_s holds_none;
  blocks_are = refl;
}

pub greeting_fill : Fill heap_start greeting_tiles (length greeting)
unfolding greeting
greeting_fill = (refl, lit≤ tt, (refl, lit≤ tt, (refl, lit≤ tt, refl)))

pub greeting_headers : AreHeaders greeting 0 greeting_tiles
unfolding greeting slice number number_of
greeting_headers = (
  record { units_is = refl; live_is = refl; before_is = refl; tag_is = λ e. cc },
  (
    record { units_is = refl; live_is = refl; before_is = refl; tag_is = λ e. cc },
    (record { units_is = refl; live_is = refl; before_is = refl; tag_is = λ e. cc }, tt),
  ),
)

greeting_laid_out : IsLaidOut greeting greeting_picture (736 ∷ [])
unfolding greeting slice number number_of target size
greeting_laid_out = record {
  header = record {
    not_small = lit≤ tt;
    not_large = lit≤ tt;
    whole_units = refl;
    magic = refl;
    version = inl (refl, refl);
    units_are = refl;
    allocator_is = lit≤ tt;
    index_is = lit≤ tt;
    zeros = refl;
  };
  types = refl;
  is_table = texts-valid;
  of_version = texts-old;
  heap = heap_evaluated greeting greeting_tiles greeting_fill greeting_headers 0 ((λ e. refl), ((λ e. refl), ((λ e. refl), tt))) refl (lit≤ tt);
  blocks = subst (λ bs. AllByRecursion (λ b. IsOwnable greeting (Form.str ∷ []) b.at) bs) (sym (live_evaluated greeting greeting_tiles greeting_fill greeting_headers)) (
    record { kind = Kind.named; type = 0; allowed = lit< tt; tag_is = refl; link_is = refl },
    (
      record { kind = Kind.index_buffer; type = 0; allowed = refl; tag_is = refl; link_is = refl },
      (record { kind = Kind.buffer; type = 0; allowed = refl; tag_is = refl; link_is = refl }, tt),
    ),
  );
  names = record {
    index = record { blocks = 736 ∷ []; entries = 752 ∷ [] };
    opens = record {
      named_room = record { after_header = lit≤ tt; live = refl; has_tag = refl; room = lit≤ tt };
      none_if_empty = λ e. absurd (omega arith);
      index_is = refl;
    };
    entries = (
      record {
        no_words = refl;
        points = refl;
        counted = refl;
        measured = refl;
        zero_is = refl;
        is_name = record { not_empty = lit≤ tt; short = lit≤ tt; printable = All-cons (λ b. (33 ≤ b) × (b ≤ 126)) 115 [] (lit≤ tt, lit≤ tt) (All-nil (λ b. (33 ≤ b) × (b ≤ 126))) };
        some = lit≤ tt;
        few = lit≤ tt;
      },
      tt,
    );
    ascending = tt;
    blocks_are = refl;
  };
  uniques = uniques_evaluated greeting [] (search parts 40) tt;
  plain = tt;
}

pub greeting_held : IsHeld greeting greeting_picture
greeting_held = record {
  index_blocks = 736 ∷ [];
  laid_out = greeting_laid_out;
  root_blocks = 704 ∷ 784 ∷ [];
  roots = holds_more_roots {blocks = 704 ∷ 784 ∷ []} greeting_holds holds_no_root;
  owners = λ h. subst (λ bs. times h (positions bs) ≡ times h (736 ∷ 704 ∷ 784 ∷ [])) (sym (live_evaluated greeting greeting_tiles greeting_fill greeting_headers)) (omega arith);
}

pub greeting_counted : AreCounted (word greeting next_word) greeting_picture
unfolding names_in names_each
greeting_counted = unshared (word greeting next_word) greeting_picture refl refl

unfoldable pub greeting_sound : IsSound greeting
greeting_sound = record { picture = greeting_picture; held = greeting_held; counted = greeting_counted; none_loose = refl }

-- ---- no object, and one gap

abbrev pub empty_tiles : List Tile
empty_tiles = record { at = 704; units = 4; live = false } ∷ []

pub empty_fill : Fill heap_start empty_tiles (length empty)
unfolding empty
empty_fill = (refl, lit≤ tt, refl)

pub empty_headers : AreHeaders empty 0 empty_tiles
unfolding empty slice number number_of
empty_headers = (record { units_is = refl; live_is = refl; before_is = refl; tag_is = λ e. refl }, tt)

empty_laid_out : IsLaidOut empty empty_picture []
unfolding empty slice number number_of target size
empty_laid_out = record {
  header = record {
    not_small = lit≤ tt;
    not_large = lit≤ tt;
    whole_units = refl;
    magic = refl;
    version = inl (refl, refl);
    units_are = refl;
    allocator_is = lit≤ tt;
    index_is = lit≤ tt;
    zeros = refl;
  };
  types = refl;
  is_table = numbers-valid;
  of_version = numbers-old;
  heap = heap_evaluated empty empty_tiles empty_fill empty_headers 0 ((λ e. cc), tt) (refl, refl) (lit≤ tt);
  blocks = subst (λ bs. AllByRecursion (λ b. IsOwnable empty (Form.i64 ∷ []) b.at) bs) (sym (live_evaluated empty empty_tiles empty_fill empty_headers)) tt;
  names = record {
    index = record { blocks = []; entries = [] };
    opens = record { named_room = refl; none_if_empty = λ e. refl; index_is = refl };
    entries = tt;
    ascending = tt;
    blocks_are = refl;
  };
  uniques = uniques_evaluated empty [] (search parts 40) tt;
  plain = tt;
}

pub empty_held : IsHeld empty empty_picture
empty_held = record {
  index_blocks = [];
  laid_out = empty_laid_out;
  root_blocks = [];
  roots = holds_no_root;
  owners = λ h. subst (λ bs. times h (positions bs) ≡ 0) (sym (live_evaluated empty empty_tiles empty_fill empty_headers)) refl;
}

unfoldable pub empty_sound : IsSound empty
empty_sound = record { picture = empty_picture; held = empty_held; counted = unshared (word empty next_word) empty_picture refl refl; none_loose = refl }

-- ---- no object, and one gap

abbrev pub empty_tree_tiles : List Tile
empty_tree_tiles = record { at = 704; units = 4; live = false } ∷ []

pub empty_tree_fill : Fill heap_start empty_tree_tiles (length empty_tree)
unfolding empty_tree
empty_tree_fill = (refl, lit≤ tt, refl)

pub empty_tree_headers : AreHeaders empty_tree 0 empty_tree_tiles
unfolding empty_tree slice number number_of
empty_tree_headers = (record { units_is = refl; live_is = refl; before_is = refl; tag_is = λ e. refl }, tt)

empty_tree_laid_out : IsLaidOut empty_tree empty_picture []
unfolding empty_tree slice number number_of target size
empty_tree_laid_out = record {
  header = record {
    not_small = lit≤ tt;
    not_large = lit≤ tt;
    whole_units = refl;
    magic = refl;
    version = inl (refl, refl);
    units_are = refl;
    allocator_is = lit≤ tt;
    index_is = lit≤ tt;
    zeros = refl;
  };
  types = refl;
  is_table = numbers-valid;
  of_version = numbers-old;
  heap = heap_evaluated empty_tree empty_tree_tiles empty_tree_fill empty_tree_headers 1 ((λ e. cc), tt)
      (record {
        tree = fork leaf 720 black leaf;
        is_tree = (refl, record { colour_is = refl; zero_is = refl }, tt, tt);
        red_black = record { root = tt; height = 1; balanced = (0, refl, refl, refl) };
        nodes_are = refl;
        links = (refl, tt);
      }) (lit≤ tt);
  blocks = subst (λ bs. AllByRecursion (λ b. IsOwnable empty_tree (Form.i64 ∷ []) b.at) bs) (sym (live_evaluated empty_tree empty_tree_tiles empty_tree_fill empty_tree_headers)) tt;
  names = record {
    index = record { blocks = []; entries = [] };
    opens = record { named_room = refl; none_if_empty = λ e. refl; index_is = refl };
    entries = tt;
    ascending = tt;
    blocks_are = refl;
  };
  uniques = uniques_evaluated empty_tree [] (search parts 40) tt;
  plain = tt;
}

pub empty_tree_held : IsHeld empty_tree empty_picture
empty_tree_held = record {
  index_blocks = [];
  laid_out = empty_tree_laid_out;
  root_blocks = [];
  roots = holds_no_root;
  owners = λ h. subst (λ bs. times h (positions bs) ≡ 0) (sym (live_evaluated empty_tree empty_tree_tiles empty_tree_fill empty_tree_headers)) refl;
}

pub empty_tree_sound : IsSound empty_tree
empty_tree_sound = record { picture = empty_picture; held = empty_tree_held; counted = unshared (word empty_tree next_word) empty_picture refl refl; none_loose = refl }
