-- An image with a value of every kind is sound.
use Rattle.std.proofs.Common.{◌≡◌, ℕ, zero, suc, inl, ◌<◌, ◌≤◌, Bool, true, false, List, [], ◌∷◌, length, refl, ap, Some, ℤ, pos, negsuc, lit<, lit≤, arith, subst, sym}
use Rattle.std.proofs.lemmas.List.Elements.{All-cons, All-nil, All-from_recursion}
use Rattle.std.specs.List.{AllByRecursion}
use Rattle.seg_spec.specs.Bytes.{slice, number_of, number, signed, signed_long}
use Rattle.seg_spec.specs.Pointer.{target}
use Rattle.seg_spec.specs.Types.{Form, size, form_at, AreOfVersion, IsForm, IsTable}
use Rattle.seg_spec.specs.Value.{Int, Text, Seq, Map, Full, nil, cons}
use Rattle.seg_spec.specs.Shapes.{leaf, fork, black, red}
use Rattle.seg_spec.specs.Heap.{Tile, Fill, AreHeaders, live, heap_start}
use Rattle.seg_spec.specs.Block.{Kind, IsOwnable}
use Rattle.seg_spec.specs.Reads.{Holds, holds, holds_none, holds_more}
use Rattle.seg_spec.specs.Index.{Root, plain_root}
use Rattle.seg_spec.specs.Sound.{HoldsRoot, holds_no_root, holds_more_roots, IsLaidOut, IsHeld, times, positions}
use Rattle.seg_spec.specs.Fixtures.{every, every_table, every_value, every_picture, many}
use Rattle.test_definitions.proofs.WorkedImages.ImageEvaluationLaws.{live_evaluated, heap_evaluated, uniques_evaluated, all_old}

abbrev tile : ℕ → ℕ → Bool → Tile
tile at units live = record { at = at; units = units; live = live }

abbrev every_tiles : List Tile
every_tiles = tile 704 5 true ∷ tile 784 3 true ∷ tile 832 3 false ∷ tile 880 2 true ∷ tile 912 2 true ∷ tile 944 2 true ∷ tile 976 2 true ∷ tile 1008 3 true ∷ tile 1056 3 true ∷ tile 1104 3 true ∷ tile 1152 2 true ∷ tile
    1184 2 true ∷ tile 1216 2 true ∷ tile 1248 2 false ∷ []

every_fill : Fill heap_start every_tiles (length every)
unfolding every
every_fill = (
  refl,
  lit≤ tt,
  (
    refl,
    lit≤ tt,
    (refl, lit≤ tt, (refl, lit≤ tt, (refl, lit≤ tt, (refl, lit≤ tt, (refl, lit≤ tt, (refl, lit≤ tt, (refl, lit≤ tt, (refl, lit≤ tt, (refl, lit≤ tt, (refl, lit≤ tt, (refl, lit≤ tt, (refl, lit≤ tt, refl)))))))))))),
  ),
)

every_headers : AreHeaders every 0 every_tiles
unfolding every slice number number_of
every_headers = (
  record { units_is = refl; live_is = refl; before_is = refl; tag_is = λ e. cc },
  (
    record { units_is = refl; live_is = refl; before_is = refl; tag_is = λ e. cc },
    (
      record { units_is = refl; live_is = refl; before_is = refl; tag_is = λ e. refl },
      (
        record { units_is = refl; live_is = refl; before_is = refl; tag_is = λ e. cc },
        (
          record { units_is = refl; live_is = refl; before_is = refl; tag_is = λ e. cc },
          (
            record { units_is = refl; live_is = refl; before_is = refl; tag_is = λ e. cc },
            (
              record { units_is = refl; live_is = refl; before_is = refl; tag_is = λ e. cc },
              (
                record { units_is = refl; live_is = refl; before_is = refl; tag_is = λ e. cc },
                (
                  record { units_is = refl; live_is = refl; before_is = refl; tag_is = λ e. cc },
                  (
                    record { units_is = refl; live_is = refl; before_is = refl; tag_is = λ e. cc },
                    (
                      record { units_is = refl; live_is = refl; before_is = refl; tag_is = λ e. cc },
                      (
                        record { units_is = refl; live_is = refl; before_is = refl; tag_is = λ e. cc },
                        (record { units_is = refl; live_is = refl; before_is = refl; tag_is = λ e. cc }, (record { units_is = refl; live_is = refl; before_is = refl; tag_is = λ e. refl }, tt)),
                      ),
                    ),
                  ),
                ),
              ),
            ),
          ),
        ),
      ),
    ),
  ),
)

-- ---- values

number_at : (p : ℕ) (k : ℤ) → signed_long every p ≡ k → Holds every every_table (record { at = p; type = 0 }) (Int k) []
number_at p k e = holds {place = record { at = p; type = 0 }} Form.i64 _ nil [] refl refl holds_none (ap Int (sym e)) refl

number_5 : Holds every every_table (record { at = 720; type = 0 }) (Int (pos 5)) []
unfolding every slice number number_of signed
number_5 = number_at 720 (pos 5) refl

text : Holds every every_table (record { at = 728; type = 1 }) (Text (104 ∷ 105 ∷ [])) (880 ∷ [])
unfolding every slice number number_of target
text = holds {place = record { at = 728; type = 1 }} Form.str _ nil [] refl (record { named_room = record { after_header = lit≤ tt; live = refl; has_tag = refl; room = lit≤ tt }; ascending = tt; opened_is = refl }) holds_none refl refl

vec : Holds every every_table (record { at = 736; type = 2 }) (Seq (many (pos 1 ∷ pos 2 ∷ []))) (912 ∷ [])
unfolding every slice number number_of target signed size
vec = holds {place = record { at = 736; type = 2 }} (Form.vec 0) _ (many (pos 1 ∷ pos 2 ∷ [])) [] refl
    (record { named_room = record { after_header = lit≤ tt; live = refl; has_tag = refl; room = lit≤ tt }; ascending = tt; opened_is = refl })
    (holds_more (number_at 928 (pos 1) refl) (holds_more (number_at 936 (pos 2) refl) holds_none)) refl refl

list : Holds every every_table (record { at = 744; type = 3 }) (Seq (many (pos 3 ∷ pos 4 ∷ []))) (944 ∷ 976 ∷ [])
unfolding every slice number number_of target signed size
list = holds {place = record { at = 744; type = 3 }} (Form.list 0) _ (many (pos 3 ∷ pos 4 ∷ [])) [] refl (record {
  nodes = 960 ∷ 992 ∷ [];
  ring = (refl, (record { next = refl; previous = refl }, record { next = refl; previous = refl }));
  counted = refl;
  are_nodes = (record { after_header = lit≤ tt; live = refl; has_tag = refl; room = lit≤ tt }, (record { after_header = lit≤ tt; live = refl; has_tag = refl; room = lit≤ tt }, tt));
  opened_is = refl;
}) (holds_more (number_at 968 (pos 3) refl) (holds_more (number_at 1000 (pos 4) refl) holds_none)) refl refl

flat_map : Holds every every_table (record { at = 752; type = 4 }) (Map (negsuc 0 ∷ pos 2 ∷ []) (many (pos 10 ∷ pos 20 ∷ []))) (1008 ∷ [])
unfolding every slice number number_of target signed size
flat_map = holds {place = record { at = 752; type = 4 }} (Form.flat_map 0) _ (many (pos 10 ∷ pos 20 ∷ [])) [] refl
    (record { named_room = record { after_header = lit≤ tt; live = refl; has_tag = refl; room = lit≤ tt }; ascending = (record { lt = tt }, tt); opened_is = refl })
    (holds_more (number_at 1032 (pos 10) refl) (holds_more (number_at 1048 (pos 20) refl) holds_none)) refl refl

map_tree : Holds every every_table (record { at = 760; type = 5 }) (Map (negsuc 4 ∷ pos 2 ∷ []) (many (pos 30 ∷ pos 40 ∷ []))) (1104 ∷ 1056 ∷ [])
unfolding every slice number number_of target signed size
map_tree = holds {place = record { at = 760; type = 5 }} (Form.map 0) _ (many (pos 30 ∷ pos 40 ∷ [])) [] refl (record {
  tree = fork (fork leaf 1120 red leaf) 1072 black leaf;
  is_tree = (refl, record { colour_is = refl; zero_is = refl }, (refl, record { colour_is = refl; zero_is = refl }, tt, tt), tt);
  red_black = record { root = tt; height = 1; balanced = (0, refl, (tt, tt, refl, refl), refl) };
  counted = refl;
  are_nodes = (record { after_header = lit≤ tt; live = refl; has_tag = refl; room = lit≤ tt }, (record { after_header = lit≤ tt; live = refl; has_tag = refl; room = lit≤ tt }, tt));
  ascending = (record { lt = tt }, tt);
  opened_is = refl;
}) (holds_more (number_at 1144 (pos 30) refl) (holds_more (number_at 1096 (pos 40) refl) holds_none)) refl refl

own : Holds every every_table (record { at = 768; type = 6 }) (Full (Int (pos 9))) (1152 ∷ [])
unfolding every slice number number_of target signed size
own = holds {place = record { at = 768; type = 6 }} (Form.own 0) _ (many (pos 9 ∷ [])) [] refl (record
    { named_room = record { after_header = lit≤ tt; live = refl; has_tag = refl; room = lit≤ tt }; counted = refl; opened_is = refl }) (holds_more (number_at 1168 (pos 9) refl) holds_none) refl refl

abbrev every_blocks : List ℕ
every_blocks = 880 ∷ 912 ∷ 944 ∷ 976 ∷ 1008 ∷ 1104 ∷ 1056 ∷ 1152 ∷ []

struct : Holds every every_table (record { at = 720; type = 7 }) every_value every_blocks
unfolding size
struct = holds {place = record { at = 720; type = 7 }} (Form.struct (0 ∷ 1 ∷ 2 ∷ 3 ∷ 4 ∷ 5 ∷ 6 ∷ [])) _ _ every_blocks refl refl
    (holds_more number_5 (holds_more text (holds_more vec (holds_more list (holds_more flat_map (holds_more map_tree (holds_more own holds_none))))))) refl refl

-- ---- roots

abbrev named_root : Root
named_root = plain_root (97 ∷ []) 720 7 (cons every_value nil)

named : HoldsRoot every every_table named_root (704 ∷ every_blocks)
unfolding every slice number number_of size
named = record {
  before = lit≤ tt;
  block = record { after_header = lit≤ tt; live = refl; has_tag = refl; room = lit≤ tt };
  words_are = tt;
  name_is = refl;
  inside = every_blocks;
  values = holds_more struct holds_none;
  blocks_are = refl;
}

unique : HoldsRoot every every_table (plain_root [] 1200 0 (cons (Int (pos 7)) nil)) (1184 ∷ [])
unfolding every slice number number_of size signed
unique = record {
  before = lit≤ tt;
  block = record { after_header = lit≤ tt; live = refl; has_tag = refl; room = lit≤ tt };
  words_are = tt;
  name_is = refl;
  inside = [];
  values = holds_more (number_at 1200 (pos 7) refl) holds_none;
  blocks_are = refl;
}

loose : HoldsRoot every every_table (plain_root [] 1232 0 (cons (Int (pos 8)) nil)) (1216 ∷ [])
unfolding every slice number number_of size signed
loose = record {
  before = lit≤ tt;
  block = record { after_header = lit≤ tt; live = refl; has_tag = refl; room = lit≤ tt };
  words_are = tt;
  name_is = refl;
  inside = [];
  values = holds_more (number_at 1232 (pos 8) refl) holds_none;
  blocks_are = refl;
}

-- ---- the image

some_is : (a b : Form) → Some a ≡ Some b → a ≡ b
some_is a b e = cc

every_table-old : AreOfVersion 1 every_table
every_table-old = all_old every_table (lit≤ tt, (lit≤ tt, (lit≤ tt, (lit≤ tt, (lit≤ tt, (lit≤ tt, (lit≤ tt, (lit≤ tt, tt))))))))

every_table-valid : IsTable every_table
unfolding size
every_table-valid = record { few = lit≤ tt; forms = forms; sizes = sizes }
  where
    forms : (T : ℕ) (form : Form) → form_at every_table T ≡ Some form → IsForm 8 T form
    forms zero form e = subst (λ f. IsForm 8 0 f) (some_is Form.i64 form e) tt
    forms (suc zero) form e = subst (λ f. IsForm 8 1 f) (some_is Form.str form e) tt
    forms (suc (suc zero)) form e = subst (λ f. IsForm 8 2 f) (some_is (Form.vec 0) form e) (lit< tt)
    forms (suc (suc (suc zero))) form e = subst (λ f. IsForm 8 3 f) (some_is (Form.list 0) form e) (lit< tt)
    forms (suc (suc (suc (suc zero)))) form e = subst (λ f. IsForm 8 4 f) (some_is (Form.flat_map 0) form e) (lit< tt)
    forms (suc (suc (suc (suc (suc zero))))) form e = subst (λ f. IsForm 8 5 f) (some_is (Form.map 0) form e) (lit< tt)
    forms (suc (suc (suc (suc (suc (suc zero)))))) form e = subst (λ f. IsForm 8 6 f) (some_is (Form.own 0) form e) (lit< tt)
    forms (suc (suc (suc (suc (suc (suc (suc zero))))))) form e = subst (λ f. IsForm 8 7 f) (some_is (Form.struct (0 ∷ 1 ∷ 2 ∷ 3 ∷ 4 ∷ 5 ∷ 6 ∷ [])) form e)
        (lit≤ tt, lit≤ tt, All-from_recursion (λ U. U < 7) (0 ∷ 1 ∷ 2 ∷ 3 ∷ 4 ∷ 5 ∷ 6 ∷ []) (lit< tt, (lit< tt, (lit< tt, (lit< tt, (lit< tt, (lit< tt, (lit< tt, tt))))))))
    forms (suc (suc (suc (suc (suc (suc (suc (suc T)))))))) form e = cc

    sizes : (T : ℕ) → size every_table T ≤ 4096
    sizes zero = lit≤ tt
    sizes (suc zero) = lit≤ tt
    sizes (suc (suc zero)) = lit≤ tt
    sizes (suc (suc (suc zero))) = lit≤ tt
    sizes (suc (suc (suc (suc zero)))) = lit≤ tt
    sizes (suc (suc (suc (suc (suc zero))))) = lit≤ tt
    sizes (suc (suc (suc (suc (suc (suc zero)))))) = lit≤ tt
    sizes (suc (suc (suc (suc (suc (suc (suc zero))))))) = lit≤ tt
    sizes (suc (suc (suc (suc (suc (suc (suc (suc T)))))))) = lit≤ tt

laid_out : IsLaidOut every every_picture (784 ∷ [])
unfolding every slice number number_of target size
laid_out = record {
  header = record {
    not_small = lit≤ tt;
    not_large = lit≤ tt;
    whole_units = refl;
    magic = refl;
    version = inl (refl, refl);
    units_are = refl;
    allocator_is = lit≤ tt;
    index_is = lit≤ tt;
    zeros = refl;
  };
  types = refl;
  is_table = every_table-valid;
  of_version = every_table-old;
  heap = heap_evaluated every every_tiles every_fill every_headers 1 (λ e. cc, (λ e. cc, (λ e. cc, (λ e. refl, (λ e. cc, (λ e. cc, (λ e. cc, (λ e. cc, (λ e. cc, (λ e. cc, (λ e. cc, (λ e. cc, (λ e. cc, (λ e. cc, tt)))))))))))))) (record {
    tree = fork (fork leaf 1264 red leaf) 848 black leaf;
    is_tree = (refl, record { colour_is = refl; zero_is = refl }, (refl, record { colour_is = refl; zero_is = refl }, tt, tt), tt);
    red_black = record { root = tt; height = 1; balanced = (0, refl, (tt, tt, refl, refl), refl) };
    nodes_are = refl;
    links = (refl, (refl, tt));
  }) (lit≤ tt);
  blocks = subst (λ bs. AllByRecursion (λ b. IsOwnable every every_table b.at) bs) (sym (live_evaluated every every_tiles every_fill every_headers)) (
    record { kind = Kind.named; type = 7; allowed = lit< tt; tag_is = refl; link_is = refl },
    (
      record { kind = Kind.index_node; type = 0; allowed = refl; tag_is = refl; link_is = refl },
      (
        record { kind = Kind.buffer; type = 1; allowed = refl; tag_is = refl; link_is = refl },
        (
          record { kind = Kind.buffer; type = 2; allowed = refl; tag_is = refl; link_is = refl },
          (
            record { kind = Kind.node; type = 3; allowed = refl; tag_is = refl; link_is = refl },
            (
              record { kind = Kind.node; type = 3; allowed = refl; tag_is = refl; link_is = refl },
              (
                record { kind = Kind.buffer; type = 4; allowed = refl; tag_is = refl; link_is = refl },
                (
                  record { kind = Kind.node; type = 5; allowed = refl; tag_is = refl; link_is = refl },
                  (
                    record { kind = Kind.node; type = 5; allowed = refl; tag_is = refl; link_is = refl },
                    (
                      record { kind = Kind.object; type = 0; allowed = lit< tt; tag_is = refl; link_is = refl },
                      (record { kind = Kind.object; type = 0; allowed = lit< tt; tag_is = refl; link_is = refl }, (record { kind = Kind.object; type = 0; allowed = lit< tt; tag_is = refl; link_is = refl }, tt)),
                    ),
                  ),
                ),
              ),
            ),
          ),
        ),
      ),
    ),
  );
  names = record {
    index = record { blocks = 784 ∷ []; entries = 816 ∷ [] };
    opens = record {
      tree = fork leaf 800 black leaf;
      is_tree = (refl, record { colour_is = refl; zero_is = refl }, tt, tt);
      red_black = record { root = tt; height = 1; balanced = (0, refl, refl, refl) };
      counted = refl;
      are_nodes = (record { after_header = lit≤ tt; live = refl; has_tag = refl; room = lit≤ tt }, tt);
      index_is = refl;
    };
    entries = (
      record {
        no_words = refl;
        points = refl;
        counted = refl;
        measured = refl;
        zero_is = refl;
        is_name = record { not_empty = lit≤ tt; short = lit≤ tt; printable = All-cons (λ b. (33 ≤ b) × (b ≤ 126)) 97 [] (lit≤ tt, lit≤ tt) (All-nil (λ b. (33 ≤ b) × (b ≤ 126))) };
        some = lit≤ tt;
        few = lit≤ tt;
      },
      tt,
    );
    ascending = tt;
    blocks_are = refl;
  };
  uniques = uniques_evaluated every every_picture.uniques (search parts 40) (lit≤ tt, lit< tt, tt);
  plain = (record { no_name = refl; no_words = refl; value = Int (pos 7); values_are = refl }, (record { no_name = refl; no_words = refl; value = Int (pos 8); values_are = refl }, tt));
}

pub every_held : IsHeld every every_picture
every_held = record {
  index_blocks = 784 ∷ [];
  laid_out = laid_out;
  root_blocks = 704 ∷ 880 ∷ 912 ∷ 944 ∷ 976 ∷ 1008 ∷ 1104 ∷ 1056 ∷ 1152 ∷ 1184 ∷ 1216 ∷ [];
  roots = holds_more_roots {blocks = 704 ∷ every_blocks} named (holds_more_roots {blocks = 1184 ∷ []} unique (holds_more_roots {blocks = 1216 ∷ []} loose holds_no_root));
  owners = λ h. subst (λ bs. times h (positions bs) ≡ times h (784 ∷ 704 ∷ 880 ∷ 912 ∷ 944 ∷ 976 ∷ 1008 ∷ 1104 ∷ 1056 ∷ 1152 ∷ 1184 ∷ 1216 ∷ [])) (sym (live_evaluated every every_tiles every_fill every_headers)) (omega arith);
}
