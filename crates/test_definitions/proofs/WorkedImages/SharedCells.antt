-- An image with two cells and a register: the first cell shares a frozen number, the second is
-- empty, and the register owns another number.
use Rattle.std.proofs.Common.{◌≡◌, ℕ, suc, ◌+◌, ◌*◌, ◌^◌, ◌<◌, ◌≤◌, inl, inr, true, Bool, List, [], ◌∷◌, ◌++◌, length, replicate, codes, Option, Some, None, pos, lit<, lit≤, refl, sym, ap, ◌∙◌, subst, arith}
use Rattle.std.specs.Prelude.{flat_map, option_map, if◌then◌else◌, false}
use Rattle.std.proofs.lemmas.List.Elements.{All-cons, All-nil}
use Rattle.std.specs.List.{AllByRecursion}
use Rattle.seg_spec.specs.Bytes.{slice, spelling, number, number_of, signed, word}
use Rattle.seg_spec.specs.Header.{next_word}
use Rattle.seg_spec.specs.Pointer.{target}
use Rattle.seg_spec.specs.Types.{form_bytes, Form, size}
use Rattle.seg_spec.specs.Value.{Value, Int, Empty, nil, cons}
use Rattle.seg_spec.specs.Heap.{Tile, Fill, AreHeaders, heap_start}
use Rattle.seg_spec.specs.Block.{Kind, IsPayload, IsOwnable, block_of}
use Rattle.seg_spec.specs.Reads.{Place, Holds, holds, holds_none, holds_more, Leads, here}
use Rattle.seg_spec.specs.Index.{Root, plain_root, same_name}
use Rattle.seg_spec.specs.Frozen.{Frozen, root_of_frozen, blocks_by}
use Rattle.seg_spec.specs.Shared.{names_in, names_each, freed, raised_by}
use Rattle.seg_spec.specs.Counting.{AreCounted, FrozenGone}
use Rattle.seg_spec.specs.Roots.{item_of}
use Rattle.seg_spec.specs.Sound.{Picture, HoldsRoot, holds_no_root, holds_more_roots, IsLaidOut, IsHeld, times, positions}
use Rattle.seg_spec.specs.Destroying.{HoldFrozen}
use Rattle.seg_spec.specs.Demand.{Ask, units_for}
use Rattle.seg_spec.specs.Fixtures.{words, back, live_header, sharing_table, sharing_cell}
use Rattle.seg_spec.proofs.Values.OneValueLaws.{Holds-one}
use Rattle.seg_spec.proofs.Frozen.ReleaseLaws.{frozen_there}
use Rattle.test_definitions.proofs.WorkedImages.ImageEvaluationLaws.{live_evaluated, heap_evaluated, uniques_evaluated}
use Rattle.test_definitions.proofs.WorkedImages.SharedImages.{sharing_table-valid, all_types}
use Rattle.client_spec.specs.declared.table.Operation.{Operation}
use Rattle.client_spec.specs.Syntax.{Instruction}
use Rattle.client_spec.specs.Machine.{◌>>=◌, Origin, Path, Register, State, with_name, at_origin}
use Rattle.client_spec.specs.Answer.{path_from}
use Rattle.client_spec.specs.Pictures.{Pictures, LeadsInImage, value_through, names_in as names_of_picture, object_of}
use Rattle.client_spec.specs.Asks.{Refreezes, Renames, Asks, Returns}
use Rattle.client_spec.specs.Fixtures.{at, beginning, no_names}

-- ---- the image

unfoldable pub image : List ℕ
image =
    codes "SEGIMAGE"
    ++ (words (2 ∷ 54 ∷ 0 ∷ 0 ∷ 1 ∷ 1 ∷ 736 ∷ 1 ∷ []) ++ replicate 24 0)
    ++ ((flat_map form_bytes sharing_table ++ replicate 480 0) ++ words (replicate 32 1))
    ++ live_header 3 0 (1 + 256 * 1)
    ++ words (96 ∷ 1 ∷ 1 ∷ 0 ∷ [])
    ++ (codes "p" ++ replicate 15 0)
    ++ live_header 3 3 5
    ++ words (back 48 ∷ [])
    ++ (2 ∷ 0 ∷ 1 ∷ 0 ∷ replicate 24 0)
    ++ live_header 2 3 7
    ++ words (1 ∷ 0 ∷ [])
    ++ spelling 8 41
    ++ live_header 2 2 2
    ++ (spelling 8 9 ++ replicate 8 0)

abbrev pub the_number : Frozen
the_number = record { at = 816; type = 0; number = 0; count = 1; value = Int (pos 41) }

abbrev pub cells : Root
cells = plain_root (codes "p") 720 1 (cons sharing_cell (cons Empty nil))

abbrev pub nine : Root
nine = plain_root [] 848 0 (cons (Int (pos 9)) nil)

abbrev pub picture : Picture
picture = record { table = sharing_table; names = cells ∷ []; uniques = []; loose = nine ∷ []; frozen = the_number ∷ [] }

abbrev tiles : List Tile
tiles = record { at = 704; units = 3; live = true } ∷ record { at = 752; units = 3; live = true } ∷ record { at = 800; units = 2; live = true } ∷ record { at = 832; units = 2; live = true } ∷ []

some_number : (a b : ℕ) → Some a ≡ Some b → a ≡ b
some_number a b e = cc

full_cell : Holds image sharing_table (record { at = 720; type = 1 }) sharing_cell []
unfolding image slice number number_of target
full_cell = holds {place = record { at = 720; type = 1 }} (Form.shared 0) _ nil [] refl
    (record { payload = λ p e. subst IsPayload (some_number 816 p e) (record { low = lit≤ tt; aligned = refl }); counted = refl; opened_is = refl }) holds_none refl refl

empty_cell : Holds image sharing_table (record { at = 728; type = 1 }) Empty []
unfolding image slice number number_of target
empty_cell = holds {place = record { at = 728; type = 1 }} (Form.shared 0) _ nil [] refl
    (record { payload = λ p e. absurd (let f : None ≡ Some p = e in cc); counted = refl; opened_is = refl }) holds_none refl refl

forty_one : Holds image sharing_table (record { at = 824; type = 0 }) (Int (pos 41)) []
unfolding image slice number number_of signed
forty_one = holds Form.i64 _ nil [] refl refl holds_none refl refl

nine_held : Holds image sharing_table (record { at = 848; type = 0 }) (Int (pos 9)) []
unfolding image slice number number_of signed
nine_held = holds Form.i64 _ nil [] refl refl holds_none refl refl

cells_hold : HoldsRoot image sharing_table cells (704 ∷ [])
unfolding image slice number number_of size
cells_hold = record {
  before = lit≤ tt;
  block = record { after_header = lit≤ tt; live = refl; has_tag = refl; room = lit≤ tt };
  words_are = tt;
  name_is = refl;
  inside = [];
  values = holds_more {blocks = []} full_cell (holds_more {blocks = []} empty_cell holds_none);
  blocks_are = refl;
}

number_holds : HoldsRoot image sharing_table (root_of_frozen the_number) (800 ∷ [])
unfolding image slice number number_of size
number_holds = record {
  before = lit≤ tt;
  block = record { after_header = lit≤ tt; live = refl; has_tag = refl; room = lit≤ tt };
  words_are = (refl, (refl, tt));
  name_is = refl;
  inside = [];
  values = holds_more forty_one holds_none;
  blocks_are = refl;
}

nine_holds : HoldsRoot image sharing_table nine (832 ∷ [])
unfolding image slice number number_of size
nine_holds = record {
  before = lit≤ tt;
  block = record { after_header = lit≤ tt; live = refl; has_tag = refl; room = lit≤ tt };
  words_are = tt;
  name_is = refl;
  inside = [];
  values = holds_more nine_held holds_none;
  blocks_are = refl;
}

fill : Fill heap_start tiles (length image)
unfolding image
fill = (refl, lit≤ tt, (refl, lit≤ tt, (refl, lit≤ tt, (refl, lit≤ tt, refl))))

headers : AreHeaders image 0 tiles
unfolding image slice number number_of
headers = (
  record { units_is = refl; live_is = refl; before_is = refl; tag_is = λ e. cc },
  (
    record { units_is = refl; live_is = refl; before_is = refl; tag_is = λ e. cc },
    (record { units_is = refl; live_is = refl; before_is = refl; tag_is = λ e. cc }, (record { units_is = refl; live_is = refl; before_is = refl; tag_is = λ e. cc }, tt)),
  ),
)

laid_out : IsLaidOut image picture (752 ∷ [])
unfolding image slice number number_of target size
laid_out = record {
  header = record {
    not_small = lit≤ tt;
    not_large = lit≤ tt;
    whole_units = refl;
    magic = refl;
    version = inr refl;
    units_are = refl;
    allocator_is = lit≤ tt;
    index_is = lit≤ tt;
    zeros = refl;
  };
  types = refl;
  is_table = sharing_table-valid;
  of_version = all_types sharing_table;
  heap = heap_evaluated image tiles fill headers 0 ((λ e. refl), ((λ e. refl), ((λ e. refl), ((λ e. refl), tt)))) refl (lit≤ tt);
  blocks = subst (λ bs. AllByRecursion (λ b. IsOwnable image sharing_table b.at) bs) (sym (live_evaluated image tiles fill headers)) (
    record { kind = Kind.named; type = 1; allowed = lit< tt; tag_is = refl; link_is = refl },
    (
      record { kind = Kind.index_buffer; type = 0; allowed = refl; tag_is = refl; link_is = refl },
      (
        record { kind = Kind.frozen; type = 0; allowed = lit< tt; tag_is = refl; link_is = refl },
        (record { kind = Kind.object; type = 0; allowed = lit< tt; tag_is = refl; link_is = refl }, tt),
      ),
    ),
  );
  names = record {
    index = record { blocks = 752 ∷ []; entries = 768 ∷ [] };
    opens = record {
      named_room = record { after_header = lit≤ tt; live = refl; has_tag = refl; room = lit≤ tt };
      none_if_empty = λ e. absurd (omega arith);
      index_is = refl;
    };
    entries = (
      record {
        no_words = refl;
        points = refl;
        counted = refl;
        measured = refl;
        zero_is = refl;
        is_name = record { not_empty = lit≤ tt; short = lit≤ tt; printable = All-cons (λ b. (33 ≤ b) × (b ≤ 126)) 112 [] (lit≤ tt, lit≤ tt) (All-nil (λ b. (33 ≤ b) × (b ≤ 126))) };
        some = lit≤ tt;
        few = lit≤ tt;
      },
      tt,
    );
    ascending = tt;
    blocks_are = refl;
  };
  uniques = uniques_evaluated image [] (search parts 40) tt;
  plain = (record { no_name = refl; no_words = refl; value = Int (pos 9); values_are = refl }, tt);
}

pub held : IsHeld image picture
held = record {
  index_blocks = 752 ∷ [];
  laid_out = laid_out;
  root_blocks = 704 ∷ 832 ∷ 800 ∷ [];
  roots = holds_more_roots {blocks = 704 ∷ []} cells_hold (holds_more_roots {blocks = 832 ∷ []} nine_holds (holds_more_roots {blocks = 800 ∷ []} number_holds holds_no_root));
  owners = λ h. subst (λ bs. times h (positions bs) ≡ times h (752 ∷ 704 ∷ 832 ∷ 800 ∷ [])) (sym (live_evaluated image tiles fill headers)) (omega arith);
}

next_is : word image next_word ≡ 1
unfolding image slice number number_of
next_is = refl

pub counted : AreCounted (word image next_word) picture
unfolding names_in names_each
counted = subst (λ n. AreCounted n picture) (sym next_is) (record {
  counted = record {
    distinct = (tt, tt);
    numbered = (lit< tt, tt);
    named = (inl (refl, refl, lit< tt), tt);
    falling = (tt, tt);
    some = (lit≤ tt, tt);
    counts = (refl, tt);
  };
  falling = (tt, tt);
})

-- ---- the state that it pictures

abbrev pub cell : ℕ → Path
cell j = path_from (Origin.Name (codes "p") j)

abbrev pub state : State
state = record (beginning sharing_table (with_name no_names (codes "p") (Some (record { type = 1; values = cons sharing_cell (cons Empty nil) }))) []) {
  registers = Register.Undefined ∷ Register.Reference (cell 0) ∷ Register.Reference (cell 1) ∷ Register.Owner (Int (pos 9)) 0 ∷ [];
}

pub same_names : (name : List ℕ) → state.names name ≡ names_of_picture picture name
same_names name = choose (same_name name (codes "p"))
  where
    choose : (b : Bool) → (if b then Some (record { type = 1; values = cons sharing_cell (cons Empty nil) }) else None) ≡ option_map object_of (if b then Some cells else None)
    choose true = refl
    choose false = refl

abbrev pub pictured : Pictures [] state image
pictured = record { picture = picture; held = held; counted = counted; types = refl; names = same_names; uniques = λ T. refl; owned = nine ∷ []; are_owned = (refl, refl, tt); loose = refl }

-- ---- the places that registers refer to

abbrev freeze : ℕ → Instruction
freeze b = at Operation.Freeze 0 b 3 (pos 0)

abbrev share : ℕ → ℕ → Instruction
share b c = at Operation.Share 0 b c (pos 0)

abbrev place : ℕ → Place
place j = record { at = 720 + j * 8; type = 1 }

to_first : LeadsInImage pictured (cell 0) (place 0)
unfolding size
to_first = record { root = cells; item = 0; begins = refl; leads = here }

to_second : LeadsInImage pictured (cell 1) (place 1)
unfolding size
to_second = record { root = cells; item = 1; begins = refl; leads = here }

is_here : (from to : Place) → Leads image sharing_table from [] to → to ≡ from
is_here from to here = refl

root_is : (a b : Root × ℕ) → Some a ≡ Some b → a ≡ b
root_is a b e = cc

stands : (j : ℕ) (path : Path) (to : Place) → Some (cell j) ≡ Some path → LeadsInImage pictured path to → to ≡ place j
unfolding size
stands j path to e l =
    let same : cell j ≡ path = cc in
    let m : LeadsInImage pictured (cell j) to = subst (λ q. LeadsInImage pictured q to) (sym same) l in
    is_here (item_of sharing_table m.root m.item) to m.leads ∙ sym (ap (λ (r : Root × ℕ). item_of sharing_table r.0 r.1) (root_is (cells, j) (m.root, m.item) m.begins))

-- ---- what is freed

not_none : (x : ℕ) (xs : List ℕ) → x ∷ xs ≡ [] → ⊥
not_none x xs e = cc

one_more : (x y z : ℕ) (xs : List ℕ) → x ∷ [] ≡ y ∷ z ∷ xs → ⊥
one_more x y z xs e = cc

-- the number owns the block at 800
number_in : (theirs : ℕ → List ℕ) → HoldFrozen image sharing_table theirs (the_number ∷ []) → (inside : List ℕ) × (theirs 816 ≡ 800 ∷ inside)
number_in theirs h = let it = frozen_there image sharing_table the_number (theirs 816) h.0 in (it.inside, it.blocks_are)

abbrev theirs_are : ℕ → List ℕ
theirs_are p = 800 ∷ []

all_hold : HoldFrozen image sharing_table theirs_are (the_number ∷ [])
all_hold = (number_holds, tt)

number_gone : FrozenGone image picture (names_in sharing_cell) (800 ∷ [])
unfolding names_in names_each
number_gone = record { theirs = theirs_are; holds = all_hold; blocks_are = refl }

none_gone : FrozenGone image picture (names_in Empty) []
unfolding names_in names_each
none_gone = record { theirs = theirs_are; holds = all_hold; blocks_are = refl }

-- if the first cell is destroyed, the number's block is freed
number_goes : (shared : List ℕ) → FrozenGone image picture (names_in sharing_cell) shared → (inside : List ℕ) × (shared ≡ 800 ∷ inside)
unfolding names_in names_each
number_goes shared g =
    let n = number_in g.theirs g.holds in
    (n.0 ++ [], g.blocks_are ∙ ap (λ bs. bs ++ []) n.1)

none_goes : (shared : List ℕ) → FrozenGone image picture (names_in Empty) shared → shared ≡ []
unfolding names_in names_each
none_goes shared g = g.blocks_are

full_goes : (own : List ℕ) (v : Value) → Holds image sharing_table (place 0) v own → (v ≡ sharing_cell) × (own ≡ [])
full_goes own v h = let one = Holds-one image sharing_table h full_cell in (one.0, one.1)

empty_goes : (own : List ℕ) (v : Value) → Holds image sharing_table (place 1) v own → (v ≡ Empty) × (own ≡ [])
empty_goes own v h = let one = Holds-one image sharing_table h empty_cell in (one.0, one.1)

-- ---- FREEZE

pub asks : Asks [] (freeze 1) pictured (units_for 2 ∷ [])
unfolding size
asks = (subst (λ n. suc n < 2 ^ 32) (sym next_is) (lit< tt), place 0, 0, record { path = cell 0; path_is = refl; stands = to_first; form_is = refl }, refl)

pub asks_nothing : Asks [] (freeze 1) pictured [] → ⊥
asks_nothing r = let e = r.4 in not_one e
  where
    not_one : {x : Ask} → [] ≡ x ∷ [] → ⊥
    not_one e = cc

pub freezes : Returns [] (freeze 1) pictured (832 ∷ 800 ∷ [])
freezes = (
  place 0,
  Form.shared 0,
  record { path = cell 0; path_is = refl; stands = to_first; form_is = refl },
  record { root = nine; owned = refl; value = sharing_cell; own = []; holds = full_cell; gives_are = (800 ∷ [], number_gone, refl) },
)

pub freezes_less : Returns [] (freeze 1) pictured (832 ∷ []) → ⊥
freezes_less r =
    let at_first = stands 0 r.2.path r.0 r.2.path_is r.2.stands in
    let f : Refreezes [] (freeze 1) pictured (place 0) (832 ∷ []) = subst (λ q. Refreezes [] (freeze 1) pictured q (832 ∷ [])) at_first r.3 in
    let v = full_goes f.own f.value f.holds in
    let goes = number_goes f.gives_are.0 (subst (λ w. FrozenGone image picture (names_in w) f.gives_are.0) v.0 f.gives_are.1) in
    let e : 832 ∷ [] ≡ (block_of f.root.at ∷ f.own) ++ f.gives_are.0 = f.gives_are.2 in
    one_more 832 (block_of f.root.at) 800 goes.0 (rw (v.1, goes.1) at e)

pub freezes_again : Returns [] (freeze 2) pictured (832 ∷ [])
freezes_again = (
  place 1,
  Form.shared 0,
  record { path = cell 1; path_is = refl; stands = to_second; form_is = refl },
  record { root = nine; owned = refl; value = Empty; own = []; holds = empty_cell; gives_are = ([], none_gone, refl) },
)

pub freezes_more : Returns [] (freeze 2) pictured (832 ∷ 800 ∷ []) → ⊥
freezes_more r =
    let at_second = stands 1 r.2.path r.0 r.2.path_is r.2.stands in
    let f : Refreezes [] (freeze 2) pictured (place 1) (832 ∷ 800 ∷ []) = subst (λ q. Refreezes [] (freeze 2) pictured q (832 ∷ 800 ∷ [])) at_second r.3 in
    let v = empty_goes f.own f.value f.holds in
    let goes = none_goes f.gives_are.0 (subst (λ w. FrozenGone image picture (names_in w) f.gives_are.0) v.0 f.gives_are.1) in
    let e : 832 ∷ 800 ∷ [] ≡ (block_of f.root.at ∷ f.own) ++ f.gives_are.0 = f.gives_are.2 in
    one_more (block_of f.root.at) 832 800 [] (sym (rw (v.1, goes) at e))

-- ---- SHARE

pub shares : Returns [] (share 1 2) pictured (800 ∷ [])
unfolding names_in names_each
shares = (
  place 0,
  Form.shared 0,
  record { path = cell 0; path_is = refl; stands = to_first; form_is = refl },
  record { value = sharing_cell; own = []; holds = full_cell; path = cell 1; path_is = refl; other = Empty; there = refl; theirs = theirs_are; frozen_hold = all_hold; gives_are = refl },
)

pub shares_again : Returns [] (share 2 1) pictured []
unfolding names_in names_each
shares_again = (
  place 1,
  Form.shared 0,
  record { path = cell 1; path_is = refl; stands = to_second; form_is = refl },
  record { value = Empty; own = []; holds = empty_cell; path = cell 0; path_is = refl; other = sharing_cell; there = refl; theirs = theirs_are; frozen_hold = all_hold; gives_are = refl },
)

abbrev led_through : Path → Option Value
led_through path = at_origin state path.origin >>= λ found. value_through picture.frozen found.0 path.selectors

other_is : (j : ℕ) (v other : Value) (path : Path) → Some (cell j) ≡ Some path → led_through (cell j) ≡ Some v → led_through path ≡ Some other → other ≡ v
other_is j v other path e f g =
    let same : cell j ≡ path = cc in
    let h : Some v ≡ Some other = sym f ∙ ap led_through same ∙ g in
    cc

-- what SHARE frees: if the first cell becomes like the second, and the other way round
first_by : (gives own : List ℕ) (v w : Value) (theirs : ℕ → List ℕ) → v ≡ sharing_cell → own ≡ [] → w ≡ Empty → gives ≡ own ++ blocks_by theirs (freed (names_in v) (raised_by (names_in w) (the_number ∷ []))) → gives ≡ theirs 816 ++ []
unfolding names_in names_each
first_by gives own v w theirs full none empty e = rw (full, none, empty) at e

second_by : (gives own : List ℕ) (v w : Value) (theirs : ℕ → List ℕ) → v ≡ Empty → own ≡ [] → w ≡ sharing_cell → gives ≡ own ++ blocks_by theirs (freed (names_in v) (raised_by (names_in w) (the_number ∷ []))) → gives ≡ []
unfolding names_in names_each
second_by gives own v w theirs empty none full e = rw (empty, none, full) at e

pub shares_nothing : Returns [] (share 1 2) pictured [] → ⊥
shares_nothing r =
    let at_first = stands 0 r.2.path r.0 r.2.path_is r.2.stands in
    let f : Renames [] (share 1 2) pictured (place 0) [] = subst (λ q. Renames [] (share 1 2) pictured q []) at_first r.3 in
    let v = full_goes f.own f.value f.holds in
    let n = number_in f.theirs f.frozen_hold in
    let e : [] ≡ 800 ∷ (n.0 ++ []) = first_by [] f.own f.value f.other f.theirs v.0 v.1 (other_is 1 Empty f.other f.path f.path_is refl f.there) f.gives_are ∙ ap (λ bs. bs ++ []) n.1 in
    not_none 800 (n.0 ++ []) (sym e)

pub shares_more : Returns [] (share 2 1) pictured (800 ∷ []) → ⊥
shares_more r =
    let at_second = stands 1 r.2.path r.0 r.2.path_is r.2.stands in
    let f : Renames [] (share 2 1) pictured (place 1) (800 ∷ []) = subst (λ q. Renames [] (share 2 1) pictured q (800 ∷ [])) at_second r.3 in
    let v = empty_goes f.own f.value f.holds in
    not_none 800 [] (second_by (800 ∷ []) f.own f.value f.other f.theirs v.0 v.1 (other_is 0 sharing_cell f.other f.path f.path_is refl f.there) f.gives_are)
