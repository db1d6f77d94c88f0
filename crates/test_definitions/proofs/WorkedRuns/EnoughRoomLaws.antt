-- Two clients can run, and no outcome of them is out of memory: a text with room for a byte gets it,
-- and a free block that is large enough for a new object and its entry is taken.
use Rattle.std.proofs.Common.{◌≡◌, ℕ, ◌+◌, ◌*◌, true, false, Bool, List, [], ◌∷◌, length, replicate, codes, pos, Option, Some, None, inl, inr, refl, sym, ◌∙◌, ap, subst, lit≤, arith}
use Rattle.std.specs.Prelude.{option_map, slice_index_or, if◌then◌else◌}
use Rattle.std.proofs.lemmas.List.Elements.{All-nil, All-cons}
use Rattle.seg_spec.specs.Bytes.{slice, put, number, number_of, word, set_number}
use Rattle.seg_spec.specs.Pointer.{target}
use Rattle.seg_spec.specs.Types.{Form, Table, size}
use Rattle.seg_spec.specs.Value.{Value, Text, nil, cons, Selector}
use Rattle.seg_spec.specs.Heap.{Span, live}
use Rattle.seg_spec.specs.Reads.{Place, Leads, here, into}
use Rattle.seg_spec.specs.Header.{allocator_word, next_word}
use Rattle.seg_spec.specs.Index.{Root, root_named, plain_root, same_name}
use Rattle.seg_spec.specs.Shared.{replaced}
use Rattle.seg_spec.specs.Roots.{item_of}
use Rattle.seg_spec.specs.Demand.{Ask, after_asks}
use Rattle.seg_spec.specs.Spending.{object_asks}
use Rattle.seg_spec.specs.Images.{upgraded}
use Rattle.seg_spec.specs.Sound.{IsHeld}
use Rattle.seg_spec.specs.Fixtures.{empty, empty_picture, greeting, greeting_picture}
use Rattle.seg_spec.proofs.Images.UpgradeLaws.{upgraded_held, upgraded_live}
use Rattle.client_spec.specs.declared.table.Operation.{Operation}
use Rattle.client_spec.specs.declared.table.Role.{Role}
use Rattle.client_spec.specs.Syntax.{Constant, Instruction, no_more, next, opener}
use Rattle.client_spec.specs.Grammar.{client_bytes, IsNameByte, IsConstant, IsCode, SpellsClient, listing, depth}
use Rattle.client_spec.specs.Machine.{Register, Object, Names, Origin, Path, State, register, with_name}
use Rattle.client_spec.specs.Answer.{bad_alloc, path_in, path_from}
use Rattle.client_spec.specs.Effect.{effect}
use Rattle.client_spec.specs.Trees.{unfolded_register, unfolded_object}
use Rattle.client_spec.specs.Pictures.{Pictures, PicturesTrees, root_at, object_of, meaning_in}
use Rattle.client_spec.specs.Asks.{Denies, cell_asks, if_absent}
use Rattle.client_spec.specs.OnImages.{Situation, Given, Left, RowOn}
use Rattle.client_spec.specs.Typed.{RegisterType, rule, sharing_rule, types_by}
use Rattle.client_spec.specs.Clients.{IsVerified}
use Rattle.client_spec.specs.Outcome.{CanRun, given_first}
use Rattle.client_spec.specs.Fixtures.{at, do_one, no_names}
use Rattle.client_spec.proofs.Unfolded.UnfoldedStateLaws.{register_same}
use Rattle.test_definitions.specs.RefusedOutcomes.{IsOutcomeOf, add_a_byte, make_y}
use Rattle.test_definitions.proofs.WorkedImages.ImageEvaluationLaws.{live_evaluated, numbers-valid, texts-valid}
use Rattle.test_definitions.proofs.WorkedImages.SoundImages.{empty_held, empty_tiles, empty_fill, empty_headers, empty_sound, greeting_held, greeting_sound}
use Rattle.client_sim.proofs.Names.OnePictureLaws.{Held-one}
use Rattle.test_definitions.proofs.Rows.OneRow.{none_and_some, pair_is}
use Rattle.test_definitions.proofs.WorkedRuns.OneClientLaws.{one_run, first_image}
use Rattle.test_definitions.proofs.WorkedRuns.IncrementLaws.{is_instruction}
use Rattle.test_definitions.proofs.Runs.SilentRunLaws.{Has, Reads, Needs, names_on, reading_first, opened_by_reading, opened_by_need}

-- ---- make y

letter_y : IsNameByte 121
letter_y = (omega arith, omega arith, λ e. omega arith)

make_code : IsCode make_y.types make_y.constants make_y.code
unfolding IsCode
make_code =
    let s = is_instruction make_y.types make_y.constants in (
      (
        s Operation.Make Role.Opener 0 16 16 0 refl (lit≤ tt) (omega arith) (omega arith) (omega arith) (omega arith, refl) (omega arith),
        tt,
        (s Operation.OutInt Role.Plain 0 0 0 0 refl (lit≤ tt) refl (omega arith) refl refl (omega arith), tt),
      ),
      tt,
    )

make_spelled : SpellsClient (client_bytes make_y) make_y
unfolding listing depth
make_spelled = record {
  valid = record {
    types = numbers-valid;
    few_constants = omega arith;
    constants = All-cons IsConstant (Constant.Name (codes "y")) [] (omega arith, omega arith, All-cons IsNameByte 121 [] letter_y (All-nil IsNameByte)) (All-nil IsConstant);
    different = λ k l d lt h. absurd (omega arith);
    few_instructions = omega arith;
    shallow = omega arith;
    code = make_code;
  };
  spelled = refl;
}

make_verified : IsVerified empty_picture.table make_y
unfolding types_by rule sharing_rule
make_verified = record { agree = refl; typed = (replicate 16 RegisterType.Undefined, refl); bounded = lit≤ tt }

pub make_can_run : CanRun empty (client_bytes make_y ∷ []) 2048 0 []
unfolding empty empty_sound
make_can_run = record {
  can_move = record { lies = record { size = record { not_small = lit≤ tt; not_large = lit≤ tt; whole_units = refl }; room_fits = lit≤ tt; placed = (refl, lit≤ tt, lit≤ tt) }; fit = tt };
  sound = empty_sound;
  clients = make_y ∷ [];
  accepted = (make_spelled, make_verified, tt);
}

abbrev making : Instruction
making = at Operation.Make 0 16 16 (pos 0)

abbrev empty_start : List ℕ
empty_start = upgraded empty

empty_start_held : IsHeld empty_start empty_picture
empty_start_held = upgraded_held empty empty_picture empty_held

abbrev y_asks : List Ask
y_asks = object_asks empty_start (Form.i64 ∷ []) 0 1 (codes "y")

abbrev left_by : List Ask → Option (List Span)
left_by asks = after_asks (word empty_start allocator_word) (live empty_start) (length empty_start) asks

-- the free block is large enough for both requests
granted : (bs : List Span) × (left_by y_asks ≡ Some bs)
unfolding empty put set_number slice number number_of target size
granted = subst (λ ls. (bs : List Span) × (after_asks (word empty_start allocator_word) ls (length empty_start) y_asks ≡ Some bs))
    (sym (upgraded_live empty empty_picture empty_held ∙ live_evaluated empty empty_tiles empty_fill empty_headers)) (_, refl)

-- whatever object the name has, all that is requested is granted
make_granted : (o : Option Object) (asks : List Ask) → asks ≡ if_absent o y_asks → left_by asks ≡ None → ⊥
make_granted (Some o) asks e none = none_and_some (live empty_start) (left_by []) refl (subst (λ xs. left_by xs ≡ None) e none)
make_granted None asks e none = none_and_some granted.0 (left_by y_asks) granted.1 (subst (λ xs. left_by xs ≡ None) e none)

make_not_denied : (others : List Root) (s : State) (p : Pictures others s empty_start) (new : List ℕ) → Denies make_y.constants making p new → ⊥
make_not_denied others s p new d =
    let table : s.types ≡ Form.i64 ∷ [] = sym p.types ∙ (Held-one empty_start p.picture empty_picture p.held empty_start_held).table in
    make_granted (s.names (codes "y")) d.asks (d.asked ∙ ap (λ t. if_absent (s.names (codes "y")) (object_asks empty_start t 0 1 (codes "y"))) table) d.no_room

no_name : (others : List Root) (s : State) → PicturesTrees others s empty_start → s.names ≡ no_names
no_name others s p = λ i name. each name i
  where
    each : (name : List ℕ) → s.names name ≡ None
    each name =
        let m = meaning_in (word empty_start next_word) p.pictured.picture in
        let roots = (Held-one empty_start p.pictured.picture empty_picture p.pictured.held empty_start_held).names in
        ap (λ (z : State). z.names name) p.trees ∙ ap (option_map (unfolded_object m)) (p.pictured.names name ∙ ap (λ rs. option_map object_of (root_named rs name)) roots)

-- the registers at the start
abbrev undefined : List Register
undefined = replicate 16 Register.Undefined

module _ (given : Given) where
  make_needs : Needs make_y.constants given empty_start no_names (no_name given.others) making undefined
  unfolding effect
  make_needs = record { after = λ s. _; succeeds = λ s. refl; silent = λ s. refl; refused = λ s. _; fails = λ s. refl }

  make_denied : (x y : Situation) → Has make_y.constants given empty_start no_names (no_name given.others) undefined x → RowOn make_y.constants given.others given.moves making x bad_alloc y → ⊥
  make_denied x y h row = by x.image row.before h.image row.blocks
    where
      by : (bytes : List ℕ) (before : PicturesTrees given.others x.state bytes) → bytes ≡ empty_start → Denies make_y.constants making before.pictured y.image → ⊥
      by bytes before same d = subst (λ z. (p : PicturesTrees given.others x.state z) → Denies make_y.constants making p.pictured y.image → ⊥) (sym same) (λ p e. make_not_denied given.others p.plain p.pictured y.image e) before d

pub make_silent : (left : Left) → IsOutcomeOf make_y empty left → left.output ≡ []
make_silent left outcome =
    let one = one_run empty make_y left make_spelled outcome in
    let given = given_first empty_start one.0 [] 0 [] in
    let runs = one.1 in
    let first = runs.is_first in
    let same = first_image make_y given runs.first empty_picture empty_start_held refl first in
    let names = names_on make_y.constants given empty_start no_names (no_name given.others) runs.first same first.pictured in
    let has : Has make_y.constants given empty_start no_names (no_name given.others) undefined runs.first = record { image = same; names_are = names; registers = first.registers; output = first.output } in
    let all = opened_by_need make_y.constants given empty_start no_names (no_name given.others) making undefined (λ e. cc) (make_needs given) (make_denied given) (do_one Operation.OutInt 0 0 0 (pos 0) no_more) in
    runs.is_left.output ∙ elim (all.each runs.first runs.last left.steps left.ending has runs.run) [ inl b ↦ b.1 | inr c ↦ c.1 ]

-- ---- add a byte

letter_s : IsNameByte 115
letter_s = (omega arith, omega arith, λ e. omega arith)

add_code : IsCode add_a_byte.types add_a_byte.constants add_a_byte.code
unfolding IsCode
add_code =
    let s = is_instruction add_a_byte.types add_a_byte.constants in (
      s Operation.Const Role.Plain 1 0 0 33 refl (lit≤ tt) (omega arith) refl refl tt (omega arith),
      (
        (
          s Operation.Find Role.Opener 0 16 16 0 refl (lit≤ tt) (omega arith) (omega arith) (omega arith) (omega arith, refl) (omega arith),
          (
            (
              s Operation.AddByte Role.Opener 2 0 1 0 refl (lit≤ tt) (omega arith) (omega arith) (omega arith) refl (omega arith),
              tt,
              (s Operation.OutInt Role.Plain 0 2 0 0 refl (lit≤ tt) refl (omega arith) refl refl (omega arith), tt),
            ),
            tt,
          ),
          tt,
        ),
        tt,
      ),
    )

add_spelled : SpellsClient (client_bytes add_a_byte) add_a_byte
unfolding listing depth
add_spelled = record {
  valid = record {
    types = texts-valid;
    few_constants = omega arith;
    constants = All-cons IsConstant (Constant.Name (codes "s")) [] (omega arith, omega arith, All-cons IsNameByte 115 [] letter_s (All-nil IsNameByte)) (All-nil IsConstant);
    different = λ k l d lt h. absurd (omega arith);
    few_instructions = omega arith;
    shallow = omega arith;
    code = add_code;
  };
  spelled = refl;
}

add_verified : IsVerified greeting_picture.table add_a_byte
unfolding types_by rule sharing_rule
add_verified = record { agree = refl; typed = (RegisterType.Undefined ∷ RegisterType.Int ∷ replicate 14 RegisterType.Undefined, refl); bounded = lit≤ tt }

pub add_can_run : CanRun greeting (client_bytes add_a_byte ∷ []) 2048 0 []
unfolding greeting greeting_sound
add_can_run = record {
  can_move = record { lies = record { size = record { not_small = lit≤ tt; not_large = lit≤ tt; whole_units = refl }; room_fits = lit≤ tt; placed = (refl, lit≤ tt, lit≤ tt) }; fit = tt };
  sound = greeting_sound;
  clients = add_a_byte ∷ [];
  accepted = (add_spelled, add_verified, tt);
}

abbrev adding : Instruction
adding = at Operation.AddByte 2 0 1 (pos 0)

abbrev text_start : List ℕ
text_start = upgraded greeting

text_start_held : IsHeld text_start greeting_picture
text_start_held = upgraded_held greeting greeting_picture greeting_held

abbrev text_root : Root
text_root = plain_root (codes "s") 720 0 (cons (Text (codes "hi")) nil)

abbrev s_path : Path
s_path = path_from (Origin.Name (codes "s") 0)

abbrev s_object : Object
s_object = record { type = 0; values = cons (Text (codes "hi")) nil }

abbrev s_alone : Names
s_alone = with_name no_names (codes "s") (Some s_object)

only_s : (others : List Root) (s : State) → PicturesTrees others s text_start → s.names ≡ s_alone
unfolding replaced
only_s others s p = λ i name. each name i
  where
    m : ℕ → Value
    m = meaning_in (word text_start next_word) p.pictured.picture

    choose : (b : Bool) → option_map (unfolded_object m) (option_map object_of (if b then Some text_root else None)) ≡ (if b then Some s_object else None)
    choose true = refl
    choose false = refl

    each : (name : List ℕ) → s.names name ≡ s_alone name
    each name =
        let roots = (Held-one text_start p.pictured.picture greeting_picture p.pictured.held text_start_held).names in
        let named = p.pictured.names name ∙ ap (λ rs. option_map object_of (root_named rs name)) roots in
        ap (λ (z : State). z.names name) p.trees ∙ ap (option_map (unfolded_object m)) named ∙ choose (same_name name (codes "s"))

here_is : (bytes : List ℕ) (table : Table) (p q : Place) (path : List Selector) → path ≡ [] → Leads bytes table p path q → q ≡ p
here_is bytes table p q path e here = refl
here_is bytes table p q path e (into form opened i part a b c d l) = cc

reference_is : (m : ℕ → Value) (x : Register) (p : Path) → unfolded_register m x ≡ Register.Reference p → x ≡ Register.Reference p
reference_is m (Register.Reference q) p e = e
reference_is m x p e = cc

-- the text's buffer has room for one more byte
nothing_asked : (s : State) (form : Form) → cell_asks Operation.AddByte add_a_byte.constants adding s text_start 720 form ≡ []
unfolding greeting put set_number slice number number_of target
nothing_asked s Form.str = refl
nothing_asked s form = refl

text_at : (table : Table) (root : Root) (item : ℕ) (place : Place) → text_root ≡ root → 0 ≡ item → place ≡ item_of table root item → place.at ≡ 720
text_at table root item place e f g =
    let start : root.at ≡ 720 = sym (ap (λ (r : Root). r.at) e) in
    let at : place.at ≡ root.at + item * size table root.type = ap (λ (p : Place). p.at) g in
    let first : root.at + 0 * size table root.type ≡ root.at + item * size table root.type = ap (λ n. root.at + n * size table root.type) f in
    omega (arith, start, at, first)

add_not_denied : (others : List Root) (s : State) (p : PicturesTrees others s text_start) → register s 0 ≡ Register.Reference s_path → (new : List ℕ) → Denies add_a_byte.constants adding p.pictured new → ⊥
add_not_denied others s p is new d =
    let place = d.asked.0 in
    let led = d.asked.2 in
    let picture = p.pictured.picture in
    let m = meaning_in (word text_start next_word) picture in
    let seen = sym (ap (λ (z : State). register z 0) p.trees ∙ register_same m p.plain 0) ∙ is in
    let plain : register p.plain 0 ≡ Register.Reference s_path = reference_is m (register p.plain 0) s_path seen in
    let path : led.path ≡ s_path = (let e : Some led.path ≡ Some s_path = sym led.path_is ∙ ap path_in plain in cc) in
    let names = (Held-one text_start picture greeting_picture p.pictured.held text_start_held).names in
    let begins = subst (λ (q : Path). root_at p.pictured q.origin ≡ Some (led.stands.root, led.stands.item)) path led.stands.begins in
    let first : Root → Root × ℕ = λ root. (root, 0) in
    let found : ◌≡◌ {A = Option (Root × ℕ)} (Some (text_root, 0)) (Some (led.stands.root, led.stands.item))
    = subst (λ (roots : List Root). ◌≡◌ {A = Option (Root × ℕ)} (option_map first (root_named roots (codes "s"))) (Some (led.stands.root, led.stands.item))) names begins in
    let both = pair_is text_root led.stands.root 0 led.stands.item found in
    let at_root = here_is text_start picture.table (item_of picture.table led.stands.root led.stands.item) place led.path.selectors (ap (λ (q : Path). q.selectors) path) led.stands.leads in
    let where_is : place.at ≡ 720 = text_at picture.table led.stands.root led.stands.item place both.0 both.1 at_root in
    let none : d.asks ≡ [] = d.asked.3 ∙ ap (λ n. cell_asks Operation.AddByte add_a_byte.constants adding p.plain text_start n d.asked.1) where_is ∙ nothing_asked p.plain d.asked.1 in
    none_and_some (live text_start) (after_asks (word text_start allocator_word) (live text_start) (length text_start) []) refl
    (subst (λ asks. after_asks (word text_start allocator_word) (live text_start) (length text_start) asks ≡ None) none d.no_room)

abbrev with_byte : List Register
with_byte = Register.Undefined ∷ Register.Int (pos 33) ∷ replicate 14 Register.Undefined

abbrev with_text : List Register
with_text = Register.Reference s_path ∷ Register.Int (pos 33) ∷ replicate 14 Register.Undefined

abbrev setting : Instruction
setting = at Operation.Const 1 0 0 (pos 33)

abbrev finding : Instruction
finding = at Operation.Find 0 16 16 (pos 0)

module _ (given : Given) where
  sets : Reads add_a_byte.constants given text_start s_alone (only_s given.others) setting undefined with_byte
  unfolding effect
  sets = λ room s. refl

  finds : Reads add_a_byte.constants given text_start s_alone (only_s given.others) finding with_byte with_text
  unfolding effect
  finds = λ room s. refl

  add_needs : Needs add_a_byte.constants given text_start s_alone (only_s given.others) adding with_text
  unfolding effect
  add_needs = record { after = λ s. _; succeeds = λ s. refl; silent = λ s. refl; refused = λ s. _; fails = λ s. refl }

  add_denied : (x y : Situation) → Has add_a_byte.constants given text_start s_alone (only_s given.others) with_text x → RowOn add_a_byte.constants given.others given.moves adding x bad_alloc y → ⊥
  add_denied x y h row = by x.image row.before h.image row.blocks
    where
      by : (bytes : List ℕ) (before : PicturesTrees given.others x.state bytes) → bytes ≡ text_start → Denies add_a_byte.constants adding before.pictured y.image → ⊥
      by bytes before same d = subst (λ z. (p : PicturesTrees given.others x.state z) → Denies add_a_byte.constants adding p.pictured y.image → ⊥) (sym same)
          (λ p e. add_not_denied given.others x.state p (ap (λ rs. slice_index_or rs 0 Register.Undefined) h.registers) y.image e) before d

pub add_silent : (left : Left) → IsOutcomeOf add_a_byte greeting left → left.output ≡ []
add_silent left outcome =
    let one = one_run greeting add_a_byte left add_spelled outcome in
    let given = given_first text_start one.0 [] 0 [] in
    let runs = one.1 in
    let first = runs.is_first in
    let same = first_image add_a_byte given runs.first greeting_picture text_start_held refl first in
    let cs = add_a_byte.constants in
    let names = only_s given.others in
    let has : Has cs given text_start s_alone names undefined runs.first = record { image = same; names_are = names_on cs given text_start s_alone names runs.first same first.pictured; registers = first.registers; output = first.output } in
    let print = do_one Operation.OutInt 0 2 0 (pos 0) no_more in
    let add = opened_by_need cs given text_start s_alone names adding with_text (λ e. cc) (add_needs given) (add_denied given) print in
    let find = opened_by_reading cs given text_start s_alone names finding with_byte with_text (λ e. cc) refl (finds given) (next (opener adding no_more print) no_more) no_more add in
    let all = reading_first cs given text_start s_alone names setting undefined with_byte (λ e. cc) refl (sets given) (next (opener finding (next (opener adding no_more print) no_more) no_more) no_more) find in
    runs.is_left.output ∙ elim (all.each runs.first runs.last left.steps left.ending has runs.run) [ inl b ↦ b.1 | inr c ↦ c.1 ]
