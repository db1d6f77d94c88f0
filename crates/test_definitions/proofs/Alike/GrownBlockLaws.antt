-- The allocated blocks after PUSH, PUSHF and PUTK: at most one came, and the old buffer may have gone.
use Rattle.std.proofs.Common.{◌≡◌, ℕ, ◌+◌, ◌*◌, ◌-◌, ◌≤◌, ◌⊎◌, inl, inr, Bool, true, false, List, [], ◌∷◌, ◌++◌, length, Option, Some, None, option_map, option_to_list, refl, sym, ap, ◌∙◌, subst, arith, length-append}
use Rattle.std.specs.Prelude.{⊤, if◌then◌else◌, nat_le, option_and_then}
use Rattle.std.specs.Option.{option_map_or}
use Rattle.std.proofs.lemmas.Bool.{cases_eq}
use Rattle.seg_spec.specs.Bytes.{word}
use Rattle.seg_spec.specs.Header.{allocator_word}
use Rattle.seg_spec.specs.Pointer.{target}
use Rattle.seg_spec.specs.Types.{Form, size}
use Rattle.seg_spec.specs.Value.{count}
use Rattle.seg_spec.specs.Heap.{Span, live, without, Granted, same, fresh}
use Rattle.seg_spec.specs.Block.{block_of}
use Rattle.seg_spec.specs.Reads.{Place, count_at, named, map_words}
use Rattle.seg_spec.specs.Index.{Root}
use Rattle.seg_spec.specs.Sound.{times, positions}
use Rattle.seg_spec.specs.Demand.{Ask, block_for, growth, growth_if_needed, after_ask, blocks_then, after_asks, after_gives}
use Rattle.seg_spec.specs.Spending.{units_named, buffer_asks, old_of}
use Rattle.seg_spec.specs.Spending as spending
use Rattle.seg_spec.proofs.Heap.LiveBlockLaws.{times-append, times-same, times-more, times-without}
use Rattle.seg_spec.proofs.Heap.BlockCountLaws.{no_more}
use Rattle.client_spec.specs.declared.table.Operation.{Operation}
use Rattle.client_spec.specs.Syntax.{Constant, Instruction}
use Rattle.client_spec.specs.Machine.{State}
use Rattle.client_spec.specs.Answer.{success}
use Rattle.client_spec.specs.Pictures.{Pictures}
use Rattle.client_spec.specs.Asks.{LedTo, AsksBy, AsksAt, if_absent, found_key, cell_asks, ReturnsBy, ChangesOnSuccess, ChangesBlocks, GrantsAsks}
use Rattle.client_spec.specs.Ties.{places_of}
use Rattle.test_definitions.proofs.ValueChanges.NewPartLaws.{may_go}
use Rattle.test_definitions.proofs.Rows.OnePlaceLaws.{RefersTo, led_one}
use Rattle.test_definitions.proofs.Rows.OneRow as one_row
use Rattle.test_definitions.proofs.ValueChanges.AddedValueLaws.{IsAdding, IsContainer}
use Rattle.test_definitions.proofs.Steps.TextStepLaws.{Grants, by_ask}

-- At most one block came. The old buffer may have gone, but not if no block came.
pub record Gets (bs new : List Span) (old : List ℕ) : Type 0 where
  pub come : List ℕ
  pub few : length come ≤ 1
  pub more : (h : ℕ) → times h (positions new) ≤ times h (positions bs) + times h come
  pub stay : (h : ℕ) → 1 ≤ times h (positions bs) → times h old ≡ 0 → 1 ≤ times h (positions new)
  pub gone : (come ≡ []) ⊎ ((h : ℕ) → times h (positions new) + times h old ≤ times h (positions bs) + times h come)

unchanged : (bs new : List Span) (old : List ℕ) → positions new ≡ positions bs → Gets bs new old
unchanged bs new old e = record {
  come = [];
  few = omega arith;
  more = λ h. omega (arith, ap (times h) e);
  stay = λ h some none. subst (λ ps. 1 ≤ times h ps) (sym e) some;
  gone = inl refl;
}

module _ (allocator : ℕ) (bs : List Span) (end : ℕ) (blocks new : List Span) where
  gets_none : (old : List ℕ) → after_asks allocator bs end [] ≡ Some blocks → new ≡ after_gives blocks (spending.replaced allocator bs end [] ++ []) → Gets bs new old
  gets_none old done left = (let same_bs : bs ≡ blocks = cc in unchanged bs new old (ap (λ (zs : List Span). positions zs) (left ∙ sym same_bs)))

  gets_one : (ask : Ask) (old : Option ℕ) → ask.old ≡ old → ((h : ℕ) → times h (option_to_list old) ≤ times h (positions bs)) → after_asks allocator bs end (ask ∷ []) ≡ Some blocks
      → new ≡ after_gives blocks (spending.replaced allocator bs end (ask ∷ []) ++ []) → Gets bs new (option_to_list old)
  gets_one ask old is within done left = by (after_ask allocator bs end ask) refl done left
    where
      given : (g : Granted) (old : Option ℕ) → Grants bs g → blocks_then g ≡ blocks → ask.old ≡ old → ((h : ℕ) → times h (option_to_list old) ≤ times h (positions bs)) → new ≡ after_gives blocks ((old_of g ask ++ []) ++ [])
          → Gets bs new (option_to_list old)
      given (same cs) old grants is e within left = unchanged bs new (option_to_list old) (ap (λ (zs : List Span). positions zs) (left ∙ sym is) ∙ grants)
      given (fresh a cs) None grants is e within left =
          let new_is : new ≡ cs = left ∙ ap (λ o. after_gives blocks ((option_to_list o ++ []) ++ [])) e ∙ sym is in
          let counts : (h : ℕ) → times h (positions new) ≡ times h (a ∷ []) + times h (positions bs) = λ h. ap (λ zs. times h (positions zs)) new_is ∙ grants h ∙ times-append h (a ∷ []) (positions bs) in
          record {
            come = a ∷ [];
            few = omega arith;
            more = λ h. omega (arith, counts h);
            stay = λ h some none. omega (arith, counts h, some);
            gone = inr (λ h. omega (arith, counts h));
          }
      given (fresh a cs) (Some at) grants is e within left =
          let new_is : new ≡ without at cs = left ∙ ap (λ o. after_gives blocks ((option_to_list o ++ []) ++ [])) e ∙ ap (without at) (sym is) in
          let there : 1 ≤ times at (positions cs) = omega (arith, within at, times-same at [], grants at, times-more at a (positions bs)) in
          let counts : (h : ℕ) → times h (positions new) + times h (at ∷ []) ≡ times h (a ∷ []) + times h (positions bs) = λ h. omega
          (arith, ap (λ zs. times h (positions zs)) new_is, times-without h at cs there, times-append h (at ∷ []) (positions (without at cs)), grants h, times-append h (a ∷ []) (positions bs)) in
          record {
            come = a ∷ [];
            few = omega arith;
            more = λ h. omega (arith, counts h);
            stay = λ h some none. omega (arith, counts h, some, none);
            gone = inr (λ h. omega (arith, counts h));
          }

      by : (o : Option Granted) → after_ask allocator bs end ask ≡ o → option_and_then (λ g. after_asks allocator (blocks_then g) end []) o ≡ Some blocks
          → new ≡ after_gives blocks (option_map_or (λ g. old_of g ask ++ spending.replaced allocator (blocks_then g) end []) o [] ++ []) → Gets bs new (option_to_list old)
      by None f done left = cc
      by (Some g) f done left = given g old (by_ask allocator bs end old ask is g f) (let e : Some (blocks_then g) ≡ Some blocks = done in cc) is within left

  gets_growth : (units : ℕ) (old : Option ℕ) (item count wanted : ℕ) → ((h : ℕ) → times h (option_to_list old) ≤ times h (positions bs)) → after_asks allocator bs end (growth_if_needed units old item count wanted) ≡ Some blocks
      → new ≡ after_gives blocks (spending.replaced allocator bs end (growth_if_needed units old item count wanted) ++ []) → Gets bs new (option_to_list old)
  gets_growth units old item count wanted within = go (nat_le (wanted * item) (16 * units - 16))
    where
      go : (t : Bool) → after_asks allocator bs end (if t then [] else growth old item count wanted ∷ []) ≡ Some blocks
          → new ≡ after_gives blocks (spending.replaced allocator bs end (if t then [] else growth old item count wanted ∷ []) ++ []) → Gets bs new (option_to_list old)
      go true done left = gets_none (option_to_list old) done left
      go false done left = gets_one (growth old item count wanted) old refl within done left

-- what follows for each of the three
pub by_three : (P : Operation → Type 0) (o : Operation) → IsAdding o → P Operation.PushBack → P Operation.PushFront → P Operation.PutKey → P o
by_three P o (inl e) a b c = subst P (sym e) a
by_three P o (inr (inl e)) a b c = subst P (sym e) b
by_three P o (inr (inr e)) a b c = subst P (sym e) c

-- PUTK finds no entry, by the state without copies
abbrev pub LacksBy : Operation → Instruction → State → Type 0
LacksBy Operation.PutKey i s = found_key i s ≡ None
LacksBy operation i s = ⊤

-- what the requests at a cell of a form give
abbrev GetsAt : (constants : List Constant) (i : Instruction) (s : State) (bytes new : List ℕ) (at : ℕ) → Operation → List Span → Form → Type 0
GetsAt constants i s bytes new at o blocks form =
    after_asks (word bytes allocator_word) (live bytes) (length bytes) (cell_asks o constants i s bytes at form) ≡ Some blocks
    → live new ≡ after_gives blocks (spending.replaced (word bytes allocator_word) (live bytes) (length bytes) (cell_asks o constants i s bytes at form) ++ [])
    → Gets (live bytes) (live new) (may_go form (named bytes at))

gets_at : (constants : List Constant) (i : Instruction) (s : State) (bytes new : List ℕ) (at : ℕ) (blocks : List Span) (form : Form) → IsContainer form → ((h : ℕ) → times h (may_go form (named bytes at)) ≤ times h (positions (live bytes)))
    → (o : Operation) → IsAdding o → LacksBy o i s → GetsAt constants i s bytes new at o blocks form
gets_at constants i s bytes new at blocks form container within o which =
    by_three (λ k. LacksBy k i s → GetsAt constants i s bytes new at k blocks form) o which (back form container within) (front form container within) (put form container within)
  where
    none : (old : List ℕ) → after_asks (word bytes allocator_word) (live bytes) (length bytes) [] ≡ Some blocks → live new ≡ after_gives blocks (spending.replaced (word bytes allocator_word) (live bytes) (length bytes) [] ++ [])
        → Gets (live bytes) (live new) old
    none = gets_none (word bytes allocator_word) (live bytes) (length bytes) blocks (live new)

    node_for : (n : ℕ) → after_asks (word bytes allocator_word) (live bytes) (length bytes) (block_for n ∷ []) ≡ Some blocks
        → live new ≡ after_gives blocks (spending.replaced (word bytes allocator_word) (live bytes) (length bytes) (block_for n ∷ []) ++ []) → Gets (live bytes) (live new) []
    node_for n = gets_one (word bytes allocator_word) (live bytes) (length bytes) blocks (live new) (block_for n) None refl (λ h. omega arith)

    buffer_for : (item : ℕ) → ((h : ℕ) → times h (named bytes at) ≤ times h (positions (live bytes)))
        → after_asks (word bytes allocator_word) (live bytes) (length bytes) (buffer_asks bytes at item (count_at bytes at + 1)) ≡ Some blocks
        → live new ≡ after_gives blocks (spending.replaced (word bytes allocator_word) (live bytes) (length bytes) (buffer_asks bytes at item (count_at bytes at + 1)) ++ []) → Gets (live bytes) (live new) (named bytes at)
    buffer_for item = gets_growth (word bytes allocator_word) (live bytes) (length bytes) blocks (live new) (units_named bytes at) (option_map block_of (target bytes at)) item (count_at bytes at) (count_at bytes at + 1)

    absent : (asks : List Ask) → found_key i s ≡ None → if_absent (found_key i s) asks ≡ asks
    absent asks e = ap (λ o. if_absent o asks) e

    back : (form : Form) → IsContainer form → ((h : ℕ) → times h (may_go form (named bytes at)) ≤ times h (positions (live bytes))) → LacksBy Operation.PushBack i s → GetsAt constants i s bytes new at Operation.PushBack blocks form
    back (Form.vec U) c within lacks done left = buffer_for (size s.types U) within done left
    back (Form.list U) c within lacks done left = node_for (8 + size s.types U) done left
    back (Form.flat_map U) c within lacks done left = none (named bytes at) done left
    back (Form.map U) c within lacks done left = none [] done left
    back form c within lacks done left = absurd c

    front : (form : Form) → IsContainer form → ((h : ℕ) → times h (may_go form (named bytes at)) ≤ times h (positions (live bytes))) → LacksBy Operation.PushFront i s → GetsAt constants i s bytes new at Operation.PushFront blocks form
    front (Form.vec U) c within lacks done left = none (named bytes at) done left
    front (Form.list U) c within lacks done left = node_for (8 + size s.types U) done left
    front (Form.flat_map U) c within lacks done left = none (named bytes at) done left
    front (Form.map U) c within lacks done left = none [] done left
    front form c within lacks done left = absurd c

    put : (form : Form) → IsContainer form → ((h : ℕ) → times h (may_go form (named bytes at)) ≤ times h (positions (live bytes))) → LacksBy Operation.PutKey i s → GetsAt constants i s bytes new at Operation.PutKey blocks form
    put (Form.vec U) c within lacks done left = none (named bytes at) done left
    put (Form.list U) c within lacks done left = none [] done left
    put (Form.flat_map U) c within lacks done left =
        let asks = absent (buffer_asks bytes at (8 + size s.types U) (count_at bytes at + 1)) lacks in
        buffer_for (8 + size s.types U) within (subst (λ zs. after_asks (word bytes allocator_word) (live bytes) (length bytes) zs ≡ Some blocks) asks done)
        (subst (λ zs. live new ≡ after_gives blocks (spending.replaced (word bytes allocator_word) (live bytes) (length bytes) zs ++ [])) asks left)
    put (Form.map U) c within lacks done left =
        let asks = absent (block_for (map_words + size s.types U) ∷ []) lacks in
        node_for (map_words + size s.types U) (subst (λ zs. after_asks (word bytes allocator_word) (live bytes) (length bytes) zs ≡ Some blocks) asks done)
        (subst (λ zs. live new ≡ after_gives blocks (spending.replaced (word bytes allocator_word) (live bytes) (length bytes) zs ++ [])) asks left)
    put form c within lacks done left = absurd c

pub adding_gets : (constants : List Constant) (i : Instruction) {others : List Root} {s : State} {bytes : List ℕ} (p : Pictures others s bytes) (new : List ℕ) → IsAdding i.operation → LacksBy i.operation i s → RefersTo s i.b
    → ChangesBlocks constants i p success new → (place : Place) (form : Form) → LedTo constants i p place form → IsContainer form → ((h : ℕ) → times h (may_go form (named bytes place.at)) ≤ times h (positions (live bytes)))
    → Gets (live bytes) (live new) (may_go form (named bytes place.at))
adding_gets constants i {others = others} {s = s} {bytes = bytes} p new which lacks found c place form l container within =
    let g : GrantsAsks constants i p new = by_three (λ o. ChangesOnSuccess constants i p o new → GrantsAsks constants i p new) i.operation which (λ x. x) (λ x. x) (λ x. x) c in
    let asked : AsksAt constants i p g.asks = by_three (λ o. AsksBy constants i p o g.asks → AsksAt constants i p g.asks) i.operation which (λ x. x) (λ x. x) (λ x. x) g.asked in
    let gives : g.gives ≡ [] = by_three (λ o. ReturnsBy constants i p o g.gives → g.gives ≡ []) i.operation which (λ x. x) (λ x. x) (λ x. x) g.returned in
    let one_place = led_one constants i (one_row.itself others (places_of p.owned) bytes p refl) p p refl refl found place asked.0 form asked.1 l asked.2 in
    let asks : g.asks ≡ cell_asks i.operation constants i s bytes place.at form = asked.3 ∙ (λ j. cell_asks i.operation constants i s bytes (sym one_place.0 j).at (sym one_place.1 j)) in
    let done = subst (λ zs. after_asks (word bytes allocator_word) (live bytes) (length bytes) zs ≡ Some g.blocks) asks g.granted in
    let left = subst (λ zs. live new ≡ after_gives g.blocks (spending.replaced (word bytes allocator_word) (live bytes) (length bytes) zs ++ [])) asks
    (g.left ∙ ap (λ zs. after_gives g.blocks (spending.replaced (word bytes allocator_word) (live bytes) (length bytes) g.asks ++ zs)) gives) in
    gets_at constants i s bytes new place.at g.blocks form container within i.operation which lacks done left

-- at most one block more is owned, besides those that went
pub few_more : (bs new : List Span) (freed xs its : List ℕ) → Gets bs new freed → length freed ≤ 1 → ((h : ℕ) → times h freed ≤ times h its) → ((h : ℕ) → times h its ≤ times h (positions bs)) → ((h : ℕ) → times h (positions bs) ≤ 1)
    → ((h : ℕ) → times h xs ≤ 1) → ((h : ℕ) → 1 ≤ times h xs → (1 ≤ times h (positions new)) × ((times h (positions bs) ≡ 0) ⊎ (1 ≤ times h its))) → length xs + length freed ≤ length its + 1
few_more bs new freed xs its g short within below one_live once still = by g.gone
  where
    by : (g.come ≡ []) ⊎ ((h : ℕ) → times h (positions new) + times h freed ≤ times h (positions bs) + times h g.come) → length xs + length freed ≤ length its + 1
    by (inl none) = omega (arith, no_more xs its fewer, short)
      where
        fewer : (h : ℕ) → times h xs ≤ times h its
        fewer h = elim (cases_eq (times h xs) 0) [
          | inl nothing ↦ omega (arith, nothing)
          | inr some ↦ (let o = still h (omega (arith, some)) in elim o.1 [ inl e ↦ absurd (omega (arith, o.0, g.more h, e, ap (times h) none)) | inr l ↦ omega (arith, l, once h) ])
        ]
    by (inr gone) = omega (arith, no_more (xs ++ freed) (its ++ g.come) fewer, length-append xs freed, length-append its g.come, g.few)
      where
        fewer : (h : ℕ) → times h (xs ++ freed) ≤ times h (its ++ g.come)
        fewer h = (
            let a = times-append h xs freed in
            let b = times-append h its g.come in
            elim (cases_eq (times h xs) 0) [
              | inl nothing ↦ omega (arith, nothing, a, b, within h)
              | inr some ↦ (
                  let o = still h (omega (arith, some)) in
                  elim o.1 [
                    | inl e ↦ omega (arith, a, b, o.0, e, gone h, once h, below h, within h)
                    | inr l ↦ omega (arith, a, b, o.0, l, gone h, once h, below h, one_live h)
                  ])
            ])
