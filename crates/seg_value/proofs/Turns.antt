-- One step of destruction, and what it needs of an object without an owner.
use Rattle.std.proofs.Common.{◌≡◌, ◌≢◌, ℕ, ◌+◌, ◌≤◌, inl, List, [], ◌∷◌, ◌++◌, length, Option, None, refl, sym, ap, ◌∙◌, subst, arith}
use Rattle.seg_spec.specs.Header.{free_word, back_start, back_size, KeepsFront, KeepsBack}
use Rattle.seg_spec.specs.Types.{Table, IsTable}
use Rattle.seg_spec.specs.Value.{Value}
use Rattle.seg_spec.specs.Heap.{IsHeap, live, heap_start, without, IsLive, Gives}
use Rattle.seg_spec.specs.Block.{Kind, IsOwnable, block_of}
use Rattle.seg_spec.specs.Calls.{IsLoose}
use Rattle.seg_spec.specs.Demand.{after_gives}
use Rattle.seg_spec.specs.Sound.{times, SameBlocks, positions}
use Rattle.seg_spec.specs.Reads.{Place}
use Rattle.seg_spec.specs.Frozen.{Frozen, blocks_by}
use Rattle.seg_spec.specs.Shared.{named_in}
use Rattle.seg_spec.specs.Owing.{KeepsLinked, no_parts, more_parts, owes, no_links}
use Rattle.seg_spec.specs.Destroying.{AreLive, GoesWith, Awaits, Pops, Adds, HoldFrozen, KeepFrozen, Destroys}
use Rattle.seg_spec.proofs.Heap.LiveBlockLaws.{times-append, times-same, times-without, there, LiesIn, live-lie, live-once}
use Rattle.seg_spec.proofs.Heap.KeptBlockLaws.{front_kept}
use Rattle.seg_spec.proofs.Deallocation.BlockFreeLaws.{found, given_kept}
use Rattle.seg_spec.proofs.Deallocation.DestructionLaws.{HasFreed, pop_live, freed_more, linked_twice, released}
use Rattle.seg_spec.specs.Clearing.{SharedBeside}
use Rattle.seg_spec.proofs.Frozen.FrozenBlockLaws.{hold_kept, frozen_twice, frozen_kept}
use Rattle.seg_spec.proofs.Values.CallPlaceLaws.{ownable_linked}
use Rattle.seg_spec.proofs.Deallocation.SharedDestructionLaws.{awaits_shared}
use Rattle.seg_value.specs.Waiting.{AddsIn, IsOpened}

-- a position in the list of allocated blocks is an allocated block's
pub is_live : (bytes : List ℕ) (at : ℕ) → 1 ≤ times at (positions (live bytes)) → IsLive bytes at
is_live bytes at some =
    let f = found at (live bytes) some in
    subst (λ a. IsLive bytes a) f.at_is (f.block.units, f.among)

pub turned : (allocator : ℕ) (old now opened new : List ℕ) (table here : Table) → here ≡ table → (valid : IsTable table) (first next after : Option ℕ) (p : ℕ) (blocks : List ℕ) (kept : List Place)
    (theirs : ℕ → List ℕ) (final : List Frozen) (turns : ℕ) →
    (owned : AreLive old blocks) → HasFreed allocator old now table first blocks kept theirs final turns →
    ((left names : List ℕ) → Awaits allocator now here first left names kept theirs final → Pops allocator now here p next left names kept theirs final) →
    ((xs ns : List ℕ) → GoesWith now here p xs ns → (ys names : List ℕ) → IsTable here → Awaits allocator now here next ys (ns ++ names) kept theirs final → AreLive now (xs ++ ys) →
    IsOpened allocator now opened here after p xs ys names kept theirs final) →
    (IsHeap allocator opened → IsLive opened (block_of p) → Gives allocator opened new (block_of p)) → HasFreed allocator old new table after blocks kept theirs final (turns + 1)
turned allocator old now opened new table here same valid first next after p blocks kept theirs final turns owned f pops opens gives =
    let pops' : (left names : List ℕ) → Awaits allocator now table first left names kept theirs final → Pops allocator now table p next left names kept theirs final =
    subst (λ t. (left names : List ℕ) → Awaits allocator now t first left names kept theirs final → Pops allocator now t p next left names kept theirs final) same pops in
    let opens' : (xs ns : List ℕ) → GoesWith now table p xs ns → (ys names : List ℕ) → IsTable table → Awaits allocator now table next ys (ns ++ names) kept theirs final → AreLive now (xs ++ ys) →
    IsOpened allocator now opened table after p xs ys names kept theirs final =
    subst (λ t. (xs ns : List ℕ) → GoesWith now t p xs ns → (ys names : List ℕ) → IsTable t → Awaits allocator now t next ys (ns ++ names) kept theirs final → AreLive now (xs ++ ys) →
    IsOpened allocator now opened t after p xs ys names kept theirs final) same opens in
    let pop = pops' f.left [] f.awaits in
    let fits = pop_live allocator old now table valid first blocks kept theirs final turns owned f p next pop in
    let o = opens' pop.popped pop.popped_names pop.goes pop.others [] valid pop.awaits fits in
    let same_live : times (block_of p) (positions (live opened)) ≡ times (block_of p) (positions (live now)) = ap (λ bs. times (block_of p) (positions bs)) o.adds.keeps.live_kept in
    let its = o.xs_are (block_of p) in
    let one = times-same (block_of p) o.rest in
    let all = times-append (block_of p) pop.popped pop.others in
    let mine = fits (block_of p) in
    let g = gives o.adds.awaits.beside.pends.heap (is_live opened (block_of p) (omega arith)) in
    freed_more allocator old now table valid first blocks kept theirs final turns owned f p next pop opened new after o.rest o.xs_are o.adds g

-- a loose object and what is freed with it
pub loose_goes : (bytes : List ℕ) (table : Table) (object U : ℕ) (v : Value) (inside : List ℕ) → IsLoose bytes table (record { at = object; type = U }) v inside →
    GoesWith bytes table object (block_of object ∷ inside) (named_in v)
loose_goes bytes table object U v inside l = record {
  owed = block_of object ∷ ((inside ++ []) ++ []);
  named = (named_in v ++ []) ++ [];
  owes_it = owes Kind.object U (record { at = object; type = U } ∷ []) [] (inside ++ []) [] (named_in v ++ []) [] (l.block, refl, refl) (more_parts (inl (v, l.holds_it, refl)) no_parts) no_links refl refl;
  owed_are = λ h. let a = times-append h inside [] in let b = times-append h (inside ++ []) [] in omega arith;
  named_are = λ h. let a = times-append h (named_in v) [] in let b = times-append h (named_in v ++ []) [] in omega arith;
}

-- blocks that were added to the waiting ones are destroyed
pub added_destroys : (allocator : ℕ) (old mid new : List ℕ) (table : Table) (first : Option ℕ) (xs ys names blocks : List ℕ) (kept : List Place) (theirs : ℕ → List ℕ) (final : List Frozen) →
    Adds allocator old mid table first xs ys names kept theirs final →
    SameBlocks (xs ++ ys) blocks → Destroys allocator mid new table blocks theirs final → Destroys allocator old new table blocks theirs final
added_destroys allocator old mid new table first xs ys names blocks kept theirs final a same d =
    let f = d.frees in
    record {
      gives = d.gives;
      blocks_are = d.blocks_are;
      frees = record {
        length_kept = f.length_kept ∙ a.keeps.length_kept;
        front_kept = f.front_kept ∙ a.keeps.front_kept 0 free_word (omega arith);
        back_kept = f.back_kept ∙ a.keeps.front_kept back_start back_size (omega arith);
        heap = f.heap;
        live_is = f.live_is ∙ ap (λ bs. after_gives bs d.gives) a.keeps.live_kept;
        live_are = λ h. f.live_are h ∙ ap (λ bs. times h (positions bs)) a.keeps.live_kept;
        kept = λ h some none. linked_twice old mid new h (a.keeps.others h some (same h ∙ d.blocks_are h ∙ none)) (f.kept h (subst (λ bs. 1 ≤ times h (positions bs)) (sym a.keeps.live_kept) some) none);
      };
      shared_kept = frozen_twice old mid new theirs final a.shared_kept d.shared_kept;
      holds = d.holds;
      ownable = d.ownable;
    }

pub destroyed : (allocator : ℕ) (old mid new : List ℕ) (table here : Table) → here ≡ table → IsTable table → (none first : Option ℕ) → none ≡ None → (object U : ℕ) (v : Value) (inside : List ℕ) → IsHeap allocator old →
    IsLoose old table (record { at = object; type = U }) v inside → (theirs : ℕ → List ℕ) (kept : List Place) (now final : List Frozen) → SharedBeside old table (block_of object ∷ inside) (named_in v) theirs kept now final →
    ((xs ns : List ℕ) → GoesWith old table object xs ns → AddsIn old mid table none first [] xs ns) →
    ((blocks : List ℕ) (kept : List Place) (theirs : ℕ → List ℕ) (final : List Frozen) → IsTable here → Awaits allocator mid here first blocks [] kept theirs final → AreLive mid blocks →
    Destroys allocator mid new here blocks theirs final) → Destroys allocator old new table ((block_of object ∷ inside) ++ blocks_by theirs now) theirs final
destroyed allocator old mid new table here same valid none first is_none object U v inside heap loose theirs kept now final b push destroy =
    let shares = blocks_by theirs now in
    let xs = block_of object ∷ inside in
    let waiting = awaits_shared allocator old table none (block_of object ∷ inside) (named_in v) theirs kept now final is_none heap b in
    let a = push (block_of object ∷ inside) (named_in v) (loose_goes old table object U v inside loose) allocator shares [] kept theirs final valid waiting b.owned in
    let destroy' : (blocks : List ℕ) (kept : List Place) (theirs : ℕ → List ℕ) (final : List Frozen) → IsTable table → Awaits allocator mid table first blocks [] kept theirs final → AreLive mid blocks →
    Destroys allocator mid new table blocks theirs final =
    subst (λ t. (blocks : List ℕ) (kept : List Place) (theirs : ℕ → List ℕ) (final : List Frozen) → IsTable t → Awaits allocator mid t first blocks [] kept theirs final → AreLive mid blocks →
    Destroys allocator mid new t blocks theirs final) same destroy in
    let live_there : AreLive mid ((block_of object ∷ inside) ++ shares) = λ h. let o = b.owned h in
    let l : times h (positions (live mid)) ≡ times h (positions (live old)) = ap (λ bs. times h (positions bs)) a.keeps.live_kept in omega arith in
    let d = destroy' ((block_of object ∷ inside) ++ shares) kept theirs final valid a.awaits live_there in
    added_destroys allocator old mid new table first (block_of object ∷ inside) shares [] ((block_of object ∷ inside) ++ shares) kept theirs final a (λ h. refl) d

-- an object that is a number is freed alone, and all frozen objects stay
pub number_destroys : (allocator : ℕ) (old new : List ℕ) (table : Table) → IsTable table → (p : ℕ) (v : Value) (inside : List ℕ) → inside ≡ [] → named_in v ≡ [] → IsHeap allocator old → (theirs : ℕ → List ℕ) (kept : List Place)
    (now final : List Frozen) → SharedBeside old table (p ∷ inside) (named_in v) theirs kept now final → Gives allocator old new p → Destroys allocator old new table ((p ∷ inside) ++ blocks_by theirs now) theirs final
number_destroys allocator old new table valid p v inside none no_names heap theirs kept now final b g = record {
  gives = p ∷ inside;
  blocks_are = λ h. ap (λ fs. times h ((p ∷ inside) ++ blocks_by theirs fs)) now_is;
  frees = record {
    length_kept = g.kept.length_kept;
    front_kept = front.0;
    back_kept = front.1;
    heap = g.heap;
    live_is = g.given ∙ ap (after_gives (live old)) alone;
    live_are = λ h. let w = times-without h p (live old) some in let is : times h (positions (live new)) ≡ times h (positions (without p (live old))) = ap (λ bs. times h (positions bs)) g.given in
        let one : times h (p ∷ inside) ≡ times h (p ∷ []) = ap (times h) (sym alone) in omega arith;
    kept = λ h there_is gone. stays h there_is (λ e.
        let z : times p ((p ∷ inside) ++ blocks_by theirs final) ≡ 0 = subst (λ x. times x ((p ∷ inside) ++ blocks_by theirs final) ≡ 0) e gone in
        absurd (omega (arith, times-append p (p ∷ inside) (blocks_by theirs final), times-same p inside)));
  };
  shared_kept = subst (KeepFrozen old new theirs) now_is (frozen_kept allocator old new heap theirs now (λ h l. omega (arith, b.owned h, times-append h (p ∷ inside) (blocks_by theirs now))) (λ h l. (beside h l).whole.kept));
  holds = subst (HoldFrozen new table theirs) now_is (hold_kept old new table valid theirs now (λ h l. (beside h l).whole.kept) b.holds);
  ownable = subst (λ fs. (h : ℕ) → 1 ≤ times h (blocks_by theirs fs) → IsOwnable new table h) now_is (λ h l. ownable_linked old new table h (beside h l) (b.ownable h l));
}
  where
    alone : p ∷ [] ≡ p ∷ inside
    alone = ap (λ zs. p ∷ zs) (sym none)

    some : 1 ≤ times p (positions (live old))
    some = let o = b.owned p in let one = times-same p inside in let n = times-append p (p ∷ inside) (blocks_by theirs now) in omega arith

    large : heap_start ≤ length old
    large = let l = there (LiesIn old heap_start (length old)) p (positions (live old)) (live-lie old allocator heap) some in omega (arith, l.low, l.high)

    front : KeepsFront old new × KeepsBack old new
    front = front_kept old new g.kept large

    stays : (h : ℕ) → 1 ≤ times h (positions (live old)) → h ≢ p → KeepsLinked old new h
    stays h there_is other = given_kept allocator old new p heap g h there_is other

    beside : (h : ℕ) → 1 ≤ times h (blocks_by theirs now) → KeepsLinked old new h
    beside h l =
        let n = times-append h (p ∷ inside) (blocks_by theirs now) in
        let o = b.owned h in
        stays h (omega arith) (λ e.
        let once = live-once old allocator heap p in
        let mine : 1 ≤ times p (blocks_by theirs now) = subst (λ x. 1 ≤ times x (blocks_by theirs now)) e l in
        absurd (omega (arith, b.owned p, times-append p (p ∷ inside) (blocks_by theirs now), times-same p inside)))

    now_is : now ≡ final
    now_is = released kept final (named_in v) now b.releasing (λ h. ap (times h) no_names)
