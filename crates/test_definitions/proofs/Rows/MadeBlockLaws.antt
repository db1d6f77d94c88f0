-- The allocated blocks after MAKE or FINDOR made a named object. The object has a new block. A flat index has
-- its buffer in the same block or in a new one, and a tree index has one more node.
use Rattle.std.proofs.Common.{◌≡◌, ℕ, zero, suc, ◌+◌, ◌-◌, ◌*◌, ◌≤◌, Bool, true, false, List, [], ◌∷◌, ◌++◌, length, Option, Some, None, option_map, option_to_list, refl, sym, ap, ◌∙◌, subst, arith, length-append}
use Rattle.std.specs.Prelude.{if◌then◌else◌, nat_le, option_and_then}
use Rattle.std.specs.Option.{option_map_or, option_or}
use Rattle.std.proofs.lemmas.Bool.Decides.{nat_tests}
use Rattle.seg_spec.specs.Bytes.{word}
use Rattle.seg_spec.specs.Header.{allocator_word, index_kind_word, index_cell}
use Rattle.seg_spec.specs.Pointer.{target}
use Rattle.seg_spec.specs.Heap.{Span, live, without, after_take, Granted, same, fresh}
use Rattle.seg_spec.specs.Heap as heap
use Rattle.seg_spec.specs.Block.{block_of}
use Rattle.seg_spec.specs.Reads.{count_at, named}
use Rattle.seg_spec.specs.Index.{Index, OpensIndex, index_node_size}
use Rattle.seg_spec.specs.Sound.{Picture, IsHeld, times, positions}
use Rattle.seg_spec.specs.Demand as demand
use Rattle.seg_spec.specs.Demand.{Ask, block_for, growth, growth_if_needed, after_ask, blocks_then, after_asks, after_gives}
use Rattle.seg_spec.specs.Spending.{entry_asks, old_of}
use Rattle.seg_spec.specs.Spending as spending
use Rattle.seg_spec.proofs.Heap.LiveBlockLaws.{times-append, times-same, times-more, times-without}
use Rattle.client_spec.specs.Ties.{AllocatesAt}
use Rattle.test_definitions.proofs.Alike.IndexAlikeLaws.{index_long, index_is_long}
use Rattle.test_definitions.proofs.Steps.TextStepLaws.{Grants, by_ask}

-- One block has room for the entry. It is the old block, or a new one, and then the old one is freed.
record Entered (bs new : List Span) (old : List ℕ) : Type 0 where
  come : List ℕ
  one : length come ≡ 1
  counts : (h : ℕ) → times h (positions new) + times h old ≡ times h (positions bs) + times h come

stays : (bs new : List Span) (p : ℕ) → positions new ≡ positions bs → Entered bs new (p ∷ [])
stays bs new p e = record { come = p ∷ []; one = refl; counts = λ h. omega (arith, ap (times h) e) }

module _ (allocator : ℕ) (bs : List Span) (end : ℕ) (blocks new : List Span) where
  -- a request without an old block gets a new one
  always_fresh : (o : Option (ℕ × List Span)) (cs : List Span) → option_map {U = Granted} (λ (r : ℕ × List Span). fresh r.0 r.1) o ≡ Some (same cs) → ⊥
  always_fresh None cs e = cc
  always_fresh (Some r) cs e = cc

  new_fresh : (ask : Ask) → ask.old ≡ None → (cs : List Span) → after_ask allocator bs end ask ≡ Some (same cs) → ⊥
  new_fresh ask none cs e =
      always_fresh (option_or (after_take allocator bs end ask.preferred) (after_take allocator bs end ask.limit)) cs (ap (λ o. demand.after_request_of allocator bs end o ask.preferred ask.limit) (sym none) ∙ e)

  entered_one : (ask : Ask) (old : Option ℕ) → ask.old ≡ old → ((h : ℕ) → times h (option_to_list old) ≤ times h (positions bs)) → after_asks allocator bs end (ask ∷ []) ≡ Some blocks
      → new ≡ after_gives blocks (spending.replaced allocator bs end (ask ∷ []) ++ []) → Entered bs new (option_to_list old)
  entered_one ask old is within done left = by (after_ask allocator bs end ask) refl done left
    where
      given : (g : Granted) (old : Option ℕ) → after_ask allocator bs end ask ≡ Some g → Grants bs g → blocks_then g ≡ blocks → ask.old ≡ old → ((h : ℕ) → times h (option_to_list old) ≤ times h (positions bs))
          → new ≡ after_gives blocks ((old_of g ask ++ []) ++ []) → Entered bs new (option_to_list old)
      given (same cs) None f grants is e within left = absurd (new_fresh ask e cs f)
      given (same cs) (Some p) f grants is e within left = stays bs new p (ap (λ (zs : List Span). positions zs) (left ∙ sym is) ∙ grants)
      given (fresh a cs) None f grants is e within left =
          let new_is : new ≡ cs = left ∙ ap (λ o. after_gives blocks ((option_to_list o ++ []) ++ [])) e ∙ sym is in
          let counts : (h : ℕ) → times h (positions new) ≡ times h (a ∷ []) + times h (positions bs) = λ h. ap (λ zs. times h (positions zs)) new_is ∙ grants h ∙ times-append h (a ∷ []) (positions bs) in
          record { come = a ∷ []; one = refl; counts = λ h. omega (arith, counts h) }
      given (fresh a cs) (Some at) f grants is e within left =
          let new_is : new ≡ without at cs = left ∙ ap (λ o. after_gives blocks ((option_to_list o ++ []) ++ [])) e ∙ ap (without at) (sym is) in
          let there : 1 ≤ times at (positions cs) = omega (arith, within at, times-same at [], grants at, times-more at a (positions bs)) in
          let counts : (h : ℕ) → times h (positions new) + times h (at ∷ []) ≡ times h (a ∷ []) + times h (positions bs) = λ h. omega
          (arith, ap (λ zs. times h (positions zs)) new_is, times-without h at cs there, times-append h (at ∷ []) (positions (without at cs)), grants h, times-append h (a ∷ []) (positions bs)) in
          record { come = a ∷ []; one = refl; counts = λ h. omega (arith, counts h) }

      by : (o : Option Granted) → after_ask allocator bs end ask ≡ o → option_and_then (λ g. after_asks allocator (blocks_then g) end []) o ≡ Some blocks
          → new ≡ after_gives blocks (option_map_or (λ g. old_of g ask ++ spending.replaced allocator (blocks_then g) end []) o [] ++ []) → Entered bs new (option_to_list old)
      by None f done left = cc
      by (Some g) f done left = given g old f (by_ask allocator bs end old ask is g f) (let e : Some (blocks_then g) ≡ Some blocks = done in cc) is within left

  -- a flat index of n names gets room for one more name
  entered_flat : (t : Option ℕ) (units : ℕ → ℕ) (n : ℕ) → ((h : ℕ) → times h (option_to_list (option_map block_of t)) ≤ times h (positions bs))
      → after_asks allocator bs end (growth_if_needed (option_map_or units t 0) (option_map block_of t) 8 n (n + 1)) ≡ Some blocks
      → new ≡ after_gives blocks (spending.replaced allocator bs end (growth_if_needed (option_map_or units t 0) (option_map block_of t) 8 n (n + 1)) ++ [])
      → Entered bs new (option_to_list (option_map block_of t))
  entered_flat t units n within done left = go t within (nat_le ((n + 1) * 8) (16 * option_map_or units t 0 - 16)) refl done left
    where
      enough : nat_le ((n + 1) * 8) (16 * 0 - 16) ≡ true → ⊥
      enough e = (let l : (n + 1) * 8 ≤ 0 = grind (arith, nat_tests) in absurd (omega (arith, l)))

      go : (t : Option ℕ) → ((h : ℕ) → times h (option_to_list (option_map block_of t)) ≤ times h (positions bs)) → (b : Bool) → nat_le ((n + 1) * 8) (16 * option_map_or units t 0 - 16) ≡ b
          → after_asks allocator bs end (if b then [] else growth (option_map block_of t) 8 n (n + 1) ∷ []) ≡ Some blocks
          → new ≡ after_gives blocks (spending.replaced allocator bs end (if b then [] else growth (option_map block_of t) 8 n (n + 1) ∷ []) ++ []) → Entered bs new (option_to_list (option_map block_of t))
      go None within true e done left = absurd (enough e)
      go (Some p) within true e done left = (let same_bs : bs ≡ blocks = cc in stays bs new (block_of p) (ap (λ (zs : List Span). positions zs) (left ∙ sym same_bs)))
      go t within false e done left = entered_one (growth (option_map block_of t) 8 n (n + 1)) (option_map block_of t) refl within done left

-- ---- both requests

-- The blocks of the index after one more entry was added, in some order. A tree's old nodes are among them.
pub record MakesRoom (old new : List ℕ) (p : Picture) (index : List ℕ) (at : ℕ) : Type 0 where
  pub entries : List ℕ
  pub long : length entries ≡ index_long (word old index_kind_word) (suc (length p.names))
  pub lives : (h : ℕ) → times h (positions (live new)) + times h index ≡ times h (positions (live old)) + times h (block_of at ∷ []) + times h entries
  pub nodes_in : (word old index_kind_word ≡ 0 → ⊥) → (h : ℕ) → times h index ≤ times h entries

module _ (old new : List ℕ) (p : Picture) (held : IsHeld old p) where
  first_granted : (at : ℕ) (bs : List Span) (m : ℕ) → after_ask (word old allocator_word) (live old) (length old) (block_for m) ≡ Some (fresh (block_of at) bs) → (h : ℕ)
      → times h (positions bs) ≡ times h (block_of at ∷ positions (live old))
  first_granted at bs m e = by_ask (word old allocator_word) (live old) (length old) None (block_for m) refl (fresh (block_of at) bs) e

  pub room_made : (m at : ℕ) (asks : List Ask) (gives : List ℕ) (blocks : List Span) → asks ≡ block_for m ∷ entry_asks (word old index_kind_word) old → gives ≡ []
      → after_asks (word old allocator_word) (live old) (length old) asks ≡ Some blocks → live new ≡ after_gives blocks (spending.replaced (word old allocator_word) (live old) (length old) asks ++ gives) → AllocatesAt old m at
      → MakesRoom old new p held.index_blocks at
  room_made m at asks gives blocks asks_are gives_are granted left gets =
      by (word old index_kind_word) refl held.laid_out.names.index held.laid_out.names.opens held.laid_out.names.blocks_are (index_is_long old p held) after_first left_then
    where
      A : ℕ
      A = word old allocator_word

      end : ℕ
      end = length old

      request : after_ask A (live old) end (block_for m) ≡ Some (fresh (block_of at) gets.0)
      request = gets.1

      granted_all : after_asks A (live old) end (block_for m ∷ entry_asks (word old index_kind_word) old) ≡ Some blocks
      granted_all = subst (λ zs. after_asks A (live old) end zs ≡ Some blocks) asks_are granted

      after_first : after_asks A gets.0 end (entry_asks (word old index_kind_word) old) ≡ Some blocks
      after_first = sym (ap (option_and_then (λ g. after_asks A (blocks_then g) end (entry_asks (word old index_kind_word) old))) request) ∙ granted_all

      left_then : live new ≡ after_gives blocks (spending.replaced A gets.0 end (entry_asks (word old index_kind_word) old) ++ [])
      left_then =
          let first : spending.replaced A (live old) end (block_for m ∷ entry_asks (word old index_kind_word) old) ≡ spending.replaced A gets.0 end (entry_asks (word old index_kind_word) old) =
          ap (λ o. option_map_or (λ g. old_of g (block_for m) ++ spending.replaced A (blocks_then g) end (entry_asks (word old index_kind_word) old)) o []) request in
          left ∙ (λ j. after_gives blocks (spending.replaced A (live old) end (asks_are j) ++ gives_are j)) ∙ ap (λ zs. after_gives blocks (zs ++ [])) first

      first_counts : (h : ℕ) → times h (positions gets.0) ≡ times h (block_of at ∷ []) + times h (positions (live old))
      first_counts h = first_granted at gets.0 m request h ∙ times-append h (block_of at ∷ []) (positions (live old))

      by : (kind : ℕ) → word old index_kind_word ≡ kind → (index : Index) → OpensIndex old kind index → held.index_blocks ≡ index.blocks → length held.index_blocks ≡ index_long (word old index_kind_word) (length p.names)
          → after_asks A gets.0 end (entry_asks kind old) ≡ Some blocks → live new ≡ after_gives blocks (spending.replaced A gets.0 end (entry_asks kind old) ++ []) → MakesRoom old new p held.index_blocks at
      by zero is index o blocks_are long done left =
          let are : held.index_blocks ≡ named old index_cell = blocks_are ∙ ap (λ (x : Index). x.blocks) o.index_is in
          let within : (h : ℕ) → times h (named old index_cell) ≤ times h (positions gets.0) = λ h. fewer h are in
          let e = entered_flat A gets.0 end blocks (live new) (target old index_cell) (λ q. heap.units_at old (block_of q)) (count_at old index_cell) within done left in
          record {
            entries = e.come;
            long = e.one ∙ sym (ap (λ k. index_long k (suc (length p.names))) is);
            lives = λ h. omega (arith, e.counts h, ap (times h) are, first_counts h);
            nodes_in = λ tree. absurd (tree is);
          }
        where
          fewer : (h : ℕ) → held.index_blocks ≡ named old index_cell → times h (named old index_cell) ≤ times h (positions gets.0)
          fewer h are = omega (arith, ap (times h) are, within_index h, first_counts h)
            where
              within_index : (h : ℕ) → times h held.index_blocks ≤ times h (positions (live old))
              within_index h = omega (arith, held.owners h, times-append h held.index_blocks held.root_blocks)
      by (suc kind) is index o blocks_are long done left =
          let e = entered_one A gets.0 end blocks (live new) (block_for index_node_size) None refl (λ h. omega arith) done left in
          record {
            entries = held.index_blocks ++ e.come;
            long = length-append held.index_blocks e.come ∙ omega (arith, long, ap (λ k. index_long k (length p.names)) is, ap (λ k. index_long k (suc (length p.names))) is, e.one);
            lives = λ h. omega (arith, e.counts h, first_counts h, times-append h held.index_blocks e.come);
            nodes_in = λ tree h. omega (arith, times-append h held.index_blocks e.come);
          }
