-- The walk through the tree of the free blocks.
use Rattle.std.proofs.Common.{◌≡◌, ℕ, ◌+◌, ◌-◌, ◌≤◌, ◌<◌, ◌⊎◌, inl, inr, true, List, [], ◌∷◌, ◌++◌, length, map, Some, None, MatchOption, refl, sym, ap, ◌∙◌, subst, arith}
use Rattle.std.specs.Prelude.{⊤}
use Rattle.std.specs.List.{AllByRecursion}
use Rattle.std.proofs.lemmas.Bool.{cases_lt}
use Rattle.std.proofs.lemmas.List.{map-append, length-map}
use Rattle.seg_spec.specs.Types.{Table}
use Rattle.seg_spec.specs.Header.{free_word}
use Rattle.seg_spec.specs.Heap.{Span, heap_start, tiles, link_at, gaps, is_smaller, by_size, AreBySize, IsFreeTree}
use Rattle.seg_spec.specs.Block.{block_of}
use Rattle.seg_spec.specs.Sound.{times, SameBlocks, positions}
use Rattle.seg_spec.specs.Faulty.{HasTiles}
use Rattle.seg_spec.proofs.Values.PlaceFrameLaws.{each_map, each_of_map, each_weaker}
use Rattle.seg_spec.proofs.Heap.HeapFrameLaws.{each_by_size}
use Rattle.seg_spec.proofs.Heap.GapOrderLaws.{times-by_size, by_size-in_order}
use Rattle.seg_spec.proofs.Heap.LiveBlockLaws.{times-append, times-same, there, each_same}
use Rattle.seg_check.specs.Marks.{Known, Within, KnowsTiles}
use Rattle.seg_check.specs.declared.walk.Stage.{Stage}
use Rattle.seg_check.specs.declared.walk.Visit.TheVariants.{Enter, Pass}
use Rattle.seg_check.specs.Walks.{Completes, Hangs, IsSteady, Proceeds, entering_of, span_at, last_block, AreOrdered}
use Rattle.seg_check.proofs.SameLengthLaws.{same_length}
use Rattle.seg_check.proofs.Heap.TileWalkLaws.{gaps_free}
use Rattle.seg_check.proofs.Heap.GapLaws.{IsFreeFrom, FreeFacts, free_facts, spans_at, same_order, ordered_back, ordered_last, ordered_once, in_order, all_within}
use Rattle.seg_check.proofs.WalkStateLaws.{Followed, follow_enter, follow_pass, follow_end, follow_refused}

-- the nodes that were passed belong to free blocks without links, in order
pub record Passed (bytes : List ℕ) (known : Known) (stage : Stage) (turns : ℕ) : Type 0 where
  pub nodes : List ℕ
  pub entered : List ℕ
  pub followed : Followed bytes free_word known.free_count stage turns nodes entered
  pub free : AllByRecursion (λ p. 1 ≤ times (block_of p) known.free) nodes
  pub unlinked : AllByRecursion (λ p. link_at bytes (block_of p) ≡ None) nodes
  pub ordered : AreOrdered bytes (map block_of nodes)

-- the node belongs to a free block without a link, which comes after the passed ones
pub record IsNext (bytes : List ℕ) (known : Known) (nodes : List ℕ) (node : ℕ) : Type 0 where
  pub free : 1 ≤ times (block_of node) known.free
  pub unlinked : link_at bytes (block_of node) ≡ None
  pub above : MatchOption (last_block (map block_of nodes)) ⊤ (λ l. is_smaller (span_at bytes l) (span_at bytes (block_of node)) ≡ true)

pub all_more : (P : ℕ → Type 0) (xs : List ℕ) (x : ℕ) → AllByRecursion P xs → P x → AllByRecursion P (xs ++ x ∷ [])
all_more P [] x all p = (p, tt)
all_more P (y ∷ ys) x all p = (all.0, all_more P ys x all.1 p)

module _ (bytes : List ℕ) (known : Known) (old : Stage) (turns : ℕ) (p : Passed bytes known old turns) where
  module _ (new : Stage) (less : ℕ) (steady : IsSteady bytes new less) (spent : less + 1 ≡ turns) where
    abbrev pub entered : (pointer : ℕ) → Proceeds bytes old new (Some (Enter pointer)) → Passed bytes known new less
    entered pointer step = record {
      nodes = p.nodes;
      entered = p.entered ++ step.0 ∷ [];
      followed = follow_enter bytes free_word known.free_count old turns p.nodes p.entered p.followed new less steady spent pointer step;
      free = p.free;
      unlinked = p.unlinked;
      ordered = p.ordered;
    }

    abbrev pub passed : (node : ℕ) → Proceeds bytes old new (Some (Pass node)) → IsNext bytes known p.nodes node → Passed bytes known new less
    passed node step is = record {
      nodes = p.nodes ++ node ∷ [];
      entered = p.entered;
      followed = follow_pass bytes free_word known.free_count old turns p.nodes p.entered p.followed new less steady spent node step;
      free = all_more (λ q. 1 ≤ times (block_of q) known.free) p.nodes node p.free is.free;
      unlinked = all_more (λ q. link_at bytes (block_of q) ≡ None) p.nodes node p.unlinked is.unlinked;
      ordered = subst (AreOrdered bytes) (sym (map-append block_of p.nodes (node ∷ []))) (ordered_back bytes (map block_of p.nodes) (block_of node) p.ordered is.above);
    }

-- ---- the gaps

within_if : (xs ys : List ℕ) → ((h : ℕ) → times h xs ≤ 1) → AllByRecursion (λ b. 1 ≤ times b ys) xs → Within xs ys
within_if xs ys once all h = go (cases_lt 0 (times h xs))
  where
    go : (0 < times h xs) ⊎ (times h xs ≤ 0) → times h xs ≤ times h ys
    go (inl some) = omega (arith, once h, there (λ b. 1 ≤ times b ys) h xs all (omega arith))
    go (inr none) = omega arith

payloads : (bytes nodes : List ℕ) → AllByRecursion (λ p. 16 ≤ p) nodes → map (λ (g : Span). g.at + 16) (map (span_at bytes) (map block_of nodes)) ≡ nodes
payloads bytes [] a = refl
payloads bytes (p ∷ ps) a = let here : (p - 16) + 16 ≡ p = omega (arith, a.0) in ap (λ x. x ∷ map (λ (g : Span). g.at + 16) (map (span_at bytes) (map block_of ps))) here ∙ ap (λ xs. p ∷ xs) (payloads bytes ps a.1)

blocks_of_payloads : (gs : List Span) → map block_of (map (λ (g : Span). g.at + 16) gs) ≡ positions gs
blocks_of_payloads [] = refl
blocks_of_payloads (g ∷ gs) = let here : (g.at + 16) - 16 ≡ g.at = omega arith in ap (λ x. x ∷ map block_of (map (λ (g : Span). g.at + 16) gs)) here ∙ ap (λ xs. g.at ∷ xs) (blocks_of_payloads gs)

module _ (bytes : List ℕ) (table : Table) (known : Known) (t : HasTiles bytes table) (knows : KnowsTiles bytes known) where
  facts : FreeFacts bytes heap_start (length bytes) (gaps bytes)
  facts = subst (FreeFacts bytes heap_start (length bytes)) (sym (gaps_free bytes table t)) (free_facts bytes (tiles bytes) heap_start (length bytes) 0 t.filled t.headers)

  same : SameBlocks known.free (positions (gaps bytes))
  same h = knows.free h ∙ ap (λ gs. times h (positions gs)) (sym (gaps_free bytes table t))

  counted : known.free_count ≡ length (positions (gaps bytes))
  counted = knows.counted.free ∙ same_length known.free (positions (gaps bytes)) same

  module _ (old : Stage) (turns : ℕ) (p : Passed bytes known old turns) where
    -- a walk that ended has passed all gaps, in order
    module _ (height : ℕ) (hangs : Hangs bytes free_word known.free_count height p.nodes p.entered) where
      abbrev blocks : List ℕ
      blocks = map block_of p.nodes

      known_free : AllByRecursion (λ b. 1 ≤ times b (positions (gaps bytes))) blocks
      known_free = each_map (λ b. 1 ≤ times b (positions (gaps bytes))) block_of p.nodes (each_weaker _ _ (λ q some. omega (arith, same (block_of q), some)) p.nodes p.free)

      all_gaps : SameBlocks blocks (positions (gaps bytes))
      all_gaps = all_within blocks (positions (gaps bytes)) (within_if blocks (positions (gaps bytes)) (ordered_once bytes blocks p.ordered) known_free)
          (length-map p.nodes block_of ∙ hangs.counted ∙ counted)

      in_heap : AllByRecursion (λ q. 16 ≤ q) p.nodes
      in_heap = each_weaker _ _ (λ q some.
          let low = there (λ b. heap_start ≤ b) (block_of q) (positions (gaps bytes)) (each_map (λ b. heap_start ≤ b) (λ (g : Span). g.at) (gaps bytes) (each_weaker _ _ (λ (g : Span) f. f.low) (gaps bytes) facts.lie))
          (omega (arith, same (block_of q), some)) in
          omega (arith, low)) p.nodes p.free

      order : map (span_at bytes) blocks ≡ by_size (gaps bytes)
      order = sym (in_order (map (span_at bytes) blocks) p.ordered) ∙ same_order bytes blocks (positions (gaps bytes)) all_gaps ∙ ap by_size (spans_at bytes heap_start (gaps bytes) facts.lie)

      pub tree_whole : IsFreeTree bytes (gaps bytes)
      tree_whole = record {
        tree = hangs.tree;
        is_tree = hangs.is_tree;
        red_black = record { root = hangs.black; height = height; balanced = hangs.balanced };
        nodes_are = hangs.nodes_are ∙ sym (payloads bytes p.nodes in_heap) ∙ ap (map (λ (g : Span). g.at + 16)) order;
        links = each_of_map (λ b. link_at bytes b ≡ None) (λ (g : Span). g.at) (gaps bytes)
            (each_same (λ b. link_at bytes b ≡ None) blocks (positions (gaps bytes)) all_gaps (each_map (λ b. link_at bytes b ≡ None) block_of p.nodes p.unlinked));
      }

    pub ended : (new : Stage) → Proceeds bytes old new None → IsFreeTree bytes (gaps bytes)
    ended new step = tree_whole old.above.blacks (follow_end bytes free_word known.free_count old turns p.nodes p.entered p.followed new step)

    -- ---- a valid tree

    module _ (f : IsFreeTree bytes (gaps bytes)) where
      abbrev nodes : List ℕ
      nodes = map (λ (g : Span). g.at + 16) (by_size (gaps bytes))

      as_many : length (positions (by_size (gaps bytes))) ≡ length (positions (gaps bytes))
      as_many = same_length (positions (by_size (gaps bytes))) (positions (gaps bytes)) (λ q. times-by_size q (gaps bytes))

      long : length nodes ≡ length (positions (gaps bytes))
      long = length-map (by_size (gaps bytes)) (λ (g : Span). g.at + 16) ∙ sym (length-map (by_size (gaps bytes)) (λ (g : Span). g.at)) ∙ as_many

      right : Hangs bytes free_word known.free_count f.red_black.height nodes (entering_of f.tree)
      right = record {
        tree = f.tree;
        is_tree = f.is_tree;
        black = f.red_black.root;
        balanced = f.red_black.balanced;
        nodes_are = f.nodes_are;
        entering_are = refl;
        counted = long ∙ sym counted;
      }

      pub never_refused : ((height : ℕ) (rest entering : List ℕ) → Completes bytes height old rest entering → height < 30 → length rest + length entering < turns → ⊥) → ⊥
      never_refused never =
          follow_refused bytes free_word known.free_count old turns p.nodes p.entered p.followed never f.red_black.height nodes (entering_of f.tree) right
          (omega (arith, long, length-map (gaps bytes) (λ (g : Span). g.at), facts.few))

      all_ordered : AreOrdered bytes (positions (by_size (gaps bytes)))
      all_ordered = subst AreBySize (sym (spans_at bytes heap_start (by_size (gaps bytes)) (each_by_size (IsFreeFrom bytes heap_start) (gaps bytes) facts.lie))) (by_size-in_order (gaps bytes) facts.once)

      pub next_is : (new : Stage) (node : ℕ) → Proceeds bytes old new (Some (Pass node)) → IsNext bytes known p.nodes node
      next_is new node step =
          let r = p.followed.forth f.red_black.height nodes (entering_of f.tree) right in
          let next = (step f.red_black.height r.rest r.entering).1 r.completes in
          let parts : positions (by_size (gaps bytes)) ≡ map block_of p.nodes ++ block_of node ∷ map block_of next.0 =
          sym (blocks_of_payloads (by_size (gaps bytes))) ∙ ap (map block_of) (r.nodes_are ∙ ap (λ xs. p.nodes ++ xs) next.1) ∙ map-append block_of p.nodes (node ∷ next.0) in
          let some : 1 ≤ times (block_of node) (positions (gaps bytes)) =
          omega (
            arith,
            times-by_size (block_of node) (gaps bytes),
            ap (times (block_of node)) parts,
            times-append (block_of node) (map block_of p.nodes) (block_of node ∷ map block_of next.0),
            times-same (block_of node) (map block_of next.0),
          ) in
          record {
            free = omega (arith, same (block_of node), some);
            unlinked = there (λ b. link_at bytes b ≡ None) (block_of node) (positions (gaps bytes)) (each_map (λ b. link_at bytes b ≡ None) (λ (g : Span). g.at) (gaps bytes) f.links) some;
            above = ordered_last bytes (map block_of p.nodes) (block_of node) (map block_of next.0) (subst (AreOrdered bytes) parts all_ordered);
          }
