-- A walk along the free list.
use Rattle.std.proofs.Common.{◌≡◌, ℕ, ◌+◌, ◌-◌, ◌%◌, ◌^◌, ◌<◌, ◌≤◌, Bool, true, false, cond, leb, List, [], ◌∷◌, ◌++◌, Option, Some, None, refl, sym, ap, ◌∙◌, subst, arith, le-leb}
use Rattle.std.proofs.lemmas.List.{append_assoc, append-nil}
use Rattle.std.proofs.lemmas.Bool.Decides.{nat_tests}
use Rattle.std.specs.Prelude.{IfSome, ⊤, ◌==◌}
use Rattle.seg_spec.specs.Bytes.{word}
use Rattle.seg_spec.specs.Pointer.{target}
use Rattle.seg_spec.specs.Heap.{Span, end_of, Links, first_fit}
use Rattle.seg_block.specs.declared.block.Block.{Block}
use Rattle.seg_block.specs.Blocks.{IsSized}
use Rattle.seg_block.specs.FreeBlocks.{AreFreeBlocks}
use Rattle.seg_seqfit.specs.FreeBlocks.{link_after, IsFirstFit}

-- the free blocks before a pointer word were seen, and none of them has u units
pub record IsSearched (bytes : List ℕ) (gs : List Span) (u link low : ℕ) : Type 0 where
  pub seen : List Span
  pub rest : List Span
  pub parts : gs ≡ seen ++ rest
  pub link_is : link ≡ link_after 24 seen
  pub first_is : first_fit gs u ≡ first_fit rest u
  pub links : Links bytes link rest None
  pub blocks : AreFreeBlocks bytes low rest

pub searched_none : (bytes : List ℕ) (gs : List Span) (u : ℕ) → Links bytes 24 gs None → AreFreeBlocks bytes 704 gs → IsSearched bytes gs u 24 704
searched_none bytes gs u links blocks = record { seen = []; rest = gs; parts = refl; link_is = refl; first_is = refl; links = links; blocks = blocks }

link_after-push : (seen : List Span) (at : ℕ) (g : Span) → link_after at (seen ++ g ∷ []) ≡ g.at + 12
link_after-push [] at g = refl
link_after-push (s ∷ seen) at g = link_after-push seen (s.at + 12) g

leb_no : (a b : ℕ) → b < a → leb a b ≡ false
leb_no a b h = grind (arith, nat_tests)

first_fit-passed : (g : Span) (gs : List Span) (u : ℕ) → g.units < u → first_fit (g ∷ gs) u ≡ first_fit gs u
first_fit-passed g gs u h = rw (leb_no u g.units h) refl

first_fit-here : (g : Span) (gs : List Span) (u : ℕ) → u ≤ g.units → first_fit (g ∷ gs) u ≡ Some g
first_fit-here g gs u h = rw (le-leb u g.units h) refl

-- The pointer word isn't null. If its target is a block at `low` or above, `at` is the position of
-- this block.
abbrev pub Reads : List ℕ → ℕ → ℕ → ℕ → Type 0
Reads bytes link low at =
    (target bytes link ≡ None → ⊥) × ((g : Span) → target bytes link ≡ Some (g.at + 16) → IsSized bytes g → low ≤ g.at → at ≡ g.at)

abbrev pub ReadsNone : List ℕ → ℕ → ℕ → Type 0
ReadsNone bytes link low = (g : Span) → target bytes link ≡ Some (g.at + 16) → IsSized bytes g → low ≤ g.at → ⊥

-- ---- the block at a distance

none_is : (b : Bool) (n : ℕ) → cond b None (Some n) ≡ None → b ≡ true
none_is true n e = refl
none_is false n e = cc

some_is : (b : Bool) (n p : ℕ) → cond b None (Some n) ≡ Some p → n ≡ p
some_is true n p e = cc
some_is false n p e = cc

one_is : (n : ℕ) → (n == 1) ≡ true → n ≡ 1
one_is n e = grind (arith, nat_tests)

-- the block to which the link of the block at a position points, if the link has this distance
abbrev pub led : ℕ → ℕ → ℕ
led at distance = ((at + distance) % 2 ^ 32 + (2 ^ 32 - 4)) % 2 ^ 32

pub led_back : (bytes : List ℕ) (at distance : ℕ) → distance ≡ word bytes (at + 12) → 4 ≤ at → at < 2 ^ 32 → target bytes (at + 12) ≡ None → led at distance ≤ at
unfolding target
led_back bytes at distance is far fits none =
    let d = word bytes (at + 12) in
    let one = one_is d (none_is (d == 1) ((at + 12 + d) % 2 ^ 32) none) in
    omega (arith, is, one, far, fits)

pub led_to : (bytes : List ℕ) (at distance p : ℕ) → distance ≡ word bytes (at + 12) → target bytes (at + 12) ≡ Some (p + 16) → led at distance ≡ p
unfolding target
led_to bytes at distance p is named =
    let d = word bytes (at + 12) in
    let same = some_is (d == 1) ((at + 12 + d) % 2 ^ 32) (p + 16) named in
    omega (arith, is, same)

-- `next` is the target of a pointer word, if the target is at `low` or above
pub record Follows (bytes : List ℕ) (link low : ℕ) (next : Option ℕ) : Type 0 where
  pub none : target bytes link ≡ None → next ≡ None
  pub named : (p : ℕ) → target bytes link ≡ Some (p + 16) → low ≤ p → next ≡ Some p

pub follows : (bytes view : List ℕ) (at low : ℕ) (next : Option ℕ) → view ≡ bytes → at < low → (target view (at + 12) ≡ None → next ≡ None)
    → ((p : ℕ) → target view (at + 12) ≡ Some (p + 16) → at < p → next ≡ Some p) → Follows bytes (at + 12) low next
follows bytes view at low next same above none named = record {
  none = λ e. none (ap (λ bs. target bs (at + 12)) same ∙ e);
  named = λ p e le. named p (ap (λ bs. target bs (at + 12)) same ∙ e) (omega (arith, above, le));
}

pub reads : (bytes : List ℕ) (link low at : ℕ) (next : Option ℕ) → Follows bytes link low next → next ≡ Some at → Reads bytes link low at
reads bytes link low at next f is = (λ e. never (sym is ∙ f.none e), λ g e sized le. same (sym is ∙ f.named g.at e le))
  where
    never : Some at ≡ None → ⊥
    never e = cc

    same : {p : ℕ} → Some at ≡ Some p → at ≡ p
    same e = cc

pub reads_none : (bytes : List ℕ) (link low : ℕ) (next : Option ℕ) → Follows bytes link low next → ((p : ℕ) → next ≡ Some p → ⊥) → ReadsNone bytes link low
reads_none bytes link low next f is = λ g e sized le. is g.at (f.named g.at e le)

-- the number of positions that a walk hasn't reached
abbrev pub left : Option ℕ → ℕ
left None = 0
left (Some at) = 4294967296 - at

-- the next block is after a position, and its own position has 32 bits
abbrev pub IsAhead : ℕ → Option ℕ → Type 0
IsAhead at next = IfSome next (λ p. (at < p) × (p < 4294967296))

pub ahead : (low at : ℕ) (next : Option ℕ) → low ≤ at → IsAhead at next → IsAhead low next
ahead low at None le bounds = bounds
ahead low at (Some p) le bounds = (omega (arith, le, bounds.0), bounds.1)

pub ahead_of : (low at : ℕ) (now : Option ℕ) → now ≡ Some at → IsAhead low now → (low < at) × (at < 4294967296)
ahead_of low at now is bounds = subst (λ o. IsAhead low o) is bounds

pub fewer : (low at : ℕ) (now next : Option ℕ) → now ≡ Some at → IsAhead low now → IsAhead at next → left next < left now
fewer low at now next is inside bounds = subst (λ o. left next < left o) (sym is) (go next bounds)
  where
    here : (low < at) × (at < 4294967296)
    here = ahead_of low at now is inside

    go : (next : Option ℕ) → IsAhead at next → left next < 4294967296 - at
    go None bounds = omega (arith, here)
    go (Some p) bounds = omega (arith, here, bounds)

-- free blocks from a position on are also free blocks from a lower position on
from_lower : (bytes : List ℕ) (gs : List Span) (from low : ℕ) → low ≤ from → AreFreeBlocks bytes from gs → AreFreeBlocks bytes low gs
from_lower bytes [] from low le blocks = tt
from_lower bytes (g ∷ gs) from low le blocks = (omega (arith, blocks.0), blocks.1, blocks.2)

-- the free blocks after a block lie after its header
following : (bytes : List ℕ) (g : Span) (gs : List Span) (low at : ℕ) → at ≡ g.at → AreFreeBlocks bytes low (g ∷ gs) → AreFreeBlocks bytes (at + 16) gs
following bytes g gs low at is blocks = from_lower bytes gs (end_of g) (at + 16) (omega (arith, blocks.1.large)) blocks.2

more : (bytes : List ℕ) (gs seen rest : List Span) (u link low at : ℕ) → Reads bytes link low at → ((g : Span) → at ≡ g.at → IsSized bytes g → g.units < u) → gs ≡ seen ++ rest → link ≡ link_after 24 seen
    → first_fit gs u ≡ first_fit rest u → Links bytes link rest None → AreFreeBlocks bytes low rest → IsSearched bytes gs u (at + 12) (at + 16)
more bytes gs seen [] u link low at reads small parts link_is first_is links blocks = absurd (reads.0 links)
more bytes gs seen (g ∷ rest) u link low at reads small parts link_is first_is links blocks =
    let is = reads.1 g links.0 blocks.1 blocks.0 in
    record {
      seen = seen ++ g ∷ [];
      rest = rest;
      parts = parts ∙ sym (append_assoc seen (g ∷ []) rest);
      link_is = ap (λ p. p + 12) is ∙ sym (link_after-push seen 24 g);
      first_is = first_is ∙ first_fit-passed g rest u (small g is blocks.1);
      links = subst (λ p. Links bytes (p + 12) rest None) (sym is) links.1;
      blocks = following bytes g rest low at is blocks;
    }

pub searched_more : (bytes : List ℕ) (gs : List Span) (u link low at : ℕ) → Reads bytes link low at → ((g : Span) → at ≡ g.at → IsSized bytes g → g.units < u) → IsSearched bytes gs u link low → IsSearched bytes gs u (at + 12) (at + 16)
searched_more bytes gs u link low at reads small s = more bytes gs s.seen s.rest u link low at reads small s.parts s.link_is s.first_is s.links s.blocks

-- the block at that position is the first one that fits
found : (bytes : List ℕ) (gs seen rest : List Span) (u link low at : ℕ) (b : Block) → Reads bytes link low at → ((g : Span) → at ≡ g.at → IsSized bytes g → (b.at ≡ g.at) × (b.units ≡ g.units)) → u ≤ b.units
    → gs ≡ seen ++ rest → link ≡ link_after 24 seen → first_fit gs u ≡ first_fit rest u → Links bytes link rest None → AreFreeBlocks bytes low rest → IsFirstFit gs u link b.at b.units
found bytes gs seen [] u link low at b reads read large parts link_is first_is links blocks = absurd (reads.0 links)
found bytes gs seen (g ∷ rest) u link low at b reads read large parts link_is first_is links blocks =
    let is = read g (reads.1 g links.0 blocks.1 blocks.0) blocks.1 in
    let same : g ≡ record { at = b.at; units = b.units } = λ i. record { at = sym is.0 i; units = sym is.1 i } in
    record {
      seen = seen;
      rest = rest;
      parts = parts ∙ ap (λ s. seen ++ s ∷ rest) same;
      link_is = link_is;
      is_first = first_is ∙ first_fit-here g rest u (subst (λ n. u ≤ n) is.1 large) ∙ ap Some same;
    }

pub searched_found : (bytes : List ℕ) (gs : List Span) (u link low at : ℕ) (b : Block) → Reads bytes link low at → ((g : Span) → at ≡ g.at → IsSized bytes g → (b.at ≡ g.at) × (b.units ≡ g.units)) → u ≤ b.units
    → IsSearched bytes gs u link low → IsFirstFit gs u link b.at b.units
searched_found bytes gs u link low at b reads read large s = found bytes gs s.seen s.rest u link low at b reads read large s.parts s.link_is s.first_is s.links s.blocks

-- there always is a block at that position
always : (bytes : List ℕ) (rest : List Span) (link low at : ℕ) → Reads bytes link low at → ((g : Span) → at ≡ g.at → IsSized bytes g → ⊥) → Links bytes link rest None → AreFreeBlocks bytes low rest → ⊥
always bytes [] link low at reads read links blocks = reads.0 links
always bytes (g ∷ rest) link low at reads read links blocks = read g (reads.1 g links.0 blocks.1 blocks.0) blocks.1

pub searched_always : (bytes : List ℕ) (gs : List Span) (u link low at : ℕ) → Reads bytes link low at → ((g : Span) → at ≡ g.at → IsSized bytes g → ⊥) → IsSearched bytes gs u link low → ⊥
searched_always bytes gs u link low at reads read s = always bytes s.rest link low at reads read s.links s.blocks

end : (bytes : List ℕ) (gs rest : List Span) (u link low : ℕ) → ReadsNone bytes link low → first_fit gs u ≡ first_fit rest u → Links bytes link rest None → AreFreeBlocks bytes low rest → first_fit gs u ≡ None
end bytes gs [] u link low reads first_is links blocks = first_is
end bytes gs (g ∷ rest) u link low reads first_is links blocks = absurd (reads g links.0 blocks.1 blocks.0)

pub searched_end : (bytes : List ℕ) (gs : List Span) (u link low : ℕ) → ReadsNone bytes link low → IsSearched bytes gs u link low → first_fit gs u ≡ None
searched_end bytes gs u link low reads s = end bytes gs s.rest u link low reads s.first_is s.links s.blocks

-- the state of a walk that searches for a block that fits
pub record IsSearching (bytes : List ℕ) (gs : List Span) (u link : ℕ) (next : Option ℕ) : Type 0 where
  pub low : ℕ
  pub searched : IsSearched bytes gs u link low
  pub follows : Follows bytes link low next

-- ---- the walk to a block

-- each of these begins below a position; or each begins at the position or above
abbrev pub AreBelow : ℕ → List Span → Type 0
AreBelow at [] = ⊤
AreBelow at (g ∷ gs) = (g.at < at) × AreBelow at gs

abbrev pub AreAbove : ℕ → List Span → Type 0
AreAbove at [] = ⊤
AreAbove at (g ∷ gs) = (at ≤ g.at) × AreAbove at gs

-- The free blocks before a pointer word are passed. Those in `todo` are below the block, and those
-- in `rest` above it.
pub record IsPassed (bytes : List ℕ) (seen rest : List Span) (block link low : ℕ) : Type 0 where
  pub done : List Span
  pub todo : List Span
  pub parts : seen ≡ done ++ todo
  pub link_is : link ≡ link_after 24 done
  pub links : Links bytes link (todo ++ rest) None
  pub blocks : AreFreeBlocks bytes low (todo ++ rest)
  pub below : AreBelow block todo
  pub above : AreAbove block rest

pub passed_none : (bytes : List ℕ) (seen rest : List Span) (block : ℕ) → Links bytes 24 (seen ++ rest) None → AreFreeBlocks bytes 704 (seen ++ rest) → AreBelow block seen → AreAbove block rest → IsPassed bytes seen rest block 24 704
passed_none bytes seen rest block links blocks below above = record { done = []; todo = seen; parts = refl; link_is = refl; links = links; blocks = blocks; below = below; above = above }

pass : (bytes : List ℕ) (seen rest done todo : List Span) (block link low at : ℕ) → Reads bytes link low at → at < block → seen ≡ done ++ todo
    → link ≡ link_after 24 done → Links bytes link (todo ++ rest) None → AreFreeBlocks bytes low (todo ++ rest) → AreBelow block todo → AreAbove block rest → IsPassed bytes seen rest block (at + 12) (at + 16)
pass bytes seen [] done [] block link low at reads under parts link_is links blocks below above = absurd (reads.0 links)
pass bytes seen (g ∷ rest) done [] block link low at reads under parts link_is links blocks below above =
    let is = reads.1 g links.0 blocks.1 blocks.0 in absurd (omega (arith, above.0))
pass bytes seen rest done (g ∷ todo) block link low at reads under parts link_is links blocks below above =
    let is = reads.1 g links.0 blocks.1 blocks.0 in
    record {
      done = done ++ g ∷ [];
      todo = todo;
      parts = parts ∙ sym (append_assoc done (g ∷ []) todo);
      link_is = ap (λ p. p + 12) is ∙ sym (link_after-push done 24 g);
      links = subst (λ p. Links bytes (p + 12) (todo ++ rest) None) (sym is) links.1;
      blocks = following bytes g (todo ++ rest) low at is blocks;
      below = below.1;
      above = above;
    }

pub passed_more : (bytes : List ℕ) (seen rest : List Span) (block link low at : ℕ) → Reads bytes link low at → at < block → IsPassed bytes seen rest block link low
    → IsPassed bytes seen rest block (at + 12) (at + 16)
passed_more bytes seen rest block link low at reads under p = pass bytes seen rest p.done p.todo block link low at reads under p.parts p.link_is p.links p.blocks p.below p.above

stop : (bytes : List ℕ) (seen rest done todo : List Span) (block link low : ℕ) → ((g : Span) → target bytes link ≡ Some (g.at + 16) → IsSized bytes g → low ≤ g.at → g.at < block → ⊥)
    → seen ≡ done ++ todo → link ≡ link_after 24 done → Links bytes link (todo ++ rest) None → AreFreeBlocks bytes low (todo ++ rest) → AreBelow block todo → link ≡ link_after 24 seen
stop bytes seen rest done [] block link low never parts link_is links blocks below = link_is ∙ ap (link_after 24) (sym (parts ∙ append-nil done))
stop bytes seen rest done (g ∷ todo) block link low never parts link_is links blocks below = absurd (never g links.0 blocks.1 blocks.0 below.0)

pub passed_end : (bytes : List ℕ) (seen rest : List Span) (block link low : ℕ) → ((g : Span) → target bytes link ≡ Some (g.at + 16) → IsSized bytes g → low ≤ g.at → g.at < block → ⊥)
    → IsPassed bytes seen rest block link low → link ≡ link_after 24 seen
passed_end bytes seen rest block link low never p = stop bytes seen rest p.done p.todo block link low never p.parts p.link_is p.links p.blocks p.below

-- the state of a walk to a block's predecessor
pub record IsPassing (bytes : List ℕ) (seen rest : List Span) (block link : ℕ) (next : Option ℕ) : Type 0 where
  pub low : ℕ
  pub passed : IsPassed bytes seen rest block link low
  pub follows : Follows bytes link low next
