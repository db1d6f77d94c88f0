-- The facts about frozen objects that are kept while other blocks are claimed.
use Rattle.std.proofs.Common.{◌≡◌, ℕ, ◌+◌, ◌%◌, ⊎_elim, Option, None, List, [], ◌∷◌, ◌++◌, length, get_or, refl, sym, ap, ◌∙◌, subst, arith}
use Rattle.std.specs.List.{AllByRecursion}
use Rattle.std.proofs.lemmas.Bool.{cases_eq}
use Rattle.std.proofs.lemmas.List.{map-append}
use Rattle.seg_spec.specs.Bytes.{word}
use Rattle.seg_spec.specs.Block.{Kind, kind_number, block_of, IsBlock}
use Rattle.seg_spec.specs.Sound.{times, SameBlocks}
use Rattle.seg_spec.proofs.Heap.LiveBlockLaws.{times-append, times-other}
use Rattle.seg_check.specs.declared.marks.Turn.{Turn}
use Rattle.seg_check.specs.declared.marks.Waiting.{Waiting}
use Rattle.seg_check.specs.Marks.{Known, Naming, KeepsNaming, ClaimsAll, awaiting}
use Rattle.seg_check.specs.Naming.{IsFrozen, slot_of, left_at, less, Counts, Finds, blocks_of}
use Rattle.seg_check.specs.Turns.{AreOthers}

pub blocks_append : (xs ys : List Waiting) → blocks_of (xs ++ ys) ≡ blocks_of xs ++ blocks_of ys
blocks_append xs ys = map-append (λ (w : Waiting). block_of w.turn.start) xs ys

module _ (bytes : List ℕ) where
  pub other_block : (p tag size : ℕ) → (tag % 256 ≡ kind_number Kind.frozen → ⊥) → IsBlock bytes p tag size → IsFrozen bytes (block_of p) → ⊥
  other_block p tag size differs b f = differs (ap (λ t. t % 256) (sym b.has_tag) ∙ f)

  -- a frozen object isn't in a list of other blocks
  pub none_frozen : (h : ℕ) (hs : List ℕ) → IsFrozen bytes h → AllByRecursion (λ b. IsFrozen bytes b → ⊥) hs → times h hs ≡ 0
  none_frozen h [] f a = refl
  none_frozen h (x ∷ xs) f a = ⊎_elim
      (λ same. absurd (a.0 (subst (IsFrozen bytes) (sym same) f)))
      (λ other. times-other h x xs other ∙ none_frozen h xs f a.1)
      (cases_eq x h)

  none_waits : (h : ℕ) (below : Option ℕ) (turns : List Turn) → IsFrozen bytes h → AreOthers bytes turns → times h (blocks_of (awaiting below turns)) ≡ 0
  none_waits h below [] f a = refl
  none_waits h below (t ∷ ts) f a = ⊎_elim
      (λ same. absurd (a.0 (subst (IsFrozen bytes) (sym same) f)))
      (λ other. times-other h (block_of t.start) (blocks_of (awaiting below ts)) other ∙ none_waits h below ts f a.1)
      (cases_eq (block_of t.start) h)

  -- another block isn't in a list of frozen objects
  pub none_other : (h : ℕ) (hs : List ℕ) → (IsFrozen bytes h → ⊥) → AllByRecursion (IsFrozen bytes) hs → times h hs ≡ 0
  none_other h [] o a = refl
  none_other h (x ∷ xs) o a = ⊎_elim
      (λ same. absurd (o (subst (IsFrozen bytes) same a.0)))
      (λ other. times-other h x xs other ∙ none_other h xs o a.1)
      (cases_eq x h)

  -- ---- counts

  pub counts_same : (known : Known) (xs ys : List ℕ) → SameBlocks xs ys → Counts bytes known xs → Counts bytes known ys
  counts_same known xs ys same c = record {
    each = λ h f.
        let at = c.each h f in
        record {
          named = (λ s. omega (arith, at.named.0 s, same (h + 16)), λ s. at.named.1 (omega (arith, s, same (h + 16))));
          left = λ s. subst (λ n. left_at known h ≡ less (word bytes (h + 16)) n) (same (h + 16)) (at.left s);
        };
    frozen = c.frozen;
  }

  pub counts_kept : (old new : Known) (names : List ℕ) → KeepsNaming old new → Counts bytes old names → Counts bytes new names
  counts_kept old new names same c = record {
    each = λ h f.
        let at = c.each h f in
        let named : times h new.naming.named ≡ times h old.naming.named = ap (times h) same.named_kept in
        record {
          named = (λ s. at.named.0 (omega (arith, s, named)), λ s. let some = at.named.1 s in omega (arith, some, named));
          left = λ s. ap (λ counts. get_or counts (slot_of h) None) same.counts_kept ∙ at.left (omega (arith, s, named));
        };
    frozen = λ h some. c.frozen h (omega (arith, some, ap (times h) same.named_kept));
  }

  -- ---- steps

  pub finds_none : (known : Known) → Finds bytes known known []
  finds_none known = record { below_kept = refl; slots_kept = refl; standing_within = λ h. omega arith; standing_kept = λ h f. refl; unseen_kept = λ h f. refl; allocated_kept = λ h. refl; counts = λ before c. c }

  pub finds_claimed : (old new : Known) (blocks : List ℕ) (turns : List Turn) → ClaimsAll old new blocks turns → AllByRecursion (λ b. IsFrozen bytes b → ⊥) blocks → AreOthers bytes turns → Finds bytes old new []
  finds_claimed old new blocks turns c others waits = record {
    below_kept = ap (λ (n : Naming). n.below) c.naming_kept;
    slots_kept = ap (λ (n : Naming). length n.counts) c.naming_kept;
    standing_within = λ h. omega (arith, c.claimed h, times-append h blocks new.unclaimed, ap (λ (n : Naming). times h n.named) c.naming_kept);
    standing_kept = λ h f. omega (arith, unclaimed h f, ap (λ (n : Naming). times h n.named) c.naming_kept);
    unseen_kept = λ h f.
        let waiting = ap (λ ts. times h (blocks_of ts)) c.turns_are ∙ ap (times h) (blocks_append old.turns (awaiting old.naming.below turns)) ∙ times-append h (blocks_of old.turns) (blocks_of (awaiting old.naming.below turns)) in
        omega (arith, unclaimed h f, waiting, none_waits h old.naming.below turns f waits);
    allocated_kept = c.allocated_kept;
    counts = λ before k. counts_kept old new before (record { named_kept = ap (λ (n : Naming). n.named) c.naming_kept; counts_kept = ap (λ (n : Naming). n.counts) c.naming_kept }) k;
  }
    where
      unclaimed : (h : ℕ) → IsFrozen bytes h → times h new.unclaimed ≡ times h old.unclaimed
      unclaimed h f = omega (arith, c.claimed h, times-append h blocks new.unclaimed, none_frozen h blocks f others)

  both_found : (h : ℕ) (f g before : List ℕ) → times h (g ++ (f ++ before)) ≡ times h ((f ++ g) ++ before)
  both_found h f g before = omega (arith, times-append h g (f ++ before), times-append h f before, times-append h (f ++ g) before, times-append h f g)

  pub finds_more : (old mid new : Known) (f g : List ℕ) → Finds bytes old mid f → Finds bytes mid new g → Finds bytes old new (f ++ g)
  finds_more old mid new f g a b = record {
    below_kept = b.below_kept ∙ a.below_kept;
    slots_kept = b.slots_kept ∙ a.slots_kept;
    standing_within = λ h. omega (arith, a.standing_within h, b.standing_within h);
    standing_kept = λ h z. b.standing_kept h z ∙ a.standing_kept h z;
    unseen_kept = λ h z. b.unseen_kept h z ∙ a.unseen_kept h z;
    allocated_kept = λ h. b.allocated_kept h ∙ a.allocated_kept h;
    counts = λ before c. counts_same new (g ++ (f ++ before)) ((f ++ g) ++ before) (λ h. both_found h f g before) (b.counts (f ++ before) (a.counts before c));
  }
