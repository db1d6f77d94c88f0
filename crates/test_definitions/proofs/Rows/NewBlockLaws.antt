-- From images that are alike, an instruction puts a new object into one block.
use Rattle.std.proofs.Common.{◌≡◌, ℕ, ◌+◌, ◌⊎◌, inl, inr, List, length, Some, None, sym, ap, ◌∙◌, subst}
use Rattle.std.specs.Prelude.{◌*◌, nat_abs}
use Rattle.seg_spec.specs.Bytes.{word}
use Rattle.seg_spec.specs.Header.{allocator_word}
use Rattle.seg_spec.specs.Types.{size}
use Rattle.seg_spec.specs.Value.{count}
use Rattle.seg_spec.specs.Heap.{live, fresh}
use Rattle.seg_spec.specs.Block.{block_of}
use Rattle.seg_spec.specs.Demand.{block_for, after_ask}
use Rattle.seg_spec.specs.Index.{Root, root_named}
use Rattle.client_spec.specs.declared.table.Operation.{Operation}
use Rattle.client_spec.specs.Syntax.{Constant, Instruction}
use Rattle.client_spec.specs.Answer.{Answer}
use Rattle.client_spec.specs.Pictures.{root_of_register}
use Rattle.client_spec.specs.Ties.{AllocatesAt, NamesCome, ObjectsComeBy, ComesBy}
use Rattle.client_spec.specs.OnImages.{Move, Situation, RowOn}
use Rattle.client_spec.proofs.TypedStates.StateLaws.{same_name_is}
use Rattle.client_sim.proofs.Objects.FirstRootLaws.{is_named, named_first, first_split}
use Rattle.test_definitions.specs.Alike.{AreAlike}
use Rattle.test_definitions.proofs.Rows.OneState.{as_pictured}
use Rattle.test_definitions.proofs.Rows.OneReturnLaws.{allocators}

-- requests of one size get one block
pub one_block : (others : List Root) (places first second : List ℕ) → AreAlike others places first second → (n a b : ℕ) → AllocatesAt first n a → AllocatesAt second n b → block_of b ≡ block_of a
one_block others places first second alike n a b x y =
    let same : after_ask (word second allocator_word) (live second) (length second) (block_for n) ≡ after_ask (word first allocator_word) (live first) (length first) (block_for n) =
    λ i. after_ask (allocators alike i) (alike.live_same i) (alike.length_same i) (block_for n) in
    let both : Some (fresh (block_of a) x.0) ≡ Some (fresh (block_of b) y.0) = sym x.1 ∙ sym same ∙ y.1 in
    cc

-- the root of a name has the name
name_is : (roots : List Root) (name : List ℕ) (root : Root) → root_named roots name ≡ Some root → root.name ≡ name
name_is roots name root is = same_name_is name root.name (first_split (is_named name) roots root (sym (named_first roots name) ∙ is)).is

module _ (constants : List Constant) (others : List Root) (moves : List Move) (i : Instruction) (x y z w : Situation) (first second : Answer) (alike : AreAlike others x.owned x.image z.image) (owned : z.owned ≡ x.owned)
    (r : RowOn constants others moves i x first y) (q : RowOn constants others moves i z second w) where
  types_same : q.before.plain.types ≡ r.before.plain.types
  types_same =
      let both = (as_pictured others x.owned x.image z.image alike r.before.pictured q.before.pictured r.owned_before (q.owned_before ∙ owned)).0 in
      sym q.before.pictured.types ∙ sym both.same.table ∙ r.before.pictured.types

  names_come : (i.operation ≡ Operation.Make) ⊎ (i.operation ≡ Operation.FindOrMake) → NamesCome i r.before.pictured r.after.pictured × NamesCome i q.before.pictured q.after.pictured
  names_come (inl is) = (
    subst (ObjectsComeBy i r.before.pictured r.after.pictured) is r.objects_come,
    subst (ObjectsComeBy i q.before.pictured q.after.pictured) is q.objects_come,
  )
  names_come (inr is) = (
    subst (ObjectsComeBy i r.before.pictured r.after.pictured) is r.objects_come,
    subst (ObjectsComeBy i q.before.pictured q.after.pictured) is q.objects_come,
  )

  pub name_in_block : (i.operation ≡ Operation.Make) ⊎ (i.operation ≡ Operation.FindOrMake) → (name : List ℕ) (a b : Root) → root_named r.before.pictured.picture.names name ≡ None
      → root_named r.after.pictured.picture.names name ≡ Some a → root_named q.after.pictured.picture.names name ≡ Some b → b.type ≡ a.type → b.values ≡ a.values → block_of b.at ≡ block_of a.at
  name_in_block is name a b none some some_too type_is values_are =
      let both = (as_pictured others x.owned x.image z.image alike r.before.pictured q.before.pictured r.owned_before (q.owned_before ∙ owned)).0 in
      let none_too : root_named q.before.pictured.picture.names name ≡ None = ap (λ roots. root_named roots name) (sym both.same.names) ∙ none in
      let come = names_come is in
      let room : (count b.values * size q.before.plain.types b.type + length b.name) ≡ (count a.values * size r.before.plain.types a.type + length a.name) =
      ap (λ vs. count vs * size q.before.plain.types b.type + length b.name) values_are ∙ ap (λ t. count a.values * size t b.type + length b.name) types_same
      ∙ ap (λ T. count a.values * size r.before.plain.types T + length b.name) type_is
      ∙ ap (λ n. count a.values * size r.before.plain.types a.type + length n)
      (name_is q.after.pictured.picture.names name b some_too ∙ sym (name_is r.after.pictured.picture.names name a some)) in
      one_block others x.owned x.image z.image alike (count a.values * size r.before.plain.types a.type + length a.name) a.at b.at (come.0 name a none some)
      (subst (λ n. AllocatesAt z.image n b.at) room (come.1 name b none_too some_too))

  pub owner_in_block : i.operation ≡ Operation.New → (register : ℕ) (a b : Root) → root_of_register r.before.plain.registers r.before.pictured.owned register ≡ None
      → root_of_register q.before.plain.registers q.before.pictured.owned register ≡ None → root_of_register r.after.plain.registers r.after.pictured.owned register ≡ Some a
      → root_of_register q.after.plain.registers q.after.pictured.owned register ≡ Some b → block_of b.at ≡ block_of a.at
  owner_in_block is register a b none none_too some some_too =
      let one : AllocatesAt x.image (size r.before.plain.types (nat_abs i.number)) a.at = subst (λ o. ComesBy constants i r.before.pictured o a.at) is (r.owners_come register a none some) in
      let two : AllocatesAt z.image (size q.before.plain.types (nat_abs i.number)) b.at = subst (λ o. ComesBy constants i q.before.pictured o b.at) is (q.owners_come register b none_too some_too) in
      one_block others x.owned x.image z.image alike (size r.before.plain.types (nat_abs i.number)) a.at b.at one (subst (λ t. AllocatesAt z.image (size t (nat_abs i.number)) b.at) types_same two)
