-- The words that are tags of named objects.
use Rattle.std.proofs.Common.{◌≡◌, ℕ, ◌+◌, ◌-◌, ◌*◌, ◌/◌, ◌%◌, ◌<◌, ◌≤◌, ◌⊎◌, inl, inr, Bool, true, false, List, Option, Some, None, refl, sym, ap, ◌∙◌, arith}
use Rattle.std.specs.Prelude.{◌==◌, nat_le, nat_lt, ◌&&◌, if◌then◌else◌}
use Rattle.std.proofs.lemmas.Bool.{cases_lt}
use Rattle.std.proofs.lemmas.Bool.Decides.{nat_tests}
use Rattle.seg_block.specs.declared.tag.Kind.TheVariants.{Named, Object, Buffer, Node, IndexBuffer, IndexNode, Frozen}
use Rattle.seg_block.specs.declared.tag.Tag.{Tag}
use Rattle.seg_spec.specs.Block.{tag_of}
use Rattle.seg_spec.specs.Heap.{tag_at}
use Rattle.seg_block.specs.Tags.{kind_of, word_of}
use Rattle.seg_cells.specs.Names.{named_type, type_at}

pub is_named : (word T : ℕ) → word ≡ 1 + 256 * T → T < 256 → named_type word ≡ Some T
unfolding named_type
is_named word T e small =
    let first : (word % 256 == 1) ≡ true = (let r : word % 256 ≡ 1 = omega arith in grind (arith, nat_tests)) in
    let second : nat_lt (word / 256) 256 ≡ true = (let q : word / 256 < 256 = omega arith in grind (arith, nat_tests)) in
    let q : word / 256 ≡ T = omega arith in
    rw (first, second) (ap Some q)

pub not_named : (word k T : ℕ) → word ≡ k + 256 * T → 2 ≤ k → k < 256 → named_type word ≡ None
unfolding named_type
not_named word k T e low high =
    let first : (word % 256 == 1) ≡ false = (let r : word % 256 ≡ k = omega arith in grind (arith, nat_tests)) in
    rw first refl

-- a word that is no tag isn't the tag of a named object
pub no_tag : (word : ℕ) (r : Option Tag) → ((t : Tag) → t.type_id < 256 → word ≡ word_of t → r ≡ Some t) → r ≡ None → named_type word ≡ None
unfolding named_type
no_tag word r every none = go (word % 256 == 1) (nat_lt (word / 256) 256) refl refl
  where
    go : (a b : Bool) → (word % 256 == 1) ≡ a → nat_lt (word / 256) 256 ≡ b → (if (word % 256 == 1) && nat_lt (word / 256) 256 then Some (word / 256) else None) ≡ None
    go false b e f = rw e refl
    go true false e f = rw (e, f) refl
    go true true e f =
        let first : word % 256 ≡ 1 = grind (arith, nat_tests) in
        let second : word / 256 < 256 = grind (arith, nat_tests) in
        let some = every (record { kind = Named; type_id = word / 256 }) second (omega arith) in
        absurd (let both : None ≡ Some (record { kind = Named; type_id = word / 256 }) = sym none ∙ some in cc)

-- a word that is another tag isn't the tag of a named object either
pub other_tag : (word : ℕ) (t : Tag) → word ≡ word_of t → (t.kind ≡ Object) ⊎ ((t.kind ≡ Buffer) ⊎ ((t.kind ≡ Node) ⊎ ((t.kind ≡ IndexBuffer) ⊎ ((t.kind ≡ IndexNode) ⊎ (t.kind ≡ Frozen))))) →
    named_type word ≡ None
other_tag word t e (inl k) = not_named word 2 t.type_id (e ∙ ap (λ k. tag_of (kind_of k) t.type_id) k) (omega arith) (omega arith)
other_tag word t e (inr (inl k)) = not_named word 3 t.type_id (e ∙ ap (λ k. tag_of (kind_of k) t.type_id) k) (omega arith) (omega arith)
other_tag word t e (inr (inr (inl k))) = not_named word 4 t.type_id (e ∙ ap (λ k. tag_of (kind_of k) t.type_id) k) (omega arith) (omega arith)
other_tag word t e (inr (inr (inr (inl k)))) = not_named word 5 t.type_id (e ∙ ap (λ k. tag_of (kind_of k) t.type_id) k) (omega arith) (omega arith)
other_tag word t e (inr (inr (inr (inr (inl k))))) = not_named word 6 t.type_id (e ∙ ap (λ k. tag_of (kind_of k) t.type_id) k) (omega arith) (omega arith)
other_tag word t e (inr (inr (inr (inr (inr k))))) = not_named word 7 t.type_id (e ∙ ap (λ k. tag_of (kind_of k) t.type_id) k) (omega arith) (omega arith)

-- ---- the types of objects

pub no_block : (bytes : List ℕ) (object : ℕ) → (16 ≤ object → ⊥) → type_at bytes object ≡ None
unfolding type_at
no_block bytes object low = elim (cases_lt object 16) [
  | inl less ↦ let first : nat_le 16 object ≡ false = grind (arith, nat_tests) in rw first refl
  | inr more ↦ absurd (low more)
]

pub in_block : (bytes : List ℕ) (object : ℕ) → 16 ≤ object → type_at bytes object ≡ named_type (tag_at bytes (object - 16))
unfolding type_at
in_block bytes object more = let first : nat_le 16 object ≡ true = grind (arith, nat_tests) in rw first refl
