-- A tag determines its kind and its type.
use Rattle.std.proofs.Common.{◌≡◌, ℕ, zero, suc, ◌<◌, ◌≤◌, Option, Some, None, true, refl, sym, ap, ◌∙◌, arith}
use Rattle.seg_spec.specs.Types.{Form, Table, IsTable, form_at}
use Rattle.seg_spec.specs.Block as block
use Rattle.seg_spec.specs.Block.{kind_number, tag_of, AllowsType, has_buffer, has_nodes}
use Rattle.seg_spec.proofs.Tables.TableExtensionLaws.{below_length}
use Rattle.seg_block.specs.Tags.{kind_of}
use Rattle.seg_block.specs.declared.tag.Kind.{Kind}
use Rattle.seg_block.specs.declared.tag.Kind.TheVariants as kind

pub number_small : (k : block.Kind) → (1 ≤ kind_number k) × (kind_number k ≤ 7)
number_small block.Kind.named = (omega arith, omega arith)
number_small block.Kind.object = (omega arith, omega arith)
number_small block.Kind.buffer = (omega arith, omega arith)
number_small block.Kind.node = (omega arith, omega arith)
number_small block.Kind.index_buffer = (omega arith, omega arith)
number_small block.Kind.index_node = (omega arith, omega arith)
number_small block.Kind.frozen = (omega arith, omega arith)

-- the kind with a number from 1 to 7
abbrev kind_with : ℕ → block.Kind
kind_with (suc (suc (suc (suc (suc (suc (suc n))))))) = block.Kind.frozen
kind_with (suc (suc (suc (suc (suc (suc zero)))))) = block.Kind.index_node
kind_with (suc (suc (suc (suc (suc zero))))) = block.Kind.index_buffer
kind_with (suc (suc (suc (suc zero)))) = block.Kind.node
kind_with (suc (suc (suc zero))) = block.Kind.buffer
kind_with (suc (suc zero)) = block.Kind.object
kind_with _ = block.Kind.named

kind_again : (k : block.Kind) → kind_with (kind_number k) ≡ k
kind_again block.Kind.named = refl
kind_again block.Kind.object = refl
kind_again block.Kind.buffer = refl
kind_again block.Kind.node = refl
kind_again block.Kind.index_buffer = refl
kind_again block.Kind.index_node = refl
kind_again block.Kind.frozen = refl

pub one_tag : (j k : block.Kind) (S T : ℕ) → tag_of j S ≡ tag_of k T → (j ≡ k) × (S ≡ T)
one_tag j k S T e =
    let a = number_small j in
    let b = number_small k in
    let numbers : kind_number j ≡ kind_number k = omega arith in
    (sym (kind_again j) ∙ ap kind_with numbers ∙ kind_again k, omega arith)

-- ---- tags that a table allows

-- the kind of the library (`Kind`) for a kind of the definitions
abbrev pub kind_from : block.Kind → Kind
kind_from block.Kind.named = kind.Named
kind_from block.Kind.object = kind.Object
kind_from block.Kind.buffer = kind.Buffer
kind_from block.Kind.node = kind.Node
kind_from block.Kind.index_buffer = kind.IndexBuffer
kind_from block.Kind.index_node = kind.IndexNode
kind_from block.Kind.frozen = kind.Frozen

pub kind_of-from : (k : block.Kind) → kind_of (kind_from k) ≡ k
kind_of-from block.Kind.named = refl
kind_of-from block.Kind.object = refl
kind_of-from block.Kind.buffer = refl
kind_of-from block.Kind.node = refl
kind_of-from block.Kind.index_buffer = refl
kind_of-from block.Kind.index_node = refl
kind_of-from block.Kind.frozen = refl

module _ (table : Table) (valid : IsTable table) where
  has_form : (T : ℕ) (o : Option Form) → form_at table T ≡ o → (o ≡ None → ⊥) → T < 32
  has_form T None e some = absurd (some refl)
  has_form T (Some form) e some = let few = valid.few in let b = below_length table T form e in omega arith

  -- the type in an allowed tag is less than 32
  pub type_small : (k : block.Kind) (T : ℕ) → AllowsType table k T → T < 32
  type_small block.Kind.named T a = let few = valid.few in omega (arith, a)
  type_small block.Kind.object T a = let few = valid.few in omega (arith, a)
  type_small block.Kind.buffer T a = has_form T (form_at table T) refl (λ e. no_buffer (sym (ap has_buffer e) ∙ a))
    where
      no_buffer : has_buffer None ≡ true → ⊥
      no_buffer e = cc
  type_small block.Kind.node T a = has_form T (form_at table T) refl (λ e. no_nodes (sym (ap has_nodes e) ∙ a))
    where
      no_nodes : has_nodes None ≡ true → ⊥
      no_nodes e = cc
  type_small block.Kind.index_buffer T a = omega (arith, a)
  type_small block.Kind.index_node T a = omega (arith, a)
  type_small block.Kind.frozen T a = let few = valid.few in omega (arith, a)
