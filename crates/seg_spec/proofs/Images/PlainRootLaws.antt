-- A root without words before its values: its block begins with the values.
use Rattle.std.proofs.Common.{◌≡◌, ℕ, ◌+◌, ◌*◌, List, [], ◌∷◌, length, sym, ap, ◌∙◌, subst, arith}
use Rattle.seg_spec.specs.Bytes.{slice}
use Rattle.seg_spec.specs.Types.{Table, size}
use Rattle.seg_spec.specs.Value.{Values, count}
use Rattle.seg_spec.specs.Block.{IsBlock, block_of, tag_of}
use Rattle.seg_spec.specs.Reads.{items, HoldsEach}
use Rattle.seg_spec.specs.Index.{Root}
use Rattle.seg_spec.specs.Sound.{kind_with, payload_of, HoldsRoot}

-- the root's block contains its values and then its name
pub record HoldsPlain (bytes : List ℕ) (table : Table) (root : Root) (blocks : List ℕ) : Type 0 where
  pub block : IsBlock bytes root.at (tag_of (kind_with [] root.name) root.type) (count root.values * size table root.type + length root.name)
  pub name_is : slice bytes (root.at + count root.values * size table root.type) (length root.name) ≡ root.name
  pub inside : List ℕ
  pub values : HoldsEach bytes table (items table root.at root.type (count root.values)) root.values inside
  pub blocks_are : blocks ≡ block_of root.at ∷ inside

module _ (bytes : List ℕ) (table : Table) (name : List ℕ) (at type : ℕ) (values : Values) (blocks : List ℕ) where
  abbrev with : List ℕ → Root
  with words = record { name = name; words = words; at = at; type = type; values = values }

  nothing_before : payload_of (with []) ≡ at
  nothing_before = omega arith

  same_block : {p q n m : ℕ} → p ≡ q → n ≡ m → IsBlock bytes p (tag_of (kind_with [] name) type) n → IsBlock bytes q (tag_of (kind_with [] name) type) m
  same_block e f h = rw (← e, ← f) h

  plain_from : HoldsRoot bytes table (with []) blocks → HoldsPlain bytes table (with []) blocks
  plain_from h = record {
    block = same_block nothing_before (omega arith) h.block;
    name_is = h.name_is;
    inside = h.inside;
    values = h.values;
    blocks_are = h.blocks_are ∙ ap (λ p. block_of p ∷ h.inside) nothing_before;
  }

  root_from : HoldsPlain bytes table (with []) blocks → HoldsRoot bytes table (with []) blocks
  root_from h = record {
    before = omega arith;
    block = same_block (sym nothing_before) (omega arith) h.block;
    words_are = tt;
    name_is = h.name_is;
    inside = h.inside;
    values = h.values;
    blocks_are = h.blocks_are ∙ ap (λ p. block_of p ∷ h.inside) (sym nothing_before);
  }

  plain_with : (words : List ℕ) → words ≡ [] → HoldsRoot bytes table (with words) blocks → HoldsPlain bytes table (with words) blocks
  plain_with words e h = subst (λ ws. HoldsPlain bytes table (with ws) blocks) (sym e) (plain_from (subst (λ ws. HoldsRoot bytes table (with ws) blocks) e h))

  root_with : (words : List ℕ) → words ≡ [] → HoldsPlain bytes table (with words) blocks → HoldsRoot bytes table (with words) blocks
  root_with words e h = subst (λ ws. HoldsRoot bytes table (with ws) blocks) (sym e) (root_from (subst (λ ws. HoldsPlain bytes table (with ws) blocks) e h))

pub plain_of : (bytes : List ℕ) (table : Table) (root : Root) (blocks : List ℕ) → root.words ≡ [] → HoldsRoot bytes table root blocks → HoldsPlain bytes table root blocks
plain_of bytes table root blocks e h = plain_with bytes table root.name root.at root.type root.values blocks root.words e h

pub root_of_plain : (bytes : List ℕ) (table : Table) (root : Root) (blocks : List ℕ) → root.words ≡ [] → HoldsPlain bytes table root blocks → HoldsRoot bytes table root blocks
root_of_plain bytes table root blocks e h = root_with bytes table root.name root.at root.type root.values blocks root.words e h
