-- The nodes of a list whose ring was opened, destroyed from the first on.
use Rattle.std.proofs.Common.{◌≡◌, ℕ, ◌+◌, inl, List, [], ◌∷◌, ◌++◌, map, Some, None, refl, arith}
use Rattle.seg_spec.specs.Pointer.{target}
use Rattle.seg_spec.specs.Types.{Form, Table, form_at, size}
use Rattle.seg_spec.specs.Value.{Value, Values}
use Rattle.seg_spec.specs.Block.{Kind, tag_of, IsBlock, block_of}
use Rattle.seg_spec.specs.Reads.{Place, places_of, AreNodes, Holds, HoldsEach, holds_none, holds_more}
use Rattle.seg_spec.specs.Sound.{times, SameBlocks}
use Rattle.seg_spec.specs.Owing.{no_parts, more_parts, OpensBlock, Owes, owes, OwesLinks, no_links, null_link, node_link}
use Rattle.seg_spec.proofs.Heap.LiveBlockLaws.{times-append}
use Rattle.seg_spec.specs.Shared.{named_in, named_each}

-- each node points to the next node, and the last one has a null pointer
abbrev pub IsChain : List ℕ → ℕ → List ℕ → Type 0
IsChain bytes x [] = target bytes x ≡ None
IsChain bytes x (y ∷ ys) = (target bytes x ≡ Some y) × IsChain bytes y ys

module _ (bytes : List ℕ) (table : Table) (T U : ℕ) (f : form_at table T ≡ Some (Form.list U)) where
  abbrev pub items_in : List ℕ → List Place
  items_in nodes = places_of U (map (λ p. p + 8) nodes)

  -- what is freed with a node: the node itself, the nodes after it, and what their values own
  pub record ChainOwes (x : ℕ) (nodes owned named : List ℕ) : Type 0 where
    pub blocks : List ℕ
    pub names : List ℕ
    pub counts : (h : ℕ) → times h blocks ≡ times h (map block_of nodes) + times h owned
    pub names_are : SameBlocks names named
    pub owes_it : Owes bytes table x blocks names

  node_owes : (x : ℕ) (v : Value) (mine ys ms : List ℕ) → IsBlock bytes x (tag_of Kind.node T) (8 + size table U) → Holds bytes table (record { at = x + 8; type = U }) v mine →
      OwesLinks bytes table (x ∷ []) ys ms → Owes bytes table x (block_of x ∷ ((mine ++ []) ++ ys)) ((named_in v ++ []) ++ ms)
  node_owes x v mine ys ms block h links =
      let shown : OpensBlock bytes table x Kind.node T (form_at table T) (record { at = x + 8; type = U } ∷ []) (x ∷ []) = rw f (block, refl, refl) in
      owes Kind.node T (record { at = x + 8; type = U } ∷ []) (x ∷ []) (mine ++ []) ys (named_in v ++ []) ms shown (more_parts (inl (v, h, refl)) no_parts) links refl refl

  pub chain_owes : (x : ℕ) (nodes : List ℕ) (vs : Values) (owned : List ℕ) → IsChain bytes x nodes → AreNodes bytes (tag_of Kind.node T) (8 + size table U) (x ∷ nodes) →
      HoldsEach bytes table (items_in (x ∷ nodes)) vs owned → ChainOwes x (x ∷ nodes) owned (named_each vs)
  unfolding named_each
  chain_owes x [] vs owned c a (holds_more {v = v} {blocks = mine} {owned = rest} first holds_none) = record {
    blocks = block_of x ∷ ((mine ++ []) ++ []);
    names = (named_in v ++ []) ++ [];
    counts = λ h. omega (arith, times-append h (mine ++ []) [], times-append h mine []);
    names_are = λ h. omega (arith, times-append h (named_in v ++ []) [], times-append h (named_in v) []);
    owes_it = node_owes x v mine [] [] a.0 first (null_link c no_links);
  }
  chain_owes x (y ∷ ys) vs owned c a (holds_more {v = v} {vs = us} {blocks = mine} {owned = rest} first more) =
      let r = chain_owes y ys us rest c.1 a.1 more in
      record {
        blocks = block_of x ∷ ((mine ++ []) ++ (r.blocks ++ []));
        names = (named_in v ++ []) ++ (r.names ++ []);
        names_are = λ h.
            omega (arith, r.names_are h, times-append h (named_in v ++ []) (r.names ++ []), times-append h (named_in v) [], times-append h r.names [], times-append h (named_in v) (named_each us));
        counts = λ h. omega (arith, r.counts h, times-append h (mine ++ []) (r.blocks ++ []), times-append h mine [], times-append h r.blocks [], times-append h mine rest);
        owes_it = node_owes x v mine (r.blocks ++ []) (r.names ++ []) a.0 first (node_link y c.0 r.owes_it no_links);
      }
