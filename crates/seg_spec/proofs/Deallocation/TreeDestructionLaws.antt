-- The nodes of a map, destroyed from the root on.
use Rattle.std.proofs.Common.{◌≡◌, ℕ, ◌+◌, inl, List, [], ◌∷◌, ◌++◌, map, Option, Some, None, MatchOption, refl, sym, ap, ◌∙◌, subst, arith, append_assoc}
use Rattle.std.proofs.lemmas.List.{map-append}
use Rattle.seg_spec.specs.Pointer.{target}
use Rattle.seg_spec.specs.Types.{Form, Table, form_at, size}
use Rattle.seg_spec.specs.Value.{Values, nil, cons}
use Rattle.seg_spec.specs.Block.{Kind, tag_of, IsBlock, block_of}
use Rattle.seg_spec.specs.Shapes.{Tree, leaf, fork, nodes_of, IsTree}
use Rattle.seg_spec.specs.Reads.{Place, places_of, AreNodes, HoldsEach, holds_none, holds_more, map_words}
use Rattle.seg_spec.specs.Sound.{times, SameBlocks}
use Rattle.seg_spec.specs.Owing.{AreParts, no_parts, more_parts, OpensBlock, Owes, owes, OwesLinks, no_links, null_link, node_link}
use Rattle.seg_spec.proofs.Values.PlaceFrameLaws.{each_left, each_right}
use Rattle.seg_spec.proofs.Heap.LiveBlockLaws.{times-append}
use Rattle.seg_spec.specs.Shared.{named_in, named_each}

module _ (bytes : List ℕ) (table : Table) where
  pub record EachSplit (xs ys : List Place) (vs : Values) (owned : List ℕ) : Type 0 where
    pub lefts : Values
    pub rights : Values
    pub front : List ℕ
    pub back : List ℕ
    pub left : HoldsEach bytes table xs lefts front
    pub right : HoldsEach bytes table ys rights back
    pub owned_is : owned ≡ front ++ back
    pub named_is : named_each vs ≡ named_each lefts ++ named_each rights

  pub each_split : (xs ys : List Place) (vs : Values) (owned : List ℕ) → HoldsEach bytes table (xs ++ ys) vs owned → EachSplit xs ys vs owned
  unfolding named_each
  each_split [] ys vs owned h = record { lefts = nil; rights = vs; front = []; back = owned; left = holds_none; right = h; owned_is = refl; named_is = refl }
  each_split (x ∷ xs) ys vs owned (holds_more {v = u} {vs = us} {blocks = mine} {owned = rest} first more) =
      let s = each_split xs ys us rest more in
      record {
        lefts = cons u s.lefts;
        rights = s.rights;
        front = mine ++ s.front;
        back = s.back;
        left = holds_more first s.left;
        right = s.right;
        owned_is = ap (λ bs. mine ++ bs) s.owned_is ∙ sym (append_assoc mine s.front s.back);
        named_is = ap (λ bs. named_in u ++ bs) s.named_is ∙ sym (append_assoc (named_in u) (named_each s.lefts) (named_each s.rights));
      }

  module _ (T U : ℕ) (f : form_at table T ≡ Some (Form.map U)) where
    -- the places of the values of nodes
    abbrev pub values_in : List ℕ → List Place
    values_in nodes = places_of U (map (λ p. p + map_words) nodes)

    -- what is freed with the tree at a pointer: its nodes, and the blocks that their values own
    pub record TreeOwes (o : Option ℕ) (nodes owned named : List ℕ) : Type 0 where
      pub blocks : List ℕ
      pub names : List ℕ
      pub names_are : SameBlocks names named
      pub counts : (h : ℕ) → times h blocks ≡ times h (map block_of nodes) + times h owned
      pub owes_it : MatchOption o ((blocks ≡ []) × (names ≡ [])) (λ p. Owes bytes table p blocks names)

    link_owes : (at : ℕ) (o : Option ℕ) (blocks names : List ℕ) → target bytes at ≡ o → MatchOption o ((blocks ≡ []) × (names ≡ [])) (λ p. Owes bytes table p blocks names) → {ats ys ms : List ℕ} → OwesLinks bytes table ats ys ms →
        OwesLinks bytes table (at ∷ ats) (blocks ++ ys) (names ++ ms)
    link_owes at None blocks names e m {ats = ats} {ys = ys} {ms = ms} more =
        subst (λ bs. OwesLinks bytes table (at ∷ ats) (bs ++ ys) (names ++ ms)) (sym m.0) (subst (λ ns. OwesLinks bytes table (at ∷ ats) ys (ns ++ ms)) (sym m.1) (null_link e more))
    link_owes at (Some p) blocks names e m more = node_link p e m more

    no_more : (xs : List ℕ) → xs ++ [] ≡ xs
    no_more [] = refl
    no_more (x ∷ xs) = ap (λ ys. x ∷ ys) (no_more xs)

    values_split : (xs : List ℕ) (p : ℕ) (ys : List ℕ) → values_in (xs ++ p ∷ ys) ≡ values_in xs ++ (record { at = p + map_words; type = U } ∷ values_in ys)
    values_split [] p ys = refl
    values_split (x ∷ xs) p ys = ap (λ ps. record { at = x + map_words; type = U } ∷ ps) (values_split xs p ys)

    pub tree_owes : (o : Option ℕ) (tree : Tree) (vs : Values) (owned : List ℕ) → IsTree bytes o tree → AreNodes bytes (tag_of Kind.node T) (map_words + size table U) (nodes_of tree) →
        HoldsEach bytes table (values_in (nodes_of tree)) vs owned → TreeOwes o (nodes_of tree) owned (named_each vs)
    unfolding named_each
    tree_owes None leaf vs owned t a holds_none = record { blocks = []; names = []; names_are = λ h. refl; counts = λ h. omega arith; owes_it = (refl, refl) }
    tree_owes (Some p) leaf vs owned t a h = absurd t
    tree_owes None (fork left at colour right) vs owned t a h = absurd t
    tree_owes (Some p) (fork left at colour right) vs owned t a h =
        let at_is : at ≡ p = t.0 in
        let h' = rw (values_split (nodes_of left) at (nodes_of right)) at h in
        let s = each_split (values_in (nodes_of left)) (record { at = at + map_words; type = U } ∷ values_in (nodes_of right)) vs owned h' in
        let mine = each_split (record { at = at + map_words; type = U } ∷ []) (values_in (nodes_of right)) s.rights s.back s.right in
        let block = (each_right _ (nodes_of left) (at ∷ nodes_of right) a).0 in
        let l = tree_owes (target bytes p) left s.lefts s.front t.2 (each_left _ (nodes_of left) (at ∷ nodes_of right) a) s.left in
        let r = tree_owes (target bytes (p + 4)) right mine.rights mine.back t.3 (each_right _ (nodes_of left) (at ∷ nodes_of right) a).1 mine.right in
        let links : OwesLinks bytes table (p ∷ (p + 4) ∷ []) (l.blocks ++ (r.blocks ++ [])) (l.names ++ (r.names ++ [])) =
        link_owes p (target bytes p) l.blocks l.names refl l.owes_it (link_owes (p + 4) (target bytes (p + 4)) r.blocks r.names refl r.owes_it no_links) in
        let parts = own_part at mine.lefts mine.front mine.left in
        let block_there : IsBlock bytes p (tag_of Kind.node T) (map_words + size table U) = subst (λ q. IsBlock bytes q (tag_of Kind.node T) (map_words + size table U)) at_is block in
        let shown : OpensBlock bytes table p Kind.node T (form_at table T) (record { at = p + map_words; type = U } ∷ []) (p ∷ (p + 4) ∷ []) = rw f (block_there, refl, refl) in
        record {
          blocks = block_of p ∷ (mine.front ++ (l.blocks ++ (r.blocks ++ [])));
          names = named_each mine.lefts ++ (l.names ++ (r.names ++ []));
          names_are = λ k.
              let n1 = l.names_are k in
              let n2 = r.names_are k in
              let n3 : times k (named_each vs) ≡ times k (named_each s.lefts ++ named_each s.rights) = ap (times k) s.named_is in
              let n4 : times k (named_each s.rights) ≡ times k (named_each mine.lefts ++ named_each mine.rights) = ap (times k) mine.named_is in
              let n5 = times-append k (named_each s.lefts) (named_each s.rights) in
              let n6 = times-append k (named_each mine.lefts) (named_each mine.rights) in
              let n7 = times-append k (named_each mine.lefts) (l.names ++ (r.names ++ [])) in
              let n8 = times-append k l.names (r.names ++ []) in
              let n9 : times k (r.names ++ []) ≡ times k r.names = ap (times k) (no_more r.names) in
              omega arith;
          counts = λ k.
              let n1 = l.counts k in
              let n2 = r.counts k in
              let n3 : times k owned ≡ times k (s.front ++ s.back) = ap (times k) s.owned_is in
              let n4 : times k s.back ≡ times k (mine.front ++ mine.back) = ap (times k) mine.owned_is in
              let n5 = times-append k s.front s.back in
              let n6 = times-append k mine.front mine.back in
              let n7 = times-append k mine.front (l.blocks ++ (r.blocks ++ [])) in
              let n8 = times-append k l.blocks (r.blocks ++ []) in
              let n9 : times k (r.blocks ++ []) ≡ times k r.blocks = ap (times k) (no_more r.blocks) in
              let m1 : times k (map block_of (nodes_of left ++ at ∷ nodes_of right)) ≡ times k (map block_of (nodes_of left) ++ (block_of at ∷ map block_of (nodes_of right))) = ap (times k)
              (map-append block_of (nodes_of left) (at ∷ nodes_of right)) in
              let m2 = times-append k (map block_of (nodes_of left)) (block_of at ∷ map block_of (nodes_of right)) in
              let m3 : times k (block_of p ∷ []) ≡ times k (block_of at ∷ []) = ap (λ q. times k (block_of q ∷ [])) (sym at_is) in
              omega arith;
          owes_it = owes Kind.node T (record { at = p + map_words; type = U } ∷ []) (p ∷ (p + 4) ∷ []) mine.front (l.blocks ++ (r.blocks ++ [])) (named_each mine.lefts) (l.names ++ (r.names ++ [])) shown
              (subst (λ q. AreParts bytes table (record { at = q + map_words; type = U } ∷ []) mine.front (named_each mine.lefts)) at_is parts) links refl refl;
        }
      where
        own_part : (q : ℕ) (ws : Values) (bs : List ℕ) → HoldsEach bytes table (record { at = q + map_words; type = U } ∷ []) ws bs → AreParts bytes table (record { at = q + map_words; type = U } ∷ []) bs (named_each ws)
        own_part q ws bs (holds_more {v = u} first holds_none) = more_parts (inl (u, first, refl)) no_parts
