-- The ring of a list: its nodes are claimed along the pointers to the next.
use Rattle.std.proofs.Common.{◌≡◌, ℕ, ◌+◌, ◌*◌, ◌^◌, ◌<◌, ◌≤◌, ◌↔◌, Bool, true, List, [], ◌∷◌, ◌++◌, length, length-append, map, Some, None, Err, refl, sym, ap, ◌∙◌, subst, arith}
use Rattle.std.proofs.lemmas.List.{map-append}
use Rattle.seg_spec.specs.Pointer.{target}
use Rattle.seg_spec.specs.Types.{Form, Table, form_at, size}
use Rattle.seg_spec.specs.Block.{Kind, tag_of, block_of, IsBlock}
use Rattle.seg_spec.specs.Shapes.{IsLinked, IsRing}
use Rattle.seg_spec.specs.Value.{Label}
use Rattle.seg_spec.specs.Reads.{Opened, Opens, AreNodes, count_at}
use Rattle.seg_spec.specs.Sound.{times}
use Rattle.seg_spec.proofs.Heap.LiveBlockLaws.{times-same, times-append, times-more}
use Rattle.seg_layout.specs.Forms.{has_cells}
use Rattle.seg_check.specs.declared.fault.ContentFault.{ContentFault}
use Rattle.seg_check.specs.Cells.{blocks_counted_by}
use Rattle.seg_check.specs.Claiming.{Refutes, HaveLiveHeaders, CanClaim, RefusesClaim, ClaimsBlock, turns_where}
use Rattle.seg_check.specs.Turns.{LiesAt, by_cell}
use Rattle.seg_check.specs.Positions.{IsLinkAt, of_node, LacksValueAt, in_cell, LacksAt}
use Rattle.seg_check.specs.Marks.{Known, Within}
use Rattle.seg_check.specs.Resolving.{CanResolve, Advances, IsReady}
use Rattle.seg_check.proofs.Queue.QueueStepLaws.{advance_open, can_open}
use Rattle.seg_check.proofs.Blocks.CellClaimLaws.{advance_nothing}
use Rattle.seg_check.proofs.Contents.BufferLaws.{blocks_refused, blocks_lack}
use Rattle.seg_check.proofs.Blocks.LackingBlockLaws.{null_lacks, refuses_as, value_lacks, link_lacks}
use Rattle.seg_check.proofs.Contents.NodeLaws.{turns_of, Claimed, one_node, claimed_none, claimed_more, claimed_within, claimed_live, nodes_others, node_room, values_of, values_known, claimed_wait}

module _ (bytes : List ℕ) where
  -- each node from x on points to the next one, up to the last
  abbrev pub Chain : ℕ → List ℕ → ℕ → Type 0
  Chain x [] last = x ≡ last
  Chain x (y ∷ ys) last = (target bytes x ≡ Some y) × Chain y ys last

  -- each node from x on is the previous one of its next node
  abbrev pub Backs : ℕ → List ℕ → Type 0
  Backs x [] = Unit {0}
  Backs x (y ∷ ys) = (target bytes (y + 4) ≡ Some x) × Backs y ys

  chain_more : (x : ℕ) (xs : List ℕ) (last next : ℕ) → Chain x xs last → target bytes last ≡ Some next → Chain x (xs ++ next ∷ []) next
  chain_more x [] last next c e = (ap (target bytes) c ∙ e, refl)
  chain_more x (y ∷ ys) last next c e = (c.0, chain_more y ys last next c.1 e)

  backs_more : (x : ℕ) (xs : List ℕ) (last next : ℕ) → Chain x xs last → Backs x xs → target bytes (next + 4) ≡ Some last → Backs x (xs ++ next ∷ [])
  backs_more x [] last next c b e = (e ∙ ap Some (sym c), tt)
  backs_more x (y ∷ ys) last next c b e = (b.0, backs_more y ys last next c.1 b.1 e)

  backs_front : (x : ℕ) (xs : List ℕ) (next : ℕ) → Backs x (xs ++ next ∷ []) → Backs x xs
  backs_front x [] next b = tt
  backs_front x (y ∷ ys) next b = (b.0, backs_front y ys next b.1)

  backs_last : (x : ℕ) (xs : List ℕ) (last next : ℕ) → Chain x xs last → Backs x (xs ++ next ∷ []) → target bytes (next + 4) ≡ Some last
  backs_last x [] last next c b = b.0 ∙ ap Some c
  backs_last x (y ∷ ys) last next c b = backs_last y ys last next c.1 b.1

  linked_of : (first x : ℕ) (xs : List ℕ) (last : ℕ) → Chain x xs last → Backs x xs → target bytes last ≡ Some first → target bytes (first + 4) ≡ Some last → IsLinked bytes first x xs
  linked_of first x [] last c b next back = record { next = ap (target bytes) c ∙ next; previous = back ∙ ap Some (sym c) }
  linked_of first x (y ∷ ys) last c b next back = (record { next = c.0; previous = b.0 }, linked_of first y ys last c.1 b.1 next back)

  linked_chain : (first x : ℕ) (ys xs : List ℕ) (last : ℕ) → IsLinked bytes first x ys → Chain x xs last → length ys ≡ length xs → ys ≡ xs
  linked_chain first x [] [] last l c e = refl
  linked_chain first x [] (z ∷ zs) last l c e = absurd (omega arith)
  linked_chain first x (y ∷ ys) [] last l c e = absurd (omega arith)
  linked_chain first x (y ∷ ys) (z ∷ zs) last l c e =
      let same : y ≡ z = cc (l.0.next, c.0) in
      let rest = linked_chain first z ys zs last (subst (λ w. IsLinked bytes first w ys) same l.1) c.1 (omega arith) in
      cc

  linked_backs : (first x : ℕ) (ys : List ℕ) → IsLinked bytes first x ys → Backs x ys
  linked_backs first x [] l = tt
  linked_backs first x (y ∷ ys) l = (l.0.previous, linked_backs first y ys l.1)

  linked_close : (first x : ℕ) (xs : List ℕ) (last : ℕ) → IsLinked bytes first x xs → Chain x xs last → (target bytes last ≡ Some first) × (target bytes (first + 4) ≡ Some last)
  linked_close first x [] last l c = (ap (target bytes) (sym c) ∙ l.next, l.previous ∙ ap Some c)
  linked_close first x (y ∷ ys) last l c = linked_close first y ys last l.1 c.1

  record Next (xs ys : List ℕ) (last : ℕ) : Type 0 where
    pub node : ℕ
    pub rest : List ℕ
    pub parts : ys ≡ xs ++ node ∷ rest
    pub named : target bytes last ≡ Some node

  linked_next : (first x : ℕ) (ys xs : List ℕ) (last : ℕ) → IsLinked bytes first x ys → Chain x xs last → length xs < length ys → Next xs ys last
  linked_next first x [] xs last l c e = absurd (omega arith)
  linked_next first x (y ∷ ys) [] last l c e = record { node = y; rest = ys; parts = refl; named = ap (target bytes) (sym c) ∙ l.0.next }
  linked_next first x (y ∷ ys) (z ∷ zs) last l c e =
      let same : y ≡ z = cc (l.0.next, c.0) in
      let rest = linked_next first z ys zs last (subst (λ w. IsLinked bytes first w ys) same l.1) c.1 (omega arith) in
      record { node = rest.node; rest = rest.rest; parts = ap (λ w. w ∷ ys) same ∙ ap (λ ws. z ∷ ws) rest.parts; named = rest.named }

-- ---- the nodes that were claimed so far

module _ (bytes : List ℕ) (table : Table) (old : Known) (ready : IsReady bytes table old) (at T U : ℕ) (f : form_at table T ≡ Some (Form.list U)) where
  abbrev tag : ℕ
  tag = tag_of Kind.node T

  abbrev each : ℕ
  each = 8 + size table U

  abbrev has : Bool
  has = has_cells (form_at table U)

  abbrev Nodes : Known → List ℕ → Type 0
  Nodes now nodes = Claimed bytes table old ready T 8 U now nodes

  pub record Walked (now : Known) (first last n : ℕ) (is_linked : Bool) : Type 0 where
    pub nodes : List ℕ
    pub chain : Chain bytes first nodes last
    pub linked : (is_linked ≡ true) ↔ Backs bytes first nodes
    pub claimed : Nodes now (first ∷ nodes)
    pub counted : length (first ∷ nodes) ≡ n

  pub walked_first : (now : Known) (first : ℕ) → ClaimsBlock bytes old now at tag (1 * each) (turns_where has first 1) first → Walked now first first 1 true
  walked_first now first c = record {
    nodes = [];
    chain = refl;
    linked = (λ e. tt, λ b. refl);
    claimed = claimed_more bytes table old ready T 8 U old now [] at first (claimed_none bytes table old ready T 8 U) c;
    counted = refl;
  }

  pub walked_more : (mid new : Known) (first last next n : ℕ) (b c : Bool) → Walked mid first last n b → ClaimsBlock bytes mid new last tag (1 * each) (turns_where has next 1) next
      → ((c ≡ true) ↔ ((b ≡ true) × (target bytes (next + 4) ≡ Some last))) → Walked new first next (n + 1) c
  walked_more mid new first last next n b c w k is = record {
    nodes = w.nodes ++ next ∷ [];
    chain = chain_more bytes first w.nodes last next w.chain k.names;
    linked = (
      λ e. let both = is.0 e in backs_more bytes first w.nodes last next w.chain (w.linked.0 both.0) both.1,
      λ backs. is.1 (w.linked.1 (backs_front bytes first w.nodes next backs), backs_last bytes first w.nodes last next w.chain backs),
    );
    claimed = claimed_more bytes table old ready T 8 U mid new (first ∷ w.nodes) last next w.claimed k;
    counted = (let long = length-append (first ∷ w.nodes) (next ∷ []) in let was = w.counted in omega arith);
  }

  pub walked_live : (mid : Known) (first last n : ℕ) (b : Bool) → Walked mid first last n b → HaveLiveHeaders bytes mid.unclaimed
  walked_live mid first last n b w = claimed_live bytes table old ready T 8 U mid (first ∷ w.nodes) w.claimed

  -- ---- the ring

  ring_opened : List ℕ → Opened
  ring_opened nodes = record { label = Label.seq; blocks = map block_of nodes; parts = values_of bytes table old ready T 8 U nodes }

  pub ring_advance : (now : Known) (first last n : ℕ) (b : Bool) → Walked now first last n b → LiesAt bytes table (record { at = at; type = T })
      → target bytes at ≡ Some first → n ≡ count_at bytes at → b ≡ true → target bytes last ≡ Some first → target bytes (first + 4) ≡ Some last
      → Advances bytes table old now (record { at = at; type = T } ∷ [])
  unfolding ring_opened
  ring_advance now first last n b w lies named n_is linked next back =
      let nodes = first ∷ w.nodes in
      let opens : Opens bytes table (record { at = at; type = T }) (Form.list U) (ring_opened nodes) = record {
        nodes = nodes;
        ring = subst (λ o. IsRing bytes o nodes) (sym named) (refl, linked_of bytes first first w.nodes last w.chain (w.linked.0 linked) next back);
        counted = w.counted ∙ n_is;
        are_nodes = w.claimed.are_nodes;
        opened_is = refl;
      } in
      let waits = claimed_wait bytes table old ready T 8 U (Form.list U) f (λ p. refl) now nodes (λ h there. by_cell (ring_opened nodes) lies f opens there) w.claimed in
      advance_open bytes table old now (record { at = at; type = T }) (Form.list U) (ring_opened nodes) (turns_of has nodes) f opens
      refl w.claimed.claims waits.0 (nodes_others bytes table old ready T 8 U has nodes w.claimed.are_nodes) (values_known bytes table old ready T 8 U (ready.is_table.forms T (Form.list U) f) nodes) waits.1

  pub ring_nothing : target bytes at ≡ None → count_at bytes at ≡ 0 → Advances bytes table old old (record { at = at; type = T } ∷ [])
  unfolding ring_opened
  ring_nothing e n =
      advance_nothing bytes table old (record { at = at; type = T }) (Form.list U) (ring_opened []) f
      (record { nodes = []; ring = subst (λ o. IsRing bytes o []) (sym e) tt; counted = sym n; are_nodes = tt; opened_is = refl }) refl refl refl

  -- ---- lists that can be resolved

  record Ring (first : ℕ) : Type 0 where
    pub nodes : List ℕ
    pub linked : IsLinked bytes first first nodes
    pub counted : length (first ∷ nodes) ≡ count_at bytes at
    pub are_nodes : AreNodes bytes tag each (first ∷ nodes)
    pub within : Within (map block_of (first ∷ nodes)) old.unclaimed

  ring_of : (first : ℕ) → target bytes at ≡ Some first → CanResolve bytes table old (record { at = at; type = T } ∷ []) → Ring first
  ring_of first named r =
      let o = can_open bytes table old (record { at = at; type = T }) (Form.list U) [] f r in
      let within = subst (λ bs. Within bs old.unclaimed) (ap (λ (x : Opened). x.blocks) o.opens.opened_is) o.within in
      go o.opens.nodes (subst (λ t. IsRing bytes t o.opens.nodes) named o.opens.ring) o.opens.counted o.opens.are_nodes within
    where
      go : (nodes : List ℕ) → IsRing bytes (Some first) nodes → length nodes ≡ count_at bytes at → AreNodes bytes tag each nodes → Within (map block_of nodes) old.unclaimed → Ring first
      go [] ring counted are within = absurd ring
      go (x ∷ xs) ring counted are within = record {
        nodes = xs;
        linked = subst (λ y. IsLinked bytes first y xs) ring.0 ring.1;
        counted = counted;
        are_nodes = subst (λ y. AreNodes bytes tag each (y ∷ xs)) ring.0 are;
        within = subst (λ y. Within (map block_of (y ∷ xs)) old.unclaimed) ring.0 within;
      }

  pub first_can : (first : ℕ) → target bytes at ≡ Some first → CanResolve bytes table old (record { at = at; type = T } ∷ []) → CanClaim bytes old at tag (1 * each)
  first_can first named r =
      let ring = ring_of first named r in
      record {
        start = first;
        names = named;
        is_block = subst (λ n. IsBlock bytes first tag n) (sym (one_node bytes table old ready T 8 U)) ring.are_nodes.0;
        unclaimed = omega (arith, ring.within (block_of first), times-same (block_of first) (map block_of ring.nodes));
      }

  -- a cell counts no nodes exactly if its pointer is null
  pub ring_counted : (e : ContentFault) → blocks_counted_by at (target bytes at) (count_at bytes at) ≡ Err e → Refutes e (CanResolve bytes table old (record { at = at; type = T } ∷ []))
  ring_counted e is = blocks_refused _ at (count_at bytes at) (target bytes at) e is
      (λ none some r. let o = can_open bytes table old (record { at = at; type = T }) (Form.list U) [] f r in none_there o.opens.nodes (subst (λ t. IsRing bytes t o.opens.nodes) none o.opens.ring) (omega (
        arith,
        some,
        o.opens.counted,
      )))
      (λ p some none r. let ring = ring_of p some r in let counted = ring.counted in absurd (omega arith))
    where
      none_there : (nodes : List ℕ) → IsRing bytes None nodes → 1 ≤ length nodes → ⊥
      none_there [] ring many = absurd (omega arith)
      none_there (x ∷ xs) ring many = absurd ring

  pub ring_counted_lack : (e : ContentFault) → LiesAt bytes table (record { at = at; type = T }) → blocks_counted_by at (target bytes at) (count_at bytes at) ≡ Err e → LacksAt bytes table e
  ring_counted_lack e lies is = blocks_lack bytes table at (count_at bytes at) (target bytes at) e is
      (null_lacks bytes table at T tag each (Form.list U) lies f (refl, refl))
      (λ p names none. in_cell T (Form.list U) lies f (record {
        names = λ null. absurd (let no : None ≡ Some p = sym null ∙ names in cc);
        none = λ nodes ring counted. none_there p nodes (subst (λ o. IsRing bytes o nodes) names ring) (counted ∙ none);
      }))
    where
      none_there : (p : ℕ) (nodes : List ℕ) → IsRing bytes (Some p) nodes → length nodes ≡ 0 → ⊥
      none_there p [] ring many = absurd ring
      none_there p (x ∷ xs) ring many = absurd (omega arith)

  last_there : (x : ℕ) (xs : List ℕ) (last : ℕ) → Chain bytes x xs last → AreNodes bytes tag each (x ∷ xs) → IsBlock bytes last tag each × (1 ≤ times (block_of last) (map block_of (x ∷ xs)))
  last_there x [] last c are = (subst (λ p. IsBlock bytes p tag each) c are.0, subst (λ p. 1 ≤ times (block_of p) (block_of x ∷ [])) c (omega (arith, times-same (block_of x) [])))
  last_there x (y ∷ ys) last c are =
      let rest = last_there y ys last c.1 are.1 in
      (rest.0, omega (arith, rest.1, times-more (block_of last) (block_of x) (map block_of (y ∷ ys))))

  -- the last node that was claimed
  pub last_link : (now : Known) (first last n : ℕ) (b : Bool) → Walked now first last n b → IsLinkAt bytes tag each at last
  last_link now first last n b w =
      let is = last_there first w.nodes last w.chain w.claimed.are_nodes in
      let h = block_of last in
      of_node (record { is_block = is.0; among = omega (arith, is.1, w.claimed.claims.claimed h, times-append h (map block_of (first ∷ w.nodes)) now.unclaimed, ready.standing h) })

  -- the first node can't be claimed
  pub first_lacks : (bs : List ℕ) (word size : ℕ) → bs ≡ bytes → word ≡ tag → size ≡ each → LiesAt bytes table (record { at = at; type = T }) → (e : ContentFault) → RefusesClaim bs old at word (1 * size) e → LacksAt bytes table e
  first_lacks bs word size e t s lies fault r =
      let room : 1 * size ≡ each = (let one : 1 * size ≡ size = omega arith in one) ∙ s in
      value_lacks bytes table old ready at T tag each (Form.list U) fault lies f (refl, refl) (refuses_as bs bytes old at word tag (1 * size) each fault e t room r)

  -- a node can't be claimed
  pub node_lacks : (bs : List ℕ) (word size : ℕ) → bs ≡ bytes → word ≡ tag → size ≡ each → (known : Known) → IsReady bytes table known
      → LiesAt bytes table (record { at = at; type = T }) → (pointer : ℕ) → IsLinkAt bytes tag each at pointer → (e : ContentFault)
      → RefusesClaim bs known pointer word (1 * size) e → LacksAt bytes table e
  node_lacks bs word size e t s known is lies pointer link fault r =
      let room : 1 * size ≡ each = (let one : 1 * size ≡ size = omega arith in one) ∙ s in
      link_lacks bytes table known is at pointer T tag each (Form.list U) fault lies f tt (refl, refl) link (refuses_as bs bytes known pointer word tag (1 * size) each fault e t room r)

  pub ring_lacks : (now : Known) (first last n : ℕ) (b : Bool) → Walked now first last n b → LiesAt bytes table (record { at = at; type = T }) → target bytes at ≡ Some first → n ≡ count_at bytes at
      → ((b ≡ true) × (target bytes last ≡ Some first) × (target bytes (first + 4) ≡ Some last) → ⊥) → LacksValueAt bytes table at
  ring_lacks now first last n b w lies named n_is never = in_cell T (Form.list U) lies f (record {
    names = λ null. absurd (let no : None ≡ Some first = sym null ∙ named in cc);
    none = λ nodes ring counted. never (closed nodes (subst (λ o. IsRing bytes o nodes) named ring) counted);
  })
    where
      closed : (nodes : List ℕ) → IsRing bytes (Some first) nodes → length nodes ≡ count_at bytes at → (b ≡ true) × (target bytes last ≡ Some first) × (target bytes (first + 4) ≡ Some last)
      closed [] ring counted = absurd ring
      closed (x ∷ xs) ring counted =
          let was = w.counted in
          let linked = subst (λ y. IsLinked bytes first y xs) ring.0 ring.1 in
          let same = linked_chain bytes first first xs w.nodes last linked w.chain (omega arith) in
          let links = subst (λ ys. IsLinked bytes first first ys) same linked in
          let close = linked_close bytes first first w.nodes last links w.chain in
          (w.linked.1 (linked_backs bytes first first w.nodes links), close.0, close.1)

  pub ring_closed : (now : Known) (first last n : ℕ) (b : Bool) → Walked now first last n b → target bytes at ≡ Some first → n ≡ count_at bytes at → CanResolve bytes table old (record { at = at; type = T } ∷ [])
      → (b ≡ true) × (target bytes last ≡ Some first) × (target bytes (first + 4) ≡ Some last)
  ring_closed now first last n b w named n_is r =
      let ring = ring_of first named r in
      let counted = ring.counted in
      let was = w.counted in
      let same = linked_chain bytes first first ring.nodes w.nodes last ring.linked w.chain (omega arith) in
      let linked = subst (λ xs. IsLinked bytes first first xs) same ring.linked in
      let close = linked_close bytes first first w.nodes last linked w.chain in
      (w.linked.1 (linked_backs bytes first first w.nodes linked), close.0, close.1)

  pub next_can : (now : Known) (first last n : ℕ) (b : Bool) → Walked now first last n b → target bytes at ≡ Some first → n < count_at bytes at → CanResolve bytes table old (record { at = at; type = T } ∷ [])
      → CanClaim bytes now last tag (1 * each)
  next_can now first last n b w named less r =
      let ring = ring_of first named r in
      let counted = ring.counted in
      let was = w.counted in
      let next = linked_next bytes first first ring.nodes w.nodes last ring.linked w.chain (omega arith) in
      let h = block_of next.node in
      let all : map block_of (first ∷ ring.nodes) ≡ map block_of (first ∷ w.nodes) ++ map block_of (next.node ∷ next.rest) = ap (λ xs. map block_of (first ∷ xs)) next.parts
      ∙ map-append block_of (first ∷ w.nodes) (next.node ∷ next.rest) in
      let counts : times h (map block_of (first ∷ ring.nodes)) ≡ times h (map block_of (first ∷ w.nodes)) + times h (map block_of (next.node ∷ next.rest)) = ap (times h) all
      ∙ times-append h (map block_of (first ∷ w.nodes)) (map block_of (next.node ∷ next.rest)) in
      let one = times-same h (map block_of next.rest) in
      let within = ring.within h in
      let claimed = w.claimed.claims.claimed h in
      let split = times-append h (map block_of (first ∷ w.nodes)) now.unclaimed in
      let nodes = subst (λ xs. AreNodes bytes tag each (first ∷ xs)) next.parts ring.are_nodes in
      record {
        start = next.node;
        names = next.named;
        is_block = subst (λ m. IsBlock bytes next.node tag m) (sym (one_node bytes table old ready T 8 U)) (node_in (first ∷ w.nodes) next.node next.rest nodes);
        unclaimed = omega arith;
      }
    where
      node_in : (ps : List ℕ) (p : ℕ) (qs : List ℕ) → AreNodes bytes tag each (ps ++ p ∷ qs) → IsBlock bytes p tag each
      node_in [] p qs a = a.0
      node_in (x ∷ ps) p qs a = node_in ps p qs a.1

  -- ---- the claims of the program

  pub owner_claimed : (bs : List ℕ) (word size : ℕ) (b : Bool) → bs ≡ bytes → word ≡ tag → size ≡ each → b ≡ has → (mid new : Known) (pointer p : ℕ)
      → ClaimsBlock bs mid new pointer word (1 * size) (turns_where b p 1) p → ClaimsBlock bytes mid new pointer tag (1 * each) (turns_where has p 1) p
  owner_claimed bs word size b e t s h mid new pointer p c =
      subst (λ x. ClaimsBlock bytes mid new pointer tag (1 * each) (turns_where x p 1) p) h
      (subst (λ x. ClaimsBlock bytes mid new pointer tag (1 * x) (turns_where b p 1) p) s
      (subst (λ x. ClaimsBlock bytes mid new pointer x (1 * size) (turns_where b p 1) p) t
      (subst (λ x. ClaimsBlock x mid new pointer word (1 * size) (turns_where b p 1) p) e c)))

  pub owner_can : (bs : List ℕ) (word size : ℕ) → bs ≡ bytes → word ≡ tag → size ≡ each → (mid : Known) (pointer : ℕ) → CanClaim bytes mid pointer tag (1 * each) → CanClaim bs mid pointer word (1 * size)
  owner_can bs word size e t s mid pointer c =
      subst (λ x. CanClaim x mid pointer word (1 * size)) (sym e) (subst (λ x. CanClaim bytes mid pointer x (1 * size)) (sym t) (subst (λ x. CanClaim bytes mid pointer tag (1 * x)) (sym s) c))

  node_low : (p : ℕ) → IsBlock bytes p tag each → 1 ≤ times (block_of p) old.unclaimed → p + 4 < 2 ^ 32
  node_low p b some = omega (arith, node_room bytes table old ready T 8 U p b some)

  pub first_low : (now : Known) (first last n : ℕ) (b : Bool) → Walked now first last n b → first + 4 < 2 ^ 32
  first_low now first last n b w = node_low first w.claimed.are_nodes.0
      (omega (arith, w.claimed.claims.claimed (block_of first), times-append (block_of first) (map block_of (first ∷ w.nodes)) now.unclaimed, times-same (block_of first) (map block_of w.nodes)))

  pub next_low : (mid new : Known) (first last next n : ℕ) (b : Bool) → Walked mid first last n b → ClaimsBlock bytes mid new last tag (1 * each) (turns_where has next 1) next → next + 4 < 2 ^ 32
  next_low mid new first last next n b w k =
      node_low next (subst (λ m. IsBlock bytes next tag m) (one_node bytes table old ready T 8 U) k.is_block)
      (let gone = claimed_within bytes table old ready T 8 U mid (first ∷ w.nodes) w.claimed in omega (arith, gone (block_of next), k.claims.claimed (block_of next), times-same (block_of next) new.unclaimed))
