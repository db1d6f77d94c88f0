-- Nodes that are claimed one after the other, each with a value that may be put in the queue.
use Rattle.std.proofs.Common.{◌≡◌, ℕ, ◌+◌, ◌*◌, ◌^◌, ◌<◌, ◌≤◌, Bool, true, false, List, [], ◌∷◌, ◌++◌, length, map, Some, refl, sym, ap, ◌∙◌, subst, arith}
use Rattle.std.proofs.lemmas.List.{append-nil, append_assoc, map-append}
use Rattle.std.specs.List.{AllByRecursion}
use Rattle.seg_spec.specs.Types.{Form, Table, form_at, size}
use Rattle.seg_spec.specs.Block.{Kind, tag_of, block_of, payload_end, IsBlock}
use Rattle.seg_spec.specs.Owing.{entries_at}
use Rattle.seg_spec.specs.Reads.{Place, AreNodes, places_of}
use Rattle.seg_spec.specs.Sound.{times}
use Rattle.seg_spec.proofs.Heap.LiveBlockLaws.{times-same, times-append, times-more}
use Rattle.seg_layout.specs.Forms.{has_cells}
use Rattle.seg_check.specs.declared.marks.Turn.{Turn}
use Rattle.seg_check.specs.Claiming.{HaveLiveHeaders, ClaimsBlock, turns_where}
use Rattle.seg_check.specs.Marks.{Known, ClaimsAll, Within, awaiting}
use Rattle.seg_check.specs.Naming.{IsFrozen}
use Rattle.seg_check.specs.Turns.{IsReachedBlock, EndsBy, AreKnown, AreTurns, AreOthers, IsTurn, places_in, places_by, waiting, with_cells}
use Rattle.seg_check.specs.Resolving.{IsReady}
use Rattle.seg_check.proofs.Blocks.FrozenClaimLaws.{other_block, finds_claimed}
use Rattle.seg_check.proofs.Queue.QueueStepLaws.{waiting-append, turns_both, ready_found}
use Rattle.seg_check.proofs.Heap.TagLaws.{places_tagged}
use Rattle.seg_check.proofs.Blocks.CellClaimLaws.{one_type}

pub turns_of : Bool → List ℕ → List Turn
turns_of b [] = []
turns_of b (p ∷ ps) = turns_where b p 1 ++ turns_of b ps

turns_more : (b : Bool) (ps : List ℕ) (p : ℕ) → turns_of b (ps ++ p ∷ []) ≡ turns_of b ps ++ turns_where b p 1
unfolding turns_of
turns_more b [] p = append-nil (turns_where b p 1)
turns_more b (q ∷ ps) p = ap (λ ts. turns_where b q 1 ++ ts) (turns_more b ps p) ∙ sym (append_assoc (turns_where b q 1) (turns_of b ps) (turns_where b p 1))

both_claimed : (h : ℕ) (u v w bs cs : List ℕ) → times h u ≡ times h (bs ++ v) → times h v ≡ times h (cs ++ w) → times h u ≡ times h ((bs ++ cs) ++ w)
both_claimed h u v w bs cs e f =
    let i = times-append h bs v in
    let j = times-append h cs w in
    let k = times-append h (bs ++ cs) w in
    let l = times-append h bs cs in
    omega arith

pub claims_both : (old mid new : Known) (bs cs : List ℕ) (ts us : List Turn) → ClaimsAll old mid bs ts → ClaimsAll mid new cs us → ClaimsAll old new (bs ++ cs) (ts ++ us)
claims_both old mid new bs cs ts us a b = record {
  claimed = (λ h. both_claimed h old.unclaimed mid.unclaimed new.unclaimed bs cs (a.claimed h) (b.claimed h));
  allocated_kept = (λ h. b.allocated_kept h ∙ a.allocated_kept h);
  counted = (λ c. b.counted (a.counted c));
  turns_are = b.turns_are ∙ (λ i. a.turns_are i ++ awaiting (a.naming_kept i).below us) ∙ append_assoc old.turns (awaiting old.naming.below ts) (awaiting old.naming.below us)
      ∙ ap (λ ws. old.turns ++ ws) (sym (map-append (λ (t : Turn). record { turn = t; below = old.naming.below }) ts us));
  naming_kept = b.naming_kept ∙ a.naming_kept;
}

pub nodes_both : (bytes : List ℕ) (tag each : ℕ) (ps qs : List ℕ) → AreNodes bytes tag each ps → AreNodes bytes tag each qs → AreNodes bytes tag each (ps ++ qs)
nodes_both bytes tag each [] qs a b = b
nodes_both bytes tag each (p ∷ ps) qs a b = (a.0, nodes_both bytes tag each ps qs a.1 b)

-- the nodes of one type, each with a value of another type after `before` bytes
module _ (bytes : List ℕ) (table : Table) (old : Known) (ready : IsReady bytes table old) (T before U : ℕ) where
  abbrev pub node_tag : ℕ
  node_tag = tag_of Kind.node T

  abbrev pub node_size : ℕ
  node_size = before + size table U

  abbrev has : Bool
  has = has_cells (form_at table U)

  -- these nodes were claimed
  pub record Claimed (now : Known) (nodes : List ℕ) : Type 0 where
    pub are_nodes : AreNodes bytes node_tag node_size nodes
    pub claims : ClaimsAll old now (map block_of nodes) (turns_of has nodes)

  pub one_node : 1 * node_size ≡ node_size
  one_node = omega arith

  pub claimed_none : Claimed old []
  unfolding turns_of
  claimed_none = record { are_nodes = tt; claims = record { claimed = (λ h. refl); allocated_kept = (λ h. refl); counted = (λ c. c); turns_are = sym (append-nil old.turns); naming_kept = refl } }

  pub claimed_more : (mid new : Known) (nodes : List ℕ) (pointer next : ℕ) → Claimed mid nodes → ClaimsBlock bytes mid new pointer node_tag (1 * node_size) (turns_where has next 1) next → Claimed new (nodes ++ next ∷ [])
  claimed_more mid new nodes pointer next c k = record {
    are_nodes = nodes_both bytes node_tag node_size nodes (next ∷ []) c.are_nodes (subst (λ m. IsBlock bytes next node_tag m) one_node k.is_block, tt);
    claims = subst (λ ts. ClaimsAll old new (map block_of (nodes ++ next ∷ [])) ts) (sym (turns_more has nodes next))
        (subst (λ bs. ClaimsAll old new bs (turns_of has nodes ++ turns_where has next 1)) (sym (map-append block_of nodes (next ∷ [])))
        (claims_both old mid new (map block_of nodes) (block_of next ∷ []) (turns_of has nodes) (turns_where has next 1) c.claims k.claims));
  }

  -- no node is a frozen object
  pub nodes_others : (b : Bool) (nodes : List ℕ) → AreNodes bytes node_tag node_size nodes → AreOthers bytes (turns_of b nodes)
  unfolding turns_of
  nodes_others b [] a = tt
  nodes_others true (p ∷ ps) a = (other_block bytes p node_tag node_size (λ e. absurd (omega (arith, e))) a.0, nodes_others true ps a.1)
  nodes_others false (p ∷ ps) a = nodes_others false ps a.1

  -- claiming nodes adds no unclaimed block
  pub claimed_within : (now : Known) (nodes : List ℕ) → Claimed now nodes → Within now.unclaimed old.unclaimed
  claimed_within now nodes c h = omega (arith, c.claims.claimed h, times-append h (map block_of nodes) now.unclaimed)

  pub claimed_live : (now : Known) (nodes : List ℕ) → Claimed now nodes → HaveLiveHeaders bytes now.unclaimed
  claimed_live now nodes c h some = (ready.blocks h (omega (arith, claimed_within now nodes c h))).0

  -- no node's block is a frozen object
  blocks_others : (nodes : List ℕ) → AreNodes bytes node_tag node_size nodes → AllByRecursion (λ b. IsFrozen bytes b → ⊥) (map block_of nodes)
  blocks_others [] a = tt
  blocks_others (p ∷ ps) a = (other_block bytes p node_tag node_size (λ e. absurd (omega (arith, e))) a.0, blocks_others ps a.1)

  pub claimed_ready : (now : Known) (nodes : List ℕ) → Claimed now nodes → IsReady bytes table now
  claimed_ready now nodes c =
      ready_found bytes table old now [] ready (claimed_within now nodes c)
      (finds_claimed bytes old now (map block_of nodes) (turns_of has nodes) c.claims (blocks_others nodes c.are_nodes) (nodes_others has nodes c.are_nodes))

  pub nodes_within : (now : Known) (nodes : List ℕ) → Claimed now nodes → Within (map block_of nodes) old.unclaimed
  nodes_within now nodes c h = omega (arith, c.claims.claimed h, times-append h (map block_of nodes) now.unclaimed)

  -- a node ends in the segment
  pub node_room : (p : ℕ) → IsBlock bytes p node_tag node_size → 1 ≤ times (block_of p) old.unclaimed → p + node_size ≤ 2 ^ 30
  node_room p b some =
      let block = ready.blocks (block_of p) some in
      let large = block.0.size in
      let inside = block.0.inside in
      let high = b.after_header in
      let room = b.room in
      let small = ready.small in
      omega arith

  -- ---- the values of the nodes

  abbrev pub values_of : List ℕ → List Place
  values_of nodes = places_of U (map (λ p. p + before) nodes)

  pub within_rest : (p : ℕ) (ps : List ℕ) → Within (map block_of (p ∷ ps)) old.unclaimed → Within (map block_of ps) old.unclaimed
  within_rest p ps w h = omega (arith, w h, times-more h (block_of p) (map block_of ps))

  cells_more : (p : ℕ) (ps : List ℕ) → with_cells table (values_of (p ∷ ps)) ≡ with_cells table (record { at = p + before; type = U } ∷ []) ++ with_cells table (values_of ps)
  cells_more p ps = go has refl
    where
      go : (b : Bool) → has ≡ b → with_cells table (values_of (p ∷ ps)) ≡ with_cells table (record { at = p + before; type = U } ∷ []) ++ with_cells table (values_of ps)
      go true e = one_type table U true (map (λ q. q + before) (p ∷ ps)) e ∙ sym (λ i. one_type table U true ((p + before) ∷ []) e i ++ one_type table U true (map (λ q. q + before) ps) e i)
      go false e = one_type table U false (map (λ q. q + before) (p ∷ ps)) e ∙ sym (λ i. one_type table U false ((p + before) ∷ []) e i ++ one_type table U false (map (λ q. q + before) ps) e i)

  pub values_known : U < length table → (ps : List ℕ) → AreKnown table (values_of ps)
  values_known l [] = tt
  values_known l (p ∷ ps) = (l, values_known l ps)

  module _ (form : Form) (f : form_at table T ≡ Some form) (by : (p : ℕ) → places_by table (Some form) p 1 ≡ entries_at table p before U 1) where
    node_places : (p : ℕ) → IsBlock bytes p node_tag node_size → places_in bytes table (record { start = p; count = 1 }) ≡ entries_at table p before U 1
    node_places p b = places_tagged bytes table ready.is_table (record { start = p; count = 1 }) Kind.node T b.has_tag ∙ ap (λ o. places_by table o p 1) f ∙ by p

    node_turn : (p : ℕ) → IsReachedBlock bytes table (block_of p) → IsBlock bytes p node_tag node_size → 1 ≤ times (block_of p) old.unclaimed → IsTurn bytes table (record { start = p; count = 1 })
    node_turn p reached b some =
        let room = node_room p b some in
        let low : p + before ≤ 2 ^ 30 = omega arith in
        let large = (ready.blocks (block_of p) some).0.size in
        let high = b.after_header in
        let inside = b.room in
        let ends : p + before + size table U ≤ payload_end bytes (block_of p) = omega arith in
        record {
          reached = reached;
          fits = subst (AllByRecursion (EndsBy table (payload_end bytes (block_of p)))) (sym (node_places p b)) (ends, tt);
          low = subst (λ ps. AllByRecursion (λ (q : Place). q.at ≤ 2 ^ 30) ps) (sym (node_places p b)) (low, tt);
          ownable = (ready.blocks (block_of p) some).1;
        }

    node_waits : (b : Bool) → has ≡ b → (p : ℕ) → IsReachedBlock bytes table (block_of p) → IsBlock bytes p node_tag node_size → 1 ≤ times (block_of p) old.unclaimed
        → AreTurns bytes table (turns_where b p 1) × (waiting bytes table (turns_where b p 1) ≡ with_cells table (record { at = p + before; type = U } ∷ []))
    node_waits false e p reached b some = (tt, sym (one_type table U false ((p + before) ∷ []) e))
    node_waits true e p reached b some =
        ((node_turn p reached b some, tt), append-nil (places_in bytes table (record { start = p; count = 1 })) ∙ node_places p b ∙ sym (one_type table U true ((p + before) ∷ []) e))

    nodes_wait : (ps : List ℕ) → ((h : ℕ) → 1 ≤ times h (map block_of ps) → IsReachedBlock bytes table h) → AreNodes bytes node_tag node_size ps
        → Within (map block_of ps) old.unclaimed
        → AreTurns bytes table (turns_of has ps) × (waiting bytes table (turns_of has ps) ≡ with_cells table (values_of ps))
    unfolding turns_of
    nodes_wait [] reached a w = (tt, refl)
    nodes_wait (p ∷ ps) reached a w =
        let some : 1 ≤ times (block_of p) old.unclaimed = omega (arith, w (block_of p), times-same (block_of p) (map block_of ps)) in
        let one = node_waits has refl p (reached (block_of p) (omega (arith, times-same (block_of p) (map block_of ps)))) a.0 some in
        let rest = nodes_wait ps (λ h there. reached h (omega (arith, there, times-more h (block_of p) (map block_of ps)))) a.1 (within_rest p ps w) in (
          turns_both bytes table (turns_where has p 1) (turns_of has ps) one.0 rest.0,
          waiting-append bytes table (turns_where has p 1) (turns_of has ps) ∙ (λ i. one.1 i ++ rest.1 i) ∙ sym (cells_more p ps),
        )

    -- the values of the claimed nodes are in the queue, if they may have pointers
    pub claimed_wait : (now : Known) (nodes : List ℕ) → ((h : ℕ) → 1 ≤ times h (map block_of nodes) → IsReachedBlock bytes table h)
        → Claimed now nodes → AreTurns bytes table (turns_of has nodes) × (waiting bytes table (turns_of has nodes) ≡ with_cells table (values_of nodes))
    claimed_wait now nodes reached c = nodes_wait nodes reached c.are_nodes (nodes_within now nodes c)
