-- Pointers that don't point to the block that they must point to, and blocks with several owners.
use Rattle.std.proofs.Common.{◌≡◌, ℕ, inl, List, length, Some, None, sym, ◌∙◌, subst, arith}
use Rattle.seg_spec.specs.Bytes.{word}
use Rattle.seg_spec.specs.Header.{allocator_word}
use Rattle.seg_spec.specs.Heap.{heap_start, live}
use Rattle.seg_spec.specs.Block.{block_of}
use Rattle.seg_spec.specs.Pointer.{target}
use Rattle.seg_spec.specs.Types.{Form, Table, form_at}
use Rattle.seg_spec.specs.Reads.{count_at}
use Rattle.seg_spec.specs.Sound.{positions}
use Rattle.seg_spec.proofs.Heap.LiveBlockLaws.{LiesIn, live-lie, there}
use Rattle.seg_check.specs.declared.fault.ContentFault.{ContentFault}
use Rattle.seg_check.specs.declared.fault.ContentFault.TheVariants.{Memory, BadIndex, BadPointer, DoubleOwner, BadValue}
use Rattle.seg_check.specs.Claiming.{HaveLiveHeaders, PointsAmong, RefusesClaim}
use Rattle.seg_check.specs.Marks.{Known}
use Rattle.seg_check.specs.Turns.{LiesAt}
use Rattle.seg_check.specs.Positions.{PointsTo, IsLinkAt, IsBlockFor, HasNodes, MustPointTo, MayPointTo, in_value, in_node, LacksBlockAt, lacks_block, LacksAt}
use Rattle.seg_check.specs.Resolving.{IsReady}

-- a null pointer points to no block
pub null_points : (bytes : List ℕ) (pointer tag room : ℕ) → target bytes pointer ≡ None → PointsTo bytes pointer tag room → ⊥
null_points bytes pointer tag room null points = absurd (let no : None ≡ Some points.start = sym null ∙ points.names in cc)

-- a value's pointer that is null
pub null_lacks : (bytes : List ℕ) (table : Table) (at T tag room : ℕ) (form : Form) → LiesAt bytes table (record { at = at; type = T })
    → form_at table T ≡ Some form → IsBlockFor table T form (count_at bytes at) tag room → target bytes at ≡ None → LacksBlockAt bytes table at
null_lacks bytes table at T tag room form lies f is null = lacks_block tag room (in_value T form lies f is) (null_points bytes at tag room null)

-- the same claim, in other words
pub refuses_as : (bs bytes : List ℕ) (known : Known) (pointer word tag size room : ℕ) (e : ContentFault) → bs ≡ bytes → word ≡ tag → size ≡ room → RefusesClaim bs known pointer word size e → RefusesClaim bytes known pointer tag room e
refuses_as bs bytes known pointer word tag size room e b t s r =
    subst (λ x. RefusesClaim bytes known pointer tag x e) s (subst (λ x. RefusesClaim bytes known pointer x size e) t (subst (λ x. RefusesClaim x known pointer word size e) b r))

module _ (bytes : List ℕ) (table : Table) (known : Known) (ready : IsReady bytes table known) where
  -- the allocated blocks lie in the heap
  pub ready_allocated : HaveLiveHeaders bytes known.allocated
  ready_allocated h some =
      let lies = there (LiesIn bytes heap_start (length bytes)) h (positions (live bytes)) (live-lie bytes (word bytes allocator_word) ready.heap) (omega (arith, some, ready.allocated h)) in
      record { live = lies.live_is; size = lies.size; inside = lies.high }

  points_known : (pointer tag room : ℕ) → PointsTo bytes pointer tag room → PointsAmong bytes known.allocated pointer tag room
  points_known pointer tag room p = record { start = p.start; names = p.names; is_block = p.is_block; among = omega (arith, p.among, ready.allocated (block_of p.start)) }

  points_known_back : (pointer tag room : ℕ) → PointsAmong bytes known.allocated pointer tag room → PointsTo bytes pointer tag room
  points_known_back pointer tag room p = record { start = p.start; names = p.names; is_block = p.is_block; among = omega (arith, p.among, ready.allocated (block_of p.start)) }

  -- a claim that was refused
  pub claim_lacks : (pointer tag room : ℕ) (e : ContentFault) → MayPointTo bytes table pointer tag room → RefusesClaim bytes known pointer tag room e
      → ((PointsTo bytes pointer tag room → ⊥) → LacksBlockAt bytes table pointer) → LacksAt bytes table e
  unfolding points_known_back
  claim_lacks pointer tag room Memory may r lacks = tt
  claim_lacks pointer tag room (BadIndex at) may r lacks = absurd r
  claim_lacks pointer tag room (BadPointer at) may r lacks = subst (LacksBlockAt bytes table) (sym r.0) (lacks (λ p. r.1 (points_known pointer tag room p)))
  claim_lacks pointer tag room (DoubleOwner at) may r lacks = record { pointer = pointer; tag = tag; room = room; may = may; points = points_known_back pointer tag room r.0; at_is = r.1 }
  claim_lacks pointer tag room (BadValue at) may r lacks = absurd r

  pub must_lack : (pointer tag room : ℕ) (e : ContentFault) → MustPointTo bytes table pointer tag room → RefusesClaim bytes known pointer tag room e → LacksAt bytes table e
  must_lack pointer tag room e must r = claim_lacks pointer tag room e (inl must) r (lacks_block tag room must)

  -- a claim of a value's pointer that was refused
  pub value_lacks : (pointer T tag room : ℕ) (form : Form) (e : ContentFault) → LiesAt bytes table (record { at = pointer; type = T }) → form_at table T ≡ Some form → IsBlockFor table T form (count_at bytes pointer) tag room
      → RefusesClaim bytes known pointer tag room e → LacksAt bytes table e
  value_lacks pointer T tag room form e lies f is r = must_lack pointer tag room e (in_value T form lies f is) r

  -- a claim of a node's pointer that was refused
  pub link_lacks : (cell pointer T tag room : ℕ) (form : Form) (e : ContentFault) → LiesAt bytes table (record { at = cell; type = T }) → form_at table T ≡ Some form → HasNodes form → IsBlockFor table T form (count_at bytes cell) tag room
      → IsLinkAt bytes tag room cell pointer → RefusesClaim bytes known pointer tag room e → LacksAt bytes table e
  link_lacks cell pointer T tag room form e lies f has is link r = must_lack pointer tag room e (in_node cell T form lies f has is link) r
