use Rattle.std.proofs.Common.{length, inr, ◌<◌, ◌≤◌, refl, ◌≡◌, ℕ, ◌+◌, ◌*◌, ◌++◌, [], List, Option, None, Some, Result, Ok, Err, sym, ap, ◌∙◌, subst, arith}
use Rattle.std.specs.Prelude.{IfErr, OnOk}
use Rattle.std.proofs.lemmas.List.{append-nil}
use Rattle.std.proofs.lemmas.Result.{err_from_is_err_and}
use Rattle.seg_spec.specs.Types.{Table, form_at, size}
use Rattle.seg_layout.specs.Forms.{has_cells}
use Rattle.seg_spec.specs.Pointer.{target}
use Rattle.seg_spec.specs.Block.{Kind, tag_of}
use Rattle.seg_cells.specs.Names.{type_of}
use Rattle.seg_cells.proofs.NamedTags.{is_named, in_block}
use Rattle.seg_block.specs.declared.tag.Tag.{Tag}
use Rattle.seg_block.specs.Tags.{word_of, kind_of}
use Rattle.seg_check.specs.declared.fault.ContentFault.{ContentFault}
use Rattle.seg_check.specs.declared.fault.ContentFault.TheVariants.{Memory}
use Rattle.seg_check.specs.declared.marks.Turn.{Turn}
use Rattle.seg_check.specs.Claiming.{Refutes, HaveLiveHeaders, CanClaim, ClaimsBlock, turns_where}
use Rattle.seg_spec.specs.Bytes.{half, byte}
use Rattle.seg_check.specs.Positions.{PointsTo, lacks_object, LacksAt}
use Rattle.seg_check.proofs.Blocks.LackingBlockLaws.{ready_allocated, refuses_as, claim_lacks}
use Rattle.seg_check.specs.Marks.{Known, awaiting}
use Rattle.seg_check.specs.Resolving.{IsReady}
use Rattle.seg_check.specs.Roots.{ClaimsNamed, CanClaimNamed}
use Rattle.seg_check.proofs.Blocks.CellClaimLaws.{ready_live}
use Rattle.seg_check.proofs.Queue.QueueStepLaws.{refuses_map}
use Rattle.seg_check.proofs.image.TypedImage.claim_named.Goals as goal

-- if an entry's object can be claimed, its type is in the table
type_claimed : (bytes : List ℕ) (table : Table) (known : Known) (at n len : ℕ) (object : Option ℕ) → IsReady bytes table known → object ≡ target bytes at → (can : CanClaimNamed bytes table known at n len)
    → type_of bytes object ≡ Some can.type
type_claimed bytes table known at n len object ready is can =
    let few = ready.is_table.few in
    let less = can.type_known in
    ap (type_of bytes) (is ∙ can.can.names) ∙ in_block bytes can.can.start can.can.is_block.after_header ∙ is_named _ can.type (can.can.is_block.has_tag ∙ omega arith) (omega arith)

-- if an entry's pointer points to a named object, the object's block has its type
type_pointed : (bytes : List ℕ) (table : Table) (at T room : ℕ) (object : Option ℕ) → length table ≤ 32 → object ≡ target bytes at → T < length table → PointsTo bytes at (tag_of Kind.named T) room → type_of bytes object ≡ Some T
type_pointed bytes table at T room object few is less p =
    ap (type_of bytes) (is ∙ p.names) ∙ in_block bytes p.start p.is_block.after_header ∙ is_named _ T (p.is_block.has_tag ∙ omega arith) (omega arith)

-- the block was claimed, and then its values were put in the queue
claims_waiting : (bytes : List ℕ) (old mid : Known) (at tag room start : ℕ) (turns : List Turn) → ClaimsBlock bytes old mid at tag room [] start
    → ClaimsBlock bytes old (record mid { turns = mid.turns ++ awaiting mid.naming.below turns }) at tag room turns start
claims_waiting bytes old mid at tag room start turns c =
    let a = c.claims in
    record {
      names = c.names;
      is_block = c.is_block;
      claims = record {
        claimed = a.claimed;
        allocated_kept = a.allocated_kept;
        counted = λ i. record { unclaimed = (a.counted i).unclaimed; free = (a.counted i).free };
        turns_are = ap (λ ts. ts ++ awaiting mid.naming.below turns) (a.turns_are ∙ append-nil old.turns) ∙ ap (λ n. old.turns ++ awaiting n.below turns) a.naming_kept;
        naming_kept = a.naming_kept;
      };
    }

tag_named : (tag : Tag) (T : ℕ) → kind_of tag.kind ≡ Kind.named → tag.type_id ≡ T → word_of tag ≡ tag_of Kind.named T
tag_named tag T kind type = ap (λ k. tag_of k tag.type_id) kind ∙ ap (tag_of Kind.named) type

module _ (bytes : List ℕ) (table : Table) (old : Known) (at n len T tag room : ℕ) (tag_is : tag ≡ tag_of Kind.named T) (room_is : room ≡ n * size table T + len) (ready : IsReady bytes table old) where
  live : HaveLiveHeaders bytes old.unclaimed
  live = ready_live bytes table old ready

  named_claimed : {A : Type 0} (mid new : Known) (start k : ℕ) → k ≡ n → (result : Result A ContentFault) → (HaveLiveHeaders bytes old.unclaimed → ClaimsBlock bytes old mid at tag room [] start)
      → OnOk result (new ≡ record mid { turns = mid.turns ++ awaiting mid.naming.below (turns_where (has_cells (form_at table T)) start k) }) → OnOk result (ClaimsNamed bytes table old new at n len)
  named_claimed mid new start k same (Ok x) c waits =
      let turns = turns_where (has_cells (form_at table T)) start in
      let typed = subst (λ t. ClaimsBlock bytes old mid at t room [] start) tag_is (c live) in
      let sized = subst (λ m. ClaimsBlock bytes old mid at (tag_of Kind.named T) m [] start) room_is typed in
      let all = claims_waiting bytes old mid at (tag_of Kind.named T) (n * size table T + len) start (turns k) sized in
      record {
        type = T;
        start = start;
        claims = subst (λ m. ClaimsBlock bytes old new at (tag_of Kind.named T) (n * size table T + len) (turns m) start) same
            (subst (λ x. ClaimsBlock bytes old x at (tag_of Kind.named T) (n * size table T + len) (turns k) start) (sym waits) all);
      }
  named_claimed mid new start k same (Err f) c waits = tt

  named_refused : {A : Type 0} (object : Option ℕ) → object ≡ target bytes at → type_of bytes object ≡ Some T → (e : ContentFault) (result : Result A ContentFault)
      → (HaveLiveHeaders bytes old.unclaimed → Refutes e (CanClaim bytes old at tag room)) → (x : ContentFault) × (result ≡ Err x) × (x ≡ e) → IfErr result (λ fault. Refutes fault (CanClaimNamed bytes table old at n len))
  named_refused object is some e result refused r =
      subst (λ x. IfErr x (λ fault. Refutes fault (CanClaimNamed bytes table old at n len))) (sym (r.1 ∙ ap Err r.2))
      (refuses_map e (CanClaim bytes old at tag room) (CanClaimNamed bytes table old at n len) (λ can.
      let both : Some can.type ≡ Some T = sym (type_claimed bytes table old at n len object ready is can) ∙ some in
      let type_is : can.type ≡ T = cc in
      let one = subst (λ t. CanClaim bytes old at (tag_of Kind.named t) (n * size table t + len)) type_is can.can in
      subst (λ t. CanClaim bytes old at t room) (sym tag_is) (subst (λ m. CanClaim bytes old at (tag_of Kind.named T) m) (sym room_is) one))
      (refused live))

memory_refuses : {A : Type 0} (P : Type 0) (result : Result A ContentFault) → IfErr result (λ f. f ≡ Memory) → IfErr result (λ f. Refutes f P)
memory_refuses P (Ok x) e = tt
memory_refuses P (Err f) e = subst (λ x. Refutes x P) (sym e) tt

pub returns-in_default-clause-refused : goal.returns-in_default-clause-refused
returns-in_default-clause-refused g c = λ ready is can.
    let some = type_claimed c.args.self.now.bytes.bytes.now c.args.self.now.types.now c.args.claims.now c.args.at c.args.entry.now.count c.args.entry.now.name_len c.args.entry.now.object ready is can in
    let both : None ≡ Some can.type = sym c.in_default.is ∙ c.type_in.ensures ∙ some in
    cc

pub returns-in_default-clause-lacks : goal.returns-in_default-clause-lacks
returns-in_default-clause-lacks g c = λ ready is counted measured listed.
    lacks_object listed (λ T less p.
    let some = type_pointed c.args.self.now.bytes.bytes.now c.args.self.now.types.now c.args.at T _ c.args.entry.now.object ready.is_table.few is less p in
    let both : None ≡ Some T = sym c.in_default.is ∙ c.type_in.ensures ∙ some in
    cc)

pub returns-in_err-start-clause-lacks : goal.returns-in_err-start-clause-lacks
returns-in_err-start-clause-lacks g c = λ ready is counted measured listed.
    let bytes = c.args.self.now.bytes.bytes.now in
    let table = c.args.self.now.types.now in
    let old = c.args.claims.now in
    let at = c.args.at in
    let n = c.args.entry.now.count in
    let T = c.in-Some.type_id in
    let tag_is = tag_named c.named_tag.result T (ap kind_of c.named_tag.ensures.kind) c.named_tag.ensures.type_id in
    let room_is = ap (λ l. l + c.from.result) (c.values_len.ensures.len ∙ ap (λ k. n * k) c.size.ensures.value) ∙ ap (λ l. n * size table T + l) c.from.ensures in
    let len_is : n * size table T + c.args.entry.now.name_len ≡ half bytes (at + 4) * size table T + byte bytes (at + 6) = λ i. counted i * size table T + measured i in
    let room = half bytes (at + 4) * size table T + byte bytes (at + 6) in
    let e = c.in_err-start.field-0.0 in
    let failed = err_from_is_err_and c.from_residual.result c.from_residual.ensures.1 in
    let same : failed.0 ≡ e = failed.2 in
    subst (λ x. IfErr x (LacksAt bytes table)) (sym (failed.1 ∙ ap Err same))
    (claim_lacks bytes table old ready at (tag_of Kind.named T) room e (inr (listed, T, refl, refl))
    (refuses_as bytes bytes old at (word_of c.named_tag.result) (tag_of Kind.named T) (c.values_len.result + c.from.result) room e refl tag_is (room_is ∙ len_is) (c.in_err-start.ensures.lacks (ready_allocated bytes table old ready)))
    (λ none. lacks_object listed (λ U less p.
    let both : Some T ≡ Some U = sym c.in-Some.is ∙ c.type_in.ensures ∙ type_pointed bytes table at U _ c.args.entry.now.object ready.is_table.few is less p in
    let type_is : U ≡ T = cc in
    none (subst (λ V. PointsTo bytes at (tag_of Kind.named V) (half bytes (at + 4) * size table V + byte bytes (at + 6))) type_is p))))

memory_lacks : {A : Type 0} (bytes : List ℕ) (table : Table) (result : Result A ContentFault) → IfErr result (λ f. f ≡ Memory) → IfErr result (LacksAt bytes table)
memory_lacks bytes table (Ok x) e = tt
memory_lacks bytes table (Err f) e = subst (LacksAt bytes table) (sym e) tt

pub returns-clause-lacks : goal.returns-clause-lacks
returns-clause-lacks g c = λ ready is counted measured listed.
    memory_lacks c.args.self.now.bytes.bytes.now c.args.self.now.types.now c.await_values.result c.await_values.ensures.refused

pub returns-in_err-start-clause-refused : goal.returns-in_err-start-clause-refused
returns-in_err-start-clause-refused g c = λ ready is.
    let bytes = c.args.self.now.bytes.bytes.now in
    let table = c.args.self.now.types.now in
    let n = c.args.entry.now.count in
    let T = c.in-Some.type_id in
    let tag_is = tag_named c.named_tag.result T (ap kind_of c.named_tag.ensures.kind) c.named_tag.ensures.type_id in
    let room_is = ap (λ l. l + c.from.result) (c.values_len.ensures.len ∙ ap (λ k. n * k) c.size.ensures.value) ∙ ap (λ l. n * size table T + l) c.from.ensures in
    named_refused bytes table c.args.claims.now c.args.at n c.args.entry.now.name_len T (word_of c.named_tag.result) (c.values_len.result + c.from.result) tag_is room_is
    ready c.args.entry.now.object is (sym c.type_in.ensures ∙ c.in-Some.is) c.in_err-start.field-0.0 c.from_residual.result c.in_err-start.ensures.refused (err_from_is_err_and c.from_residual.result c.from_residual.ensures.1)

pub returns-clause-claimed : goal.returns-clause-claimed
returns-clause-claimed g c = λ ready is.
    let bytes = c.args.self.now.bytes.bytes.now in
    let table = c.args.self.now.types.now in
    let n = c.args.entry.now.count in
    let T = c.in-Some.type_id in
    let tag_is = tag_named c.named_tag.result T (ap kind_of c.named_tag.ensures.kind) c.named_tag.ensures.type_id in
    let room_is = ap (λ l. l + c.from.result) (c.values_len.ensures.len ∙ ap (λ k. n * k) c.size.ensures.value) ∙ ap (λ l. n * size table T + l) c.from.ensures in
    named_claimed bytes table c.args.claims.now c.args.at n c.args.entry.now.name_len T (word_of c.named_tag.result) (c.values_len.result + c.from.result) tag_is room_is
    ready c.claim.new.self c.await_values.new.claims c.in_ok-start.start c.from-count.result c.from-count.ensures c.await_values.result c.in_ok-start.ensures.claimed c.await_values.ensures.waits

pub returns-clause-refused : goal.returns-clause-refused
returns-clause-refused g c = λ ready is.
    memory_refuses (CanClaimNamed c.args.self.now.bytes.bytes.now c.args.self.now.types.now c.args.claims.now c.args.at c.args.entry.now.count c.args.entry.now.name_len) c.await_values.result c.await_values.ensures.refused
