use Rattle.std.proofs.Common.{◌≡◌, ℕ, ◌+◌, ◌^◌, ◌<◌, ◌≤◌, true, false, List, ◌∷◌, [], Ok, Err, Option, Some, None, refl, sym, ap, ◌∙◌, subst, arith}
use Rattle.std.specs.Option.{is_some}
use Rattle.std.proofs.lemmas.Result.{err_from_is_err_and}
use Rattle.seg_spec.specs.Pointer.{target}
use Rattle.seg_spec.specs.Types.{Form, Table, form_at, size}
use Rattle.seg_spec.specs.Block.{Kind, tag_of, block_of}
use Rattle.seg_spec.specs.Frozen.{frozen_words}
use Rattle.seg_spec.specs.Reads.{count_at}
use Rattle.seg_block.specs.Tags.{word_of}
use Rattle.seg_cells.specs.Places.{object_at}
use Rattle.seg_check.specs.Marks.{Known}
use Rattle.seg_check.specs.Naming.{IsUnder, CanName, NamesBlock, frozen_number_at}
use Rattle.seg_check.specs.Resolving.{IsReady, Steps}
use Rattle.seg_check.proofs.Queue.QueueStepLaws.{refuses_map, steps_refused}
use Rattle.seg_check.proofs.Contents.BufferLaws.{blocks_none, blocks_some, blocks_names}
use Rattle.seg_check.proofs.Contents.SharedCellLaws.{nameable, shared_counted, shared_many, shared_counted_lack, shared_many_lack, shared_lacks, shared_high, shared_named, shared_can, shared_nothing, advance_shared}
use Rattle.seg_check.proofs.image.TypedImage.check_shared.Goals as goal

true_false : {X : Type 0} → true ≡ false → X
true_false e = cc

pub returns-then-count_in-gt1-clause-steps : goal.returns-then-count_in-gt1-clause-steps
returns-then-count_in-gt1-clause-steps g c = λ T f ready lies.
    let bytes = c.args.self.now.bytes.bytes.now in
    let table = c.args.self.now.types.now in
    let many : 2 ≤ count_at bytes c.args.cell = omega (arith, c.if-count_in-gt1.true, c.count_in.ensures) in
    (shared_many bytes table c.args.cell T c.args.held f c.args.claims.now many, shared_many_lack bytes table c.args.cell T c.args.held f lies many)

pub returns-in_err-counted_blocks-clause-steps : goal.returns-in_err-counted_blocks-clause-steps
returns-in_err-counted_blocks-clause-steps g c = λ T f ready lies.
    let bytes = c.args.self.now.bytes.bytes.now in
    let table = c.args.self.now.types.now in
    let old = c.args.claims.now in
    let at = c.args.cell in
    let e = c.in_err-counted_blocks.field-0.0 in
    let failed = err_from_is_err_and c.from_residual.result c.from_residual.ensures.1 in
    let same : failed.0 ≡ e = failed.2 in
    subst (λ r. Steps bytes table old old (object_at at T ∷ []) r) (sym (failed.1 ∙ ap Err same))
    (let was = sym c.counted_blocks.ensures ∙ c.in_err-counted_blocks.was in (shared_counted bytes table at T c.args.held f old e was, shared_counted_lack bytes table at T c.args.held f e lies was))

is_empty : {X : Type 0} (o : Option X) → is_some o ≡ false → o ≡ None
is_empty None e = refl
is_empty (Some x) e = cc

is_full : {X : Type 0} (o : Option X) → is_some o ≡ true → (x : X) × (o ≡ Some x)
is_full None e = cc
is_full (Some x) e = (x, refl)

pub returns-then-is_none-clause-steps : goal.returns-then-is_none-clause-steps
returns-then-is_none-clause-steps g c = λ T f ready lies.
    let bytes = c.args.self.now.bytes.bytes.now in
    let at = c.args.cell in
    let none = blocks_none at (count_at bytes at) (target bytes at) (sym c.counted_blocks.ensures ∙ c.in_ok-counted_blocks.was ∙ ap Ok (is_empty c.in_ok-counted_blocks.field-0 c.if-is_none.ensures)) in
    shared_nothing bytes c.args.self.now.types.now at T c.args.held f c.args.claims.now none.0 none.1

-- the cell's pointer isn't null
module _ (bytes : List ℕ) (table : Table) (at T U : ℕ) (f : form_at table T ≡ Some (Form.shared U)) (old new : Known) (ready : IsReady bytes table old) (tag room : ℕ) (tag_is : tag ≡ tag_of Kind.frozen U)
    (size_is : room ≡ frozen_words + size table U) where
  can_name_as : CanName bytes old at (tag_of Kind.frozen U) (frozen_words + size table U) → CanName bytes old at tag room
  can_name_as k = subst (λ t. CanName bytes old at t room) (sym tag_is) (subst (CanName bytes old at (tag_of Kind.frozen U)) (sym size_is) k)

  names_as : (start : ℕ) → NamesBlock bytes old new at tag room start → NamesBlock bytes old new at (tag_of Kind.frozen U) (frozen_words + size table U) start
  names_as start n = subst (λ s. NamesBlock bytes old new at (tag_of Kind.frozen U) s start) size_is (subst (λ t. NamesBlock bytes old new at t room start) tag_is n)

pub returns-in_err-object-clause-steps : goal.returns-in_err-object-clause-steps
returns-in_err-object-clause-steps g c = λ T f ready lies.
    let bytes = c.args.self.now.bytes.bytes.now in
    let table = c.args.self.now.types.now in
    let old = c.args.claims.now in
    let new = c.name.new.self in
    let at = c.args.cell in
    let U = c.args.held in
    let is = c.frozen-content.ensures in
    let size_is : c.from-size.result ≡ frozen_words + size table U = c.from-size.ensures ∙ is.entry_is.size_is in
    let e = c.in_err-object.field-0.0 in
    let failed = err_from_is_err_and c.from_residual-in_err-object.result c.from_residual-in_err-object.ensures.1 in
    let equal : failed.0 ≡ e = failed.2 in
    let some = is_full c.in_ok-counted_blocks.field-0 c.if-is_none.ensures in
    let counts = sym c.counted_blocks.ensures ∙ c.in_ok-counted_blocks.was ∙ ap Ok some.1 in
    let names = blocks_names at (count_at bytes at) some.0 (target bytes at) counts in
    steps_refused bytes table old new (object_at at T ∷ []) c.from_residual-in_err-object.result e _ (failed.1 ∙ ap Err equal)
    (λ r. can_name_as bytes table at T U f old new ready (word_of c.frozen-content.result.tag) c.from-size.result is.tag_is size_is (shared_can bytes table at T U f old ready names.0 names.1 r))
    (c.in_err-object.ensures.refused (nameable bytes table at T U f old ready))
    (shared_lacks bytes table at T U f old e ready lies c.in_err-object.ensures.fault (refuses_map e _ _ (can_name_as bytes table at T U f old new ready (word_of c.frozen-content.result.tag) c.from-size.result is.tag_is size_is)
    (c.in_err-object.ensures.refused (nameable bytes table at T U f old ready))))

-- the cell was counted for the object
module _ (bytes : List ℕ) (table : Table) (at T U : ℕ) (f : form_at table T ≡ Some (Form.shared U)) (old new : Known) (ready : IsReady bytes table old) (start number : ℕ)
    (n : NamesBlock bytes old new at (tag_of Kind.frozen U) (frozen_words + size table U) start) (number_is : start + 4 < 2 ^ 32 → number ≡ frozen_number_at bytes start) where
  numbered : number ≡ frozen_number_at bytes start
  numbered =
      let b = (nameable bytes table at T U f old ready).live (block_of start) n.there in
      let inside = b.inside in
      let large = b.size in
      let small = ready.small in
      let high = n.is_block.after_header in
      number_is (omega arith)

  under : IsUnder new.naming.below number → IsUnder old.naming.below (frozen_number_at bytes start)
  under u = subst (λ b. IsUnder b (frozen_number_at bytes start)) n.below_kept (subst (IsUnder new.naming.below) numbered u)

  over : IsUnder old.naming.below (frozen_number_at bytes start) → IsUnder new.naming.below number
  over u = subst (IsUnder new.naming.below) (sym numbered) (subst (λ b. IsUnder b (frozen_number_at bytes start)) (sym n.below_kept) u)

pub returns-then-may_name-clause-steps : goal.returns-then-may_name-clause-steps
returns-then-may_name-clause-steps g c = λ T f ready lies.
    let bytes = c.args.self.now.bytes.bytes.now in
    let table = c.args.self.now.types.now in
    let old = c.args.claims.now in
    let new = c.name.new.self in
    let at = c.args.cell in
    let U = c.args.held in
    let is = c.frozen-content.ensures in
    let size_is : c.from-size.result ≡ frozen_words + size table U = c.from-size.ensures ∙ is.entry_is.size_is in
    let tag = word_of c.frozen-content.result.tag in
    let some = is_full c.in_ok-counted_blocks.field-0 c.if-is_none.ensures in
    let counts = blocks_some at (count_at bytes at) some.0 (target bytes at) (sym c.counted_blocks.ensures ∙ c.in_ok-counted_blocks.was ∙ ap Ok some.1) in
    let one : count_at bytes at ≡ 1 = omega (arith, counts.1, c.if-count_in-gt1.false, c.count_in.ensures) in
    let n = names_as bytes table at T U f old new ready tag c.from-size.result is.tag_is size_is c.in_ok-object.object
    (c.in_ok-object.ensures.named (nameable bytes table at T U f old ready)) in
    advance_shared bytes table at T U f old new ready c.in_ok-object.object n one lies
    (under bytes table at T U f old new ready c.in_ok-object.object c.frozen_number.result n c.frozen_number.ensures (c.may_name.ensures.0 c.if-may_name.true))

pub returns-else-may_name-clause-steps : goal.returns-else-may_name-clause-steps
returns-else-may_name-clause-steps g c = λ T f ready lies.
    let bytes = c.args.self.now.bytes.bytes.now in
    let table = c.args.self.now.types.now in
    let old = c.args.claims.now in
    let new = c.name.new.self in
    let at = c.args.cell in
    let U = c.args.held in
    let is = c.frozen-content.ensures in
    let size_is : c.from-size.result ≡ frozen_words + size table U = c.from-size.ensures ∙ is.entry_is.size_is in
    let tag = word_of c.frozen-content.result.tag in
    let n = names_as bytes table at T U f old new ready tag c.from-size.result is.tag_is size_is c.in_ok-object.object
    (c.in_ok-object.ensures.named (nameable bytes table at T U f old ready)) in
    let high : IsUnder old.naming.below (frozen_number_at bytes c.in_ok-object.object) → ⊥ = λ under.
    true_false (sym (c.may_name.ensures.1 (over bytes table at T U f old new ready c.in_ok-object.object c.frozen_number.result n c.frozen_number.ensures under)) ∙ c.if-may_name.false) in
    ((λ r. high (shared_named bytes table at T U f old c.in_ok-object.object n.names r).under), shared_high bytes table at T U f old new c.in_ok-object.object ready lies n)
