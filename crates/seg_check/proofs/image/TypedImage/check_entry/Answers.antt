use Rattle.std.proofs.Common.{◌≡◌, ℕ, ◌+◌, ◌≤◌, true, false, List, ◌∷◌, ◌++◌, length, Err, sym, ap, ◌∙◌, subst, arith}
use Rattle.std.specs.Prelude.{IfErr}
use Rattle.std.proofs.lemmas.Result.{err_from_is_err_and}
use Rattle.seg_spec.specs.Bytes.{half, byte}
use Rattle.seg_spec.specs.Index.{IsName, Precedes}
use Rattle.seg_spec.specs.Sound.{times}
use Rattle.seg_spec.proofs.Heap.LiveBlockLaws.{times-append, times-same}
use Rattle.seg_spec.specs.Pointer.{target}
use Rattle.seg_cells.specs.NameEntries.{entry_read}
use Rattle.seg_cells.specs.declared.name_entry.NameEntry.{NameEntry}
use Rattle.seg_check.specs.Claiming.{Refutes}
use Rattle.seg_check.specs.Roots.{CanResolveRoots, CanClaimNamed, names_ahead}
use Rattle.seg_check.proofs.Queue.QueueStepLaws.{refuses_map}
use Rattle.seg_check.proofs.Objects.NamedObjectLaws.{named_can, name_long, entry_advance, entry_names, one_name}
use Rattle.seg_check.specs.Positions.{as_entry, LacksAt}
use Rattle.seg_check.proofs.image.TypedImage.check_entry.Goals as goal
use Rattle.seg_check.proofs.image.TypedImage.check_entry.Goals.{then-entry-eq0-via-then-entry-eq0, then-entry-eq0-via-else-entry-eq0+then-len-eq0, then-entry-eq0-via-else-entry-eq0+else-len-eq0+then-len-gt-MAX_NAME}
use Rattle.seg_check.proofs.image.TypedImage.check_entry.Goals.{then-entry-eq0-via-else-entry-eq0+else-len-eq0+else-len-gt-MAX_NAME+then-entry-ne0, else-is_before-via-then-is_before+else-is_printable, else-is_before-via-else-is_before}

-- the fields of an entry
record Says (bytes : List ℕ) (at : ℕ) (entry : NameEntry) : Type 0 where
  object : entry.object ≡ target bytes at
  count : entry.count ≡ half bytes (at + 4)
  name_len : entry.name_len ≡ byte bytes (at + 6)
  zero : entry.zero ≡ byte bytes (at + 7)

says : (bytes : List ℕ) (at : ℕ) (entry : NameEntry) → entry ≡ entry_read bytes at → Says bytes at entry
says bytes at entry is = record {
  object = ap (λ (e : NameEntry). e.object) is;
  count = ap (λ (e : NameEntry). e.count) is;
  name_len = ap (λ (e : NameEntry). e.name_len) is;
  zero = ap (λ (e : NameEntry). e.zero) is;
}

pub returns-in_err-claim_named-clause-refused : goal.returns-in_err-claim_named-clause-refused
returns-in_err-claim_named-clause-refused g c = λ rest ready.
    let bytes = c.args.self.now.bytes.bytes.now in
    let table = c.args.self.now.types.now in
    let old = c.args.claims.now in
    let at = c.args.at in
    let entry = c.read_in-entry.result in
    let said = says bytes at entry (c.read_in-entry.ensures (omega arith)) in
    let P = CanResolveRoots bytes table old (names_ahead (at ∷ rest) c.args.before.now) in
    let e = c.in_err-claim_named.field-0.0 in
    let failed = err_from_is_err_and c.from_residual.result c.from_residual.ensures.1 in
    let same : failed.0 ≡ e = failed.2 in
    subst (λ x. IfErr x (λ fault. Refutes fault P)) (sym (failed.1 ∙ ap Err same))
    (refuses_map e (CanClaimNamed bytes table old at entry.count entry.name_len) P
    (named_can bytes table old at entry.count entry.name_len rest c.args.before.now said.count said.name_len)
    (c.in_err-claim_named.ensures.refused ready said.object))

entry_there : (at : ℕ) (entries before rest : List ℕ) → entries ≡ before ++ at ∷ rest → 1 ≤ times at entries
entry_there at entries before rest is = omega (arith, ap (times at) is, times-append at before (at ∷ rest), times-same at rest)

-- a number of the entry is wrong
pub returns-then-entry-eq0-clause-lacks : goal.returns-then-entry-eq0-clause-lacks
returns-then-entry-eq0-clause-lacks g c = λ ready index rest opens before.
    let bytes = c.args.self.now.bytes.bytes.now in
    let entry = c.read_in-entry.result in
    let said = says bytes c.args.at entry (c.read_in-entry.ensures (omega arith)) in
    as_entry index rest c.args.before.now opens before (λ name has above.
    elim c.then-entry-eq0.branch [
      | then-entry-eq0-via-then-entry-eq0 w ↦ absurd (omega (arith, said.count, has.counted, has.some, w.if-entry-eq0.true))
      | then-entry-eq0-via-else-entry-eq0+then-len-eq0 w ↦ absurd (omega (arith, said.name_len, has.measured, has.is_name.not_empty, w.if-len-eq0.true))
      | then-entry-eq0-via-else-entry-eq0+else-len-eq0+then-len-gt-MAX_NAME w ↦ absurd (omega (arith, said.name_len, has.measured, has.is_name.short, w.if-len-gt-MAX_NAME.true))
      | then-entry-eq0-via-else-entry-eq0+else-len-eq0+else-len-gt-MAX_NAME+then-entry-ne0 w ↦ absurd (omega (arith, said.zero, has.zero_is, w.if-entry-ne0.true))
    ])

pub returns-in_err-claim_named-clause-lacks : goal.returns-in_err-claim_named-clause-lacks
returns-in_err-claim_named-clause-lacks g c = λ ready index rest opens before.
    let bytes = c.args.self.now.bytes.bytes.now in
    let table = c.args.self.now.types.now in
    let entry = c.read_in-entry.result in
    let said = says bytes c.args.at entry (c.read_in-entry.ensures (omega arith)) in
    let e = c.in_err-claim_named.field-0.0 in
    let failed = err_from_is_err_and c.from_residual.result c.from_residual.ensures.1 in
    let same : failed.0 ≡ e = failed.2 in
    subst (λ x. IfErr x (LacksAt bytes table)) (sym (failed.1 ∙ ap Err same))
    (c.in_err-claim_named.ensures.lacks ready said.object said.count said.name_len (index, opens, entry_there c.args.at index.entries before.before rest before.entries_are))

pub returns-else-is_before-clause-lacks : goal.returns-else-is_before-clause-lacks
returns-else-is_before-clause-lacks g c = λ ready index rest opens before.
    let bytes = c.args.self.now.bytes.bytes.now in
    let table = c.args.self.now.types.now in
    let old = c.args.claims.now in
    let at = c.args.at in
    let entry = c.read_in-entry.result in
    let said = says bytes at entry (c.read_in-entry.ensures (omega arith)) in
    let name = c.name_in-name.result.now in
    let claimed = c.in_ok-claim_named.ensures.claimed ready said.object in
    let zero_is : byte bytes (at + 7) ≡ 0 = sym said.zero ∙ (let z : entry.zero ≡ 0 = omega arith in z) in
    let some : 1 ≤ entry.count = omega arith in
    let few : entry.count ≤ 65535 = omega arith in
    as_entry index rest c.args.before.now opens before (λ other has above.
    let same = one_name bytes table old c.claim_named.new.claims ready at entry.count entry.name_len c.args.before.now name entry.object said.object said.count said.name_len zero_is some few claimed c.name_in-name.ensures other has in
    let is_name = subst IsName same has.is_name in
    elim c.else-is_before.branch [
      | else-is_before-via-then-is_before+else-is_printable w ↦
          let yes : w.is_printable.result ≡ true = w.is_printable.ensures.1 is_name.printable in
          let both : false ≡ true = sym w.if-is_printable.false ∙ yes in
          cc
      | else-is_before-via-else-is_before w ↦
          let yes : c.is_before.result ≡ true = c.is_before.ensures.1 (subst (Precedes c.args.before.now) same above) in
          let both : false ≡ true = sym w.if-is_before.false ∙ yes in
          cc
    ])

pub returns-then-is_printable-clause-claimed : goal.returns-then-is_printable-clause-claimed
returns-then-is_printable-clause-claimed g c = λ rest ready.
    let bytes = c.args.self.now.bytes.bytes.now in
    let table = c.args.self.now.types.now in
    let old = c.args.claims.now in
    let at = c.args.at in
    let entry = c.read_in-entry.result in
    let said = says bytes at entry (c.read_in-entry.ensures (omega arith)) in
    let name = c.name_in-name.result.now in
    let claimed = c.in_ok-claim_named.ensures.claimed ready said.object in
    let zero_is : byte bytes (at + 7) ≡ 0 = sym said.zero ∙ (let z : entry.zero ≡ 0 = omega arith in z) in
    let some : 1 ≤ entry.count = omega arith in
    let few : entry.count ≤ 65535 = omega arith in
    let long : length name ≡ entry.name_len =
    name_long bytes table old c.claim_named.new.claims ready at entry.count entry.name_len c.args.before.now name entry.object said.object said.count said.name_len zero_is some few claimed c.name_in-name.ensures in
    let is_name : IsName name = record { not_empty = omega arith; short = omega arith; printable = c.is_printable.ensures.0 c.if-is_printable.true } in
    entry_advance bytes table old c.claim_named.new.claims ready at entry.count entry.name_len c.args.before.now name entry.object said.object said.count said.name_len zero_is some few claimed c.name_in-name.ensures
    rest is_name (c.is_before.ensures.0 c.if-is_before.true)

pub returns-else-is_before-clause-refused : goal.returns-else-is_before-clause-refused
returns-else-is_before-clause-refused g c = λ rest ready can.
    let bytes = c.args.self.now.bytes.bytes.now in
    let table = c.args.self.now.types.now in
    let old = c.args.claims.now in
    let at = c.args.at in
    let entry = c.read_in-entry.result in
    let said = says bytes at entry (c.read_in-entry.ensures (omega arith)) in
    let name = c.name_in-name.result.now in
    let claimed = c.in_ok-claim_named.ensures.claimed ready said.object in
    let zero_is : byte bytes (at + 7) ≡ 0 = sym said.zero ∙ (let z : entry.zero ≡ 0 = omega arith in z) in
    let some : 1 ≤ entry.count = omega arith in
    let few : entry.count ≤ 65535 = omega arith in
    let names =
    entry_names bytes table old c.claim_named.new.claims ready at entry.count entry.name_len c.args.before.now name entry.object said.object said.count said.name_len zero_is some few claimed c.name_in-name.ensures rest can in
    elim c.else-is_before.branch [
      | else-is_before-via-then-is_before+else-is_printable w ↦
          let yes : w.is_printable.result ≡ true = w.is_printable.ensures.1 names.1.printable in
          let both : false ≡ true = sym w.if-is_printable.false ∙ yes in
          cc
      | else-is_before-via-else-is_before w ↦
          let yes : c.is_before.result ≡ true = c.is_before.ensures.1 names.0 in
          let both : false ≡ true = sym w.if-is_before.false ∙ yes in
          cc
    ]
