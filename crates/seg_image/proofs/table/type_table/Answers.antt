use Rattle.std.proofs.Common.{◌≡◌, ℕ, ◌<◌, ◌*◌, length, map, subst, ◌∙◌, arith}
use Rattle.std.specs.Prelude.{flat_map, IfErr}
use Rattle.seg_spec.specs.Types.{form_bytes, IsFirstWrong}
use Rattle.seg_layout.specs.Forms.{form_of}
use Rattle.seg_raw.specs.declared.fault.Fault.TheVariants.{BadType}
use Rattle.seg_image.specs.TypeLists.{entries_of}
use Rattle.seg_image.proofs.TypeListLaws.{entry_written, part_long, entries_whole, reads_table, reads_if_valid}
use Rattle.seg_image.proofs.table.type_table.Goals as goal

pub loop-index-preserved : goal.loop-index-preserved
loop-index-preserved c =
    let h = c.loop-index.invariant in
    let size : length c.loop-index.entries ≡ 512 = c.index-types-index.array_long in
    let entry_is = c.copy_from_slice.ensures.after ∙ c.entry.ensures in
    let there : c.loop-index.index < length c.args.types.now = c.loop-index-test.true in
    let few = c.if-types-gt-MAX_TYPES.false in
    let sixteen : length c.copy_from_slice.new.self ≡ 16 = c.copy_from_slice.ensures.len ∙ part_long c.loop-index.index c.loop-index.entries size (omega arith) in
    let it = entry_written c.args.types.now c.loop-index.index c.index-types-index.result c.loop-index.entries c.copy_from_slice.new.self there few c.index-types-index.is h.entries h.long entry_is sixteen in
    record { entries = it.0; long = it.1 }

whole : (c : goal.After-read_shared) → (c.loop-index.entries ≡ entries_of c.args.types.now) × (length (flat_map form_bytes (map form_of c.args.types.now)) ≡ 16 * length c.args.types.now)
whole c = entries_whole c.args.types.now c.loop-index.index c.loop-index.entries c.loop-index-test.false c.if-types-gt-MAX_TYPES.false c.loop-index.auto.index-end c.loop-index.invariant.entries c.loop-index.invariant.long

pub returns-clause-table : goal.returns-clause-table
returns-clause-table c = let all = whole c in reads_table c.args.types.now c.loop-index.entries all.0 all.1 c.loop-index-test.array_long c.read_shared.result c.read_shared.ensures

pub returns-clause-accepts : goal.returns-clause-accepts
returns-clause-accepts c = let all = whole c in reads_if_valid c.args.types.now c.loop-index.entries all.0 all.1 c.loop-index-test.array_long c.read_shared.result c.read_shared.ensures

pub returns-clause-wrong : goal.returns-clause-wrong
returns-clause-wrong c = λ few.
    subst (λ bytes. IfErr c.read_shared.result (λ fault. (k : ℕ) × (fault ≡ BadType k) × IsFirstWrong 2 bytes k)) (whole c).0 c.read_shared.ensures.wrong
