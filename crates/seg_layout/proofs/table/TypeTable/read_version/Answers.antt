use Rattle.std.proofs.Common.{◌*◌, ◌≤◌, length, ap, ◌∙◌, arith, Ok}
use Rattle.seg_spec.proofs.Tables.ValidTableLaws.{valid_right, valid_one}
use Rattle.seg_layout.specs.Entries.{forms}
use Rattle.seg_layout.proofs.EntryReadLaws.{is_table, is_spelled}
use Rattle.seg_layout.proofs.Tables.{read_begins, read_used, read_unused}
use Rattle.seg_layout.proofs.table.TypeTable.read_version.Goals as goal
use Rattle.seg_layout.proofs.table.TypeTable.read_version.Goals.{in-Used, in-Unused}

pub loop-index-init : goal.loop-index-init
loop-index-init c =
    let begins = read_begins c.args.version c.args.bytes.now c.new-entries.result.items c.new-entries.ensures in
    record { read = begins.0; sized = begins.1; starts = begins.2 }

pub loop-index-preserved : goal.loop-index-preserved
loop-index-preserved c =
    elim c.match-read.branch [
      | in-Used w ↦ (
          let on = read_used c.args.version c.args.bytes.now c.loop-index.index c.loop-index.entries.items c.match-read.entries.items w.in-Used.entry (ap (λ v. v.items)
          w.entries-is ∙ w.push.ensures.items) c.loop-index.invariant.read c.loop-index.invariant.sized c.loop-index.invariant.starts w.in-Used.ensures w.in-Used.entry.small in
          record { read = on.0; sized = on.1; starts = on.2 }
          )
      | in-Unused w ↦ (
          let on = read_unused c.args.version c.args.bytes.now c.loop-index.index c.loop-index.entries.items c.match-read.entries.items (ap (λ v. v.items) w.entries-is)
          c.loop-index.invariant.read c.loop-index.invariant.sized c.loop-index.invariant.starts w.in-Unused.ensures in
          record { read = on.0; sized = on.1; starts = on.2 }
          )
    ]

pub invariant_of-result : goal.invariant_of-result
invariant_of-result c =
    let a = c.loop-index-test.false in
    let b = c.div_ceil-index-end.ensures in
    let ended : length c.args.bytes.now ≤ 16 * c.loop-index.index = omega arith in
    record {
      table = is_table c.args.version c.args.bytes.now c.loop-index.index (forms c.loop-index.entries.items) c.loop-index.invariant.read ended;
      sized = c.loop-index.invariant.sized;
      starts = c.loop-index.invariant.starts;
    }

pub returns-clause-table : goal.returns-clause-table
returns-clause-table c =
    let a = c.loop-index-test.false in
    let b = c.div_ceil-index-end.ensures in
    let ended : length c.args.bytes.now ≤ 16 * c.loop-index.index = omega arith in (
      is_table c.args.version c.args.bytes.now c.loop-index.index (forms c.loop-index.entries.items) c.loop-index.invariant.read ended,
      c.loop-index.invariant.read.of_version,
      is_spelled c.args.version c.args.bytes.now c.loop-index.index (forms c.loop-index.entries.items) c.loop-index.invariant.read ended,
    )

pub returns-clause-given : goal.returns-clause-given
returns-clause-given c table valid of_version spells whole few =
    let a = c.loop-index-test.false in
    let b = c.div_ceil-index-end.ensures in
    let ended : length c.args.bytes.now ≤ 16 * c.loop-index.index = omega arith in
    ap Ok (valid_one c.args.version c.args.bytes.now table valid of_version spells (forms c.loop-index.entries.items)
    (is_table c.args.version c.args.bytes.now c.loop-index.index (forms c.loop-index.entries.items) c.loop-index.invariant.read ended)
    (is_spelled c.args.version c.args.bytes.now c.loop-index.index (forms c.loop-index.entries.items) c.loop-index.invariant.read ended))

pub returns-in-Wrong-clause-given : goal.returns-in-Wrong-clause-given
returns-in-Wrong-clause-given c table valid of_version spells whole few = absurd (valid_right c.args.version c.args.bytes.now table valid of_version spells whole few c.loop-index.index c.in-Wrong.ensures)
