use Rattle.std.proofs.Common.{◌≡◌, ◌*◌, sym, ap, ◌∙◌, arith}
use Rattle.std.specs.Prelude.{flat_map}
use Rattle.seg_spec.specs.Bytes.{slice}
use Rattle.seg_spec.specs.Types.{form_bytes}
use Rattle.client_spec.proofs.Spelling.FileVersionLaws.{of_sharing}
use Rattle.client_code.proofs.TypeEntries.{full, are_types, spells_flat, all_used}
use Rattle.client_code.proofs.types.read_types.Goals as goal
use Rattle.client_code.proofs.types.read_types.Goals.{in-Some+in_default-read_shared, in_default}

pub returns-in-Ok-clause-count : goal.returns-in-Ok-clause-count
returns-in-Ok-clause-count c =
    let found = c.in-Some.ensures.found in
    let table = c.in-Ok.ensures.table in
    (full c.in-Some.bytes.now c.in-Ok.types c.args.count table.0 table.2 found.2 found.3).0

pub returns-in-Ok-clause-found : goal.returns-in-Ok-clause-found
returns-in-Ok-clause-found c =
    let found = c.in-Some.ensures.found in
    let table = c.in-Ok.ensures.table in
    are_types c.args.file.now c.in-Some.bytes.now c.in-Ok.types c.args.count found.0 found.1 table.0 table.2 found.2 found.3

pub returns-clause-wrong : goal.returns-clause-wrong
returns-clause-wrong c table count are =
    let spelled : slice c.args.file.now 20 (16 * c.args.count) ≡ flat_map form_bytes table = ap (λ k. slice c.args.file.now 20 (16 * k)) (sym count) ∙ are.spelled in
    elim c.match-used_entries.branch [
      | in-Some+in_default-read_shared w ↦ (
          let found = w.in-Some.ensures.found in
          let same = found.1 ∙ spelled in
          let size = found.2 in
          let few = are.valid.few in
          w.in_default-read_shared.not-Ok table (w.read_shared.ensures.given table are.valid (of_sharing table) (spells_flat w.in-Some.bytes.now table same) (omega arith) (omega arith))
          )
      | in_default w ↦ w.in_default.ensures.none (let a = are.whole in omega arith) (λ k h. all_used _ table are.valid spelled k (omega arith))
    ]
