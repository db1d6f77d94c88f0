use Rattle.std.proofs.Common.{◌≢◌, ◌<◌, length, get_or, rules, arith, get_or-set_other, get_or-set_same, below_more}
use Rattle.std.proofs.lemmas.List.Sums.{sum_by_more}
use Rattle.seg_layout.specs.Entries.{sizes}
use Rattle.seg_layout.proofs.entry.Entry.layout.Goals as goal

pub loop-index-preserved : goal.loop-index-preserved
loop-index-preserved c =
    let Us = c.as_slice-field-items.result.now in
    let more = sum_by_more (λ U. get_or (sizes c.args.before.now.items) U 8) Us c.loop-index.index 0 (omega arith) in
    record {
      size = (let size = c.loop-index.invariant.size in let field = c.size_at-size.ensures.value in omega arith);
      small = omega arith;
      whole = search rules;
      starts = below_more _ _
          (λ k h. let other : k ≢ c.loop-index.index = omega arith in rw get_or-set_other (c.loop-index.invariant.starts k h))
          (let few = c.as_slice-field-items.ensures.few in let within : c.loop-index.index < length c.loop-index.starts = omega arith in rw get_or-set_same c.loop-index.invariant.size);
    }
