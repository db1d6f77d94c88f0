use Rattle.std.proofs.Common.{Ok, Err, ◌∙◌, subst, w64, rules}
use Rattle.std.proofs.lemmas.Int.{to_z-of_z}
use Rattle.seg_value.specs.CellPlaces.{place_of}
use Rattle.seg_image.specs.NumberPuts.{PutsKeyIn}
use Rattle.seg_image.proofs.maps.put_number.Goals as goal

pub returns-in_err-at-clause-refused : goal.returns-in_err-at-clause-refused
returns-in_err-at-clause-refused g c =
    let refused : PutsKeyIn g.F.Fit.allocator c.args.heap.now c.put.new.heap (place_of c.args.map) c.args.entry.key (Err c.in_err-at.field-0.0) =
    subst (λ z. PutsKeyIn g.F.Fit.allocator c.args.heap.now c.put.new.heap (place_of c.args.map) z (Err c.in_err-at.field-0.0)) (to_z-of_z w64 c.args.entry.key (search rules)) c.in_err-at.ensures.puts in
    search rules

pub returns-clause-put : goal.returns-clause-put
returns-clause-put g c = record {
  between = c.put.new.heap;
  at = c.in_ok-at.at;
  types_between = c.in_ok-at.ensures.types;
  types_kept = c.store.ensures.types ∙ c.in_ok-at.ensures.types;
  puts = subst (λ z. PutsKeyIn g.F.Fit.allocator c.args.heap.now c.put.new.heap (place_of c.args.map) z (Ok c.in_ok-at.at)) (to_z-of_z w64 c.args.entry.key (search rules)) c.in_ok-at.ensures.puts;
  keeps = c.in_ok-at.ensures.keeps;
  changes = c.store.ensures.changes;
  stored = λ fits. c.store.ensures.stored fits ∙ to_z-of_z w64 c.args.entry.number (search rules);
}
