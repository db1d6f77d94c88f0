use Rattle.std.proofs.Common.{rules, ◌≡◌, ◌+◌, ◌-◌, ◌≤◌, length, refl, ◌∙◌, sym, arith, Err}
use Rattle.seg_raw.specs.declared.code.Code.TheVariants.{Null}
use Rattle.seg_spec.specs.Value.{count}
use Rattle.seg_cells.specs.Places.{place_of}
use Rattle.seg_seq.proofs.TextCalls.{counted_all}
use Rattle.seg_seq.proofs.ItemCalls.{items_counted}
use Rattle.std.proofs.Common.{subst}
use Rattle.seg_seq.specs.Lists.{LosesItem}
use Rattle.seg_seq.proofs.Fronts.{counted_items, last_item, remove_nth-last}
use Rattle.seg_seq.proofs.SequenceKinds.{buffer_text, buffer_vector, names_list}
use Rattle.seg_seq.proofs.sequence.pop_back.Goals as goal

pub returns-in_err-last-clause-text : goal.returns-in_err-last-clause-text
returns-in_err-last-clause-text g c = λ xs blocks t.
    let result : c.from_residual-in_err-last.result ≡ Err Null = search rules in
    let none : c.count.result ≡ 0 = search rules in
    let all = counted_all g.F.Fit.allocator c.args.heap.now (place_of c.args.sequence) xs blocks t c.count.result c.count.ensures in
    rw result (record { code_is = refl; none = omega arith; same = refl })

pub returns-in_err-last-clause-vector : goal.returns-in_err-last-clause-vector
returns-in_err-last-clause-vector g c = λ U vs blocks h.
    let result : c.from_residual-in_err-last.result ≡ Err Null = search rules in
    let none : c.count.result ≡ 0 = search rules in
    let all = items_counted g.F.Fit.allocator c.args.heap.now c.args.sequence.at c.args.sequence.type_id U vs blocks h in
    rw result (record { code_is = refl; none = all ∙ sym c.count.ensures ∙ none; same = refl })

pub returns-in-Text-clause-text : goal.returns-in-Text-clause-text
returns-in-Text-clause-text g c = λ xs blocks t.
    let old = c.args.heap.now in
    let some : 1 ≤ c.count.result = search rules in
    let last_is : c.in_ok-last.last ≡ c.count.result - 1 = search rules in
    let all = counted_all g.F.Fit.allocator old (place_of c.args.sequence) xs blocks t c.count.result c.count.ensures in
    let more : length xs ≡ c.in_ok-last.last + 1 = omega arith in
    let less : c.in_ok-last.last ≡ length xs - 1 = omega arith in
    let names = buffer_text old.types c.args.sequence.type_id c.in_ok-kind.content c.in_ok-kind.kind c.in-Text.is c.in_ok-kind.ensures t.form_is in
    rw less at (c.pop_entry.ensures.text c.args.sequence.type_id xs blocks names.names t more)

pub returns-in-Text-clause-vector : goal.returns-in-Text-clause-vector
returns-in-Text-clause-vector g c = λ U vs blocks h.
    let old = c.args.heap.now in
    let some : 1 ≤ c.count.result = search rules in
    let last_is : c.in_ok-last.last ≡ c.count.result - 1 = search rules in
    let all = items_counted g.F.Fit.allocator old c.args.sequence.at c.args.sequence.type_id U vs blocks h in
    let more : count vs ≡ c.in_ok-last.last + 1 = omega (arith, c.count.ensures) in
    let names = buffer_vector old.types c.args.sequence.type_id c.in_ok-kind.content c.in_ok-kind.kind c.in-Text.is c.in_ok-kind.ensures U h.form_is in
    c.pop_entry.ensures.vector c.args.sequence.type_id U vs blocks names h more

pub returns-in-List-clause-list : goal.returns-in-List-clause-list
returns-in-List-clause-list g c = λ U vs blocks h.
    let code = g.F.Fit.allocator in
    let old = c.args.heap.now.window.bytes in
    let table = c.args.heap.now.types in
    let list = place_of c.args.sequence in
    let some : 1 ≤ c.count.result = search rules in
    let all = counted_items code old table list U h.form_is vs blocks h.stands in
    let many : 1 ≤ count vs = omega (arith, c.count.ensures) in
    let is = names_list table c.args.sequence.type_id c.in_ok-kind.content c.in_ok-kind.kind c.in-List.is c.in_ok-kind.ensures U h.form_is in
    let lead = last_item code old table list U h.form_is vs blocks h.stands many c.start.result c.neighbour-node.result c.start.ensures c.neighbour-node.ensures in
    let removed = c.remove_node.ensures.removed c.args.sequence.type_id U (count vs - 1) vs blocks is h.stands lead in
    (many, subst (λ ws. LosesItem old c.remove_node.new.heap.window.bytes table list vs (count vs - 1) ws h.stands.home blocks) (remove_nth-last vs many) removed)
