use Rattle.std.proofs.Common.{◌≡◌, Some, refl, sym, ap, ◌∙◌, arith}
use Rattle.seg_spec.specs.Value.{count}
use Rattle.seg_seq.specs.Sequences.{item_type}
use Rattle.seg_image.proofs.read.ImageRead.items.Goals as goal

pub returns-clause-vector : goal.returns-clause-vector
returns-clause-vector g c = λ U vs blocks has.
    let e = c.in_ok-len.ensures.vector U vs blocks has in
    let same : c.in_ok-len.len ≡ count vs = cc in
    let typed : Some c.in_ok-item_type.item_type ≡ Some U = sym c.in_ok-item_type.ensures ∙ ap item_type has.form_is in
    record { item_type = cc; len = same; left = omega (arith, same); is_list = c.is_list_at.ensures; vector = λ e. refl; last = tt }

pub returns-clause-list : goal.returns-clause-list
returns-clause-list g c = λ U vs blocks has.
    let e = c.in_ok-len.ensures.list U vs blocks has in
    let same : c.in_ok-len.len ≡ count vs = cc in
    let typed : Some c.in_ok-item_type.item_type ≡ Some U = sym c.in_ok-item_type.ensures ∙ ap item_type has.form_is in
    record { item_type = cc; len = same; left = omega (arith, same); is_list = c.is_list_at.ensures; vector = λ e. refl; last = tt }
