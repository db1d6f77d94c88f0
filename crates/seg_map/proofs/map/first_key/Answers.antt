use Rattle.std.proofs.Common.{rules, ◌≡◌, Err, Some, ap, ◌∙◌, w64}
use Rattle.std.proofs.lemmas.Int.{to_z-of_z}
use Rattle.seg_map.proofs.map.first_key.Goals as goal

pub returns-clause-first : goal.returns-clause-first
returns-clause-first g c = λ U keys vs blocks m s.
    let found = c.in_ok-entry.ensures.first U keys vs blocks m s in
    ap Some (to_z-of_z w64 c.in_ok-entry.entry.key (search rules)) ∙ found.key_is

pub returns-in_err-entry-clause-first : goal.returns-in_err-entry-clause-first
returns-in_err-entry-clause-first g c = λ U keys vs blocks m s.
    let none : c.from_residual.result ≡ Err c.in_err-entry.field-0.0 = search rules in
    let found = c.in_err-entry.ensures.first U keys vs blocks m s in
    rw none (found.key_is)
