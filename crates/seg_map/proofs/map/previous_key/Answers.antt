use Rattle.std.proofs.Common.{rules, ◌≡◌, Err, Some, ap, ◌∙◌, w64}
use Rattle.std.proofs.lemmas.Int.{to_z-of_z}
use Rattle.seg_map.specs.Maps.{last_of, lower_keys}
use Rattle.seg_map.proofs.map.previous_key.Goals as goal

pub returns-clause-previous : goal.returns-clause-previous
returns-clause-previous g c = λ U keys vs blocks m s.
    let found = c.in_ok-entry.ensures.previous U keys vs blocks m s in
    ap Some (to_z-of_z w64 c.in_ok-entry.entry.key (search rules)) ∙ found.key_is ∙ ap (λ k. last_of (lower_keys keys k)) (to_z-of_z w64 c.args.before c.ranges.before)

pub returns-in_err-entry-clause-previous : goal.returns-in_err-entry-clause-previous
returns-in_err-entry-clause-previous g c = λ U keys vs blocks m s.
    let none : c.from_residual.result ≡ Err c.in_err-entry.field-0.0 = search rules in
    let found = c.in_err-entry.ensures.previous U keys vs blocks m s in
    rw none (found.key_is ∙ ap (λ k. last_of (lower_keys keys k)) (to_z-of_z w64 c.args.before c.ranges.before))
