use Rattle.std.proofs.Common.{rules, ◌≡◌, Err, Some, ap, ◌∙◌, w64}
use Rattle.std.proofs.lemmas.Int.{to_z-of_z}
use Rattle.seg_map.specs.Maps.{first_of, keys_above}
use Rattle.seg_map.proofs.map.next_key.Goals as goal

pub returns-clause-next : goal.returns-clause-next
returns-clause-next g c = λ U keys vs blocks m s.
    let found = c.in_ok-entry.ensures.next U keys vs blocks m s in
    ap Some (to_z-of_z w64 c.in_ok-entry.entry.key (search rules)) ∙ found.key_is ∙ ap (λ k. first_of (keys_above keys k)) (to_z-of_z w64 c.args.after c.ranges.after)

pub returns-in_err-entry-clause-next : goal.returns-in_err-entry-clause-next
returns-in_err-entry-clause-next g c = λ U keys vs blocks m s.
    let none : c.from_residual.result ≡ Err c.in_err-entry.field-0.0 = search rules in
    let found = c.in_err-entry.ensures.next U keys vs blocks m s in
    rw none (found.key_is ∙ ap (λ k. first_of (keys_above keys k)) (to_z-of_z w64 c.args.after c.ranges.after))
