use Rattle.std.proofs.Common.{ℤ, Option, sym, ap, ◌∙◌, subst, w64, rules}
use Rattle.std.specs.Result.{result_ok}
use Rattle.std.proofs.lemmas.Int.{to_z-of_z}
use Rattle.seg_value.specs.CellPlaces.{place_of}
use Rattle.seg_map.specs.Maps.{FindsEntry, first_of, keys_above}
use Rattle.seg_image.specs.Iterators.{keys_after}
use Rattle.seg_image.proofs.iterators.entry_after.Goals as goal

pub returns-in-Some-clause-next : goal.returns-in-Some-clause-next
returns-in-Some-clause-next g c = λ inside U keys vs blocks m s.
    let stored = g.S.SegmentRead.stored c.args.image.now in
    let same = ap (λ k. first_of (keys_above keys k)) (to_z-of_z w64 c.in-Some.key (search rules)) in
    let is = ap (λ (o : Option ℤ). first_of (keys_after keys o)) (sym c.in-Some.is) in
    subst (λ k. FindsEntry stored.window.bytes stored.types (place_of c.args.map) U k (result_ok c.next_entry_by.result)) (same ∙ is) (c.next_entry_by.ensures.next inside U keys vs blocks m s)

pub returns-in-None-clause-next : goal.returns-in-None-clause-next
returns-in-None-clause-next g c = λ inside U keys vs blocks m s.
    let stored = g.S.SegmentRead.stored c.args.image.now in
    let is = ap (λ (o : Option ℤ). first_of (keys_after keys o)) (sym c.in-None.is) in
    subst (λ k. FindsEntry stored.window.bytes stored.types (place_of c.args.map) U k (result_ok c.first_entry_by.result)) is (c.first_entry_by.ensures.first U keys vs blocks m s)
