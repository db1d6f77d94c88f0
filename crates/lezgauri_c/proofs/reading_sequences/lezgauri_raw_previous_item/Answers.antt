use Rattle.std.proofs.Common.{ℕ, Some, sym, ap, ◌∙◌, subst}
use Rattle.lezgauri.specs.Place.{Place}
use Rattle.lezgauri.specs.CellPlaces.{place_of}
use Rattle.seg_seq.specs.Sequences.{ShowsItem}
use Rattle.lezgauri.specs.Places.{found_position}
use Rattle.lezgauri_c.specs.Values.{stored_in, ReturnsPlace, WhereList, ShowsPrevious}
use Rattle.lezgauri_c.proofs.ReadLaws.{on_image}
use Rattle.lezgauri_c.specs.KeptImages.{types_in}
use Rattle.lezgauri_c.proofs.reading_sequences.lezgauri_raw_previous_item.Goals as goal

pub returns-clause-previous : goal.returns-clause-previous
returns-clause-previous c sound same =
    let reader = c.reader-reader.result in
    let bytes_is = c.reader-reader.ensures.image ∙ c.in-Ok.ensures.image in
    let table_is = c.in-Ok.ensures.types ∙ ap Some (sym c.reader-reader.ensures.types) in
    let list = c.place_at-list.result in
    let image = c.args.image.now in
    let table = sound.picture.table in
    let found = c.previous_item-returned.result in
    let is = on_image image reader.view.bytes.now c.args.types.now (types_in reader) bytes_is table_is
    (λ b t p. WhereList b t list (λ U vs blocks. (i : ℕ) → ShowsItem (stored_in b t) (place_of list) U i c.args.item → ShowsPrevious (stored_in b t) (place_of list) U i (found_position found)))
    (λ p U vs blocks has i shows. c.previous_item-returned.ensures.previous U i vs blocks has shows) sound same in
    subst (λ (place : Place). WhereList image table place (λ U vs blocks. (i : ℕ) → ShowsItem (stored_in image table) (place_of place) U i c.args.item →
    ReturnsPlace c.give.result c.args.previous.now c.give.new.place (λ r. ShowsPrevious (stored_in image table) (place_of place) U i (found_position r)))) c.place_at-list.ensures
    (λ U vs blocks has i shows. (found, c.give.ensures.told, is U vs blocks has i shows))
