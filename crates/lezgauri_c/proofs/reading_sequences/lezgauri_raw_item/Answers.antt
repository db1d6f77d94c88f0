use Rattle.std.proofs.Common.{Some, sym, ap, ◌∙◌, subst}
use Rattle.std.specs.Prelude.{MatchResult}
use Rattle.seg_spec.specs.Value.{count}
use Rattle.lezgauri.specs.Place.{Place}
use Rattle.lezgauri.specs.CellPlaces.{place_of}
use Rattle.seg_seq.specs.Sequences.{IsPast, ShowsItem}
use Rattle.lezgauri.specs.Places.{found_position}
use Rattle.lezgauri_c.specs.Values.{stored_in, ReturnsPlace, WhereVector, WhereList}
use Rattle.lezgauri_c.proofs.ReadLaws.{on_image}
use Rattle.lezgauri_c.specs.KeptImages.{types_in}
use Rattle.lezgauri_c.proofs.reading_sequences.lezgauri_raw_item.Goals as goal

pub returns-clause-vector : goal.returns-clause-vector
returns-clause-vector c sound same =
    let reader = c.reader-reader.result in
    let bytes_is = c.reader-reader.ensures.image ∙ c.in-Ok.ensures.image in
    let table_is = c.in-Ok.ensures.types ∙ ap Some (sym c.reader-reader.ensures.types) in
    let sequence = c.place_at-sequence.result in
    let image = c.args.image.now in
    let table = sound.picture.table in
    let found = c.item-returned.result in
    let is = on_image image reader.view.bytes.now c.args.types.now (types_in reader) bytes_is table_is
    (λ b t p. WhereVector b t sequence (λ U vs blocks. MatchResult (found_position found) (ShowsItem (stored_in b t) (place_of sequence) U c.args.index) (IsPast c.args.index (count vs)))) (λ p. c.item-returned.ensures.vector) sound same in
    subst (λ (place : Place). WhereVector image table place (λ U vs blocks. ReturnsPlace c.give.result c.args.item.now c.give.new.place
    (λ r. MatchResult (found_position r) (ShowsItem (stored_in image table) (place_of place) U c.args.index) (IsPast c.args.index (count vs))))) c.place_at-sequence.ensures
    (λ U vs blocks has. (found, c.give.ensures.told, is U vs blocks has))

pub returns-clause-list : goal.returns-clause-list
returns-clause-list c sound same =
    let reader = c.reader-reader.result in
    let bytes_is = c.reader-reader.ensures.image ∙ c.in-Ok.ensures.image in
    let table_is = c.in-Ok.ensures.types ∙ ap Some (sym c.reader-reader.ensures.types) in
    let sequence = c.place_at-sequence.result in
    let image = c.args.image.now in
    let table = sound.picture.table in
    let found = c.item-returned.result in
    let is = on_image image reader.view.bytes.now c.args.types.now (types_in reader) bytes_is table_is
    (λ b t p. WhereList b t sequence (λ U vs blocks. MatchResult (found_position found) (ShowsItem (stored_in b t) (place_of sequence) U c.args.index) (IsPast c.args.index (count vs)))) (λ p. c.item-returned.ensures.list) sound same in
    subst (λ (place : Place). WhereList image table place (λ U vs blocks. ReturnsPlace c.give.result c.args.item.now c.give.new.place
    (λ r. MatchResult (found_position r) (ShowsItem (stored_in image table) (place_of place) U c.args.index) (IsPast c.args.index (count vs))))) c.place_at-sequence.ensures
    (λ U vs blocks has. (found, c.give.ensures.told, is U vs blocks has))
