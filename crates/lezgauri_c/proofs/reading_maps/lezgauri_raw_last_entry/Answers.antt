use Rattle.std.proofs.Common.{◌≡◌, true, Some, sym, ap, ◌∙◌, subst}
use Rattle.std.specs.Prelude.{IsOkUnless}
use Rattle.std.specs.Result.{result_ok}
use Rattle.seg_spec.specs.Types.{form_at}
use Rattle.seg_raw.specs.declared.code.Code.TheVariants as code
use Rattle.lezgauri.specs.Place.{Place}
use Rattle.lezgauri.specs.CellPlaces.{place_of}
use Rattle.lezgauri.specs.EitherMap.{has_keys}
use Rattle.lezgauri.specs.Maps.{FindsEntry, last_of}
use Rattle.lezgauri.specs.Places.{found_entry}
use Rattle.lezgauri_c.specs.Values.{entry_in, TellsOption, WhereMap}
use Rattle.lezgauri_c.proofs.ReadLaws.{on_image, tells_entry, map_keys}
use Rattle.lezgauri_c.specs.KeptImages.{types_in}
use Rattle.lezgauri_c.proofs.reading_maps.lezgauri_raw_last_entry.Goals as goal

pub returns-clause-last : goal.returns-clause-last
returns-clause-last c sound same =
    let reader = c.reader-reader.result in
    let bytes_is = c.reader-reader.ensures.image ∙ c.in-Ok.ensures.image in
    let table_is = c.in-Ok.ensures.types ∙ ap Some (sym c.reader-reader.ensures.types) in
    let map = c.place_at-map.result in
    let image = c.args.image.now in
    let table = sound.picture.table in
    let found = c.last_entry-returned.result in
    let is = on_image image reader.view.bytes.now c.args.types.now (types_in reader) bytes_is table_is
    (λ b t p. WhereMap b t map (λ U keys vs blocks.
    FindsEntry b t (place_of map) U (last_of keys) (result_ok (found_entry found)))) (λ p. c.last_entry-returned.ensures.last) sound same in
    let only = on_image image reader.view.bytes.now c.args.types.now (types_in reader) bytes_is table_is
    (λ b t p. has_keys (form_at t map.type_id) ≡ true → IsOkUnless (found_entry found) code.Null) (λ p. c.last_entry-returned.ensures.code) sound same in
    subst (λ (place : Place). WhereMap image table place (λ U keys vs blocks.
    TellsOption c.give_entry.result 116 (entry_in c.give_entry.new.key c.give_entry.new.place) (FindsEntry image table (place_of place) U (last_of keys)))) c.place_at-map.ensures
    (λ U keys vs blocks form stands.
    tells_entry code.Null c.give_entry.result c.give_entry.new.key c.give_entry.new.place found (FindsEntry image table (place_of map) U (last_of keys)) c.give_entry.ensures.told
    (only (map_keys (form_at table map.type_id) U form)) (is U keys vs blocks form stands))
