use Rattle.std.proofs.Common.{◌≡◌, ℤ, Option, Some, sym, ap, ◌∙◌, subst, w64}
use Rattle.std.proofs.lemmas.Int.{to_z-of_z}
use Rattle.std.specs.Prelude.{IfOk, IfErr, false}
use Rattle.seg_spec.specs.Types.{form_at}
use Rattle.std.specs.Bool.{then_some}
use Rattle.lezgauri.specs.Place.{Place}
use Rattle.lezgauri.specs.EitherMap.{has_keys}
use Rattle.lezgauri.specs.Iterators.{keys_after}
use Rattle.lezgauri_c.specs.Entries.{FillsEntries}
use Rattle.lezgauri_c.specs.KeptImages.{types_in}
use Rattle.lezgauri_c.specs.Values.{WhereMap}
use Rattle.lezgauri_c.proofs.ReadLaws.{on_image}
use Rattle.lezgauri_c.proofs.EntryLaws.{tells_filled}
use Rattle.lezgauri_c.proofs.reading_entries.lezgauri_raw_next_entries.Goals as goal

pub returns-clause-fills : goal.returns-clause-fills
returns-clause-fills c sound same =
    let reader = c.reader-reader.result in
    let bytes_is = c.reader-reader.ensures.image ∙ c.in-Ok.ensures.image in
    let table_is = c.in-Ok.ensures.types ∙ ap Some (sym c.reader-reader.ensures.types) in
    let map = c.place_at-map.result in
    let image = c.args.image.now in
    let table = sound.picture.table in
    let filled = c.fill-returned.result in
    let after = c.then_some-after.result in
    let old = c.args.entries.now in
    let new = c.fill-returned.new.entries in
    let fills = on_image image reader.view.bytes.now c.args.types.now (types_in reader) bytes_is table_is
    (λ b t p. WhereMap b t map (λ U keys vs blocks. IfOk filled (λ count. FillsEntries b t map U keys (keys_after keys after) old new count))) (λ p. c.fill-returned.ensures.fills) sound same in
    let none = on_image image reader.view.bytes.now c.args.types.now (types_in reader) bytes_is table_is
    (λ b t p. IfErr filled (λ code. has_keys (form_at t map.type_id) ≡ false)) (λ p. c.fill-returned.ensures.some) sound same in
    let Told : Place → Option ℤ → Type 0 =
    λ place last. WhereMap image table place (λ U keys vs blocks. (c.tell.result ≡ 0) × FillsEntries image table place U keys (keys_after keys last) old new c.tell.new.value) in
    let told : Told map after =
    λ U keys vs blocks form stands.
    let claim = FillsEntries image table map U keys (keys_after keys after) old new in
    tells_filled (form_at table map.type_id) U c.tell.result c.tell.new.value filled claim form none c.tell.ensures.told (fills U keys vs blocks form stands) in
    let last_is = c.then_some-after.ensures ∙ ap (then_some c.args.is_after) (to_z-of_z w64 c.args.after c.ranges.after) in
    subst (λ (place : Place). Told place (then_some c.args.is_after c.args.after)) c.place_at-map.ensures (subst (λ (last : Option ℤ). Told map last) last_is told)
