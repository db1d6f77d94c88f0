use Rattle.std.proofs.Common.{◌≡◌, ◌<◌, ℕ, None, Some, length, sym, ap, ◌∙◌, subst}
use Rattle.std.specs.Prelude.{MatchResult}
use Rattle.seg_raw.specs.declared.code.Code.TheVariants as code
use Rattle.seg_manager.specs.Segments.{unique_at}
use Rattle.lezgauri.specs.Places.{found_position}
use Rattle.lezgauri_c.specs.Values.{at_in, TellsOption}
use Rattle.lezgauri_c.proofs.ReadLaws.{on_sound, tells_at}
use Rattle.lezgauri_c.specs.KeptImages.{types_in}
use Rattle.lezgauri_c.proofs.reading_names.lezgauri_raw_find_unique.Goals as goal

pub returns-clause-finds : goal.returns-clause-finds
returns-clause-finds c sound same =
    let reader = c.reader-reader.result in
    let bytes_is = c.reader-reader.ensures.image ∙ c.in-Ok.ensures.image in
    let table_is = c.in-Ok.ensures.types ∙ ap Some (sym c.reader-reader.ensures.types) in
    let T = c.type_number-t.result in
    let found = c.find_unique-returned.result in
    let finds = on_sound c.args.image.now reader.view.bytes.now c.args.types.now (types_in reader) bytes_is table_is
    (λ b t p. T < length t → MatchResult (found_position found) (λ at. unique_at p T ≡ Some at) (λ error. (error ≡ code.Absent) × (unique_at p T ≡ None))) c.find_unique-returned.ensures.finds sound same in
    subst (λ (n : ℕ). n < length sound.picture.table → TellsOption c.give.result 113 c.give.new.place (λ place. at_in place ≡ unique_at sound.picture n)) c.type_number-t.ensures
    (λ small. tells_at code.Absent c.give.result c.args.place.now c.give.new.place found (unique_at sound.picture T) c.give.ensures.told (finds small))
