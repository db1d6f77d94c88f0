use Rattle.std.proofs.Common.{◌≡◌, Ok, Some, length, sym, ap, ◌∙◌, subst}
use Rattle.seg_spec.specs.Value.{count}
use Rattle.lezgauri.specs.Place.{Place}
use Rattle.lezgauri_c.specs.Values.{WhereText, WhereVector, WhereList, WhereMap}
use Rattle.lezgauri_c.proofs.ReadLaws.{on_image, tells_ok}
use Rattle.lezgauri_c.specs.KeptImages.{types_in}
use Rattle.lezgauri_c.proofs.reading_values.lezgauri_raw_len.Goals as goal

pub returns-clause-text : goal.returns-clause-text
returns-clause-text c sound same =
    let reader = c.reader-reader.result in
    let bytes_is = c.reader-reader.ensures.image ∙ c.in-Ok.ensures.image in
    let table_is = c.in-Ok.ensures.types ∙ ap Some (sym c.reader-reader.ensures.types) in
    let place = c.place_at-place.result in
    let counted = c.len-returned.result in
    let is = on_image c.args.image.now reader.view.bytes.now c.args.types.now (types_in reader) bytes_is table_is (λ b t p. WhereText b t place (λ xs blocks. counted ≡ Ok (length xs))) (λ p. c.len-returned.ensures.text) sound same in
    subst (λ (q : Place). WhereText c.args.image.now sound.picture.table q (λ xs blocks. (c.tell.result ≡ 0) × (c.tell.new.value ≡ length xs))) c.place_at-place.ensures
    (λ xs blocks has. tells_ok c.tell.result c.tell.new.value (length xs) counted c.tell.ensures.told (is xs blocks has))

pub returns-clause-vector : goal.returns-clause-vector
returns-clause-vector c sound same =
    let reader = c.reader-reader.result in
    let bytes_is = c.reader-reader.ensures.image ∙ c.in-Ok.ensures.image in
    let table_is = c.in-Ok.ensures.types ∙ ap Some (sym c.reader-reader.ensures.types) in
    let place = c.place_at-place.result in
    let counted = c.len-returned.result in
    let is = on_image c.args.image.now reader.view.bytes.now c.args.types.now (types_in reader) bytes_is table_is (λ b t p. WhereVector b t place (λ U vs blocks. counted ≡ Ok (count vs))) (λ p. c.len-returned.ensures.vector) sound same in
    subst (λ (q : Place). WhereVector c.args.image.now sound.picture.table q (λ U vs blocks. (c.tell.result ≡ 0) × (c.tell.new.value ≡ count vs))) c.place_at-place.ensures
    (λ U vs blocks has. tells_ok c.tell.result c.tell.new.value (count vs) counted c.tell.ensures.told (is U vs blocks has))

pub returns-clause-list : goal.returns-clause-list
returns-clause-list c sound same =
    let reader = c.reader-reader.result in
    let bytes_is = c.reader-reader.ensures.image ∙ c.in-Ok.ensures.image in
    let table_is = c.in-Ok.ensures.types ∙ ap Some (sym c.reader-reader.ensures.types) in
    let place = c.place_at-place.result in
    let counted = c.len-returned.result in
    let is = on_image c.args.image.now reader.view.bytes.now c.args.types.now (types_in reader) bytes_is table_is (λ b t p. WhereList b t place (λ U vs blocks. counted ≡ Ok (count vs))) (λ p. c.len-returned.ensures.list) sound same in
    subst (λ (q : Place). WhereList c.args.image.now sound.picture.table q (λ U vs blocks. (c.tell.result ≡ 0) × (c.tell.new.value ≡ count vs))) c.place_at-place.ensures
    (λ U vs blocks has. tells_ok c.tell.result c.tell.new.value (count vs) counted c.tell.ensures.told (is U vs blocks has))

pub returns-clause-keys : goal.returns-clause-keys
returns-clause-keys c sound same =
    let reader = c.reader-reader.result in
    let bytes_is = c.reader-reader.ensures.image ∙ c.in-Ok.ensures.image in
    let table_is = c.in-Ok.ensures.types ∙ ap Some (sym c.reader-reader.ensures.types) in
    let place = c.place_at-place.result in
    let counted = c.len-returned.result in
    let is = on_image c.args.image.now reader.view.bytes.now c.args.types.now (types_in reader) bytes_is table_is
    (λ b t p. WhereMap b t place (λ U keys vs blocks. counted ≡ Ok (length keys))) (λ p. c.len-returned.ensures.keys) sound same in
    subst (λ (q : Place). WhereMap c.args.image.now sound.picture.table q (λ U keys vs blocks. (c.tell.result ≡ 0) × (c.tell.new.value ≡ length keys))) c.place_at-place.ensures
    (λ U keys vs blocks form stands. tells_ok c.tell.result c.tell.new.value (length keys) counted c.tell.ensures.told (is U keys vs blocks form stands))
