use Rattle.std.proofs.Common.{Some, sym, ap, ◌∙◌, subst}
use Rattle.seg_raw.specs.declared.code.Code.TheVariants as code
use Rattle.seg_index.specs.Lists.{root_after}
use Rattle.lezgauri_c.specs.Names.{ReportsRoot}
use Rattle.lezgauri_c.specs.Values.{Tells}
use Rattle.lezgauri_c.proofs.ReadLaws.{on_sound, tells_found}
use Rattle.lezgauri_c.specs.KeptImages.{types_in}
use Rattle.lezgauri_c.proofs.reading_names.lezgauri_raw_next_name.Goals as goal

pub returns-clause-next : goal.returns-clause-next
returns-clause-next c sound same =
    let reader = c.reader-reader.result in
    let found = c.next_named-returned.result in
    let reported = on_sound c.args.image.now reader.view.bytes.now c.args.types.now (types_in reader) (c.reader-reader.ensures.image ∙ c.in-Ok.ensures.image) (c.in-Ok.ensures.types ∙ ap Some (sym c.reader-reader.ensures.types))
    (λ b t p. ReportsRoot b (root_after p.names c.args.after.now) found) c.next_named-returned.ensures.next sound same in
    tells_found code.Null c.tell.result c.tell.new.value found (ReportsRoot c.args.image.now (root_after sound.picture.names c.args.after.now))
    (subst (Tells c.tell.result c.tell.new.value) c.ok_or.ensures.value c.tell.ensures.told) reported
