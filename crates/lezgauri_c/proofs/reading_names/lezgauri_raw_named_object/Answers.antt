use Rattle.std.proofs.Common.{Some, sym, ap, ◌∙◌, subst}
use Rattle.seg_raw.specs.declared.code.Code.TheVariants as code
use Rattle.seg_spec.specs.Index.{root_named}
use Rattle.lezgauri_c.specs.Names.{ReportsRoot}
use Rattle.lezgauri_c.specs.Values.{Tells}
use Rattle.lezgauri_c.proofs.ReadLaws.{on_sound, tells_found}
use Rattle.lezgauri_c.specs.KeptImages.{types_in}
use Rattle.lezgauri_c.proofs.reading_names.lezgauri_raw_named_object.Goals as goal

pub returns-clause-named : goal.returns-clause-named
returns-clause-named c sound same =
    let reader = c.reader-reader.result in
    let found = c.named_object-returned.result in
    let reported = on_sound c.args.image.now reader.view.bytes.now c.args.types.now (types_in reader) (c.reader-reader.ensures.image ∙ c.in-Ok.ensures.image) (c.in-Ok.ensures.types ∙ ap Some (sym c.reader-reader.ensures.types))
    (λ b t p. ReportsRoot b (root_named p.names c.args.name.now) found) c.named_object-returned.ensures.named sound same in
    tells_found code.Absent c.tell.result c.tell.new.value found (ReportsRoot c.args.image.now (root_named sound.picture.names c.args.name.now))
    (subst (Tells c.tell.result c.tell.new.value) c.ok_or.ensures.value c.tell.ensures.told) reported
