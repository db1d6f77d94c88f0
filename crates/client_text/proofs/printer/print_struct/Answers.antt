use Rattle.std.proofs.Common.{map, ◌∷◌, []}
use Rattle.client_spec.specs.Text.{type_word}
use Rattle.client_text.proofs.CanonicalLineLaws.{on_ok, pushed, struct_line}
use Rattle.client_text.proofs.printer.print_struct.Goals as goal

pub returns : goal.returns
unfolding lib.Utf8.encode
returns g c =
    on_ok c.push.result _ _ (struct_line (map type_word c.args.fields.now) c.args.text.now.bytes.items _ _ _ c.in_ok-push_str.ensures.bytes c.in_ok-print_fields.ensures) (pushed c.push.result _ (10 ∷ []) _ c.push.ensures.bytes)
