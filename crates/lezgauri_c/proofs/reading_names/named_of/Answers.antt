use Rattle.std.proofs.Common.{◌≡◌, ◌+◌, ◌*◌, ℕ, Option, Some, None, length, sym, ap, ◌∙◌}
use Rattle.seg_spec.specs.Bytes.{slice}
use Rattle.seg_spec.specs.Types.{Table, size}
use Rattle.seg_spec.specs.Value.{count}
use Rattle.seg_cells.specs.declared.name_entry.NameEntry.{NameEntry}
use Rattle.seg_manager.proofs.NamedReads.{entry_type, entry_count}
use Rattle.lezgauri_c.specs.KeptImages.{types_in}
use Rattle.lezgauri_c.proofs.reading_names.named_of.Goals as goal

not_none : (o : Option ℕ) (a : ℕ) → o ≡ None → o ≡ Some a → ⊥
not_none o a e some = let both : None ≡ Some a = sym e ∙ some in cc

same_some : (a b : ℕ) → Some a ≡ Some b → a ≡ b
same_some a b e = cc

pub returns-in_err-type_id-clause-named : goal.returns-in_err-type_id-clause-named
returns-in_err-type_id-clause-named c root named small is =
    let type_is = c.type_in.ensures ∙ entry_type c.args.reader.view.bytes.now (types_in c.args.reader) root c.args.entry named small is in
    absurd (not_none c.type_in.result root.type c.in_err-type_id.was type_is)

pub returns-clause-named : goal.returns-clause-named
returns-clause-named c root named small is =
    let bytes = c.args.reader.view.bytes.now in
    let table = (types_in c.args.reader) in
    let type_is = same_some c.in_ok-type_id.type_id root.type (sym c.in_ok-type_id.was ∙ c.type_in.ensures ∙ entry_type bytes table root c.args.entry named small is) in
    let count_is = entry_count bytes table root c.args.entry named small is in
    let object_is : c.in_ok-object.object ≡ root.at = same_some c.in_ok-object.object root.at (sym c.in_ok-object.was ∙ ap (λ (e : NameEntry). e.object) is) in
    let size_is : c.size.result ≡ size table root.type = c.size.ensures.value ∙ ap (λ (t : Table). size t c.in_ok-type_id.type_id) c.types.ensures ∙ ap (size table) type_is in
    let values_is : c.values_len-values.result ≡ count root.values * size table root.type =
    c.values_len-values.ensures.len ∙ ap (λ n. n * c.size.result) count_is ∙ ap (λ n. count root.values * n) size_is in
    let len_is : c.from.result ≡ length root.name = c.from.ensures ∙ ap (λ (e : NameEntry). e.name_len) is in (
      c.range_in.ensures.bytes ∙ ap (λ n. slice bytes (n + c.values_len-values.result) c.from.result) object_is ∙ ap (λ n. slice bytes (root.at + n) c.from.result) values_is
          ∙ ap (slice bytes (root.at + count root.values * size table root.type)) len_is ∙ named.name_is,
      c.from-2.ensures ∙ type_is,
      c.from-3.ensures ∙ count_is,
    )
