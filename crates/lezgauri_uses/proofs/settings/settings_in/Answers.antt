use Rattle.std.proofs.Common.{◌≡◌, w64, rules, Some, refl, sym, ap, ◌∙◌, subst}
use Rattle.std.proofs.lemmas.Int.{to_z-of_z}
use Rattle.seg_spec.specs.Bytes.{slice}
use Rattle.seg_spec.specs.Reads.{start, count_at}
use Rattle.seg_spec.specs.Types.{Table, Form, form_at}
use Rattle.lezgauri.specs.Place.{Place}
use Rattle.lezgauri.specs.Images.{types_of, bytes_in}
use Rattle.lezgauri_uses.specs.Tables.{numbers_at, greeting_at}
use Rattle.lezgauri_uses.specs.Settings.{entries_of}
use Rattle.lezgauri_uses.proofs.TableLaws.{read_greeting, same_ok, failed}
use Rattle.lezgauri_uses.proofs.settings.settings_in.Goals as goal

pub returns-in_err-numbers : goal.returns-in_err-numbers
returns-in_err-numbers c settings at is = absurd (failed _ _ refl (c.in_err-numbers.ensures at (entries_of settings) settings.greeting.items is))

pub returns-in_err-number_of : goal.returns-in_err-number_of
returns-in_err-number_of c settings at is =
    let parts = same_ok (c.in_ok-numbers.numbers, c.in_ok-numbers.greeting) (numbers_at at, greeting_at at) refl (c.in_ok-numbers.ensures at (entries_of settings) settings.greeting.items is) in
    absurd (failed _ _ refl (c.in_err-number_of.ensures at (entries_of settings) settings.greeting.items settings.limit is (ap (λ (x : Place × Place). x.0) parts) refl))

pub returns-in_err-number_of-2 : goal.returns-in_err-number_of-2
returns-in_err-number_of-2 c settings at is =
    let parts = same_ok (c.in_ok-numbers.numbers, c.in_ok-numbers.greeting) (numbers_at at, greeting_at at) refl (c.in_ok-numbers.ensures at (entries_of settings) settings.greeting.items is) in
    absurd (failed _ _ refl (c.in_err-number_of-2.ensures at (entries_of settings) settings.greeting.items settings.port is (ap (λ (x : Place × Place). x.0) parts) refl))

pub returns-in_err-text : goal.returns-in_err-text
returns-in_err-text c settings at is =
    let parts = same_ok (c.in_ok-numbers.numbers, c.in_ok-numbers.greeting) (numbers_at at, greeting_at at) refl (c.in_ok-numbers.ensures at (entries_of settings) settings.greeting.items is) in
    let place : c.in_ok-numbers.greeting ≡ greeting_at at = ap (λ (x : Place × Place). x.1) parts in
    let text : form_at (types_of c.args.image.now) c.in_ok-numbers.greeting.type_id ≡ Some Form.str =
    subst (λ (p : Place). form_at (types_of c.args.image.now) p.type_id ≡ Some Form.str) (sym place) (subst (λ (t : Table). form_at t 1 ≡ Some Form.str) (sym is.table_is) refl) in
    absurd (c.in_err-text.ensures.bytes.1 text)

pub returns : goal.returns
returns c settings at is =
    let parts = same_ok (c.in_ok-numbers.numbers, c.in_ok-numbers.greeting) (numbers_at at, greeting_at at) refl (c.in_ok-numbers.ensures at (entries_of settings) settings.greeting.items is) in
    let numbers : c.in_ok-numbers.numbers ≡ numbers_at at = ap (λ (x : Place × Place). x.0) parts in
    let place : c.in_ok-numbers.greeting ≡ greeting_at at = ap (λ (x : Place × Place). x.1) parts in
    let limit = same_ok _ _ refl (c.in_ok-number_of.ensures at (entries_of settings) settings.greeting.items settings.limit is numbers refl) in
    let port = same_ok _ _ refl (c.in_ok-number_of-2.ensures at (entries_of settings) settings.greeting.items settings.port is numbers refl) in
    let bytes = bytes_in c.args.image.now in
    let text = ap (λ (p : Place). slice bytes (start bytes p.at) (count_at bytes p.at)) place ∙ read_greeting c.args.image.now at (entries_of settings) settings.greeting.items is in
    record {
      limit = to_z-of_z w64 c.in_ok-number_of.field-0 (search rules) ∙ limit;
      port = to_z-of_z w64 c.in_ok-number_of-2.field-0 (search rules) ∙ port;
      greeting = c.in_ok-from_slice.ensures.items ∙ c.in_ok-text.ensures.bytes.1 ∙ text;
    }
