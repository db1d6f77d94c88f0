use Rattle.std.proofs.Common.{◌≡◌, Result, Ok, Err}
use Rattle.lezgauri.specs.Place.{Place}
use Rattle.lezgauri.specs.Code.{Code}
use Rattle.lezgauri_uses.specs.Tables.{table_value, picture_of, table_at, numbers_at, greeting_at}
use Rattle.lezgauri_uses.proofs.TableLaws.{numbers_field, greeting_field}
use Rattle.lezgauri_uses.proofs.settings.parts_of.Goals as goal

same_place : (p q : Place) → (let r : Result Place Code = Ok p in r ≡ Ok q) → p ≡ q
same_place p q is = cc

pub returns-in_err-table : goal.returns-in_err-table
returns-in_err-table c at entries greeting is = absurd (let found = c.in_err-table.ensures (picture_of at (table_value entries greeting)) is in cc)

pub returns-in_err-field : goal.returns-in_err-field
returns-in_err-field c at entries greeting is =
    let table : c.in_ok-table.table ≡ table_at at = same_place c.in_ok-table.table (table_at at) (c.in_ok-table.ensures (picture_of at (table_value entries greeting)) is) in
    absurd (let found = numbers_field c.args.image.now at entries greeting is c.in_ok-table.table table (Err c.in_err-field.field-0.0) c.in_err-field.ensures in cc)

pub returns-in_err-field-2 : goal.returns-in_err-field-2
returns-in_err-field-2 c at entries greeting is =
    let table : c.in_ok-table.table ≡ table_at at = same_place c.in_ok-table.table (table_at at) (c.in_ok-table.ensures (picture_of at (table_value entries greeting)) is) in
    absurd (let found = greeting_field c.args.image.now at entries greeting is c.in_ok-table.table table (Err c.in_err-field-2.field-0.0) c.in_err-field-2.ensures in cc)

pub returns : goal.returns
returns c at entries greeting is =
    let table : c.in_ok-table.table ≡ table_at at = same_place c.in_ok-table.table (table_at at) (c.in_ok-table.ensures (picture_of at (table_value entries greeting)) is) in
    let numbers = same_place c.in_ok-field.field-0 (numbers_at at) (numbers_field c.args.image.now at entries greeting is c.in_ok-table.table table (Ok c.in_ok-field.field-0) c.in_ok-field.ensures) in
    let text = same_place c.in_ok-field-2.field-0 (greeting_at at) (greeting_field c.args.image.now at entries greeting is c.in_ok-table.table table (Ok c.in_ok-field-2.field-0) c.in_ok-field-2.ensures) in
    cc
