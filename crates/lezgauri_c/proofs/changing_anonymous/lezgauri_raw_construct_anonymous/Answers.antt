use Rattle.std.proofs.Common.{◌≡◌, sym, subst, ℕ}
use Rattle.lezgauri.specs.Images.{bytes_in}
use Rattle.lezgauri_c.specs.Changes.{GivesPlace}
use Rattle.lezgauri_c.specs.ImageChanges.{ConstructsAnonymous}
use Rattle.lezgauri_c.proofs.ChangeLaws.{calls, same_memory, same_types, opened_now}
use Rattle.lezgauri_c.proofs.changing_anonymous.lezgauri_raw_construct_anonymous.Goals as goal

pub returns-clause-constructs : goal.returns-clause-constructs
returns-clause-constructs c =
    let opened = c.deref_mut.result.now.image in
    let on = opened_now c.deref_mut.ensures.value c.in-Ok.ensures.opened in
    let left = c.construct_anonymous-returned.new.self in
    let left_is : bytes_in left ≡ c.close_image.new.lent.bytes = sym c.close_image.ensures.bytes in
    subst (λ (T : ℕ). GivesPlace c.args.image.now.bytes c.close_image.new.lent.bytes c.args.types.now c.give.result c.args.place.now c.give.new.place (ConstructsAnonymous T)) c.type_number-t.ensures
    (calls c.args.types.now opened left on.bytes left_is on.opened c.construct_anonymous-returned.result c.give.ensures.number c.give.ensures.told (record {
      bytes = c.construct_anonymous-returned.ensures.bytes;
      of_type = c.construct_anonymous-returned.ensures.of_type;
      unknown = c.construct_anonymous-returned.ensures.unknown;
      only_room = c.construct_anonymous-returned.ensures.code;
      makes = c.construct_anonymous-returned.ensures.makes;
    }))

pub returns-clause-home : goal.returns-clause-home
returns-clause-home c =
    same_memory c.deref_mut.result.now.image c.construct_anonymous-returned.new.self
    (opened_now c.deref_mut.ensures.value c.in-Ok.ensures.opened).home c.construct_anonymous-returned.ensures.bytes c.close_image.ensures.home

pub returns-clause-same : goal.returns-clause-same
returns-clause-same c =
    same_types c.args.types.now c.close_image.new.types c.deref_mut.result.now.image c.construct_anonymous-returned.new.self
    (opened_now c.deref_mut.ensures.value c.in-Ok.ensures.opened).types_are c.construct_anonymous-returned.ensures.bytes c.close_image.ensures.types
