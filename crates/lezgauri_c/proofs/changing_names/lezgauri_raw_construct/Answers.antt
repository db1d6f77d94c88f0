use Rattle.std.proofs.Common.{◌≡◌, sym, subst, ℕ}
use Rattle.lezgauri.specs.Images.{bytes_in}
use Rattle.lezgauri_c.specs.Changes.{GivesPlace}
use Rattle.lezgauri_c.specs.ImageChanges.{Constructs}
use Rattle.lezgauri_c.proofs.ChangeLaws.{calls, still_sound, still_same, same_memory, same_types, opened_now}
use Rattle.lezgauri_c.proofs.NamedChangeLaws.{construct_sound, construct_kept}
use Rattle.lezgauri_c.proofs.changing_names.lezgauri_raw_construct.Goals as goal

pub returns-clause-constructs : goal.returns-clause-constructs
returns-clause-constructs c =
    let opened = c.deref_mut.result.now.image in
    let on = opened_now c.deref_mut.ensures.value c.in-Ok.ensures.opened in
    let left = c.construct-returned.new.self in
    let left_is : bytes_in left ≡ c.close_image.new.lent.bytes = sym c.close_image.ensures.bytes in
    subst (λ (T : ℕ). GivesPlace c.args.image.now.bytes c.close_image.new.lent.bytes c.args.types.now c.give.result c.args.place.now c.give.new.place (Constructs c.args.name.now T c.args.count)) c.type_number-t.ensures
    (calls c.args.types.now opened left on.bytes left_is on.opened c.construct-returned.result c.give.ensures.number c.give.ensures.told (record {
      bytes = c.construct-returned.ensures.bytes;
      of_type = c.construct-returned.ensures.of_type;
      unknown = c.construct-returned.ensures.unknown;
      tells = c.construct-returned.ensures.tells;
      makes = c.construct-returned.ensures.makes;
      no_room = c.construct-returned.ensures.no_room;
    }))

pub returns-clause-sound : goal.returns-clause-sound
returns-clause-sound c =
    let opened = c.deref_mut.result.now.image in
    let on = opened_now c.deref_mut.ensures.value c.in-Ok.ensures.opened in
    let left = c.construct-returned.new.self in
    let left_is : bytes_in left ≡ c.close_image.new.lent.bytes = sym c.close_image.ensures.bytes in
    let it : Constructs c.args.name.now c.type_number-t.result c.args.count opened left c.construct-returned.result = record {
      bytes = c.construct-returned.ensures.bytes;
      of_type = c.construct-returned.ensures.of_type;
      unknown = c.construct-returned.ensures.unknown;
      tells = c.construct-returned.ensures.tells;
      makes = c.construct-returned.ensures.makes;
      no_room = c.construct-returned.ensures.no_room;
    } in
    still_sound c.args.types.now opened left on.bytes left_is on.opened
    (λ picture held none. construct_sound opened left picture held c.args.name.now c.type_number-t.result c.args.count c.construct-returned.result it none)

pub returns-clause-kept : goal.returns-clause-kept
returns-clause-kept c some other sound same =
    let opened = c.deref_mut.result.now.image in
    let on = opened_now c.deref_mut.ensures.value c.in-Ok.ensures.opened in
    let left = c.construct-returned.new.self in
    let left_is : bytes_in left ≡ c.close_image.new.lent.bytes = sym c.close_image.ensures.bytes in
    let it : Constructs c.args.name.now c.type_number-t.result c.args.count opened left c.construct-returned.result = record {
      bytes = c.construct-returned.ensures.bytes;
      of_type = c.construct-returned.ensures.of_type;
      unknown = c.construct-returned.ensures.unknown;
      tells = c.construct-returned.ensures.tells;
      makes = c.construct-returned.ensures.makes;
      no_room = c.construct-returned.ensures.no_room;
    } in
    still_same c.args.types.now opened left on.bytes left_is on.opened
    (λ picture held. construct_kept opened left picture held c.args.name.now c.type_number-t.result c.args.count c.give.result c.args.place.now c.give.new.place c.construct-returned.result c.give.ensures.told some other it) sound same

pub returns-clause-home : goal.returns-clause-home
returns-clause-home c = same_memory c.deref_mut.result.now.image c.construct-returned.new.self (opened_now c.deref_mut.ensures.value c.in-Ok.ensures.opened).home c.construct-returned.ensures.bytes c.close_image.ensures.home

pub returns-clause-same : goal.returns-clause-same
returns-clause-same c =
    same_types c.args.types.now c.close_image.new.types c.deref_mut.result.now.image c.construct-returned.new.self
    (opened_now c.deref_mut.ensures.value c.in-Ok.ensures.opened).types_are c.construct-returned.ensures.bytes c.close_image.ensures.types
