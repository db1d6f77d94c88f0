use Rattle.std.proofs.Common.{◌≡◌, sym, ◌∙◌, subst, ℕ}
use Rattle.lezgauri.specs.Images.{bytes_in}
use Rattle.lezgauri_c.specs.Changes.{IsFound}
use Rattle.lezgauri_c.specs.ImageChanges.{DestroysNamed}
use Rattle.lezgauri_c.proofs.ChangeLaws.{calls, still_sound, same_memory, same_types, opened_now}
use Rattle.lezgauri_c.proofs.NamedChangeLaws.{destroy_sound, destroy_kept}
use Rattle.lezgauri_c.proofs.changing_names.lezgauri_raw_destroy.Goals as goal

pub returns-clause-destroys : goal.returns-clause-destroys
returns-clause-destroys c =
    let opened = c.deref_mut.result.now.image in
    let on = opened_now c.deref_mut.ensures.value c.in-Ok.ensures.opened in
    let left = c.destroy-returned.new.self in
    let left_is : bytes_in left ≡ c.close_image.new.lent.bytes = sym c.close_image.ensures.bytes in
    subst (λ (T : ℕ). IsFound c.args.image.now.bytes c.close_image.new.lent.bytes c.args.types.now c.found.result (DestroysNamed c.args.name.now T)) c.type_number-t.ensures
    (calls c.args.types.now opened left on.bytes left_is on.opened c.destroy-returned.result c.found.ensures.number c.found.ensures.told (record {
      bytes = c.destroy-returned.ensures.bytes;
      tells = c.destroy-returned.ensures.tells;
      loses = c.destroy-returned.ensures.loses;
      unchanged = c.destroy-returned.ensures.unchanged;
    }))

pub returns-clause-sound : goal.returns-clause-sound
returns-clause-sound c =
    let opened = c.deref_mut.result.now.image in
    let on = opened_now c.deref_mut.ensures.value c.in-Ok.ensures.opened in
    let left = c.destroy-returned.new.self in
    let left_is : bytes_in left ≡ c.close_image.new.lent.bytes = sym c.close_image.ensures.bytes in
    let it : DestroysNamed c.args.name.now c.type_number-t.result opened left c.destroy-returned.result = record {
      bytes = c.destroy-returned.ensures.bytes;
      tells = c.destroy-returned.ensures.tells;
      loses = c.destroy-returned.ensures.loses;
      unchanged = c.destroy-returned.ensures.unchanged;
    } in
    still_sound c.args.types.now opened left on.bytes left_is on.opened
    (λ picture held none. destroy_sound opened left picture held c.args.name.now c.type_number-t.result c.destroy-returned.result it none)

pub returns-clause-kept : goal.returns-clause-kept
returns-clause-kept c some =
    let opened = c.deref_mut.result.now.image in
    let on = opened_now c.deref_mut.ensures.value c.in-Ok.ensures.opened in
    let left = c.destroy-returned.new.self in
    let left_is : bytes_in left ≡ c.close_image.new.lent.bytes = sym c.close_image.ensures.bytes in
    let it : DestroysNamed c.args.name.now c.type_number-t.result opened left c.destroy-returned.result = record {
      bytes = c.destroy-returned.ensures.bytes;
      tells = c.destroy-returned.ensures.tells;
      loses = c.destroy-returned.ensures.loses;
      unchanged = c.destroy-returned.ensures.unchanged;
    } in
    sym left_is ∙ destroy_kept opened left c.args.name.now c.type_number-t.result c.found.result c.destroy-returned.result c.found.ensures.told some it ∙ on.bytes

pub returns-clause-home : goal.returns-clause-home
returns-clause-home c = same_memory c.deref_mut.result.now.image c.destroy-returned.new.self (opened_now c.deref_mut.ensures.value c.in-Ok.ensures.opened).home c.destroy-returned.ensures.bytes c.close_image.ensures.home

pub returns-clause-same : goal.returns-clause-same
returns-clause-same c =
    same_types c.args.types.now c.close_image.new.types c.deref_mut.result.now.image c.destroy-returned.new.self
    (opened_now c.deref_mut.ensures.value c.in-Ok.ensures.opened).types_are c.destroy-returned.ensures.bytes c.close_image.ensures.types
