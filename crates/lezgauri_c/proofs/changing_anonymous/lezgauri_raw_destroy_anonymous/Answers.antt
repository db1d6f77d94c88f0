use Rattle.std.proofs.Common.{◌≡◌, sym, refl, arith, ap, subst, ℕ}
use Rattle.lezgauri.specs.Place.{Place}
use Rattle.lezgauri.specs.Images.{bytes_in}
use Rattle.lezgauri_c.specs.Changes.{IsAnswered}
use Rattle.lezgauri_c.specs.ImageChanges.{DestroysAnonymous}
use Rattle.lezgauri_c.proofs.ChangeLaws.{calls, same_memory, same_types, opened_now}
use Rattle.lezgauri_c.proofs.changing_anonymous.lezgauri_raw_destroy_anonymous.Goals as goal

pub returns-clause-destroys : goal.returns-clause-destroys
returns-clause-destroys c =
    let opened = c.deref_mut.result.now.image in
    let on = opened_now c.deref_mut.ensures.value c.in-Ok.ensures.opened in
    let left = c.destroy_anonymous-returned.new.self in
    let left_is : bytes_in left ≡ c.close_image.new.lent.bytes = sym c.close_image.ensures.bytes in
    let at : c.place_at-object.result.at ≡ c.args.at = ap (λ (p : Place). p.at) c.place_at-object.ensures in
    subst (λ (n : ℕ). IsAnswered c.args.image.now.bytes c.close_image.new.lent.bytes c.args.types.now 0 (DestroysAnonymous n)) at
    (calls c.args.types.now opened left on.bytes left_is on.opened tt (λ some. absurd (omega (arith, some))) refl (record {
      bytes = c.destroy_anonymous-returned.ensures.bytes;
      loses = c.destroy_anonymous-returned.ensures.loses;
    }))

pub returns-clause-home : goal.returns-clause-home
returns-clause-home c = same_memory c.deref_mut.result.now.image c.destroy_anonymous-returned.new.self (opened_now c.deref_mut.ensures.value c.in-Ok.ensures.opened).home c.destroy_anonymous-returned.ensures.bytes c.close_image.ensures.home

pub returns-clause-same : goal.returns-clause-same
returns-clause-same c =
    same_types c.args.types.now c.close_image.new.types c.deref_mut.result.now.image c.destroy_anonymous-returned.new.self
    (opened_now c.deref_mut.ensures.value c.in-Ok.ensures.opened).types_are c.destroy_anonymous-returned.ensures.bytes c.close_image.ensures.types
