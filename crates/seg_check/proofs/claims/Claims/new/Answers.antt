use Rattle.std.proofs.Common.{◌≡◌, ◌+◌, ◌-◌, ◌/◌, ◌^◌, ◌≤◌, length, sym, ap, ◌∙◌, arith, rules}
use Rattle.std.proofs.lemmas.List.{length-replicate}
use Rattle.seg_check.specs.declared.marks.Mark.TheVariants.{Inside}
use Rattle.seg_check.specs.Marks.{slots_in}
use Rattle.seg_check.proofs.Blocks.MarkedBlockLaws.{fresh, none_named}
use Rattle.seg_check.proofs.claims.Claims.new.Goals as goal
use Rattle.seg_check.proofs.claims.Claims.new.Goals.{then-shares, else-shares}

pub returns : goal.returns
returns g c =
    let marks = c.in_ok-new.ensures in
    let counts = c.in_ok-from_elem.ensures in
    let queue = c.in_ok-with_capacity.ensures in
    let units : c.saturating_sub.result / 16 ≡ (length c.args.bytes.bytes.now - 704) / 16 =
    (let e : c.saturating_sub.result ≡ length c.args.bytes.bytes.now - 704 = omega (arith, c.saturating_sub.ensures, c.len.ensures) in ap (λ n. n / 16) e) in
    let slots : c.if-shares.slots ≡ slots_in c.args.shares ((length c.args.bytes.bytes.now - 704) / 16) = elim c.if-shares.branch [
      | then-shares w ↦ (let e : c.if-shares.slots ≡ ((length c.args.bytes.bytes.now - 704) / 16 + 1) / 2 = omega (arith, units, w.slots-is, w.saturating_add.ensures) in e)
          ∙ ap (λ b. slots_in b ((length c.args.bytes.bytes.now - 704) / 16)) (sym w.if-shares.true)
      | else-shares w ↦ w.slots-is ∙ ap (λ b. slots_in b ((length c.args.bytes.bytes.now - 704) / 16)) (sym w.if-shares.false)
    ] in
    fresh c.in_ok-new.field-0 c.in_ok-with_capacity.field-0.items c.in_ok-from_elem.field-0.items (c.saturating_sub.result / 16) _ c.if-shares.slots _
    marks queue.items units (counts.items_if_clones_equal (λ y e. search rules)) slots

pub invariant_of-result : goal.invariant_of-result
invariant_of-result g c =
    let marks = c.in_ok-new.ensures in
    let few : length c.in_ok-new.field-0 ≤ 2 ^ 26 = omega (arith, ap length marks, length-replicate (c.saturating_sub.result / 16) Inside, c.saturating_sub.ensures, c.len.ensures, c.args.bytes.small) in
    (few, omega arith, λ none. none_named c.in_ok-new.field-0 (c.saturating_sub.result / 16) marks)
