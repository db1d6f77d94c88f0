use Rattle.std.proofs.Common.{rules, ◌≡◌, ℕ, false, pos, Some, Result, Ok, Err, sym, ◌∙◌, ap, subst}
use Rattle.std.specs.Prelude.{MatchResult, IsTrue}
use Rattle.seg_raw.specs.declared.code.Code.{Code}
use Rattle.seg_spec.specs.Bytes.{byte}
use Rattle.seg_spec.specs.Types.{Form, form_at}
use Rattle.client_vm.specs.Worlds.{held_in}
use Rattle.client_vm.proofs.IndexLaws.{TellsAt, byte_does, item_does}
use Rattle.client_vm.proofs.machine.Machine.item_at.Goals.{in-Ok, in-Err}
use Rattle.client_vm.proofs.machine.Machine.item_at.Goals as goal

pub returns-then-is_text-clause-does : goal.returns-then-is_text-clause-does
returns-then-is_text-clause-does g c =
    let i = c.args.i.now in
    let old = c.args.self.now in
    let segment = c.args.segment.now in
    let item = c.position-item.result in
    let tells : TellsAt g.F.Fit.allocator i c.try_give.result old c.try_give.new.self segment item = record { text = c.position-item.ensures.text; vector = c.position-item.ensures.vector; list = c.position-item.ensures.list } in
    let str : form_at segment.types c.place-sequence.result.type_id ≡ Some Form.str = search (rules, c.is_text.ensures, c.if-is_text.ensures) in
    let read : MatchResult item (λ p. c.match-item.byte ≡ Ok (pos (byte segment.window.bytes p))) (λ code. c.match-item.byte ≡ Err code) = elim c.match-item.branch [
      | in-Ok w ↦ subst (λ (r : Result ℕ Code). MatchResult r (λ p. c.match-item.byte ≡ Ok (pos (byte segment.window.bytes p))) (λ code. c.match-item.byte ≡ Err code))
          (sym w.in-Ok.is) (search (rules, w.byte-is, w.from.ensures, w.get8.ensures, w.window.ensures))
      | in-Err w ↦ subst (λ (r : Result ℕ Code). MatchResult r (λ p. c.match-item.byte ≡ Ok (pos (byte segment.window.bytes p))) (λ code. c.match-item.byte ≡ Err code)) (sym w.in-Err.is) w.byte-is
    ] in
    byte_does g.F.Fit.allocator i c.try_give.result old c.try_give.new.self segment item c.match-item.byte (ap (form_at segment.types) (sym c.place-sequence.ensures.type_id) ∙ str) tells read c.try_give.ensures.gives

pub returns-clause-does : goal.returns-clause-does
returns-clause-does g c =
    let i = c.args.i.now in
    let old = c.args.self.now in
    let segment = c.args.segment.now in
    let item = c.position-item.result in
    let tells : TellsAt g.F.Fit.allocator i c.try_refer.result old c.try_refer.new.self segment item = record { text = c.position-item.ensures.text; vector = c.position-item.ensures.vector; list = c.position-item.ensures.list } in
    let type_is = c.place-sequence.ensures.type_id in
    item_does g.F.Fit.allocator i c.try_refer.result old c.try_refer.new.self segment item c.held_type.result (λ e. let z : IsTrue false = c.if-is_text.ensures.1 (ap (form_at segment.types) type_is ∙ e) in cc) tells
    (λ U e. c.held_type.ensures U (ap (λ T. held_in (form_at segment.types T)) type_is ∙ e)) c.try_refer.ensures.refers
