use Rattle.std.proofs.Common.{◌≡◌, refl, ap, ◌∙◌, arith, length}
use Rattle.seg_spec.specs.Window.{Placement, with_bytes}
use Rattle.seg_spec.proofs.Deallocation.DestructionLaws.{none_freed, all_freed, enough_turns}
use Rattle.seg_value.proofs.Turns.{turned}
use Rattle.seg_value.proofs.pending.Pending.destroy.Goals as goal

pub loop-turn-init : goal.loop-turn-init
loop-turn-init g c = record {
  window = refl;
  types = refl;
  freed = λ blocks kept theirs final valid w fits. none_freed g.F.Fit.allocator c.args.heap.now.window.bytes c.args.heap.now.types c.args.self.first blocks kept theirs final w fits;
}

pub loop-turn-preserved : goal.loop-turn-preserved
loop-turn-preserved g c = record {
  window = c.free_block.ensures.window ∙ ap (λ p. with_bytes p c.free_block.new.self.window.bytes) c.open.ensures.window ∙ ap (λ p. with_bytes p c.free_block.new.self.window.bytes) c.loop-turn.invariant.window;
  types = c.free_block.ensures.types ∙ c.open.ensures.types ∙ c.loop-turn.invariant.types;
  freed = λ blocks kept theirs final valid w fits.
      turned g.F.Fit.allocator c.args.heap.now.window.bytes c.loop-turn.heap.window.bytes c.open.new.heap.window.bytes c.free_block.new.self.window.bytes c.args.heap.now.types c.loop-turn.heap.types
      c.loop-turn.invariant.types valid c.loop-turn.self.first c.pop.new.self.first c.open.new.self.first c.in-Some.payload blocks kept theirs final c.loop-turn._turn fits
      (c.loop-turn.invariant.freed blocks kept theirs final valid w fits) (λ left names p. c.in-Some.ensures.popped g.F.Fit.allocator left names kept theirs final p)
      (λ xs ns goes ys names valid_here p live_there. c.open.ensures.opened xs ns goes g.F.Fit.allocator ys names kept theirs final valid_here p live_there)
      c.free_block.ensures.gives;
}

pub returns-in_default-clause-destroyed : goal.returns-in_default-clause-destroyed
returns-in_default-clause-destroyed g c = λ blocks kept theirs final valid w fits.
    all_freed g.F.Fit.allocator c.args.heap.now.window.bytes c.loop-turn.heap.window.bytes c.args.heap.now.types valid c.loop-turn.self.first blocks kept theirs final c.loop-turn._turn fits
    (c.loop-turn.invariant.freed blocks kept theirs final valid w fits) (c.pop.ensures.none c.in_default.is)

pub returns-after-loop-turn-clause-destroyed : goal.returns-after-loop-turn-clause-destroyed
returns-after-loop-turn-clause-destroyed g c = λ blocks kept theirs final valid w fits.
    let long : c.len-turn-end.result ≡ length c.args.heap.now.window.bytes = c.len-turn-end.ensures.len ∙ ap (λ (r : Placement). length r.bytes) c.window.ensures in
    let past = c.loop-turn-test.false in
    enough_turns g.F.Fit.allocator c.args.heap.now.window.bytes c.loop-turn.heap.window.bytes c.args.heap.now.types valid c.loop-turn.self.first blocks kept theirs final c.loop-turn._turn fits
    (c.loop-turn.invariant.freed blocks kept theirs final valid w fits) w.beside.pends.heap (omega arith)
