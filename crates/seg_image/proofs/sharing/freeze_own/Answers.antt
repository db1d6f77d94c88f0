use Rattle.std.proofs.Common.{rules, ◌≡◌, ℕ, ◌+◌, Err, None, ap, ◌∙◌}
use Rattle.seg_spec.specs.Bytes.{set_word}
use Rattle.seg_spec.specs.Pointer.{set_pointer}
use Rattle.seg_spec.specs.Window.{Placement, with_bytes}
use Rattle.seg_image.proofs.sharing.freeze_own.Goals as goal

-- the bytes after the pointer and the count in an own's cell were written
emptied : (old pointed new : Placement) (own : ℕ) → pointed ≡ with_bytes old (set_pointer old.bytes own None)
    → new ≡ with_bytes pointed (set_word pointed.bytes (own + 4) 0)
    → new.bytes ≡ set_word (set_pointer old.bytes own None) (own + 4) 0
emptied old pointed new own p n = ap (λ (w : Placement). w.bytes) n ∙ ap (λ (w : Placement). set_word w.bytes (own + 4) 0) p

pub returns-in_err-freeze-clause-freezes : goal.returns-in_err-freeze-clause-freezes
returns-in_err-freeze-clause-freezes g c = λ U v w blocks inside theirs kept now owns s loose beside small.
    let result : c.from_residual.result ≡ Err c.in_err-freeze.field-0.0 = search rules in
    rw result (record {
      code_is = c.in_err-freeze.ensures.code small;
      refuses = c.in_err-freeze.ensures.frozen U v w blocks inside theirs kept now owns.1 s loose beside small;
    })

pub returns-clause-freezes : goal.returns-clause-freezes
returns-clause-freezes g c = λ U v w blocks inside theirs kept now owns s loose beside small.
    let pointed = rw c.window_mut.ensures.value at c.point.ensures in
    record {
      frozen = c.freeze.new.heap.window.bytes;
      freezes = c.in_ok-freeze.ensures.frozen U v w blocks inside theirs kept now owns.1 s loose beside small;
      empties = emptied c.freeze.new.heap.window c.point.new.self c.set_count.new.self.window c.args.own.at pointed c.set_count.ensures.window;
    }
