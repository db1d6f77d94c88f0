use Rattle.std.proofs.Common.{◌≡◌, ◌+◌, Some, ⊎_elim, sym, ap, ◌∙◌, subst}
use Rattle.seg_spec.specs.Bytes.{set_word}
use Rattle.seg_spec.specs.Pointer.{set_pointer}
use Rattle.seg_spec.specs.Value.{Value, Empty, Full}
use Rattle.seg_spec.specs.Owning.{Stands}
use Rattle.seg_spec.specs.Window.{Placement, with_bytes}
use Rattle.seg_cells.specs.Places.{place_of}
use Rattle.seg_value.specs.Stored.{Stored}
use Rattle.seg_value.proofs.OwnSetLaws.{IsEmptied, own_cases, emptied_already, taken_emptied, own_set}
use Rattle.seg_spec.proofs.WindowLaws.{bytes_of}
use Rattle.seg_value.proofs.own.set_own.Goals as goal
use Rattle.seg_value.proofs.own.set_own.Goals.{in-Some, in_default}

bytes_in : (s t : Stored) → s ≡ t → s.window.bytes ≡ t.window.bytes
bytes_in s t e = ap (λ (r : Stored). r.window.bytes) e

pub returns-clause-set : goal.returns-clause-set
returns-clause-set g c = λ U v w blocks inside f s loose theirs kept now final beside.
    let code = g.F.Fit.allocator in
    let old = c.args.heap.now.window.bytes in
    let table = c.args.heap.now.types in
    let own = place_of c.args.own in
    let object = c.args.object in
    let after = c.match-take_own.heap.window.bytes in
    let when_empty : v ≡ Empty → IsEmptied code old table own U f v blocks s object inside theirs kept now final beside after = λ e.
    let t = c.take_own.ensures.empty code U blocks f (subst (λ x. Stands code old table own x blocks) e s) in
    elim c.match-take_own.branch [
      | in-Some b ↦ let x = t.0 in let y = b.in-Some.is in absurd (cc)
      | in_default b ↦ subst (λ a. IsEmptied code old table own U f v blocks s object inside theirs kept now final beside a)
          (sym (bytes_in c.match-take_own.heap c.take_own.new.heap b.heap-is ∙ bytes_of c.take_own.new.heap.window c.args.heap.now.window t.1))
          (emptied_already code old table own U f v blocks s object inside theirs kept now final beside e)
    ] in
    let when_full : (u : Value) × (v ≡ Full u) → IsEmptied code old table own U f v blocks s object inside theirs kept now final beside after = λ e.
    let t = c.take_own.ensures.taken code U e.0 blocks f (subst (λ x. Stands code old table own x blocks) e.1 s) in
    elim c.match-take_own.branch [
      | in-Some b ↦ subst (λ a. IsEmptied code old table own U f v blocks s object inside theirs kept now final beside a) (sym (bytes_in c.match-take_own.heap b.destroy.new.self b.heap-is))
          (taken_emptied code old table own U f v blocks s object inside theirs kept now final beside c.take_own.new.heap.window.bytes b.destroy.new.self.window.bytes c.take_own.new.heap.types c.take_own.ensures.types
          e.0 e.1 c.take_own.result b.in-Some.old b.in-Some.is t b.destroy.ensures.destroyed)
      | in_default b ↦ let x = t.result_is in let y = b.in_default.is in absurd (cc)
    ] in
    let emptied = ⊎_elim when_empty when_full (own_cases old table own U v blocks f s.holds_it) in
    let opened = c.window_mut.result.now in
    let first = bytes_of c.point.new.self (with_bytes opened (set_pointer opened.bytes c.args.own.at (Some object))) c.point.ensures in
    let second = bytes_of c.set_count.new.self.window (with_bytes c.point.new.self (set_word c.point.new.self.bytes (c.args.own.at + 4) 1)) c.set_count.ensures.window in
    let same : opened.bytes ≡ after = ap (λ (p : Placement). p.bytes) c.window_mut.ensures.value in
    let bytes_then : c.set_count.new.self.window.bytes ≡ set_word (set_pointer after c.args.own.at (Some object)) (c.args.own.at + 4) 1 =
    second ∙ ap (λ b. set_word b (c.args.own.at + 4) 1) (first ∙ ap (λ b. set_pointer b c.args.own.at (Some object)) same) in
    rw bytes_then (own_set code old table own U f v blocks s object inside theirs kept now final beside after emptied w loose)
