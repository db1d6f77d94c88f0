use Rattle.std.proofs.Common.{◌≡◌, ◌<◌, ◌+◌, suc, length, ◌∷◌, [], Some, Result, Ok, Err, sym, ap, ◌∙◌, subst}
use Rattle.std.specs.Prelude.{MatchResult, IsErr}
use Rattle.std.proofs.lemmas.Bool.{false≢true}
use Rattle.seg_spec.specs.Bytes.{word, set_word}
use Rattle.seg_spec.specs.Header.{next_word}
use Rattle.seg_spec.specs.Pointer.{set_pointer}
use Rattle.seg_spec.specs.Types.{size}
use Rattle.seg_spec.specs.Block.{Kind, AllowsType}
use Rattle.seg_spec.specs.Calls.{IsLoose, Refuses}
use Rattle.seg_spec.specs.Demand.{block_for}
use Rattle.seg_spec.specs.Shared.{names_in}
use Rattle.seg_spec.specs.Window.{Placement, with_bytes}
use Rattle.seg_spec.proofs.WindowLaws.{bytes_of}
use Rattle.seg_cells.specs.Places.{place_of, object_at}
use Rattle.seg_spec.specs.Sharing.{FreezesParts}
use Rattle.seg_value.proofs.ClearLaws.{typed}
use Rattle.seg_value.proofs.SharedCells.{ClearsCell}
use Rattle.seg_value.proofs.FrozenCells.{freezes, moved_as}
use Rattle.seg_value.proofs.sharing.freeze.Goals as goal

only_err : {X Y : Type 0} (r : Result X Y) (P : X → Type 0) (Q : Type 0) → IsErr r → Q → MatchResult r P (λ code. Q)
only_err (Ok x) P Q e q = absurd (false≢true e)
only_err (Err y) P Q e q = q

pub returns-in_err-payload-clause-frozen : goal.returns-in_err-payload-clause-frozen
returns-in_err-payload-clause-frozen g c = λ T v w blocks inside theirs kept now f s loose b small.
    let old = c.args.heap.now in
    let last = c.move_frozen.new.heap.window.bytes in
    let t_is = c.shared_type-held.ensures T f in
    let number_is : c.get32-number.result ≡ word old.window.bytes next_word = c.get32-number.ensures ∙ ap (λ (r : Placement). word r.bytes 28) c.window.ensures in
    let known = subst (λ x. x < length old.types) (sym t_is) (typed old.window.bytes old.types (object_at c.args.object T) w inside loose.holds_it) in
    let loose_as = subst (λ x. IsLoose old.window.bytes old.types (object_at c.args.object x) w inside) (sym t_is) loose in
    let refused = c.in_err-payload.ensures.moved w inside s.is_table known s.heap loose_as number_is (subst (λ n. suc n < 4294967296) (sym number_is) small) in
    only_err c.from_residual.result (λ done. FreezesParts g.F.Fit.allocator old.window.bytes last old.types (place_of c.args.cell) T c.args.object w inside blocks (names_in v) theirs now)
    (Refuses g.F.Fit.allocator old.window.bytes last (block_for (8 + size old.types T) ∷ [])) c.from_residual.ensures.0
    (subst (λ x. Refuses g.F.Fit.allocator old.window.bytes last (block_for (8 + size old.types x) ∷ [])) t_is refused)

pub returns-clause-frozen : goal.returns-clause-frozen
returns-clause-frozen g c = λ T v w blocks inside theirs kept now f s loose b small.
    let old = c.args.heap.now in
    let mid = c.move_frozen.new.heap in
    let last = c.clear.new.self.window in
    let p = c.in_ok-payload.payload in
    let cell = c.args.cell in
    let t_is = c.shared_type-held.ensures T f in
    let number_is : c.get32-number.result ≡ word old.window.bytes next_word = c.get32-number.ensures ∙ ap (λ (r : Placement). word r.bytes 28) c.window.ensures in
    let known = subst (λ x. x < length old.types) (sym t_is) (typed old.window.bytes old.types (object_at c.args.object T) w inside loose.holds_it) in
    let loose_as = subst (λ x. IsLoose old.window.bytes old.types (object_at c.args.object x) w inside) (sym t_is) loose in
    let m = c.in_ok-payload.ensures.moved w inside s.is_table known s.heap loose_as number_is (subst (λ n. suc n < 4294967296) (sym number_is) small) in
    let moved = moved_as g.F.Fit.allocator old.window.bytes mid.window.bytes old.types c.shared_type-held.result T c.args.object p w inside t_is m in
    let clears = subst (λ t. ClearsCell g.F.Fit.allocator mid.window.bytes last.bytes t (place_of cell)) c.move_frozen.ensures.types c.clear.ensures.cleared in
    let named = bytes_of c.name.new.heap.window (with_bytes last (set_word (set_pointer last.bytes cell.at (Some p)) (cell.at + 4) 1)) c.name.ensures.window in
    let allowed : AllowsType old.types Kind.frozen T = typed old.window.bytes old.types (object_at c.args.object T) w inside loose.holds_it in
    let made = freezes g.F.Fit.allocator old.window.bytes mid.window.bytes old.types (place_of cell) T c.args.object p f v w blocks inside theirs kept now s b
    (λ bytes h tag link. record { kind = Kind.frozen; type = T; allowed = allowed; tag_is = tag; link_is = link }) moved last.bytes clears in
    subst (λ bytes. FreezesParts g.F.Fit.allocator old.window.bytes bytes old.types (place_of cell) T c.args.object w inside blocks (names_in v) theirs now) (sym named) made
