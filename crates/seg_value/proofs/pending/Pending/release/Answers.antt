use Rattle.std.proofs.Common.{◌≡◌, ℕ, suc, ◌-◌, ◌<◌, ◌≤◌, ◌^◌, List, [], ◌∷◌, Option, sym, ap, ◌∙◌, subst, arith}
use Rattle.seg_spec.specs.Bytes.{word, set_word}
use Rattle.seg_spec.specs.Types.{Table}
use Rattle.seg_spec.specs.Window.{Placement, with_bytes}
use Rattle.seg_spec.specs.Destroying.{GoesWith, Adds}
use Rattle.seg_spec.proofs.WindowLaws.{bytes_of}
use Rattle.seg_spec.proofs.Frozen.ReleaseLaws.{written_changes, written_is, stays, goes}
use Rattle.seg_value.specs.Waiting.{AddsIn}
use Rattle.seg_value.proofs.pending.Pending.release.Goals as goal

-- the count is lowered, and isn't 0: no block is added
lowered : (old new : List ℕ) (table : Table) (p count : ℕ) (first : Option ℕ) → new ≡ set_word old p count → count ≡ word old p - 1 → count < 2 ^ 32 → 1 ≤ count → AddsIn old new table first first [] [] (p ∷ [])
lowered old new table p count first written is small some allocator ys names kept theirs final valid w fits =
    let v = set_word old p count in
    let changes = written_changes allocator old table valid p first ys names kept theirs final w fits count small in
    let now = written_is allocator old table valid p first ys names kept theirs final w fits count small in
    let more : word (set_word old p count) p ≡ suc (count - 1) = now ∙ omega arith in
    subst (λ b. Adds allocator old b table first [] ys names kept theirs final) (sym written)
    (stays allocator old table valid p first ys names kept theirs final w fits (set_word old p count) changes (now ∙ is) (count - 1) more)

-- the count is lowered to 0: the object is added in front of the waiting ones
let_go : (old new last : List ℕ) (table here : Table) (p count : ℕ) (first next : Option ℕ) → here ≡ table → new ≡ set_word old p count → count ≡ word old p - 1 → count ≡ 0 →
    ((xs ns : List ℕ) → GoesWith new here p xs ns → AddsIn new last here first next [] xs ns) → AddsIn old last table first next [] [] (p ∷ [])
let_go old new last table here p count first next same written is none push allocator ys names kept theirs final valid w fits =
    let small : count < 2 ^ 32 = omega arith in
    let changes = written_changes allocator old table valid p first ys names kept theirs final w fits count small in
    let now = written_is allocator old table valid p first ys names kept theirs final w fits count small in
    let push' : (xs ns : List ℕ) → GoesWith (set_word old p count) table p xs ns → AddsIn (set_word old p count) last table first next [] xs ns =
    subst (λ b. (xs ns : List ℕ) → GoesWith b table p xs ns → AddsIn b last table first next [] xs ns) written
    (subst (λ t. (xs ns : List ℕ) → GoesWith new t p xs ns → AddsIn new last t first next [] xs ns) same push) in
    goes allocator old table valid p first ys names kept theirs final w fits (set_word old p count) changes (now ∙ is) last next (now ∙ none)
    (λ xs zs ns more it waiting fits_there. push' xs ns it allocator zs more kept theirs final valid waiting fits_there)

pub returns-then-count-eq0-clause-released : goal.returns-then-count-eq0-clause-released
returns-then-count-eq0-clause-released g c =
    let heap = c.args.heap.now in
    let p = c.args.payload in
    let count = c.saturating_sub-count.result in
    let was : c.get32.result ≡ word heap.window.bytes p = c.get32.ensures ∙ ap (λ (r : Placement). word r.bytes p) c.window.ensures in
    let is : count ≡ word heap.window.bytes p - 1 = c.saturating_sub-count.ensures ∙ ap (λ n. n - 1) was in
    let written = bytes_of c.set_cell_count.new.self.window (with_bytes heap.window (set_word heap.window.bytes p count)) c.set_cell_count.ensures.window in
    let_go heap.window.bytes c.set_cell_count.new.self.window.bytes c.push.new.heap.window.bytes heap.types c.set_cell_count.new.self.types p count c.args.self.now.first c.push.new.self.first
    c.set_cell_count.ensures.types written is c.if-count-eq0.true c.push.ensures.added

pub returns-else-count-eq0-clause-released : goal.returns-else-count-eq0-clause-released
returns-else-count-eq0-clause-released g c =
    let heap = c.args.heap.now in
    let p = c.args.payload in
    let count = c.saturating_sub-count.result in
    let was : c.get32.result ≡ word heap.window.bytes p = c.get32.ensures ∙ ap (λ (r : Placement). word r.bytes p) c.window.ensures in
    let is : count ≡ word heap.window.bytes p - 1 = c.saturating_sub-count.ensures ∙ ap (λ n. n - 1) was in
    let written = bytes_of c.set_cell_count.new.self.window (with_bytes heap.window (set_word heap.window.bytes p count)) c.set_cell_count.ensures.window in
    let some : 1 ≤ count = omega (arith, c.if-count-eq0.false) in
    lowered heap.window.bytes c.set_cell_count.new.self.window.bytes heap.types p count c.args.self.now.first written is c.saturating_sub-count.type_inv some
