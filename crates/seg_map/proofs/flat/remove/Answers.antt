use Rattle.std.proofs.Common.{◌≡◌, ℕ, List, [], ◌∷◌, w64, sym, ap, ◌∙◌, subst}
use Rattle.std.proofs.lemmas.Int.{to_z-of_z}
use Rattle.seg_spec.specs.Clearing.{BesideShared, ClearsPlace}
use Rattle.seg_spec.specs.Owning.{Stands}
use Rattle.seg_spec.specs.Shared.{named_in}
use Rattle.seg_spec.specs.Value.{Value, default_of}
use Rattle.seg_value.specs.Entries.{NamesFlatMap}
use Rattle.seg_cells.specs.Places.{place_of}
use Rattle.seg_value.specs.Stored.{Stored}
use Rattle.seg_map.proofs.FlatChanges.{remove_found, remove_missing}
use Rattle.seg_map.proofs.flat.remove.Goals as goal
use Rattle.seg_map.proofs.flat.remove.Goals.{in-Some, in_default-value}

pub returns-in_default-clause-removes : goal.returns-in_default-clause-removes
returns-in_default-clause-removes g c = λ T U keys vs blocks f names s.
    remove_missing g.F.Fit.allocator c.args.heap.now.window.bytes c.args.heap.now.types c.args.cell T U keys vs blocks f s c.args.key _ (to_z-of_z w64 c.args.key c.ranges.key)
    (c.in_default.ensures T U keys vs blocks f s names.1.entry_is).0

pub returns-clause-removes : goal.returns-clause-removes
returns-clause-removes g c = λ T U keys vs blocks f names s. elim c.match-value.branch [
  | in-Some w ↦
      let old = c.args.heap.now.window.bytes in
      let table = c.args.heap.now.types in
      let bytes_are = ap (λ (h : Stored). h.window.bytes) w.heap-is in
      let types_are : c.match-value.heap.types ≡ table = ap (λ (h : Stored). h.types) w.heap-is ∙ w.clear.ensures.types in
      let Clears : List ℕ → Type 0 = λ m. (v : Value) (bs : List ℕ) (st : Stands g.F.Fit.allocator old table (place_of w.in-Some.value) v bs) →
      BesideShared old table (st.home ∷ bs) (named_in v) (ClearsPlace old m table (place_of w.in-Some.value) (default_of table w.in-Some.value.type_id) bs []) in
      let clears : Clears c.match-value.heap.window.bytes = subst Clears (sym bytes_are) w.clear.ensures.cleared in
      let names' = subst (λ t. NamesFlatMap t T U c.args.content.now) (sym types_are) names in
      remove_found g.F.Fit.allocator old table c.args.cell T U keys vs blocks f s c.args.key _ (to_z-of_z w64 c.args.key c.ranges.key) c.match-value.heap.window.bytes c.close_entry.new.self.window.bytes
      c.match-value.heap.types types_are c.args.content.now.entry c.in-Ok.index c.start.result w.in-Some.value names.1.entry_is (c.in-Ok.ensures T U keys vs blocks f s names.1.entry_is) c.start.ensures
      (sym w.in-Some.is ∙ c.value.ensures.value U names.1.entry_is.held_is) clears (λ us bs st below gone. c.close_entry.ensures.closes T U keys us bs names' st below gone)
  | in_default-value w ↦ let e = c.value.ensures.value U names.1.entry_is.held_is in let n = w.in_default-value.is in absurd (cc)
]
