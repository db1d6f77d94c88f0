use Rattle.std.proofs.Common.{◌≡◌, ℕ, Option, Some, None, subst}
use Rattle.seg_spec.specs.Types.{Form, Table, form_at}
use Rattle.seg_cells.specs.Contents.{ContentOf}
use Rattle.seg_cells.specs.declared.content.Content.{Content}
use Rattle.client_vm.specs.Worlds.{held_in, shared_in}
use Rattle.client_vm.proofs.values.held_type.Goals as goal

-- if a form has no owned content, the type of its values is the type that it shares
shared_so : (table : Table) (t : ℕ) (form : Option Form) (T : ℕ) → ContentOf table t form None → held_in form ≡ Some T → shared_in form ≡ Some T
shared_so table t (Some (Form.shared U)) T none e = e
shared_so table t (Some Form.i64) T none e = cc
shared_so table t (Some (Form.struct Us)) T none e = cc
shared_so table t None T none e = cc
shared_so table t (Some form) T none e = absurd none

pub returns-in-None : goal.returns-in-None
returns-in-None g c = λ T e.
    let types = c.args.segment.now.types in
    let t = c.args.holder.type_id in
    let none : ContentOf types t (form_at types t) None = subst (λ (o : Option Content). ContentOf types t (form_at types t) o) c.in-None.is (rw c.heap.ensures at c.content.ensures) in
    c.shared_type.ensures T (shared_so types t (form_at types t) T none e)
