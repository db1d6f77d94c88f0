use Rattle.std.proofs.Common.{◌≡◌, ℕ, ◌<◌, ◌≤◌}
use Rattle.std.specs.Prelude.{Some}
use Rattle.seg_spec.specs.Types.{Form, form_at, version_of}
use Rattle.client_code.proofs.types.version_of.Given as goal

-- none of the types so far is shared
abbrev pub invariant-loop-t : goal.invariant-loop-t
invariant-loop-t l = (k : ℕ) (form : Form) → k < l.t → form_at l.types k ≡ Some form → version_of form ≤ 1
