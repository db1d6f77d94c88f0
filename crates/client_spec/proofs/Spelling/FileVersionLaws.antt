-- The version of a client's file is the first version of images that may have its types.
use Rattle.std.proofs.Common.{◌≡◌, ℕ, ◌≤◌, zero, suc, [], ◌∷◌, ap, refl, arith}
use Rattle.std.specs.Prelude.{Some}
use Rattle.seg_spec.specs.Header.{sharing_version}
use Rattle.seg_spec.specs.Types.{Form, Table, AreOfVersion, form_at, version_of}
use Rattle.client_spec.specs.Grammar.{file_version}
use Rattle.client_spec.proofs.TypedStates.ValueLaws.{Some_inj}

pub a_version : (form : Form) → (1 ≤ version_of form) × (version_of form ≤ sharing_version)
a_version Form.i64 = search (arith)
a_version Form.str = search (arith)
a_version (Form.vec U) = search (arith)
a_version (Form.list U) = search (arith)
a_version (Form.flat_map U) = search (arith)
a_version (Form.map U) = search (arith)
a_version (Form.own U) = search (arith)
a_version (Form.struct fields) = search (arith)
a_version (Form.shared U) = search (arith)

pub is_version : (table : Table) → (1 ≤ file_version table) × (file_version table ≤ sharing_version)
is_version [] = search (arith)
is_version (form ∷ forms) = let one = a_version form in let all = is_version forms in (omega arith, omega arith)

pub of_its_version : (table : Table) (T : ℕ) (form : Form) → form_at table T ≡ Some form → version_of form ≤ file_version table
of_its_version [] T form at = cc
of_its_version (first ∷ forms) zero form at = let same = ap version_of (Some_inj at) in omega arith
of_its_version (first ∷ forms) (suc T) form at = let here = of_its_version forms T form at in omega arith

-- the version of a file is the lowest that has all its types
pub first_version : (version : ℕ) (table : Table) → 1 ≤ version → AreOfVersion version table → file_version table ≤ version
first_version version [] some are = some
first_version version (first ∷ forms) some are =
    let one = are.each 0 first refl in
    let all = first_version version forms some (record { each = λ T form at. are.each (suc T) form at }) in
    omega arith

-- images with frozen objects may have any types
pub of_sharing : (table : Table) → AreOfVersion sharing_version table
of_sharing table = record { each = λ T form at. (a_version form).1 }
