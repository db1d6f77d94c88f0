-- The rows of the instructions that share a frozen object with another cell, and that freeze an
-- object.
use Rattle.std.proofs.Common.{◌≡◌, ℕ, suc, ◌<◌, ◌≤◌, ◌^◌, pos, List, Option, false, inl, inr, refl, sym, ◌∙◌, ap, subst}
use Rattle.std.specs.Prelude.{⊤, Result, Ok, Err, MatchResult, IsOkUnless, slice_set, slice_index_or}
use Rattle.std.proofs.Math.Nat.{eq-or-lt_of_le}
use Rattle.seg_raw.specs.Refusals.{code_number}
use Rattle.seg_raw.specs.declared.code.Code.{Code}
use Rattle.seg_spec.specs.Bytes.{word}
use Rattle.seg_spec.specs.Header.{next_word}
use Rattle.seg_spec.specs.Reads.{Place}
use Rattle.seg_spec.specs.Types.{Table}
use Rattle.seg_spec.specs.Window.{Placement}
use Rattle.seg_cells.specs.Places.{place_of}
use Rattle.seg_value.specs.Stored.{Stored}
use Rattle.seg_cells.specs.declared.place.Place as declared_place
use Rattle.client_spec.specs.declared.table.Operation.{Operation}
use Rattle.client_spec.specs.declared.table.Role.{Role}
use Rattle.client_code.specs.declared.instruction.Instruction.{Instruction}
use Rattle.client_program.specs.declared.jump.Jump.{Jump}
use Rattle.client_sim.specs.Acting.{ActsAs, IsRefusedAs}
use Rattle.client_sim.specs.Sharing.{SharesCell, FreezesObject, RefusesToFreeze}
use Rattle.client_sim.proofs.Instructions.FreezeLaws.{world_frozen, freeze_acts, freeze_denied, freeze_used}
use Rattle.client_sim.proofs.Places.LeafPutLaws.{with_image}
use Rattle.client_sim.proofs.Instructions.NumberLaws.{with_number}
use Rattle.client_sim.proofs.Instructions.ShareLaws.{share_acts}
use Rattle.client_vm.proofs.ObjectLaws.{instruction_with, acts_by, refused_by}
use Rattle.client_vm.specs.declared.machine.Machine.{Machine}
use Rattle.client_vm.specs.Positions.{place_at}
use Rattle.client_vm.specs.Worlds.{constants_in, world_of, GivesNumber, GivesUp, DoesRow, OpensPart}

Err_inj : {A B : Type 0} {x y : B} → ◌≡◌ {A = Result A B} (Err x) (Err y) → x ≡ y
Err_inj e = cc

-- a place with the position and type of a register's is the register's place
pub place_read : (machine : Machine) (r : ℕ) (place : declared_place.Place) → place.at ≡ slice_index_or machine.positions r 0 → place.type_id ≡ slice_index_or machine.type_ids r 0 → place_of place ≡ place_at machine r
place_read machine r place at_is type_is = ap (λ (n : ℕ). record { at = n; type = place.type_id }) at_is ∙ ap (λ (T : ℕ). record { at = slice_index_or machine.positions r 0; type = T }) type_is

module _ (allocator : ℕ) (i : Instruction) (old : Machine) (before after : Stored) (types_kept : after.types ≡ before.types) (heap : Stored) (heap_is : heap ≡ before) (to : declared_place.Place)
    (to_is : place_of to ≡ place_at old i.b) where
  -- a claim about the cell that the call changed is true of the cell at register b's place
  at_cell : (claim : Stored → Place → Type 0) → claim heap (place_of to) → claim before (place_at old i.b)
  at_cell claim known = subst (claim before) to_is (subst (λ h. claim h (place_of to)) heap_is known)

  -- ---- a cell shares the object of another cell

  abbrev pub Shares : Stored → Place → Place → Type 0
  Shares h p q = SharesCell allocator h.window.bytes after.window.bytes h.types p q

  pub share_does : (from : declared_place.Place) → place_of from ≡ place_at old i.c → Shares heap (place_of to) (place_of from) → DoesRow Operation.Share allocator i old old before after
  share_does from from_is call is = acts_by allocator i Role.Plain old old old before after Operation.Share is refl (λ taken.
      let w = world_of old before taken in
      let called = subst (Shares before (place_at old i.b)) from_is (at_cell (λ h p. Shares h p (place_of from)) call) in
      subst (λ (t : Table). ActsAs allocator (constants_in old) Role.Plain (instruction_with i Operation.Share) w (record (with_image w after.window.bytes) { table = t })) (sym types_kept)
      (share_acts allocator (constants_in old) Role.Plain i.a i.b i.c i.number w after.window.bytes called))

  -- ---- an object that a register owns becomes frozen

  pub record TellsFreezing (result : Result (⊤) Code) (object : ℕ) (h : Stored) (p : Place) : Type 0 where
    pub next : suc (word h.window.bytes next_word) ≤ 2 ^ 32
    pub used_up : suc (word h.window.bytes next_word) ≡ 2 ^ 32 → (result ≡ Err Code.NumbersUsedUp) × (after.window ≡ h.window)
    pub code : suc (word h.window.bytes next_word) < 2 ^ 32 → IsOkUnless result Code.BadAlloc
    pub frozen : MatchResult result (λ done. FreezesObject allocator h.window.bytes after.window.bytes h.types p object) (λ code. RefusesToFreeze allocator h.window.bytes after.window.bytes h.types p object)

  told : (result : Result (⊤) Code) (object : ℕ) → object ≡ slice_index_or old.positions i.c 0 → TellsFreezing result object heap (place_of to) → TellsFreezing result (slice_index_or old.positions i.c 0) before (place_at old i.b)
  told result object object_is call = subst (λ n. TellsFreezing result n before (place_at old i.b)) object_is (at_cell (TellsFreezing result object) call)

  -- register a has 1, and register c no longer owns anything
  pub frozen_opens : (object : ℕ) → object ≡ slice_index_or old.positions i.c 0 → TellsFreezing (Ok tt) object heap (place_of to) → (mid new : Machine) → GivesUp i.c old mid → GivesNumber i.a (pos 1) mid new
      → OpensPart Operation.Freeze allocator i Jump.Next old new before after
  frozen_opens object object_is call mid new gives_up gives is =
      let t = told (Ok tt) object object_is call in
      let w = λ (taken : Option (List ℕ)). world_of old before taken in
      let left : suc (word before.window.bytes next_word) < 2 ^ 32 = elim (eq-or-lt_of_le t.next) [ inl e ↦ (let f = (t.used_up e).0 in cc) | inr less ↦ less ] in
      inl (
        refl,
        acts_by allocator i Role.Opener old new (record old { owns = slice_set old.owns i.c false; numbers = slice_set old.numbers i.a (pos 1) }) before after Operation.Freeze is
            (gives ∙ ap (λ (m : Machine). record m { numbers = slice_set m.numbers i.a (pos 1) }) gives_up)
            (λ taken.
            subst (λ (ts : Table). ActsAs allocator (constants_in old) Role.Opener (instruction_with i Operation.Freeze) (w taken)
            (record (world_frozen allocator (constants_in old) Role.Opener i.a i.b i.c i.number (w taken) after.window.bytes) { table = ts })) (sym types_kept)
            (freeze_acts allocator (constants_in old) Role.Opener i.a i.b i.c i.number (w taken) after.window.bytes left t.frozen)),
      )

  -- register a has the error code: out of memory, or no number was left
  pub refused_opens : (why : Code) (object : ℕ) → object ≡ slice_index_or old.positions i.c 0 → TellsFreezing (Err why) object heap (place_of to) → (new : Machine) → GivesNumber i.a (pos (code_number why)) old new
      → OpensPart Operation.Freeze allocator i Jump.Other old new before after
  refused_opens why object object_is call new gives is =
      let t = told (Err why) object object_is call in
      let w = λ (taken : Option (List ℕ)). world_of old before taken in
      let refused : Code → Option (List ℕ) → Type 0 = λ code taken.
      IsRefusedAs allocator (constants_in old) Role.Opener (instruction_with i Operation.Freeze) (w taken) (with_number (with_image (w taken) after.window.bytes) i.a (pos (code_number code))) in
      let by : (taken : Option (List ℕ)) → refused why taken = λ taken. elim (eq-or-lt_of_le t.next) [
        | inl e ↦
            let u = t.used_up e in
            subst (λ code. refused code taken) (sym (Err_inj u.0))
            (freeze_used allocator (constants_in old) Role.Opener i.a i.b i.c i.number (w taken) after.window.bytes e (ap (λ (p : Placement). p.bytes) u.1))
        | inr less ↦ subst (λ code. refused code taken) (sym (t.code less)) (freeze_denied allocator (constants_in old) Role.Opener i.a i.b i.c i.number (w taken) after.window.bytes less t.frozen)
      ] in
      inr (
        refl,
        refused_by allocator i Role.Opener old new (record old { numbers = slice_set old.numbers i.a (pos (code_number why)) }) before after Operation.Freeze is gives
            (λ taken.
            subst (λ (ts : Table). IsRefusedAs allocator (constants_in old) Role.Opener (instruction_with i Operation.Freeze) (w taken)
            (record (with_number (with_image (w taken) after.window.bytes) i.a (pos (code_number why))) { table = ts })) (sym types_kept) (by taken)),
      )
