-- What is still represented of a register after the references of a class have ended; and the type
-- in an instruction, in the world's table.
use Rattle.std.proofs.Common.{◌≡◌, ℕ, ◌<◌, ◌≤◌, ◌⊎◌, inl, inr, List, length, Bool, true, false, Option, Some, refl, sym, ◌∙◌, ap, subst, arith, ℤ, pos}
use Rattle.std.specs.Prelude.{nat_abs, if◌then◌else◌, ◌%◌}
use Rattle.seg_spec.specs.Types.{Form, Table, form_at}
use Rattle.seg_spec.specs.Heap.{live}
use Rattle.seg_spec.specs.Bytes.{word}
use Rattle.seg_spec.specs.Header.{next_word, KeepsFront}
use Rattle.seg_spec.specs.Block.{KeepsBlock}
use Rattle.seg_spec.specs.Index.{Root}
use Rattle.seg_spec.specs.Sound.{Picture, IsHeld, times, positions}
use Rattle.seg_spec.specs.Counting.{AreCounted}
use Rattle.client_spec.specs.declared.table.Number.{Number}
use Rattle.client_spec.specs.Syntax.{Constant}
use Rattle.client_spec.specs.Machine.{Origin, State, register}
use Rattle.client_spec.specs.Grammar.{IsNumber}
use Rattle.client_spec.specs.Typed.{Class, RegisterType, RegisterTypes, known, same_class, without_class, sharing}
use Rattle.client_spec.specs.Meaning.{InClass, IsAsKnown}
use Rattle.client_spec.specs.Pictures.{Pictures}
use Rattle.client_spec.proofs.TypedStates.ClassLaws.{OneEach, origins_apart}
use Rattle.client_spec.proofs.Rows.RuleRowLaws.{item_below}
use Rattle.client_sim.specs.Shows.{World, number_in, place_in, owns_in, Shown, Shows}
use Rattle.client_sim.proofs.Objects.ObjectChangeLaws.{BeginsFrom, Remains}
use Rattle.client_sim.proofs.Instructions.FindLaws.{type_number, slice_there}

-- A call left an image with this picture, whose frozen objects are counted. It kept each allocated
-- block that isn't in `gone`.
pub record LeavesPicture (old new : List ℕ) (other : Picture) (gone : List ℕ) : Type 0 where
  pub held : IsHeld new other
  pub counted : AreCounted (word new next_word) other
  pub length_kept : length new ≡ length old
  pub front_kept : KeepsFront old new
  pub next_kept : word new next_word ≡ word old next_word
  pub kept : (h : ℕ) → 1 ≤ times h (positions (live old)) → times h gone ≡ 0 → KeepsBlock old new h

-- the type with the instruction's number is in the table
pub type_known : {types : Table} {constants : List Constant} {ks : RegisterTypes} {s : State} → IsAsKnown types constants ks s → (b : ℕ) (number : ℤ) (T : ℕ) → length types ≤ 32 → ((n : ℕ) → number ≡ pos n → T ≡ n % 256)
    → IsNumber types constants b Number.TypeId number → (nat_abs number ≡ T) × (T < length s.types) × ((form : Form) × (form_at s.types T ≡ Some form))
type_known {types = types} {constants = constants} {s = s} as_known b number T few names valid =
    let m = type_number types constants b number valid in
    let less = m.2 in
    let same : m.0 % 256 ≡ m.0 = omega (arith, few, less) in
    let is : T ≡ m.0 = names m.0 m.1 ∙ same in
    let below : T < length types = omega (arith, is, less) in
    let k = item_below types T below in
    let there = as_known.same_types T k.0 k.1 in
    (ap nat_abs m.1 ∙ sym is, (slice_there s.types T k.0 there).0, (k.0, there))

module _ {others : List Root} {types : Table} {constants : List Constant} (one : OneEach constants) {first : Option (List ℕ)} {allocator : ℕ} {ks : RegisterTypes} {s : State} {w : World}
    (h : Shows others types constants first allocator ks s w) (class : Class) (ks' : RegisterTypes) (s' : State) (w' : World) (later : Pictures others s' w'.image) (Ends : Origin → Type 0)
    (within : (o : Origin) → Ends o → InClass constants class o) where
  -- an unchanged register still has what is known of it, if only paths of the class end
  pub ended_shown : (r : ℕ) → known ks' r ≡ without_class (sharing class) (known ks r) → register s' r ≡ register s r → number_in w' r ≡ number_in w r → place_in w' r ≡ place_in w r → owns_in w' r ≡ owns_in w r
      → (Ends (Origin.Owned r) → ⊥) → Remains constants Ends ks ks' s s' w w' r ⊎ Shown later w' r (known ks' r) (register s' r)
  ended_shown r known_is register_is number_is place_is owns_is apart = by (known ks r) refl (h.shown r)
    where
      kept : (k : RegisterType) → known ks r ≡ k → without_class (sharing class) k ≡ k → ((o : Origin) → BeginsFrom constants r k o → Ends o → ⊥) → Remains constants Ends ks ks' s s' w w' r ⊎ Shown later w' r (known ks' r) (register s' r)
      kept k e same on = inl (record {
        known_is = known_is ∙ ap (without_class (sharing class)) e ∙ same ∙ sym e;
        register_is = register_is;
        number_is = number_is;
        place_is = place_is;
        owns_is = owns_is;
        goes_on = λ o f. on o (subst (λ x. BeginsFrom constants r x o) e f);
      })

      by : (k : RegisterType) → known ks r ≡ k → Shown h.pictured w r k (register s r) → Remains constants Ends ks ks' s s' w w' r ⊎ Shown later w' r (known ks' r) (register s' r)
      by RegisterType.Undefined e m = kept RegisterType.Undefined e refl (λ o f. absurd f)
      by RegisterType.Int e m = kept RegisterType.Int e refl (λ o f. absurd f)
      by (RegisterType.Owner T) e m = kept (RegisterType.Owner T) e refl (λ o f g. apart (subst Ends f g))
      by (RegisterType.Reference c T) e m = choose (same_class (sharing class) (sharing c)) refl
        where
          choose : (t : Bool) → same_class (sharing class) (sharing c) ≡ t → Remains constants Ends ks ks' s s' w w' r ⊎ Shown later w' r (known ks' r) (register s' r)
          choose true f =
              let gone : known ks' r ≡ RegisterType.Undefined = known_is ∙ ap (without_class (sharing class)) e ∙ ap (λ t. if t then RegisterType.Undefined else RegisterType.Reference c T) f in
              inr (subst (λ k. Shown later w' r k (register s' r)) (sym gone) (owns_is ∙ m.0))
          choose false f = kept (RegisterType.Reference c T) e (ap (λ t. if t then RegisterType.Undefined else RegisterType.Reference c T) f)
              (λ o g ends. origins_apart constants one class c o o f (within o ends) g refl)
