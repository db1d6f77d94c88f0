-- `none` makes a pointer that is never followed.
use Rattle.std.proofs.Common.{List, [], ◌∷◌, refl, lit<}
use seplogic.Ra.Ura.{Ura}
use mir.Syntax.{w64}
use mir.Val.{Val, vint, vstruct, vcons, vnil}
use base.Logic.{SProp, ent, emp}
use base.Fml.{ftrue}
use prog.Memory.{Memory}
use prog.Routine.{Routine}
use prog.Wp.{WpFn, Tables}
use types.Logic.{Logic}
use contract.Monad.{Fun}
use contract.Running.{tables, tables_of}
use sound.WpLaws.{WpFn-mono}
use types.Kit.{‵, raw, ◌⊛◌, ◌$◌, ◌∵◌, !, qed, drop, join, fjoin, fpack, feq_i, suffices, done}
use types.Part.{agg}
use types.Run.{lit, no_more, and_then, returns, enter}
use types.ByLocal.{alloc_all, pass_all, free_all, look_at, sets}
use denote.RattleType.{Valss}
use denote.Builtin.{RawPtr}
use denote.RawPtr.{null_ptr, ptr_val}
use denote.Steps.{nothing}
use denote.Struct.Struct.{within}
use denote.Struct.Owning.{shape}
use denote.Triple.Spec.{triple_of}
use denote.Triple.Table.{entered}
use denote.Triple.Walked.{says, Stays, walk_of, ends_at, walk_Meets}
use Rattle.std.specs.Prelude.{None}
use Rattle.lezgauri_c.specs.contracts.types_box.TypesBox.{the_type, the_row}
use Rattle.lezgauri_c.specs.contracts.types_box.TypesBox.none as F
use Rattle.lezgauri_c.specs.contracts.types_box.TypesBox.none.Key.{name as #self}
use Rattle.lezgauri_c.proofs.types_box.TypesBox.none.Statement as stated
use Rattle.lezgauri_c.proofs.types_box.TypesBox.none.Code as code

abbrev stayed : Stays (F.ended).signature.params (F.ended).kept
stayed = tt

module _ {M : Type 1} {𝓤 : Ura M} (𝓛 : Logic 𝓤) (at_mem : Memory → SProp 𝓤) (run : Routine → Fun 𝓤) (𝓣 : Tables 𝓤 𝓛.H) where
  open 𝓛 use {H}

  walk : (z : (walk_of 𝓛 F.ended stayed (F.clauses 𝓛 at_mem run)).Ghost)
      → ent 𝓤 ((walk_of 𝓛 F.ended stayed (F.clauses 𝓛 at_mem run)).pre z) (WpFn 𝓤 H 𝓣.C 𝓣.Λ code.function [] ((walk_of 𝓛 F.ended stayed (F.clauses 𝓛 at_mem run)).post z))
  walk z =
      let made : the_row.Denot = record { at = null_ptr; image = None } in
      let w : Val = vstruct (vcons (vint w64 0) vnil) in
      qed 𝓛 ((‵ ftrue ⊛ ‵ ftrue) ∷ raw (emp 𝓤) ∷ []) ∵ drop ! $ drop ! $
      enter ! 𝓣.C 𝓣.Λ code.function [] _ $ alloc_all ! (λ ls. pass_all ! refl tt $
      sets ! (agg ! (and_then ! (lit ! tt) (no_more !))) refl (tt, (record { fits = lit< tt }, tt)) $
      returns ! (look_at ! 0 refl) $ free_all ! refl $
      nothing ! $ nothing ! $ feq_i ! (List Val) (vint w64 0 ∷ []) (ptr_val null_ptr ∷ []) refl $ fjoin ! $ feq_i ! (List Val) (w ∷ []) (w ∷ []) refl $ fjoin ! $
      fpack ! (Valss (RawPtr ∷ [])) (within (shape the_type) (null_ptr, tt) (w ∷ [])) (vint w64 0 ∷ [], tt) $ fjoin ! $
      suffices ! _ (ends_at 𝓛 F.ended stayed (F.clauses 𝓛 at_mem run) z w made tt tt) $ says ! refl $
      nothing ! $ join ! $ nothing ! $ join ! $ done !)

pub none_spec : {M : Type 1} → stated.statement M
unfolding tables_of
none_spec 𝓤 𝓛 𝓜 𝓡 wired =
    let 𝓣 : Tables 𝓤 𝓛.H = tables_of 𝓤 𝓛.H 𝓜 (tables 𝓤 𝓛.H 𝓜 𝓡 𝓡.env) in
    entered 𝓤 𝓛.H (triple_of 𝓛 F.signature (F.spec 𝓛 𝓜.mem 𝓡.returns)) 𝓣.C 𝓣.Λ #self code.function (code.unfolded 𝓤 𝓛.H 𝓜 𝓡 wired)
    (walk_Meets 𝓛 F.ended stayed tt (F.clauses 𝓛 𝓜.mem 𝓡.returns) (WpFn 𝓤 𝓛.H 𝓣.C 𝓣.Λ code.function) (WpFn-mono 𝓤 𝓛.H 𝓛.laws 𝓣 code.function)
    (walk 𝓛 𝓜.mem 𝓡.returns 𝓣))
