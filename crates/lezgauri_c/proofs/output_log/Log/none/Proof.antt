use mathlib.Core.Path.{refl}
use mathlib.Core.List.{[], ◌∷◌}
use seplogic.Ra.Ura.{Ura}
use mir.Val.{vstruct, vnil}
use base.Logic.{SProp, ent, emp, via, fst∗}
use prog.Memory.{Memory}
use prog.Routine.{Routine}
use prog.Wp.{Calls, Loops, WpFn, Tables}
use types.Logic.{Logic}
use contract.Monad.{Fun}
use contract.Running.{tables, tables_of}
use sound.WpLaws.{WpFn-mono}
use types.Kit.{‵, raw, ◌$◌, ◌∵◌, !, qed, move, suffices, done}
use types.Run.{no_more, returns, enter}
use types.Part.{agg}
use types.ByLocal.{alloc_all, pass_all, free_all, look_at, sets}
use denote.RattleType.{owns}
use denote.Shadow.{pure_i}
use denote.Triple.Entry.{on_entry, alive}
use denote.Triple.Spec.{Meets, triple_of}
use denote.Triple.Table.{entered}
use denote.Triple.Walked.{says, Stays, walk_of, Walks, ends_at, walked, walk_Meets}
use Rattle.lezgauri_c.specs.contracts.output_log.Log.none.Key.{name as key}
use Rattle.lezgauri_c.specs.contracts.output_log.Log.none as f
use Rattle.lezgauri_c.proofs.output_log.Log.none.Statement as stated
use Rattle.lezgauri_c.proofs.output_log.Log.none.Code as code
use Rattle.lezgauri_c.specs.contracts.output_log.Log as made

abbrev stayed : Stays (f.ended).signature.params (f.ended).kept
stayed = tt

module _ {M : Type 1} {𝓤 : Ura M} (𝓛 : Logic 𝓤) (mem : Memory → SProp 𝓤) (run : Routine → Fun 𝓤) (C : Calls 𝓤 𝓛.H) (Λ : Loops 𝓤 𝓛.H) where
  open 𝓛 use {H}

  abbrev bound : (walk_of 𝓛 f.ended stayed (f.clauses 𝓛 mem run)).Ghost
  bound = ((tt, tt, tt, tt, tt), tt)

  walk : ent 𝓤 (on_entry 𝓛 f.signature tt tt tt tt) (WpFn 𝓤 H C Λ code.function [] ((walk_of 𝓛 f.ended stayed (f.clauses 𝓛 mem run)).post bound))
  walk =
      qed 𝓛 (raw (alive 𝓛 f.signature tt tt) ∷ ‵ (owns [] tt tt) ∷ []) ∵ enter ! C Λ code.function [] _ $
      alloc_all ! (λ l. pass_all ! refl tt $ sets ! (agg ! (no_more !)) refl (tt, tt) $
      returns ! (look_at ! 0 refl) $ free_all ! refl $
      suffices ! _ (ends_at 𝓛 f.ended stayed (f.clauses 𝓛 mem run) bound (vstruct vnil) (record { bytes = [] }) tt tt) $
      says ! refl $ pure_i ! (made.the_row.own_val (record { bytes = [] }) (vstruct vnil ∷ [])) ((λ vss. (tt, tt)), tt) ((tt, (refl, tt)), tt) $
      move ! (1 ∷ 2 ∷ 0 ∷ []) $ done !)

  walks : Walks 𝓛 f.ended stayed (WpFn 𝓤 H C Λ code.function) (f.clauses 𝓛 mem run)
  walks =
      walked 𝓛 f.ended stayed (f.clauses 𝓛 mem run) (WpFn 𝓤 H C Λ code.function) (λ κs. tt) (λ κs. tt)
      (λ κs qs bounds a g are. via 𝓤 _ (fst∗ 𝓤 _ (emp 𝓤)) walk)

meets : {M : Type 1} {𝓤 : Ura M} (𝓛 : Logic 𝓤) (mem : Memory → SProp 𝓤) (run : Routine → Fun 𝓤) (𝓣 : Tables 𝓤 𝓛.H)
    → Meets 𝓛 f.signature (WpFn 𝓤 𝓛.H 𝓣.C 𝓣.Λ code.function) (f.spec 𝓛 mem run)
meets {𝓤 = 𝓤} 𝓛 mem run 𝓣 =
    walk_Meets 𝓛 f.ended stayed tt (f.clauses 𝓛 mem run) (WpFn 𝓤 𝓛.H 𝓣.C 𝓣.Λ code.function)
    (WpFn-mono 𝓤 𝓛.H 𝓛.laws 𝓣 code.function) (walks 𝓛 mem run 𝓣.C 𝓣.Λ)

pub none_spec : {M : Type 1} → stated.statement M
unfolding tables_of
none_spec 𝓤 𝓛 𝓜 𝓡 wired =
    entered 𝓤 𝓛.H (triple_of 𝓛 f.signature (f.spec 𝓛 𝓜.mem 𝓡.returns))
    (tables 𝓤 𝓛.H 𝓜 𝓡 𝓡.env).C (tables 𝓤 𝓛.H 𝓜 𝓡 𝓡.env).Λ key code.function (code.unfolded 𝓤 𝓛.H 𝓜 𝓡 wired)
    (meets 𝓛 𝓜.mem 𝓡.returns (tables_of 𝓤 𝓛.H 𝓜 (tables 𝓤 𝓛.H 𝓜 𝓡 𝓡.env)))
