use mathlib.Core.Path.{refl}
use mathlib.Core.List.{[], ◌∷◌}
use Rattle.std.proofs.Common.{◌<◌, ◌^◌, ◌++◌, length}
use seplogic.Ra.Ura.{Ura}
use mir.Syntax.{named}
use mir.Val.{Val, vptr, vstruct, vnil}
use base.Logic.{SProp, ent, emp, via, fst∗}
use base.Fml.{Fml}
use prog.Memory.{Memory}
use prog.Routine.{Routine}
use prog.Wp.{Calls, Loops, WpFn, Tables}
use types.Logic.{Logic}
use contract.Lifetimes.{Lfts, Shares}
use contract.Monad.{Fun}
use contract.Running.{tables, tables_of}
use sound.WpLaws.{WpFn-mono}
use types.Kit.{‵, raw, ◌$◌, ◌∵◌, !, qed, move, suffices, done}
use types.Run.{no_more, returns, enter}
use types.Part.{agg}
use types.ByLocal.{alloc_all, pass_all, free_all, look_at, sets}
use denote.Builtin.{u8}
use denote.Exit.{yes}
use denote.RattleType.{owns}
use denote.Ref.{shr_vals, shr_Tells}
use denote.Shadow.{pure_i}
use denote.Signature.{plain, types_at}
use denote.Slice.{slice_val, shr_slice_vals, shr_slice_Tells}
use denote.Triple.Entry.{on_entry, alive, Args}
use denote.Triple.Spec.{Meets, triple_of}
use denote.Triple.Table.{entered}
use denote.Triple.Walked.{says, stay_none_ref, stay_none_slice, Stays, walk_of, Walks, ends_at, walked, Goes-none_ref, Goes-none_slice, walk_Meets}
use Rattle.lezgauri_c.specs.contracts.output_log.Log.then.Key.{name as key}
use Rattle.lezgauri_c.specs.contracts.output_log.Log.then as f
use Rattle.lezgauri_c.proofs.output_log.Log.then.Statement as stated
use Rattle.lezgauri_c.proofs.output_log.Log.then.Code as code
use Rattle.lezgauri_c.specs.contracts.output_log.Log as log

abbrev stayed : Stays (f.ended).signature.params (f.ended).kept
stayed = (stay_none_ref (0 ∷ []) tt (plain (λ _. log.the_row)) yes, (stay_none_slice (1 ∷ []) tt (plain (λ _. u8)) yes, tt))

module _ {M : Type 1} {𝓤 : Ura M} (𝓛 : Logic 𝓤) (mem : Memory → SProp 𝓤) (run : Routine → Fun 𝓤) (C : Calls 𝓤 𝓛.H) (Λ : Loops 𝓤 𝓛.H) where
  open 𝓛 use {H}

  module _ (κs : Lfts 2) (qs : Shares 2) (a : Args f.signature κs) where
    abbrev before : Val
    before = vptr a.0.ref_ptr.0 a.0.ref_ptr.1

    abbrev bytes : Val
    bytes = slice_val a.1.0.ref_ptr (length a.1.0.now)

    abbrev bound : (walk_of 𝓛 f.ended stayed (f.clauses 𝓛 mem run)).Ghost
    bound = ((κs, qs, tt, a, (before ∷ [], (bytes ∷ [], tt))), tt)

    abbrev passed : Fml
    passed = owns (types_at f.signature.params κs) a (before ∷ [], (bytes ∷ [], tt))

    walk : length a.1.0.now < 2 ^ 64 → ent 𝓤 (on_entry 𝓛 f.signature κs qs a (before ∷ [], (bytes ∷ [], tt)))
        (WpFn 𝓤 H C Λ code.function (before ∷ bytes ∷ []) ((walk_of 𝓛 f.ended stayed (f.clauses 𝓛 mem run)).post bound))
    walk fits =
        qed 𝓛 (raw (alive 𝓛 f.signature κs qs) ∷ ‵ passed ∷ []) ∵ enter ! C Λ code.function (before ∷ bytes ∷ []) _ $
        alloc_all ! (λ l. pass_all ! refl ((tt, tt), ((tt, (tt, (record { fits = fits }, tt))), tt)) $ sets ! (agg ! (no_more !)) refl (tt, tt) $
        returns ! (look_at ! 0 refl) $ free_all ! refl $
        suffices ! _ (ends_at 𝓛 f.ended stayed (f.clauses 𝓛 mem run) bound (vstruct vnil) (record { bytes = a.0.now.bytes ++ a.1.0.now }) (tt, (tt, tt)) (tt, (tt, tt))) $
        says ! refl $ pure_i ! (log.the_row.own_val (record { bytes = a.0.now.bytes ++ a.1.0.now }) (vstruct vnil ∷ [])) ((λ vss. (tt, tt)), tt) ((tt, (refl, tt)), tt) $
        move ! (1 ∷ 2 ∷ 0 ∷ []) $ done !)

  walks : Walks 𝓛 f.ended stayed (WpFn 𝓤 H C Λ code.function) (f.clauses 𝓛 mem run)
  walks =
      walked 𝓛 f.ended stayed (f.clauses 𝓛 mem run) (WpFn 𝓤 H C Λ code.function) (λ κs. (shr_vals, (shr_slice_vals, tt)))
      (λ κs. (shr_Tells (named 0) κs.0 log.the_row, (shr_slice_Tells (named 1) κs.1.0 u8, tt)))
      (λ κs qs bounds a g are. via 𝓤 _ (fst∗ 𝓤 _ (emp 𝓤)) (walk κs qs a are.1.0.0.1.0))

meets : {M : Type 1} {𝓤 : Ura M} (𝓛 : Logic 𝓤) (mem : Memory → SProp 𝓤) (run : Routine → Fun 𝓤) (𝓣 : Tables 𝓤 𝓛.H)
    → Meets 𝓛 f.signature (WpFn 𝓤 𝓛.H 𝓣.C 𝓣.Λ code.function) (f.spec 𝓛 mem run)
meets {𝓤 = 𝓤} 𝓛 mem run 𝓣 =
    walk_Meets 𝓛 f.ended stayed (Goes-none_ref 𝓛 2 (0 ∷ []) tt (plain (λ _. log.the_row)) yes, (Goes-none_slice 𝓛 2 (1 ∷ []) tt (plain (λ _. u8)) yes, tt)) (f.clauses 𝓛 mem run) (WpFn 𝓤 𝓛.H 𝓣.C 𝓣.Λ code.function)
    (WpFn-mono 𝓤 𝓛.H 𝓛.laws 𝓣 code.function) (walks 𝓛 mem run 𝓣.C 𝓣.Λ)

pub then_spec : {M : Type 1} → stated.statement M
unfolding tables_of
then_spec 𝓤 𝓛 𝓜 𝓡 wired =
    entered 𝓤 𝓛.H (triple_of 𝓛 f.signature (f.spec 𝓛 𝓜.mem 𝓡.returns))
    (tables 𝓤 𝓛.H 𝓜 𝓡 𝓡.env).C (tables 𝓤 𝓛.H 𝓜 𝓡 𝓡.env).Λ key code.function (code.unfolded 𝓤 𝓛.H 𝓜 𝓡 wired)
    (meets 𝓛 𝓜.mem 𝓡.returns (tables_of 𝓤 𝓛.H 𝓜 (tables 𝓤 𝓛.H 𝓜 𝓡 𝓡.env)))
