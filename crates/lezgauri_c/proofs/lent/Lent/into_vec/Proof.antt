-- `into_vec` hands the memory to `lodge`. Assumes `Logic`.
use Rattle.std.proofs.Common.{◌≡◌, ℕ, ◌*◌, ◌^◌, List, [], ◌∷◌, ◌++◌, refl, sym, ap, ◌∙◌, subst, Vec}
use seplogic.Ra.Ura.{Ura}
use mir.Syntax.{Fn, Callee, a_type, w64}
use mir.Val.{Val, vptr, vint, vstruct, vcons, vnil, of_list}
use base.Logic.{SProp, ent, never, snd∗}
use base.Fml.{flt}
use prog.Memory.{Memory}
use prog.Routine.{Routine}
use prog.Wp.{Calls, Loops, WpFn, Tables}
use contract.Monad.{Fun}
use contract.Running.{tables, tables_of}
use sound.WpLaws.{WpFn-mono, fm_of, FmC}
use types.Logic.{Logic, sem}
use types.Part.{whole, sub}
use types.Kit.{‵, raw, ◌⊛◌, later, prop, ◌$◌, ◌∵◌, !, qed, move, drop, use1, split, fsplit, fpick, fjoin, feq_l, regoal, rewrite, suffices, await, done, some, given, pick, learn, at_ret, flt_l}
use types.Run.{enter, returns, of_opd, and_then, no_more, first, blocks, exec, fld, stop}
use types.ByLocal.{alloc_all, pass_all, free_all, look_at, get, get_in, sets, lands_last, env}
use denote.Exit.{yes}
use denote.RattleType.{owns}
use denote.Builtin.{u8}
use denote.Param.{layouts}
use denote.Signature.{plain, types_at}
use denote.Steps.{nothing, only}
use denote.Triple.Clauses.{Clauses, Ended, closing}
use denote.Triple.Entry.{alive}
use denote.Triple.Spec.{Meets, triple_of}
use denote.Triple.Table.{entered}
use denote.Triple.Walked.{says, Stays, stay_dropped, walk_of, ends_at, walk_Meets}
use denote.RawPtr.{Ptr, ptr_val, in_a_block}
use denote.Triple.Call.{calls_at_last}
use denote.Triple.Statement.{Triple}
use Rattle.std.proofs.alloc.Calls.{Goes-blank}
use Rattle.std_alloc.specs.declared.vec.lodged.Lodged.{Lodged}
use Rattle.std_alloc.specs.contracts.vec.lodge.Key.{name as callee_name}
use Rattle.std_alloc.proofs.vec.lodge.Met as callee
use Rattle.std_alloc.specs.Vec.Ownership.{lodged}
use Rattle.lezgauri_c.specs.contracts.lent.Lent.{the_row as R}
use Rattle.lezgauri.proofs.LodgeLaws.{byte_laws, Housed, housed-laws, Good, tells, Lodges, at_lodge, IsLodged, lodge_goes, lodge_gives}
use Rattle.lezgauri_c.specs.contracts.lent.Lent.into_vec as F
use Rattle.lezgauri_c.specs.contracts.lent.Lent.into_vec.Key.{name as #self}
use Rattle.lezgauri_c.proofs.lent.Lent.into_vec.Statement as stated
use Rattle.lezgauri_c.proofs.lent.Lent.into_vec.Code as code

abbrev key : Callee
key = callee_name (layouts (a_type ∷ []) (u8, tt))

abbrev function : Fn
function = code.function

abbrev ended : Ended
ended = F.ended

abbrev stayed : Stays ended.signature.params ended.kept
stayed = (stay_dropped (plain (λ _. R)) yes, tt)

abbrev three : Val → Val → Val → Val
three u v w = vstruct (vcons u (vcons v (vcons w vnil)))

module _ {M : Type 1} {𝓤 : Ura M} (𝓛 : Logic 𝓤) (at_mem : Memory → SProp 𝓤) (run : Routine → Fun 𝓤) where
  open 𝓛 use {H}

  abbrev held : Clauses 𝓤 ended
  held = F.clauses 𝓛 at_mem run

  module _ (C : Calls 𝓤 H) (Λ : Loops 𝓤 H) (framed : FmC 𝓤 H 𝓛.laws C) (called : Triple 𝓤 (C key) (Lodges 𝓛 at_mem run)) (z : (walk_of 𝓛 ended stayed held).Ghost) where
    abbrev Post : Val → SProp 𝓤
    Post = (walk_of 𝓛 ended stayed held).post z

    abbrev toks : SProp 𝓤
    toks = alive 𝓛 ended.signature z.0.0 z.0.1

    walks : ent 𝓤 ((walk_of 𝓛 ended stayed held).pre z) (WpFn 𝓤 H C Λ function ((walk_of 𝓛 ended stayed held).args z) Post)
    walks =
        let d = z.0.3.0 in
        let vss = z.0.4 in
        let n = d.len in
        let c = d.room in
        let xs = d.bytes in
        let F = λ (r : Ptr). lodged u8 r n c xs in
        qed 𝓛 ((raw toks ⊛ ‵ (owns (types_at ended.signature.params z.0.0) z.0.3 vss)) ∷ raw ((held z.0.0 z.0.3).requires z.1) ∷ []) ∵
        move ! (1 ∷ []) $ drop ! $ split ! $ move ! (1 ∷ []) $
        fsplit ! $ move ! (1 ∷ []) $ drop ! $ fsplit ! $ fpick ! (λ wss. fsplit ! $ feq_l ! (λ ev. fsplit ! $ feq_l ! (λ ep. fsplit ! $ fsplit ! $ feq_l ! (λ en. flt_l ! (λ fn. fsplit ! $ fsplit ! $ feq_l ! (λ er. flt_l ! (λ fr. drop ! $
        in_a_block ! d.at F (snd∗ 𝓤 (sem 𝓛 (flt (c * 1) (2 ^ 63))) (never 𝓤)) (λ b o at.
        let y = at_lodge 𝓛 at_mem run b o n c xs in
        let w : Val = three (vptr b o) (vint w64 n) (vint w64 c) in
        let is : vss.0 ≡ w ∷ [] = ev ∙ (λ i. vstruct (of_list ((ep ∙ ap (λ (r : Ptr). ptr_val r ∷ []) at) i ++ (en i ++ (er i ++ [])))) ∷ []) in
        regoal ! (λ (us : List Val). prop (WpFn 𝓤 H C Λ function (us ++ []) Post)) is refl $
        enter ! C Λ function (w ∷ []) Post $ alloc_all ! (λ l. pass_all ! refl ((tt, (tt, (record { fits = fn }, (record { fits = fr }, tt)))), tt) $
        sets ! (of_opd ! (get_in ! (fld ! refl (stop !)) (sub ! 0 refl (whole !)))) refl (tt, tt) $
        sets ! (of_opd ! (get_in ! (fld ! refl (stop !)) (sub ! 1 refl (whole !)))) refl (tt, record { fits = fn }) $
        sets ! (of_opd ! (get_in ! (fld ! refl (stop !)) (sub ! 2 refl (whole !)))) refl (tt, record { fits = fr }) $
        first ! $ blocks ! $ use1 𝓛 (raw ((Lodges 𝓛 at_mem run).pre y)) (lodge_goes 𝓛 at_mem run b o n c xs d.counted.0 d.counted.1 d.small) $
        calls_at_last ! framed (Lodges 𝓛 at_mem run) called y (and_then ! (get ! refl) (and_then ! (get ! refl) (and_then ! (get ! refl) (no_more !)))) (λ v.
        use1 𝓛 (later (some (λ (r : Vec ℕ Lodged). given (IsLodged 𝓛 at_mem run b o n c xs r) (‵ (Housed.own_val r (v ∷ [])))))) (lodge_gives 𝓛 at_mem run b o n c xs v) $
        await ! tt $ pick ! (λ r. learn ! (λ got. tells ! Housed housed-laws r (v ∷ []) (λ u same good.
        let fine : Good Housed v = subst (Good Housed) (sym (ap only same)) good in
        rewrite ! 0 (λ s. ‵ (Housed.own_val r (s ∷ []))) (sym (ap only same)) refl $ lands_last ! refl fine $
        exec ! C Λ (env function.locals l) code.Mir.t-5 (at_ret (env function.locals l) Post) $
        sets ! (of_opd ! (get ! refl)) refl fine $
        returns ! (look_at ! 0 refl) $ free_all ! refl $
        suffices ! _ (ends_at 𝓛 ended stayed held z v r (tt, tt) (tt, tt)) $ says ! (got.0, got.1, got.2, got.3 ∙ sym at) $
        nothing ! $ nothing ! $ fjoin ! $ move ! (2 ∷ 0 ∷ 1 ∷ []) $ done !)))))))))))))

  meets : (𝓣 : Tables 𝓤 H) → Triple 𝓤 (𝓣.C key) (Lodges 𝓛 at_mem run) → Meets 𝓛 ended.signature (WpFn 𝓤 H 𝓣.C 𝓣.Λ function) (closing 𝓛 ended held)
  meets 𝓣 called =
      walk_Meets 𝓛 ended stayed (Goes-blank 𝓛 0 (plain (λ _. R)) yes (λ κs x f. tt), tt) held
      (WpFn 𝓤 H 𝓣.C 𝓣.Λ function) (WpFn-mono 𝓤 H 𝓛.laws 𝓣 function) (walks 𝓣.C 𝓣.Λ (fm_of 𝓤 H 𝓛.laws 𝓣) called)

pub into_vec_spec : {M : Type 1} → stated.statement M
unfolding tables_of
into_vec_spec 𝓤 𝓛 𝓜 𝓡 wired =
    let 𝓣 : Tables 𝓤 𝓛.H = tables_of 𝓤 𝓛.H 𝓜 (tables 𝓤 𝓛.H 𝓜 𝓡 𝓡.env) in
    entered 𝓤 𝓛.H (triple_of 𝓛 ended.signature (closing 𝓛 ended (held 𝓛 𝓜.mem 𝓡.returns))) 𝓣.C 𝓣.Λ #self function
    (code.unfolded 𝓤 𝓛.H 𝓜 𝓡 wired) (meets 𝓛 𝓜.mem 𝓡.returns 𝓣 (callee.met 𝓤 𝓛 𝓜 𝓡 (code.calls-std_alloc::vec::lodge 𝓡.env wired) u8 byte_laws))
