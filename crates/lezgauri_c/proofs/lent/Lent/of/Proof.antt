-- `of` takes the memory from `dislodge`. Assumes `Logic`.
use Rattle.std.proofs.Common.{◌≡◌, ℕ, ◌^◌, ◌<◌, ◌≤◌, List, [], ◌∷◌, ◌++◌, refl, sym, subst}
use seplogic.Ra.Ura.{Ura}
use mir.Syntax.{Fn, Callee, a_type, w64, ty_ptr, ty_int}
use mir.Val.{Val, vint, vstruct, vcons, vnil}
use base.Logic.{SProp, ent}
use prog.Memory.{Memory}
use prog.Routine.{Routine}
use prog.Wp.{Calls, Loops, WpFn, Tables}
use contract.Monad.{Fun, fact}
use contract.Running.{tables, tables_of}
use sound.WpLaws.{WpFn-mono, fm_of, FmC}
use types.Logic.{Logic}
use types.Part.{agg}
use types.Kit.{‵, raw, ◌⊛◌, later, prop, ◌$◌, ◌∵◌, !, qed, move, drop, use1, split, fsplit, fjoin, fpack, feq_l, feq_i, flt_l, flt_i, regoal, rewrite, suffices, await, done, given, learn}
use types.Run.{enter, returns, of_opd, and_then, no_more}
use types.ByLocal.{alloc_all, pass_all, free_all, look_at, get, sets, lands_as}
use denote.Exit.{yes}
use denote.RattleType.{owns, Valss}
use denote.Builtin.{u8, usize, RawPtr}
use denote.Param.{layouts}
use denote.Signature.{plain, types_at}
use denote.Steps.{nothing, heard}
use denote.Struct.Struct.{within, as_fields}
use denote.Struct.Owning.{shape}
use denote.Triple.Clauses.{Clauses, Ended, closing}
use denote.Triple.Entry.{alive}
use denote.Triple.Spec.{Meets, triple_of}
use denote.Triple.Table.{entered}
use denote.Triple.Walked.{says, Stays, stay_dropped, walk_of, ends_at, walk_Meets}
use denote.RawPtr.{Ptr, ptr_val, rawptr_Lawful}
use denote.Triple.Call.{calls_at}
use denote.Triple.Statement.{Triple}
use Rattle.std.proofs.alloc.Calls.{Goes-blank}
use Rattle.std_alloc.specs.contracts.vec.lodged.Vec+T+Lodged.dislodge.Key.{name as callee_name}
use Rattle.std_alloc.proofs.vec.lodged.Vec+T+Lodged.dislodge.Met as callee
use Rattle.std_alloc.specs.Vec.Ownership.{lodged}
use Rattle.lezgauri_c.specs.contracts.lent.Lent.{the_type, the_row as R}
use Rattle.lezgauri.proofs.LodgeLaws.{byte_laws, Housed, housed-laws, tells, Dislodges, at_dislodge, dislodge_goes, dislodge_gives}
use Rattle.lezgauri_c.specs.contracts.lent.Lent.of as F
use Rattle.lezgauri_c.specs.contracts.lent.Lent.of.Key.{name as #self}
use Rattle.lezgauri_c.proofs.lent.Lent.of.Statement as stated
use Rattle.lezgauri_c.proofs.lent.Lent.of.Code as code

abbrev key : Callee
key = callee_name (layouts (a_type ∷ []) (u8, tt))

abbrev function : Fn
function = code.function

abbrev ended : Ended
ended = F.ended

abbrev stayed : Stays ended.signature.params ended.kept
stayed = (stay_dropped (plain (λ _. Housed)) yes, (stay_dropped (plain (λ _. RawPtr)) yes, (stay_dropped (plain (λ _. usize)) yes, tt)))

abbrev three : Val → Val → Val → Val
three u v w = vstruct (vcons u (vcons v (vcons w vnil)))

module _ {M : Type 1} {𝓤 : Ura M} (𝓛 : Logic 𝓤) (at_mem : Memory → SProp 𝓤) (run : Routine → Fun 𝓤) where
  open 𝓛 use {H}

  abbrev held : Clauses 𝓤 ended
  held = F.clauses 𝓛 at_mem run

  module _ (C : Calls 𝓤 H) (Λ : Loops 𝓤 H) (framed : FmC 𝓤 H 𝓛.laws C) (called : Triple 𝓤 (C key) (Dislodges 𝓛 at_mem run)) (z : (walk_of 𝓛 ended stayed held).Ghost) where
    abbrev Post : Val → SProp 𝓤
    Post = (walk_of 𝓛 ended stayed held).post z

    abbrev toks : SProp 𝓤
    toks = alive 𝓛 ended.signature z.0.0 z.0.1

    walks : ent 𝓤 ((walk_of 𝓛 ended stayed held).pre z) (WpFn 𝓤 H C Λ function ((walk_of 𝓛 ended stayed held).args z) Post)
    walks =
        let a = z.0.3 in
        let vss = z.0.4 in
        let d = a.0 in
        let p = a.1.0 in
        let c = a.1.1.0 in
        let Asked = (p ≡ d.ptr) × (c ≡ d.cap) in
        qed 𝓛 ((raw toks ⊛ ‵ (owns (types_at ended.signature.params z.0.0) a vss)) ∷ raw (fact 𝓤 Asked) ∷ []) ∵
        move ! (1 ∷ []) $ heard ! Asked (λ asked. split ! $ move ! (1 ∷ []) $
        fsplit ! $ tells ! Housed housed-laws d vss.0 (λ u is good. move ! (1 ∷ []) $
        fsplit ! $ feq_l ! (λ ep. fsplit ! $ fsplit ! $ feq_l ! (λ er. flt_l ! (λ fr. drop ! $
        let y = at_dislodge 𝓛 at_mem run d u in
        let r : R.Denot = record { at = p; len = d.len; room = c; bytes = d.items; counted = (d.ok.0, subst (λ k. d.len ≤ k) (sym asked.1) d.ok.1); small = subst (λ k. k < 2 ^ 63) (sym asked.1) d.small } in
        regoal ! (λ (us : List Val). prop (WpFn 𝓤 H C Λ function (us ++ (vss.1.0 ++ (vss.1.1.0 ++ []))) Post)) is refl $
        regoal ! (λ (us : List Val). prop (WpFn 𝓤 H C Λ function ((u ∷ []) ++ (us ++ (vss.1.1.0 ++ []))) Post)) ep refl $
        regoal ! (λ (us : List Val). prop (WpFn 𝓤 H C Λ function ((u ∷ []) ++ ((ptr_val p ∷ []) ++ (us ++ []))) Post)) er refl $
        enter ! C Λ function (u ∷ ptr_val p ∷ vint w64 c ∷ []) Post $ alloc_all ! (λ l. pass_all ! refl (good, (((rawptr_Lawful 𝓛).typed p _ refl).0, ((tt, record { fits = fr }), tt))) $
        sets ! (of_opd ! (get ! refl)) refl good $ use1 𝓛 (raw ((Dislodges 𝓛 at_mem run).pre y)) (dislodge_goes 𝓛 at_mem run d u) $
        calls_at ! framed (Dislodges 𝓛 at_mem run) called y (and_then ! (get ! refl) (no_more !)) (λ w.
        use1 𝓛 (later (given ((w ≡ vint w64 d.len) × (d.len < 2 ^ 64)) (‵ (lodged u8 d.ptr d.len d.cap d.items)))) (dislodge_gives 𝓛 at_mem run d u w) $ await ! tt $ learn ! (λ got.
        lands_as ! got.0 refl (tt, record { fits = got.1 }) $
        sets ! (agg ! (and_then ! (get ! refl) (and_then ! (get ! refl) (and_then ! (get ! refl) (no_more !))))) refl
        (as_fields (ty_ptr ∷ ty_int w64 ∷ ty_int w64 ∷ []) (ptr_val p ∷ vint w64 d.len ∷ vint w64 c ∷ []) (((rawptr_Lawful 𝓛).typed p _ refl).0, ((tt, record { fits = got.1 }), ((tt, record { fits = fr }), tt)))) $
        returns ! (look_at ! 0 refl) $ free_all ! refl $
        rewrite ! 0 (λ (k : Ptr × ℕ). ‵ (lodged u8 k.0 d.len k.1 d.items)) {x = (p, c)} (λ i. (sym asked.0 i, sym asked.1 i)) refl $
        let v : Val = three (ptr_val p) (vint w64 d.len) (vint w64 c) in
        nothing ! $ flt_i ! c (2 ^ 64) fr $ feq_i ! (List Val) (vint w64 c ∷ []) (vint w64 c ∷ []) refl $ fjoin ! $ fjoin ! $
        flt_i ! d.len (2 ^ 64) got.1 $ feq_i ! (List Val) (vint w64 d.len ∷ []) (vint w64 d.len ∷ []) refl $ fjoin ! $ fjoin ! $
        feq_i ! (List Val) (ptr_val p ∷ []) (ptr_val p ∷ []) refl $ fjoin ! $ feq_i ! (List Val) (v ∷ []) (v ∷ []) refl $ fjoin ! $
        fpack ! (Valss (RawPtr ∷ usize ∷ usize ∷ [])) (within (shape the_type) (p, (d.len, (c, tt))) (v ∷ [])) (ptr_val p ∷ [], (vint w64 d.len ∷ [], (vint w64 c ∷ [], tt))) $ fjoin ! $
        suffices ! _ (ends_at 𝓛 ended stayed held z v r (tt, (tt, (tt, tt))) (tt, (tt, (tt, tt)))) $ says ! (refl, refl, asked.1, asked.0) $
        nothing ! $ nothing ! $ fjoin ! $ nothing ! $ fjoin ! $ nothing ! $ fjoin ! $ move ! (2 ∷ 0 ∷ 1 ∷ []) $ done !))))))))

  meets : (𝓣 : Tables 𝓤 H) → Triple 𝓤 (𝓣.C key) (Dislodges 𝓛 at_mem run) → Meets 𝓛 ended.signature (WpFn 𝓤 H 𝓣.C 𝓣.Λ function) (closing 𝓛 ended held)
  meets 𝓣 called =
      walk_Meets 𝓛 ended stayed (Goes-blank 𝓛 0 (plain (λ _. Housed)) yes (λ κs x f. tt), (Goes-blank 𝓛 0 (plain (λ _. RawPtr)) yes (λ κs x f. tt), (Goes-blank 𝓛 0 (plain (λ _. usize)) yes (λ κs x f. tt), tt))) held
      (WpFn 𝓤 H 𝓣.C 𝓣.Λ function) (WpFn-mono 𝓤 H 𝓛.laws 𝓣 function) (walks 𝓣.C 𝓣.Λ (fm_of 𝓤 H 𝓛.laws 𝓣) called)

pub of_spec : {M : Type 1} → stated.statement M
unfolding tables_of
of_spec 𝓤 𝓛 𝓜 𝓡 wired =
    let 𝓣 : Tables 𝓤 𝓛.H = tables_of 𝓤 𝓛.H 𝓜 (tables 𝓤 𝓛.H 𝓜 𝓡 𝓡.env) in
    entered 𝓤 𝓛.H (triple_of 𝓛 ended.signature (closing 𝓛 ended (held 𝓛 𝓜.mem 𝓡.returns))) 𝓣.C 𝓣.Λ #self function
    (code.unfolded 𝓤 𝓛.H 𝓜 𝓡 wired) (meets 𝓛 𝓜.mem 𝓡.returns 𝓣 (callee.met 𝓤 𝓛 𝓜 𝓡 (code.calls-std_alloc::vec::lodged::Vec+T+Lodged::dislodge 𝓡.env wired) u8 byte_laws))
