-- `lend_whole` keeps the borrow open while the work runs, and shuts it at the bytes that came back. Assumes `Logic`.
use Rattle.std.proofs.Common.{◌≡◌, ℕ, ◌^◌, ◌<◌, List, [], ◌∷◌, ◌++◌, length, refl, sym, ap, ◌∙◌, subst, arith, true, false, Bool, Vec}
use lib.Dec.{T}
use mathlib.Core.Bool.{◌&&◌}
use seplogic.Ra.Ura.{Ura}
use mir.Syntax.{Args, Fn, Callee, Dict, a_type, dnil, dcons, method, no_args, w64}
use mir.Val.{Val, vint, vstruct, of_list, has_ty, WT}
use mir.MapTy.{inst_fn}
use base.Fraction.{full_share}
use base.Logic.{SProp, ent, emp, id⊢, via, fst∗, snd∗}
use base.Fml.{ftrue, flft}
use prog.Memory.{Memory}
use prog.Routine.{Routine}
use prog.Wp.{Env, WpFn, Tables}
use contract.BorrowLft.{◌⊑◌}
use contract.Lifetimes.{Lfts}
use contract.Monad.{Fun, fact, fact_i, fact_use}
use contract.Running.{tables, tables_of}
use sound.WpLaws.{WpFn-mono, fm_of}
use types.Logic.{Logic, sem}
use types.Part.{whole, sub}
use types.Kit.{‵, raw, ◌⊛◌, some, later, given, at_ret, ◌$◌, ◌∵◌, !, qed, move, keep, drop, use0, use1, split, split3, join, pick, rewrite, fsplit, fsplit3, fjoin, fpick, feq_l, suffices, await, learn, done}
use types.Run.{enter, returns, of_opd, and_then, no_more, first, blocks, exec, fld, hop, from, addr, stop}
use types.ByLocal.{alloc_all, pass_all, free_all, look_at, look_in_at, get, get_in, sets, lands_as, lands_last, env}
use denote.Builtin.{u8}
use denote.Exit.{no}
use denote.Index.{row, opens_slice, closes_slice}
use denote.Laws.{Are, Ises, owns_show, showss}
use denote.Param.{bounded, layout, layouts, param}
use denote.Param.Call as called
use denote.Param.Laws.{Laws, param_laws}
use denote.Param.Members.{once_call}
use denote.Param.Steps.{one_value}
use denote.RattleType.{RattleType, owns}
use denote.RawPtr.{Ptr, block_ptr}
use denote.Shadow.{pure_i}
use denote.Signature.{plain, types_at}
use denote.Slice.{Room, slice_val, mut_slice_vals, mut_slice_at}
use denote.Steps.{nothing, only, heard}
use denote.Struct.Tuple.{Tuple}
use denote.Triple.Call.{calls_at, calls_at_last}
use denote.Triple.Clauses.{Clauses, Ended, Lasts, lasts, closing}
use denote.Triple.Entry.{on_entry, alive, Args as Passed}
use denote.Triple.Spec.{Meets, triple_of}
use denote.Triple.Statement.{Triple, Contract}
use denote.Triple.Table.{entered}
use denote.Triple.Walked.{says, Stays, stay_slice, stay_dropped, walk_of, ends_at, Goes-slice, Goes-dropped, walk_Meets}
use Rattle.std_alloc.proofs.VecSteps.Shapes.{after}
use Rattle.std_alloc.specs.declared.vec.lodged.Lodged.{Lodged}
use Rattle.std_alloc.specs.Vec.Ownership.{lodged}
use Rattle.std_alloc.specs.contracts.vec.lodge.Key.{name as lodge_name}
use Rattle.std_alloc.proofs.vec.lodge.Met as lodge
use Rattle.std_alloc.specs.contracts.vec.lodged.Vec+T+Lodged.dislodge.Key.{name as dislodge_name}
use Rattle.std_alloc.proofs.vec.lodged.Vec+T+Lodged.dislodge.Met as dislodge
use Rattle.lezgauri.specs.Loans.{IsWhole, IsReturned}
use Rattle.lezgauri.proofs.LodgeLaws.{byte_laws, Housed, housed-laws, Good, tells, Lodges, at_lodge, IsLodged, lodge_goes, lodge_gives, Dislodges, at_dislodge, dislodge_goes, dislodge_gives}
use Rattle.lezgauri.proofs.SliceMemory.{row_lodged, lodged_row}
use Rattle.lezgauri.specs.contracts.lending.lend_whole as F
use Rattle.lezgauri.specs.contracts.lending.lend_whole.F-FnOnce as Called
use Rattle.lezgauri.specs.contracts.lending.lend_whole.Key.{name as #self}
use Rattle.lezgauri.proofs.lending.lend_whole.Statement as stated
use Rattle.lezgauri.proofs.lending.lend_whole.Code as code

both : (a b : Bool) → T a → T b → T (a && (b && true))
both true true s t = tt
both true false s t = absurd t
both false b s t = absurd s

abbrev lodge_key : Callee
lodge_key = lodge_name (layouts (a_type ∷ []) (u8, tt))

abbrev dislodge_key : Callee
dislodge_key = dislodge_name (layouts (a_type ∷ []) (u8, tt))

-- the result and the work
module _ (Y Z : RattleType) (g : Called.Ghosts Y Z) (d d' : Dict) where
  abbrev args : Args
  args = bounded (a_type ∷ a_type ∷ []) (Y, (Z, tt)) (dcons d (dcons d' dnil))

  abbrev here : Fn
  here = inst_fn args code.function

  abbrev ended : Ended
  ended = F.ended Y Z g d d'

  abbrev callee : Ended
  callee = Called.ended Y Z

  abbrev stayed : Stays ended.signature.params ended.kept
  stayed = (stay_slice (0 ∷ []) tt (plain (λ _. u8)), (stay_dropped (plain (λ _. param 1 Z)) no, tt))

  abbrev Once : {M : Type 1} {𝓤 : Ura M} (𝓛 : Logic 𝓤) → Contract 𝓤
  Once 𝓛 = triple_of 𝓛 callee.signature
      (called.spec callee 2 (λ κs. (κs.0, (κs.1.0, tt))) (Z.lives, (Y.lives, tt)) (once_call g) (λ κs a. a) (λ κs a. a) (λ κs a. a) 𝓛)

  module _ (LY : Laws Y) (LZ : Laws Z) {M : Type 1} {𝓤 : Ura M} (𝓛 : Logic 𝓤) (at_mem : Memory → SProp 𝓤) (run : Routine → Fun 𝓤) (𝓣 : Tables 𝓤 𝓛.H)
      (met : Triple 𝓤 (𝓣.C (method d 0 no_args)) (Once 𝓛)) (lodges : Triple 𝓤 (𝓣.C lodge_key) (Lodges 𝓛 at_mem run)) (dislodges : Triple 𝓤 (𝓣.C dislodge_key) (Dislodges 𝓛 at_mem run)) where
    open 𝓛 use {H}

    abbrev held : Clauses 𝓤 ended
    held = F.clauses Y Z g d d' 𝓛 at_mem run

    module _ (z : (walk_of 𝓛 ended stayed held).Ghost) where
      abbrev At : List Val → List Val → (walk_of 𝓛 ended stayed held).Ghost
      At us fs = ((z.0.0, z.0.1, z.0.2, z.0.3, (us, (fs, tt))), z.1)

      abbrev Goes : List Val → List Val → Type 1
      Goes us fs = ent 𝓤 ((walk_of 𝓛 ended stayed held).pre (At us fs)) (WpFn 𝓤 H 𝓣.C 𝓣.Λ here (us ++ (fs ++ [])) ((walk_of 𝓛 ended stayed held).post (At us fs)))

      abbrev to : List Val
      to = mut_slice_vals z.0.3.0

      walk : Room u8 (length z.0.3.0.now) → (w : Val) → T (has_ty (layout Z) w) × WT w → Goes to (w ∷ [])
      walk rm w gw =
          let κ₀ = z.0.0.0 in let κ₁ = z.0.0.1.0 in let κ₂ = z.0.0.1.1.0 in
          let q₀ = z.0.1.0 in let q₁ = z.0.1.1.0 in let q₂ = z.0.1.1.1.0 in
          let b = z.0.3.0.ref_ptr.0 in let o = z.0.3.0.ref_ptr.1 in let xs : List ℕ = z.0.3.0.now in let n : ℕ = length xs in let f = z.0.3.1.0 in
          let y₀ = At to (w ∷ []) in
          let Post : Val → SProp 𝓤 = (walk_of 𝓛 ended stayed held).post y₀ in
          let Two : RattleType = Tuple (Housed ∷ param 0 Y ∷ []) in
          let Asks : Type 0 = (vec : Vec ℕ Lodged) → IsWhole xs vec → F.F-pre Y Z g d d' f vec in
          let Returns : Type 0 = (vec : Vec ℕ Lodged) (out : Vec ℕ Lodged × Y.Denot) → IsWhole xs vec → F.F-post Y Z g d d' f vec out → IsReturned xs vec out.0 in
          let κs : Lfts 2 = (κ₂, (κ₁, tt)) in
          qed 𝓛 (((‵ (flft κ₀ q₀) ⊛ ‵ (flft κ₁ q₁) ⊛ ‵ (flft κ₂ q₂) ⊛ ‵ ftrue) ⊛ ‵ (owns (types_at ended.signature.params z.0.0) z.0.3 y₀.0.4))
          ∷ (raw (fact 𝓤 (κ₁ ⊑ Y.lives)) ⊛ raw (fact 𝓤 (κ₂ ⊑ Z.lives)) ⊛ raw (fact 𝓤 Asks) ⊛ raw (fact 𝓤 Returns)) ∷ []) ∵
          move ! (1 ∷ []) $ split ! $ heard ! (κ₁ ⊑ Y.lives) (λ inY. split ! $ heard ! (κ₂ ⊑ Z.lives) (λ inZ. split ! $ heard ! Asks (λ asks. heard ! Returns (λ returned.
          split ! $ split ! $ move ! (2 ∷ []) $ fsplit ! $ move ! (1 ∷ []) $ fsplit ! $ move ! (2 ∷ []) $ fsplit3 ! $ keep ! (1 ∷ 2 ∷ 5 ∷ 3 ∷ 6 ∷ []) $
          -- [obs; the borrow; its token; the work; the other tokens]
          enter ! 𝓣.C 𝓣.Λ here (slice_val (b, o) n ∷ w ∷ []) _ $ alloc_all ! (λ l. pass_all ! refl ((tt, (tt, (record { fits = rm.0 }, tt))), (gw, tt)) $
          let En : Env 𝓤 H = env here.locals l in
          sets ! (of_opd ! (get_in ! (fld ! refl (stop !)) (sub ! 1 refl (whole !)))) refl (tt, record { fits = rm.0 }) $
          sets ! (addr ! (from ! (fld ! refl (hop ! (look_in_at ! 1 (sub ! 0 refl (whole !))) (stop !))))) refl (tt, tt) $
          sets ! (of_opd ! (get ! refl)) refl gw $
          opens_slice ! tt u8 xs b o $ use1 𝓛 (‵ (lodged u8 (block_ptr b o) n n xs)) (row_lodged 𝓛 b o xs rm.1) $
          first ! $ blocks ! $ sets ! (of_opd ! (get ! refl)) refl (tt, tt) $ sets ! (of_opd ! (get ! refl)) refl (tt, record { fits = rm.0 }) $ sets ! (of_opd ! (get ! refl)) refl (tt, record { fits = rm.0 }) $
          use1 𝓛 (raw ((Lodges 𝓛 at_mem run).pre (at_lodge 𝓛 at_mem run b o n n xs))) (lodge_goes 𝓛 at_mem run b o n n xs refl (omega arith) (omega (arith, rm.1))) $
          calls_at_last ! (fm_of 𝓤 H 𝓛.laws 𝓣) (Lodges 𝓛 at_mem run) lodges (at_lodge 𝓛 at_mem run b o n n xs) (and_then ! (get ! refl) (and_then ! (get ! refl) (and_then ! (get ! refl) (no_more !)))) (λ v.
          use1 𝓛 (later (some (λ (r : Vec ℕ Lodged). given (IsLodged 𝓛 at_mem run b o n n xs r) (‵ (Housed.own_val r (v ∷ [])))))) (lodge_gives 𝓛 at_mem run b o n n xs v) $
          await ! tt $ pick ! (λ lent. learn ! (λ made. tells ! Housed housed-laws lent (v ∷ []) (λ u same good.
          let fine : Good Housed v = subst (Good Housed) (sym (ap only same)) good in
          rewrite ! 0 (λ s. ‵ (Housed.own_val lent (s ∷ []))) (sym (ap only same)) refl $ lands_last ! refl fine $
          exec ! 𝓣.C 𝓣.Λ En (after 4 here.body) (at_ret En Post) $ sets ! (of_opd ! (get ! refl)) refl fine $
          -- [the vector; the open borrow, obs, auth; the work; the other tokens]
          let loan : IsWhole xs lent = record { items = made.0; full = made.2 } in
          let Ok : Type 0 = g.pre f (lent, tt) in
          let passed : Passed callee.signature κs = (f, (lent, tt)) in
          let y : (Once 𝓛).Ghost = ((κs, (q₂, (q₁, tt)), tt, passed, (w ∷ [], (v ∷ [], tt))), tt) in
          nothing ! $ move ! (1 ∷ 0 ∷ []) $ fjoin ! $ move ! (4 ∷ 0 ∷ []) $ fjoin ! $ move ! (4 ∷ []) $ split3 ! $ move ! (0 ∷ 2 ∷ []) $ join ! $ move ! (1 ∷ 0 ∷ []) $ join ! $ join ! $
          use0 𝓛 (raw (fact 𝓤 Ok)) (fact_i 𝓤 Ok (emp 𝓤) (asks lent loan)) $ use0 𝓛 (raw (fact 𝓤 (κ₁ ⊑ Y.lives))) (fact_i 𝓤 (κ₁ ⊑ Y.lives) (emp 𝓤) inY) $ join ! $
          use0 𝓛 (raw (fact 𝓤 (κ₂ ⊑ Z.lives))) (fact_i 𝓤 (κ₂ ⊑ Z.lives) (emp 𝓤) inZ) $ join ! $
          move ! (1 ∷ 0 ∷ []) $ join ! $ use1 𝓛 (raw ((Once 𝓛).pre y)) (id⊢ 𝓤 ((Once 𝓛).pre y)) $
          calls_at ! (fm_of 𝓤 H 𝓛.laws 𝓣) (Once 𝓛) met y (and_then ! (get ! refl) (and_then ! (get ! refl) (no_more !))) (λ got.
          use1 𝓛 (later (some (λ (r : Two.Denot). ((‵ (flft κ₂ q₂) ⊛ ‵ (flft κ₁ q₁) ⊛ ‵ ftrue) ⊛ ‵ (Two.own_val r (got ∷ [])))
          ⊛ some (λ (ws : Lasts callee κs passed). ‵ (lasts callee κs passed ws) ⊛ raw (fact 𝓤 (g.post f (lent, tt) r)))))) (id⊢ 𝓤 ((Once 𝓛).post y got)) $
          await ! tt $ pick ! (λ r. split ! $ move ! (1 ∷ []) $ pick ! (λ ws. split ! $ drop ! $ heard ! (g.post f (lent, tt) r) (λ gave.
          let back : Vec ℕ Lodged = r.0 in let ys : List ℕ = back.items in
          let full : IsReturned xs lent back = returned lent r loan gave in
          let same_len : length ys ≡ n = sym back.ok.0 ∙ full.whole in
          let placed : back.ptr ≡ block_ptr b o = ap (λ home. home.at) full.home ∙ made.3 in
          split ! $ move ! (1 ∷ []) $ fpick ! (λ vss. fsplit ! $ feq_l ! (λ e. fsplit3 ! $
          tells ! Housed housed-laws back vss.0 (λ v₁ e₁ g₁. move ! (1 ∷ []) $ tells ! Y LY r.1 vss.1.0 (λ v₂ e₂ g₂.
          -- [the result; the vector; nothing; the tokens; the open borrow, obs, auth]
          lands_as ! (ap only e ∙ (λ i. vstruct (of_list (e₁ i ++ (e₂ i ++ []))))) refl (both (has_ty (layout Housed) v₁) (has_ty (layout Y) v₂) g₁.0 g₂.0, (g₁.1, (g₂.1, tt))) $
          sets ! (of_opd ! (get_in ! (fld ! refl (stop !)) (sub ! 0 refl (whole !)))) refl g₁ $ sets ! (of_opd ! (get_in ! (fld ! refl (stop !)) (sub ! 1 refl (whole !)))) refl g₂ $
          sets ! (of_opd ! (get ! refl)) refl g₁ $ move ! (1 ∷ []) $
          use1 𝓛 (raw ((Dislodges 𝓛 at_mem run).pre (at_dislodge 𝓛 at_mem run back v₁))) (dislodge_goes 𝓛 at_mem run back v₁) $
          calls_at ! (fm_of 𝓤 H 𝓛.laws 𝓣) (Dislodges 𝓛 at_mem run) dislodges (at_dislodge 𝓛 at_mem run back v₁) (and_then ! (get ! refl) (no_more !)) (λ k.
          use1 𝓛 (later (given ((k ≡ vint w64 back.len) × (back.len < 2 ^ 64)) (‵ (lodged u8 back.ptr back.len back.cap ys)))) (dislodge_gives 𝓛 at_mem run back v₁ k) $
          await ! tt $ learn ! (λ counted. lands_as ! counted.0 refl (tt, record { fits = counted.1 }) $ sets ! (of_opd ! (get ! refl)) refl g₂ $
          rewrite ! 0 (λ (p : Ptr). ‵ (lodged u8 p back.len back.cap ys)) placed refl $
          use1 𝓛 (‵ (row u8 full_share ys b o)) (lodged_row 𝓛 b o back.len back.cap ys back.ok.0 back.ok.1) $
          move ! (0 ∷ 4 ∷ 5 ∷ 6 ∷ []) $ closes_slice ! tt u8 xs ys same_len b o $
          returns ! (look_at ! 0 refl) $ free_all ! refl $
          -- [obs; the borrow; its token; the result; nothing; the other tokens]
          suffices ! _ (ends_at 𝓛 ended stayed held y₀ v₂ r.1 (ys, (tt, tt)) (same_len, (tt, tt))) $ says ! (lent, back, loan, gave, refl) $
          fjoin ! $ pure_i ! (mut_slice_at u8 (record { ref_ptr = (b, o); ghost_name = z.0.3.0.ghost_name; now = ys }) (mut_slice_vals z.0.3.0)) (tt, (tt, tt))
          (ap (λ (m : ℕ). slice_val (b, o) m ∷ []) (sym same_len), subst (Room u8) (sym same_len) rm) $ fjoin ! $
          nothing ! $ nothing ! $ fjoin ! $ move ! (1 ∷ 0 ∷ []) $ fjoin ! $ move ! (0 ∷ 2 ∷ []) $ join ! $
          move ! (3 ∷ []) $ split3 ! $ move ! (0 ∷ 2 ∷ []) $ join ! $ move ! (1 ∷ 0 ∷ []) $ join ! $ move ! (2 ∷ 0 ∷ []) $ join ! $ keep ! (0 ∷ 1 ∷ []) $ done !)))))))))))))))))))

    meets : Meets 𝓛 ended.signature (WpFn 𝓤 H 𝓣.C 𝓣.Λ here) (closing 𝓛 ended held)
    meets =
        walk_Meets 𝓛 ended stayed (Goes-slice 𝓛 3 0 tt (plain (λ _. u8)), (Goes-dropped 𝓛 3 (plain (λ _. param 1 Z)) no (λ κs x f. refl), tt)) held
        (WpFn 𝓤 H 𝓣.C 𝓣.Λ here) (WpFn-mono 𝓤 H 𝓛.laws 𝓣 here)
        (λ z. let a = z.0.3 in let vss = z.0.4 in let Rs : List RattleType = types_at ended.signature.params z.0.0 in
        let entry : SProp 𝓤 = on_entry 𝓛 ended.signature z.0.0 z.0.1 a vss in
        let owned : SProp 𝓤 = sem 𝓛 (owns Rs a vss) in
        fact_use 𝓤 (Are Rs (Ises Rs) a vss) (via 𝓤 owned (via 𝓤 entry (fst∗ 𝓤 entry ((held z.0.0 a).requires z.1)) (snd∗ 𝓤 (alive 𝓛 ended.signature z.0.0 z.0.1) owned)) (owns_show 𝓛 Rs (Ises Rs) (showss 𝓛 Rs) a vss)) (λ are.
        subst (λ (us : List Val). Goes z us vss.1.0) (sym are.0.0.0)
        (one_value (layout Z) (λ fs. Goes z (to z) fs) vss.1.0 (((param_laws 1 Z LZ).lawful 𝓛).typed a.1.0 vss.1.0 are.1.0) (walk z are.0.0.1))))

pub lend_whole_spec : {M : Type 1} → stated.statement M
unfolding tables_of
lend_whole_spec 𝓤 𝓛 𝓜 𝓡 wired Y Z LY LZ g d d' met _ =
    let 𝓣 : Tables 𝓤 𝓛.H = tables_of 𝓤 𝓛.H 𝓜 (tables 𝓤 𝓛.H 𝓜 𝓡 𝓡.env) in
    entered 𝓤 𝓛.H (triple_of 𝓛 (F.signature Y Z) (F.spec Y Z g d d' 𝓛 𝓜.mem 𝓡.returns)) 𝓣.C 𝓣.Λ (#self (args Y Z g d d')) (here Y Z g d d')
    (code.unfolded 𝓤 𝓛.H 𝓜 𝓡 wired (Y, (Z, tt)) d d')
    (meets Y Z g d d' LY LZ 𝓛 𝓜.mem 𝓡.returns 𝓣 met.1
    (lodge.met 𝓤 𝓛 𝓜 𝓡 (code.calls-std_alloc::vec::lodge 𝓡.env wired) u8 byte_laws)
    (dislodge.met 𝓤 𝓛 𝓜 𝓡 (code.calls-std_alloc::vec::lodged::Vec+T+Lodged::dislodge 𝓡.env wired) u8 byte_laws))
