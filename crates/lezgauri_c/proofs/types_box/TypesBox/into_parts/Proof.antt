-- `into_parts` moves the pointer, with the ownership of its target.
use mathlib.Core.Path.{◌≡◌, refl, ap, ◌∙◌}
use mathlib.Core.List.{List, [], ◌∷◌, ◌++◌}
use seplogic.Ra.Ura.{Ura}
use mir.Raw.{raw as bare}
use mir.Val.{Val, vptr, vstruct, vcons, vnil, of_list}
use base.Logic.{SProp, ent, id⊢, never, fst∗}
use base.Fml.{ftrue}
use prog.Memory.{Memory}
use prog.Routine.{Routine}
use prog.Wp.{WpFn, Tables}
use types.Logic.{Logic, sem}
use contract.Monad.{Fun, fact}
use contract.Running.{tables, tables_of}
use sound.WpLaws.{WpFn-mono}
use types.Kit.{‵, raw, ◌⊛◌, prop, ◌$◌, ◌∵◌, !, qed, move, drop, use1, join, split, fsplit, fjoin, fpick, feq_l, regoal, rewrite, suffices, done}
use types.Part.{whole, sub, agg}
use types.Run.{stop, fld, no_more, and_then, of_opd, returns, enter}
use types.ByLocal.{alloc_all, pass_all, free_all, look_at, get, get_in, sets}
use denote.Exit.{yes}
use denote.RattleType.{owns}
use denote.RawPtr.{Ptr, block_ptr, null_ptr, ptr_val, in_a_block}
use denote.Signature.{types_at, type_at}
use denote.Steps.{nothing, heard}
use denote.Triple.Spec.{triple_of}
use denote.Triple.Table.{entered}
use denote.Triple.Walked.{says, Stays, stay_dropped, walk_of, ends_at, Goes-dropped, walk_Meets}
use Rattle.std.specs.Prelude.{Option, Some, is_some, true}
use Rattle.std.proofs.alloc.Calls.{handle_tells}
use Rattle.std_alloc.proofs.BoxSteps.Form.{D, τ, word, box_typed}
use Rattle.std_alloc.proofs.BoxSteps.Steps.{box_in}
use Rattle.std.specs.contracts.impls.GlobalAllocator.TheImpl.{ghosts}
use Rattle.lezgauri_c.specs.Kept.{types_row, c_heap, may_own}
use Rattle.lezgauri_c.proofs.KeptBox.{Types as E, FromTypes as From, Heap, one_there}
use Rattle.lezgauri_c.specs.contracts.types_box.TypesBox.into_parts as F
use Rattle.lezgauri_c.specs.contracts.types_box.TypesBox.into_parts.Key.{name as #self}
use Rattle.lezgauri_c.proofs.types_box.TypesBox.into_parts.Statement as stated
use Rattle.lezgauri_c.proofs.types_box.TypesBox.into_parts.Code as code

abbrev stayed : Stays (F.ended).signature.params (F.ended).kept
stayed = (stay_dropped From yes, (stay_dropped Heap yes, tt))

module _ {M : Type 1} {𝓤 : Ura M} (𝓛 : Logic 𝓤) (at_mem : Memory → SProp 𝓤) (run : Routine → Fun 𝓤) (𝓣 : Tables 𝓤 𝓛.H) where
  open 𝓛 use {H}

  walk : (z : (walk_of 𝓛 F.ended stayed (F.clauses 𝓛 at_mem run)).Ghost)
      → ent 𝓤 ((walk_of 𝓛 F.ended stayed (F.clauses 𝓛 at_mem run)).pre z) (WpFn 𝓤 H 𝓣.C 𝓣.Λ code.function (z.0.4.0 ++ (z.0.4.1.0 ++ [])) ((walk_of 𝓛 F.ended stayed (F.clauses 𝓛 at_mem run)).post z))
  walk z =
      let Post = (walk_of 𝓛 F.ended stayed (F.clauses 𝓛 at_mem run)).post z in
      let v = z.0.3.0 in
      let a = z.0.3.1.0 in
      let To = type_at (F.signature).result tt in
      qed 𝓛 ((‵ ftrue ⊛ ‵ (owns (types_at (F.signature).params z.0.0) z.0.3 z.0.4)) ∷ raw (fact 𝓤 (is_some v.image ≡ true)) ∷ []) ∵
      move ! (1 ∷ []) $ heard ! (is_some v.image ≡ true) (λ there. let one = one_there v.image there in let x = one.0 in split ! $ drop ! $
      fsplit ! $ fsplit ! $ fpick ! (λ vss. fsplit ! $ feq_l ! (λ ev. fsplit ! $ feq_l ! (λ ep. drop ! $
      rewrite ! 0 (λ (k : Option types_row.Denot). ‵ (may_own types_row v.at k)) one.1 refl $
      in_a_block ! v.at (λ p. may_own types_row p (Some x)) (fst∗ 𝓤 (never 𝓤) (sem 𝓛 (ghosts.dealloc_token c_heap (bare (τ E)) null_ptr))) (λ b o at.
      move ! (1 ∷ []) $ fsplit ! $ handle_tells E.al ! a z.0.4.1.0 (λ h ea fits. move ! (1 ∷ []) $ drop ! $
      let w : Val = vstruct (vcons (vptr b o) vnil) in
      let d : D E = record { ptr = block_ptr b o; alloc = a; value = x } in
      let made : To.Denot = record { at = block_ptr b o; alloc = a; value = x } in
      let is : z.0.4.0 ≡ w ∷ [] = ev ∙ (λ i. vstruct (of_list ((ep ∙ ap (λ (r : Ptr). ptr_val r ∷ []) at) i ++ [])) ∷ []) in
      regoal ! (λ (us : List Val). prop (WpFn 𝓤 H 𝓣.C 𝓣.Λ code.function (us ++ (z.0.4.1.0 ++ [])) Post)) is refl $
      regoal ! (λ (us : List Val). prop (WpFn 𝓤 H 𝓣.C 𝓣.Λ code.function ((w ∷ []) ++ (us ++ [])) Post)) ea refl $
      enter ! 𝓣.C 𝓣.Λ code.function (w ∷ h ∷ []) Post $ alloc_all ! (λ ls. pass_all ! refl ((tt, (tt, tt)), (fits, tt)) $
      sets ! (of_opd ! (get_in ! (fld ! refl (stop !)) (sub ! 0 refl (whole !)))) refl (tt, tt) $ sets ! (of_opd ! (get ! refl)) refl (tt, tt) $
      sets ! (agg ! (and_then ! (get ! refl) (and_then ! (get ! refl) (no_more !)))) refl (box_typed E h b o fits) $ returns ! (look_at ! 0 refl) $ free_all ! refl $
      move ! (1 ∷ []) $ fsplit ! $ box_in E ! d b o x refl refl $ use1 𝓛 (‵ (To.own_val made (word E h b o ∷ []))) (id⊢ 𝓤 _) $
      suffices ! _ (ends_at 𝓛 F.ended stayed (F.clauses 𝓛 at_mem run) z (word E h b o) made (tt, (tt, tt)) (tt, (tt, tt))) $ says ! one.1 $
      nothing ! $ nothing ! $ fjoin ! $ nothing ! $ fjoin ! $ join ! $ nothing ! $ join ! $ done !)))))))

pub into_parts_spec : {M : Type 1} → stated.statement M
unfolding tables_of
into_parts_spec 𝓤 𝓛 𝓜 𝓡 wired =
    let 𝓣 : Tables 𝓤 𝓛.H = tables_of 𝓤 𝓛.H 𝓜 (tables 𝓤 𝓛.H 𝓜 𝓡 𝓡.env) in
    entered 𝓤 𝓛.H (triple_of 𝓛 F.signature (F.spec 𝓛 𝓜.mem 𝓡.returns)) 𝓣.C 𝓣.Λ #self code.function (code.unfolded 𝓤 𝓛.H 𝓜 𝓡 wired)
    (walk_Meets 𝓛 F.ended stayed (Goes-dropped 𝓛 0 From yes (λ κs x f. refl), (Goes-dropped 𝓛 0 Heap yes (λ κs x f. refl), tt)) (F.clauses 𝓛 𝓜.mem 𝓡.returns) (WpFn 𝓤 𝓛.H 𝓣.C 𝓣.Λ code.function) (WpFn-mono 𝓤 𝓛.H 𝓛.laws 𝓣 code.function)
    (walk 𝓛 𝓜.mem 𝓡.returns 𝓣))
