-- `lodge` and `dislodge` at a call, for bytes. Assumes `Logic`.
use Rattle.std.proofs.Common.{◌≡◌, ℕ, ◌^◌, ◌<◌, ◌≤◌, List, [], ◌∷◌, length, refl, ap, ◌∙◌, arith, Vec}
use lib.Dec.{T}
use seplogic.Ra.Ura.{Ura}
use mir.Syntax.{w64, given as dict_at}
use mir.Val.{Val, vint, vptr, has_ty, WT}
use base.Fraction.{full_share}
use base.Logic.{SProp, ent, ex, guard, emp, id⊢}
use base.Fml.{ftrue, fsep, flft}
use prog.Memory.{Memory}
use prog.Routine.{Routine}
use contract.Monad.{Fun, fact, fact_i}
use contract.BorrowLft.{◌⊑◌, ⊑_refl}
use types.Logic.{Logic, sem}
use types.Kit.{Goal, Seq, Item, ‵, raw, ◌⊛◌, some, later, ◌$◌, ◌∵◌, !, qed, move, use0, use1, drop, split, split3, join, pick, fsplit, fjoin, feq_l, feq_i, flt_l, flt_i, check, show, await, updating, now, done}
use denote.Exit.{no, left}
use denote.RattleType.{RattleType}
use denote.Builtin.{u8, usize}
use denote.Param.{param, layout}
use denote.Param.Laws.{Laws, of_field}
use denote.Param.Shared.{copy_shared}
use denote.RawPtr.{block_ptr}
use denote.Steps.{only, nothing, heard}
use denote.Struct.Field.{u8-field}
use denote.Struct.Laws.{u8-laws, u8-copy}
use denote.Triple.Spec.{triple_of}
use denote.Triple.Statement.{Contract}
use Rattle.std.proofs.alloc.Calls.{handle_tells}
use Rattle.std_alloc.specs.Vec.Ownership.{lodged}
use Rattle.std_alloc.specs.declared.vec.lodged.Lodged.{Lodged}
use Rattle.std_alloc.specs.contracts.vec.Vec as V
use Rattle.std_alloc.specs.contracts.vec.lodged.Lodged as L
use Rattle.std_alloc.specs.contracts.vec.lodged.LodgedAllocator.TheImpl.{ghosts}
use Rattle.std_alloc.specs.contracts.vec.lodge as LG
use Rattle.std_alloc.specs.contracts.vec.lodged.Vec+T+Lodged.dislodge as DL
use Rattle.std_alloc.proofs.vec.Vec.TheLaws as vec_laws
use Rattle.std_alloc.proofs.vec.lodged.Lodged.TheLaws as lodged-laws

abbrev pub byte_laws : Laws u8
byte_laws = of_field u8-field u8-laws refl (copy_shared u8-field u8-copy)

abbrev pub Housed : RattleType
Housed = V.the_row u8 L.the_row ghosts

abbrev pub housed-laws : Laws Housed
housed-laws = vec_laws.the_row_laws u8 L.the_row ghosts byte_laws lodged-laws.the_row_laws

abbrev pub Good : RattleType → Val → Type 0
Good R v = T (has_ty (layout R) v) × WT v

module _ {M : Type 1} {𝓤 : Ura M} {𝓛 : Logic 𝓤} {K : Type 0} {Γ : List (Item 𝓤)} {G : Goal 𝓤 𝓛.H} where
  -- what is owned is one machine value, of its type
  pub tells : K → (R : RattleType) → Laws R → (x : R.Denot) (vs : List Val) → ((v : Val) → vs ≡ v ∷ [] → Good R v → Seq K 𝓛 (‵ (R.own_val x (v ∷ [])) ∷ Γ) G) → Seq K 𝓛 (‵ (R.own_val x vs) ∷ Γ) G
  tells t R L = handle_tells (record { row = R; laws = L; g = record { dealloc_token = λ a τ p. ftrue }; d = dict_at 0; drops = dict_at 0 }) t

module _ {M : Type 1} {𝓤 : Ura M} (𝓛 : Logic 𝓤) (at_mem : Memory → SProp 𝓤) (run : Routine → Fun 𝓤) where
  open 𝓛 use {H}

  abbrev pub Lodges : Contract 𝓤
  Lodges = triple_of 𝓛 (LG.signature u8) (LG.spec u8 𝓛 at_mem run)

  abbrev pub Dislodges : Contract 𝓤
  Dislodges = triple_of 𝓛 (DL.signature u8) (DL.spec u8 𝓛 at_mem run)

  module _ (b o n c : ℕ) (xs : List ℕ) where
    abbrev pub at_lodge : Lodges.Ghost
    at_lodge = ((([], tt), (full_share, tt), tt, (block_ptr b o, (n, (c, tt))), (vptr b o ∷ [], (vint w64 n ∷ [], (vint w64 c ∷ [], tt)))), xs)

    abbrev pub IsLodged : Vec ℕ Lodged → Type 0
    IsLodged r = (r.items ≡ xs) × (r.len ≡ n) × (r.cap ≡ c) × (r.ptr ≡ block_ptr b o)

    pub lodge_goes : n ≡ length xs → n ≤ c → c < 2 ^ 63 → ent 𝓤 (sem 𝓛 (lodged u8 (block_ptr b o) n c xs)) (Lodges.pre at_lodge)
    lodge_goes e le small =
        let Asked : Type 0 = (n ≡ length xs) × (n ≤ c) × (c < 2 ^ 63) in
        qed 𝓛 (‵ (lodged u8 (block_ptr b o) n c xs) ∷ []) ∵ use0 𝓛 (raw (fact 𝓤 Asked)) (fact_i 𝓤 Asked (emp 𝓤) (e, le, small)) $ join ! $
        use0 𝓛 (raw (fact 𝓤 ([] ⊑ []))) (fact_i 𝓤 ([] ⊑ []) (emp 𝓤) (⊑_refl [])) $ join ! $
        nothing ! $ flt_i ! c (2 ^ 64) (omega (arith, small)) $ feq_i ! (List Val) (vint w64 c ∷ []) (vint w64 c ∷ []) refl $ fjoin ! $ fjoin ! $
        flt_i ! n (2 ^ 64) (omega (arith, le, small)) $ feq_i ! (List Val) (vint w64 n ∷ []) (vint w64 n ∷ []) refl $ fjoin ! $ fjoin ! $
        feq_i ! (List Val) (vptr b o ∷ []) (vptr b o ∷ []) refl $ fjoin ! $ nothing ! $ use0 𝓛 (‵ (flft [] full_share)) (𝓛.lfts.lft-nil full_share) $ join ! $ join ! $ done !

    pub lodge_gives : (v : Val) → ent 𝓤 (Lodges.post at_lodge v) (H.⇛ (ex 𝓤 (λ (r : Vec ℕ Lodged). guard 𝓤 (IsLodged r) (sem 𝓛 (Housed.own_val r (v ∷ []))))))
    lodge_gives v =
        qed 𝓛 (raw (Lodges.post at_lodge v) ∷ []) ∵ updating ! $
        use1 𝓛 (later (some (λ (r : Vec ℕ Lodged). ((‵ (flft [] full_share) ⊛ ‵ ftrue) ⊛ ‵ (Housed.own_val r (v ∷ [])))
        ⊛ some (λ (ws : Unit {0} × (Unit {0} × (Unit {0} × Unit {0}))). ‵ (fsep ftrue (fsep ftrue (fsep ftrue ftrue))) ⊛ raw (fact 𝓤 (IsLodged r)))))) (id⊢ 𝓤 _) $ await ! tt $ pick ! (λ r.
        split ! $ move ! (1 ∷ []) $ pick ! (λ ws. split ! $ drop ! $ heard ! (IsLodged r) (λ is. split ! $ drop ! $ now ! $
        show ! (λ (z : Vec ℕ Lodged). guard 𝓤 (IsLodged z) (sem 𝓛 (Housed.own_val z (v ∷ [])))) r $ check ! is $ done !)))

  module _ (d : Vec ℕ Lodged) (u : Val) where
    abbrev pub at_dislodge : Dislodges.Ghost
    at_dislodge = ((([], tt), (full_share, tt), tt, (d, tt), (u ∷ [], tt)), tt)

    pub dislodge_goes : ent 𝓤 (sem 𝓛 (Housed.own_val d (u ∷ []))) (Dislodges.pre at_dislodge)
    dislodge_goes =
        qed 𝓛 (‵ (Housed.own_val d (u ∷ [])) ∷ []) ∵ nothing ! $ use0 𝓛 (raw (fact 𝓤 ([] ⊑ []))) (fact_i 𝓤 ([] ⊑ []) (emp 𝓤) (⊑_refl [])) $ join ! $
        nothing ! $ move ! (2 ∷ 0 ∷ []) $ fjoin ! $ nothing ! $ use0 𝓛 (‵ (flft [] full_share)) (𝓛.lfts.lft-nil full_share) $ join ! $ join ! $ done !

    pub dislodge_gives : (v : Val) → ent 𝓤 (Dislodges.post at_dislodge v)
        (H.⇛ (guard 𝓤 ((v ≡ vint w64 d.len) × (d.len < 2 ^ 64)) (sem 𝓛 (lodged u8 d.ptr d.len d.cap d.items))))
    dislodge_gives v =
        qed 𝓛 (raw (Dislodges.post at_dislodge v) ∷ []) ∵ updating ! $
        use1 𝓛 (later (some (λ (r : ℕ). ((‵ (flft [] full_share) ⊛ ‵ ftrue) ⊛ ‵ (usize.own_val r (v ∷ [])))
        ⊛ some (λ (ws : Unit {0} × Unit {0}). ‵ (fsep (left ((V.the_row (param 0 u8) L.the_row ghosts).exit no) d ws.0) ftrue) ⊛ raw (fact 𝓤 (r ≡ d.len)) ⊛ ‵ (lodged u8 d.ptr d.len d.cap d.items))))) (id⊢ 𝓤 _) $ await ! tt $ pick ! (λ r.
        split ! $ move ! (1 ∷ []) $ pick ! (λ ws. split3 ! $ drop ! $ heard ! (r ≡ d.len) (λ is. move ! (1 ∷ []) $ split ! $ drop ! $ fsplit ! $ feq_l ! (λ e. flt_l ! (λ f. now ! $
        check ! (ap only e ∙ ap (vint w64) is, omega (arith, is, f)) $ done !)))))
