-- The state of a walk through the tree at a pointer.
use Rattle.std.proofs.Common.{◌≡◌, ℕ, ◌+◌, ◌*◌, ◌/◌, ◌^◌, ◌<◌, ◌≤◌, ◌⊎◌, inl, inr, ◌↔◌, List, [], ◌∷◌, ◌++◌, length, length-append, Option, Some, None, Result, Ok, OnOk, refl, sym, ap, ◌∙◌, subst, arith}
use Rattle.std.specs.Prelude.{IfOk, IfSome}
use Rattle.std.proofs.lemmas.Bool.{cases_lt}
use Rattle.std.proofs.lemmas.List.{append_assoc, append-nil}
use Rattle.std.proofs.Math.Pow.{pow_mono}
use Rattle.seg_spec.specs.Shapes.{Tree, leaf, fork, nodes_of}
use Rattle.seg_spec.specs.Sound.{times, SameBlocks}
use Rattle.seg_spec.proofs.Heap.LiveBlockLaws.{times-append}
use Rattle.seg_spec.proofs.TreeSearchLaws.{many_nodes}
use Rattle.seg_check.specs.declared.walk.Stage.{Stage}
use Rattle.seg_check.specs.declared.walk.Visit.{Visit}
use Rattle.seg_check.specs.declared.walk.Visit.TheVariants.{Enter, Pass}
use Rattle.seg_check.specs.Walks.{Completes, Hangs, IsSteady, Proceeds, entering_of, MovesOn}
use Rattle.seg_check.proofs.SameLengthLaws.{same_length}

-- each node is entered once
entered_once : (tree : Tree) → SameBlocks (entering_of tree) (nodes_of tree)
entered_once leaf h = refl
entered_once (fork left at colour right) h =
    let l = entered_once left h in
    let r = entered_once right h in
    let one = times-append h (at ∷ []) (entering_of left ++ entering_of right) in
    let all = times-append h (entering_of left) (entering_of right) in
    let split = times-append h (nodes_of left) (at ∷ nodes_of right) in
    let own = times-append h (at ∷ []) (nodes_of right) in
    omega arith

module _ (bytes : List ℕ) (root wanted : ℕ) where
  pub hangs_once : (height : ℕ) (nodes entering : List ℕ) → Hangs bytes root wanted height nodes entering → SameBlocks entering nodes
  hangs_once height nodes entering w h = ap (times h) (sym w.entering_are) ∙ entered_once w.tree h ∙ ap (times h) w.nodes_are

  -- after these nodes, the rest of a tree remains at this stage
  pub record Remains (stage : Stage) (passed entered : List ℕ) (height : ℕ) (nodes all : List ℕ) : Type 0 where
    pub rest : List ℕ
    pub entering : List ℕ
    pub nodes_are : nodes ≡ passed ++ rest
    pub all_are : all ≡ entered ++ entering
    pub completes : Completes bytes height stage rest entering

  -- The nodes `passed` were passed, and the nodes `entered` were entered. The pointer points to a
  -- tree exactly if the rest of the tree remains at this stage.
  pub record Followed (stage : Stage) (turns : ℕ) (passed entered : List ℕ) : Type 0 where
    pub steady : IsSteady bytes stage turns
    pub spent : turns + (length passed + length entered) ≡ length bytes / 16
    pub forth : (height : ℕ) (nodes all : List ℕ) → Hangs bytes root wanted height nodes all → Remains stage passed entered height nodes all
    pub back : (height : ℕ) (rest entering : List ℕ) → Completes bytes height stage rest entering → Hangs bytes root wanted height (passed ++ rest) (entered ++ entering)

  pub follow_start : (stage : Stage) (turns : ℕ) → IsSteady bytes stage turns → turns ≡ length bytes / 16
      → ((height : ℕ) (nodes entering : List ℕ) → Completes bytes height stage nodes entering ↔ Hangs bytes root wanted height nodes entering) → Followed stage turns [] []
  follow_start stage turns steady turns_are starts = record {
    steady = steady;
    spent = omega arith;
    forth = (λ height nodes all w. record { rest = nodes; entering = all; nodes_are = refl; all_are = refl; completes = (starts height nodes all).1 w });
    back = (λ height rest entering k. (starts height rest entering).0 k);
  }

  module _ (old : Stage) (turns : ℕ) (passed entered : List ℕ) (f : Followed old turns passed entered) where
    module _ (new : Stage) (less : ℕ) (steady : IsSteady bytes new less) (spent : less + 1 ≡ turns) where
      pub follow_enter : (pointer : ℕ) (step : Proceeds bytes old new (Some (Enter pointer))) → Followed new less passed (entered ++ step.0 ∷ [])
      follow_enter pointer step =
          let node = step.0 in
          record {
            steady = steady;
            spent = omega (arith, f.spent, length-append entered (node ∷ []));
            forth = (λ height nodes all w.
                let r = f.forth height nodes all w in
                let next = (step.2 height r.rest r.entering).1 r.completes in
                record {
                  rest = r.rest;
                  entering = next.0;
                  nodes_are = r.nodes_are;
                  all_are = r.all_are ∙ ap (λ xs. entered ++ xs) next.1 ∙ sym (append_assoc entered (node ∷ []) next.0);
                  completes = (step.2 height r.rest next.0).0.0 (subst (λ xs. Completes bytes height old r.rest xs) next.1 r.completes);
                });
            back = (λ height rest entering k. subst (λ xs. Hangs bytes root wanted height (passed ++ rest) xs) (sym (append_assoc entered (node ∷ []) entering))
                (f.back height rest (node ∷ entering) ((step.2 height rest entering).0.1 k)));
          }

      pub follow_pass : (node : ℕ) (step : Proceeds bytes old new (Some (Pass node))) → Followed new less (passed ++ node ∷ []) entered
      follow_pass node step = record {
        steady = steady;
        spent = omega (arith, f.spent, length-append passed (node ∷ []));
        forth = (λ height nodes all w.
            let r = f.forth height nodes all w in
            let next = (step height r.rest r.entering).1 r.completes in
            record {
              rest = next.0;
              entering = r.entering;
              nodes_are = r.nodes_are ∙ ap (λ xs. passed ++ xs) next.1 ∙ sym (append_assoc passed (node ∷ []) next.0);
              all_are = r.all_are;
              completes = (step height next.0 r.entering).0.0 (subst (λ xs. Completes bytes height old xs r.entering) next.1 r.completes);
            });
        back = (λ height rest entering k. subst (λ xs. Hangs bytes root wanted height xs (entered ++ entering)) (sym (append_assoc passed (node ∷ []) rest))
            (f.back height (node ∷ rest) entering ((step height rest entering).0.1 k)));
      }

    -- at the walk's end the pointer points to a tree of these nodes, and no other
    pub follow_end : (new : Stage) → Proceeds bytes old new None → Hangs bytes root wanted old.above.blacks passed entered
    follow_end new step =
        subst (λ xs. Hangs bytes root wanted old.above.blacks passed xs) (append-nil entered)
        (subst (λ xs. Hangs bytes root wanted old.above.blacks xs (entered ++ [])) (append-nil passed) (f.back old.above.blacks [] [] step.0))

    pub follow_all : (new : Stage) → Proceeds bytes old new None → (height : ℕ) (nodes all : List ℕ) → Hangs bytes root wanted height nodes all → nodes ≡ passed
    follow_all new step height nodes all w =
        let r = f.forth height nodes all w in
        let none = step.1 height r.rest r.entering r.completes in
        r.nodes_are ∙ ap (λ xs. passed ++ xs) none.0 ∙ append-nil passed

    -- if the walk can't continue, the pointer points to no tree
    pub follow_refused : ((height : ℕ) (rest entering : List ℕ) → Completes bytes height old rest entering → height < 30 → length rest + length entering < turns → ⊥)
        → (height : ℕ) (nodes all : List ℕ) → Hangs bytes root wanted height nodes all → 16 + 32 * length nodes ≤ length bytes → ⊥
    follow_refused never height nodes all w few =
        let r = f.forth height nodes all w in
        let passes = ap length r.nodes_are ∙ length-append passed r.rest in
        let enters = ap length r.all_are ∙ length-append entered r.entering in
        let once = same_length all nodes (hangs_once height nodes all w) in
        let spent = f.spent in
        never height r.rest r.entering r.completes (low (cases_lt height 30)) (omega arith)
      where
        low : (height < 30) ⊎ (30 ≤ height) → height < 30
        low (inl is) = is
        low (inr high) =
            let power : 2 ^ 30 ≤ 2 ^ height = pow_mono high in
            let many = many_nodes w.tree height w.balanced in
            let size = ap length w.nodes_are in
            let small = f.steady.small in
            absurd (omega arith)

-- where the walk goes over the same bytes
pub moves_on : {E : Type 0} (bytes was : List ℕ) (old new : Stage) (r : Result (Option Visit) E) (visit : Visit) → r ≡ Ok (Some visit) → was ≡ bytes → IfOk r (λ v. IfSome v (MovesOn was old new)) → MovesOn bytes old new visit
moves_on bytes was old new r visit is here moves = subst (λ bs. MovesOn bs old new visit) here (subst (λ x. IfOk x (λ v. IfSome v (MovesOn was old new))) is moves)

-- the step of a walk over the same bytes
pub steps_on : {E : Type 0} (bytes was now : List ℕ) (old new : Stage) (turns less : ℕ) (r : Result (Option Visit) E) (visit : Visit) → r ≡ Ok (Some visit) → now ≡ was → was ≡ bytes
    → IsSteady bytes old turns → OnOk r (less + 1 ≡ turns)
    → (IsSteady was old turns → IfOk r (λ v. IfSome v (λ _. IsSteady now new less)))
    → (IsSteady was old turns → IfOk r (Proceeds was old new))
    → IsSteady bytes new less × (less + 1 ≡ turns) × Proceeds bytes old new (Some visit)
steps_on bytes was now old new turns less r visit is as_was here steady fewer keeps goes =
    let before = subst (λ bs. IsSteady bs old turns) (sym here) steady in
    let kept = subst (λ x. IfOk x (λ v. IfSome v (λ _. IsSteady now new less))) is (keeps before) in
    let gone = subst (λ x. IfOk x (Proceeds was old new)) is (goes before) in
    let spent = subst (λ x. OnOk x (less + 1 ≡ turns)) is fewer in
    (subst (λ bs. IsSteady bs new less) (as_was ∙ here) kept, spent, subst (λ bs. Proceeds bs old new (Some visit)) here gone)
