-- The unfolded state after a cell starts to share a frozen object, or an object that has just
-- become frozen.
use Rattle.std.proofs.Common.{◌≡◌, ◌≢◌, ℕ, suc, Bool, true, false, List, ◌∷◌, Some, refl, sym, ◌∙◌, ap}
use Rattle.std.specs.Prelude.{◌==◌, if◌then◌else◌}
use Rattle.std.specs.List.{AllByRecursion}
use Rattle.std.proofs.lemmas.Bool.{eqb-true, eqb-false, eq-eqb, ne_eqb}
use Rattle.seg_spec.specs.Bytes.{word}
use Rattle.seg_spec.specs.Header.{next_word}
use Rattle.seg_spec.specs.Value.{Label, Value, node, nil, Full}
use Rattle.seg_spec.specs.Reads.{Place}
use Rattle.seg_spec.specs.Frozen.{Frozen}
use Rattle.seg_spec.specs.Index.{Root}
use Rattle.seg_spec.specs.Shared.{IsBelow, raised_by, left, meaning, replaced}
use Rattle.seg_spec.specs.Sharing.{frozen_now}
use Rattle.seg_spec.proofs.Frozen.SharedLaws.{below_elsewhere}
use Rattle.seg_spec.proofs.Frozen.MeaningLaws.{left_means, others_mean, first_means}
use Rattle.client_spec.specs.Machine.{Path, Register, State, set_register, path_value, put_at}
use Rattle.client_spec.specs.Trees.{unfolded_state}
use Rattle.client_spec.specs.Pictures.{Pictures, trees_of}
use Rattle.client_spec.proofs.Unfolded.UnfoldedStateLaws.{set_register_same, put_same}
use Rattle.client_spec.proofs.Unfolded.PictureTreeLaws.{before, trees_mean}

module _ {others : List Root} {s : State} {old : List ℕ} (p : Pictures others s old) where
  -- if some cells were added and others destroyed, the unfolded state afterwards can be computed
  -- with the old copies
  pub trees_shared : (s' : State) {new : List ℕ} (q : Pictures others s' new) (gone names : List Place) → q.picture.frozen ≡ left gone (raised_by names p.picture.frozen)
      → unfolded_state (before p) s' ≡ trees_of q
  trees_shared s' {new} q gone names is =
      let d = q.counted.counted in
      trees_mean q (before p) (left_means (word old next_word) p.picture.frozen p.counted.counted names gone q.picture.frozen is d.distinct d.falling (word new next_word))

  -- the copies, once an object with this value is frozen at a position
  abbrev pub with_frozen : ℕ → Value → ℕ → Value
  with_frozen payload v at = if at == payload then Full (replaced (before p) v) else before p at

  -- ---- an object became frozen

  module _ (payload T : ℕ) (v : Value) (s' : State) {new : List ℕ} (q : Pictures others s' new) (gone : List Place)
      (is : q.picture.frozen ≡ frozen_now payload T (word old next_word) v ∷ left gone p.picture.frozen) (next_is : word new next_word ≡ suc (word old next_word)) where
    abbrev object : Frozen
    object = frozen_now payload T (word old next_word) v

    -- a cell of another object has the same copy as before
    pub other_means : (x : Place) → IsBelow (word new next_word) q.picture.frozen x → x.at ≢ payload → before p x.at ≡ meaning (word new next_word) q.picture.frozen x.at
    other_means =
        let d = q.counted.counted in
        others_mean (word old next_word) p.picture.frozen p.counted.counted object gone q.picture.frozen is d.distinct q.counted.falling d.falling (word new next_word)

    -- a cell of that object has a copy of its value
    pub new_means : meaning (word new next_word) q.picture.frozen payload ≡ Full (replaced (before p) v)
    new_means =
        let d = q.counted.counted in
        ap (λ n. meaning n q.picture.frozen payload) next_is
        ∙ first_means (word old next_word) p.picture.frozen p.counted.counted object gone q.picture.frozen is d.distinct q.counted.falling d.falling

    -- the unfolded state can be computed with the old copies and this object's
    pub trees_frozen : unfolded_state (with_frozen payload v) s' ≡ trees_of q
    trees_frozen = trees_mean q (with_frozen payload v) mean
      where
        mean : (x : Place) → IsBelow (word new next_word) q.picture.frozen x → with_frozen payload v x.at ≡ meaning (word new next_word) q.picture.frozen x.at
        mean x b = choose (x.at == payload) refl
          where
            choose : (here : Bool) → (x.at == payload) ≡ here → (if here then Full (replaced (before p) v) else before p x.at) ≡ meaning (word new next_word) q.picture.frozen x.at
            choose true e = sym (ap (meaning (word new next_word) q.picture.frozen) (eqb-true x.at payload e) ∙ new_means)
            choose false e = other_means x b (eqb-false x.at payload e)

  -- a cell points to it, and the register that owned it no longer owns anything
  module _ (payload T : ℕ) (v : Value) (apart : AllByRecursion (λ (f : Frozen). f.at ≢ payload) p.picture.frozen) (path : Path) (u : Value) (there : path_value s path ≡ Some u) (c : ℕ) where
    abbrev cell : Value
    cell = node (Label.shared T payload) nil

    -- all cells of the state have the same copies as before
    same_trees : unfolded_state (with_frozen payload v) s ≡ trees_of p
    same_trees = trees_mean p (with_frozen payload v) (λ x b. ap (λ here. if here then Full (replaced (before p) v) else before p x.at)
        (ne_eqb x.at payload (below_elsewhere payload (word old next_word) p.picture.frozen x apart b)))

    cell_means : replaced (with_frozen payload v) cell ≡ Full (replaced (before p) v)
    unfolding replaced
    cell_means = ap (λ here. if here then Full (replaced (before p) v) else before p payload) (eq-eqb payload payload refl)

    pub put_frozen : unfolded_state (with_frozen payload v) (set_register (put_at s path (node (Label.shared T payload) nil)) c Register.Undefined)
        ≡ set_register (put_at (trees_of p) path (Full (replaced (before p) v))) c Register.Undefined
    put_frozen =
        set_register_same (with_frozen payload v) (put_at s path cell) c Register.Undefined
        ∙ ap (λ z. set_register z c Register.Undefined)
        (put_same (with_frozen payload v) s path cell u there ∙ ap (λ z. put_at z path (replaced (with_frozen payload v) cell)) same_trees ∙ ap (put_at (trees_of p) path) cell_means)

    -- in the unfolded state the cell has the value that the register owned
    pub trees_put : {new : List ℕ} (q : Pictures others (set_register (put_at s path (node (Label.shared T payload) nil)) c Register.Undefined) new) (gone : List Place)
        → q.picture.frozen ≡ frozen_now payload T (word old next_word) v ∷ left gone p.picture.frozen → word new next_word ≡ suc (word old next_word)
        → trees_of q ≡ set_register (put_at (trees_of p) path (Full (replaced (before p) v))) c Register.Undefined
    trees_put q gone is next_is = sym (trees_frozen payload T v (set_register (put_at s path cell) c Register.Undefined) q gone is next_is) ∙ put_frozen
