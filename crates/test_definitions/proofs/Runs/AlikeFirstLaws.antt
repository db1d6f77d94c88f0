-- Runs of one client begin alike on images that are alike.
use Rattle.std.proofs.Common.{◌≡◌, ℕ, zero, suc, List, [], ◌++◌, inl, refl, sym, ap, ◌∙◌, subst, arith}
use Rattle.std.specs.Prelude.{option_map}
use Rattle.seg_spec.specs.Bytes.{word}
use Rattle.seg_spec.specs.Header.{version_word, next_word}
use Rattle.seg_spec.specs.Types.{Table, IsTable, AreOfVersion, HasTable, Agree, longer}
use Rattle.seg_spec.specs.Value.{Value}
use Rattle.seg_spec.specs.Frozen.{Frozen}
use Rattle.seg_spec.specs.Shared.{value_at_position, owner_by, meaning, replaced}
use Rattle.seg_spec.specs.Index.{Root}
use Rattle.seg_spec.specs.Sound.{Picture, IsHeld}
use Rattle.seg_spec.specs.Counting.{AreCounted}
use Rattle.seg_spec.proofs.Values.PlaceFrameLaws.{word-same}
use Rattle.client_spec.specs.Syntax.{Client}
use Rattle.client_spec.specs.Machine.{State}
use Rattle.client_spec.specs.Trees.{unfolded_object}
use Rattle.client_spec.specs.Pictures.{names_in, uniques_in, meaning_in, HasObjects}
use Rattle.client_spec.specs.OnImages.{Situation, Given, IsFirst}
use Rattle.client_sim.proofs.Names.OnePictureLaws.{Held-one}
use Rattle.test_definitions.specs.Alike.{AreAlike}
use Rattle.test_definitions.proofs.Rows.OneFrozenLaws.{Reordered, reordered, reordered_then}
use Rattle.test_definitions.proofs.Rows.OneReturnLaws.{one_value_at}
use Rattle.test_definitions.proofs.Alike.AlikeTypesLaws.{more_types, AddsTypes, types_alike}
use Rattle.test_definitions.specs.Agreement.{RunAlike}

extend : {A B : Type 0} (f g : A → B) → ((x : A) → f x ≡ g x) → f ≡ g
extend f g p = λ i x. p x i

-- ---- copies of frozen objects

module _ (fs gs : List Frozen) (order : Reordered fs gs) where
  one_meaning_at : (n p : ℕ) → meaning n fs p ≡ meaning n gs p
  unfolding meaning
  one_meaning_at zero p = refl
  one_meaning_at (suc n) p =
      ap (λ (m : ℕ → Value). owner_by (λ v. replaced m v) (value_at_position fs p)) (extend (meaning n fs) (meaning n gs) (one_meaning_at n))
      ∙ ap (owner_by (λ v. replaced (meaning n gs) v)) (one_value_at fs gs order p)

  pub one_meaning : (n : ℕ) → meaning n fs ≡ meaning n gs
  one_meaning n = extend (meaning n fs) (meaning n gs) (one_meaning_at n)

module _ {others : List Root} {places first second : List ℕ} (a : AreAlike others places first second) (p q : Picture) (h : IsHeld first p) (k : IsHeld second q)
    (c : AreCounted (word first next_word) p) (d : AreCounted (word second next_word) q) where
  counted_too : AreCounted (word second next_word) a.picture
  counted_too = subst (λ n. AreCounted n a.picture) (sym a.next_same) a.counted

  pub frozen_order : Reordered p.frozen q.frozen
  frozen_order = reordered_then (reordered first (word first next_word) p a.picture h a.held c a.counted) (reordered second (word second next_word) a.picture q a.held_too k counted_too d)

  same_meaning : meaning_in (word first next_word) p ≡ meaning_in (word second next_word) q
  same_meaning = one_meaning p.frozen q.frozen frozen_order (word first next_word) ∙ ap (λ n. meaning n q.frozen) (sym a.next_same)

  -- states with the objects of the two pictures
  pub same_objects : (s t : State) → HasObjects (word first next_word) p s → HasObjects (word second next_word) q t → (s.names ≡ t.names) × (s.uniques ≡ t.uniques)
  same_objects s t f g =
      let left = Held-one first p a.picture h a.held in
      let right = Held-one second a.picture q a.held_too k in
      let names = λ (name : List ℕ).
      f.names name ∙ ap (λ (m : ℕ → Value). option_map (unfolded_object m) (names_in p name)) same_meaning
      ∙ ap (λ rs. option_map (unfolded_object (meaning_in (word second next_word) q)) (names_in (record p { names = rs }) name)) (left.names ∙ right.names) ∙ sym (g.names name) in
      let uniques = λ (T : ℕ).
      f.uniques T ∙ ap (λ (m : ℕ → Value). option_map (replaced m) (uniques_in p T)) same_meaning
      ∙ ap (λ rs. option_map (replaced (meaning_in (word second next_word) q)) (uniques_in (record p { uniques = rs }) T)) (left.uniques ∙ right.uniques) ∙ sym (g.uniques T) in
      (extend s.names t.names names, extend s.uniques t.uniques uniques)

-- ---- first situations

module _ (client : Client) (given : Given) (x : Situation) (picture : Picture) (held : IsHeld given.image picture) (agree : Agree picture.table client.types) (f : IsFirst client given x) where
  abbrev more : Table
  more = (more_types picture.table client.types agree).more

  types_then : x.state.types ≡ picture.table ++ more
  types_then = f.types ∙ ap (λ table. longer table client.types) (Held-one given.image f.picture picture f.held held).table ∙ (more_types picture.table client.types agree).longer_is

  pub adds_types : AddsTypes given.image x.image picture (more_types picture.table client.types agree).more
  adds_types =
      let laid_out = f.pictured.pictured.held.laid_out in
      let table : f.pictured.pictured.picture.table ≡ picture.table ++ more = f.pictured.pictured.types ∙ sym (ap (λ (s : State). s.types) f.pictured.trees) ∙ types_then in
      let version = word-same given.image x.image version_word (f.types_alone.others version_word 4 (inl (omega arith))) in
      record {
        changes = f.types_alone;
        types = subst (HasTable x.image 64) table laid_out.types;
        is_table = subst IsTable table laid_out.is_table;
        of_version = subst (λ n. AreOfVersion n (picture.table ++ more)) version (subst (AreOfVersion (word x.image version_word)) table laid_out.of_version);
      }

pub first_alike : (client : Client) (given other : Given) (x z : Situation) (a : AreAlike given.others [] given.image other.image) → other.base ≡ given.base → other.input ≡ given.input → Agree a.picture.table client.types
    → IsFirst client given x → IsFirst client other z → RunAlike given.others x z
first_alike client given other x z a base input agree f g =
    let adds = adds_types client given x a.picture a.held agree f in
    let adds_too = adds_types client other z a.picture a.held_too agree g in
    let images = types_alike a adds adds_too in
    let objects = same_objects a f.picture g.picture f.held g.held f.counted g.counted x.state z.state f.objects g.objects in
    let types : z.state.types ≡ x.state.types = types_then client other z a.picture a.held_too agree g ∙ sym (types_then client given x a.picture a.held agree f) in
    let registers = g.registers ∙ sym f.registers in
    let inputs = g.input ∙ input ∙ sym f.input in
    let outputs = g.output ∙ sym f.output in
    record {
      stand = record {
        states = λ i. record { types = types i; names = sym objects.0 i; uniques = sym objects.1 i; registers = registers i; input = inputs i; output = outputs i };
        owned = g.owned ∙ sym f.owned;
        images = subst (λ places. AreAlike given.others places x.image z.image) (sym f.owned) images;
      };
      base = g.base ∙ base ∙ sym f.base;
      steps = g.steps ∙ sym f.steps;
    }
