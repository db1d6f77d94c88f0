-- A client whose whole code does what a program says has its meaning.
use Rattle.std.proofs.Common.{◌≡◌, ◌≢◌, ℕ, List, [], ◌∷◌, ◌++◌, length, drop, map, None, Some, slice_get, inl, inr, refl, sym, ◌∙◌, ap, subst}
use Rattle.std.specs.Prelude.{⊤}
use Rattle.std.proofs.lemmas.List.{append-nil, length-map}
use Rattle.client_spec.specs.Types.{Form, form_at}
use Rattle.client_spec.specs.Syntax.{Client}
use Rattle.client_spec.specs.Machine.{State}
use Rattle.client_spec.specs.Run.{Ending, Run}
use Rattle.client_spec.specs.Plain.{plain_machine}
use Rattle.client_spec.specs.Grammar.{listing, IsClient}
use Rattle.script_meaning.specs.declared.program.Program.{Program}
use Rattle.client_code.specs.Views.{instruction_of}
use Rattle.script_meaning.specs.declared.program.Code.{Code}
use Rattle.script_meaning.specs.declared.comparison.Comparison.{Comparison}
use Rattle.script_meaning.specs.Meaning.{Does, Stays}
use Rattle.script_meaning.specs.Following.{Held, Holds, HasMeaning, Means, first_moment}
use Rattle.script_meaning.specs.Comparing.{setting_of, code_of, texts_of, holding, Follows, IsWhole}
use Rattle.script_meaning.proofs.SequenceLaws.{then_hidden, weaker}
use Rattle.script_meaning.proofs.TreeLaws.{same_code}

drop_all : {A : Type 0} (xs : List A) → drop (length xs) xs ≡ []
drop_all [] = refl
drop_all (x ∷ xs) = drop_all xs

first_holds : (s : State) → length s.registers ≡ 16 → Holds [] (first_moment s) s
first_holds s count = record { count = count; world = refl; each = λ r v there. absurd (let e : None ≡ Some (Some v) = there in cc) }

objects_typed : (c : Comparison) (program : Program) (tree : Client) → c.objects.now ≡ program.objects.items → (program.objects.items ≢ [] → form_at tree.types c.int ≡ Some Form.i64)
    → (x : ℕ) (name : List ℕ) → slice_get (setting_of c).objects x ≡ Some name → form_at tree.types c.int ≡ Some Form.i64
objects_typed c program tree objects int x name there = int (λ none. (let e : None ≡ Some name = sym (ap (λ names. slice_get (map (λ n. n.items) names) x) (objects ∙ none)) ∙ there in cc))

pub whole_means : (c : Comparison) (program : Program) (tree : Client) → IsClient tree → code_of c ≡ listing tree.code → texts_of c ≡ tree.constants
    → c.objects.now ≡ program.objects.items → (program.objects.items ≢ [] → form_at tree.types c.int ≡ Some Form.i64) → IsWhole c program.code → Means program tree
whole_means c program tree valid code texts objects int whole =
    (c.int, subst (λ names. HasMeaning (record { int = c.int; objects = map (λ name. name.items) names }) program tree) objects meaning)
  where
    spelled : listing whole.code ≡ listing tree.code
    spelled = sym (append-nil (listing whole.code)) ∙ ap (λ rest. listing whole.code ++ rest) (sym (drop_all (code_of c))) ∙ sym whole.spelled ∙ code

    same : whole.code ≡ tree.code
    same = same_code tree.types tree.constants whole.code tree.code whole.roles valid.code spelled

    runs : (s s' : State) (n : ℕ) (end : Ending) → Run State (plain_machine tree.constants) tree.code s s' n end → Run State (plain_machine (texts_of c)) whole.code s s' n end
    runs s s' n end run = subst (λ ks. Run State (plain_machine ks) whole.code s s' n end) (sym texts) (subst (λ cs. Run State (plain_machine tree.constants) cs s s' n end) (sym same) run)

    meaning : HasMeaning (setting_of c) program tree
    meaning = record {
      int_type = objects_typed c program tree objects int;
      each = λ s s' n end count run. elim (whole.simulates.each (first_moment s) s s' n end (first_holds s count) (runs s s' n end run)) [
        | inl went_wrong ↦ inl went_wrong
        | inr done ↦ inr (done.0, done.1, done.2)
      ];
    }

-- code from the first instruction, then hidden code up to the last, is the whole code
pub whole_law : (c : Comparison) (code : Code) (held : Held) (end after : ℕ) → ((r v : ℕ) → slice_get held r ≡ Some (Some v) → ⊥)
    → Follows c 0 end (holding held) (Does (setting_of c) code) (holding held) → Follows c end after (holding held) Stays (holding held)
    → after ≡ length c.instructions.now → IsWhole c code
whole_law c code held end after none first rest last =
    weaker (texts_of c) (code_of c) 0 (length (code_of c)) (holding held) (holding []) (holding held) (λ m s. ⊤) (Does (setting_of c) code)
    (λ m s h. record { count = h.count; world = h.world; each = λ r v there. absurd (none r v there) }) (λ m s h. tt)
    (subst (λ n. Follows c 0 n (holding held) (Does (setting_of c) code) (holding held)) (last ∙ sym (length-map c.instructions.now instruction_of))
    (then_hidden (texts_of c) (code_of c) 0 end after (holding held) (holding held) (holding held) (Does (setting_of c) code) first rest))
