-- Each kind of statement, by the law of its code.
use Rattle.std.proofs.Common.{◌++◌, ◌∷◌, [], ◌≡◌, ℕ, suc, ℤ, List, sym, subst, arith}
use Rattle.std.specs.Fmt.{signed_decimal}
use Rattle.script_meaning.specs.declared.comparison.Comparison.{Comparison}
use Rattle.script_meaning.specs.Meaning.{Moment, Meaning, Setting, value, combined, Stays, Then, Writes, If, Turns, Stores, IfObject, Deletes, Does}
use Rattle.script_meaning.specs.Following.{Held}
use Rattle.script_meaning.specs.Comparing.{setting_of, code_of, texts_of, holding, HoldsNumber, Follows}
use Rattle.script_meaning.proofs.SequenceLaws.{no_code, then_code}
use Rattle.script_meaning.proofs.PartLaws.{if_law, while_law, cut_law}
use Rattle.script_meaning.proofs.ObjectLaws.{store_law, change_law, object_law}
use Rattle.script_meaning.proofs.ArmLaws.{arm_law, set_arm, same_code, loop_end}
use Rattle.script_meaning.proofs.comparison.Comparison.+code.Goals as goal

pub returns-in-End : goal.returns-in-End
returns-in-End t c =
    let self : Comparison = c.args.self.now in
    let held : Held = c.args.held.variables in
    subst (λ x. Follows self c.args.at c.args.at (holding held) (Does (setting_of self) x) (holding held)) (sym c.in-End.is)
    (no_code (texts_of self) (code_of self) c.args.at (holding held) (λ m s p. sym p.world))

pub returns-in_ok-set-in-Set : goal.returns-in_ok-set-in-Set
returns-in_ok-set-in-Set t c =
    let self : Comparison = c.args.self.now in
    set_arm self c.args.at c.in_ok-set-in-Set.set.after c.args.held.variables c.with.result.variables c.in_ok-set-in-Set.set.register c.in-Set.variable
    (λ m. value (setting_of self) m c.in-Set.number) _ _ _ _ c.code.result c.in-Set.is c.deref.ensures (λ m m' e w. w) c.with.ensures
    c.in_ok-set-in-Set.ensures.place c.in_ok-set-in-Set.ensures.sets c.code.ensures

pub returns-in_ok-after-in-Print : goal.returns-in_ok-after-in-Print
returns-in_ok-after-in-Print t c =
    let self : Comparison = c.args.self.now in
    let held : Held = c.args.held.variables in
    let after : ℕ = c.in_ok-after-in-Print.after in
    arm_law self c.args.at after held (Writes (λ m. c.in-Print.bytes.items)) _ _ _ _ c.code-in-Print.result c.in-Print.is c.deref-in-Print.ensures (λ m m' e w. w)
    (subst (λ (x : List ℕ). Follows self c.args.at after (holding held) (Writes (λ m. x)) (holding held)) c.as_slice.ensures.value c.in_ok-after-in-Print.ensures)
    c.code-in-Print.ensures

pub returns-in_ok-after-in-PrintLine : goal.returns-in_ok-after-in-PrintLine
returns-in_ok-after-in-PrintLine t c =
    let self : Comparison = c.args.self.now in
    arm_law self c.args.at c.in_ok-after-in-PrintLine.after c.args.held.variables (Writes (λ m. signed_decimal (value (setting_of self) m c.in-PrintLine.number) ++ 10 ∷ [])) _ _ _ _
    c.code-in-PrintLine.result c.in-PrintLine.is c.deref-in-PrintLine.ensures (λ m m' e w. w) c.in_ok-after-in-PrintLine.ensures c.code-in-PrintLine.ensures

pub returns-in_ok-after-in-If : goal.returns-in_ok-after-in-If
returns-in_ok-after-in-If t c =
    let self : Comparison = c.args.self.now in
    let held : Held = c.args.held.variables in
    let setting : Setting = setting_of self in
    let number : Moment → ℤ = λ m. value setting m c.in-If.number in
    let body : ℕ = c.in_ok-body-in-If.body in
    let end : ℕ = c.in_ok-end-in-If.end in
    let other : ℕ = c.in_ok-other-in-If.other in
    let end' : ℕ = c.in_ok-end-in-If-2.end in
    let after : ℕ = c.in_ok-after-in-If.after in
    arm_law self c.args.at after held (If number (Does setting c.in-If.on_true.value) (Does setting c.in-If.on_false.value)) _ _ _ _
    c.code-in-If-3.result c.in-If.is c.deref-in-If-3.ensures (λ m m' e w. w)
    (if_law self c.args.at body end other end' after held number (Does setting c.in-If.on_true.value) (Does setting c.in-If.on_false.value) c.in_ok-body-in-If.ensures
    (same_code self body end held _ _ c.deref-in-If.ensures c.in_ok-end-in-If.ensures) c.in_ok-other-in-If.ensures
    (same_code self other end' held _ _ c.deref-in-If-2.ensures c.in_ok-end-in-If-2.ensures) c.in_ok-after-in-If.ensures)
    c.code-in-If-3.ensures

pub returns-in_ok-after-in-While : goal.returns-in_ok-after-in-While
returns-in_ok-after-in-While t c =
    let self : Comparison = c.args.self.now in
    let held : Held = c.args.held.variables in
    let setting : Setting = setting_of self in
    let number : Moment → ℤ = λ m. value setting m c.in-While.number in
    let does : Meaning = Does setting c.in-While.body.value in
    let body : ℕ = c.in_ok-opened-in-While.opened.body in
    let r : ℕ = c.in_ok-opened-in-While.opened.register in
    let end : ℕ = c.in_ok-end-in-While.end in
    let after : ℕ = c.in_ok-after-in-While.after in
    arm_law self c.args.at after held (Turns c.in-While.turns number does) _ _ _ _ c.code-in-While-2.result c.in-While.is c.deref-in-While-2.ensures (λ m m' e w. w)
    (loop_end self c.args.at after held r (Turns c.in-While.turns number does) number
    (while_law self c.args.at body end after held r c.in-While.turns number does c.in_ok-opened-in-While.ensures
    (same_code self body end held _ _ c.deref-in-While.ensures c.in_ok-end-in-While.ensures) c.in_ok-after-in-While.ensures))
    c.code-in-While-2.ensures

pub returns-in_ok-after-in-WhileElse-2 : goal.returns-in_ok-after-in-WhileElse-2
returns-in_ok-after-in-WhileElse-2 t c =
    let self : Comparison = c.args.self.now in
    let held : Held = c.args.held.variables in
    let setting : Setting = setting_of self in
    let number : Moment → ℤ = λ m. value setting m c.in-WhileElse.number in
    let does : Meaning = Does setting c.in-WhileElse.body.value in
    let on_cut : Meaning = Does setting c.in-WhileElse.on_cut.value in
    let body : ℕ = c.in_ok-opened-in-WhileElse.opened.body in
    let r : ℕ = c.in_ok-opened-in-WhileElse.opened.register in
    let end : ℕ = c.in_ok-end-in-WhileElse.end in
    let middle : ℕ = c.in_ok-after-in-WhileElse.after in
    let part : ℕ = c.in_ok-part-in-WhileElse.part in
    let end' : ℕ = c.in_ok-end-in-WhileElse-2.end in
    let other : ℕ = c.in_ok-other-in-WhileElse.other in
    let after : ℕ = c.in_ok-after-in-WhileElse-2.after in
    let turns : Meaning = Turns c.in-WhileElse.turns number does in
    let cut : Meaning = If number on_cut Stays in
    arm_law self c.args.at after held (Then turns cut) _ _ _ _ c.code-in-WhileElse-3.result c.in-WhileElse.is c.deref-in-WhileElse-3.ensures (λ m m' e w. w)
    (then_code (texts_of self) (code_of self) c.args.at middle after (holding held) (HoldsNumber held r number) (holding held) turns cut
    (while_law self c.args.at body end middle held r c.in-WhileElse.turns number does c.in_ok-opened-in-WhileElse.ensures
    (same_code self body end held _ _ c.deref-in-WhileElse.ensures c.in_ok-end-in-WhileElse.ensures) c.in_ok-after-in-WhileElse.ensures)
    (cut_law self middle part end' other after held r number on_cut c.in_ok-part-in-WhileElse.ensures
    (same_code self part end' held _ _ c.deref-in-WhileElse-2.ensures c.in_ok-end-in-WhileElse-2.ensures) c.in_ok-other-in-WhileElse.ensures
    c.in_ok-after-in-WhileElse-2.ensures.there (let e : after ≡ suc other = omega (arith, c.in_ok-after-in-WhileElse-2.ensures.after) in e)))
    c.code-in-WhileElse-3.ensures

pub returns-in_ok-after-in-Store : goal.returns-in_ok-after-in-Store
returns-in_ok-after-in-Store t c =
    let self : Comparison = c.args.self.now in
    let held : Held = c.args.held.variables in
    let setting : Setting = setting_of self in
    let number : Moment → ℤ = λ m. value setting m c.in-Store.number in
    let otherwise : Meaning = Does setting c.in-Store.otherwise.value in
    let other : ℕ = c.in_ok-other-in-Store.other in
    let end : ℕ = c.in_ok-end-in-Store.end in
    let after : ℕ = c.in_ok-after-in-Store.after in
    arm_law self c.args.at after held (Stores setting c.in-Store.object (λ m old. number m) otherwise) _ _ _ _ c.code-in-Store-2.result c.in-Store.is c.deref-in-Store-2.ensures (λ m m' e w. w)
    (store_law self c.args.at other end after c.in-Store.object held number otherwise c.in_ok-other-in-Store.ensures
    (same_code self other end held _ _ c.deref-in-Store.ensures c.in_ok-end-in-Store.ensures) c.in_ok-after-in-Store.ensures)
    c.code-in-Store-2.ensures

pub returns-in_ok-after-in-Change : goal.returns-in_ok-after-in-Change
returns-in_ok-after-in-Change t c =
    let self : Comparison = c.args.self.now in
    let held : Held = c.args.held.variables in
    let setting : Setting = setting_of self in
    let number : Moment → ℤ = λ m. value setting m c.in-Change.number in
    let otherwise : Meaning = Does setting c.in-Change.otherwise.value in
    let other : ℕ = c.in_ok-other-in-Change.other in
    let end : ℕ = c.in_ok-end-in-Change.end in
    let after : ℕ = c.in_ok-after-in-Change.after in
    arm_law self c.args.at after held (Stores setting c.in-Change.object (λ m old. combined c.in-Change.operator old (number m)) otherwise) _ _ _ _ c.code-in-Change-2.result c.in-Change.is
    c.deref-in-Change-2.ensures (λ m m' e w. w)
    (change_law self c.args.at other end after c.in-Change.object held c.in-Change.operator c.in_ok-operation-in-Change.operation number otherwise c.in_ok-operation-in-Change.ensures
    c.in_ok-other-in-Change.ensures (same_code self other end held _ _ c.deref-in-Change.ensures c.in_ok-end-in-Change.ensures) c.in_ok-after-in-Change.ensures)
    c.code-in-Change-2.ensures

pub returns-in_ok-after-in-IfObject : goal.returns-in_ok-after-in-IfObject
returns-in_ok-after-in-IfObject t c =
    let self : Comparison = c.args.self.now in
    let held : Held = c.args.held.variables in
    let setting : Setting = setting_of self in
    let v : ℕ = c.in-IfObject.variable in
    let x : ℕ = c.in-IfObject.object in
    let r : ℕ = c.in_ok-opened-in-IfObject.opened.register in
    let on_found : Meaning = Does setting c.in-IfObject.on_found.value in
    let on_absent : Meaning = Does setting c.in-IfObject.on_absent.value in
    let body : ℕ = c.in_ok-opened-in-IfObject.opened.body in
    let end : ℕ = c.in_ok-end-in-IfObject.end in
    let other : ℕ = c.in_ok-other-in-IfObject.other in
    let end' : ℕ = c.in_ok-end-in-IfObject-2.end in
    let after : ℕ = c.in_ok-after-in-IfObject.after in
    let inside : Held = c.with-inside.result.variables in
    arm_law self c.args.at after held (IfObject setting v x on_found on_absent) _ _ _ _ c.code-in-IfObject-3.result c.in-IfObject.is c.deref-in-IfObject-3.ensures (λ m m' e w. w)
    (object_law self c.args.at body end other end' after v x r held on_found on_absent c.in_ok-opened-in-IfObject.ensures
    (subst (λ (h : Held). Follows self body end (holding h) on_found (holding h)) c.with-inside.ensures
    (same_code self body end inside _ _ c.deref-in-IfObject.ensures c.in_ok-end-in-IfObject.ensures))
    c.in_ok-other-in-IfObject.ensures (same_code self other end' held _ _ c.deref-in-IfObject-2.ensures c.in_ok-end-in-IfObject-2.ensures) c.in_ok-after-in-IfObject.ensures)
    c.code-in-IfObject-3.ensures

pub returns-in_ok-after-in-Delete : goal.returns-in_ok-after-in-Delete
returns-in_ok-after-in-Delete t c =
    let self : Comparison = c.args.self.now in
    arm_law self c.args.at c.in_ok-after-in-Delete.after c.args.held.variables (Deletes (setting_of self) c.in-Delete.object) _ _ _ _ c.code-in-Delete.result c.in-Delete.is c.deref-in-Delete.ensures
    (λ m m' e w. w) c.in_ok-after-in-Delete.ensures c.code-in-Delete.ensures
