-- The bytes of an image determine its state, except for the objects that registers own. Their
-- positions determine these. Images that are alike have the same state.
use Rattle.std.proofs.Common.{◌≡◌, ℕ, List, [], ◌∷◌, ◌++◌, map, refl, sym, ap, ◌∙◌, subst}
use Rattle.std.specs.Prelude.{option_map, option_and_then}
use Rattle.std.specs.List.{AllByRecursion}
use Rattle.seg_spec.specs.Bytes.{word}
use Rattle.seg_spec.specs.Header.{next_word}
use Rattle.seg_spec.specs.Types.{Table}
use Rattle.seg_spec.specs.Value.{Value, nil, cons, nth}
use Rattle.seg_spec.specs.Index.{Root, root_named, root_of_type}
use Rattle.seg_spec.specs.Roots.{SamePicture}
use Rattle.seg_spec.specs.Sound.{Picture, IsHeld, IsPlain, HoldsRoots, holds_more_roots, frozen_roots}
use Rattle.seg_spec.proofs.Values.PlaceFrameLaws.{each_right}
use Rattle.seg_spec.proofs.Images.RootLaws.{HoldsRoots-split}
use Rattle.client_spec.specs.Machine.{Register, State}
use Rattle.client_spec.specs.Trees.{unfolded_register}
use Rattle.client_spec.specs.Pictures.{AreOwned, Pictures, PicturesTrees, meaning_in, object_of}
use Rattle.client_spec.specs.Ties.{places_of}
use Rattle.client_sim.proofs.Names.OnePictureLaws.{plain-one, Held-one}
use Rattle.test_definitions.specs.Alike.{AreAlike}

-- roots without a name are determined by their positions
roots_one : (bytes : List ℕ) (table : Table) (rs qs : List Root) (xs ys : List ℕ) → places_of rs ≡ places_of qs → HoldsRoots bytes table rs xs → HoldsRoots bytes table qs ys → AllByRecursion IsPlain rs → AllByRecursion IsPlain qs → rs ≡ qs
roots_one bytes table [] [] xs ys e h k p q = refl
roots_one bytes table [] (b ∷ qs) xs ys e h k p q = cc
roots_one bytes table (a ∷ rs) [] xs ys e h k p q = cc
roots_one bytes table (a ∷ rs) (b ∷ qs) xs ys e (holds_more_roots {blocks = xs1} {rest = xs2} h hs) (holds_more_roots {blocks = ys1} {rest = ys2} k ks) p q =
    let at : a.at ≡ b.at = cc in
    let first : a ≡ b = plain-one bytes table a b xs1 ys1 at p.0 q.0 h k in
    let more : places_of rs ≡ places_of qs = cc in
    let rest : rs ≡ qs = roots_one bytes table rs qs xs2 ys2 more hs ks p.1 q.1 in
    cc

-- registers are determined by the objects that they own, and by what clients see of them
registers_one : (m n : ℕ → Value) (xs ys : List Register) (roots : List Root) → AreOwned xs roots → AreOwned ys roots → map (unfolded_register m) xs ≡ map (unfolded_register n) ys → xs ≡ ys
registers_one m n [] [] roots a b e = refl
registers_one m n [] (y ∷ ys) roots a b e = cc
registers_one m n (x ∷ xs) [] roots a b e = cc
registers_one m n (Register.Undefined ∷ xs) (Register.Undefined ∷ ys) roots a b e =
    let more : map (unfolded_register m) xs ≡ map (unfolded_register n) ys = cc in
    ap (λ zs. Register.Undefined ∷ zs) (registers_one m n xs ys roots a b more)
registers_one m n (Register.Int j ∷ xs) (Register.Int k ∷ ys) roots a b e =
    let same : j ≡ k = cc in
    let more : map (unfolded_register m) xs ≡ map (unfolded_register n) ys = cc in
    let rest = registers_one m n xs ys roots a b more in
    cc
registers_one m n (Register.Reference p ∷ xs) (Register.Reference q ∷ ys) roots a b e =
    let same : p ≡ q = cc in
    let more : map (unfolded_register m) xs ≡ map (unfolded_register n) ys = cc in
    let rest = registers_one m n xs ys roots a b more in
    cc
registers_one m n (Register.Owner v t ∷ xs) (Register.Owner w u ∷ ys) [] a b e = absurd a
registers_one m n (Register.Owner v t ∷ xs) (Register.Owner w u ∷ ys) (root ∷ roots) a b e =
    let types : t ≡ u = cc in
    let values : cons v nil ≡ cons w nil = sym a.1 ∙ b.1 in
    let value : v ≡ w = cc in
    let more : map (unfolded_register m) xs ≡ map (unfolded_register n) ys = cc in
    let rest = registers_one m n xs ys roots a.2 b.2 more in
    cc
registers_one m n (x ∷ xs) (y ∷ ys) roots a b e = cc

record HoldsOwned (bytes : List ℕ) (table : Table) (owned : List Root) : Type 0 where
  blocks : List ℕ
  holds : HoldsRoots bytes table owned blocks
  plain : AllByRecursion IsPlain owned

holds_owned : (others owned : List Root) (bytes : List ℕ) (r : Picture) → IsHeld bytes r → r.loose ≡ others ++ owned → HoldsOwned bytes r.table owned
holds_owned others owned bytes r held loose_are =
    let a = HoldsRoots-split bytes r.table r.names (r.uniques ++ (r.loose ++ frozen_roots r)) held.root_blocks held.roots in
    let b = HoldsRoots-split bytes r.table r.uniques (r.loose ++ frozen_roots r) a.right a.rights in
    let c = HoldsRoots-split bytes r.table r.loose (frozen_roots r) b.right b.rights in
    let d = HoldsRoots-split bytes r.table others owned c.left (subst (λ roots. HoldsRoots bytes r.table roots c.left) loose_are c.lefts) in
    let loose = each_right IsPlain r.uniques r.loose held.laid_out.plain in
    record { blocks = d.right; holds = d.rights; plain = each_right IsPlain others owned (subst (AllByRecursion IsPlain) loose_are loose) }

extend : {A B : Type 0} (f g : A → B) → ((x : A) → f x ≡ g x) → f ≡ g
extend f g p = λ i x. p x i

-- the objects that registers own, by their positions
owned_one : (others own : List Root) (bytes : List ℕ) {s : State} (p : Pictures others s bytes) (r : Picture) → IsHeld bytes r → r.loose ≡ others ++ own → places_of p.owned ≡ places_of own → p.owned ≡ own
owned_one others own bytes p r held loose at =
    let a = holds_owned others p.owned bytes p.picture p.held p.loose in
    let b = holds_owned others own bytes r held loose in
    let same = Held-one bytes p.picture r p.held held in
    roots_one bytes p.picture.table p.owned own a.blocks b.blocks at a.holds (subst (λ (t : Table). HoldsRoots bytes t own b.blocks) (sym same.table) b.holds) a.plain b.plain

-- two pictures of images that are alike
pub record AsPictured {others : List Root} {s t : State} {first second : List ℕ} (p : Pictures others s first) (q : Pictures others t second) : Type 0 where
  pub same : SamePicture p.picture q.picture
  pub owned : p.owned ≡ q.owned

pub as_pictured : (others : List Root) (places first second : List ℕ) (alike : AreAlike others places first second) {s t : State} (p : Pictures others s first) (q : Pictures others t second)
    → places_of p.owned ≡ places → places_of q.owned ≡ places
    → AsPictured p q × (p.owned ≡ alike.own)
as_pictured others places first second alike p q at at_too =
    let a = Held-one first p.picture alike.picture p.held alike.held in
    let b = Held-one second alike.picture q.picture alike.held_too q.held in
    let left = owned_one others alike.own first p alike.picture alike.held alike.loose (at ∙ sym alike.owned_are) in
    let right = owned_one others alike.own second q alike.picture alike.held_too alike.loose (at_too ∙ sym alike.owned_are) in
    (record { same = record { table = a.table ∙ b.table; names = a.names ∙ b.names; uniques = a.uniques ∙ b.uniques }; owned = left ∙ sym right }, left)

module _ (others : List Root) (s : State) (first second : List ℕ) (p : PicturesTrees others s first) (q : PicturesTrees others s second) (both : AsPictured p.pictured q.pictured) where
  same : SamePicture p.pictured.picture q.pictured.picture
  same = both.same

  registers_same : p.plain.registers ≡ q.plain.registers
  registers_same =
      let m = meaning_in (word first next_word) p.pictured.picture in
      let n = meaning_in (word second next_word) q.pictured.picture in
      registers_one m n p.plain.registers q.plain.registers q.pictured.owned
      (subst (AreOwned p.plain.registers) both.owned p.pictured.are_owned) q.pictured.are_owned (sym (ap (λ (z : State). z.registers) p.trees) ∙ ap (λ (z : State). z.registers) q.trees)

  pub plain_same : p.plain ≡ q.plain
  plain_same =
      let types : p.plain.types ≡ q.plain.types = sym p.pictured.types ∙ same.table ∙ q.pictured.types in
      let names : p.plain.names ≡ q.plain.names = extend p.plain.names q.plain.names (λ name. p.pictured.names name ∙ ap (λ rs. option_map object_of (root_named rs name)) same.names ∙ sym (q.pictured.names name)) in
      let first = λ (root : Root). nth root.values 0 in
      let uniques : p.plain.uniques ≡ q.plain.uniques = extend p.plain.uniques q.plain.uniques (λ T. p.pictured.uniques T ∙ ap (λ rs. option_and_then first (root_of_type rs T)) same.uniques ∙ sym (q.pictured.uniques T)) in
      let registers = registers_same in
      let input : p.plain.input ≡ q.plain.input = sym (ap (λ (z : State). z.input) p.trees) ∙ ap (λ (z : State). z.input) q.trees in
      let output : p.plain.output ≡ q.plain.output = sym (ap (λ (z : State). z.output) p.trees) ∙ ap (λ (z : State). z.output) q.trees in
      λ i. record { types = types i; names = names i; uniques = uniques i; registers = registers i; input = input i; output = output i }
