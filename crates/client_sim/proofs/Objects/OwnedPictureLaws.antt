-- Adding an object of a register to a picture, and removing one: the roots afterwards, and the
-- roots of paths.
use Rattle.std.proofs.Common.{◌≡◌, ℕ, ◌<◌, ◌⊎◌, inl, inr, List, ◌∷◌, ◌++◌, length, Some, None, refl, sym, ◌∙◌, ap, subst, append_assoc}
use Rattle.std.proofs.lemmas.Bool.{cases_eq}
use Rattle.std.proofs.lemmas.List.{set-get_or}
use Rattle.std.specs.Prelude.{option_map}
use Rattle.std.specs.List.{AllByRecursion}
use Rattle.seg_spec.specs.Value.{Value, nil, cons}
use Rattle.seg_spec.specs.Index.{Root, root_named, root_of_type}
use Rattle.seg_spec.specs.Sound.{IsPlain, IsLaidOut}
use Rattle.seg_spec.specs.Counting.{owners_in}
use Rattle.seg_spec.specs.Roots.{Listed, with_roots}
use Rattle.seg_spec.proofs.Values.PlaceFrameLaws.{each_left, each_right}
use Rattle.seg_spec.proofs.Images.LooseRootLaws.{each_joined}
use Rattle.seg_spec.proofs.Images.RootLaws.{IsLaidOut-loose}
use Rattle.client_spec.specs.Machine.{Origin, Register, State, register, set_register, owned_by}
use Rattle.client_spec.specs.Pictures.{root_of_register}
use Rattle.client_sim.proofs.Objects.PictureLaws.{Looks, root_in}
use Rattle.client_sim.proofs.Objects.OwnedRootLaws.{owned_split}
use Rattle.client_sim.proofs.Places.RootPutLaws.{root_of_pair}
use Rattle.client_sim.proofs.Objects.OwnedChangeLaws.{free_seat, taken_seat}

-- five lists are appended, grouped from the right or from the left
parts : (a b c d e : List Root) → a ++ (b ++ (c ++ (d ++ e))) ≡ (a ++ (b ++ (c ++ d))) ++ e
parts a b c d e = simp append_assoc

found_in : {others : List Root} {s s' : State} (looks : Looks others s) (later : Looks others s') (Ends : Origin → Type 0) → later.picture.names ≡ looks.picture.names → later.picture.uniques ≡ looks.picture.uniques
    → ((q : ℕ) (r : Root) → root_of_register s.registers looks.owned q ≡ Some r → Ends (Origin.Owned q) ⊎ (root_of_register s'.registers later.owned q ≡ Some r))
    → (o : Origin) (r : Root) (i : ℕ) → root_in looks o ≡ Some (r, i) → Ends o ⊎ (root_in later o ≡ Some (r, i))
found_in looks later Ends names uniques owned (Origin.Name name k) r i e = inr (ap (λ rs. option_map {T = Root} {U = Root × ℕ} (λ root. (root, k)) (root_named rs name)) names ∙ e)
found_in looks later Ends names uniques owned (Origin.Unique T) r i e = inr (ap (λ rs. option_map {T = Root} {U = Root × ℕ} (λ root. (root, 0)) (root_of_type rs T)) uniques ∙ e)
found_in {s = s} looks later Ends names uniques owned (Origin.Owned q) r i e =
    let p = root_of_pair (root_of_register s.registers looks.owned q) 0 r i e in
    elim (owned q r p.0) [ inl f ↦ inl f | inr f ↦ inr (ap (option_map {T = Root} {U = Root × ℕ} (λ root. (root, 0))) f ∙ ap (λ n. Some (r, n)) p.1) ]

module _ {others : List Root} {s : State} (looks : Looks others s) where
  -- ---- one is removed

  -- register c owns nothing, and paths that begin elsewhere have the same roots
  pub record Without (c : ℕ) (root : Root) : Type 0 where
    pub left : List Root
    pub right : List Root
    pub later : Looks others (set_register s c Register.Undefined)
    pub table : later.picture.table ≡ looks.picture.table
    pub frozen : later.picture.frozen ≡ looks.picture.frozen
    pub owners_are : owners_in looks.picture ≡ left ++ root ∷ right
    pub owners_then : owners_in later.picture ≡ left ++ right
    pub laid_out : (bytes index_blocks : List ℕ) → IsLaidOut bytes looks.picture index_blocks → IsLaidOut bytes later.picture index_blocks
    pub begins : (o : Origin) (r : Root) (i : ℕ) → root_in looks o ≡ Some (r, i) → (o ≡ Origin.Owned c) ⊎ (root_in later o ≡ Some (r, i))

  pub goes : (c : ℕ) (root : Root) → root_of_register s.registers looks.owned c ≡ Some root → Without c root
  goes c root e =
      let m = taken_seat s.registers looks.owned c root looks.are_owned e in
      let picture = looks.picture in
      let loose = others ++ (m.before ++ m.after) in
      let later : Looks others (set_register s c Register.Undefined) = record {
        picture = with_roots picture Listed.loose loose;
        types = looks.types;
        names = looks.names;
        uniques = looks.uniques;
        owned = m.before ++ m.after;
        are_owned = m.seat.empty Register.Undefined refl;
        loose = refl;
      } in
      record {
        left = picture.names ++ (picture.uniques ++ (others ++ m.before));
        right = m.after;
        later = later;
        table = refl;
        frozen = refl;
        owners_are = ap (λ xs. picture.names ++ (picture.uniques ++ xs)) (looks.loose ∙ ap (λ xs. others ++ xs) m.among) ∙ parts picture.names picture.uniques others m.before (root ∷ m.after);
        owners_then = parts picture.names picture.uniques others m.before m.after;
        laid_out = λ bytes index_blocks l.
            let all = subst (AllByRecursion IsPlain) (looks.loose ∙ ap (λ xs. others ++ xs) m.among) (each_right IsPlain picture.uniques picture.loose l.plain) in
            let mine = each_right IsPlain others (m.before ++ root ∷ m.after) all in
            IsLaidOut-loose bytes picture index_blocks loose
            (each_joined IsPlain others (m.before ++ m.after) (each_left IsPlain others (m.before ++ root ∷ m.after) all)
            (each_joined IsPlain m.before m.after (each_left IsPlain m.before (root ∷ m.after) mine) (each_right IsPlain m.before (root ∷ m.after) mine).1)) l;
        begins = found_in looks later (λ o. o ≡ Origin.Owned c) refl refl (λ q r f. elim (cases_eq q c) [
          | inl same ↦ inl (ap Origin.Owned same)
          | inr far ↦ inr (sym (m.seat.beside q far Register.Undefined refl m.value root.type root) ∙ ap (λ rs. root_of_register rs (m.before ++ root ∷ m.after) q) (sym m.is)
              ∙ ap (λ xs. root_of_register s.registers xs q) (sym m.among) ∙ f)
        ]);
      }

  -- ---- one is added

  -- register a owns an object, and all paths have the same roots
  pub record With (a : ℕ) (v : Value) (t : ℕ) (root : Root) : Type 0 where
    pub left : List Root
    pub right : List Root
    pub later : Looks others (set_register s a (Register.Owner v t))
    pub table : later.picture.table ≡ looks.picture.table
    pub frozen : later.picture.frozen ≡ looks.picture.frozen
    pub owners_are : owners_in looks.picture ≡ left ++ right
    pub owners_then : owners_in later.picture ≡ left ++ root ∷ right
    pub laid_out : IsPlain root → (bytes index_blocks : List ℕ) → IsLaidOut bytes looks.picture index_blocks → IsLaidOut bytes later.picture index_blocks
    pub begins : (o : Origin) (r : Root) (i : ℕ) → root_in looks o ≡ Some (r, i) → root_in later o ≡ Some (r, i)
    pub here : root_in later (Origin.Owned a) ≡ Some (root, 0)

  pub comes : (a : ℕ) → a < length s.registers → owned_by (register s a) ≡ None → (v : Value) (t : ℕ) (root : Root) → root.type ≡ t → root.values ≡ cons v nil → With a v t root
  comes a within none v t root type_is values_are =
      let m = free_seat s.registers looks.owned a looks.are_owned within none in
      let picture = looks.picture in
      let loose = others ++ (m.before ++ root ∷ m.after) in
      let later : Looks others (set_register s a (Register.Owner v t)) = record {
        picture = with_roots picture Listed.loose loose;
        types = looks.types;
        names = looks.names;
        uniques = looks.uniques;
        owned = m.before ++ root ∷ m.after;
        are_owned = m.seat.filled v t root type_is values_are;
        loose = refl;
      } in
      let found : (o : Origin) (r : Root) (i : ℕ) → root_in looks o ≡ Some (r, i) → ⊥ ⊎ (root_in later o ≡ Some (r, i)) = found_in looks later (λ o. ⊥) refl refl (λ q r f.
      inr (m.seat.beside q (λ g. vacant r (sym (ap (root_of_register s.registers looks.owned) g) ∙ f)) (register s a) none v t root
      ∙ ap (λ rs. root_of_register rs (m.before ++ m.after) q) (set-get_or s.registers a Register.Undefined) ∙ ap (λ xs. root_of_register s.registers xs q) (sym m.among) ∙ f)) in
      record {
        left = picture.names ++ (picture.uniques ++ (others ++ m.before));
        right = m.after;
        later = later;
        table = refl;
        frozen = refl;
        owners_are = ap (λ xs. picture.names ++ (picture.uniques ++ xs)) (looks.loose ∙ ap (λ xs. others ++ xs) m.among) ∙ parts picture.names picture.uniques others m.before m.after;
        owners_then = parts picture.names picture.uniques others m.before (root ∷ m.after);
        laid_out = λ plain bytes index_blocks l.
            let all = subst (AllByRecursion IsPlain) (looks.loose ∙ ap (λ xs. others ++ xs) m.among) (each_right IsPlain picture.uniques picture.loose l.plain) in
            let mine = each_right IsPlain others (m.before ++ m.after) all in
            IsLaidOut-loose bytes picture index_blocks loose
            (each_joined IsPlain others (m.before ++ root ∷ m.after) (each_left IsPlain others (m.before ++ m.after) all)
            (each_joined IsPlain m.before (root ∷ m.after) (each_left IsPlain m.before m.after mine) (plain, each_right IsPlain m.before m.after mine))) l;
        begins = λ o r i f. elim (found o r i f) [ inl z ↦ absurd z | inr g ↦ g ];
        here = ap (option_map {T = Root} {U = Root × ℕ} (λ root. (root, 0))) (m.seat.here v t root);
      }
    where
      vacant : (r : Root) → root_of_register s.registers looks.owned a ≡ Some r → ⊥
      vacant r e = let o = owned_split s.registers looks.owned a r looks.are_owned e in (let f : None ≡ Some (o.value, r.type) = sym none ∙ ap owned_by o.is in cc)
