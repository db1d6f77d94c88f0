-- Two situations that clients can't tell apart stay so after an instruction that moves an object, if the
-- objects of registers match afterwards, and what stays.
use Rattle.std.proofs.Common.{◌≡◌, ℕ, ◌≤◌, inl, inr, false, List, ◌++◌, Option, Some, None, refl, sym, ap, ◌∙◌, subst}
use Rattle.std.specs.Prelude.{is_some}
use Rattle.std.specs.List.{AllByRecursion}
use Rattle.seg_spec.specs.Bytes.{word}
use Rattle.seg_spec.specs.Header.{next_word, index_kind_word}
use Rattle.seg_spec.specs.Types.{Form, Table}
use Rattle.seg_spec.specs.Value.{Value}
use Rattle.seg_spec.specs.Block.{KeepsBlock}
use Rattle.seg_spec.specs.Reads.{Place, Holds}
use Rattle.seg_spec.specs.Index.{Root, root_named, root_of_type}
use Rattle.seg_spec.specs.Frozen.{Frozen, root_of_frozen}
use Rattle.seg_spec.specs.Sound.{Picture, IsPlain, times}
use Rattle.seg_spec.specs.Counting.{owners_in}
use Rattle.seg_spec.specs.Roots.{HasFace, SamePicture}
use Rattle.client_spec.specs.Syntax.{Constant, Instruction}
use Rattle.client_spec.specs.Machine.{Path, State}
use Rattle.client_spec.specs.Answer.{success}
use Rattle.client_spec.specs.Pictures.{root_of_register, Pictures, PicturesTrees, LeadsInImage, meaning_in}
use Rattle.client_spec.specs.Asks.{LedTo, ChangesBlocks}
use Rattle.client_spec.specs.Ties.{places_of, next_after, ObjectsStay, FrozenKept, Ties, OwnersStay, OwnersCome}
use Rattle.client_spec.specs.OnImages.{Move, Situation, RowOn}
use Rattle.test_definitions.specs.Alike.{AlikeAt, AlikeRoot, AreAlike, StandAlike, StaysAlike}
use Rattle.test_definitions.proofs.Alike.AlikePictureLaws.{SameEntries}
use Rattle.test_definitions.proofs.Alike.AlikeRootLaws.{both, of_type, of_register}
use Rattle.test_definitions.proofs.ValueChanges.ApartPlaceLaws.{KeepsApart}
use Rattle.test_definitions.proofs.Steps.ApartStepLaws.{content_both, opens_both, entries_both, stayed}
use Rattle.test_definitions.proofs.Frozen.FrozenApartLaws.{among_either}
use Rattle.test_definitions.proofs.Frozen.FrozenOrderLaws.{IsOneOf}
use Rattle.test_definitions.proofs.Frozen.FrozenStayLaws.{SameContent}
use Rattle.test_definitions.proofs.Rows.KeptRowLaws.{one}
use Rattle.test_definitions.proofs.Alike.ListedRootLaws.{found_named, found_of_type}
use Rattle.test_definitions.proofs.Alike.MatchedPictureLaws.{Matched, AllMatched, matched_alike, owned_matched}
use Rattle.test_definitions.proofs.Rows.OnePlaceLaws.{RefersTo}
use Rattle.test_definitions.proofs.Rows.OwnerRegisterLaws.{register_with}
use Rattle.test_definitions.proofs.Rows.OwningRegisterLaws.{owners, unfolded_owners, changes_names, changes_uniques}
use Rattle.test_definitions.proofs.Steps.PlaceStepLaws.{tables_stay, names_stay, uniques_stay, kinds_stay}
use Rattle.test_definitions.proofs.ValueChanges.PersistAlikeLaws.{Fits}
use Rattle.test_definitions.proofs.Frozen.ReachedFrozenLaws.{StandsAt}
use Rattle.test_definitions.proofs.Alike.RootMemberLaws.{IsAmong, each_among, among_left, among_right, looked_up}

-- a row that moves an object, for its plain state before
pub record Moving (constants : List Constant) (others : List Root) (i : Instruction) (places bytes new : List ℕ) {t : State} (after : Pictures others t new) (s : State) : Type 0 where
  pub before : Pictures others s bytes
  pub at : places_of before.owned ≡ places
  pub ties : Ties constants i before success new
  pub blocks : ChangesBlocks constants i before success new
  pub stay : ObjectsStay before.picture after.picture
  pub tables : after.picture.table ≡ before.picture.table
  pub names : (name : List ℕ) → is_some (root_named after.picture.names name) ≡ is_some (root_named before.picture.names name)
  pub uniques : (T : ℕ) → is_some (root_of_type after.picture.uniques T) ≡ is_some (root_of_type before.picture.uniques T)
  pub kinds : word new index_kind_word ≡ word bytes index_kind_word
  pub frozen : FrozenKept bytes new before.picture.table before.picture.frozen after.picture.frozen
  pub owners_stay : OwnersStay before after
  pub owners_come : OwnersCome constants i before after

abbrev pub moving : (constants : List Constant) (others : List Root) (moves : List Move) (i : Instruction) → changes_names i.operation ≡ false → changes_uniques i.operation ≡ false
    → (x y : Situation) (r : RowOn constants others moves i x success y)
    → (places : List ℕ) → x.owned ≡ places → Moving constants others i places x.image y.image r.after.pictured r.before.plain
moving constants others moves i no_names no_uniques x y r places is = record {
  before = r.before.pictured;
  at = r.owned_before ∙ is;
  ties = r.ties;
  blocks = r.blocks;
  stay = r.objects_stay;
  tables = tables_stay constants others moves i x y success r;
  names = names_stay constants others moves i x y success r no_names;
  uniques = uniques_stay constants others moves i x y success r no_uniques;
  kinds = kinds_stay constants others moves i x y success r;
  frozen = r.frozen_kept;
  owners_stay = r.owners_stay;
  owners_come = r.owners_come;
}

some_before : {o u : Option Root} → is_some o ≡ is_some u → (a : Root) → o ≡ Some a → (c : Root) × (u ≡ Some c)
some_before {o = o} {u = u} e a f = go u (sym e ∙ ap (λ (x : Option Root). is_some x) f)
  where
    go : (u : Option Root) → is_some u ≡ is_some (Some a) → (c : Root) × (u ≡ Some c)
    go None g = cc
    go (Some c) g = (c, refl)

-- ---- one row

module _ {constants : List Constant} {others : List Root} {i : Instruction} {places bytes new : List ℕ} {t : State} {after : Pictures others t new} {s : State} (k : Moving constants others i places bytes new after s) where
  -- the object that a search found before
  pub named_was : (name : List ℕ) (a : Root) → root_named after.picture.names name ≡ Some a → (c : Root) × (root_named k.before.picture.names name ≡ Some c) × HasFace c a
  named_was name a e = (let c = some_before (k.names name) a e in (c.0, c.1, k.stay.names name c.0 a c.1 e))

  pub unique_was : (T : ℕ) (a : Root) → root_of_type after.picture.uniques T ≡ Some a → (c : Root) × (root_of_type k.before.picture.uniques T ≡ Some c) × HasFace c a
  unique_was T a e = (let c = some_before (k.uniques T) a e in (c.0, c.1, k.stay.uniques T c.0 a c.1 e))

-- the objects that stay, if this one goes
abbrev pub Stay : Picture → Option Root → Root → Type 0
Stay picture gone c = IsAmong c (owners_in picture) × (gone ≡ Some c → ⊥)

-- what an instruction keeps that changes this place, and moves an object
pub record MovedSide (constants : List Constant) (others : List Root) (i : Instruction) (places bytes new : List ℕ) {t : State} (after : Pictures others t new) (place : Place) (form : Form) (s : State) : Type 0 where
  pub move : Moving constants others i places bytes new after s
  pub led_to : LedTo constants i move.before place form
  pub value : Value
  pub its : List ℕ
  pub holds_it : Holds bytes move.before.picture.table place value its
  pub moved : List ℕ
  pub gone : Option Root
  pub kept : KeepsApart move.before new place its moved (Stay move.before.picture gone)
  pub own : Stay move.before.picture gone led_to.stands.root
  pub name_stays : (c : Root) → IsAmong c move.before.picture.names → gone ≡ Some c → ⊥
  pub unique_stays : (c : Root) → IsAmong c move.before.picture.uniques → gone ≡ Some c → ⊥
  pub other_stays : (c : Root) → IsAmong c others → gone ≡ Some c → ⊥
  pub owned_stays : (n : ℕ) (c a : Root) → root_of_register s.registers move.before.owned n ≡ Some c → root_of_register t.registers after.owned n ≡ Some a → (gone ≡ Some c → ⊥) × HasFace c a
  pub index_back : (word bytes index_kind_word ≡ 0 → ⊥) → (h : ℕ) → 1 ≤ times h after.held.index_blocks → 1 ≤ times h move.before.held.index_blocks
  pub index_whole : AllByRecursion (KeepsBlock bytes new) move.before.held.index_blocks

pub in_names : {others : List Root} {s : State} {bytes : List ℕ} (p : Pictures others s bytes) (c : Root) → IsAmong c p.picture.names → IsAmong c (owners_in p.picture)
in_names p c j = among_left c p.picture.names (p.picture.uniques ++ p.picture.loose) j

pub in_uniques : {others : List Root} {s : State} {bytes : List ℕ} (p : Pictures others s bytes) (c : Root) → IsAmong c p.picture.uniques → IsAmong c (owners_in p.picture)
in_uniques p c j = among_right c p.picture.names (p.picture.uniques ++ p.picture.loose) (among_left c p.picture.uniques p.picture.loose j)

pub in_loose : {others : List Root} {s : State} {bytes : List ℕ} (p : Pictures others s bytes) (c : Root) → IsAmong c p.picture.loose → IsAmong c (owners_in p.picture)
in_loose p c j = among_right c p.picture.names (p.picture.uniques ++ p.picture.loose) (among_right c p.picture.uniques p.picture.loose j)

pub others_in : {others : List Root} {s : State} {bytes : List ℕ} (p : Pictures others s bytes) (c : Root) → IsAmong c others → IsAmong c (owners_in p.picture)
others_in {others = others} p c j = in_loose p c (subst (IsAmong c) (sym p.loose) (among_left c others p.owned j))

pub owned_in : {others : List Root} {s : State} {bytes : List ℕ} (p : Pictures others s bytes) (c : Root) → IsAmong c p.owned → IsAmong c (owners_in p.picture)
owned_in {others = others} p c j = in_loose p c (subst (IsAmong c) (sym p.loose) (among_right c others p.owned j))

pub owned_plain : {others : List Root} {s : State} {bytes : List ℕ} (p : Pictures others s bytes) (c : Root) → IsAmong c p.owned → IsPlain c
owned_plain {others = others} p c j = each_among IsPlain c (p.picture.uniques ++ p.picture.loose) (among_right c p.picture.uniques p.picture.loose (subst (IsAmong c) (sym p.loose) (among_right c others p.owned j))) p.held.laid_out.plain

-- what is true of each object that a search finds is true of all that have an owner
pub each_owned : {others : List Root} {s : State} {bytes : List ℕ} (p : Pictures others s bytes) (P : Root → Type 0) → ((name : List ℕ) (a : Root) → root_named p.picture.names name ≡ Some a → P a)
    → ((T : ℕ) (a : Root) → root_of_type p.picture.uniques T ≡ Some a → P a) → ((a : Root) → IsAmong a others → P a) → ((n : ℕ) (a : Root) → root_of_register s.registers p.owned n ≡ Some a → P a) → (a : Root)
    → IsAmong a (owners_in p.picture) → P a
each_owned {others = others} {s = s} p P named unique other owned a i =
    let r = p.picture in
    elim (among_either a r.names (r.uniques ++ r.loose) i) [
      | inl j ↦ named a.name a (found_named r.names a p.held.laid_out.names.ascending j)
      | inr k ↦ elim (among_either a r.uniques r.loose k) [
        | inl j ↦ unique a.type a (found_of_type 0 r.uniques a p.held.laid_out.uniques.rising j)
        | inr j ↦ elim (among_either a others p.owned (subst (IsAmong a) p.loose j)) [
          | inl m ↦ other a m
          | inr m ↦ (let n = register_with s.registers p.owned p.are_owned a m in owned n.0 a n.1)
        ]
      ]
    ]

pub same_face : (c : Root) → HasFace c c
same_face c = record { same_name = refl; same_words = refl; same_at = refl; same_type = refl; same_count = refl }

-- ---- two rows

module _ (constants : List Constant) (others : List Root) (moves : List Move) (i : Instruction) (x z y w : Situation) (stand : StandAlike others x z) (r : RowOn constants others moves i x success y)
    (q : RowOn constants others moves i z success w)
    (mx : Moving constants others i x.owned x.image y.image r.after.pictured r.before.plain) (mz : Moving constants others i x.owned z.image w.image q.after.pictured r.before.plain) where
  pub states : y.state ≡ w.state
  states = (one constants others moves i x z y w success success stand r q).1

  -- what is needed of the objects
  pub record MovesAlike (Stays : Root → Type 0) : Type 0 where
    pub match : (c a b : Root) → Stays c → HasFace c a → HasFace c b → Matched r.after.pictured q.after.pictured a b
    pub name_stays : (c : Root) → IsAmong c mx.before.picture.names → Stays c
    pub unique_stays : (c : Root) → IsAmong c mx.before.picture.uniques → Stays c
    pub other_stays : (c : Root) → IsAmong c others → Stays c
    pub owned : (n : ℕ) (a b : Root) → root_of_register r.after.plain.registers r.after.pictured.owned n ≡ Some a → root_of_register q.after.plain.registers q.after.pictured.owned n ≡ Some b → Matched r.after.pictured q.after.pictured a b
    pub content : (f g : Frozen) → IsOneOf f r.after.pictured.picture.frozen → IsOneOf g q.after.pictured.picture.frozen → g.at ≡ f.at → SameContent f g
    pub opens : (f : Frozen) → IsOneOf f r.after.pictured.picture.frozen → IsOneOf f q.after.pictured.picture.frozen → AlikeRoot y.image w.image r.after.pictured.picture.table (root_of_frozen f)
    pub entries : (word y.image index_kind_word ≡ 0 → ⊥) → SameEntries y.image w.image r.after.pictured.held.index_blocks

  seen_owners : (s : State) (bytes : List ℕ) (p : PicturesTrees others s bytes) → owners s.registers ≡ owners p.plain.registers
  seen_owners s bytes p = ap (λ (z : State). owners z.registers) p.trees ∙ unfolded_owners (meaning_in (word bytes next_word) p.pictured.picture) p.plain.registers

  pub moves_alike : (Stays : Root → Type 0) → MovesAlike Stays → StaysAlike others success success y w
  moves_alike Stays k =
      let alike = stand.images in
      let before = (both alike mx.before mz.before mx.at mz.at).same in
      let all : AllMatched r.after.pictured q.after.pictured = record {
        tables = mz.tables ∙ sym before.table ∙ sym mx.tables;
        named = λ name a b e f. (
            let c = named_was mx name a e in
            let d = named_was mz name b f in
            let same : d.0 ≡ c.0 = (let g : Some d.0 ≡ Some c.0 = sym d.1 ∙ ap (λ rs. root_named rs name) (sym before.names) ∙ c.1 in cc) in
            k.match c.0 a b (k.name_stays c.0 (looked_up name c.0 mx.before.picture.names c.1).0) c.2 (subst (λ (o : Root). HasFace o b) same d.2));
        named_both = λ name. mx.names name ∙ ap (λ rs. is_some (root_named rs name)) before.names ∙ sym (mz.names name);
        unique = λ T a b e f. (
            let c = unique_was mx T a e in
            let d = unique_was mz T b f in
            let same : d.0 ≡ c.0 = (let g : Some d.0 ≡ Some c.0 = sym d.1 ∙ ap (λ rs. root_of_type rs T) (sym before.uniques) ∙ c.1 in cc) in
            k.match c.0 a b (k.unique_stays c.0 (of_type mx.before.picture.uniques T c.0 c.1)) c.2 (subst (λ (o : Root). HasFace o b) same d.2));
        unique_both = λ T. mx.uniques T ∙ ap (λ rs. is_some (root_of_type rs T)) before.uniques ∙ sym (mz.uniques T);
        besides = λ a j. k.match a a a (k.other_stays a j) (same_face a) (same_face a);
        owned = k.owned;
        owned_both = sym (seen_owners w.state w.image q.after) ∙ ap (λ (s : State). owners s.registers) (sym states) ∙ seen_owners y.state y.image r.after;
        content = k.content;
        opens = k.opens;
        entries = k.entries;
      } in
      let images = matched_alike r.after.pictured q.after.pictured all (q.length_kept ∙ alike.length_same ∙ sym r.length_kept) (q.header_kept ∙ alike.front_same ∙ sym r.header_kept)
      (q.ties.next_is ∙ ap (next_after i.operation success) alike.next_same ∙ sym r.ties.next_is) (sym (one constants others moves i x z y w success success stand r q).2) in
      record {
        answers = refl;
        stand = record {
          states = sym states;
          owned = sym q.owned_after ∙ ap places_of (sym (owned_matched r.after.pictured q.after.pictured all)) ∙ r.owned_after;
          images = subst (λ places. AreAlike others places y.image w.image) r.owned_after images;
        };
      }

-- ---- two sides

module _ (constants : List Constant) (others : List Root) (moves : List Move) (i : Instruction) (x z y w : Situation) (stand : StandAlike others x z) (r : RowOn constants others moves i x success y)
    (q : RowOn constants others moves i z success w)
    (place : Place) (form : Form) (sx : MovedSide constants others i x.owned x.image y.image r.after.pictured place form r.before.plain)
    (sz : MovedSide constants others i x.owned z.image w.image q.after.pictured place form r.before.plain)
    (gone : sz.gone ≡ sx.gone) (found : RefersTo r.before.plain i.b)
    (inner : (a b : Value) (xs ys : List ℕ) → Holds y.image sx.move.before.picture.table place a xs → AllByRecursion (Fits y.image) xs → Holds w.image sx.move.before.picture.table place b ys → AllByRecursion (Fits w.image) ys
    → AlikeAt y.image w.image sx.move.before.picture.table place) where
  pub one_before : SamePicture sx.move.before.picture sz.move.before.picture
  one_before = (both stand.images sx.move.before sz.move.before sx.move.at sz.move.at).same

  owners_before : owners_in sx.move.before.picture ≡ owners_in sz.move.before.picture
  owners_before = (
      let loose : sx.move.before.picture.loose ≡ sz.move.before.picture.loose = sx.move.before.loose ∙ ap (λ rs. others ++ rs) (both stand.images sx.move.before sz.move.before sx.move.at sz.move.at).owned ∙ sym sz.move.before.loose in
      λ j. one_before.names j ++ (one_before.uniques j ++ loose j))

  forth : (c : Root) → Stay sx.move.before.picture sx.gone c → Stay sz.move.before.picture sz.gone c
  forth c k = (subst (IsAmong c) owners_before k.0, λ e. k.1 (sym gone ∙ e))

  pub match_stayed : (c a b : Root) → Stay sx.move.before.picture sx.gone c → HasFace c a → HasFace c b → Matched r.after.pictured q.after.pictured a b
  match_stayed c a b k f g =
      let path = sx.led_to.path in
      let paths : sz.led_to.path ≡ path = (let e : Some sz.led_to.path ≡ Some path = sym sz.led_to.path_is ∙ sx.led_to.path_is in cc) in
      let m = subst (λ (o : Path). (l : LeadsInImage sz.move.before o place) × Stay sz.move.before.picture sz.gone l.root) paths (sz.led_to.stands, sz.own) in
      let start = found path sx.led_to.path_is in
      stayed stand.images sx.move.before sz.move.before sx.move.at sz.move.at r.after.pictured q.after.pictured path place sx.led_to.stands m.0 start.0 start.1 sx.its sz.its sx.holds_it sz.holds_it sx.moved sz.moved
      (Stay sx.move.before.picture sx.gone) (Stay sz.move.before.picture sz.gone) sx.kept sz.kept sx.own m.1 inner sx.move.tables c a b k (forth c k) f g

  pub owner_same : (n : ℕ) → root_of_register r.before.plain.registers sz.move.before.owned n ≡ root_of_register r.before.plain.registers sx.move.before.owned n
  owner_same n = ap (λ rs. root_of_register r.before.plain.registers rs n) (sym (both stand.images sx.move.before sz.move.before sx.move.at sz.move.at).owned)

  -- a register that owned an object
  pub match_owned : (n : ℕ) (c a b : Root) → root_of_register r.before.plain.registers sx.move.before.owned n ≡ Some c → root_of_register r.after.plain.registers r.after.pictured.owned n ≡ Some a
      → root_of_register q.after.plain.registers q.after.pictured.owned n ≡ Some b → Matched r.after.pictured q.after.pictured a b
  match_owned n c a b e f g =
      let k = sx.owned_stays n c a e f in
      match_stayed c a b (owned_in sx.move.before c (of_register r.before.plain.registers sx.move.before.owned n c e), k.0) k.1 (sz.owned_stays n c b (owner_same n ∙ e) g).1

  -- if the objects of registers match, and frozen objects do
  pub sides_with : ((n : ℕ) (a b : Root) → root_of_register r.after.plain.registers r.after.pictured.owned n ≡ Some a → root_of_register q.after.plain.registers q.after.pictured.owned n ≡ Some b
      → Matched r.after.pictured q.after.pictured a b)
      → ((f g : Frozen) → IsOneOf f r.after.pictured.picture.frozen → IsOneOf g q.after.pictured.picture.frozen → g.at ≡ f.at → SameContent f g)
      → ((f : Frozen) → IsOneOf f r.after.pictured.picture.frozen → IsOneOf f q.after.pictured.picture.frozen → AlikeRoot y.image w.image sx.move.before.picture.table (root_of_frozen f)) → StaysAlike others success success y w
  sides_with owned content opens = moves_alike constants others moves i x z y w stand r q sx.move sz.move (Stay sx.move.before.picture sx.gone) (record {
    match = match_stayed;
    name_stays = λ c j. (in_names sx.move.before c j, sx.name_stays c j);
    unique_stays = λ c j. (in_uniques sx.move.before c j, sx.unique_stays c j);
    other_stays = λ c j. (others_in sx.move.before c j, sx.other_stays c j);
    owned = owned;
    content = content;
    opens = λ f j k. subst (λ (t : Table). AlikeRoot y.image w.image t (root_of_frozen f)) (sym sx.move.tables) (opens f j k);
    entries = entries_both stand.images sx.move.before sz.move.before sx.move.at sz.move.at r.after.pictured q.after.pictured sx.move.kinds sx.index_back sx.index_whole sz.index_whole;
  })

  -- if all frozen objects were there
  pub sides_alike : ((n : ℕ) (a b : Root) → root_of_register r.after.plain.registers r.after.pictured.owned n ≡ Some a → root_of_register q.after.plain.registers q.after.pictured.owned n ≡ Some b
      → Matched r.after.pictured q.after.pictured a b)
      → ((f : Frozen) → IsOneOf f r.after.pictured.picture.frozen → StandsAt f.at sx.move.before.picture.frozen) → StaysAlike others success success y w
  sides_alike owned were =
      let p = sx.move.before in
      let p' = sz.move.before in
      sides_with owned (λ f g j k e. content_both stand.images p p' sx.move.at sz.move.at r.after.pictured q.after.pictured sx.move.frozen sz.move.frozen f g (were f j) j k e)
      (λ f j k. opens_both stand.images p p' sx.move.at sz.move.at r.after.pictured q.after.pictured sx.move.frozen sz.move.frozen f (were f j) j k)
