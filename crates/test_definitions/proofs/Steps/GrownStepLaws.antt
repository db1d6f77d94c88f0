-- Two situations that clients can't tell apart stay so if rows make the same new object in both images.
use Rattle.std.proofs.Common.{◌≡◌, ℕ, ◌⊎◌, List, ◌++◌, inl, inr, length, refl, sym, ap, ◌∙◌, subst}
use Rattle.seg_spec.specs.Bytes.{word}
use Rattle.seg_spec.specs.Header.{index_kind_word}
use Rattle.seg_spec.specs.Index.{Root}
use Rattle.seg_spec.specs.Sound.{Picture, SameBlocks}
use Rattle.seg_spec.specs.Counting.{owners_in}
use Rattle.seg_spec.specs.Roots.{SamePicture}
use Rattle.client_spec.specs.Syntax.{Constant, Instruction}
use Rattle.client_spec.specs.Answer.{Answer}
use Rattle.client_spec.specs.Ties.{places_of, next_after}
use Rattle.client_spec.specs.OnImages.{Move, Situation, RowOn}
use Rattle.client_sim.proofs.Names.OnePictureLaws.{Held-one}
use Rattle.test_definitions.specs.Alike.{AreAlike, StandAlike, StaysAlike}
use Rattle.test_definitions.proofs.Alike.AlikePictureLaws.{SameEntries}
use Rattle.test_definitions.proofs.Alike.GrownAlikeLaws.{grown_alike}
use Rattle.test_definitions.proofs.Alike.GrownImageLaws.{Grows}
use Rattle.test_definitions.proofs.Alike.IndexAlikeLaws.{NodesStay, index_blocks_one, entries_before, entries_come}
use Rattle.test_definitions.proofs.Rows.KeptRowLaws.{one}
use Rattle.test_definitions.proofs.Rows.OneState.{as_pictured}
use Rattle.test_definitions.proofs.Alike.RootMemberLaws.{IsAmong}

-- the same objects before
regrown : (old new : List ℕ) (was other now : Picture) (index index_too : List ℕ) (News : Root → Type 0) → SamePicture was other → was.loose ≡ other.loose → index ≡ index_too → Grows old new was now index News
    → Grows old new other now index_too News
regrown old new was other now index index_too News same loose blocks g =
    let owners : owners_in was ≡ owners_in other = λ j. same.names j ++ (same.uniques j ++ loose j) in
    subst (λ ns. Grows old new other now ns News) blocks (record {
      tables = g.tables ∙ same.table;
      kept = g.kept;
      entries = g.entries;
      long = g.long;
      lives = g.lives;
      in_now = g.in_now;
      forth = λ c j. g.forth c (subst (IsAmong c) (sym owners) j);
      back = λ c j. elim (g.back c j) [ inl n ↦ inl n | inr k ↦ inr (subst (IsAmong c) owners k) ];
      no_cells = g.no_cells;
    })

module _ (constants : List Constant) (others : List Root) (moves : List Move) (i : Instruction) (x z y w : Situation) (answer : Answer) (stand : StandAlike others x z) (r : RowOn constants others moves i x answer y)
    (q : RowOn constants others moves i z answer w) where
  -- the alike images have the pictures before the rows
  mine : SamePicture r.before.pictured.picture stand.images.picture
  mine = Held-one x.image r.before.pictured.picture stand.images.picture r.before.pictured.held stand.images.held

  theirs : SamePicture q.before.pictured.picture stand.images.picture
  theirs = Held-one z.image q.before.pictured.picture stand.images.picture q.before.pictured.held stand.images.held_too

  nodes : r.before.pictured.held.index_blocks ≡ stand.images.held.index_blocks
  nodes = index_blocks_one x.image r.before.pictured.picture stand.images.picture r.before.pictured.held stand.images.held

  nodes_too : q.before.pictured.held.index_blocks ≡ stand.images.held_too.index_blocks
  nodes_too = index_blocks_one z.image q.before.pictured.picture stand.images.picture q.before.pictured.held stand.images.held_too

  -- the nodes of both indices have the same entries
  abbrev pub BothEnter : Type 0
  BothEnter = (word y.image index_kind_word ≡ 0 → ⊥) → SameBlocks r.after.pictured.held.index_blocks q.after.pictured.held.index_blocks → SameEntries y.image w.image r.after.pictured.held.index_blocks

  module _ (s : NodesStay x.image y.image r.before.pictured.held.index_blocks) (u : NodesStay z.image w.image q.before.pictured.held.index_blocks) where
    -- if there are the same names as before
    pub both_as_before : r.after.pictured.picture.names ≡ r.before.pictured.picture.names → BothEnter
    both_as_before names tree same = entries_before stand.images y.image w.image (λ e. tree (s.kinds ∙ e)) r.after.pictured.picture r.after.pictured.held (subst (NodesStay x.image y.image) nodes s)
        (subst (NodesStay z.image w.image) nodes_too u) (ap length (names ∙ mine.names))

    -- if a name was added
    pub both_with : (a b : Root) → b.at ≡ a.at → ((c : Root) → IsAmong c r.after.pictured.picture.names → (c ≡ a) ⊎ IsAmong c r.before.pictured.picture.names)
        → ((c : Root) → IsAmong c q.after.pictured.picture.names → (c ≡ b) ⊎ IsAmong c q.before.pictured.picture.names) → BothEnter
    both_with a b at back back_too tree same = entries_come stand.images y.image w.image (λ e. tree (s.kinds ∙ e)) r.after.pictured.picture r.after.pictured.held (subst (NodesStay x.image y.image) nodes s)
        (subst (NodesStay z.image w.image) nodes_too u) q.after.pictured.picture q.after.pictured.held a b at (λ c j. elim (back c j) [ inl e ↦ inl e | inr k ↦ inr (subst (IsAmong c) mine.names k) ])
        (λ c j. elim (back_too c j) [ inl e ↦ inl e | inr k ↦ inr (subst (IsAmong c) theirs.names k) ]) same

  pub both_grown : (News : Root → Type 0) → Grows x.image y.image r.before.pictured.picture r.after.pictured.picture r.before.pictured.held.index_blocks News
      → Grows z.image w.image q.before.pictured.picture q.after.pictured.picture q.before.pictured.held.index_blocks News → r.after.pictured.picture.names ≡ q.after.pictured.picture.names
      → r.after.pictured.picture.uniques ≡ q.after.pictured.picture.uniques → r.after.pictured.owned ≡ q.after.pictured.owned → BothEnter → StaysAlike others answer answer y w
  both_grown News g k names uniques owned entries =
      let alike = stand.images in
      let pictured = as_pictured others x.owned x.image z.image alike r.before.pictured q.before.pictured r.owned_before (q.owned_before ∙ stand.owned) in
      let loose = r.before.pictured.loose ∙ ap (λ rs. others ++ rs) pictured.1 ∙ sym alike.loose in
      let loose_too = q.before.pictured.loose ∙ ap (λ rs. others ++ rs) (sym pictured.0.owned ∙ pictured.1) ∙ sym alike.loose in
      let first = regrown x.image y.image r.before.pictured.picture alike.picture r.after.pictured.picture r.before.pictured.held.index_blocks alike.held.index_blocks News mine loose nodes g in
      let second = regrown z.image w.image q.before.pictured.picture alike.picture q.after.pictured.picture q.before.pictured.held.index_blocks alike.held_too.index_blocks News theirs loose_too nodes_too k in
      let both = one constants others moves i x z y w answer answer stand r q in
      let images = grown_alike alike r.after.pictured q.after.pictured News first second (q.length_kept ∙ alike.length_same ∙ sym r.length_kept) (q.header_kept ∙ alike.front_same ∙ sym r.header_kept)
      (q.ties.next_is ∙ ap (next_after i.operation answer) alike.next_same ∙ sym r.ties.next_is) (sym both.2) names uniques owned entries in
      record {
        answers = refl;
        stand = record {
          states = sym both.1;
          owned = sym q.owned_after ∙ ap places_of (sym owned) ∙ r.owned_after;
          images = subst (λ places. AreAlike others places y.image w.image) r.owned_after images;
        };
      }
