-- A place keeps its value, and each of its parts, if its bytes and the blocks that it owns are kept.
use Rattle.std.proofs.Common.{◌≡◌, ℕ, zero, suc, ◌+◌, ◌-◌, ◌*◌, ◌≤◌, List, [], ◌∷◌, ◌++◌, map, Option, Some, None, unwrap_or, option_to_list, option_map, MatchOption, sum_by, refl, ap, ◌∙◌, arith}
use Rattle.std.proofs.Math.Nat.{zero-mul, mul-one}
use Rattle.std.proofs.lemmas.List.Sums.{sum_by-cons}
use Rattle.std.specs.List.{AllByRecursion}
use Rattle.seg_spec.specs.Bytes.{slice, word, signed, signed_long, IsSame}
use Rattle.seg_spec.specs.Pointer.{target}
use Rattle.seg_spec.specs.Types.{Form, Table, form_at, size, IsTable, size_of_form}
use Rattle.seg_spec.specs.Value.{Value, Values}
use Rattle.seg_spec.specs.Block.{IsBlock, KeepsBlock, block_of, payload_size}
use Rattle.seg_spec.specs.Shapes.{IsRing, IsLinked, AreLinked, Tree, leaf, fork, nodes_of, IsTree}
use Rattle.seg_spec.specs.Reads.{Place, Opened, count_at, named, start, spaced, places_of, fields, keys_at, NamesRoom, AreNodes, Opens, Holds, holds, HoldsEach, holds_none, holds_more, map_words}
use Rattle.seg_spec.specs.Parts.{Persists, persists, PersistEach, persist_none, persist_more, KeepsAllParts}
use Rattle.seg_spec.proofs.BytesLaws.{number-slice}
use Rattle.seg_spec.proofs.SliceLaws.{IsSame-part}
use Rattle.seg_spec.proofs.Values.PersistenceLaws.{HoldsEach-persist, Holds-persists, all_parts}
use Rattle.seg_spec.proofs.Tables.TypeSizeLaws.{size-form}

-- ---- facts about each item

pub each_map : {X Y : Type 0} (P : Y → Type 0) (f : X → Y) (xs : List X) → AllByRecursion (λ x. P (f x)) xs → AllByRecursion P (map f xs)
each_map P f [] h = h
each_map P f (x ∷ xs) h = (h.0, each_map P f xs h.1)

pub each_of_map : {X Y : Type 0} (P : Y → Type 0) (f : X → Y) (xs : List X) → AllByRecursion P (map f xs) → AllByRecursion (λ x. P (f x)) xs
each_of_map P f [] h = h
each_of_map P f (x ∷ xs) h = (h.0, each_of_map P f xs h.1)

pub each_weaker : {X : Type 0} (P Q : X → Type 0) → ((x : X) → P x → Q x) → (xs : List X) → AllByRecursion P xs → AllByRecursion Q xs
each_weaker P Q f [] h = h
each_weaker P Q f (x ∷ xs) h = (f x h.0, each_weaker P Q f xs h.1)

pub each_both : {X : Type 0} (P Q R : X → Type 0) → ((x : X) → P x → Q x → R x) → (xs : List X) → AllByRecursion P xs → AllByRecursion Q xs → AllByRecursion R xs
each_both P Q R f [] h k = h
each_both P Q R f (x ∷ xs) h k = (f x h.0 k.0, each_both P Q R f xs h.1 k.1)

pub each_left : {X : Type 0} (P : X → Type 0) (xs ys : List X) → AllByRecursion P (xs ++ ys) → AllByRecursion P xs
each_left P [] ys h = tt
each_left P (x ∷ xs) ys h = (h.0, each_left P xs ys h.1)

pub each_right : {X : Type 0} (P : X → Type 0) (xs ys : List X) → AllByRecursion P (xs ++ ys) → AllByRecursion P ys
each_right P [] ys h = h
each_right P (x ∷ xs) ys h = each_right P xs ys h.1

module _ (old new : List ℕ) where
  -- ---- numbers and cells

  pub word-same : (at : ℕ) → IsSame old new at 4 → word new at ≡ word old at
  word-same at h = number-slice 4 old new at at h

  pub target-same : (at : ℕ) → IsSame old new at 4 → target new at ≡ target old at
  unfolding target
  target-same at h = rw (word-same at h)

  pub signed_long-same : (at : ℕ) → IsSame old new at 8 → signed_long new at ≡ signed_long old at
  signed_long-same at h = ap signed (number-slice 8 old new at at h)

  pub keys_at-same : (ps : List ℕ) → AllByRecursion (λ p. IsSame old new p 8) ps → keys_at new ps ≡ keys_at old ps
  keys_at-same [] h = refl
  keys_at-same (p ∷ ps) h = rw (signed_long-same p h.0, keys_at-same ps h.1)

  pub cell-target : (at : ℕ) → IsSame old new at 8 → target new at ≡ target old at
  cell-target at h = target-same at (IsSame-part old new at 8 at 4 (omega arith) (omega arith) h)

  pub cell-count : (at : ℕ) → IsSame old new at 8 → count_at new at ≡ count_at old at
  cell-count at h = word-same (at + 4) (IsSame-part old new at 8 (at + 4) 4 (omega arith) (omega arith) h)

  pub IsSame-none : (at : ℕ) → IsSame old new at 0
  unfolding slice
  IsSame-none at = refl

  -- ---- blocks

  pub IsBlock-kept : (p kind n : ℕ) → KeepsBlock old new (block_of p) → IsBlock old p kind n → IsBlock new p kind n
  IsBlock-kept p kind n k b = record {
    after_header = b.after_header;
    live = k.live ∙ b.live;
    has_tag = k.has_tag ∙ b.has_tag;
    room = omega (arith, b.room, k.room);
  }

  pub payload-same : (p kind n : ℕ) → KeepsBlock old new (block_of p) → IsBlock old p kind n → IsSame old new p n
  payload-same p kind n k b =
      let at : p - 16 + 16 ≡ p = omega (arith, b.after_header) in
      IsSame-part old new (p - 16 + 16) (payload_size old (block_of p)) p n (omega arith) (omega (arith, b.room)) k.payload

  pub buffer-same : (o : Option ℕ) (kind n each : ℕ) → MatchOption o (n ≡ 0) (λ p. IsBlock old p kind (n * each)) → AllByRecursion (KeepsBlock old new) (option_to_list (option_map block_of o)) → IsSame old new (unwrap_or o 0) (n * each)
  buffer-same None kind n each e ks =
      let z : n * each ≡ 0 = rw e (zero-mul each) in
      rw z (IsSame-none 0)
  buffer-same (Some p) kind n each b ks = payload-same p kind (n * each) ks.0 b

  pub buffer-kept : (o : Option ℕ) (kind n each : ℕ) → MatchOption o (n ≡ 0) (λ p. IsBlock old p kind (n * each)) → AllByRecursion (KeepsBlock old new) (option_to_list (option_map block_of o))
      → MatchOption o (n ≡ 0) (λ p. IsBlock new p kind (n * each))
  buffer-kept None kind n each e ks = e
  buffer-kept (Some p) kind n each b ks = IsBlock-kept p kind (n * each) ks.0 b

  pub NamesRoom-kept : (at kind each : ℕ) → IsSame old new at 8 → AllByRecursion (KeepsBlock old new) (named old at) → NamesRoom old at kind each → NamesRoom new at kind each
  NamesRoom-kept at kind each h ks r = rw (cell-target at h, cell-count at h) (buffer-kept (target old at) kind (count_at old at) each r ks)

  -- the entries of a buffer whose bytes are kept are kept
  pub spaced-same : (at step n : ℕ) → IsSame old new at (n * step) → AllByRecursion (λ p. IsSame old new p step) (spaced at step n)
  spaced-same at step zero h = tt
  spaced-same at step (suc n) h =
      let all : suc n * step ≡ step + n * step = grind arith in
      (IsSame-part old new at (suc n * step) at step (omega arith) (omega arith) h, spaced-same (at + step) step n (IsSame-part old new at (suc n * step) (at + step) (n * step) (omega arith) (omega arith) h))

  -- ---- nodes

  pub nodes-same : (kind n : ℕ) (ps : List ℕ) → AllByRecursion (KeepsBlock old new) (map block_of ps) → AreNodes old kind n ps → AllByRecursion (λ p. IsSame old new p n) ps
  nodes-same kind n [] ks h = tt
  nodes-same kind n (p ∷ ps) ks h = (payload-same p kind n ks.0 h.0, nodes-same kind n ps ks.1 h.1)

  pub nodes-kept : (kind n : ℕ) (ps : List ℕ) → AllByRecursion (KeepsBlock old new) (map block_of ps) → AreNodes old kind n ps → AreNodes new kind n ps
  nodes-kept kind n [] ks h = tt
  nodes-kept kind n (p ∷ ps) ks h = (IsBlock-kept p kind n ks.0 h.0, nodes-kept kind n ps ks.1 h.1)

  pub AreLinked-same : (x y : ℕ) → IsSame old new x 8 → IsSame old new y 8 → AreLinked old x y → AreLinked new x y
  AreLinked-same x y hx hy l = record {
    next = cell-target x hx ∙ l.next;
    previous = target-same (y + 4) (IsSame-part old new y 8 (y + 4) 4 (omega arith) (omega arith) hy) ∙ l.previous;
  }

  pub IsLinked-same : (first x : ℕ) (ys : List ℕ) → IsSame old new first 8 → IsSame old new x 8 → AllByRecursion (λ p. IsSame old new p 8) ys → IsLinked old first x ys → IsLinked new first x ys
  IsLinked-same first x [] hf hx hs l = AreLinked-same x first hx hf l
  IsLinked-same first x (y ∷ ys) hf hx hs l = (AreLinked-same x y hx hs.0 l.0, IsLinked-same first y ys hf hs.0 hs.1 l.1)

  pub IsRing-same : (o : Option ℕ) (ps : List ℕ) → AllByRecursion (λ p. IsSame old new p 8) ps → IsRing old o ps → IsRing new o ps
  IsRing-same None [] hs r = tt
  IsRing-same None (x ∷ xs) hs r = r
  IsRing-same (Some p) [] hs r = r
  IsRing-same (Some p) (x ∷ xs) hs r = (r.0, IsLinked-same p x xs (rw (← r.0) hs.0) hs.0 hs.1 r.1)

  pub IsTree-same : (o : Option ℕ) (tree : Tree) → AllByRecursion (λ p. IsSame old new p 16) (nodes_of tree) → IsTree old o tree → IsTree new o tree
  IsTree-same None leaf hs t = tt
  IsTree-same None (fork left at colour right) hs t = t
  IsTree-same (Some p) leaf hs t = t
  IsTree-same (Some p) (fork left at colour right) hs t =
      let at_is : at ≡ p = t.0 in
      let here : IsSame old new p 16 = rw (← at_is) (each_right _ (nodes_of left) (at ∷ nodes_of right) hs).0 in (
        t.0,
        record {
          colour_is = word-same (p + 8) (IsSame-part old new p 16 (p + 8) 4 (omega arith) (omega arith) here) ∙ t.1.colour_is;
          zero_is = word-same (p + 12) (IsSame-part old new p 16 (p + 12) 4 (omega arith) (omega arith) here) ∙ t.1.zero_is;
        },
        rw (target-same p (IsSame-part old new p 16 p 4 (omega arith) (omega arith) here)) (IsTree-same (target old p) left (each_left _ (nodes_of left) (at ∷ nodes_of right) hs) t.2),
        rw (target-same (p + 4) (IsSame-part old new p 16 (p + 4) 4 (omega arith) (omega arith) here)) (IsTree-same (target old (p + 4)) right (each_right _ (nodes_of left) (at ∷ nodes_of right) hs).1 t.3),
      )

-- ---- places

abbrev pub SamePlace : List ℕ → List ℕ → Table → Place → Type 0
SamePlace old new table place = IsSame old new place.at (size table place.type)

module _ (old new : List ℕ) (table : Table) (valid : IsTable table) where
  pub fields-same : (at : ℕ) (Us : List ℕ) → IsSame old new at (sum_by (size table) Us) → AllByRecursion (SamePlace old new table) (fields table at Us)
  fields-same at [] h = tt
  fields-same at (U ∷ Us) h =
      let all : sum_by (size table) (U ∷ Us) ≡ size table U + sum_by (size table) Us = sum_by-cons (size table) U Us in (
        IsSame-part old new at (sum_by (size table) (U ∷ Us)) at (size table U) (omega arith) (omega arith) h,
        fields-same (at + size table U) Us (IsSame-part old new at (sum_by (size table) (U ∷ Us)) (at + size table U) (sum_by (size table) Us) (omega arith) (omega arith) h),
      )

  -- places inside nodes or entries that are kept are kept
  pub inner-same : (U more each : ℕ) (ps : List ℕ) → more + size table U ≤ each → AllByRecursion (λ p. IsSame old new p each) ps → AllByRecursion (SamePlace old new table) (places_of U (map (λ p. p + more) ps))
  inner-same U more each [] fits h = tt
  inner-same U more each (p ∷ ps) fits h = (IsSame-part old new p each (p + more) (size table U) (omega arith) (omega arith) h.0, inner-same U more each ps fits h.1)

  pub places-same : (U : ℕ) (ps : List ℕ) → AllByRecursion (λ p. IsSame old new p (size table U)) ps → AllByRecursion (SamePlace old new table) (places_of U ps)
  places-same U [] h = tt
  places-same U (p ∷ ps) h = (h.0, places-same U ps h.1)

  -- if the first n bytes at each position are kept, so are fewer bytes
  pub shorter : (n m : ℕ) (ps : List ℕ) → m ≤ n → AllByRecursion (λ p. IsSame old new p n) ps → AllByRecursion (λ p. IsSame old new p m) ps
  shorter n m ps le h = each_weaker _ _ (λ p s. IsSame-part old new p n p m (omega arith) (omega arith) s) ps h

  pub further : (n more m : ℕ) (ps : List ℕ) → more + m ≤ n → AllByRecursion (λ p. IsSame old new p n) ps → AllByRecursion (λ p. IsSame old new p m) (map (λ p. p + more) ps)
  further n more m [] le h = tt
  further n more m (p ∷ ps) le h = (IsSame-part old new p n (p + more) m (omega arith) (omega arith) h.0, further n more m ps le h.1)

  -- a step of reading has the same result if the cell and the blocks to which it points are kept
  pub record Stays (place : Place) (form : Form) (opened : Opened) : Type 0 where
    pub opens : Opens new table place form opened
    pub parts : AllByRecursion (SamePlace old new table) opened.parts

  cell_size : (place : Place) (form : Form) → form_at table place.type ≡ Some form → SamePlace old new table place → IsSame old new place.at (size_of_form table form)
  cell_size place form f h = rw (size-form table valid place.type form f) at h

  pub Opens-kept : (place : Place) (form : Form) (opened : Opened) → IsSame old new place.at (size_of_form table form) → AllByRecursion (KeepsBlock old new) opened.blocks → Opens old table place form opened → Stays place form opened
  Opens-kept place Form.i64 opened h ks o = record {
    opens = rw (signed_long-same old new place.at h) o;
    parts = rw o tt;
  }
  Opens-kept place Form.str opened h ks o =
      let at = place.at in
      let kept : AllByRecursion (KeepsBlock old new) (named old at) = rw (ap (λ (r : Opened). r.blocks) o.opened_is) at ks in
      let text : IsSame old new (start old at) (count_at old at) = rw mul-one at (buffer-same old new (target old at) _ (count_at old at) 1 o.named_room kept) in
      record {
        opens = record {
          named_room = NamesRoom-kept old new at _ 1 h kept o.named_room;
          ascending = tt;
          opened_is = rw (cell-target old new at h, cell-count old new at h, text) o.opened_is;
        };
        parts = rw (ap (λ (r : Opened). r.parts) o.opened_is) tt;
      }
  Opens-kept place (Form.vec U) opened h ks o =
      let at = place.at in
      let kept : AllByRecursion (KeepsBlock old new) (named old at) = rw (ap (λ (r : Opened). r.blocks) o.opened_is) at ks in
      let room : IsSame old new (start old at) (count_at old at * size table U) = buffer-same old new (target old at) _ (count_at old at) (size table U) o.named_room kept in
      record {
        opens = record {
          named_room = NamesRoom-kept old new at _ (size table U) h kept o.named_room;
          ascending = tt;
          opened_is = rw (cell-target old new at h, cell-count old new at h) o.opened_is;
        };
        parts = rw (ap (λ (r : Opened). r.parts) o.opened_is) (places-same U _ (spaced-same old new (start old at) (size table U) (count_at old at) room));
      }
  Opens-kept place (Form.list U) opened h ks o =
      let at = place.at in
      let each = 8 + size table U in
      let kept : AllByRecursion (KeepsBlock old new) (map block_of o.nodes) = rw (ap (λ (r : Opened). r.blocks) o.opened_is) at ks in
      let all : AllByRecursion (λ p. IsSame old new p each) o.nodes = nodes-same old new _ each o.nodes kept o.are_nodes in
      record {
        opens = record {
          nodes = o.nodes;
          ring = rw (cell-target old new at h) (IsRing-same old new (target old at) o.nodes (shorter each 8 o.nodes (omega arith) all) o.ring);
          counted = rw (cell-count old new at h) o.counted;
          are_nodes = nodes-kept old new _ each o.nodes kept o.are_nodes;
          opened_is = o.opened_is;
        };
        parts = rw (ap (λ (r : Opened). r.parts) o.opened_is) (inner-same U 8 each o.nodes (omega arith) all);
      }
  Opens-kept place (Form.flat_map U) opened h ks o =
      let at = place.at in
      let each = 8 + size table U in
      let entries = spaced (start old at) each (count_at old at) in
      let kept : AllByRecursion (KeepsBlock old new) (named old at) = rw (ap (λ (r : Opened). r.blocks) o.opened_is) at ks in
      let room : IsSame old new (start old at) (count_at old at * each) = buffer-same old new (target old at) _ (count_at old at) each o.named_room kept in
      let all : AllByRecursion (λ p. IsSame old new p each) entries = spaced-same old new (start old at) each (count_at old at) room in
      let keys : keys_at new entries ≡ keys_at old entries = keys_at-same old new entries (shorter each 8 entries (omega arith) all) in
      record {
        opens = record {
          named_room = NamesRoom-kept old new at _ each h kept o.named_room;
          ascending = rw (cell-target old new at h, cell-count old new at h, keys) o.ascending;
          opened_is = rw (cell-target old new at h, cell-count old new at h, keys) o.opened_is;
        };
        parts = rw (ap (λ (r : Opened). r.parts) o.opened_is) (inner-same U 8 each entries (omega arith) all);
      }
  Opens-kept place (Form.map U) opened h ks o =
      let at = place.at in
      let each = map_words + size table U in
      let nodes = nodes_of o.tree in
      let kept : AllByRecursion (KeepsBlock old new) (map block_of nodes) = rw (ap (λ (r : Opened). r.blocks) o.opened_is) at ks in
      let all : AllByRecursion (λ p. IsSame old new p each) nodes = nodes-same old new _ each nodes kept o.are_nodes in
      let keys : keys_at new (map (λ p. p + 16) nodes) ≡ keys_at old (map (λ p. p + 16) nodes) = keys_at-same old new _ (further each 16 8 nodes (omega arith) all) in
      record {
        opens = record {
          tree = o.tree;
          is_tree = rw (cell-target old new at h) (IsTree-same old new (target old at) o.tree (shorter each 16 nodes (omega arith) all) o.is_tree);
          red_black = o.red_black;
          counted = rw (cell-count old new at h) o.counted;
          are_nodes = nodes-kept old new _ each nodes kept o.are_nodes;
          ascending = rw keys o.ascending;
          opened_is = rw keys o.opened_is;
        };
        parts = rw (ap (λ (r : Opened). r.parts) o.opened_is) (inner-same U map_words each nodes (omega arith) all);
      }
  Opens-kept place (Form.own U) opened h ks o =
      let at = place.at in
      let kept : AllByRecursion (KeepsBlock old new) (named old at) = rw (ap (λ (r : Opened). r.blocks) o.opened_is) at ks in
      let room : IsSame old new (start old at) (count_at old at * size table U) = buffer-same old new (target old at) _ (count_at old at) (size table U) o.named_room kept in
      record {
        opens = record {
          named_room = NamesRoom-kept old new at _ (size table U) h kept o.named_room;
          counted = rw (cell-target old new at h, cell-count old new at h) o.counted;
          opened_is = rw (cell-target old new at h, cell-count old new at h) o.opened_is;
        };
        parts = rw (ap (λ (r : Opened). r.parts) o.opened_is) (places-same U _ (spaced-same old new (start old at) (size table U) (count_at old at) room));
      }
  Opens-kept place (Form.shared U) opened h ks o = record {
    opens = record {
      payload = rw (cell-target old new place.at h) o.payload;
      counted = rw (cell-target old new place.at h, cell-count old new place.at h) o.counted;
      opened_is = rw (cell-target old new place.at h) o.opened_is;
    };
    parts = rw (ap (λ (r : Opened). r.parts) o.opened_is) tt;
  }
  Opens-kept place (Form.struct Us) opened h ks o = record {
    opens = o;
    parts = rw o (fields-same place.at Us h);
  }

  mutual
    pub Persists-kept : {place : Place} {v : Value} {blocks : List ℕ} → Holds old table place v blocks → SamePlace old new table place → AllByRecursion (KeepsBlock old new) blocks → Persists old new table place place
    Persists-kept {place = place} (holds form opened inside owned f o hs v_is blocks_is) h ks =
        let all = rw blocks_is at ks in
        let stays = Opens-kept place form opened (cell_size place form f h) (each_left _ opened.blocks owned all) o in
        persists form opened opened f refl o stays.opens refl refl (PersistEach-kept hs stays.parts (each_right _ opened.blocks owned all))

    pub PersistEach-kept : {places : List Place} {vs : Values} {blocks : List ℕ} → HoldsEach old table places vs blocks → AllByRecursion (SamePlace old new table) places → AllByRecursion (KeepsBlock old new) blocks
        → PersistEach old new table places places
    PersistEach-kept holds_none h ks = persist_none
    PersistEach-kept (holds_more {blocks = blocks} {owned = owned} first rest) h ks = persist_more (Persists-kept first h.0 (each_left _ blocks owned ks)) (PersistEach-kept rest h.1 (each_right _ blocks owned ks))

  pub Holds-kept : {place : Place} {v : Value} {blocks : List ℕ} → Holds old table place v blocks → SamePlace old new table place → AllByRecursion (KeepsBlock old new) blocks → Holds new table place v blocks
  Holds-kept hold h ks = Holds-persists old new table hold (Persists-kept hold h ks)

  pub HoldsEach-kept : {places : List Place} {vs : Values} {blocks : List ℕ} → HoldsEach old table places vs blocks → AllByRecursion (SamePlace old new table) places → AllByRecursion (KeepsBlock old new) blocks
      → HoldsEach new table places vs blocks
  HoldsEach-kept hs h ks = HoldsEach-persist old new table hs (PersistEach-kept hs h ks)

  -- each part of a place that is kept stays
  pub all_parts_kept : {place : Place} {v : Value} {blocks : List ℕ} → Holds old table place v blocks → SamePlace old new table place → AllByRecursion (KeepsBlock old new) blocks → KeepsAllParts old new table place
  all_parts_kept {place = place} (holds form opened inside owned f o hs v_is blocks_is) h ks =
      let all = rw blocks_is at ks in
      let stays = Opens-kept place form opened (cell_size place form f h) (each_left _ opened.blocks owned all) o in
      record {
        form = form;
        form_is = f;
        before = opened;
        opens_before = o;
        after = opened;
        opens_after = stays.opens;
        stay = all_parts old new table form opened.parts opened.parts (λ e. refl) (PersistEach-kept hs stays.parts (each_right _ opened.blocks owned all));
      }

-- bytes that don't change keep all parts
pub parts_unchanged : (bytes : List ℕ) (table : Table) → IsTable table → {place : Place} {v : Value} {blocks : List ℕ} → Holds bytes table place v blocks → KeepsAllParts bytes bytes table place
parts_unchanged bytes table valid {blocks = blocks} hold = all_parts_kept bytes bytes table valid hold refl (all blocks)
  where
    all : (hs : List ℕ) → AllByRecursion (KeepsBlock bytes bytes) hs
    all [] = tt
    all (h ∷ hs) = (record { live = refl; has_tag = refl; room = omega arith; payload = refl }, all hs)
