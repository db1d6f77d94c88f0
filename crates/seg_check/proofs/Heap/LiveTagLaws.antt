-- The table of the tags that allocated blocks may have, computed word by word.
use Rattle.std.proofs.Common.{◌≡◌, ◌≢◌, ℕ, ◌+◌, ◌*◌, ◌/◌, ◌%◌, ◌<◌, ◌≤◌, ⊎_elim, Bool, true, false, List, length, Option, Some, None, get_or, set, sym, ap, ◌∙◌, subst, arith, get_or-set_other, get_or-set_same, refl}
use Rattle.std.specs.Prelude.{◌↔◌}
use Rattle.std.proofs.lemmas.Bool.{cases_eq}
use Rattle.seg_spec.specs.Types.{Table, IsTable}
use Rattle.seg_spec.specs.Header.{sharing_version}
use Rattle.seg_spec.specs.Block.{Kind, kind_number, tag_of, AllowsType}
use Rattle.seg_block.specs.Tags.{kind_of, word_of}
use Rattle.seg_block.specs.declared.tag.Tag.{Tag}
use Rattle.seg_check.specs.Tiles.{IsAllowed, AreLiveTags}
use Rattle.seg_check.proofs.Heap.TagNumberLaws.{number_small, one_tag, type_small, kind_from, kind_of-from}

-- the index of a word in the order of the computation: kind by kind, and type by type; and the word
-- at an index
abbrev pub turn_of : ℕ → ℕ
turn_of word = 32 * (word % 256) + word / 256

abbrev pub word_at : ℕ → ℕ
word_at turn = turn / 32 + 256 * (turn % 32)

-- the table is computed up to an index
abbrev pub AreLiveTagsTo : ℕ → Table → List Bool → ℕ → Type 0
AreLiveTagsTo version table are_right turn =
    (word : ℕ) → (get_or are_right word false ≡ true) ↔ (IsAllowed version table word × (turn_of word < turn))

module _ (version : ℕ) (table : Table) (valid : IsTable table) where
  allowed_small : (word : ℕ) → IsAllowed version table word → (word % 256 ≤ 7) × (word / 256 < 32)
  allowed_small word a =
      let n = (number_small a.kind).1 in
      let t = type_small table valid a.kind a.type a.allowed in
      let e = a.tag_is in
      (omega arith, omega arith)

  pub turn_small : (word : ℕ) → IsAllowed version table word → turn_of word < 256
  turn_small word a = let s = allowed_small word a in omega arith

  same_word : (word turn : ℕ) → IsAllowed version table word → turn_of word ≡ turn → word ≡ word_at turn
  same_word word turn a e = let s = allowed_small word a in omega arith

  pub skipped : (tags : List Bool) (turn : ℕ) → (IsAllowed version table (word_at turn) → ⊥) → AreLiveTagsTo version table tags turn → AreLiveTagsTo version table tags (turn + 1)
  skipped tags turn none known = λ word. (
    λ e. let k = (known word).0 e in (k.0, omega (arith, k.1)),
    λ p. ⊎_elim
        (λ same. absurd (none (subst (IsAllowed version table) (same_word word turn p.0 same) p.0)))
        (λ other. (known word).1 (p.0, omega (arith, p.1, other)))
        (cases_eq (turn_of word) turn),
  )

  pub marked : (tags : List Bool) (turn : ℕ) (b : Bool) → word_at turn < length tags → turn < 256 → (b ≡ true) ↔ IsAllowed version table (word_at turn) → AreLiveTagsTo version table tags turn
      → AreLiveTagsTo version table (set tags (word_at turn) b) (turn + 1)
  marked tags turn b inside few right known = λ word. ⊎_elim
      (λ (same : word ≡ word_at turn).
      let e : get_or (set tags (word_at turn) b) word false ≡ b = ap (λ k. get_or (set tags (word_at turn) b) k false) same ∙ get_or-set_same tags (word_at turn) b false inside in
      let now : turn_of word < turn + 1 = omega (arith, same) in (
        λ h. (subst (IsAllowed version table) (sym same) (right.0 (sym e ∙ h)), now),
        λ p. e ∙ right.1 (subst (IsAllowed version table) same p.0),
      ))
      (λ (other : word ≢ word_at turn).
      let e : get_or (set tags (word_at turn) b) word false ≡ get_or tags word false = get_or-set_other tags (word_at turn) word b false other in (
        λ h. let k = (known word).0 (sym e ∙ h) in (k.0, omega (arith, k.1)),
        λ p. e ∙ (known word).1 (p.0, before word p.0 other p.1),
      ))
      (cases_eq word (word_at turn))
    where
      before : (word : ℕ) → IsAllowed version table word → word ≢ word_at turn → turn_of word < turn + 1 → turn_of word < turn
      before word a other less = ⊎_elim (λ e. absurd (other (same_word word turn a e))) (λ ne. omega (arith, less, ne)) (cases_eq (turn_of word) turn)

  pub all_known : (tags : List Bool) → AreLiveTagsTo version table tags 256 → AreLiveTags version table tags
  all_known tags known = λ word. (λ e. ((known word).0 e).0, λ a. (known word).1 (a, turn_small word a))

  -- a word that is no tag isn't allowed
  pub no_tag : (word : ℕ) (o : Option Tag) → ((t : Tag) → t.type_id < 256 → word ≡ word_of t → o ≡ Some t) → o ≡ None → IsAllowed version table word → ⊥
  no_tag word o every none a =
      let t : Tag = record { kind = kind_from a.kind; type_id = a.type } in
      let small = type_small table valid a.kind a.type a.allowed in
      let is : word ≡ word_of t = a.tag_is ∙ ap (λ k. tag_of k a.type) (sym (kind_of-from a.kind)) in
      let some : o ≡ Some t = every t (omega arith) is in
      cc

  frozen_kind : (k : Kind) → kind_number k ≡ kind_number Kind.frozen → k ≡ Kind.frozen
  frozen_kind Kind.named e = absurd (omega arith)
  frozen_kind Kind.object e = absurd (omega arith)
  frozen_kind Kind.buffer e = absurd (omega arith)
  frozen_kind Kind.node e = absurd (omega arith)
  frozen_kind Kind.index_buffer e = absurd (omega arith)
  frozen_kind Kind.index_node e = absurd (omega arith)
  frozen_kind Kind.frozen e = refl

  -- a tag is allowed exactly if its type is, and if the version has blocks of its kind
  pub tag_allowed : (word : ℕ) (t : Tag) (shares : Bool) → word ≡ word_of t → (shares ≡ true) ↔ (version ≡ sharing_version)
      → ((AllowsType table (kind_of t.kind) t.type_id × (kind_of t.kind ≡ Kind.frozen → shares ≡ true)) → IsAllowed version table word)
      × (IsAllowed version table word → AllowsType table (kind_of t.kind) t.type_id × (kind_of t.kind ≡ Kind.frozen → shares ≡ true))
  tag_allowed word t shares is both = (
    λ a. record {
      kind = kind_of t.kind;
      type = t.type_id;
      allowed = a.0;
      tag_is = is;
      of_version = λ frozen. both.0 (a.1 (frozen_kind (kind_of t.kind) (let n = (number_small (kind_of t.kind)).1 in omega (arith, ap (λ w. w % 256) is, frozen))));
    },
    λ a.
        let one = one_tag a.kind (kind_of t.kind) a.type t.type_id (sym a.tag_is ∙ is) in (
          subst (λ T. AllowsType table (kind_of t.kind) T) one.1 (subst (λ k. AllowsType table k a.type) one.0 a.allowed),
          λ frozen. both.1 (a.of_version (let e : word % 256 ≡ tag_of (kind_of t.kind) t.type_id % 256 = ap (λ w. w % 256) is in let f : tag_of (kind_of t.kind) t.type_id % 256 ≡ tag_of Kind.frozen t.type_id % 256 =
              ap (λ k. tag_of k t.type_id % 256) frozen in omega arith)),
        ),
  )
