-- Strings and vectors before and after calls. U is the type of the items, vs are the items, and xs
-- the bytes of a text. The place owns `blocks`. `asks` are requests to the heap, and `gives` freed
-- blocks.
--     HasText allocator heap place xs blocks      the place has a string with this text
--     HasItems allocator heap place U vs blocks   the place has a vector with these items
--     item_type form                              the type of the items of a vector or a list
--     IsFull heap place U                         a vector's buffer has no room for one more item
--     LacksByte heap place                        a string's buffer has no room for one more byte
--     Declines code old new result                the call returned a code, and nothing changed
--     HasNone old new n code                      n is 0, so there is nothing to remove, and nothing changed
--     LacksRoom allocator old new asks code       one of the requests wasn't granted, and nothing changed
--     ComesToHold allocator old new place w asks gives blocks
--         the place contains w, after requests that were granted; the blocks `gives` were freed
--     text_asks heap place n, push_asks heap place U      the requests for a buffer of n bytes, and for one more item
--     Rewrites allocator old new place n ys blocks result
--         a string now has this text, in a buffer with room for n bytes, or there was no room
--     ExtendsText allocator old new place kept n xs blocks at len
--         a string keeps its first bytes, and has n more from a position on, with any values
--     CountsItem allocator old new place U vs blocks at   one more item is counted, but isn't written
--     PushesItem item allocator old new place U vs blocks p   an item was appended, at a position
--     PushesBack allocator old new place U vs blocks p    a default item was appended
--     PushesNumber allocator old new place number result
--         a number was appended to a vector of numbers, or there was no room
--     PopsBack old new place vs home blocks               the last item was destroyed, with what it owned
--     IsPast index n code                         the index isn't below n
--     ShowsByte heap place xs index p             the byte of a text at an index is at position p
--     ShowsItem heap place U index p              the item of a vector or a list at an index is at position p
use Rattle.std.specs.Prelude.{◌≡◌, ℕ, ℤ, ◌+◌, ◌-◌, ◌*◌, ◌%◌, ◌^◌, ◌<◌, ◌≤◌, List, [], ◌∷◌, length, take, slice_index, Option, Some, None, Result, Err, MatchResult}
use Rattle.seg_spec.specs.Bytes.{byte, set_word}
use Rattle.seg_spec.specs.Types.{Form, form_at, size}
use Rattle.seg_spec.specs.Value.{Value, Values, nil, cons, Int, Text, Seq, count, nth, append, default_of, Selector}
use Rattle.seg_spec.specs.Reads.{Place, count_at, start, Leads}
use Rattle.seg_spec.specs.Parts.{KeepsParts}
use Rattle.seg_spec.specs.Calls.{Refuses}
use Rattle.seg_spec.specs.Demand.{Ask}
use Rattle.seg_spec.specs.Growing.{Succeeds, Reserves}
use Rattle.seg_spec.specs.Items.{without_last}
use Rattle.seg_spec.specs.Owning.{Stands}
use Rattle.seg_spec.specs.Clearing.{BesideShared, LosesPart}
use Rattle.seg_spec.specs.Shared.{named_in}
use Rattle.seg_spec.specs.Spending.{buffer_asks, units_named}
use Rattle.seg_raw.specs.declared.code.Code.{Code}
use Rattle.seg_raw.specs.declared.code.Code.TheVariants.{BadAlloc, Null, OutOfRange}
use Rattle.seg_value.specs.Stored.{Stored}

-- ---- before calls

pub record HasText (allocator : ℕ) (heap : Stored) (place : Place) (xs blocks : List ℕ) :
    Type 0 where
  pub form_is : form_at heap.types place.type ≡ Some Form.str
  pub stands : Stands allocator heap.window.bytes heap.types place (Text xs) blocks

pub record HasItems (allocator : ℕ) (heap : Stored) (place : Place) (U : ℕ) (vs : Values)
    (blocks : List ℕ) : Type 0 where
  pub form_is : form_at heap.types place.type ≡ Some (Form.vec U)
  pub stands : Stands allocator heap.window.bytes heap.types place (Seq vs) blocks

abbrev pub item_type : Option Form → Option ℕ
item_type (Some (Form.vec U)) = Some U
item_type (Some (Form.list U)) = Some U
item_type _ = None

abbrev pub IsFull : Stored → Place → ℕ → Type 0
IsFull heap place U = 16 * units_named heap.window.bytes place.at - 16
    < (count_at heap.window.bytes place.at + 1) * size heap.types U

abbrev pub LacksByte : Stored → Place → Type 0
LacksByte heap place = 16 * units_named heap.window.bytes place.at - 16
    < count_at heap.window.bytes place.at + 1

-- ---- after calls

pub record Declines {A : Type 0} (code : Code) (old new : Stored) (result : Result A Code) :
    Type 0 where
  pub result_is : result ≡ Err code
  pub same : new.window ≡ old.window

pub record HasNone (old new : Stored) (n : ℕ) (code : Code) : Type 0 where
  pub code_is : code ≡ Null
  pub none : n ≡ 0
  pub same : new.window ≡ old.window

pub record LacksRoom (allocator : ℕ) (old new : Stored) (asks : List Ask) (code : Code) :
    Type 0 where
  pub code_is : code ≡ BadAlloc
  pub refuses : Refuses allocator old.window.bytes new.window.bytes asks

-- The place now contains w, and owns other blocks. The requests were granted, and the blocks
-- `gives` were freed.
pub record ComesToHold (allocator : ℕ) (old new : Stored) (place : Place) (w : Value)
    (asks : List Ask) (gives blocks : List ℕ) : Type 0 where
  pub others : List ℕ
  pub succeeds : Succeeds allocator old.window.bytes new.window.bytes old.types place w
      asks gives blocks others

abbrev pub text_asks : Stored → Place → ℕ → List Ask
text_asks heap place n = buffer_asks heap.window.bytes place.at 1 n

-- The string now has the text ys, for which it requested a buffer of n bytes. Or there was no room.
abbrev pub Rewrites : {A : Type 0} → ℕ → Stored → Stored → Place → ℕ → List ℕ → List ℕ →
    Result A Code → Type 0
Rewrites allocator old new place n ys blocks result = MatchResult result
    (λ done. ComesToHold allocator old new place (Text ys) (text_asks old place n) [] blocks)
    (LacksRoom allocator old new (text_asks old place n))

-- The string keeps its first bytes, and has n more after them, with any values.
pub record ExtendsText (allocator : ℕ) (old new : Stored) (place : Place) (kept n : ℕ)
    (xs blocks : List ℕ) (at len : ℕ) : Type 0 where
  pub ys : List ℕ
  pub prefix : take kept ys ≡ take kept xs
  pub long : length ys ≡ kept + n
  pub holds_it : ComesToHold allocator old new place (Text ys) (text_asks old place (kept + n)) []
      blocks
  pub len_is : len ≡ kept + n
  pub at_is : at ≡ start new.window.bytes place.at + kept

abbrev pub push_asks : Stored → Place → ℕ → List Ask
push_asks heap place U = buffer_asks heap.window.bytes place.at (size heap.types U)
    (count_at heap.window.bytes place.at + 1)

-- One more item is counted, and has room at a position, but isn't written yet.
pub record CountsItem (allocator : ℕ) (old new : Stored) (place : Place) (U : ℕ) (vs : Values)
    (blocks : List ℕ) (at : ℕ) : Type 0 where
  pub mid : List ℕ
  pub reserves : Reserves allocator old.window.bytes mid old.types place (Seq vs) blocks
      (push_asks old place U) ((count_at old.window.bytes place.at + 1) * size old.types U)
  pub counted : new.window.bytes
      ≡ set_word mid (place.at + 4) (count_at old.window.bytes place.at + 1)
  pub at_is : at
      ≡ (start mid place.at + count_at old.window.bytes place.at * size old.types U) % 2 ^ 32

-- An item was appended, at the position p. The other items stay.
pub record PushesItem (item : Value) (allocator : ℕ) (old new : Stored) (place : Place) (U : ℕ)
    (vs : Values) (blocks : List ℕ) (p : ℕ) : Type 0 where
  pub holds_it : ComesToHold allocator old new place (Seq (append vs (cons item nil)))
      (push_asks old place U) [] blocks
  pub parts : KeepsParts old.window.bytes new.window.bytes old.types place (count vs) 0 1
  pub leads : Leads new.window.bytes old.types place (Selector.item (count vs) ∷ [])
      (record { at = p; type = U })

-- a default item was appended
abbrev pub PushesBack : ℕ → Stored → Stored → Place → ℕ → Values → List ℕ → ℕ → Type 0
PushesBack allocator old new place U vs blocks p =
    PushesItem (default_of old.types U) allocator old new place U vs blocks p

abbrev pub PushesNumber : ℕ → Stored → Stored → Place → ℤ → Result ℕ Code → Type 0
PushesNumber allocator old new place number result =
    (U : ℕ) (vs : Values) (blocks : List ℕ) → HasItems allocator old place U vs blocks →
    form_at old.types U ≡ Some Form.i64 →
    MatchResult result (PushesItem (Int number) allocator old new place U vs blocks)
    (LacksRoom allocator old new (push_asks old place U))

-- The last item was destroyed, with what it owned, and the frozen objects that lost their last
-- cell. The place lies in the block `home`.
pub record PopsBack (old new : Stored) (place : Place) (vs : Values) (home : ℕ)
    (blocks : List ℕ) : Type 0 where
  pub some : 1 ≤ count vs
  pub loses : (v : Value) → nth vs (count vs - 1) ≡ Some v →
      BesideShared old.window.bytes old.types (home ∷ blocks) (named_in v)
      (LosesPart old.window.bytes new.window.bytes old.types place (Seq (without_last vs))
      (count vs - 1) blocks)

-- ---- results

pub record IsPast (index n : ℕ) (code : Code) : Type 0 where
  pub code_is : code ≡ OutOfRange
  pub past : n ≤ index

-- the byte of a text at an index is at position p
pub record ShowsByte (heap : Stored) (place : Place) (xs : List ℕ) (index p : ℕ) : Type 0 where
  pub below : index < length xs
  pub at_is : p ≡ start heap.window.bytes place.at + index
  pub byte_is : byte heap.window.bytes p ≡ slice_index xs index

-- the item at an index is at position p
abbrev pub ShowsItem : Stored → Place → ℕ → ℕ → ℕ → Type 0
ShowsItem heap place U index p =
    Leads heap.window.bytes heap.types place (Selector.item index ∷ [])
    (record { at = p; type = U })
