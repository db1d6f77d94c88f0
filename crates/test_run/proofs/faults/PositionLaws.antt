-- What faults state about their positions, in small images.
use Rattle.std.proofs.Common.{◌≡◌, ℕ, ◌≤◌, zero, suc, [], ◌∷◌, inl, inr, refl, sym, subst, lit<, lit≤, arith, Some}
use Rattle.seg_spec.specs.Bytes.{half, word, slice, put, number, number_of, set_number}
use Rattle.seg_spec.specs.Pointer.{target}
use Rattle.seg_spec.specs.Types.{Form, IsTable, form_at, size}
use Rattle.seg_spec.specs.Heap.{live, live_of}
use Rattle.seg_spec.specs.Block.{Kind, tag_of}
use Rattle.seg_spec.specs.Reads.{count_at}
use Rattle.seg_spec.specs.Index.{Index, OpensIndex}
use Rattle.seg_spec.specs.Sound.{times, positions}
use Rattle.seg_spec.proofs.Tables.OneTableLaws.{HasTable-one}
use Rattle.seg_spec.specs.Faulty.{HasFront}
use Rattle.seg_spec.specs.Fixtures.{counter, two_owners}
use Rattle.seg_raw.specs.declared.fault.Fault.TheVariants as fault
use Rattle.seg_check.specs.Turns.{LiesAt, in_block, by_name, places_in}
use Rattle.seg_check.specs.Positions.{PointsTo, IsBlockFor, HasNodes, IsEntryAt, MustPointTo, to_entries, to_index_node, to_unique, in_value}
use Rattle.seg_check.specs.Positions.{in_node, entry_room, LacksBlockAt, lacks_block, lacks_object, no_name, as_entry, in_cell, IsFaultAt}
use Rattle.seg_check.proofs.Blocks.LackingBlockLaws.{null_points}
use Rattle.test_definitions.proofs.WorkedImages.ImageEvaluationLaws.{live_evaluated, one_type-valid, all_old, numbers-valid, numbers-old}
use Rattle.test_definitions.proofs.WorkedImages.SoundImages.{counter_tiles}
use Rattle.test_run.specs.WrongImages.{uncounted, pointless, overfull}

-- ---- the entry counts no values

uncounted_front : HasFront uncounted (Form.i64 ∷ [])
unfolding uncounted counter slice put set_number number number_of
uncounted_front = record {
  header = record {
    not_small = lit≤ tt;
    not_large = lit≤ tt;
    whole_units = refl;
    magic = refl;
    version = inl (refl, refl);
    units_are = refl;
    allocator_is = lit≤ tt;
    index_is = lit≤ tt;
    zeros = refl;
  };
  types = refl;
  is_table = numbers-valid;
  of_version = numbers-old;
}

no_values : half uncounted 756 ≡ 0
unfolding uncounted counter slice put set_number number number_of
no_values = refl

flat_entry : Index
flat_entry = record { blocks = 736 ∷ []; entries = 752 ∷ [] }

flat_opens : OpensIndex uncounted (word uncounted 20) flat_entry
unfolding uncounted flat_entry counter slice put set_number number number_of target
flat_opens = record { named_room = record { after_header = lit≤ tt; live = refl; has_tag = refl; room = lit≤ tt }; none_if_empty = λ e. cc; index_is = refl }

pub uncounted_index : IsFaultAt uncounted (fault.BadIndex 752)
unfolding flat_entry
uncounted_index = (Form.i64 ∷ [], uncounted_front, as_entry flat_entry [] [] flat_opens (record { before = []; entries_are = refl; last = no_name }) (λ name e above. absurd (omega (arith, e.some, e.counted, no_values))))

-- the entry's pointer is right: with a table of numbers, no other pointer is at its position
only_numbers : (T : ℕ) (form : Form) → form_at (Form.i64 ∷ []) T ≡ Some form → Form.i64 ≡ form
only_numbers zero form f = cc
only_numbers (suc T) form f = cc

no_block : (tag room : ℕ) → MustPointTo uncounted (Form.i64 ∷ []) 752 tag room → ⊥
unfolding uncounted counter slice put set_number number number_of
no_block tag room (to_entries e k) = omega (arith, e)
no_block tag room (to_index_node k link) = omega (arith, k)
no_block tag room (to_unique T small e) = omega (arith, small, e)
no_block tag room (in_value T form lies f is) = subst (λ g. IsBlockFor (Form.i64 ∷ []) T g (count_at uncounted 752) tag room) (sym (only_numbers T form f)) is
no_block tag room (in_node cell T form lies f has is link) = subst HasNodes (sym (only_numbers T form f)) has

uncounted_live : live uncounted ≡ live_of counter_tiles
unfolding uncounted counter slice put set_number number number_of
uncounted_live = live_evaluated uncounted counter_tiles (refl, lit≤ tt, (refl, lit≤ tt, refl))
    (record { units_is = refl; live_is = refl; before_is = refl; tag_is = λ e. cc }, (record { units_is = refl; live_is = refl; before_is = refl; tag_is = λ e. cc }, tt))

right_object : PointsTo uncounted 752 (tag_of Kind.named 0) (entry_room uncounted (Form.i64 ∷ []) 752 0)
unfolding uncounted counter slice put set_number number number_of target size
right_object = record {
  start = 720;
  names = refl;
  is_block = record { after_header = lit≤ tt; live = refl; has_tag = refl; room = lit≤ tt };
  among = subst (λ bs. 1 ≤ times 704 (positions bs)) (sym uncounted_live) (lit≤ tt);
}

right_pointer : LacksBlockAt uncounted (Form.i64 ∷ []) 752 → ⊥
right_pointer (lacks_block tag room must none) = no_block tag room must
right_pointer (lacks_object listed none) = none 0 (lit< tt) right_object

pub uncounted_pointer : IsFaultAt uncounted (fault.BadPointer 752) → ⊥
uncounted_pointer (table, front, lacks) = right_pointer (subst (λ t. LacksBlockAt uncounted t 752) (HasTable-one uncounted 64 table (Form.i64 ∷ []) front.is_table numbers-valid front.types uncounted_front.types) lacks)

-- ---- the entry's pointer is null

pointless_front : HasFront pointless (Form.i64 ∷ [])
unfolding pointless counter slice put set_number number number_of
pointless_front = record {
  header = record {
    not_small = lit≤ tt;
    not_large = lit≤ tt;
    whole_units = refl;
    magic = refl;
    version = inl (refl, refl);
    units_are = refl;
    allocator_is = lit≤ tt;
    index_is = lit≤ tt;
    zeros = refl;
  };
  types = refl;
  is_table = numbers-valid;
  of_version = numbers-old;
}

listed : IsEntryAt pointless 752
unfolding pointless counter slice put set_number number number_of target
listed = (
  record { blocks = 736 ∷ []; entries = 752 ∷ [] },
  record { named_room = record { after_header = lit≤ tt; live = refl; has_tag = refl; room = lit≤ tt }; none_if_empty = λ e. cc; index_is = refl },
  lit≤ tt,
)

pub pointless_pointer : IsFaultAt pointless (fault.BadPointer 752)
unfolding pointless counter slice put set_number number number_of target
pointless_pointer = (Form.i64 ∷ [], pointless_front, lacks_object listed (λ T less p. null_points pointless 752 _ _ refl p))

-- ---- two entries for one object

two_owners_front : HasFront two_owners (Form.i64 ∷ [])
unfolding two_owners counter slice put set_number number number_of
two_owners_front = record {
  header = record {
    not_small = lit≤ tt;
    not_large = lit≤ tt;
    whole_units = refl;
    magic = refl;
    version = inl (refl, refl);
    units_are = refl;
    allocator_is = lit≤ tt;
    index_is = lit≤ tt;
    zeros = refl;
  };
  types = refl;
  is_table = numbers-valid;
  of_version = numbers-old;
}

two_listed : IsEntryAt two_owners 752
unfolding two_owners counter slice put set_number number number_of target
two_listed = (
  record { blocks = 736 ∷ []; entries = 752 ∷ 760 ∷ [] },
  record { named_room = record { after_header = lit≤ tt; live = refl; has_tag = refl; room = lit≤ tt }; none_if_empty = λ e. cc; index_is = refl },
  lit≤ tt,
)

two_owners_live : live two_owners ≡ live_of counter_tiles
unfolding two_owners counter slice put set_number number number_of
two_owners_live = live_evaluated two_owners counter_tiles (refl, lit≤ tt, (refl, lit≤ tt, refl))
    (record { units_is = refl; live_is = refl; before_is = refl; tag_is = λ e. cc }, (record { units_is = refl; live_is = refl; before_is = refl; tag_is = λ e. cc }, tt))

pub two_owners_owner : IsFaultAt two_owners (fault.DoubleOwner 704)
unfolding two_owners counter slice put set_number number number_of target size
two_owners_owner = (
  Form.i64 ∷ [],
  two_owners_front,
  record {
    pointer = 752;
    tag = 1;
    room = 9;
    may = inr (two_listed, 0, refl, refl);
    points = record {
      start = 720;
      names = refl;
      is_block = record { after_header = lit≤ tt; live = refl; has_tag = refl; room = lit≤ tt };
      among = subst (λ bs. 1 ≤ times 704 (positions bs)) (sym two_owners_live) (lit≤ tt);
    };
    at_is = refl;
  },
)

-- ---- an own that counts two objects

owns-valid : IsTable (Form.own 0 ∷ [])
unfolding size
owns-valid = one_type-valid (Form.own 0) (lit< tt) sizes
  where
    sizes : (T : ℕ) → size (Form.own 0 ∷ []) T ≤ 4096
    sizes zero = lit≤ tt
    sizes (suc T) = lit≤ tt

overfull_front : HasFront overfull (Form.own 0 ∷ [])
unfolding overfull counter slice put set_number number number_of
overfull_front = record {
  header = record {
    not_small = lit≤ tt;
    not_large = lit≤ tt;
    whole_units = refl;
    magic = refl;
    version = inl (refl, refl);
    units_are = refl;
    allocator_is = lit≤ tt;
    index_is = lit≤ tt;
    zeros = refl;
  };
  types = refl;
  is_table = owns-valid;
  of_version = all_old (Form.own 0 ∷ []) (lit≤ tt, tt);
}

overfull_live : live overfull ≡ live_of counter_tiles
unfolding overfull counter slice put set_number number number_of
overfull_live = live_evaluated overfull counter_tiles (refl, lit≤ tt, (refl, lit≤ tt, refl))
    (record { units_is = refl; live_is = refl; before_is = refl; tag_is = λ e. cc }, (record { units_is = refl; live_is = refl; before_is = refl; tag_is = λ e. cc }, tt))

the_value : LiesAt overfull (Form.own 0 ∷ []) (record { at = 720; type = 0 })
unfolding overfull counter slice put set_number number number_of target places_in size
the_value = in_block (record { start = 720; count = 1 }) 0 (by_name 0 refl (subst (λ bs. 1 ≤ times 704 (positions bs)) (sym overfull_live) (lit≤ tt))) (lit≤ tt) refl

pub overfull_value : IsFaultAt overfull (fault.BadValue 720)
unfolding overfull counter slice put set_number number number_of
overfull_value = (Form.own 0 ∷ [], overfull_front, in_cell 0 (Form.own 0) the_value refl (inl (lit≤ tt)))
