-- The named objects that calls find when they read the index.
use Rattle.std.proofs.Common.{◌≡◌, ℕ, ◌<◌, Bool, true, false, List, [], ◌∷◌, Option, Some, None, MatchOption, Ok, Err, option_map, refl, sym, ap, ◌∙◌, subst}
use Rattle.std.specs.Prelude.{◌==◌, if◌then◌else◌, not, nat_eq, slice_get, IsSomeAnd}
use Rattle.std.specs.Option.{option_eq}
use Rattle.std.specs.List.{AllByRecursion}
use Rattle.seg_spec.specs.Value.{count}
use Rattle.seg_spec.specs.Index.{Root, same_name, root_named}
use Rattle.seg_spec.specs.Sound.{Picture}
use Rattle.seg_spec.specs.Types.{Table}
use Rattle.seg_spec.proofs.Values.PlaceFrameLaws.{each_weaker}
use Rattle.seg_spec.proofs.Values.PathFrameLaws.{each_at}
use Rattle.seg_raw.specs.declared.code.Code.TheVariants as code
use Rattle.seg_value.specs.Stored.{Stored}
use Rattle.seg_cells.specs.Names.{type_of, name_of}
use Rattle.seg_index.specs.Lists.{entry_of, comes_before, root_after, IsNamed, FindsNamesOf}
use Rattle.seg_cells.specs.declared.name_entry.NameEntry.{NameEntry}
use Rattle.seg_index.proofs.EntryLaws.{type_small, type_is, root_name}
use Rattle.seg_index.proofs.HeldNames.{finds_held}
use Rattle.seg_manager.specs.NamedObjects.{found_of, found_as}
use Rattle.seg_manager.specs.Segments.{IsSegment}
use Rattle.seg_manager.specs.declared.names.Found.{Found}

-- ---- roots that a search finds

choose : (P : Root → Type 0) (b : Bool) (r root : Root) (rest : Option Root) → P r → (rest ≡ Some root → P root) → (if b then Some r else rest) ≡ Some root → P root
choose P true r root rest here there e = let same : r ≡ root = cc in subst P same here
choose P false r root rest here there e = there e

each_found : (P : Root → Type 0) (names : List Root) (name : List ℕ) (root : Root) → AllByRecursion P names → root_named names name ≡ Some root → P root
each_found P [] name root all e = cc
each_found P (r ∷ names) name root all e = choose P (same_name name r.name) r root (root_named names name) all.0 (each_found P names name root all.1) e

each_next : (P : Root → Type 0) (names : List Root) (name : List ℕ) (root : Root) → AllByRecursion P names → root_after names name ≡ Some root → P root
each_next P [] name root all e = cc
each_next P (r ∷ names) name root all e = choose P (comes_before name r.name) r root (root_after names name) all.0 (each_next P names name root all.1) e

-- an entry that was read is the entry of a root
pub told : (o : Option Root) (read : Option NameEntry) (entry : NameEntry) → read ≡ option_map entry_of o → read ≡ Some entry → (root : Root) × (o ≡ Some root) × (entry ≡ entry_of root)
told None read entry is some = absurd (let both : None ≡ Some entry = sym is ∙ some in cc)
told (Some root) read entry is some = (root, refl, (let both : Some entry ≡ Some (entry_of root) = sym some ∙ is in cc))

pub told_none : (o : Option Root) (read : Option NameEntry) → read ≡ option_map entry_of o → read ≡ None → o ≡ None
told_none None read is none = refl
told_none (Some root) read is none = absurd (let both : Some (entry_of root) ≡ None = sym is ∙ none in cc)

-- a fact about the result and the root, by whether there is a root
pub said : {X : Type 0} (P : X → Root → Type 0) (result : Option X) (o : Option Root) (root : Root) → o ≡ Some root → IsSomeAnd result (λ it. P it root) → MatchOption result (o ≡ None) (λ it. IsSomeAnd o (P it))
said P None o root e h = absurd h
said P (Some x) o root e h = subst (λ p. IsSomeAnd p (P x)) (sym e) h

pub unsaid : {X : Type 0} (P : X → Root → Type 0) (result : Option X) (o : Option Root) → result ≡ None → o ≡ None → MatchOption result (o ≡ None) (λ it. IsSomeAnd o (P it))
unsaid P None o e none = none
unsaid P (Some x) o e none = absurd (let both : Some x ≡ None = e in cc)

-- ---- the object of an entry

module _ (bytes : List ℕ) (table : Table) (root : Root) (entry : NameEntry) (named : IsNamed bytes table root) (small : root.type < 32) (is : entry ≡ entry_of root) where
  pub entry_type : type_of bytes entry.object ≡ Some root.type
  entry_type = ap (λ (e : NameEntry). type_of bytes e.object) is ∙ type_is bytes table root small named

  pub entry_name : name_of table bytes entry.object entry.count entry.name_len ≡ root.name
  entry_name = ap (λ (e : NameEntry). name_of table bytes e.object e.count e.name_len) is ∙ root_name bytes table root small named

  pub entry_count : entry.count ≡ count root.values
  entry_count = ap (λ (e : NameEntry). e.count) is

  pub found_other : (T : ℕ) (type : Option ℕ) → type ≡ type_of bytes entry.object → true ≡ not (option_eq nat_eq type (Some T)) → Err code.OtherType ≡ found_as T (Some root)
  found_other T type type_equals differs = go (root.type == T) refl
    where
      tests : option_eq nat_eq type (Some T) ≡ (root.type == T)
      tests = ap (λ o. option_eq nat_eq o (Some T)) (type_equals ∙ entry_type)

      go : (b : Bool) → (root.type == T) ≡ b → Err code.OtherType ≡ found_as T (Some root)
      go true e = absurd (let both : true ≡ false = differs ∙ ap not (tests ∙ e) in cc)
      go false e = rw e refl

  pub found_same : (T at : ℕ) (type : Option ℕ) → type ≡ type_of bytes entry.object → false ≡ not (option_eq nat_eq type (Some T)) → entry.object ≡ Some at → Ok (record { at = at; count = entry.count }) ≡ found_as T (Some root)
  found_same T at type type_equals same object = go (root.type == T) refl
    where
      tests : option_eq nat_eq type (Some T) ≡ (root.type == T)
      tests = ap (λ o. option_eq nat_eq o (Some T)) (type_equals ∙ entry_type)

      at_is : at ≡ root.at
      at_is = let both : Some at ≡ Some root.at = sym object ∙ ap (λ (e : NameEntry). e.object) is in cc

      here : Found
      here = record { at = at; count = entry.count }

      made : here ≡ found_of root
      made = λ i. record { at = at_is i; count = entry_count i }

      go : (b : Bool) → (root.type == T) ≡ b → Ok here ≡ found_as T (Some root)
      go true e = rw e (ap Ok made)
      go false e = absurd (let both : false ≡ true = same ∙ ap not (tests ∙ e) in cc)

-- ---- the names of a segment

module _ (allocator : ℕ) (s : Stored) (picture : Picture) (is : IsSegment allocator s picture) where
  pub names_found : FindsNamesOf allocator s.window.bytes s.types picture.names is.held.index_blocks
  names_found = rw is.table_is (rw is.allocator_is at (finds_held s.window.bytes picture is.held))

  -- the object of a root is a named object's block, whose type is less than 32
  abbrev pub IsListed : Root → Type 0
  IsListed root = IsNamed s.window.bytes s.types root × (root.type < 32)

  all_listed : AllByRecursion IsListed picture.names
  all_listed = each_weaker _ _ (λ r h. (h.0, type_small s.window.bytes s.types r names_found.is_table names_found.ownable h.0)) picture.names names_found.named

  pub listed_at : (i : ℕ) (root : Root) → slice_get picture.names i ≡ Some root → IsNamed s.window.bytes s.types root × (root.type < 32)
  listed_at i root e = each_at IsListed picture.names i root all_listed e

  pub listed_named : (name : List ℕ) (root : Root) → root_named picture.names name ≡ Some root → IsNamed s.window.bytes s.types root × (root.type < 32)
  listed_named name root e = each_found IsListed picture.names name root all_listed e

  pub listed_after : (name : List ℕ) (root : Root) → root_after picture.names name ≡ Some root → IsNamed s.window.bytes s.types root × (root.type < 32)
  listed_after name root e = each_next IsListed picture.names name root all_listed e

  -- the same, for the heap that a call reads
  pub finds_in : (heap : Stored) → heap ≡ s → FindsNamesOf allocator heap.window.bytes heap.types picture.names is.held.index_blocks
  finds_in heap e = subst (λ (t : Stored). FindsNamesOf allocator t.window.bytes t.types picture.names is.held.index_blocks) (sym e) names_found
