-- The result of a lookup: the entry of a name, or the spot to insert it at.
use Rattle.std.proofs.Common.{◌≡◌, ℕ, zero, suc, ◌≤◌, Bool, true, false, List, [], ◌∷◌, Option, Some, None, MatchOption, refl, sym, ap, ◌∙◌, subst, arith}
use Rattle.std.specs.Prelude.{if◌then◌else◌}
use Rattle.seg_spec.specs.Bytes.{word}
use Rattle.seg_spec.specs.Header.{index_kind_word}
use Rattle.seg_spec.specs.Types.{Table}
use Rattle.seg_spec.specs.Index.{Root, same_name, root_named}
use Rattle.seg_rbtree.specs.declared.path.Path.{Path}
use Rattle.seg_index.specs.Lists.{entry_of, LeadsToName, IsSpot, LooksUp, IsOccupied}
use Rattle.seg_cells.specs.declared.name_entry.NameEntry.{NameEntry}
use Rattle.seg_cells.specs.declared.kind.IndexKind.{IndexKind}
use Rattle.seg_cells.specs.declared.kind.IndexKind.TheVariants.{Flat, Tree}
use Rattle.seg_index.specs.declared.lookup.Spot.{Spot}
use Rattle.seg_index.specs.declared.lookup.Spot.TheVariants as spot
use Rattle.seg_cells.proofs.Precedes.{same_by_test}

-- the root that is found for a name has that name
pub root_of_name : (names : List Root) (name : List ℕ) (root : Root) → root_named names name ≡ Some root → root.name ≡ name
root_of_name [] name root e = cc
root_of_name (r ∷ names) name root e = go (same_name name r.name) refl (root_of_name names name root)
  where
    go : (b : Bool) → same_name name r.name ≡ b → (root_named names name ≡ Some root → root.name ≡ name) → root.name ≡ name
    go true is more =
        let first : Some r ≡ Some root = ap (λ b. if b then Some r else root_named names name) (sym is) ∙ e in
        let same : r ≡ root = cc in
        ap (λ (s : Root). s.name) (sym same) ∙ sym (same_by_test name r.name is)
    go false is more = more (ap (λ b. if b then Some r else root_named names name) (sym is) ∙ e)

-- a kind that isn't a tree is flat
pub flat_kind : (kind : IndexKind) (n : ℕ) → n ≤ 1 → (n ≡ 1 → kind ≡ Tree) → kind ≡ Flat → n ≡ 0
flat_kind kind n few tree is = go n refl few
  where
    go : (m : ℕ) → n ≡ m → m ≤ 1 → n ≡ 0
    go zero e h = e
    go (suc zero) e h = absurd (let both : Flat ≡ Tree = sym is ∙ tree e in cc)
    go (suc (suc m)) e h = absurd (omega arith)

module _ (bytes : List ℕ) (table : Table) (names : List Root) (name : List ℕ) where
  -- a spot in a tree is a path
  pub tree_spot : (these : List Root) (s : Spot) (path : Path) → IsSpot bytes table names name these s → s ≡ spot.Tree path → (word bytes index_kind_word ≡ 1) × LeadsToName bytes table name path
  tree_spot these s path h e = subst (IsSpot bytes table names name these) e h

  -- the entry that was found is the entry of the name's root, at its spot
  pub occupied : (it : Spot × Option NameEntry) (s : Spot) (found : Option NameEntry) (entry : NameEntry) (IsAt : List Root → Type 0) → LooksUp names name found IsAt
      → ((these : List Root) → IsAt these → IsSpot bytes table names name these s) → it ≡ (s, found) → it.1 ≡ Some entry
      → (root : Root) × IsOccupied bytes table names name root (record { spot = it.0; entry = entry })
  occupied it s found entry IsAt h is_spot e some = go (root_named names name) refl h
    where
      found_is : found ≡ Some entry
      found_is = sym (ap (λ (p : Spot × Option NameEntry). p.1) e) ∙ some

      go : (o : Option Root) → root_named names name ≡ o → MatchOption o ((found ≡ None) × IsAt []) (λ root. (found ≡ Some (entry_of root)) × IsAt (root ∷ []))
          → (root : Root) × IsOccupied bytes table names name root (record { spot = it.0; entry = entry })
      go None named m = absurd (let none = m.0 in let some_is = found_is in cc)
      go (Some root) named m = (
        root,
        record {
          found = named;
          entry_is = (let first = m.0 in let some_is = found_is in cc);
          spot = subst (IsSpot bytes table names name (root ∷ [])) (sym (ap (λ (p : Spot × Option NameEntry). p.0) e)) (is_spot (root ∷ []) m.1);
        },
      )
