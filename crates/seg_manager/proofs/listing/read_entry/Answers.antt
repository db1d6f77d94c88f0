use Rattle.std.proofs.Common.{◌≡◌, ℕ, List, Option, Some, None, ap, ◌∙◌, sym}
use Rattle.seg_spec.specs.Types.{Table}
use Rattle.seg_cells.specs.Names.{type_of, name_of}
use Rattle.seg_manager.proofs.NamedReads.{entry_type, entry_name, entry_count}
use Rattle.seg_manager.proofs.listing.read_entry.Goals as goal

same_some : (a b : ℕ) → Some a ≡ Some b → a ≡ b
same_some a b e = cc

not_none : (o : Option ℕ) (a : ℕ) → o ≡ None → o ≡ Some a → ⊥
not_none o a e some = let both : None ≡ Some a = sym e ∙ some in cc

pub returns-in_err-type_in : goal.returns-in_err-type_in
returns-in_err-type_in g c = λ root named small is.
    let s = g.S.SegmentRead.stored c.args.source.now in
    let type_is = c.type_in.ensures ∙ ap (λ (bytes : List ℕ). type_of bytes c.args.entry.object) c.view-view.ensures ∙ entry_type s.window.bytes s.types root c.args.entry named small is in
    absurd (not_none c.type_in.result root.type c.in_err-type_in.was type_is)

pub returns : goal.returns
returns g c = λ root named small is.
    let s = g.S.SegmentRead.stored c.args.source.now in
    let entry = c.args.entry in
    let type_is = c.type_in.ensures ∙ ap (λ (bytes : List ℕ). type_of bytes entry.object) c.view-view.ensures ∙ entry_type s.window.bytes s.types root entry named small is in (
      c.name_in.ensures ∙ ap (λ (t : Table). name_of t c.view-view.result.bytes.now entry.object entry.count entry.name_len) c.types.ensures
          ∙ ap (λ (bytes : List ℕ). name_of s.types bytes entry.object entry.count entry.name_len) c.view-view.ensures ∙ entry_name s.window.bytes s.types root entry named small is,
      same_some c.in_ok-type_in.field-0 root.type (sym c.in_ok-type_in.was ∙ type_is),
      entry_count s.window.bytes s.types root entry named small is,
    )
