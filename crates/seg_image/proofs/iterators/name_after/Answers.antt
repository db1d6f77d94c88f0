use Rattle.std.proofs.Common.{◌≡◌, ℕ, List, Option, None, IsSomeAnd, MatchOption, slice_get, sym, subst, Bor}
use Rattle.std.specs.Option.{option_map}
use Rattle.seg_spec.specs.Index.{Root}
use Rattle.seg_manager.specs.NamedObjects.{DescribesRoot}
use Rattle.seg_image.specs.Iterators.{item_before}
use Rattle.seg_image.proofs.IteratorLaws.{root_next, none_before}
use Rattle.seg_image.proofs.iterators.name_after.Goals as goal

pub returns-in-Some : goal.returns-in-Some
returns-in-Some g c = λ picture n held within e.
    let last = subst (λ (o : Option (Bor (List ℕ))). option_map (λ (b : Bor (List ℕ)). b.now) o ≡ option_map (λ (r : Root). r.name) (item_before picture.names n)) c.in-Some.is e in
    let next = root_next picture.names n held.held.laid_out.names.ascending c.in-Some.name.now last in
    subst (λ (o : Option Root). MatchOption c.next_name.result (o ≡ None) (λ it. IsSomeAnd o (DescribesRoot it.name.now it.type_id it.count))) next (c.next_name.ensures picture held)

pub returns-in-None : goal.returns-in-None
returns-in-None g c = λ picture n held within e.
    let none = subst (λ (o : Option (Bor (List ℕ))). option_map (λ (b : Bor (List ℕ)). b.now) o ≡ option_map (λ (r : Root). r.name) (item_before picture.names n)) c.in-None.is e in
    let first = none_before (λ (r : Root). r.name) picture.names n within none in
    subst (λ k. MatchOption c.first_name.result (slice_get picture.names k ≡ None) (λ it. IsSomeAnd (slice_get picture.names k) (DescribesRoot it.name.now it.type_id it.count))) (sym first) (c.first_name.ensures picture held)
