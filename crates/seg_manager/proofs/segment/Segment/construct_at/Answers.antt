use Rattle.std.proofs.Common.{◌≡◌, ℕ, ◌<◌, ◌≤◌, List, length, refl, sym, ap, ◌∙◌, subst, arith}
use Rattle.std.proofs.lemmas.Result.{MatchResult-from_err}
use Rattle.seg_spec.specs.Bytes.{word}
use Rattle.seg_spec.specs.Header.{index_kind_word}
use Rattle.seg_spec.specs.Types.{Table, IsTable}
use Rattle.seg_spec.specs.Value.{default_of}
use Rattle.seg_spec.specs.Heap.{IsHeap, IsLive, Gives}
use Rattle.seg_spec.specs.Block.{block_of}
use Rattle.seg_spec.specs.Calls.{Refuses}
use Rattle.seg_spec.specs.Spending.{entry_asks}
use Rattle.seg_spec.specs.Index.{Root}
use Rattle.seg_value.specs.Stored.{Stored}
use Rattle.seg_index.specs.Lists.{FindsNamesOf, IsVacant, IsRootOf, MayEnter, EntersName}
use Rattle.seg_manager.specs.NewNamed.{GivesNamed}
use Rattle.seg_manager.specs.Segments.{new_root}
use Rattle.seg_manager.proofs.NewNamed.{count-copies}
use Rattle.seg_manager.proofs.NamedEnters.{made, finds_mid, vacant_mid, may_enter, is_live_mid, returned, unmade}
use Rattle.seg_manager.proofs.segment.Segment.construct_at.Goals as goal

pub returns-in-Ok-clause-makes : goal.returns-in-Ok-clause-makes
returns-in-Ok-clause-makes g c = λ picture s known is_name len some vacant.
    let allocator = g.F.Fit.allocator in
    let old = c.args.self.now.window.bytes in
    let mid = c.new_named.new.self.window.bytes in
    let new = c.insert.new.heap.window.bytes in
    let table = picture.table in
    let name = c.args.name.bytes.now in
    let T = c.args.t in
    let n = c.args.count in
    let object = c.in_ok-object.object in
    let heap : IsHeap allocator old = subst (λ a. IsHeap a old) s.allocator_is s.held.laid_out.heap in
    let valid : IsTable c.args.self.now.types = subst IsTable (sym s.table_is) s.held.laid_out.is_table in
    let long = is_name.not_empty in
    let given = subst (λ t. GivesNamed allocator old mid t (new_root t name T n object)) s.table_is (c.in_ok-object.ensures.gives heap valid known len (omega arith)) in
    let known' : T < length table = subst (λ t. T < length t) s.table_is known in
    let vacant' : IsVacant old table picture.names name c.args.vacant = subst (λ t. IsVacant old t picture.names name c.args.vacant) s.table_is vacant in
    let few : n ≤ 65535 = omega arith in
    let types_are : c.new_named.new.self.types ≡ table = c.new_named.ensures.types ∙ s.table_is in
    let Enters : List ℕ → Table → Type 0 = λ bs t. (names : List Root) (blocks : List ℕ) → FindsNamesOf allocator bs t names blocks → (root : Root) → MayEnter bs t blocks root → IsRootOf object n c.args.name.len root
    → IsVacant bs t names root.name c.args.vacant → EntersName allocator bs new t names blocks root in
    let enters = subst (λ t. Enters mid t) types_are (subst (λ (h : Stored). Enters h.window.bytes h.types) c.heap_mut.ensures.value c.in-Ok.ensures.enters) in
    let e = enters picture.names s.held.index_blocks (finds_mid allocator old mid picture s.held s.allocator_is name T n object given known' is_name some few) (new_root table name T n object)
    (may_enter allocator old mid picture s.held s.allocator_is name T n object given known' is_name some few) (refl, count-copies n (default_of table T), sym len)
    (vacant_mid allocator old mid picture s.held s.allocator_is name T n object given known' is_name some few c.args.vacant vacant') in
    made allocator old mid picture s.held s.allocator_is name T n object given known' is_name some few new e s.counted c.args.self.now c.insert.new.heap refl s.table_is refl
    (c.insert.ensures.types ∙ ap (λ (h : Stored). h.types) c.heap_mut.ensures.value ∙ c.new_named.ensures.types)

pub returns-in_err-object-clause-makes : goal.returns-in_err-object-clause-makes
returns-in_err-object-clause-makes g c = λ picture s known is_name len some vacant.
    let allocator = g.F.Fit.allocator in
    let table = c.args.self.now.types in
    let heap : IsHeap allocator c.args.self.now.window.bytes = subst (λ a. IsHeap a c.args.self.now.window.bytes) s.allocator_is s.held.laid_out.heap in
    let valid : IsTable table = subst IsTable (sym s.table_is) s.held.laid_out.is_table in
    let long = is_name.not_empty in
    let refused = c.in_err-object.ensures.gives heap valid known len (omega arith) in
    let sized = rw (count-copies c.args.count (default_of table c.args.t)) at refused in
    MatchResult-from_err c.from_residual.result _ _ c.from_residual.ensures.0
    (λ code. unmade allocator c.args.self.now c.new_named.new.self picture s c.args.name.bytes.now c.args.t c.args.count sized c.new_named.ensures.types)

pub returns-in-Err-clause-makes : goal.returns-in-Err-clause-makes
returns-in-Err-clause-makes g c = λ picture s known is_name len some vacant.
    let allocator = g.F.Fit.allocator in
    let old = c.args.self.now.window.bytes in
    let mid = c.new_named.new.self.window.bytes in
    let new = c.insert.new.heap.window.bytes in
    let table = picture.table in
    let name = c.args.name.bytes.now in
    let T = c.args.t in
    let n = c.args.count in
    let object = c.in_ok-object.object in
    let heap : IsHeap allocator old = subst (λ a. IsHeap a old) s.allocator_is s.held.laid_out.heap in
    let valid : IsTable c.args.self.now.types = subst IsTable (sym s.table_is) s.held.laid_out.is_table in
    let long = is_name.not_empty in
    let given = subst (λ t. GivesNamed allocator old mid t (new_root t name T n object)) s.table_is (c.in_ok-object.ensures.gives heap valid known len (omega arith)) in
    let known' : T < length table = subst (λ t. T < length t) s.table_is known in
    let vacant' : IsVacant old table picture.names name c.args.vacant = subst (λ t. IsVacant old t picture.names name c.args.vacant) s.table_is vacant in
    let few : n ≤ 65535 = omega arith in
    let types_are : c.new_named.new.self.types ≡ table = c.new_named.ensures.types ∙ s.table_is in
    let Refused : List ℕ → Table → Type 0 = λ bs t. (names : List Root) (blocks : List ℕ) → FindsNamesOf allocator bs t names blocks → (root : Root) → MayEnter bs t blocks root → IsRootOf object n c.args.name.len root
    → IsVacant bs t names root.name c.args.vacant → Refuses allocator bs new (entry_asks (word bs index_kind_word) bs) in
    let refuses = subst (λ t. Refused mid t) types_are (subst (λ (h : Stored). Refused h.window.bytes h.types) c.heap_mut.ensures.value c.in-Err.ensures.enters) in
    let r = refuses picture.names s.held.index_blocks (finds_mid allocator old mid picture s.held s.allocator_is name T n object given known' is_name some few) (new_root table name T n object)
    (may_enter allocator old mid picture s.held s.allocator_is name T n object given known' is_name some few) (refl, count-copies n (default_of table T), sym len)
    (vacant_mid allocator old mid picture s.held s.allocator_is name T n object given known' is_name some few c.args.vacant vacant') in
    let Freed : List ℕ → Type 0 = λ bs. IsHeap allocator bs → IsLive bs (block_of object) → Gives allocator bs c.free_block.new.self.window.bytes (block_of object) in
    let freed = subst Freed (ap (λ (h : Stored). h.window.bytes) c.heap_mut-in-Err.ensures.value ∙ r.same) c.free_block.ensures.gives in
    let gives = freed given.heap (is_live_mid allocator old mid picture s.held s.allocator_is name T n object given known' is_name some few) in
    let refused : Refuses allocator mid mid (entry_asks (word mid index_kind_word) mid) = record { no_room = r.no_room; same = refl } in
    returned allocator old mid picture s.held s.allocator_is name T n object given known' is_name some few refused c.free_block.new.self.window.bytes gives
    s.counted c.args.self.now c.free_block.new.self refl s.table_is refl
    (c.free_block.ensures.types ∙ ap (λ (h : Stored). h.types) c.heap_mut-in-Err.ensures.value ∙ c.insert.ensures.types ∙ ap (λ (h : Stored). h.types) c.heap_mut.ensures.value ∙ c.new_named.ensures.types)
