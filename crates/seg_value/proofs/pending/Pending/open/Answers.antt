use Rattle.std.proofs.Common.{rules, ◌≡◌, [], ◌++◌, Some, None, refl, sym, ap, ◌∙◌, subst, arith}
use Rattle.seg_spec.specs.Heap.{tag_at}
use Rattle.seg_spec.specs.Block.{block_of, tag_of}
use Rattle.seg_spec.specs.Window.{Placement}
use Rattle.seg_spec.proofs.Heap.LiveBlockLaws.{times-append}
use Rattle.seg_spec.proofs.Deallocation.DestructionLaws.{same_adds, awaits_names}
use Rattle.seg_block.specs.Tags.{kind_of}
use Rattle.seg_block.specs.declared.tag.Kind.TheVariants as kind
use Rattle.seg_cells.specs.Contents.{OfBlock}
use Rattle.seg_value.proofs.ObjectOpenLaws.{object_opened}
use Rattle.seg_value.proofs.WaitingOpenLaws.{parted, some_content, unread, links_fit, inside_links, links_waiting, all_added}
use Rattle.seg_spec.proofs.WindowLaws.{bytes_of}
use Rattle.seg_value.proofs.pending.Pending.open.Goals as goal

pub returns-in_default-clause-opened : goal.returns-in_default-clause-opened
returns-in_default-clause-opened g c = λ xs ns goes allocator ys names kept theirs final valid w fits.
    let heap = c.args.heap.now in
    let word_is : c.tag_word.result ≡ tag_at heap.window.bytes (block_of c.args.payload) =
    c.tag_word.ensures ∙ ap (tag_at c.window.result.now.bytes) c.block_of.ensures ∙ ap (λ (r : Placement). tag_at r.bytes (block_of c.args.payload)) c.window.ensures in
    let u = unread heap.window.bytes heap.types valid c.args.payload xs ns (λ t small e. c.in_default.not-Some t (c.read.ensures.every t small (word_is ∙ e))) goes in
    record {
      rest = [];
      xs_are = u.0;
      adds = same_adds allocator heap.window.bytes heap.types c.args.self.now.first [] ys [] names kept theirs final refl refl
          (awaits_names allocator heap.window.bytes heap.types c.args.self.now.first ys (ns ++ names) names kept theirs final (λ h. omega (arith, u.1 h, times-append h ns names)) w)
          (λ h. omega (arith, fits h, times-append h xs ys));
    }

pub returns-in_default-of_block-clause-opened : goal.returns-in_default-of_block-clause-opened
returns-in_default-of_block-clause-opened g c = λ xs ns goes allocator ys names kept theirs final valid w fits.
    let heap = c.args.heap.now in
    let word_is : c.tag_word.result ≡ tag_at heap.window.bytes (block_of c.args.payload) =
    c.tag_word.ensures ∙ ap (tag_at c.window.result.now.bytes) c.block_of.ensures ∙ ap (λ (r : Placement). tag_at r.bytes (block_of c.args.payload)) c.window.ensures in
    let tag = c.in-Some.tag in
    let of : OfBlock heap.types tag.kind tag.type_id None = subst (λ t. OfBlock t tag.kind tag.type_id None) c.types.ensures c.in_default-of_block.ensures in
    absurd (some_content heap.window.bytes heap.types valid c.args.payload tag.kind tag.type_id xs ns (sym word_is ∙ c.in-Some.ensures.spelled) of goes)

pub returns-clause-opened : goal.returns-clause-opened
returns-clause-opened g c = λ xs ns goes allocator ys names kept theirs final valid w fits.
    let heap = c.args.heap.now in
    let word_is : c.tag_word.result ≡ tag_at heap.window.bytes (block_of c.args.payload) =
    c.tag_word.ensures ∙ ap (tag_at c.window.result.now.bytes) c.block_of.ensures ∙ ap (λ (r : Placement). tag_at r.bytes (block_of c.args.payload)) c.window.ensures in
    let tag = c.in-Some.tag in
    let content = c.in-Some-of_block.content in
    let of : OfBlock heap.types tag.kind tag.type_id (Some content) = subst (λ t. OfBlock t tag.kind tag.type_id (Some content)) c.types.ensures c.in-Some-of_block.ensures in
    let parts = parted heap.window.bytes heap.types valid c.args.payload content tag.kind tag.type_id xs ns (sym word_is ∙ c.in-Some.ensures.spelled) of goes in
    let old = heap.window.bytes in
    let f = c.args.self.now.first in
    let p = c.args.payload in
    let waiting = links_waiting allocator old old old heap.types heap.types refl valid p 0 content f f f parts.us parts.bs parts.vs parts.ws xs ns ys names kept theirs final parts.xs_are parts.ns_are parts.shows w fits in
    let first = c.add_links.ensures.added (block_of p) parts.bs parts.ws
    (inside_links allocator old old old heap.types heap.types refl valid p 0 content f f f parts.us parts.bs parts.vs parts.ws xs ns ys names kept theirs final parts.xs_are parts.ns_are parts.shows w fits)
    parts.shows.links allocator ys (parts.vs ++ names) kept theirs final valid waiting
    (links_fit allocator old old old heap.types heap.types refl valid p 0 content f f f parts.us parts.bs parts.vs parts.ws xs ns ys names kept theirs final parts.xs_are parts.ns_are parts.shows w fits) in
    record {
      rest = parts.us ++ parts.bs;
      xs_are = parts.xs_are;
      adds = all_added allocator old c.add_links.new.heap.window.bytes c.add_entries.new.heap.window.bytes heap.types c.add_links.new.heap.types c.add_links.ensures.types valid p
          c.entry_count-entries.result content f c.add_links.new.self.first c.add_entries.new.self.first parts.us parts.bs parts.vs parts.ws xs ns ys names kept theirs final parts.xs_are parts.ns_are parts.shows w fits first
          c.entry_count-entries.ensures.buffer c.entry_count-entries.ensures.one
          (λ h. let e = c.add_entries.ensures.bytes h in (bytes_of c.add_entries.new.heap.window c.add_links.new.heap.window e.0, e.1)) c.add_entries.ensures.added;
    }

pub returns-then-eq-clause-opened : goal.returns-then-eq-clause-opened
returns-then-eq-clause-opened g c xs ns goes =
    let heap = c.args.heap.now in
    let tag = c.in-Some.tag in
    let word_is : c.tag_word.result ≡ tag_at heap.window.bytes (block_of c.args.payload) =
    c.tag_word.ensures ∙ ap (tag_at c.window.result.now.bytes) c.block_of.ensures ∙ ap (λ (r : Placement). tag_at r.bytes (block_of c.args.payload)) c.window.ensures in
    let is_object : tag.kind ≡ kind.Object = search rules in
    let object_word = sym word_is ∙ c.in-Some.ensures.spelled ∙ ap (λ k. tag_of (kind_of k) tag.type_id) is_object in
    object_opened heap.window.bytes heap.types c.args.payload tag.type_id xs ns c.add_value.new.heap.window.bytes c.args.self.now.first c.add_value.new.self.first object_word goes c.add_value.ensures.added
