use Rattle.std.proofs.Common.{rules, ◌≡◌, [], ◌∷◌, ◌++◌, ◌+◌, length, map, take, ap, subst, sym, ◌∙◌}
use Rattle.std.proofs.lemmas.List.{length-append}
use Rattle.cli_host.specs.Accesses.{AddsAccesses, accesses_of}
use Rattle.cli_host.proofs.AccessesLaws.{read_more}
use Rattle.cli_host.proofs.named.read_files.Goals as goal

pub loop-name-preserved : goal.loop-name-preserved
loop-name-preserved g c =
    let i = c.loop-name.name-index in
    let items : c.push.new.self.items ≡ c.loop-name.all.items ++ c.in_ok-bytes.bytes ∷ [] = search rules in
    let h = c.loop-name.invariant in (
      ap length items ∙ length-append c.loop-name.all.items (c.in_ok-bytes.bytes ∷ []) ∙ ap (λ n. n + 1) h.0,
      subst (λ them. AddsAccesses (g.F.Files.was_read c.args.files.now) (g.F.Files.was_read c.read_file.new.files) (accesses_of (map (λ name. name.now) (take (i + 1) c.args.names.now)) (map (λ bytes. bytes.items) them))) (sym items)
          (read_more (λ name. name.now) (λ bytes. bytes.items) c.args.names.now i (record { ref_ptr = (0, 0); now = [] })
          c.loop-name.all.items c.in_ok-bytes.bytes (g.F.Files.was_read c.args.files.now)
          (g.F.Files.was_read c.loop-name.files) (g.F.Files.was_read c.read_file.new.files)
          c.loop-name-test.true h.0 h.1 c.in_ok-bytes.ensures.read),
      c.in_ok-bytes.ensures.nothing_written ∙ h.2,
    )
