use Rattle.std.proofs.Common.{◌≡◌, [], ◌∷◌, ◌++◌, Some, length, take, drop, refl, sym, ap, ◌∙◌, arith}
use Rattle.std.proofs.Math.Seq.{take-append_seam}
use Rattle.std.proofs.lemmas.Result.{IfErr-at_err}
use Rattle.lezgauri.specs.Ended.TheVariants as ended
use Rattle.lezgauri.specs.Faults.{IsImageOf}
use Rattle.client_vm.specs.Admitted.{IsWrong}
use Rattle.lezgauri_c.specs.Calls.{whole_job, effect_of_one}
use Rattle.lezgauri_c.specs.KeptImages.{table_kept}
use Rattle.lezgauri_c.specs.Values.{table_in}
use Rattle.lezgauri_c.proofs.OneClient.{done}
use Rattle.lezgauri_c.proofs.RunLaws.{with_kept}
use Rattle.lezgauri_c.proofs.SameRunLaws.{same_run, same_refusal}
use Rattle.lezgauri_c.proofs.Sizes.{saved_size, same_room, told_bytes}
use Rattle.lezgauri_c.proofs.whole.lezgauri_raw_run_whole.Goals as goal

pub returns-then-not-whole-clause-full : goal.returns-then-not-whole-clause-full
returns-then-not-whole-clause-full c is =
    let image = c.args.image.now.bytes in
    let input = c.args.input.now in
    let text = c.args.client.now in
    let output = c.args.output.now.bytes in
    let items = c.as_slice.result.now in
    let table = c.types.result.now in
    let kept : table_in c.args.types.now ≡ Some table = c.in-Some.ensures.types ∙ ap Some (sym (c.types.ensures ∙ ap table_kept c.deref.ensures)) in
    let told = c.in-Ok.ran.told in
    let saved = c.in-Ok.ran.image.items in
    let before = c.new-sink.result in
    let sink = c.run_on_copy-ran.new.sink in
    let from : items ≡ image = c.as_slice.ensures.value ∙ c.take-bytes.ensures.bytes in
    let started : before.written.bytes ≡ output = c.new-sink.ensures.bytes ∙ c.take-2.ensures.bytes in
    record {
      report = told;
      output_then = sink.written.bytes;
      saved = saved;
      within = c.in-Ok.ensures.within;
      needed_is = c.count-count.ensures;
      more = λ sound same_table.
          (let run = c.in-Ok.ensures.outcome (with_kept image sound items c.args.types.now table from kept same_table) in
          let same = same_room (whole_job items (text ∷ []) input) saved (told ∷ []) told.ended before.room sink.room before.written.bytes sink.written.bytes run.left in
          let full = c.into_whole-whole.ensures.full c.if-not-whole.true in
          let room = c.new-sink.ensures.room ∙ c.take-2.ensures.room in
          let count = c.count-count.ensures in
          omega (arith, same, full, room, count));
      cut = λ failed.
          (let long = sink.too_long (c.in-Ok.ensures.ended.0 failed) in
          let counted = sink.counted in
          let count = c.count-count.ensures in
          omega (arith, long, counted, count));
      run = λ sound same_table. same_run text input image items output before.written.bytes sink.written.bytes sink.written.bytes saved saved told told.ended from started refl refl refl
          (λ _. told_bytes (whole_job items (text ∷ []) input) saved (told ∷ []) told.ended before.room sink.room before.written.bytes sink.written.bytes
          (c.in-Ok.ensures.outcome (with_kept image sound items c.args.types.now table from kept same_table))) sound;
    }

pub returns-then-not-replaced-clause-small : goal.returns-then-not-replaced-clause-small
returns-then-not-replaced-clause-small c sound same_table is =
    let image = c.args.image.now.bytes in
    let input = c.args.input.now in
    let text = c.args.client.now in
    let output = c.args.output.now.bytes in
    let items = c.as_slice.result.now in
    let table = c.types.result.now in
    let kept : table_in c.args.types.now ≡ Some table = c.in-Some.ensures.types ∙ ap Some (sym (c.types.ensures ∙ ap table_kept c.deref.ensures)) in
    let told = c.in-Ok.ran.told in
    let saved = c.in-Ok.ran.image.items in
    let before = c.new-sink.result in
    let sink = c.run_on_copy-ran.new.sink in
    let from : items ≡ image = c.as_slice.ensures.value ∙ c.take-bytes.ensures.bytes in
    let started : before.written.bytes ≡ output = c.new-sink.ensures.bytes ∙ c.take-2.ensures.bytes in
    let run = c.in-Ok.ensures.outcome (with_kept image sound items c.args.types.now table from kept same_table) in
    let effect = effect_of_one (Some (before.room ∷ before.written.bytes)) (Some (sink.room ∷ sink.written.bytes)) saved told in
    let size = saved_size (whole_job items (text ∷ []) input) effect run.left in
    let new = ap length c.as_slice-in-Ok.ensures.value in
    let old = ap length c.as_mut_slice.ensures.value in
    let whole = ap length c.as_slice.ensures.value in
    c.replace-replaced.ensures.other c.if-not-replaced.true (omega (arith, size, new, old, whole))

pub returns-else-not-replaced-clause-whole : goal.returns-else-not-replaced-clause-whole
returns-else-not-replaced-clause-whole c is =
    let image = c.args.image.now.bytes in
    let input = c.args.input.now in
    let text = c.args.client.now in
    let output = c.args.output.now.bytes in
    let items = c.as_slice.result.now in
    let table = c.types.result.now in
    let kept : table_in c.args.types.now ≡ Some table = c.in-Some.ensures.types ∙ ap Some (sym (c.types.ensures ∙ ap table_kept c.deref.ensures)) in
    let told = c.in-Ok.ran.told in
    let saved = c.in-Ok.ran.image.items in
    let before = c.new-sink.result in
    let sink = c.run_on_copy-ran.new.sink in
    let from : items ≡ image = c.as_slice.ensures.value ∙ c.take-bytes.ensures.bytes in
    let started : before.written.bytes ≡ output = c.new-sink.ensures.bytes ∙ c.take-2.ensures.bytes in
    let ended_is : told.ended ≡ ended.Done = done told.ended sink.failed c.in-Ok.ensures.ended.0 (c.into_whole-whole.ensures.works c.if-not-whole.false) in
    let then_is : c.give_back.new.self.bytes ≡ sink.written.bytes = c.give_back.ensures.bytes ∙ c.into_whole-whole.ensures.whole c.if-not-whole.false in
    let now = c.replace-replaced.new.to in
    let rest = drop (length now) c.take-bytes.result.items in
    let same_size = c.replace-replaced.auto.to in
    let whole = c.as_mut_slice.ensures.len in
    let many : c.take-bytes.result.len ≡ length now = omega (arith, same_size, whole) in
    let saved_is : c.give_back-in-Ok.new.self.bytes ≡ saved =
    c.give_back-in-Ok.ensures.bytes ∙ ap (λ n. take n (now ++ rest)) many ∙ take-append_seam now rest ∙ c.replace-replaced.ensures.put c.if-not-replaced.false ∙ c.as_slice-in-Ok.ensures.value in
    record {
      report = told;
      told_is = c.from.ensures;
      ended_is = ended_is;
      within = c.in-Ok.ensures.within;
      run = λ sound same_table. same_run text input image items output before.written.bytes c.give_back.new.self.bytes sink.written.bytes c.give_back-in-Ok.new.self.bytes saved told ended.Done from started then_is saved_is ended_is
          (λ _. told_bytes (whole_job items (text ∷ []) input) saved (told ∷ []) told.ended before.room sink.room before.written.bytes sink.written.bytes
          (c.in-Ok.ensures.outcome (with_kept image sound items c.args.types.now table from kept same_table))) sound;
    }

pub returns-in-Err-clause-refused : goal.returns-in-Err-clause-refused
returns-in-Err-clause-refused c number sound same_table =
    let text = c.args.client.now in
    let items = c.as_slice.result.now in
    let table = c.types.result.now in
    let kept : table_in c.args.types.now ≡ Some table = c.in-Some.ensures.types ∙ ap Some (sym (c.types.ensures ∙ ap table_kept c.deref.ensures)) in
    let refused = c.in-Err.refused in
    let from = c.as_slice.ensures.value ∙ c.take-bytes.ensures.bytes in
    let there = with_kept c.args.image.now.bytes sound items c.args.types.now table from kept same_table in (
      refused,
      c.from-in-Err.ensures,
      same_refusal text c.args.image.now.bytes items refused from
          (λ _. IfErr-at_err (λ r. IsImageOf items table → IsWrong items (text ∷ []) r) c.in-Err.is c.run_on_copy-ran.ensures.refused there) sound,
    )
