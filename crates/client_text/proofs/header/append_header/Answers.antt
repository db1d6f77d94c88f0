use Rattle.std.proofs.Common.{◌≡◌, ℕ, List, ◌++◌, ap, ◌∙◌, append_assoc}
use Rattle.std.specs.Prelude.{codes}
use Rattle.client_spec.specs.Grammar.{word_bytes}
use Rattle.client_text.proofs.CanonicalLineLaws.{on_ok}
use Rattle.client_text.proofs.header.append_header.Goals as goal

appended : (old m v t c i f0 f1 f2 f3 f4 : List ℕ) → f0 ≡ old ++ m → f1 ≡ f0 ++ v → f2 ≡ f1 ++ t → f3 ≡ f2 ++ c → f4 ≡ f3 ++ i → f4 ≡ old ++ ((((m ++ v) ++ t) ++ c) ++ i)
appended old m v t c i f0 f1 f2 f3 f4 e0 e1 e2 e3 e4 =
    e4 ∙ ap (λ xs. xs ++ i) (e3 ∙ ap (λ xs. xs ++ c) (e2 ∙ ap (λ xs. xs ++ t) (e1 ∙ ap (λ xs. xs ++ v) e0))) ∙ simp append_assoc

pub returns : goal.returns
returns g c =
    let header = c.args.header in
    on_ok c.append_word-4.result _ _ (appended c.args.file.now.items (codes "SEGC") (word_bytes c.args.version) (word_bytes header.types) (word_bytes header.constants)
    (word_bytes header.instructions) _ _ _ _ _ c.in_ok-extend_from_slice.ensures.items c.in_ok-append_word.ensures c.in_ok-append_word-2.ensures
    c.in_ok-append_word-3.ensures) c.append_word-4.ensures
