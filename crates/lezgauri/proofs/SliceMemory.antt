-- The memory of a slice of bytes is the memory of a full vector, and back. Assumes `Logic`.
use Rattle.std.proofs.Common.{◌≡◌, ℕ, ◌+◌, ◌-◌, ◌*◌, ◌^◌, ◌<◌, ◌≤◌, List, [], ◌∷◌, length, true, refl, sym, arith}
use Rattle.std.proofs.lemmas.Bool.{ne_eqb, not_from_false}
use seplogic.Ra.Ura.{Ura}
use mir.Syntax.{w8, ty_int, ty_array}
use base.Fraction.{full_share}
use base.Logic.{ent}
use base.Fml.{ftrue, fsep, feq, froom}
use types.Logic.{Logic, sem}
use types.Kit.{‵, ◌$◌, ◌∵◌, !, qed, move, keep, use0, use1, drop, fsplit, fjoin, fjoin3, feq_i, flt_i, rewrite, done}
use denote.Builtin.{u8}
use denote.Array.{Array}
use denote.Index.{row}
use denote.Memory.{part_at}
use denote.RawPtr.{block_ptr}
use denote.RawPtr.Bytes.{bytes, bytes_apart, bytes_whole}
use denote.Steps.{nothing}
use Rattle.std.specs.Allocator.{block_with_items}
use Rattle.std_alloc.specs.Vec.Ownership.{lodged, owns_if, has_block}

live : (c : ℕ) → 0 < c → has_block c ≡ true
live c some = not_from_false _ (ne_eqb c 0 (λ e. omega arith))

module _ {M : Type 1} {𝓤 : Ura M} (𝓛 : Logic 𝓤) (b o : ℕ) where
  pub row_lodged : (xs : List ℕ) → length xs * 1 < 2 ^ 63 → ent 𝓤 (sem 𝓛 (row u8 full_share xs b o)) (sem 𝓛 (lodged u8 (block_ptr b o) (length xs) (length xs) xs))
  row_lodged [] small = qed 𝓛 (‵ (row u8 full_share [] b o) ∷ []) ∵ flt_i ! (0 * 1) (2 ^ 63) small $ fjoin ! $ done !
  row_lodged (x ∷ xs) small =
      let ys : List ℕ = x ∷ xs in
      let n = length ys in
      let p = block_ptr b o in
      let none_spare : 0 ≡ n - n = omega arith in
      qed 𝓛 (‵ (row u8 full_share ys b o) ∷ []) ∵ feq_i ! ℕ n n refl $ fjoin ! $ use1 𝓛 (‵ (part_at (Array u8 n) full_share ys b o)) (bytes_whole 𝓛 full_share n ys b o) $
      nothing ! $ use0 𝓛 (‵ (froom (ty_array (ty_int w8) 0) b (o + n * 1))) (𝓛.laws.room_nil (ty_int w8) b (o + n * 1)) $
      rewrite ! 0 (λ k. ‵ (froom (ty_array (ty_int w8) k) b (o + n * 1))) none_spare refl $ move ! (2 ∷ 0 ∷ 1 ∷ []) $ fjoin3 ! $
      rewrite ! 0 (λ y. ‵ (owns_if y (block_with_items (λ _ _. ftrue) u8 p n n ys))) (sym (live n (omega arith))) refl $ flt_i ! (n * 1) (2 ^ 63) small $ fjoin ! $ done !

  pub lodged_row : (n c : ℕ) (xs : List ℕ) → n ≡ length xs → n ≤ c → ent 𝓤 (sem 𝓛 (lodged u8 (block_ptr b o) n c xs)) (sem 𝓛 (row u8 full_share xs b o))
  lodged_row n c [] long room = qed 𝓛 (‵ (lodged u8 (block_ptr b o) n c []) ∷ []) ∵ drop ! $ nothing ! $ done !
  lodged_row n c (x ∷ xs) long room =
      let ys : List ℕ = x ∷ xs in
      let Blk = block_with_items (λ _ _. ftrue) u8 (block_ptr b o) n c ys in
      qed 𝓛 (‵ (lodged u8 (block_ptr b o) n c ys) ∷ []) ∵ fsplit ! $ drop ! $
      rewrite ! 0 (λ y. ‵ (owns_if y Blk)) (live c (omega arith)) refl $ fsplit ! $ keep ! (0 ∷ []) $
      use1 𝓛 (‵ (fsep (feq ℕ (length ys) n) (bytes full_share ys b o))) (bytes_apart 𝓛 full_share n ys b o) $ fsplit ! $ drop ! $ done !
