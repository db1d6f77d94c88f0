-- An image that was created or opened.
use Rattle.std.proofs.Common.{◌≡◌, ℕ, List, [], length, refl, sym, ◌∙◌, subst, arith}
use Rattle.seg_spec.specs.Bytes.{word}
use Rattle.seg_spec.specs.Header.{allocator_word, version_word, next_word, sharing_version}
use Rattle.seg_spec.specs.Sound.{IsHeld}
use Rattle.seg_spec.specs.Counting.{AreCounted}
use Rattle.seg_spec.specs.Images.{IsSound, upgraded}
use Rattle.seg_spec.proofs.Images.UpgradeLaws.{same_word, upgraded_version, upgraded_held, upgraded_counted}
use Rattle.seg_spec.specs.Faulty.{Failure}
use Rattle.seg_spec.proofs.Images.UnsoundImageLaws.{unsound}
use Rattle.seg_raw.specs.declared.fault.Fault.{Fault}
use Rattle.seg_raw.specs.declared.fault.Fault.TheVariants as fault
use Rattle.seg_image.specs.Faults.{IsImageOf, IsFaultOf}
use Rattle.seg_image.specs.declared.image.Image.{Image}
use Rattle.seg_image.specs.Images.{segment_of, allocator_of, bytes_in, types_of}
use Rattle.client_spec.specs.Outcome.{CanMove}
use Rattle.client_vm.specs.Runs.{IsReadyToRun}

-- a sound image with these types is sound
abbrev pub image_sound : (bytes : List ℕ) (table : _) → IsImageOf bytes table → IsSound bytes
image_sound bytes table is = record { picture = is.picture; held = is.held; counted = is.counted; none_loose = is.none_loose }

-- a sound image has no fault, so opening it fails only if host memory is refused
pub no_fault : (bytes : List ℕ) (f : Fault) → IsSound bytes → IsFaultOf bytes f → f ≡ fault.Memory
no_fault bytes fault.Memory s l = refl
no_fault bytes fault.BadHeader s l = absurd (unsound bytes Failure.bad_header l s)
no_fault bytes (fault.BadType k) s l = absurd (unsound bytes (Failure.bad_type k) l s)
no_fault bytes (fault.BadBlock at) s l = absurd (unsound bytes Failure.bad_tiles l s)
no_fault bytes (fault.BadFree at) s l = absurd (unsound bytes Failure.bad_gaps l s)
no_fault bytes (fault.BadIndex at) s l = absurd (unsound bytes Failure.bad_content l s)
no_fault bytes (fault.BadPointer at) s l = absurd (unsound bytes Failure.bad_content l s)
no_fault bytes (fault.DoubleOwner at) s l = absurd (unsound bytes Failure.bad_content l s)
no_fault bytes (fault.BadValue at) s l = absurd (unsound bytes Failure.bad_content l s)
no_fault bytes (fault.Unowned at) s l = absurd (l.1 s)
no_fault bytes fault.Misplaced s l = absurd l
no_fault bytes (fault.TypeMismatch k) s l = absurd l
no_fault bytes fault.BadSize s l = absurd l
no_fault bytes fault.NoHostRoom s l = absurd l
no_fault bytes (fault.BadCode at) s l = absurd l
no_fault bytes (fault.BadLine line) s l = absurd l
no_fault bytes (fault.Rejected instruction reason) s l = absurd l
no_fault bytes fault.TooLong s l = absurd l
no_fault bytes (fault.BadMove i) s l = absurd l

-- a sound image may be the whole region
pub can_move : (image : List ℕ) → IsSound image → CanMove image (length image) 0 []
can_move image sound =
    let header = sound.held.laid_out.header in
    let large = header.not_large in
    record {
      lies = record {
        size = record { not_small = header.not_small; not_large = header.not_large; whole_units = header.whole_units };
        room_fits = omega (arith, large);
        placed = (refl, omega arith, header.not_large);
      };
      fit = tt;
    }

-- clients may run on an image as `open` returns it
module _ {A : Type 0} (image : Image A) (bytes : List ℕ) (opened : bytes_in image ≡ upgraded bytes) (is : IsImageOf bytes (types_of image)) (named : word bytes allocator_word ≡ allocator_of image) where
  pub opened_ready : IsReadyToRun (allocator_of image) [] (segment_of image).window (types_of image) []
  opened_ready = record {
    picture = is.picture;
    held = subst (λ bs. IsHeld bs is.picture) (sym opened) (upgraded_held bytes is.picture is.held);
    counted = subst (λ bs. AreCounted (word bs next_word) is.picture) (sym opened) (upgraded_counted bytes is.picture is.counted);
    loose_are = is.none_loose;
    table_is = is.table_is;
    allocator_is = subst (λ bs. word bs allocator_word ≡ allocator_of image) (sym opened) (same_word bytes allocator_word (omega arith) ∙ named);
    version_is = subst (λ bs. word bs version_word ≡ sharing_version) (sym opened) (upgraded_version bytes (let small = is.held.laid_out.header.not_small in omega arith));
    moves_may = tt;
  }
