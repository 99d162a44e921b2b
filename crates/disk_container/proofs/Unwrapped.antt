-- What is wrapped is a container that says what it was made of.
use Rattle.std.proofs.Common.{◌≡◌, ℕ, ◌+◌, ◌<◌, ◌≤◌, Bool, List, ◌++◌, Option, length, arith, refl, sym, ap, ◌∙◌, subst}
use Rattle.std.proofs.Common.{inr, length-append}
use Rattle.std.specs.Prelude.{if◌then◌else◌, nat_eq}
use Rattle.std.proofs.lemmas.Bool.{cond-false, ne_eqb}
use Rattle.a2_device.specs.declared.order.Order.{Order}
use Rattle.disk_container.specs.Container.{HasHeader, HoldsData, IsContainer}
use Rattle.disk_container.specs.Format.{header_of, image_size, is_protected, volume_of}
use Rattle.a2_device.specs.Order.{IsImageLength}
use Rattle.disk_container.specs.Order.{format_of}
use Rattle.disk_container.specs.Wrapped.{CanBeWrapped, flags_of, header_bytes, wrapped_bytes}
use Rattle.disk_container.proofs.Back.{IsVolume, flags_small, format_small, four_back, protected_back, volume_back}
use Rattle.disk_container.proofs.Sizes.{small}

-- a length that is told and is not 0 is that of the image
told_size : (told whole size : ℕ) → told ≡ size → 0 < size
    → ◌≡◌ {A = ℕ} (if◌then◌else◌ (nat_eq told 0) whole told) size
told_size told whole size is some =
    cond-false (nat_eq told 0) whole told (ne_eqb told 0 (λ e. omega (arith, e, is, some))) ∙ is

module _ (order : Order) (volume : Option ℕ) (comment : List ℕ) (protect : Bool) (payload : List ℕ)
    (can : CanBeWrapped order (length payload) (length comment)) (number : IsVolume volume) where
  wrapped_size : length (wrapped_bytes order volume comment protect payload) ≡ 64 + length payload + length comment
  wrapped_size =
      let header = header_bytes order volume protect (length payload) (length comment) in
      let top : length header ≡ 64 = refl in
      omega (arith, top, length-append (header ++ payload) comment, length-append header payload)

  flags_are : (header_of (wrapped_bytes order volume comment protect payload)).flags ≡ flags_of volume protect
  flags_are = four_back (flags_of volume protect) (flags_small volume protect number)

  size_is : image_size order (header_of (wrapped_bytes order volume comment protect payload)) ≡ length payload
  size_is =
      let bounds = small order (length payload) can.image in
      told_size _ _ (length payload) (four_back (length payload) (omega (arith, bounds))) bounds.0

  begins : HasHeader (wrapped_bytes order volume comment protect payload)
  begins =
      let bounds = small order (length payload) can.image in
      record {
        begins = refl;
        not_long = omega (arith, wrapped_size, bounds, can.not_long);
        sized = inr refl;
        whole = omega (arith, wrapped_size);
      }

  holds : HoldsData (header_of (wrapped_bytes order volume comment protect payload)) order
      (length (wrapped_bytes order volume comment protect payload))
  holds = record {
    behind = omega arith;
    inside = subst (λ n. 64 + n ≤ length (wrapped_bytes order volume comment protect payload)) (sym size_is)
        (omega (arith, wrapped_size));
  }

  pub unwrapped : IsContainer (wrapped_bytes order volume comment protect payload) (record {
    order = order;
    protected = protect;
    volume = volume;
    start = 64;
    size = length payload;
  })
  unwrapped = record {
    header = begins;
    order = record { number = four_back (format_of order) (format_small order) };
    holds = holds;
    image = subst (IsImageLength order) (sym size_is) can.image;
    protection = sym (ap is_protected flags_are ∙ protected_back volume protect number);
    volume = sym (ap volume_of flags_are ∙ volume_back volume protect number);
    start = refl;
    size = sym size_is;
  }
