-- A file is one container, or has one fault.
use Rattle.std.proofs.Common.{◌≡◌, ℕ, ◌<◌, Bool, List, Option, length, arith, refl, sym, ap, ◌∙◌, subst, inl, inr}
use Rattle.disk_container.specs.declared.container.Container.{Container}
use Rattle.disk_container.specs.declared.error.ContainerFault.{ContainerFault}
use Rattle.disk_container.specs.declared.error.ContainerFault.TheVariants.{Data, Format, Header, Length, Magic}
use Rattle.a2_device.specs.declared.order.Order.{Order}
use Rattle.a2_device.specs.declared.order.Order.TheVariants.{Dos, Prodos, Nibble}
use Rattle.disk_container.specs.Container.{HasHeader, HoldsData, IsContainer, IsOfOrder, most_bytes}
use Rattle.disk_container.specs.Faults.{HasNoOrder, HasOddLength, IsFault, LacksData}
use Rattle.disk_container.specs.Format.{BeginsLikeContainer, header_of, image_size}
use Rattle.a2_device.specs.Order.{IsImageLength}
use Rattle.disk_container.specs.Order.{format_of}

-- ---- one order

one_order : (a b : Order) → format_of a ≡ format_of b → a ≡ b
one_order Dos Dos e = refl
one_order Dos Prodos e = absurd (omega (arith, e))
one_order Dos Nibble e = absurd (omega (arith, e))
one_order Prodos Dos e = absurd (omega (arith, e))
one_order Prodos Prodos e = refl
one_order Prodos Nibble e = absurd (omega (arith, e))
one_order Nibble Dos e = absurd (omega (arith, e))
one_order Nibble Prodos e = absurd (omega (arith, e))
one_order Nibble Nibble e = refl

module _ (bytes : List ℕ) (a b : Order) (one : IsOfOrder (header_of bytes) a)
    (other : IsOfOrder (header_of bytes) b) where
  same_order : a ≡ b
  same_order = one_order a b (sym one.number ∙ other.number)

  same_data : HoldsData (header_of bytes) a (length bytes) → HoldsData (header_of bytes) b (length bytes)
  same_data holds = subst (λ o. HoldsData (header_of bytes) o (length bytes)) same_order holds

  same_image : IsImageLength a (image_size a (header_of bytes)) → IsImageLength b (image_size b (header_of bytes))
  same_image image = subst (λ o. IsImageLength o (image_size o (header_of bytes))) same_order image

-- ---- one container

abbrev made : Order → Bool → Option ℕ → ℕ → ℕ → Container
made order protected volume start size =
    record { order = order; protected = protected; volume = volume; start = start; size = size }

same_fields : (c d : Container) → c.order ≡ d.order → c.protected ≡ d.protected → c.volume ≡ d.volume
    → c.start ≡ d.start → c.size ≡ d.size → c ≡ d
same_fields c d order protected volume start size =
    ap (λ x. made x c.protected c.volume c.start c.size) order
    ∙ ap (λ x. made d.order x c.volume c.start c.size) protected
    ∙ ap (λ x. made d.order d.protected x c.start c.size) volume
    ∙ ap (λ x. made d.order d.protected d.volume x c.size) start
    ∙ ap (λ x. made d.order d.protected d.volume d.start x) size

pub one_container : (bytes : List ℕ) (c d : Container) → IsContainer bytes c → IsContainer bytes d → c ≡ d
one_container bytes c d one other =
    let order = same_order bytes c.order d.order one.order other.order in
    same_fields c d order (one.protection ∙ sym other.protection) (one.volume ∙ sym other.volume)
    (one.start ∙ sym other.start) (one.size ∙ ap (λ o. image_size o (header_of bytes)) order ∙ sym other.size)

-- ---- one fault

long : (bytes : List ℕ) → most_bytes < length bytes → ¬ HasHeader bytes
long bytes more has = omega (arith, more, has.not_long)

length_begins : (bytes : List ℕ) → IsFault bytes Length → BeginsLikeContainer bytes
length_begins bytes (inl (begins, more)) = begins
length_begins bytes (inr odd) = odd.has_order.header.begins

header_or_length : (bytes : List ℕ) → IsFault bytes Header → ¬ IsFault bytes Length
header_or_length bytes fault (inl (begins, more)) = omega (arith, fault.1, more)
header_or_length bytes fault (inr odd) = fault.2 odd.has_order.header

format_or_data : (bytes : List ℕ) → HasNoOrder bytes → ¬ LacksData bytes
format_or_data bytes fault lacks = fault.none lacks.order lacks.has_order.says

format_or_length : (bytes : List ℕ) → HasNoOrder bytes → ¬ IsFault bytes Length
format_or_length bytes fault (inl (begins, more)) = long bytes more fault.header
format_or_length bytes fault (inr odd) = fault.none odd.order odd.has_order.says

data_or_length : (bytes : List ℕ) → LacksData bytes → ¬ IsFault bytes Length
data_or_length bytes fault (inl (begins, more)) = long bytes more fault.has_order.header
data_or_length bytes fault (inr odd) =
    fault.outside (same_data bytes odd.order fault.order odd.has_order.says fault.has_order.says odd.holds)

pub one_fault : (bytes : List ℕ) (f g : ContainerFault) → IsFault bytes f → IsFault bytes g → f ≡ g
one_fault bytes Magic Magic f g = refl
one_fault bytes Magic Header f g = absurd (f g.0)
one_fault bytes Magic Format f g = absurd (f g.header.begins)
one_fault bytes Magic Data f g = absurd (f g.has_order.header.begins)
one_fault bytes Magic Length f g = absurd (f (length_begins bytes g))
one_fault bytes Header Magic f g = absurd (g f.0)
one_fault bytes Header Header f g = refl
one_fault bytes Header Format f g = absurd (f.2 g.header)
one_fault bytes Header Data f g = absurd (f.2 g.has_order.header)
one_fault bytes Header Length f g = absurd (header_or_length bytes f g)
one_fault bytes Format Magic f g = absurd (g f.header.begins)
one_fault bytes Format Header f g = absurd (g.2 f.header)
one_fault bytes Format Format f g = refl
one_fault bytes Format Data f g = absurd (format_or_data bytes f g)
one_fault bytes Format Length f g = absurd (format_or_length bytes f g)
one_fault bytes Data Magic f g = absurd (g f.has_order.header.begins)
one_fault bytes Data Header f g = absurd (g.2 f.has_order.header)
one_fault bytes Data Format f g = absurd (format_or_data bytes g f)
one_fault bytes Data Data f g = refl
one_fault bytes Data Length f g = absurd (data_or_length bytes f g)
one_fault bytes Length Magic f g = absurd (g (length_begins bytes f))
one_fault bytes Length Header f g = absurd (header_or_length bytes g f)
one_fault bytes Length Format f g = absurd (format_or_length bytes g f)
one_fault bytes Length Data f g = absurd (data_or_length bytes g f)
one_fault bytes Length Length f g = refl

-- ---- none beside a container

odd_or_container : (bytes : List ℕ) (c : Container) → IsContainer bytes c → ¬ HasOddLength bytes
odd_or_container bytes c is odd =
    odd.odd (same_image bytes c.order odd.order is.order odd.has_order.says is.image)

pub no_container : (bytes : List ℕ) (f : ContainerFault) (c : Container) → IsFault bytes f → ¬ IsContainer bytes c
no_container bytes Magic c f is = f is.header.begins
no_container bytes Header c f is = f.2 is.header
no_container bytes Format c f is = f.none c.order is.order
no_container bytes Data c f is =
    f.outside (same_data bytes c.order f.order is.order f.has_order.says is.holds)
no_container bytes Length c (inl (begins, more)) is = long bytes more is.header
no_container bytes Length c (inr odd) is = odd_or_container bytes c is odd
