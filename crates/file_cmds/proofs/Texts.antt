-- The text of units, one unit more of it.
use Rattle.std.proofs.Common.{◌≡◌, ◌<◌, ◌∙◌, ℕ, ◌+◌, ◌-◌, ◌*◌, Bool, true, false, List, [], ◌∷◌, ◌++◌, map, take, length, get_or, cond, replicate, refl, sym, ap, arith, subst}
use Rattle.std.specs.Prelude.{filter, if◌then◌else◌}
use Rattle.std.proofs.lemmas.List.{append_assoc, append-nil, map-append, replicate-append-replicate}
use Rattle.std.proofs.lemmas.List.Elements.{filter_more}
use Rattle.a2_device.specs.Device.{DeviceState, FailsRead, unit_at}
use Rattle.a2_device.specs.declared.part.Part.{Part}
use Rattle.vol_format.specs.Files.{Stored}
use Rattle.vol_format.proofs.Lists.{element}
use Rattle.file_cmds.specs.ReadingOn.{FailsAmong}
use Rattle.file_cmds.specs.Text.{text_from, whole_text}
use Rattle.file_cmds.specs.Walked.{is_body, stored_at, stored_of, number_behind, number_after, text_with}

abbrev pub zeros : ℕ → List ℕ
zeros n = replicate n 0

-- zeros, and as many again
pub zeros_more : (n size : ℕ) → zeros (n * size) ++ zeros size ≡ zeros ((n + 1) * size)
zeros_more n size = replicate-append-replicate (n * size) size 0 ∙ ap zeros (omega arith)

-- units of zeros behind a text, one more of them
pub zeros_behind : (old text unit new : List ℕ) (n : ℕ) → text ≡ old ++ zeros (n * length unit) → unit ≡ zeros (length unit) → new ≡ text ++ unit
    → new ≡ old ++ zeros ((n + 1) * length unit)
zeros_behind old text unit new n so_far are_zeros new_is =
    new_is
    ∙ ap (λ (front : List ℕ). front ++ unit) so_far
    ∙ append_assoc old (zeros (n * length unit)) unit
    ∙ ap (λ (more : List ℕ). old ++ (zeros (n * length unit) ++ more)) are_zeros
    ∙ ap (λ (more : List ℕ). old ++ more) (zeros_more n (length unit))

pub text_from-more : (size number : ℕ) (units : List Stored) (one : Stored)
    → text_from size number (units ++ one ∷ []) ≡ text_from size number units ++ (replicate ((one.number - number_behind number units) * size) 0 ++ one.unit)
text_from-more size number [] one = append-nil (replicate ((one.number - number) * size) 0 ++ one.unit)
text_from-more size number (first ∷ units) one =
    let front : List ℕ = replicate ((first.number - number) * size) 0 ++ first.unit in
    ap (λ (text : List ℕ). front ++ text) (text_from-more size (first.number + 1) units one)
    ∙ sym (append_assoc front (text_from size (first.number + 1) units) (replicate ((one.number - number_behind (first.number + 1) units) * size) 0 ++ one.unit))

pub number_behind-more : (number : ℕ) (units : List Stored) (one : Stored) → number_behind number (units ++ one ∷ []) ≡ one.number + 1
number_behind-more number [] one = refl
number_behind-more number (first ∷ units) one = number_behind-more (first.number + 1) units one

-- what a walk over the first parts has
pub record IsTextTo (size : ℕ) (store : List (List ℕ)) (parts : List Part) (count next : ℕ) (text : List ℕ) : Type 0 where
  pub text_is : text ≡ whole_text size (stored_of store (take count parts))
  pub next_is : next ≡ number_behind 0 (stored_of store (take count parts))

module _ (store : List (List ℕ)) (parts : List Part) (count : ℕ) (d : Part) (within : count < length parts) where
  abbrev pub next_part : Part
  next_part = get_or parts count d

  one_more : stored_of store (take (count + 1) parts) ≡ stored_of store (take count parts) ++ map (stored_at store) (cond (is_body next_part.kind) (next_part ∷ []) [])
  one_more =
      ap (map (stored_at store)) (filter_more (λ (part : Part). is_body part.kind) parts count d within)
      ∙ map-append (stored_at store) (filter (λ (part : Part). is_body part.kind) (take count parts)) (cond (is_body next_part.kind) (next_part ∷ []) [])

  abbrev pub before : List Stored
  before = stored_of store (take count parts)

  pub part_added : (size next : ℕ) (text : List ℕ) → IsTextTo size store parts count next text
      → IsTextTo size store parts (count + 1) (number_after next_part next) (text_with size store next_part next text)
  part_added size next text so_far = by_kind (is_body next_part.kind) one_more
    where
      by_kind : (body : Bool) → stored_of store (take (count + 1) parts) ≡ before ++ map (stored_at store) (cond body (next_part ∷ []) [])
          → IsTextTo size store parts (count + 1) (if body then next_part.number + 1 else next)
          (if body then text ++ (zeros ((next_part.number - next) * size) ++ unit_at store next_part.place) else text)
      by_kind true more = record {
        text_is = ap (λ (front : List ℕ). front ++ (zeros ((next_part.number - next) * size) ++ unit_at store next_part.place)) so_far.text_is
            ∙ ap (λ n. whole_text size before ++ (zeros ((next_part.number - n) * size) ++ unit_at store next_part.place)) so_far.next_is
            ∙ sym (text_from-more size 0 before (stored_at store next_part))
            ∙ ap (whole_text size) (sym more);
        next_is = sym (number_behind-more 0 before (stored_at store next_part)) ∙ ap (number_behind 0) (sym more);
      }
      by_kind false more =
          let same : stored_of store (take (count + 1) parts) ≡ before = more ∙ append-nil before in
          record { text_is = so_far.text_is ∙ ap (whole_text size) (sym same); next_is = so_far.next_is ∙ ap (number_behind 0) (sym same) }

-- the same, over what the reading of a part ensures
pub part_read : (start mid : DeviceState) (parts : List Part) (count : ℕ) (d : Part) (next after : ℕ) (text new : List ℕ) → mid ≡ start → count < length parts
    → IsTextTo start.unit_size start.store parts count next text → after ≡ number_after (get_or parts count d) next
    → new ≡ text_with mid.unit_size mid.store (get_or parts count d) next text → IsTextTo start.unit_size start.store parts (count + 1) after new
part_read start mid parts count d next after text new kept within so_far after_is new_is =
    let added = part_added start.store parts count d within start.unit_size next text so_far in
    record {
      text_is = new_is ∙ ap (λ (device : DeviceState). text_with device.unit_size device.store (get_or parts count d) next text) kept ∙ added.text_is;
      next_is = after_is ∙ added.next_is;
    }

-- a failed read of the next part is one of those that are given
pub part_fails : (start mid new : DeviceState) (parts : List Part) (count : ℕ) (d : Part) → mid ≡ start → count < length parts
    → FailsRead (get_or parts count d).place mid new → FailsAmong parts start new
part_fails start mid new parts count d kept within fails = record {
  part = get_or parts count d;
  given = element parts count d within;
  failed = subst (λ (device : DeviceState). FailsRead (get_or parts count d).place device new) kept fails;
}
