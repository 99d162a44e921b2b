-- What the tail of a file's name says.
use Rattle.std.proofs.Common.{◌≡◌, ℕ, ◌+◌, ◌*◌, List, [], ◌∷◌, ◌++◌, arith, refl, sym, ap, ◌∙◌, subst, length}
use Rattle.std.specs.Str.Parse.{digits_value}
use Rattle.host_folders.specs.declared.said.Content.{Content}
use Rattle.host_folders.specs.HostEntries.{IsHexadecimal, SaysContent, SaysTail}
use Rattle.host_folders.specs.Reading.{BeginsWithNumber}
use Rattle.host_folders.proofs.Begins.{digits_begin, hex_first, hex_more, number_same}

-- four digits are twice two
four_digits : (a b c d n : ℕ) → IsHexadecimal 4 (a ∷ b ∷ c ∷ d ∷ []) n
    → (high : ℕ) × (low : ℕ) × IsHexadecimal 2 (a ∷ b ∷ []) high × IsHexadecimal 2 (c ∷ d ∷ []) low
    × (n ≡ 256 * high + low)
four_digits a b c d n is =
    let one = hex_first a (b ∷ c ∷ d ∷ []) is.digits in
    let two = hex_first b (c ∷ d ∷ []) one.1 in (
      digits_value 16 (a ∷ b ∷ []),
      digits_value 16 (c ∷ d ∷ []),
      record { long = refl; digits = hex_more a (b ∷ []) one.0 (hex_more b [] two.0 refl); value = refl },
      record { long = refl; digits = two.1; value = refl },
      omega (arith, is.value),
    )

pub twice_two : (a b c d high low : ℕ) → IsHexadecimal 2 (a ∷ b ∷ []) high → IsHexadecimal 2 (c ∷ d ∷ []) low
    → IsHexadecimal 4 (a ∷ b ∷ c ∷ d ∷ []) (256 * high + low)
twice_two a b c d high low one two =
    let first = hex_first a (b ∷ []) one.digits in
    let second = hex_first b [] first.1 in
    record {
      long = refl;
      digits = hex_more a (b ∷ c ∷ d ∷ []) first.0 (hex_more b (c ∷ d ∷ []) second.0 two.digits);
      value = omega (arith, one.value, two.value);
    }

-- a tail, number by number
pub record IsRead (text : List ℕ) (type aux : ℕ) (content : Content) : Type 0 where
  pub behind_type : List ℕ
  pub behind_high : List ℕ
  pub end : List ℕ
  pub high : ℕ
  pub low : ℕ
  pub begins_type : BeginsWithNumber text type behind_type
  pub begins_high : BeginsWithNumber behind_type high behind_high
  pub begins_low : BeginsWithNumber behind_high low end
  pub value : aux ≡ 256 * high + low
  pub says : SaysContent end type content

four_cells : (digits : List ℕ) → length digits ≡ 4
    → (a : ℕ) × (b : ℕ) × (c : ℕ) × (d : ℕ) × (digits ≡ a ∷ b ∷ c ∷ d ∷ [])
four_cells [] h = absurd (omega arith)
four_cells (a ∷ []) h = absurd (omega arith)
four_cells (a ∷ b ∷ []) h = absurd (omega arith)
four_cells (a ∷ b ∷ c ∷ []) h = absurd (omega arith)
four_cells (a ∷ b ∷ c ∷ d ∷ []) h = (a, b, c, d, refl)
four_cells (a ∷ b ∷ c ∷ d ∷ e ∷ digits) h = absurd (omega arith)

pub tail_read : (text : List ℕ) (type aux : ℕ) (content : Content) → SaysTail text type aux content
    → IsRead text type aux content
tail_read text type aux content tail =
    let cells = four_cells tail.aux_digits tail.says_aux.long in
    let parts = four_digits cells.0 cells.1 cells.2 cells.3 aux
    (subst (λ (t : List ℕ). IsHexadecimal 4 t aux) cells.4 tail.says_aux) in
    record {
      behind_type = tail.aux_digits ++ tail.end;
      behind_high = cells.2 ∷ cells.3 ∷ tail.end;
      end = tail.end;
      high = parts.0;
      low = parts.1;
      begins_type = subst (λ (t : List ℕ). BeginsWithNumber t type (tail.aux_digits ++ tail.end)) (sym tail.split)
          (digits_begin tail.type_digits type (tail.aux_digits ++ tail.end) tail.says_type);
      begins_high = subst (λ (t : List ℕ). BeginsWithNumber (t ++ tail.end) parts.0 (cells.2 ∷ cells.3 ∷ tail.end))
          (sym cells.4) (digits_begin (cells.0 ∷ cells.1 ∷ []) parts.0 (cells.2 ∷ cells.3 ∷ tail.end) parts.2);
      begins_low = digits_begin (cells.2 ∷ cells.3 ∷ []) parts.1 tail.end parts.3;
      value = parts.4;
      says = tail.says_content;
    }

pub tail_says : (text behind_type behind_high end : List ℕ) (type high low : ℕ) (content : Content)
    → BeginsWithNumber text type behind_type → BeginsWithNumber behind_type high behind_high
    → BeginsWithNumber behind_high low end → SaysContent end type content
    → SaysTail text type (256 * high + low) content
tail_says text behind_type behind_high end type high low content t h l says = record {
  type_digits = t.high ∷ t.low ∷ [];
  aux_digits = h.high ∷ h.low ∷ l.high ∷ l.low ∷ [];
  end = end;
  split = t.split ∙ ap (λ (x : List ℕ). t.high ∷ t.low ∷ x) (h.split ∙ ap (λ (x : List ℕ). h.high ∷ h.low ∷ x) l.split);
  says_type = t.number;
  says_aux = twice_two h.high h.low l.high l.low high low h.number l.number;
  says_content = says;
}

-- ---- what says nothing

pub no_type : (text : List ℕ) → ((n : ℕ) (rest : List ℕ) → ¬ BeginsWithNumber text n rest)
    → (type aux : ℕ) (content : Content) → ¬ SaysTail text type aux content
no_type text never type aux content says =
    let read = tail_read text type aux content says in never type read.behind_type read.begins_type

pub no_high : (text : List ℕ) (n : ℕ) (rest : List ℕ) → BeginsWithNumber text n rest
    → ((m : ℕ) (behind : List ℕ) → ¬ BeginsWithNumber rest m behind)
    → (type aux : ℕ) (content : Content) → ¬ SaysTail text type aux content
no_high text n rest begins never type aux content says =
    let read = tail_read text type aux content says in
    let same = number_same text type n read.behind_type rest read.begins_type begins in
    never read.high read.behind_high
    (subst (λ (t : List ℕ). BeginsWithNumber t read.high read.behind_high) same.1 read.begins_high)

-- where the first two numbers begin a tail, its third one begins what is left
pub third : (text : List ℕ) (n m : ℕ) (rest behind : List ℕ) → BeginsWithNumber text n rest
    → BeginsWithNumber rest m behind
    → (type aux : ℕ) (content : Content) → SaysTail text type aux content
    → (low : ℕ) × (end : List ℕ) × BeginsWithNumber behind low end × (aux ≡ 256 * m + low) × SaysContent end n content
third text n m rest behind begins begins_high type aux content says =
    let read = tail_read text type aux content says in
    let same = number_same text type n read.behind_type rest read.begins_type begins in
    let high = subst (λ (t : List ℕ). BeginsWithNumber t read.high read.behind_high) same.1 read.begins_high in
    let same_high = number_same rest read.high m read.behind_high behind high begins_high in (
      read.low,
      read.end,
      subst (λ (t : List ℕ). BeginsWithNumber t read.low read.end) same_high.1 read.begins_low,
      read.value ∙ ap (λ (h : ℕ). 256 * h + read.low) same_high.0,
      subst (λ (t : ℕ). SaysContent read.end t content) same.0 read.says,
    )

pub no_low : (text : List ℕ) (n m : ℕ) (rest behind : List ℕ) → BeginsWithNumber text n rest
    → BeginsWithNumber rest m behind → ((low : ℕ) (end : List ℕ) → ¬ BeginsWithNumber behind low end)
    → (type aux : ℕ) (content : Content) → ¬ SaysTail text type aux content
no_low text n m rest behind begins high never type aux content says =
    let left = third text n m rest behind begins high type aux content says in never left.0 left.1 left.2

pub no_content : (text : List ℕ) (n m l : ℕ) (rest behind end : List ℕ) → BeginsWithNumber text n rest
    → BeginsWithNumber rest m behind → BeginsWithNumber behind l end
    → ((content : Content) → ¬ SaysContent end n content)
    → (type aux : ℕ) (content : Content) → ¬ SaysTail text type aux content
no_content text n m l rest behind end begins high low never type aux content says =
    let left = third text n m rest behind begins high type aux content says in
    let same = number_same behind left.0 l left.1 end left.2 low in
    never content (subst (λ (t : List ℕ). SaysContent t n content) same.1 left.4)
