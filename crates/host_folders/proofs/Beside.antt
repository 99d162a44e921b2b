-- The names of readable forms that stand beside their files.
use Rattle.std.proofs.Common.{◌≡◌, ◌≢◌, ℕ, ◌+◌, ◌≤◌, false, List, [], ◌∷◌, ◌++◌, arith, refl, sym, ap, ◌∙◌, subst, inl, inr, codes, get_or, length, length-append, append_assoc, bytes_eq}
use Rattle.std.specs.Prelude.{◌==◌, All, IsFalse, IsTrue}
use Rattle.std.specs.List.{before_first, list_any}
use Rattle.std.proofs.lemmas.Bool.{cases_Bool}
use Rattle.host_folders.specs.HostNames.{Entry, IsSafe, aux_of, base, devices, ending, folded, host_name, is_device, is_one_of, is_printed, text_beside, told_number, told_tail, type_of, without_end}
use Rattle.host_folders.specs.Laws.{IsApartBeside, IsEntry, IsFile, IsNumber}
use Rattle.host_folders.specs.declared.entry.Naming.{Naming}
use Rattle.host_folders.proofs.Apart.{ends_same, folded_append, folded_end}
use Rattle.host_folders.proofs.Ends.{all_append, by_place, by_recursion, end_ending, tail_some}
use Rattle.host_folders.proofs.IsSafe.{append_some, host_begins, host_is_safe, host_short, last_more, last_of}
use Rattle.host_folders.proofs.Says.{before_end, before_more}

-- ---- they are safe

-- what stands before the first period
before_period : (text rest : List ℕ) → before_first (λ c. c == 46) (text ++ 46 ∷ rest) ≡ before_first (λ c. c == 46) text
before_period [] rest = before_end (λ c. c == 46) 46 rest refl
before_period (c ∷ text) rest = elim (cases_Bool (c == 46)) [
  | inl period ↦ before_end (λ d. d == 46) c (text ++ 46 ∷ rest) period ∙ sym (before_end (λ d. d == 46) c text period)
  | inr other ↦ before_more (λ d. d == 46) c (text ++ 46 ∷ rest) other
      ∙ ap (λ (t : List ℕ). c ∷ t) (before_period text rest)
      ∙ sym (before_more (λ d. d == 46) c text other)
]

same_base : (text : List ℕ) → base (text_beside text) ≡ base text
same_base text = ap (without_end 32) (before_period text (codes "utf8.txt"))

device_beside : (text : List ℕ) → is_device text ≡ false → is_device (text_beside text) ≡ false
unfolding is_device
device_beside text is =
    ap (λ (b : List ℕ). list_any (λ device. bytes_eq (folded b) (folded device)) devices) (same_base text) ∙ is

last_append : (front : List ℕ) (c : ℕ) (end : List ℕ) → last_of (front ++ c ∷ end) ≡ last_of (c ∷ end)
last_append [] c end = refl
last_append (d ∷ front) c end =
    last_more d (front ++ c ∷ end) (some front) ∙ last_append front c end
  where
    some : (front : List ℕ) → front ++ c ∷ end ≢ []
    some [] e = cc
    some (x ∷ xs) e = cc

all_beside : (P : ℕ → Type 0) (name end : List ℕ) → All P name → All P end → All P (name ++ end)
all_beside P name end h k = by_place P (name ++ end) (all_append P name end (by_recursion P name h) (by_recursion P end k))

name_is_safe : (name : List ℕ) → IsSafe name → length name ≤ 199 → IsSafe (text_beside name)
name_is_safe [] safe short = absurd (safe.some refl)
name_is_safe (c ∷ cs) safe short =
    let end = codes ".utf8.txt" in
    let long : length (text_beside (c ∷ cs)) ≡ length (c ∷ cs) + 9 = length-append (c ∷ cs) end in
    record {
      some = append_some (c ∷ cs) end safe.some;
      short = omega (arith, long, short);
      printed = all_beside (λ c. IsTrue (is_printed c)) (c ∷ cs) end safe.printed
          (by_place (λ c. IsTrue (is_printed c)) end (refl, (refl, (refl, (refl, (refl, (refl, (refl, (refl, (refl, tt))))))))));
      allowed = all_beside (λ c. IsFalse (is_one_of (codes "/\\:*?\"<>|") c)) (c ∷ cs) end safe.allowed
          (by_place (λ c. IsFalse (is_one_of (codes "/\\:*?\"<>|") c)) end
          (refl, (refl, (refl, (refl, (refl, (refl, (refl, (refl, (refl, tt))))))))));
      not_here = λ same. let one : length (text_beside (c ∷ cs)) ≡ 1 = ap length same in omega (arith, long, one);
      not_above = λ same. let two : length (text_beside (c ∷ cs)) ≡ 2 = ap length same in omega (arith, long, two);
      first = safe.first;
      last = subst (λ (d : ℕ). is_one_of (codes ". ") d ≡ false) (sym (last_append (c ∷ cs) 46 (codes "utf8.txt"))) refl;
      no_device = device_beside (c ∷ cs) safe.no_device;
    }

pub beside_is_safe : (naming : Naming) (e : Entry) (number : ℕ) → IsEntry e → length e.name ≤ 30 → IsNumber number
    → IsSafe (text_beside (host_name naming e number))
beside_is_safe naming e number fits most counts =
    name_is_safe (host_name naming e number) (host_is_safe naming e number fits most counts) (host_short naming e number fits most counts)

-- ---- they are apart

-- a name without regard to case, with a type and an aux type at its end
record EndsInType (name : List ℕ) : Type 0 where
  front : List ℕ
  type : ℕ
  aux : ℕ
  is : folded name ≡ front ++ told_tail type aux

ends_in_type : (naming : Naming) (e : Entry) (n : ℕ) → IsFile naming e → IsNumber n → EndsInType (host_name naming e n)
ends_in_type naming e n file counts =
    let begins = host_begins naming e n file.fits counts in
    record {
      front = folded begins.text ++ told_number n;
      type = type_of e;
      aux = aux_of e;
      is = ap folded begins.is
          ∙ folded_end begins.text (ending naming e n) (end_ending naming e n file.fits counts)
          ∙ ap (λ (end : List ℕ). folded begins.text ++ (told_number n ++ end)) (tail_some naming e file.tail)
          ∙ sym (append_assoc (folded begins.text) (told_number n) (told_tail (type_of e) (aux_of e)));
    }

folded_beside : (name : List ℕ) → folded (text_beside name) ≡ (folded name ++ codes ".u") ++ codes "tf8.txt"
folded_beside name = folded_append name (codes ".utf8.txt") ∙ sym (append_assoc (folded name) (codes ".u") (codes "tf8.txt"))

no_file : (name other : List ℕ) → EndsInType other → folded (text_beside name) ≢ folded other
no_file name other ends same =
    let parts = ends_same (folded name ++ codes ".u") ends.front (codes "tf8.txt") (told_tail ends.type ends.aux) refl
    (sym (folded_beside name) ∙ same ∙ ends.is) in
    let first : 116 ≡ 35 = ap (λ (text : List ℕ). get_or text 0 0) parts.1 in
    omega (arith, first)

pub same_files : (name other : List ℕ) → folded (text_beside name) ≡ folded (text_beside other) → folded name ≡ folded other
same_files name other same =
    let parts = ends_same (folded name) (folded other) (codes ".utf8.txt") (codes ".utf8.txt") refl
    (sym (folded_append name (codes ".utf8.txt")) ∙ same ∙ folded_append other (codes ".utf8.txt")) in
    parts.0

pub texts_apart : (naming : Naming) (one other : Entry) (m n : ℕ) → IsFile naming one → IsFile naming other → IsNumber m → IsNumber n
    → IsApartBeside naming one other m n
texts_apart naming one other m n file file_too i j = record {
  file = no_file (host_name naming one m) (host_name naming other n) (ends_in_type naming other n file_too j);
  text = same_files (host_name naming one m) (host_name naming other n);
}
