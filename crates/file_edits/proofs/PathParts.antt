-- A path is the path of its directory, a slash and the last name.
use Rattle.std.specs.Prelude.{◌≡◌, ◌==◌, ◌||◌, ◌-◌, ℕ, suc, zero, Bool, true, false, if◌then◌else◌, List, [], ◌∷◌, ◌++◌, take, drop, Option, Some, None, option_map}
use Rattle.std.specs.Char.{to_ascii_uppercase}
use Rattle.std.proofs.Common.{refl, sym, ◌∙◌, ap, arith}
use Rattle.std.proofs.lemmas.Bool.{eqb-true}
use Rattle.std.proofs.lemmas.List.{map-append}
use Rattle.pro_dir.specs.Paths.{folded, name_below}
use Rattle.edit_formats.specs.lemmas.Numbers.{other_number}
use Rattle.edit_formats.specs.ProSaves.{above_name, has_slash, last_name, name_start}

not_after : (path : List ℕ) → name_start path ≡ 0 → has_slash path ≡ false
not_after [] none = refl
not_after (byte ∷ path) none = by_test (has_slash (byte ∷ path)) none
  where
    by_test : (slash : Bool) → (if slash then suc (name_start path) else 0) ≡ 0 → slash ≡ false
    by_test true some = absurd (omega (arith, some))
    by_test false none' = refl

first_slash : (byte : ℕ) (rest : Bool) → (byte == 0x2f || rest) ≡ true → rest ≡ false → byte ≡ 0x2f
first_slash byte rest either none = by_test (byte == 0x2f) refl
  where
    by_test : (b : Bool) → (byte == 0x2f) ≡ b → byte ≡ 0x2f
    by_test true is = eqb-true byte 0x2f is
    by_test false is = absurd (cc (is, either, none))

abbrev IsParted : List ℕ → Type 0
IsParted path = (before : ℕ) → name_start path ≡ suc before → take before path ++ 0x2f ∷ drop (suc before) path ≡ path

parted : (path : List ℕ) (before : ℕ) → name_start path ≡ suc before → take before path ++ 0x2f ∷ drop (suc before) path ≡ path
parted [] before start = absurd (omega (arith, start))
parted (byte ∷ path) before start = by_test (λ n. parted path n) (has_slash (byte ∷ path)) refl start
  where
    behind : IsParted path → (n : ℕ) → has_slash (byte ∷ path) ≡ true → name_start path ≡ n → take n (byte ∷ path) ++ 0x2f ∷ drop (suc n) (byte ∷ path) ≡ byte ∷ path
    behind later zero slash none = ap (λ b. b ∷ path) (sym (first_slash byte (has_slash path) slash (not_after path none)))
    behind later (suc n) slash some = ap (λ p. byte ∷ p) (later n some)

    by_test : IsParted path → (slash : Bool) → has_slash (byte ∷ path) ≡ slash → (if slash then suc (name_start path) else 0) ≡ suc before
        → take before (byte ∷ path) ++ 0x2f ∷ drop (suc before) (byte ∷ path) ≡ byte ∷ path
    by_test later true is same = behind later before is (omega (arith, same))
    by_test later false is same = absurd (omega (arith, same))

below_above : (path : List ℕ) → name_below (above_name path) (last_name path) ≡ path
below_above path = by_start (name_start path) refl
  where
    by_start : (start : ℕ) → name_start path ≡ start → name_below (if start == 0 then None else Some (take (start - 1) path)) (drop start path) ≡ path
    by_start zero none = refl
    by_start (suc before) some =
        let less : suc before - 1 ≡ before = omega arith in
        ap (λ b. name_below (if b then None else Some (take (suc before - 1) path)) (drop (suc before) path)) (other_number (suc before) 0 (λ none. absurd (omega (arith, none))))
        ∙ ap (λ n. take n path ++ 0x2f ∷ drop (suc before) path) less
        ∙ parted path before some

folded_below : (above : Option (List ℕ)) (name : List ℕ) → name_below (option_map folded above) (folded name) ≡ folded (name_below above name)
folded_below None name = refl
folded_below (Some path) name = sym (map-append to_ascii_uppercase path (0x2f ∷ name))

-- with capitals in both
pub folded_path : (path : List ℕ) → name_below (option_map folded (above_name path)) (folded (last_name path)) ≡ folded path
folded_path path = folded_below (above_name path) (last_name path) ∙ ap folded (below_above path)
