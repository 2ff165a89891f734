-- What isn't UTF-8, and how long the parts of a text are.
use Rattle.std.proofs.Common.{◌≡◌, ◌≤◌, ◌+◌, ◌++◌, ◌∙◌, ℕ, true, false, Bool, List, Option, Some, ap, arith, length, length-append, refl, subst}
use Rattle.std.specs.Prelude.{IfSome, IsUtf8}
use Rattle.std.proofs.lemmas.Str.{IsUtf8-from_is_utf8}
use Rattle.std.specs.Str.{is_utf8}
use Rattle.plain_text.proofs.CutLaws.{cuts_by_lines}
use Rattle.plain_text.specs.Separator.{cut}
use Rattle.plain_text.specs.SeparatorLaws.{IsSeparatorLine}

-- what isn't UTF-8 doesn't pass the test for it
pub no-text : (bytes : List ℕ) → ¬ IsUtf8 bytes → is_utf8 bytes ≡ false
no-text bytes never =
    let go : (b : Bool) → is_utf8 bytes ≡ b → b ≡ false = λ b. elim b as (λ b. is_utf8 bytes ≡ b → b ≡ false) [ true ↦ λ is. absurd (never (IsUtf8-from_is_utf8 bytes is)) | false ↦ λ is. refl ]
    in go (is_utf8 bytes) refl

-- what stands after the line `%%` is no longer than the text
pub cut-short : (text : List ℕ) (texts : List ℕ × List ℕ) → cut text ≡ Some texts → length texts.1 ≤ length text
cut-short text texts is =
    let parts = subst (λ (o : Option (List ℕ × List ℕ)). IfSome o (λ texts. (bytes : List ℕ) × IsSeparatorLine bytes texts.1 × (text ≡ texts.0 ++ (bytes ++ texts.1)))) is (cuts_by_lines text).bytes_are in
    let long : length text ≡ length texts.0 + (length parts.0 + length texts.1) =
    ap length parts.2 ∙ length-append texts.0 (parts.0 ++ texts.1) ∙ ap (λ (n : ℕ). length texts.0 + n) (length-append parts.0 texts.1) in
    omega (arith, long)
