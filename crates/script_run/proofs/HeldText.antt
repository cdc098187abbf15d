-- The lines of the numbers of kept events, type by type.
use Rattle.script_run.proofs.Common.{◌≡◌, ◌++◌, Bool, false, ℕ, List, [], ◌∷◌, length, refl, sym, ap, ◌∙◌, arith, if◌then◌else◌, Form, held_by, written_held}
use Rattle.rule_model.specs.declared.program.TypeInfo.{TypeInfo}

no_numbers : (form : Form) (line : ℕ) (types : List TypeInfo) → written_held form line types [] ≡ []
no_numbers form line [] = refl
no_numbers form line (ty ∷ types) = refl

-- where no number is left there is no line
pub none_next : (form : Form) (line : ℕ) (before : List ℕ) (ty : TypeInfo) (types : List TypeInfo) (numbers : List ℕ) → length numbers ≡ 0
    → before ++ written_held form line types numbers ≡ before ++ written_held form line (ty ∷ types) numbers
none_next form line before ty types [] none = ap (λ z. before ++ z) (no_numbers form line types ∙ sym (no_numbers form line (ty ∷ types)))
none_next form line before ty types (number ∷ numbers) none = absurd (omega (arith, none))

-- a type that is no event type has no line
pub no_line : (form : Form) (line : ℕ) (before : List ℕ) (ty : TypeInfo) (types : List TypeInfo) (numbers : List ℕ) → ty.event ≡ false → before ++ written_held form line types numbers ≡ before ++ written_held form line (ty ∷ types) numbers
no_line form line before ty types [] none = ap (λ z. before ++ z) (no_numbers form line types)
no_line form line before ty types (number ∷ numbers) none =
    ap (λ (b : Bool). before ++ (if b then held_by form line ty.name number ++ written_held form line types numbers else written_held form line types (number ∷ numbers))) (sym none)
