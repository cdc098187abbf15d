-- What lies behind a handle.
use Rattle.std.{proofs.Common.{◌≡◌, ◌≢◌, ◌⊎◌, ◌∙◌, ℕ, Option, Some, inl, inr, subst, sym}, specs.Prelude.{IfSome}}

-- what holds of a value that is there
pub some_of : {A : Type 0} (o : Option A) (x : A) (P : A → Type 0) → Some x ≡ o → P x → IfSome o P
some_of {A = A} o x P is h = subst (λ (it : Option A). IfSome it P) is h

-- a status that is another one is neither of two
pub neither : (status other first second : ℕ) → status ≡ other → other ≢ first → other ≢ second → (status ≡ first) ⊎ (status ≡ second) → ⊥
neither status other first second is not_first not_second (inl e) = not_first (sym is ∙ e)
neither status other first second is not_first not_second (inr e) = not_second (sym is ∙ e)
