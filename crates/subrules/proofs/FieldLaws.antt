-- How many fields a type has with those that it inherits.
use Rattle.subrules.proofs.Common.{◌≡◌, ◌+◌, ℕ, List, [], ◌∷◌, ◌++◌, length, ap, ◌∙◌, arith, length-append, WrittenType, number_of_fields}
use Rattle.subrules.specs.Expanded.{inherited_fields}

pub fields_counted : (fields : List (List ℕ × List ℕ)) (types : List WrittenType) → length (inherited_fields fields types) ≡ length fields + number_of_fields types
unfolding inherited_fields
fields_counted fields [] = Prim.grind arith
fields_counted fields (u ∷ types) =
    fields_counted (u.fields ++ fields) types ∙ ap (λ n. n + number_of_fields types) (length-append u.fields fields) ∙ moved (length u.fields) (length fields) (number_of_fields types)
  where
    moved : (a b c : ℕ) → (a + b) + c ≡ b + (a + c)
    moved a b c = Prim.grind arith
