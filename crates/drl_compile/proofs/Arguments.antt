-- A type that is not declared has no field that a function could take.
use Rattle.drl_compile.proofs.Common.{◌≡◌, ℕ, min, List, [], Option, Some, None, option_map, refl, option_and_then, TypeTree, place_of_name, field_bound}
use Rattle.{drl_compile.proofs.Common.{argument_place, type_or_none}, drl_grammar.specs.declared.condition.SourceTree.{SourceTree}}
use Rattle.drl_scope.specs.Names.{place_from}

no_field : (field : Option (List ℕ)) → None ≡ option_map (λ k. min k 255) (option_and_then (place_of_name []) field)
unfolding place_from
no_field None = refl
no_field (Some f) = refl

pub no_argument : (t : Option TypeTree) (s : SourceTree) (v : List ℕ) → None ≡ t → None ≡ argument_place (type_or_none t) s v
no_argument None s v e = no_field (field_bound v s.parts)
no_argument (Some t) s v e = absurd cc
