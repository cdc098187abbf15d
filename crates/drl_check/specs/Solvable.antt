-- Rules that can never match: no events meet the temporal tests of their patterns that bind events (Dechter, Meiri, Pearl 1991,
-- consistency of simple temporal networks). What a `not`, an `exists` or an accumulate asks for does not count.
use Rattle.std.specs.Prelude.{◌≤◌, Bool, false, not, List, [], length}
use Rattle.drl_grammar.specs.declared.file.Body.{Body}
use Rattle.drl_grammar.specs.declared.file.Body.TheVariants as body
use Rattle.drl_grammar.specs.declared.file.{Item.{Item}, TypeTree.{TypeTree}}
use Rattle.rule_model.specs.declared.program.Program.{Program}
use Rattle.life_edges.specs.Edges.{HaveNetwork}
use Rattle.expiry_infer.specs.Solvable.{can_match}
use Rattle.drl_scope.specs.{Declarations.{types_of}, EntryPoints.{entry_names}, Sight.{begin}}
use Rattle.drl_compile.specs.Programs.{conditions_meant, program_of, rule_of}

abbrev pub never_matches : List Item → Body → Bool
never_matches all (body.Rule r) = not (can_match (program_of (record { items = all })) (rule_of (types_of all) (entry_names all) r).conditions)
never_matches all (body.Package path) = false
never_matches all (body.Import path star) = false
never_matches all (body.Dialect text) = false
never_matches all (body.Declare t) = false
never_matches all (body.Entry name lateness) = false

-- ---- the same over a program of the types alone, and without entry points

abbrev pub never_matches_alone : Program → List TypeTree → Body → Bool
never_matches_alone alone types (body.Rule r) = not (can_match alone (conditions_meant types [] begin r.conditions))
never_matches_alone alone types (body.Package path) = false
never_matches_alone alone types (body.Import path star) = false
never_matches_alone alone types (body.Dialect text) = false
never_matches_alone alone types (body.Declare t) = false
never_matches_alone alone types (body.Entry name lateness) = false

-- ---- what earlier checks have told of an item

-- a rule has at most 8 conditions
abbrev pub HasFewConditions : Body → Type 0
HasFewConditions (body.Rule r) = length r.conditions ≤ 8
HasFewConditions (body.Package path) = Unit {0}
HasFewConditions (body.Import path star) = Unit {0}
HasFewConditions (body.Dialect text) = Unit {0}
HasFewConditions (body.Declare t) = Unit {0}
HasFewConditions (body.Entry name lateness) = Unit {0}

-- the conditions of a rule have a network
abbrev pub HasNetwork : List TypeTree → Body → Type 0
HasNetwork types (body.Rule r) = HaveNetwork (conditions_meant types [] begin r.conditions)
HasNetwork types (body.Package path) = Unit {0}
HasNetwork types (body.Import path star) = Unit {0}
HasNetwork types (body.Dialect text) = Unit {0}
HasNetwork types (body.Declare t) = Unit {0}
HasNetwork types (body.Entry name lateness) = Unit {0}
