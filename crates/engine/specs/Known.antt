-- Lines of which the new facts are of types of the program, and the firings of its rules.
use Rattle.std.specs.{Prelude.{Bool, true, List, length, nat_lt}, List.{list_all}}
use Rattle.rule_model.specs.declared.program.Program.{Program}
use Rattle.answer_lines.specs.declared.lines.{Fired.{Fired, TheVariants.{No, Yes}}, OutLine.{OutLine, TheVariants.{New, Fire, Fault, Inserted, Modified}}}
use Rattle.answer_lines.specs.declared.lines.OutLine.TheVariants.{Retracted, FiredFor}

-- the type of a new fact, or the rule that fires, is one of the program; of a fact that was there before, nothing is said
abbrev pub is_known : Program → OutLine → Bool
is_known p (New id ty) = nat_lt ty.0 (length p.types)
is_known p (Fire rule cells) = nat_lt rule.0 (length p.rules)
is_known p (Fault code) = true
is_known p (Inserted f) = nat_lt f.ty.0 (length p.types)
is_known p (Modified f) = true
is_known p (Retracted id ty) = true
is_known p (FiredFor rule clock facts values) = nat_lt rule.0 (length p.rules)

abbrev pub are_known : Program → List OutLine → Bool
are_known p lines = list_all (is_known p) lines

abbrev pub is_known_firing : Program → Fired → Bool
is_known_firing p No = true
is_known_firing p (Yes lines) = are_known p lines
