use Rattle.drl_compile.proofs.Common.{◌≡◌, ◌++◌, map, drop, field_info}
use Rattle.drl_compile.proofs.infos_of.infos_of_fields.Given as goal

abbrev pub invariant-loop-field : goal.invariant-loop-field
invariant-loop-field l = l.infos.items ++ map field_info (drop l.field-index l.fields) ≡ map field_info l.fields
