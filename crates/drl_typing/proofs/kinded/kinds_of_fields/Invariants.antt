use Rattle.drl_typing.proofs.{Common.{◌≡◌, take, taken_kinds}, Once.{names_in}}
use Rattle.drl_typing.proofs.kinded.kinds_of_fields.Given as goal

abbrev pub invariant-loop-field : goal.invariant-loop-field
invariant-loop-field l = record {
  names : l.before ≡ names_in (take l.field-index l.fields);
  kinds : l.kinds.items ≡ taken_kinds (take l.field-index l.fields);
}
