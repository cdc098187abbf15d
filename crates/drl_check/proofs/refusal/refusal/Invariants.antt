use Rattle.drl_check.proofs.Common.{◌≡◌, [], take, drop, types_of, rules_of, type_names, rule_names, declared_entries, entry_names, failure_from}
use Rattle.drl_check.proofs.refusal.refusal.Given as goal

abbrev pub invariant-loop-place : goal.invariant-loop-place
invariant-loop-place l = record {
  types : l.earlier.types ≡ type_names (types_of (take l.place l.items));
  entries : l.earlier.entries ≡ declared_entries (take l.place l.items);
  rules : l.earlier.rules ≡ rule_names (rules_of (take l.place l.items));
  known : l.known ≡ entry_names (take l.place l.items);
  same : failure_from l.items (take l.place l.items) (drop l.place l.items) ≡ failure_from l.items [] l.items;
}
