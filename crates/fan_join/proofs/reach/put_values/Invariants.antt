use Rattle.fan_join.proofs.Common.{◌≡◌, ℕ, true, take, Value, Named, candidate_value, has_name, is_member_under}
use Rattle.fan_join.proofs.reach.put_values.Given as goal

abbrev pub invariant-loop-who : goal.invariant-loop-who
invariant-loop-who g l = record {
  stays : (value : Value) (k : ℕ) → is_member_under l.initial.reached value k ≡ true → is_member_under l.reached value k ≡ true;
  put : (who : Named) → has_name (take l.who-index l.come) who ≡ true → is_member_under l.reached (candidate_value l.member.pattern (g.F.Facts.map l.facts) who) l.place ≡ true;
}
