use Rattle.join_memory.proofs.Common.{◌≡◌, ◌&&◌, true, take, is_some, Value, same_value, at, Named, Row, name_cmp, has, joins, joined, has_name, has_left}
use Rattle.join_memory.proofs.Common.{has_candidate, beside, NamesLeave}
use Rattle.join_memory.proofs.candidates.Candidates.leave.Given as goal

abbrev pub invariant-loop-who : goal.invariant-loop-who
invariant-loop-who g l = record {
  pattern : l.self.pattern ≡ l.initial.self.pattern;
  keeps : NamesLeave l.initial.self l.self (g.F.Facts.map l.facts) (take l.who-index l.names);
  under : (value : Value) (who : Named) → is_some (at same_value name_cmp l.self.names value who) ≡ true → is_some (at same_value name_cmp l.initial.self.names value who) ≡ true;
  rows : (r : Row) → has l.found.items r ≡ joined (joins l.initial.self.pattern (g.F.Facts.map l.facts)) (has_left (beside l.left l.initial.self) (g.F.Facts.map l.facts))
      (λ c. has_name (take l.who-index l.names) c && has_candidate l.initial.self (g.F.Facts.map l.facts) c) r;
}
