use Rattle.{subrules.proofs.Common.{◌≡◌, ◌++◌, map, at_line}, drl_grammar.specs.declared.file.Body.TheVariants.{Rule}}
use Rattle.subrules.proofs.expanding.add_rules.Given as goal

abbrev pub invariant-loop-rule : goal.invariant-loop-rule
invariant-loop-rule l = record {
  items : l.made.items.items ++ map (at_line l.item.line) (map Rule l.rule-iterator.rest.items) ≡ l.fn.made.items.items ++ map (at_line l.item.line) (map Rule l.fn.rules.items);
  origins : l.made.origins.items ++ map (λ b. l.number) (map Rule l.rule-iterator.rest.items) ≡ l.fn.made.origins.items ++ map (λ b. l.number) (map Rule l.fn.rules.items);
  titles : l.made.titles.items ++ map (λ rule. l.title) l.rule-iterator.rest.items ≡ l.fn.made.titles.items ++ map (λ rule. l.title) l.fn.rules.items;
  front : l.made.front ≡ l.fn.made.front;
}
