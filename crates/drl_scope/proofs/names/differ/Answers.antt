use Rattle.drl_scope.{proofs.{Common.{sym, refl, ◌∙◌, arith}, NameLemmas.{next_of, twice_in, still_distinct}}, specs.Names.{are_distinct}}
use Rattle.drl_scope.proofs.names.differ.Goals as goal

pub loop-name-init : goal.loop-name-init
unfolding are_distinct
loop-name-init c = record { parts = rw c.new-earlier.ensures refl; apart = rw c.new-earlier.ensures refl }

pub returns-then-holds : goal.returns-then-holds
returns-then-holds c = sym (twice_in c.loop-name.earlier c.args.names.now c.loop-name.name-index c.name-item.result c.loop-name.invariant.parts (omega arith) c.name-item.is (sym c.holds.ensures ∙ c.if-holds.true))

pub loop-name-preserved : goal.loop-name-preserved
loop-name-preserved c = record {
  parts = rw c.in_ok-earlier.ensures (next_of c.loop-name.earlier c.args.names.now c.loop-name.name-index c.name-item.result c.loop-name.invariant.parts (omega arith) c.name-item.is);
  apart = rw c.in_ok-earlier.ensures (still_distinct c.loop-name.earlier c.name-item.result c.loop-name.invariant.apart (sym c.holds.ensures ∙ c.if-holds.false));
}
