use Rattle.command_words.proofs.Common.{IfSome, Option, ap, ◌∙◌, subst, sym, found_of, rows_of, is_simple, is_simple_and_free, IsWithinBounds}
use Rattle.command_words.{specs.declared.asking.Asked.{Asked}, proofs.{Faults.{simple, simple_and_free}, Limits.{rows_within}}}
use Rattle.std.proofs.lemmas.Result.{IfOk-weaker}
use Rattle.command_words.proofs.reading.asked.Goals as goal

pub returns-in-Some-clause-within : goal.returns-in-Some-clause-within
returns-in-Some-clause-within c = IfOk-weaker c.asked_of.result _ _
    (λ asked e. subst (λ (o : Option Asked). IfSome o IsWithinBounds) (sym e) (rows_within (rows_of (found_of c.in-Some.matches)))) c.asked_of.ensures

pub parse-requires-clause-simple : goal.parse-requires-clause-simple
parse-requires-clause-simple c = ap is_simple c.in_ok-command.ensures ∙ simple

pub parse-requires-clause-free : goal.parse-requires-clause-free
parse-requires-clause-free c = ap is_simple_and_free c.in_ok-command.ensures ∙ simple_and_free
