use Rattle.command_words.{proofs.Common.{IfSome, Option, ap, ◌∙◌, subst, sym, found_of, rows_of, is_simple, is_simple_and_free}, specs.Desk.{HasLimit}}
use Rattle.command_words.{specs.declared.desk.DeskWords.{DeskWords}, proofs.{Faults.{desk_simple, desk_simple_and_free}, Limits.{desk_within}}}
use Rattle.std.proofs.lemmas.Result.{IfOk-weaker}
use Rattle.command_words.proofs.desk.desk_asked.Goals as goal

pub parse-requires-clause-simple : goal.parse-requires-clause-simple
parse-requires-clause-simple c = ap is_simple c.in_ok-command.ensures ∙ desk_simple

pub parse-requires-clause-free : goal.parse-requires-clause-free
parse-requires-clause-free c = ap is_simple_and_free c.in_ok-command.ensures ∙ desk_simple_and_free

pub returns-in-Some-clause-within : goal.returns-in-Some-clause-within
returns-in-Some-clause-within c = IfOk-weaker c.asked_of.result _ _
    (λ asked e. subst (λ (o : Option DeskWords). IfSome o HasLimit) (sym e) (desk_within (rows_of (found_of c.in-Some.matches)))) c.asked_of.ensures
