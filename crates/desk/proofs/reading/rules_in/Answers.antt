use Rattle.{std.proofs.{Common.{List, ℕ, subst}, lemmas.Result.{IfOk-weaker}}, drl_parse.specs.Parsed.{file_limit}, desk.specs.Rules.{AreAccepted, AreRefused}}
use Rattle.desk.proofs.Wanting.{accepted_in, refused_in}
use Rattle.desk.proofs.reading.rules_in.Goals as goal

pub returns-in-Ok-clause-accepted : goal.returns-in-Ok-clause-accepted
unfolding file_limit
returns-in-Ok-clause-accepted g c =
    IfOk-weaker c.rules_of.result _ _
    (λ rules of files told. accepted_in c.args.name.now _ files c.in-Ok.file.items c.args.shows c.args.named rules told c.in-Ok.ensures.bytes
    (subst (λ (read : List ℕ). AreAccepted read c.args.shows c.args.named rules) c.deref.ensures.value of))
    c.rules_of.ensures.accepted

pub returns-in-Ok-clause-refused : goal.returns-in-Ok-clause-refused
unfolding file_limit
returns-in-Ok-clause-refused g c refusal is files told =
    refused_in c.args.name.now _ files c.in-Ok.file.items refusal told c.in-Ok.ensures.found c.in-Ok.ensures.bytes
    (subst (λ (read : List ℕ). AreRefused read refusal) c.deref.ensures.value (c.rules_of.ensures.refused refusal is))
