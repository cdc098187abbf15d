use Rattle.{alpha_memory.proofs.Common.{rules, IsFromIterResult, nat_cmp, name_entry, IfOk-at_ok}, std.proofs.lemmas.Iterator.{YieldsList-from_map}}
use Rattle.std.proofs.lemmas.Iterator.{Adapters.{fact_from_collect}, Consumers.{YieldsList-from_rest, YieldsList-at}}
use Rattle.alpha_memory.proofs.memory.names_by_number.Goals as goal

pub returns : goal.returns
returns c =
    IfOk-at_ok _ c.in_ok-collect.was
    (fact_from_collect (IsFromIterResult nat_cmp) c.collect.result c.collect.ensures.ran
    (YieldsList-from_map _ name_entry (YieldsList-at c.map-names.ensures.source (YieldsList-from_rest c.args.by_tag.now.entries c.iter.ensures.rest)) c.map-names.ensures.closure (λ x r q k. search rules)))
