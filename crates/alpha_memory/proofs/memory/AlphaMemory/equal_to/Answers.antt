use Rattle.alpha_memory.proofs.{Common.{◌≡◌, ◌∙◌, ap, subst, List, IfOk, Named, names_of, with_join, entries}, Answering.{bucket_names, no_bucket}}
use Rattle.alpha_memory.proofs.memory.AlphaMemory.equal_to.Goals as goal

pub returns-in-Some : goal.returns-in-Some
returns-in-Some c =
    subst (λ (all : List Named). IfOk c.names_under.result (λ found. found.items ≡ all))
    (bucket_names c.self.inside.by_tag.entries c.self.inside.next c.self.inside.by_join c.self.invariant c.args.join.now (entries c.in-Some.bucket.now) c.in-Some.ensures c.names_under.ensures.sorted
    ∙ ap (λ list. names_of (with_join list c.args.join.now)) c.self.view_is)
    c.names_under.ensures.names

pub returns-in-None : goal.returns-in-None
returns-in-None c =
    c.new.ensures.items
    ∙ no_bucket c.self.inside.by_tag.entries c.self.inside.next c.self.inside.by_join c.self.invariant c.args.join.now c.in-None.ensures
    ∙ ap (λ list. names_of (with_join list c.args.join.now)) c.self.view_is
