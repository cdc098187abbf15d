use Rattle.alpha_memory.proofs.{Common.{◌≡◌, ◌∙◌, ap, subst, List, IfOk, Named, names_of}, Answering.{all_names}}
use Rattle.alpha_memory.proofs.memory.AlphaMemory.all.Goals as goal

pub returns : goal.returns
returns c =
    subst (λ (all : List Named). IfOk c.names_in.result (λ found. found.items ≡ all))
    (all_names c.self.inside.by_tag.entries c.self.inside.next c.self.inside.by_join c.self.invariant c.in_ok-by_number.by_number c.in_ok-by_number.ensures c.names_in.ensures.sorted
    ∙ ap names_of c.self.view_is)
    c.names_in.ensures.names
