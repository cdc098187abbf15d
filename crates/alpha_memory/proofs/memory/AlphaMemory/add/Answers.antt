use Rattle.alpha_memory.proofs.{Common.{◌∙◌, ap, ◌++◌, ◌∷◌, [], nat_cmp, is_at, lookup, option_and_then, has_candidate_tag, Place}, Agreeing.{no_place}}
use Rattle.alpha_memory.proofs.Agreeing.{Agree-put, listed-put, Agree-same, listed-same, undone}
use Rattle.alpha_memory.proofs.memory.AlphaMemory.add.Goals as goal

pub invariant_of-self-in-Ok : goal.invariant_of-self-in-Ok
invariant_of-self-in-Ok c =
    let place : Place = record { number = c.self.inside.next; id = c.args.who.id; join = c.in_ok-copy.field-0 } in
    let new = ap (λ list. has_candidate_tag list c.args.who.tag.0) c.self.view_is ∙ c.requires in
    let fits = rw c.in_ok-next.ensures.ok_part at c.checked_add.ensures in
    rw fits.1
    (Agree-put c.self.inside.by_tag.entries c.insert.new.self.entries c.self.inside.by_join c.put.new.self c.args.who.tag.0 place c.self.invariant c.in_ok-insert.ensures.unique
    new c.in_ok-insert.ensures.updates.0 (rw c.in_ok-copy.ensures c.in-Ok.ensures.kept))

pub invariant_of-self-in-Err : goal.invariant_of-self-in-Err
invariant_of-self-in-Err c =
    let place : Place = record { number = c.self.inside.next; id = c.args.who.id; join = c.in_ok-copy.field-0 } in
    let new = ap (λ list. has_candidate_tag list c.args.who.tag.0) c.self.view_is ∙ c.requires in
    let none = no_place c.self.inside.by_tag.entries c.self.inside.next c.self.inside.by_join c.self.invariant c.args.who.tag.0 new in
    Agree-same c.self.inside.by_tag.entries c.remove.new.self.entries c.self.inside.next c.self.inside.by_join c.put.new.self c.self.invariant c.remove.ensures.unique
    (undone c.self.inside.by_tag.entries c.insert.new.self.entries c.remove.new.self.entries c.args.who.tag.0 place none c.in_ok-insert.ensures.updates.0 c.remove.ensures.updates.0)
    (λ join number. ap (option_and_then (lookup (is_at (nat_cmp number)))) (c.in-Err.ensures.err join))

pub returns-in-Ok-clause-ok : goal.returns-in-Ok-clause-ok
returns-in-Ok-clause-ok c =
    let place : Place = record { number = c.self.inside.next; id = c.args.who.id; join = c.in_ok-copy.field-0 } in
    let new = ap (λ list. has_candidate_tag list c.args.who.tag.0) c.self.view_is ∙ c.requires in
    listed-put c.self.inside.by_tag.entries c.insert.new.self.entries c.self.inside.by_join c.put.new.self c.args.who.tag.0 place c.self.invariant c.in_ok-insert.ensures.unique
    new c.in_ok-insert.ensures.updates.0 (rw c.in_ok-copy.ensures c.in-Ok.ensures.kept)
    ∙ ap (λ list. list ++ (c.args.who, c.in_ok-copy.field-0) ∷ []) c.self.view_is
    ∙ ap (λ join. c.args.self.now ++ (c.args.who, join) ∷ []) c.in_ok-copy.ensures

pub returns-in-Err-clause-err : goal.returns-in-Err-clause-err
returns-in-Err-clause-err c =
    let place : Place = record { number = c.self.inside.next; id = c.args.who.id; join = c.in_ok-copy.field-0 } in
    let new = ap (λ list. has_candidate_tag list c.args.who.tag.0) c.self.view_is ∙ c.requires in
    let none = no_place c.self.inside.by_tag.entries c.self.inside.next c.self.inside.by_join c.self.invariant c.args.who.tag.0 new in
    listed-same c.self.inside.by_tag.entries c.remove.new.self.entries c.self.inside.next c.self.inside.by_join c.put.new.self c.self.invariant c.remove.ensures.unique
    (undone c.self.inside.by_tag.entries c.insert.new.self.entries c.remove.new.self.entries c.args.who.tag.0 place none c.in_ok-insert.ensures.updates.0 c.remove.ensures.updates.0)
    (λ join number. ap (option_and_then (lookup (is_at (nat_cmp number)))) (c.in-Err.ensures.err join))
    ∙ c.self.view_is
