use Rattle.std.{proofs.Common.{List, [], refl, rules, subst, sym, ◌++◌, ◌↔◌, ◌∷◌, ◌≡◌}, specs.List.Sorted.{IsStrictlySortedBy}}
use Rattle.{fx_base.{proofs.Sequences.{empty_from_length}, specs.Lists.{In}}, laden_rows.specs.Extras.{extra_cmp}, row_delta.specs.declared.extra.Extra.{Extra}}
use Rattle.image_making.{proofs.Going.{all_listed, extra_of, in_listed, listed_in_order, one_listed}, specs.Moved.{extra_in}}
use Rattle.image_making.proofs.extras.listed.Goals as goal

pub loop-entry-preserved : goal.loop-entry-preserved
loop-entry-preserved c =
    let pushed : c.push.new.self.items ≡ c.loop-entry.extras.items ++ extra_of c.in-Some.entry ∷ [] = search rules in
    one_listed c.loop-entry.extras.items c.push.new.self.items c.in-Some.entry c.loop-entry.entry-iterator.rest.items c.next.new.self.rest.items c.args.moved.entries (extra_of c.in-Some.entry) refl pushed
    c.in-Some.ensures.steps.0 c.loop-entry.invariant

pub returns-clause-in_order : goal.returns-clause-in_order
returns-clause-in_order c =
    let rest = c.loop-entry.entry-iterator.rest in
    subst (IsStrictlySortedBy extra_cmp)
    (sym (all_listed c.loop-entry.extras.items rest.items c.args.moved.entries (empty_from_length rest.items rest.len rest.ok.0 c.in-None.ensures.steps.0) c.loop-entry.invariant))
    (listed_in_order c.args.moved c.into_iter.ensures.into_iter_gives.5)

pub returns-clause-listed : goal.returns-clause-listed
returns-clause-listed c e =
    let rest = c.loop-entry.entry-iterator.rest in
    subst (λ (es : List Extra). In e es ↔ extra_in c.args.moved e)
    (sym (all_listed c.loop-entry.extras.items rest.items c.args.moved.entries (empty_from_length rest.items rest.len rest.ok.0 c.in-None.ensures.steps.0) c.loop-entry.invariant))
    (in_listed c.args.moved c.into_iter.ensures.into_iter_gives.5 e)
