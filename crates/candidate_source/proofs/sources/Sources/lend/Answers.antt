use Rattle.candidate_source.{proofs.{Common.{◌∙◌, ap, sym, ℕ, Option}, Moving.{lent_item}}, specs.{Lending.{with_given}, Sources.{in_list}}}
use Rattle.std.specs.Option.{ghost_name_of}
use borrow.Follows.Closed.{read_of}
use Rattle.candidate_source.proofs.sources.Sources.lend.Goals as goal

pub returns-in-Some : goal.returns-in-Some
returns-in-Some c =
    let is = sym c.in-Some.is ∙ c.place_of.ensures in (
      ap (λ (at : Option ℕ). read_of (ghost_name_of c.get_mut.result) (with_given c.args.self.now at) c.args.self.now) is,
      record { writes_back = tt; value = lent_item c.args.self.now.list.items c.in-Some.at c.get_mut.result c.get_mut.ensures.item ∙ ap (in_list c.args.self.now.list.items) is },
    )
