use Rattle.{std.proofs.Common.{◌≡◌, ◌++◌, sym, ◌∙◌}, fed_desk.{specs.Runs.{fed_setting}, proofs.Coming.{come_on, where_ok}}}
use Rattle.fed_desk.proofs.desk.feed.Goals as goal

pub returns-clause-fed : goal.returns-clause-fed
returns-clause-fed g c =
    let E = g.E.Engine in
    let after = c.in-Ok.ensures in
    let grows : c.extend_from_slice.new.self.items ≡ c.args.desk.now.text.items ++ c.go_on.new.news.items =
    rw c.deref.ensures.value at (where_ok c.extend_from_slice.result _ _ _ (sym c.is_err.ensures.value ∙ c.if-is_err.false) c.extend_from_slice.ensures.items) in
    come_on E.stands (fed_setting E.gives E.fires E.counts E.made_with E.table) c.in-Some.running c.args.desk.now.run c.in-Ok.after c.args.bytes.now c.go_on.new.news.items
    c.args.desk.now.text.items c.extend_from_slice.new.self.items (sym c.take.ensures.value ∙ c.in-Some.is) (rw c.new-news.ensures.items at after.fed) grows
    after.steps after.program after.table after.first
