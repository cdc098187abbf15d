use Rattle.beta_node.proofs.{Common.{sym, subst, option_map}, Beyond.{TellsOver, join_over, exists_over, not_over, fold_over}}
use Rattle.beta_node.proofs.node.Node.extras.Goals as goal

pub returns-in-Join : goal.returns-in-Join
returns-in-Join g c =
    let look = g.F.Facts.map c.args.facts.now in
    let shared = option_map (λ s. s.now) c.args.shared in
    subst (TellsOver look c.args.rule c.args.condition c.new.result.items shared) (sym c.in-Join.is) (join_over look c.args.rule c.args.condition c.new.result.items c.in-Join.field-0 shared c.new.ensures.items)

pub returns-in_ok-extras-in-Not : goal.returns-in_ok-extras-in-Not
returns-in_ok-extras-in-Not g c =
    let look = g.F.Facts.map c.args.facts.now in
    let shared = option_map (λ s. s.now) c.args.shared in
    let extras = c.in_ok-extras-in-Not.extras.items in
    subst (TellsOver look c.args.rule c.args.condition extras shared) (sym c.in-Not.is) (not_over look c.args.rule c.args.condition extras c.in-Not.waiting shared c.in_ok-extras-in-Not.ensures)

pub returns-in_ok-extras-in-Exists : goal.returns-in_ok-extras-in-Exists
returns-in_ok-extras-in-Exists g c =
    let look = g.F.Facts.map c.args.facts.now in
    let shared = option_map (λ s. s.now) c.args.shared in
    let extras = c.in_ok-extras-in-Exists.extras.items in
    subst (TellsOver look c.args.rule c.args.condition extras shared) (sym c.in-Exists.is) (exists_over look c.args.rule c.args.condition extras c.in-Exists.tally shared c.in_ok-extras-in-Exists.ensures)

pub returns-in_ok-extras-in-Fold : goal.returns-in_ok-extras-in-Fold
returns-in_ok-extras-in-Fold g c =
    let look = g.F.Facts.map c.args.facts.now in
    let shared = option_map (λ s. s.now) c.args.shared in
    let extras = c.in_ok-extras-in-Fold.extras.items in
    subst (TellsOver look c.args.rule c.args.condition extras shared) (sym c.in-Fold.is) (fold_over look c.args.rule c.args.condition extras c.in-Fold.fold shared c.in_ok-extras-in-Fold.ensures)
