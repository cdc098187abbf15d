use Rattle.line_feed.proofs.{Common.{◌∙◌, arith}, Fronts.{whole_front}}
use Rattle.line_feed.proofs.front.ended.Goals as goal

pub returns-else-len-gt-LINE_MAX-clause-answer : goal.returns-else-len-gt-LINE_MAX-clause-answer
returns-else-len-gt-LINE_MAX-clause-answer c line is =
    let it = whole_front line c.args.front.items is (omega (arith, c.len.ensures, c.args.front.ok.0, c.if-len-gt-LINE_MAX.false)) in (c.from_vec.ensures ∙ it.0, it.1)
