use Rattle.join_memory.proofs.Common.{◌∙◌, sym, ap, List, ◌&&◌, is_some, eq_by_cmp, Value, JoinIndex, name_cmp, Row, has, joins, joined, row_kept, has_left}
use Rattle.join_memory.proofs.{Common.{beside, IfOk-weaker, subst, Option, IfSome, SeesRows}, Sharing.{one_made, none_made}}
use Rattle.join_tests.specs.declared.sought.Sight.{Sight}
use Rattle.join_memory.proofs.candidates.Candidates.with_sight.Goals as goal

pub returns-in-Some : goal.returns-in-Some
returns-in-Some g c seen =
    let look = g.F.Facts.map c.args.facts.now in
    let p = c.args.self.now.pattern in
    let who = c.args.who in
    let left = has_left (beside c.args.left.now c.args.self.now) look in
    IfOk-weaker c.made_with_name.result _ _
    (λ found h r. h r ∙ ap (λ (index : JoinIndex Value Row (Unit {0})). joined (joins p look) (row_kept p index look) (eq_by_cmp name_cmp who) r) c.rows.ensures
    ∙ one_made (joins p look) left who r ∙ ap (λ b. joined (joins p look) left (λ n. eq_by_cmp name_cmp who n && b) r) (sym (ap is_some c.in-Some.is)))
    (c.made_with_name.ensures (subst (λ (o : Option Sight). IfSome o (SeesRows p look who)) c.in-Some.is seen))

pub returns-in-None : goal.returns-in-None
returns-in-None g c seen r =
    let look = g.F.Facts.map c.args.facts.now in
    let p = c.args.self.now.pattern in
    let who = c.args.who in
    let left = has_left (beside c.args.left.now c.args.self.now) look in
    ap (λ (rows : List Row). has rows r) c.new.ensures.items
    ∙ none_made (joins p look) left who r ∙ ap (λ b. joined (joins p look) left (λ n. eq_by_cmp name_cmp who n && b) r) (sym (ap is_some c.in-None.is))
