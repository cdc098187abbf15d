use Rattle.beta_join.proofs.Common.{◌≡◌, ◌∙◌, sym, ap, subst, ◌||◌, is_some, eq_by_cmp, on_ok_weaker, Row, row_cmp, Look, Memories, has_left, has_right}
use Rattle.beta_join.proofs.{Common.{KeepsMemories}, Turns.{row_arrives, no_row_arrives}}
use Rattle.beta_join.proofs.join.BetaJoin.row_comes.Goals as goal

kept : (m n : Memories (Unit {0})) (look : Look) (row copy : Row) → copy ≡ row → KeepsMemories m n look (λ r. has_left m look r || eq_by_cmp row_cmp copy r) (has_right m look)
    → KeepsMemories m n look (λ r. has_left m look r || eq_by_cmp row_cmp row r) (has_right m look)
kept m n look row copy is = subst (λ row. KeepsMemories m n look (λ r. has_left m look r || eq_by_cmp row_cmp row r) (has_right m look)) is

pub returns-in-Some-clause-turned : goal.returns-in-Some-clause-turned
returns-in-Some-clause-turned g c =
    let look = g.F.Facts.map c.args.facts.now in
    let m = c.args.self.now.memories in
    no_row_arrives m c.put_left.new.self look c.args.row.now c.args.change.now (kept m c.put_left.new.self look c.args.row.now c.in_ok-copy.field-0 c.in_ok-copy.ensures c.in_ok-put_left.ensures.keeps)
    (ap (has_left m look) (sym c.in_ok-copy.ensures) ∙ ap is_some (sym c.in_ok-put_left.ensures.before ∙ c.in-Some.is))

pub returns-in-None-clause-turned : goal.returns-in-None-clause-turned
returns-in-None-clause-turned g c =
    let look = g.F.Facts.map c.args.facts.now in
    let m = c.args.self.now.memories in
    on_ok_weaker c.arrive.result
    (row_arrives m c.put_left.new.self look c.args.row.now c.args.change.now c.arrive.new.self c.in_ok-rows.rows.items
    (kept m c.put_left.new.self look c.args.row.now c.in_ok-copy.field-0 c.in_ok-copy.ensures c.in_ok-put_left.ensures.keeps)
    (ap (has_left m look) (sym c.in_ok-copy.ensures) ∙ ap is_some (sym c.in_ok-put_left.ensures.before ∙ c.in-None.is)) c.in_ok-rows.ensures) c.arrive.ensures
