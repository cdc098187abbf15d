use Rattle.join_memory.proofs.Common.{◌∙◌, ap, refl, subst, not, ◌&&◌, List, take, take_all, eq_by_cmp, Row, row_cmp, has, same_equiv, has_row, RowsCome}
use Rattle.join_memory.proofs.{Joining.{row_decides}, Turning.{more_more}, Sharing.{more_none, no_rows_come, row_comes_too, went_more, none_came}}
use Rattle.join_memory.proofs.left_rows.LeftRows.come.Goals as goal

pub loop-row-init : goal.loop-row-init
loop-row-init g c = record {
  key = refl;
  keeps = no_rows_come c.args.self.now (g.F.Facts.map c.args.facts.now);
  there = λ row. more_none _;
  came = λ row. ap (λ (rows : List Row). has rows row) c.new-came.ensures.items;
}

pub loop-row-preserved : goal.loop-row-preserved
loop-row-preserved g c =
    let look = g.F.Facts.map c.args.facts.now in
    let first = c.args.self.now in
    let next = c.loop-row.self in
    let rows = c.args.rows.now in
    let row = c.row-item.result in
    record {
      key = c.in_ok-is_new.ensures.key ∙ c.loop-row.invariant.key;
      keeps = row_comes_too first next c.put.new.self look rows c.loop-row.row-index c.loop-row-test.true row row c.row-item.is c.loop-row.invariant.key c.loop-row.invariant.keeps c.in_ok-is_new.ensures.keeps;
      there = λ r.
          c.in_ok-is_new.ensures.rows r
          ∙ more_more (eq_by_cmp row_cmp) same_equiv.symm rows c.loop-row.row-index c.loop-row-test.true row row c.row-item.is r (has_row first look r) (has_row next look r) (c.loop-row.invariant.there r);
      came =
          went_more (eq_by_cmp row_cmp) same_equiv.symm (λ a b. (row_decides a b).0) (λ r. not (has_row first look r)) (λ r. not (has_row next look r)) c.loop-row.came.items c.add_passed.new.rows.items rows
          c.loop-row.row-index c.loop-row-test.true row row c.row-item.is c.in_ok-is_new.is_new c.in_ok-is_new.ensures.is_new c.in_ok-add_passed.ensures
          (none_came (eq_by_cmp row_cmp) (has_row first look) (has_row next look) (take c.loop-row.row-index rows) c.loop-row.invariant.there) c.loop-row.invariant.came;
    }

pub returns-clause-keeps : goal.returns-clause-keeps
returns-clause-keeps g c =
    subst (λ (rows : List Row). RowsCome c.args.self.now c.loop-row.self (g.F.Facts.map c.args.facts.now) rows) (take_all c.loop-row.row-index c.args.rows.now c.loop-row-test.false) c.loop-row.invariant.keeps

pub returns-clause-came : goal.returns-clause-came
returns-clause-came g c row =
    c.loop-row.invariant.came row
    ∙ ap (λ (rows : List Row). has rows row && not (has_row c.args.self.now (g.F.Facts.map c.args.facts.now) row)) (take_all c.loop-row.row-index c.args.rows.now c.loop-row-test.false)
