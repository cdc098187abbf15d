use Rattle.join_memory.proofs.Common.{◌∙◌, ap, refl, subst, ◌&&◌, List, take_all, eq_by_cmp, Row, row_cmp, has, same_equiv, has_row, RowsLeave}
use Rattle.join_memory.proofs.{Joining.{row_decides}, Turning.{less_more}, Sharing.{less_none, no_rows_leave, row_leaves_too, went_more}}
use Rattle.join_memory.proofs.left_rows.LeftRows.leave.Goals as goal

pub loop-row-init : goal.loop-row-init
loop-row-init g c = record {
  key = refl;
  keeps = no_rows_leave c.args.self.now (g.F.Facts.map c.args.facts.now);
  there = λ row. less_none _;
  went = λ row. ap (λ (rows : List Row). has rows row) c.new-went.ensures.items;
}

pub loop-row-preserved : goal.loop-row-preserved
loop-row-preserved g c =
    let look = g.F.Facts.map c.args.facts.now in
    let first = c.args.self.now in
    let next = c.loop-row.self in
    let rows = c.args.rows.now in
    let row = c.row-item.result in
    record {
      key = c.take-was.ensures.key ∙ c.loop-row.invariant.key;
      keeps = row_leaves_too first next c.take-was.new.self look rows c.loop-row.row-index c.loop-row-test.true row row c.row-item.is c.loop-row.invariant.key c.loop-row.invariant.keeps c.take-was.ensures.keeps;
      there = λ r.
          c.take-was.ensures.rows r
          ∙ less_more (eq_by_cmp row_cmp) same_equiv.symm rows c.loop-row.row-index c.loop-row-test.true row row c.row-item.is r (has_row first look r) (has_row next look r) (c.loop-row.invariant.there r);
      went =
          went_more (eq_by_cmp row_cmp) same_equiv.symm (λ a b. (row_decides a b).0) (has_row first look) (has_row next look) c.loop-row.went.items c.add_passed.new.rows.items rows c.loop-row.row-index c.loop-row-test.true
          row row c.row-item.is c.take-was.result c.take-was.ensures.was c.in_ok-add_passed.ensures c.loop-row.invariant.there c.loop-row.invariant.went;
    }

pub returns-clause-keeps : goal.returns-clause-keeps
returns-clause-keeps g c =
    subst (λ (rows : List Row). RowsLeave c.args.self.now c.loop-row.self (g.F.Facts.map c.args.facts.now) rows) (take_all c.loop-row.row-index c.args.rows.now c.loop-row-test.false) c.loop-row.invariant.keeps

pub returns-clause-went : goal.returns-clause-went
returns-clause-went g c row =
    c.loop-row.invariant.went row
    ∙ ap (λ (rows : List Row). has rows row && has_row c.args.self.now (g.F.Facts.map c.args.facts.now) row) (take_all c.loop-row.row-index c.args.rows.now c.loop-row-test.false)
