use Rattle.join_memory.proofs.Common.{◌∙◌, sym, ap, List, Vec, Global, ◌&&◌, ◌||◌, is_some, option_map, eq_by_cmp, Row, has, row_cmp, name_cmp, found, Bucket}
use Rattle.join_memory.proofs.{Common.{row_joins, with_name, joined}, Joining.{more_rows, one_more, one_row, rows_begin, rows_end}}
use Rattle.join_memory.proofs.partners.with_rows.Goals as goal
use Rattle.join_memory.proofs.partners.with_rows.Goals.{in-One+in_ok-add_row-in-One, in-Many+in-None}

pub loop-row-init : goal.loop-row-init
loop-row-init g c r =
    rows_begin (row_joins c.args.pattern.now (g.F.Facts.map c.args.facts.now) (option_map (λ v. v.now) c.args.under)) c.new-rows.result.items r c.into_iter-row-iterator.result _ (eq_by_cmp name_cmp c.args.who) c.new-rows.ensures.items
    (λ q.
    ap (λ (b : Bucket Row g.row.S.Denot). is_some (found row_cmp b q)) c.in-Many.is
    ∙ c.keys-row-items.ensures.has q ∙ ap (λ (rows : List Row). has rows q) (sym c.into_iter-row-iterator.ensures.into_iter_gives))

pub loop-row-preserved : goal.loop-row-preserved
loop-row-preserved g c r =
    let pass = row_joins c.args.pattern.now (g.F.Facts.map c.args.facts.now) (option_map (λ v. v.now) c.args.under) in
    one_more _ _ _ _ _ _
    (ap (λ (rows : List Row). joined pass (has rows) (eq_by_cmp name_cmp c.args.who) r) c.in-Some.ensures.steps ∙ more_rows pass c.in-Some.row.now c.next.new.self c.args.who r)
    (c.loop-row.invariant r)
    (c.in_ok-add_row-in-Many.ensures r
    ∙ ap (λ joins. has c.loop-row.rows.items r || (eq_by_cmp row_cmp r (with_name c.in-Some.row.now c.args.who) && joins)) c.does_row_join-joins-in-loop-row.ensures)

pub returns : goal.returns
returns g c r =
    let pass = row_joins c.args.pattern.now (g.F.Facts.map c.args.facts.now) (option_map (λ v. v.now) c.args.under) in
    elim c.match-bucket.branch [
      | in-One+in_ok-add_row-in-One w ↦
          ap (λ (v : Vec Row Global). has v.items r) w.rows-is
          ∙ w.in_ok-add_row-in-One.ensures r
          ∙ ap (λ joins. has c.new-rows.result.items r || (eq_by_cmp row_cmp r (with_name w.in-One.row c.args.who) && joins)) w.does_row_join-joins.ensures
          ∙ ap (λ (rows : List Row). has rows r || (eq_by_cmp row_cmp r (with_name w.in-One.row c.args.who) && pass w.in-One.row c.args.who)) c.new-rows.ensures.items
          ∙ one_row pass w.in-One.row c.args.who _ r
          ∙ ap (λ (b : Bucket Row g.row.S.Denot). joined pass (λ l. is_some (found row_cmp b l)) (eq_by_cmp name_cmp c.args.who) r) (sym w.in-One.is)
      | in-Many+in-None w ↦
          ap (λ (v : Vec Row Global). has v.items r) w.rows-is
          ∙ rows_end pass w.loop-row.rows.items r w.loop-row.row-iterator (eq_by_cmp name_cmp c.args.who) _ w.in-None.ensures.steps.0 (w.loop-row.invariant r)
    ]
