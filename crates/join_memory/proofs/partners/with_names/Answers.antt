use Rattle.join_memory.proofs.Common.{◌∙◌, sym, ap, List, Vec, Global, ◌&&◌, ◌||◌, is_some, option_map, eq_by_cmp, Named, Row, has, row_cmp, name_cmp, found}
use Rattle.join_memory.proofs.{Common.{Bucket, name_joins, with_name, joined, has_name}, Joining.{more_names, one_more, one_name, names_begin, names_end}}
use Rattle.join_memory.proofs.partners.with_names.Goals as goal
use Rattle.join_memory.proofs.partners.with_names.Goals.{in-One+in_ok-add_row-in-One, in-Many+in-None}

pub loop-who-init : goal.loop-who-init
loop-who-init g c r =
    names_begin (name_joins c.args.pattern.now (g.F.Facts.map c.args.facts.now) (option_map (λ v. v.now) c.args.under)) c.new-rows.result.items r c.into_iter-who-iterator.result (eq_by_cmp row_cmp c.args.row.now) _ c.new-rows.ensures.items
    (λ q.
    ap (λ (b : Bucket Named (Unit {0})). is_some (found name_cmp b q)) c.in-Many.is
    ∙ c.keys-who-items.ensures.has q ∙ ap (λ (names : List Named). has_name names q) (sym c.into_iter-who-iterator.ensures.into_iter_gives))

pub loop-who-preserved : goal.loop-who-preserved
loop-who-preserved g c r =
    let pass = name_joins c.args.pattern.now (g.F.Facts.map c.args.facts.now) (option_map (λ v. v.now) c.args.under) in
    one_more _ _ _ _ _ _
    (ap (λ (names : List Named). joined pass (eq_by_cmp row_cmp c.args.row.now) (has_name names) r) c.in-Some.ensures.steps ∙ more_names pass c.args.row.now c.in-Some.who.now c.next.new.self r)
    (c.loop-who.invariant r)
    (c.in_ok-add_row-in-Many.ensures r
    ∙ ap (λ joins. has c.loop-who.rows.items r || (eq_by_cmp row_cmp r (with_name c.args.row.now c.in-Some.who.now) && joins)) c.does_name_join-joins-in-loop-who.ensures)

pub returns : goal.returns
returns g c r =
    let pass = name_joins c.args.pattern.now (g.F.Facts.map c.args.facts.now) (option_map (λ v. v.now) c.args.under) in
    elim c.match-bucket.branch [
      | in-One+in_ok-add_row-in-One w ↦
          ap (λ (v : Vec Row Global). has v.items r) w.rows-is
          ∙ w.in_ok-add_row-in-One.ensures r
          ∙ ap (λ joins. has c.new-rows.result.items r || (eq_by_cmp row_cmp r (with_name c.args.row.now w.in-One.who) && joins)) w.does_name_join-joins.ensures
          ∙ ap (λ (rows : List Row). has rows r || (eq_by_cmp row_cmp r (with_name c.args.row.now w.in-One.who) && pass c.args.row.now w.in-One.who)) c.new-rows.ensures.items
          ∙ one_name pass c.args.row.now w.in-One.who _ r
          ∙ ap (λ (b : Bucket Named (Unit {0})). joined pass (eq_by_cmp row_cmp c.args.row.now) (λ n. is_some (found name_cmp b n)) r) (sym w.in-One.is)
      | in-Many+in-None w ↦
          ap (λ (v : Vec Row Global). has v.items r) w.rows-is
          ∙ names_end pass w.loop-who.rows.items r w.loop-who.who-iterator (eq_by_cmp row_cmp c.args.row.now) _ w.in-None.ensures.steps.0 (w.loop-who.invariant r)
    ]
