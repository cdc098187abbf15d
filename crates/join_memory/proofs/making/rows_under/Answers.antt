use Rattle.join_memory.proofs.Common.{◌∙◌, sym, ap, List, option_map, eq_by_cmp, same_value, Row, row_cmp, has, name_cmp, bucket_at, row_joins, stands_in}
use Rattle.join_memory.proofs.Joining.{none_left}
use Rattle.join_memory.proofs.making.rows_under.Goals as goal

pub returns-in-None : goal.returns-in-None
returns-in-None g c r =
    ap (λ (rows : List Row). has rows r) c.new.ensures.items
    ∙ sym (none_left (row_joins c.args.pattern.now (g.F.Facts.map c.args.facts.now) (option_map (λ v. v.now) c.args.under)) (stands_in row_cmp (bucket_at same_value c.args.left.now c.args.value.now))
    (eq_by_cmp name_cmp c.args.who) (λ l. ap (λ bucket. stands_in row_cmp bucket l) (sym c.in-None.ensures)) r)
