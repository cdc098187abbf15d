use Rattle.join_memory.proofs.Common.{◌∙◌, sym, ap, List, option_map, eq_by_cmp, same_value, Row, row_cmp, has, name_cmp, bucket_at, name_joins, stands_in}
use Rattle.join_memory.proofs.Joining.{none_right}
use Rattle.join_memory.proofs.making.names_under.Goals as goal

pub returns-in-None : goal.returns-in-None
returns-in-None g c r =
    ap (λ (rows : List Row). has rows r) c.new.ensures.items
    ∙ sym (none_right (name_joins c.args.pattern.now (g.F.Facts.map c.args.facts.now) (option_map (λ v. v.now) c.args.under)) (eq_by_cmp row_cmp c.args.row.now)
    (stands_in name_cmp (bucket_at same_value c.args.right.now c.args.value.now)) (λ n. ap (λ bucket. stands_in name_cmp bucket n) (sym c.in-None.ensures)) r)
