use Rattle.join_memory.proofs.Common.{cond, ◌≡◌, ◌∙◌, sym, ap, subst, arith, List, [], ◌∷◌, ◌++◌, ◌&&◌, Vec, Global, common_steps, IsStrictlySortedBy-filter}
use Rattle.join_memory.proofs.Common.{is_member-filter, is_some-lookup, is_at, filter, option_map, keys_of, Row, row_cmp, has, same_equiv, entries, Bucket}
use Rattle.{join_memory.proofs.{Common.{row_joins}, Joining.{row_decides}}, std.specs.List.Sorted.{IsStrictlySortedBy}}
use Rattle.join_memory.proofs.partners.rows_passed.Goals as goal
use Rattle.join_memory.proofs.partners.rows_passed.Goals.{in-One+in_ok-add_passed-in-One, in-Many+in-None}

all : (g : _) (c : goal.Joined-bucket g) → c.match-bucket.rows.items ≡ filter (λ (r : Row). row_joins c.args.pattern.now (g.F.Facts.map c.args.facts.now) (option_map (λ v. v.now) c.args.under) r c.args.who) (keys_of (entries c.args.bucket.now))
all g c =
    let test = (λ (r : Row). row_joins c.args.pattern.now (g.F.Facts.map c.args.facts.now) (option_map (λ v. v.now) c.args.under) r c.args.who) in
    elim c.match-bucket.branch [
      | in-One+in_ok-add_passed-in-One w ↦
          ap (λ (v : Vec Row Global). v.items) w.rows-is
          ∙ w.in_ok-add_passed-in-One.ensures
          ∙ ap (λ joins. c.new-rows.result.items ++ cond joins (w.in-One.row ∷ []) []) w.does_row_join-joins.ensures
          ∙ ap (λ (rows : List Row). rows ++ filter test (w.in-One.row ∷ [])) c.new-rows.ensures.items
          ∙ ap (λ (b : Bucket Row g.row.S.Denot). filter test (keys_of (entries b))) (sym w.in-One.is)
      | in-Many+in-None w ↦ grind (arith, common_steps)
    ]

keys_sorted : (g : _) (c : goal.Joined-bucket g) → IsStrictlySortedBy row_cmp (keys_of (entries c.args.bucket.now))
unfolding IsStrictlySortedBy
keys_sorted g c =
    elim c.match-bucket.branch [
      | in-One+in_ok-add_passed-in-One w ↦ subst (λ (b : Bucket Row g.row.S.Denot). IsStrictlySortedBy row_cmp (keys_of (entries b))) (sym w.in-One.is) (tt, tt)
      | in-Many+in-None w ↦ subst (λ (b : Bucket Row g.row.S.Denot). IsStrictlySortedBy row_cmp (keys_of (entries b))) (sym w.in-Many.is) w.keys-row-items.ensures.ordered
    ]

pub returns-clause-rows : goal.returns-clause-rows
returns-clause-rows g c row =
    let test = (λ (r : Row). row_joins c.args.pattern.now (g.F.Facts.map c.args.facts.now) (option_map (λ v. v.now) c.args.under) r c.args.who) in
    ap (λ (list : List Row). has list row) (all g c)
    ∙ is_member-filter same_equiv test row (λ x e. ap test ((row_decides row x).0 e)) (keys_of (entries c.args.bucket.now))
    ∙ ap (λ b. b && test row) (sym (is_some-lookup (is_at (row_cmp row)) (entries c.args.bucket.now)))

pub returns-clause-in_order : goal.returns-clause-in_order
returns-clause-in_order g c =
    subst (IsStrictlySortedBy row_cmp) (sym (all g c))
    (IsStrictlySortedBy-filter row_cmp (λ (r : Row). row_joins c.args.pattern.now (g.F.Facts.map c.args.facts.now) (option_map (λ v. v.now) c.args.under) r c.args.who) (keys_of (entries c.args.bucket.now)) (keys_sorted g c))
