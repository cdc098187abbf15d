use Rattle.join_memory.proofs.Common.{cond, ◌≡◌, ◌∙◌, sym, ap, subst, arith, List, [], ◌∷◌, ◌++◌, ◌&&◌, Vec, Global, common_steps, IsStrictlySortedBy-filter}
use Rattle.join_memory.proofs.Common.{is_member-filter, is_some-lookup, is_at, filter, option_map, keys_of, Named, name_cmp, name_equiv, entries, Bucket}
use Rattle.{join_memory.proofs.{Common.{name_joins, has_name}, Joining.{name_decides}}, std.specs.List.Sorted.{IsStrictlySortedBy}}
use Rattle.join_memory.proofs.partners.names_passed.Goals as goal
use Rattle.join_memory.proofs.partners.names_passed.Goals.{in-One+in_ok-add_passing-in-One, in-Many+in-None}

all : (g : _) (c : goal.Joined-bucket g) → c.match-bucket.names.items ≡ filter (name_joins c.args.pattern.now (g.F.Facts.map c.args.facts.now) (option_map (λ v. v.now) c.args.under) c.args.row.now) (keys_of (entries c.args.bucket.now))
all g c =
    let test = (name_joins c.args.pattern.now (g.F.Facts.map c.args.facts.now) (option_map (λ v. v.now) c.args.under) c.args.row.now) in
    elim c.match-bucket.branch [
      | in-One+in_ok-add_passing-in-One w ↦
          ap (λ (v : Vec Named Global). v.items) w.names-is
          ∙ w.in_ok-add_passing-in-One.ensures
          ∙ ap (λ joins. c.new-names.result.items ++ cond joins (w.in-One.who ∷ []) []) w.does_name_join-joins.ensures
          ∙ ap (λ (names : List Named). names ++ filter test (w.in-One.who ∷ [])) c.new-names.ensures.items
          ∙ ap (λ (b : Bucket Named (Unit {0})). filter test (keys_of (entries b))) (sym w.in-One.is)
      | in-Many+in-None w ↦ grind (arith, common_steps)
    ]

keys_sorted : (g : _) (c : goal.Joined-bucket g) → IsStrictlySortedBy name_cmp (keys_of (entries c.args.bucket.now))
unfolding IsStrictlySortedBy
keys_sorted g c =
    elim c.match-bucket.branch [
      | in-One+in_ok-add_passing-in-One w ↦ subst (λ (b : Bucket Named (Unit {0})). IsStrictlySortedBy name_cmp (keys_of (entries b))) (sym w.in-One.is) (tt, tt)
      | in-Many+in-None w ↦ subst (λ (b : Bucket Named (Unit {0})). IsStrictlySortedBy name_cmp (keys_of (entries b))) (sym w.in-Many.is) w.keys-who-items.ensures.ordered
    ]

pub returns-clause-names : goal.returns-clause-names
returns-clause-names g c who =
    let test = (name_joins c.args.pattern.now (g.F.Facts.map c.args.facts.now) (option_map (λ v. v.now) c.args.under) c.args.row.now) in
    ap (λ (list : List Named). has_name list who) (all g c)
    ∙ is_member-filter name_equiv test who (λ x e. ap test ((name_decides who x).0 e)) (keys_of (entries c.args.bucket.now))
    ∙ ap (λ b. b && test who) (sym (is_some-lookup (is_at (name_cmp who)) (entries c.args.bucket.now)))

pub returns-clause-in_order : goal.returns-clause-in_order
returns-clause-in_order g c =
    subst (IsStrictlySortedBy name_cmp) (sym (all g c))
    (IsStrictlySortedBy-filter name_cmp (name_joins c.args.pattern.now (g.F.Facts.map c.args.facts.now) (option_map (λ v. v.now) c.args.under) c.args.row.now) (keys_of (entries c.args.bucket.now)) (keys_sorted g c))
