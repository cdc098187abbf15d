-- What conditions count of forgotten facts among the present facts of a world, which a map has, is what they count in the world.
use Rattle.session_model.proofs.Common.{◌≡◌, ◌∙◌, ◌||◌, not, ℕ, ℤ, Bool, true, List, [], ◌∷◌, length, inl, inr, refl, sym, ap, subst, take, filter, list_any}
use Rattle.session_model.proofs.Common.{In, EachOnce, Fact, Extra, Named, Row, HeldFacts, facts_of, tag_of, Condition, Negated, Existing, Folded, Pattern}
use Rattle.session_model.proofs.Common.{Program, is_candidate, candidates, HaveDistinctTags, argument, pattern_of, rows, Reached, Snapshot, empty_tuple}
use Rattle.session_model.proofs.Common.{name_of, of_filter, made_of, named_of, once_filter, Same, in_filter, passed, same_length, same_values, World, snapshot}
use Rattle.session_model.proofs.Common.{present, joins, clean, held, rows_of, has_in, tuple_of_row, held_all, held_fact, joins_of_tuple, version_of, over}
use Rattle.std.proofs.Common.{map as list_map}
use Rattle.std.specs.FinMap as map
use Rattle.{fold_fn.proofs.Rising.{rising_same}, rule_model.{specs.declared.condition.Condition.TheVariants.{Plain}, proofs.Grown.{tuples_grow}}}
use Rattle.{condition_rows.{specs.Sets.{partners}, proofs.Partners.{partners_once}}, laden_rows.specs.Extras.{lost_partners, values_gathered, AreExtras}}
use Rattle.{laden_rows.specs.Extras.{IsExtraIn}, session_model.proofs.Needing.{distinct_here, here_candidates, of_world, world_rows}}

any_same : (a b : Named → Bool) (names : List Named) → ((n : Named) → In n names → a n ≡ b n) → list_any a names ≡ list_any b names
any_same a b [] same = refl
any_same a b (n ∷ names) same = ap (λ x. x || list_any a names) (same n (inl refl)) ∙ ap (λ x. b n || x) (any_same a b names (λ k i. same k (inr i)))

same_gathered : (c : Condition) (xs ys : List Fact) → EachOnce xs → EachOnce ys → Same xs ys → values_gathered c xs ≡ values_gathered c ys
same_gathered (Plain q) xs ys ox oy same = refl
same_gathered (Negated q) xs ys ox oy same = refl
same_gathered (Existing q) xs ys ox oy same = refl
same_gathered (Folded a) xs ys ox oy same = rising_same (list_map (argument a.arg) xs) (list_map (argument a.arg) ys) (same_values (argument a.arg) xs ys ox oy same)

-- Two tests of what is forgotten that agree on the present facts.
module _ (p : Program) (w : World) (d : HaveDistinctTags w.facts) (stored : HeldFacts) (clock : ℤ) (now : clock ≡ w.clock) (reached : Reached) (same : reached ≡ w.reached)
    (at : (tag : ℕ) → map.get stored tag ≡ version_of (present p w) (tag_of tag)) (here_lost there_lost : Named → Bool)
    (agree : (f : Fact) → In f (facts_of stored) → here_lost (name_of f) ≡ there_lost (name_of f)) where
  abbrev here : Snapshot
  here = over (facts_of stored) clock reached

  abbrev there : Snapshot
  there = snapshot w

  once_here : HaveDistinctTags (facts_of stored)
  once_here = distinct_here p w d stored clock now reached same at

  in_world : (f : Fact) → In f (facts_of stored) → In f w.facts
  in_world = of_world p w d stored clock now reached same at

  alike : (q : Pattern) → Same (candidates p q here) (candidates p q there)
  alike = here_candidates p w d stored clock now reached same at

  same_rows : (cs : List Condition) (row : Row) → rows_of p here cs row ≡ rows_of p there cs row
  same_rows = world_rows p w d stored clock now reached same at

  module _ (cs : List Condition) (row : Row) (is : rows_of p here cs row ≡ true) where
    joins_alike : (q : Pattern) (f : Fact) → In f (facts_of stored) → joins q (held here) row (name_of f) ≡ joins q (held there) row (name_of f)
    joins_alike q f i =
        let t = tuple_of_row p here cs row is in
        let inside : (g : Fact) → In g t.0.facts → In g (facts_of stored) = made_of p here cs empty_tuple t.0 (tuples_grow p here cs empty_tuple t.0 t.1) (λ g k. absurd k) in
        subst (λ (r : Row). joins q (held here) r (name_of f) ≡ joins q (held there) r (name_of f)) t.2
        (joins_of_tuple (held here) q t.0 f (held_all here once_here t.0.facts inside) (held_fact here once_here f i)
        ∙ sym (joins_of_tuple (held there) q t.0 f (held_all there d t.0.facts (λ g k. in_world g (inside g k))) (held_fact there d f (in_world f i))))

    abbrev joining : Pattern → Snapshot → Fact → Bool
    joining q s f = joins q (held s) row (name_of f)

    abbrev is_lost : (Named → Bool) → Fact → Bool
    is_lost forgotten f = forgotten (name_of f)

    same_lost : (q : Pattern) → Same (lost_partners p here here_lost q row) (lost_partners p there there_lost q row)
    unfolding partners
    same_lost q f = (to, from)
      where
        inside : In f (candidates p q here) → In f (facts_of stored)
        inside i = of_filter (is_candidate p q here) f (facts_of stored) i

        to : In f (filter (is_lost here_lost) (filter (joining q here) (candidates p q here))) → In f (filter (is_lost there_lost) (filter (joining q there) (candidates p q there)))
        to i =
            let j = of_filter (is_lost here_lost) f (filter (joining q here) (candidates p q here)) i in
            let k = of_filter (joining q here) f (candidates p q here) j in
            in_filter (is_lost there_lost) f (filter (joining q there) (candidates p q there)) (sym (agree f (inside k)) ∙ passed (is_lost here_lost) f (filter (joining q here) (candidates p q here)) i)
            (in_filter (joining q there) f (candidates p q there) (sym (joins_alike q f (inside k)) ∙ passed (joining q here) f (candidates p q here) j) ((alike q f).0 k))

        from : In f (filter (is_lost there_lost) (filter (joining q there) (candidates p q there))) → In f (filter (is_lost here_lost) (filter (joining q here) (candidates p q here)))
        from i =
            let j = of_filter (is_lost there_lost) f (filter (joining q there) (candidates p q there)) i in
            let k = (alike q f).1 (of_filter (joining q there) f (candidates p q there) j) in
            in_filter (is_lost here_lost) f (filter (joining q here) (candidates p q here)) (agree f (inside k) ∙ passed (is_lost there_lost) f (filter (joining q there) (candidates p q there)) i)
            (in_filter (joining q here) f (candidates p q here) (joins_alike q f (inside k) ∙ passed (joining q there) f (candidates p q there) j) k)

    once_lost_here : (q : Pattern) → EachOnce (lost_partners p here here_lost q row)
    once_lost_here q = once_filter (is_lost here_lost) (partners p q here row) (partners_once p here once_here q row)

    once_lost_there : (q : Pattern) → EachOnce (lost_partners p there there_lost q row)
    once_lost_there q = once_filter (is_lost there_lost) (partners p q there row) (partners_once p there d q row)

    same_count : (q : Pattern) → length (lost_partners p here here_lost q row) ≡ length (lost_partners p there there_lost q row)
    same_count q = same_length (lost_partners p here here_lost q row) (lost_partners p there there_lost q row) (once_lost_here q) (once_lost_there q) (same_lost q)

    same_values_lost : (c : Condition) → values_gathered c (lost_partners p here here_lost (pattern_of c) row) ≡ values_gathered c (lost_partners p there there_lost (pattern_of c) row)
    same_values_lost c =
        same_gathered c (lost_partners p here here_lost (pattern_of c) row) (lost_partners p there there_lost (pattern_of c) row) (once_lost_here (pattern_of c)) (once_lost_there (pattern_of c))
        (same_lost (pattern_of c))

    same_clean : clean here_lost row ≡ clean there_lost row
    same_clean = ap not (any_same here_lost there_lost row.facts (λ n i.
        let g = named_of p here cs row (has_in row (rows p here cs) is) n i in
        subst (λ (k : Named). here_lost k ≡ there_lost k) g.2 (agree g.0 g.1)))

  to_there : (e : Extra) → IsExtraIn p here here_lost e → IsExtraIn p there there_lost e
  to_there e x =
      let cs = take e.condition x.rule.conditions in
      record {
        rule = x.rule;
        stands = x.stands;
        condition = x.condition;
        placed = x.placed;
        aside = x.aside;
        first = x.first;
        there = sym (same_rows cs e.row) ∙ x.there;
        kept = sym (same_clean cs e.row x.there) ∙ x.kept;
        some = x.some;
        counted = x.counted ∙ same_count cs e.row x.there (pattern_of x.condition);
        gathered = x.gathered ∙ same_values_lost cs e.row x.there x.condition;
      }

  to_here : (e : Extra) → IsExtraIn p there there_lost e → IsExtraIn p here here_lost e
  to_here e x =
      let cs = take e.condition x.rule.conditions in
      let is : rows_of p here cs e.row ≡ true = same_rows cs e.row ∙ x.there in
      record {
        rule = x.rule;
        stands = x.stands;
        condition = x.condition;
        placed = x.placed;
        aside = x.aside;
        first = x.first;
        there = is;
        kept = same_clean cs e.row is ∙ x.kept;
        some = x.some;
        counted = x.counted ∙ sym (same_count cs e.row is (pattern_of x.condition));
        gathered = x.gathered ∙ sym (same_values_lost cs e.row is x.condition);
      }

  pub extras_there : (extras : List Extra) → AreExtras p here here_lost extras → AreExtras p there there_lost extras
  extras_there extras are = record { in_order = are.in_order; exact = λ e. (λ i. to_there e ((are.exact e).0 i), λ x. (are.exact e).1 (to_here e x)) }

  pub extras_here : (extras : List Extra) → AreExtras p there there_lost extras → AreExtras p here here_lost extras
  extras_here extras are = record { in_order = are.in_order; exact = λ e. (λ i. to_here e ((are.exact e).0 i), λ x. (are.exact e).1 (to_there e x)) }
