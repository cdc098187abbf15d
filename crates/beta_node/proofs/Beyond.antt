-- What a node that stands for a snapshot counts of forgotten facts.
use Rattle.beta_node.proofs.Common.{◌≡◌, ◌∙◌, sym, ap, refl, subst, ⊎_elim, inl, inr, ℕ, arith, map, length, List, [], ◌∷◌, Bool, true, false, cond, ◌&&◌, ◌||◌}
use Rattle.beta_node.proofs.Common.{Option, Some, None, ℤ, pos, eq_by_cmp, is_eq, In, Fact, in_rising_order, Extra, Named, name_equiv, Row, row_cmp, InOrder}
use Rattle.beta_node.proofs.Common.{Accumulate, Condition, Negated, Existing, Folded, Pattern, Program, HaveDistinctTags, Holds, pattern_of, argument, Snapshot}
use Rattle.beta_node.proofs.Common.{name_of, one_fact, once_filter, once_map, Look, joins, Memories, has_name, cleaned, row_decides, BetaJoin, Witnesses}
use Rattle.beta_node.proofs.Common.{TallyNode, AreDistinct, counts_blockers, counts_witnesses, argument_given, argument_of, gathers, extra_for}
use Rattle.beta_node.proofs.Common.{nothing_gathered, arguments_gathered, IsBeyond, IsExtraFor, AreExtrasOf, CountsOthers, rows_of_extras, NotNode, HasAllOf}
use Rattle.beta_node.proofs.Common.{NameHeld, held, candidates_of, partners, held_all, values_gathered, lost_partners, IsAside, IsLost, IsExtraBeside}
use Rattle.beta_node.proofs.Common.{AreExtrasBeside, FoldNode, Node, condition_of, CountsPartners, NodeStands, AllByRecursion, lost_passing, others_law}
use Rattle.beta_node.proofs.Common.{length-rising, same_values, held_known, joining_alike, remembered_alike, partner_in, partners_once, blocker_tallies}
use Rattle.{beta_node.proofs.{Common.{tallied_pattern}, Folding.{distinct, named_where, partners_named}}, rule_model.proofs.Named.{of_filter}}
use Rattle.std.{specs.{declared.cmp.Ordering.TheVariants.{Less}, List.Sorted.{IsStrictlySortedBy}}, proofs.lemmas.List.{length-map}}
use Rattle.{fx_base.specs.declared.ids.RuleId.{RuleId}, row_delta.specs.RowOrder.{same_equiv}}
use Rattle.beta_node.specs.declared.node.Node.TheVariants as node
use Rattle.{beta_node.specs.Lending.{lent_to}, join_memory.specs.{declared.candidates.Candidates.{Candidates}, Shared.{over, sharing}}}
use Rattle.not_node.specs.Doors.{with_tallies}

-- ---- extras in the order of their rows
less_in : (row : Row) (extras : List Extra) → AllByRecursion (λ y. row_cmp row y ≡ Less) (rows_of_extras extras) → (e : Extra) → In e extras → row_cmp row e.row ≡ Less
less_in row [] all e h = absurd h
less_in row (x ∷ xs) all e h = ⊎_elim (λ (same : e ≡ x). ap (λ (y : Extra). row_cmp row y.row) same ∙ all.0) (λ (k : In e xs). less_in row xs all.1 e k) h

found_in : (extras : List Extra) → InOrder (rows_of_extras extras) → (e : Extra) → In e extras → extra_for extras e.row ≡ Some e
unfolding IsStrictlySortedBy
found_in [] sorted e h = absurd h
found_in (x ∷ xs) sorted e h =
    ⊎_elim
    (λ (same : e ≡ x). ap (λ b. cond b (Some x) (extra_for xs e.row)) (ap (λ (y : Extra). eq_by_cmp row_cmp x.row y.row) same ∙ same_equiv.refl x.row) ∙ ap Some (sym same))
    (λ (k : In e xs). ap (λ b. cond b (Some x) (extra_for xs e.row)) (ap is_eq (less_in x.row xs sorted.0 e k)) ∙ found_in xs sorted.1 e k) h

in_found : (extras : List Extra) (row : Row) (x : Extra) → extra_for extras row ≡ Some x → In x extras × (x.row ≡ row)
in_found [] row x e = absurd (let f : None ≡ Some x = e in cc)
in_found (y ∷ ys) row x e = by (eq_by_cmp row_cmp y.row row) refl e (in_found ys row x)
  where
    by : (b : Bool) → eq_by_cmp row_cmp y.row row ≡ b → cond b (Some y) (extra_for ys row) ≡ Some x → (extra_for ys row ≡ Some x → In x ys × (x.row ≡ row)) → In x (y ∷ ys) × (x.row ≡ row)
    by true s f rest =
        let same : y ≡ x = cc in
        (inl (sym same), ap (λ (z : Extra). z.row) (sym same) ∙ (row_decides y.row row).0 s)
    by false s f rest = let r = rest f in (inr r.0, r.1)

same_extra : (x e : Extra) → x.rule ≡ e.rule → x.condition ≡ e.condition → x.row ≡ e.row → x.count ≡ e.count → x.values ≡ e.values → x ≡ e
same_extra x e r c w n v = λ i. record { rule = r i; condition = c i; row = w i; count = n i; values = v i }

same_count : (xs ys : List Named) → AreDistinct xs → AreDistinct ys → ((c : Named) → has_name xs c ≡ has_name ys c) → length xs ≡ length ys
same_count xs ys dx dy same =
    let one = λ (c : Named). pos 0 in
    sym (length-map xs one) ∙ sym (length-rising (map one xs)) ∙ ap length (same_values one xs ys dx dy same) ∙ length-rising (map one ys) ∙ length-map ys one

nobody_there : (names : List Named) → ((who : Named) → has_name names who ≡ false) → length names ≡ 0
nobody_there [] h = refl
nobody_there (n ∷ names) h = absurd (let f : true ≡ false = sym (ap (λ b. b || has_name names n) (name_equiv.refl n)) ∙ h n in cc)

module _ (p : Program) (look : Look) (s : Snapshot) (rows : Row → Bool) (forgotten : Named → Bool) (tags : HaveDistinctTags s.facts) (known : HasAllOf look s forgotten) (named : NameHeld s rows) where
  -- ---- the forgotten candidates that join a row
  module _ (q : Pattern) (row : Row) where
    lost_in : (f : Fact) → In f (lost_partners p s forgotten q row) → In f s.facts
    lost_in f i = partner_in p s tags q row f (of_filter (λ (g : Fact). forgotten (name_of g)) f (partners p q s row) i)

    lost_held : Holds (held s) (lost_partners p s forgotten q row)
    lost_held = held_all s tags (lost_partners p s forgotten q row) lost_in

    lost_distinct : AreDistinct (map name_of (lost_partners p s forgotten q row))
    lost_distinct =
        distinct (map name_of (lost_partners p s forgotten q row))
        (once_map name_of (lost_partners p s forgotten q row) (once_filter (λ (g : Fact). forgotten (name_of g)) (partners p q s row) (partners_once p s tags q row))
        (λ f g i j e. one_fact s.facts tags f g (lost_in f i) (lost_in g j) (ap (λ (n : Named). n.tag) e)))

    lost_named : (who : Named) → has_name (map name_of (lost_partners p s forgotten q row)) who ≡ lost_passing (joins q (held s)) (candidates_of p q s) forgotten row who
    lost_named who = named_where forgotten who (partners p q s row) ∙ ap (λ b. b && forgotten who) (partners_named p s tags q row who)

  -- an extra tells of the forgotten candidates that pass what it tells of the forgotten facts that join
  pub tells_passing : (gathered : Look → List Named → List ℤ) (c : Condition) (q : Pattern) → q ≡ pattern_of c → ((facts : List Fact) → Holds (held s) facts → gathered (held s) (map name_of facts) ≡ values_gathered c facts)
      → (row : Row) (o : Option Extra) → IsLost c (lost_partners p s forgotten (pattern_of c) row) o → IsExtraFor gathered (held s) (lost_passing (joins q (held s)) (candidates_of p q s) forgotten row) o
  tells_passing gathered c q meant told_values row None none =
      λ who. sym (lost_named q row who) ∙ ap (λ (facts : List Fact). has_name (map name_of facts) who) (ap (λ (r : Pattern). lost_partners p s forgotten r row) meant ∙ none)
  tells_passing gathered c q meant told_values row (Some e) is = record {
    names = map name_of (lost_partners p s forgotten q row);
    distinct = lost_distinct q row;
    all = lost_named q row;
    count = length-map (lost_partners p s forgotten q row) name_of ∙ ap (λ (r : Pattern). length (lost_partners p s forgotten r row)) meant ∙ sym is.0;
    values = is.1 ∙ sym (told_values (lost_partners p s forgotten q row) (lost_held q row) ∙ ap (λ (r : Pattern). values_gathered c (lost_partners p s forgotten r row)) meant);
  }

  -- ---- the extras of a node
  module _ {T : Type 0} (holds : T → Look → (Named → Bool) → Type 0) (gathered : Look → List Named → List ℤ) (c : Condition) (m : Memories T) (meant : m.pattern ≡ pattern_of c) (aside : IsAside c)
      (same_gathered : (xs ys : List Named) → AreDistinct xs → AreDistinct ys → ((who : Named) → has_name xs who ≡ has_name ys who) → gathered (held s) xs ≡ gathered (held s) ys)
      (told_values : (facts : List Fact) → Holds (held s) facts → gathered (held s) (map name_of facts) ≡ values_gathered c facts)
      (counts : CountsPartners holds p m look s rows forgotten) (under : RuleId) (place : ℕ) (extras : List Extra) (are : AreExtrasOf holds gathered m look under place extras) where
    others : CountsOthers holds m look (held s) (lost_passing (joins m.pattern (held s)) (candidates_of p m.pattern s) forgotten)
    others =
        others_law holds (λ t world set e. Unit {0}) m look (held s) (joins m.pattern (held s)) rows (candidates_of p m.pattern s) forgotten counts
        (joining_alike look (held s) s forgotten known (held_known s forgotten) p m.pattern rows named)
        (remembered_alike (held s) look s forgotten (held_known s forgotten) known p m.pattern)

    told : (row : Row) → cleaned rows forgotten row ≡ true → IsExtraFor gathered (held s) (lost_passing (joins m.pattern (held s)) (candidates_of p m.pattern s) forgotten row) (extra_for extras row)
    told row e = are.exact (held s) (lost_passing (joins m.pattern (held s)) (candidates_of p m.pattern s) forgotten) others row (counts.stands.rows row ∙ e)

    module _ (row : Row) (n : ℕ) (values : List ℤ) (is : IsBeyond gathered (held s) (lost_passing (joins m.pattern (held s)) (candidates_of p m.pattern s) forgotten row) n values) where
      members : (who : Named) → has_name is.names who ≡ has_name (map name_of (lost_partners p s forgotten m.pattern row)) who
      members who = is.all who ∙ sym (lost_named m.pattern row who)

      count_told : n ≡ length (lost_partners p s forgotten (pattern_of c) row)
      count_told =
          sym is.count ∙ same_count is.names (map name_of (lost_partners p s forgotten m.pattern row)) is.distinct (lost_distinct m.pattern row) members
          ∙ length-map (lost_partners p s forgotten m.pattern row) name_of ∙ ap (λ (q : Pattern). length (lost_partners p s forgotten q row)) meant

      values_told : values ≡ values_gathered c (lost_partners p s forgotten (pattern_of c) row)
      values_told =
          is.values ∙ same_gathered is.names (map name_of (lost_partners p s forgotten m.pattern row)) is.distinct (lost_distinct m.pattern row) members
          ∙ told_values (lost_partners p s forgotten m.pattern row) (lost_held m.pattern row) ∙ ap (λ (q : Pattern). values_gathered c (lost_partners p s forgotten q row)) meant

    listed : (e : Extra) → In e extras → IsExtraBeside p c s rows forgotten under place e
    listed e h =
        let own = are.among counts.stands.agrees e h in
        let there : cleaned rows forgotten e.row ≡ true = sym (counts.stands.rows e.row) ∙ own.kept in
        let is = subst (IsExtraFor gathered (held s) (lost_passing (joins m.pattern (held s)) (candidates_of p m.pattern s) forgotten e.row)) (found_in extras are.in_order e h) (told e.row there) in
        record {
          rule = own.rule;
          condition = own.condition;
          aside = aside;
          there = there;
          some = own.some;
          counted = count_told e.row e.count e.values is;
          gathered = values_told e.row e.count e.values is;
        }

    all_listed : (e : Extra) → IsExtraBeside p c s rows forgotten under place e → In e extras
    all_listed e is = by (extra_for extras e.row) refl (told e.row is.there)
      where
        by : (o : Option Extra) → extra_for extras e.row ≡ o → IsExtraFor gathered (held s) (lost_passing (joins m.pattern (held s)) (candidates_of p m.pattern s) forgotten e.row) o → In e extras
        by None f none =
            let l = nobody_there (map name_of (lost_partners p s forgotten m.pattern e.row)) (λ who. lost_named m.pattern e.row who ∙ none who) in
            let k = length-map (lost_partners p s forgotten m.pattern e.row) name_of ∙ ap (λ (q : Pattern). length (lost_partners p s forgotten q e.row)) meant in
            let n = is.counted in let some = is.some in absurd (omega (arith, l, k, n, some))
        by (Some x) f tells =
            let found = in_found extras e.row x f in
            let own = are.among counts.stands.agrees x found.0 in
            let same = same_extra x e (own.rule ∙ sym is.rule) (own.condition ∙ sym is.condition) found.1 (count_told e.row x.count x.values tells ∙ sym is.counted) (values_told e.row x.count x.values tells ∙ sym is.gathered) in
            subst (λ (y : Extra). In y extras) same found.0

    pub extras_beside : AreExtrasBeside p c s rows forgotten under place extras
    extras_beside = record { in_order = are.in_order; exact = λ e. (listed e, all_listed e) }

-- ---- what is gathered
pub nothing_told : (s : Snapshot) (facts : List Fact) → Holds (held s) facts → nothing_gathered (held s) (map name_of facts) ≡ []
nothing_told s facts h = refl

arguments_are : (a : Accumulate) (world : Look) (facts : List Fact) → Holds world facts → map (argument_of a world) (map name_of facts) ≡ map (argument a.arg) facts
arguments_are a world [] h = refl
arguments_are a world (f ∷ facts) h = ap (λ o. argument_given a.arg o ∷ map (argument_of a world) (map name_of facts)) h.0 ∙ ap (λ rest. argument a.arg f ∷ rest) (arguments_are a world facts h.1)

pub arguments_told : (a : Accumulate) (s : Snapshot) (facts : List Fact) → Holds (held s) facts → arguments_gathered a (held s) (map name_of facts) ≡ values_gathered (Folded a) facts
arguments_told a s facts h = ap in_rising_order (arguments_are a (held s) facts h)

-- ---- a node of each kind
-- these are what the node counts of forgotten facts, whatever it stands for
abbrev pub TellsBeyond : Look → RuleId → ℕ → List Extra → Node → Type 0
TellsBeyond look under place extras n = (p : Program) (s : Snapshot) (rows : Row → Bool) (forgotten : Named → Bool)
    → HaveDistinctTags s.facts → HasAllOf look s forgotten → NameHeld s rows → NodeStands p n look s rows forgotten → AreExtrasBeside p (condition_of n) s rows forgotten under place extras

module _ (look : Look) (under : RuleId) (place : ℕ) (extras : List Extra) where
  pub join_beyond : (join : BetaJoin) → extras ≡ [] → TellsBeyond look under place extras (node.Join join)
  unfolding IsStrictlySortedBy
  join_beyond join none p s rows forgotten tags known named stands = record {
    in_order = subst (λ (es : List Extra). InOrder (rows_of_extras es)) (sym none) tt;
    exact = λ e. (λ h. absurd (subst (In e) none h), λ is. absurd is.aside);
  }

  pub exists_beyond : (tally : TallyNode Witnesses) → AreExtrasOf counts_witnesses nothing_gathered tally.memories look under place extras → TellsBeyond look under place extras (node.Exists tally)
  exists_beyond tally are p s rows forgotten tags known named counts =
      extras_beside p look s rows forgotten tags known named counts_witnesses nothing_gathered (Existing (tallied_pattern tally)) tally.memories refl tt (λ xs ys dx dy same. refl) (nothing_told s) counts under place extras are

  pub not_beyond : (waiting : NotNode) → AreExtrasOf counts_blockers nothing_gathered (blocker_tallies waiting) look under place extras → TellsBeyond look under place extras (node.Not waiting)
  not_beyond waiting are p s rows forgotten tags known named waits =
      let m = blocker_tallies waiting in
      extras_beside p look s rows forgotten tags known named counts_blockers nothing_gathered (Negated m.pattern) m refl tt (λ xs ys dx dy same. refl) (nothing_told s) waits.counts under place extras are

  pub fold_beyond : (fold : FoldNode) → AreExtrasOf (gathers fold.accumulate) (arguments_gathered fold.accumulate) fold.tally.memories look under place extras → TellsBeyond look under place extras (node.Fold fold)
  fold_beyond fold are p s rows forgotten tags known named folds =
      let a = fold.accumulate in
      extras_beside p look s rows forgotten tags known named (gathers a) (arguments_gathered a) (Folded a) fold.tally.memories folds.pattern tt
      (λ xs ys dx dy same. same_values (argument_of a (held s)) xs ys dx dy same) (arguments_told a s) folds.counts under place extras are

-- the same of a node to which shared candidates are lent, where some are given
abbrev pub TellsOver : Look → RuleId → ℕ → List Extra → Option Candidates → Node → Type 0
TellsOver look under place extras shared n = (p : Program) (s : Snapshot) (rows : Row → Bool) (forgotten : Named → Bool)
    → HaveDistinctTags s.facts → HasAllOf look s forgotten → NameHeld s rows → NodeStands p (lent_to shared n) look s rows forgotten → AreExtrasBeside p (condition_of n) s rows forgotten under place extras

module _ (look : Look) (under : RuleId) (place : ℕ) (extras : List Extra) where
  pub join_over : (join : BetaJoin) (shared : Option Candidates) → extras ≡ [] → TellsOver look under place extras shared (node.Join join)
  join_over join None = join_beyond look under place extras join
  join_over join (Some c) = join_beyond look under place extras (record { memories = sharing join.memories c })

  pub exists_over : (tally : TallyNode Witnesses) (shared : Option Candidates) → AreExtrasOf counts_witnesses nothing_gathered (over tally.memories shared) look under place extras → TellsOver look under place extras shared (node.Exists tally)
  exists_over tally None = exists_beyond look under place extras tally
  exists_over tally (Some c) = exists_beyond look under place extras (record { memories = sharing tally.memories c })

  pub not_over : (waiting : NotNode) (shared : Option Candidates) → AreExtrasOf counts_blockers nothing_gathered (over (blocker_tallies waiting) shared) look under place extras → TellsOver look under place extras shared (node.Not waiting)
  not_over waiting None = not_beyond look under place extras waiting
  not_over waiting (Some c) = not_beyond look under place extras (with_tallies (sharing (blocker_tallies waiting) c) waiting)

  pub fold_over : (fold : FoldNode) (shared : Option Candidates) → AreExtrasOf (gathers fold.accumulate) (arguments_gathered fold.accumulate) (over fold.tally.memories shared) look under place extras → TellsOver look under place extras shared (node.Fold fold)
  fold_over fold None = fold_beyond look under place extras fold
  fold_over fold (Some c) = fold_beyond look under place extras (record { accumulate = fold.accumulate; tally = record { memories = sharing fold.tally.memories c } })
