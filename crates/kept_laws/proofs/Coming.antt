-- What comes in a step names what is kept, and meets what is kept.
use Rattle.kept_laws.proofs.Common.{◌≡◌, ◌∙◌, ◌&&◌, not, ℕ, zero, suc, true, false, List, [], ◌∷◌, Some, refl, sym, subst, ap, slice_get, take, In, Fact, Named}
use Rattle.kept_laws.proofs.Common.{Condition, LifeTable, Program, Rule, Step, is_candidate, candidates, passes, pattern_of, binds, HaveOperators, Snapshot}
use Rattle.kept_laws.proofs.Common.{name_of, Tuple, empty_tuple, row_of, of_filter, in_filter, World, snapshot, IsKept, Comes, same_fact, operators_of, held}
use Rattle.kept_laws.proofs.Common.{candidates_of, held_fact, joins_of_tuple, candidate_of, made_facts, is_kept, is_forgotten, IsLawfulStep, behind, RowComes}
use Rattle.kept_laws.proofs.Common.{of_map, makes_listed, listed_makes, Look, joins, IsMade, tuple_of_row, row_of_tuple, and_parts, false_from_ne_true}
use Rattle.{kept_laws.proofs.Common.{list_any-none}, row_delta.specs.declared.row.Row.{Row}, rule_model.specs.Lent.{Holds}, life_laws.proofs.Keeps.{here}}
use Rattle.{life_laws.proofs.Keeps.{tuple_names_kept, tuple_meets_kept}, join_memory.specs.Standing.{clean, no_names}, condition_rows.specs.Looks.{HasAllOf}}
use Rattle.kept_meaning.proofs.{Decided.{is_tested}, Versions.{IsLost, lost, tags_behind}}

first_operators : (cs : List Condition) (q : ℕ) → HaveOperators cs → HaveOperators (take q cs)
first_operators cs zero ops = tt
first_operators [] (suc q) ops = tt
first_operators (c ∷ cs) (suc q) ops = (ops.0, first_operators cs q ops.1)

-- a look that has all of a snapshot has what the snapshot holds
held_too : (look : Look) (s : Snapshot) → HasAllOf look s no_names → (fs : List Fact) → Holds (held s) fs → Holds look fs
held_too look s all [] h = tt
held_too look s all (f ∷ fs) h = (all f.tag f h.0 refl, held_too look s all fs h.1)

module _ (p : Program) (table : LifeTable) (w : World) (step : Step) (given : IsLawfulStep p table w step) (rule : Rule) (in_rules : In rule p.rules) where
  abbrev next : Snapshot
  next = behind p w step

  operators : HaveOperators rule.conditions
  operators = operators_of p.rules rule given.operators in_rules

  -- the tuple of a row that comes, which comes too
  record HasTuple (cs : List Condition) (row : Row) : Type 0 where
    tuple : Tuple
    listed : IsMade p next cs tuple
    comes : Comes p w step cs tuple
    named : row_of tuple ≡ row

  tuple_of : (cs : List Condition) → HaveOperators cs → (row : Row) → RowComes p w step cs row → HasTuple cs row
  tuple_of cs ops row comes =
      let t = tuple_of_row p next cs row comes.is in
      record {
        tuple = t.0;
        listed = t.1;
        comes = (
          listed_makes p next cs empty_tuple t.0 ops t.1,
          λ made.
              let was = row_of_tuple p (snapshot w) cs row (t.0, makes_listed p (snapshot w) cs empty_tuple t.0 ops made, t.2) in
              let n : true ≡ false = sym was ∙ comes.was_not in
              absurd cc,
        );
        named = t.2;
      }

  -- what is forgotten is no kept fact of the world behind the step
  not_kept : (who : Named) (g : IsLost p table w who) (f : Fact) → In f next.facts → name_of f ≡ who → (In f w.facts → IsKept p table w f) → ⊥
  not_kept who g f there named kept =
      let same : f ≡ g.fact = same_fact p w step given.lawful.ordered g.fact f g.inside there (named ∙ sym g.named) in
      let tested : is_kept p table w f ≡ true = is_tested p table w given.safe f (kept (subst (λ (x : Fact). In x w.facts) (sym same) g.inside)) in
      let n : true ≡ false = sym tested ∙ ap (is_kept p table w) same ∙ g.not_kept in
      absurd cc

  module _ (q : ℕ) (c : Condition) (at_q : slice_get rule.conditions q ≡ Some c) (side : binds c ≡ false) (look : Look) (all : HasAllOf look next no_names) where
    met : (row : Row) (t : HasTuple (take q rule.conditions) row) (who : Named) → IsLost p table w who → (candidates_of p (pattern_of c) next who && joins (pattern_of c) look row who) ≡ true → ⊥
    met row t who g h =
        let d = tags_behind p w step given.lawful.ordered in
        let parts = and_parts (candidates_of p (pattern_of c) next who) (joins (pattern_of c) look row who) h in
        let f = candidate_of p next d (pattern_of c) who parts.0 in
        let there = of_filter (is_candidate p (pattern_of c) next) f.0 next.facts f.1 in
        let joining : joins (pattern_of c) look (row_of t.tuple) (name_of f.0) ≡ true =
        ap (λ (r : Row). joins (pattern_of c) look r (name_of f.0)) t.named ∙ ap (joins (pattern_of c) look row) f.2 ∙ parts.1 in
        let facts = held_too look next all t.tuple.facts (made_facts p next d (take q rule.conditions) t.tuple t.listed) in
        let passes_too = sym (joins_of_tuple look (pattern_of c) t.tuple f.0 facts (all f.0.tag f.0 (held_fact next d f.0 there) refl)) ∙ joining in
        not_kept who g f.0 there f.2
        (tuple_meets_kept p table w step given.flagged given.safe given.lawful given.faultless rule in_rules q c at_q side t.tuple t.comes f.0
        (in_filter (passes (pattern_of c) t.tuple) f.0 (candidates p (pattern_of c) next) passes_too f.1))

    pub row_meets_kept : (row : Row) → RowComes p w step (take q rule.conditions) row
        → (who : Named) → is_forgotten p table w who ≡ true → (candidates_of p (pattern_of c) next who && joins (pattern_of c) look row who) ≡ false
    row_meets_kept row comes who forgotten =
        let t = tuple_of (take q rule.conditions) (first_operators rule.conditions q operators) row comes in
        false_from_ne_true (candidates_of p (pattern_of c) next who && joins (pattern_of c) look row who) (met row t who (lost p table w who forgotten))

  pub row_names_kept : (row : Row) → RowComes p w step rule.conditions row → clean (is_forgotten p table w) row ≡ true
  row_names_kept row comes =
      let t = tuple_of rule.conditions operators row comes in
      ap not (list_any-none (is_forgotten p table w) row.facts (λ who own. false_from_ne_true (is_forgotten p table w who) (λ forgotten.
      let f = of_map name_of who t.tuple.facts (subst (λ (r : Row). In who r.facts) (sym t.named) own) in
      not_kept who (lost p table w who forgotten) f.0 (here p next t.tuple rule.conditions t.comes.0 f.0 f.1).0 f.2
      (tuple_names_kept p table w step given.flagged given.safe given.lawful given.faultless rule in_rules t.tuple t.comes f.0 f.1))))
