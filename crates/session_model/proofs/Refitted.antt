-- What asks the rows over the facts of an image that fits by plain tests, as it is told while a session is made from it.
use Rattle.session_model.proofs.Common.{◌≡◌, ◌∙◌, ◌&&◌, ◌||◌, ◌==◌, not, ℕ, zero, suc, ◌<◌, ℤ, pos, ◌+ℤ◌, Bool, true, false, inl, inr, List, [], ◌∷◌, length}
use Rattle.session_model.proofs.Common.{Option, Some, None, refl, sym, ap, subst, arith, int_le, option_and_then, ints, tells_apart, slice_get_within, In, Fact}
use Rattle.session_model.proofs.Common.{Extra, Named, Row, row_exact, FiredMatch, Image, has_come, HeldFacts, tag_of, Condition, Negated, Existing, Folded}
use Rattle.session_model.proofs.Common.{Life, Plain, Explicit, Finite, Infinite, LifeTable, Match, Program, Rule, is_candidate, is_present, HaveDistinctTags}
use Rattle.session_model.proofs.Common.{has_match, Snapshot, name_of, of_filter, one_fact, joins, joined, held, candidates_of, has_partner, candidate_of}
use Rattle.session_model.proofs.Common.{is_alive, match_fired, has_fired, snapshot_of, laden_gives, laden_line, laden_with, extra_at, FitsPlainly, FitsByRows}
use Rattle.session_model.proofs.Common.{Marks, names_tag, is_named, Ends, is_old, end_of_life, ends_by, ends_of, witness, IsThere, stored, AreMarked, laden_by}
use Rattle.{session_model.proofs.Common.{is_laden}, fx_base.proofs.Sequences.{list_any-In, list_any-from, In-append}, std.proofs.lemmas.Bool.{and_from}}
use Rattle.std.{proofs.lemmas.Bool.{and_parts, eq-eqb, eqb-true, not-true}, specs.Prelude.{slice_get}}
use Rattle.std.specs.FinMap as map_of
use Rattle.{std.specs.Option.{is_some}, rule_model.specs.declared.condition.Condition.TheVariants.{Plain as plain_condition}}
use Rattle.{join_memory.proofs.{Joining.{joined_with, joined_from}, Valued.{valued_from}}, condition_rows.specs.Lines.{is_ripe, empty_row}}
use Rattle.{image_laws.specs.Fitting.{IsLadenRow, IsLadenMatch, IsNeeded}, laden_rows.specs.Laden.{extra_values_of, laden}}
use Rattle.{forgetting_laws.proofs.Naming.{found}, session_model.proofs.{Members.{Holds}, Storing.{stored_holds}}}

-- ---- laden rows name facts of the snapshot

module _ (p : Program) (s : Snapshot) (d : HaveDistinctTags s.facts) where
  abbrev NameFacts : (Row → Bool) → Type 0
  NameFacts rows = (row : Row) → rows row ≡ true → (who : Named) → In who row.facts → (f : Fact) × In f s.facts × (name_of f ≡ who)

  line_named : (beyond : Row → Option Extra) (c : Condition) (left : Row → Bool) → NameFacts left → NameFacts (laden_line p s beyond c left)
  line_named beyond (plain_condition q) left h row e who i =
      let r = joined_from (joins q (held s)) left (candidates_of p q s) row e in
      let holds = sym (joined_with (joins q (held s)) left (candidates_of p q s) r.0 r.1) ∙ ap (joined (joins q (held s)) left (candidates_of p q s)) (sym r.2) ∙ e in
      let a = and_parts (left r.0) (candidates_of p q s r.1 && joins q (held s) r.0 r.1) holds in
      let b = and_parts (candidates_of p q s r.1) (joins q (held s) r.0 r.1) a.1 in
      let f = candidate_of p s d q r.1 b.0 in
      elim (In-append who r.0.facts (r.1 ∷ []) (subst (λ (z : Row). In who z.facts) r.2 i)) [
        | inl j ↦ h r.0 a.0 who j
        | inr (inl same) ↦ (f.0, of_filter (is_candidate p q s) f.0 s.facts f.1, f.2 ∙ sym same)
        | inr (inr j) ↦ absurd j
      ]
  line_named beyond (Negated q) left h row e who i = h row (and_parts (left row) (not (has_partner p q s row || is_some (beyond row)) && is_ripe p q s row) e).0 who i
  line_named beyond (Existing q) left h row e who i = h row (and_parts (left row) (has_partner p q s row || is_some (beyond row)) e).0 who i
  line_named beyond (Folded a) left h row e who i =
      let r = valued_from (λ without v. left without && laden_gives p a s (extra_values_of (beyond without)) without v) row e in
      h r.0 (and_parts (left r.0) (laden_gives p a s (extra_values_of (beyond r.0)) r.0 r.1) r.3).0 who (subst (λ (z : Row). In who z.facts) r.2 i)

  laden_named : (extras : List Extra) (owner : ℕ → ℕ) (conditions : List Condition) (n : ℕ) → NameFacts (laden p s extras owner conditions n)
  unfolding laden
  laden_named extras owner conditions zero = λ row e who i. absurd (subst (λ (z : Row). In who z.facts) (tells_apart row_exact row empty_row e) i)
  laden_named extras owner conditions (suc n) = by (slice_get conditions n) (laden_named extras owner conditions n)
    where
      by : (o : Option Condition) → NameFacts (laden p s extras owner conditions n) → NameFacts (laden_with p s (extra_at extras (owner n) n) o (laden p s extras owner conditions n))
      by None before = before
      by (Some c) before = line_named (extra_at extras (owner n) n) c (laden p s extras owner conditions n) before

module _ (p : Program) (table : LifeTable) (image : Image) (owners : ℕ → ℕ → ℕ) (plain : FitsPlainly p table image) where
  -- ---- matches and the rows of extras

  pub laden_match : (m : Match) → is_laden p image owners m ≡ true → IsLadenMatch p image owners m.rule.0 m.row
  laden_match m e = by (slice_get p.rules m.rule.0) refl
    where
      by : (o : Option Rule) → slice_get p.rules m.rule.0 ≡ o → IsLadenMatch p image owners m.rule.0 m.row
      by None at = absurd (let no : false ≡ true = sym (ap (λ o. laden_by p image owners o m) at) ∙ e in cc)
      by (Some rule) at = (rule, at, sym (ap (λ o. laden_by p image owners o m) at) ∙ e)

  match_laden : (m : Match) → IsLadenMatch p image owners m.rule.0 m.row → is_laden p image owners m ≡ true
  match_laden m (rule, at, there) = ap (λ o. laden_by p image owners o m) at ∙ there

  abbrev IsThereAs : Bool → Extra → Type 0
  IsThereAs so e = IsThere p (snapshot_of image) image.extras owners e so

  extra_laden : (e : Extra) → In e image.extras → IsThereAs true e → IsLadenRow p image owners e.rule.0 e.row e.condition
  extra_laden e i there =
      let x = (plain.placed e i).place in
      record {
        rule = x.rule;
        stands = x.stands;
        conditions = (let h : e.condition < length x.rule.conditions = slice_get_within x.rule.conditions e.condition x.condition x.placed in omega arith);
        there = there x.rule x.stands;
      }

  -- the row of an extra that is not there
  pub no_row_unfit : (e : Extra) → In e image.extras → IsThereAs false e → FitsByRows p table image owners → ⊥
  no_row_unfit e i gone fits =
      let r = fits.rows e i in
      absurd (let no : false ≡ true = sym (gone r.rule r.stands) ∙ r.there in cc)

  -- a fired match that is none of the rows
  pub fired_unfit : (m : FiredMatch) → In m image.fired → is_laden p image owners (match_fired m) ≡ false → FitsByRows p table image owners → ⊥
  fired_unfit m i gone fits = absurd (let no : false ≡ true = sym gone ∙ match_laden (match_fired m) (fits.fired m i) in cc)

  -- ---- lives

  abbrev store : HeldFacts
  store = stored image.facts

  image_stored : Holds store image.facts
  image_stored = stored_holds image.facts plain.lawful.ordered.tags

  past_int : (clock end : ℤ) → int_le clock end ≡ false → int_le (end +ℤ pos 1) clock ≡ true
  past_int clock end e = grind (arith, ints)

  within_int : (clock end : ℤ) → int_le (end +ℤ pos 1) clock ≡ true → int_le clock end ≡ false
  within_int clock end e = grind (arith, ints)

  dead_come : (f : Fact) (life : Option Life) → is_present p image.clock f ≡ true → is_alive p life image.clock f ≡ false → has_come image.clock (end_of_life life f) ≡ true
  dead_come f None there e = absurd (let no : true ≡ false = e in cc)
  dead_come f (Some Plain) there e = absurd (let no : true ≡ false = e in cc)
  dead_come f (Some (Explicit expiry)) there e = absurd (let no : true ≡ false = sym there ∙ e in cc)
  dead_come f (Some (Finite n)) there e = past_int image.clock (f.times.end +ℤ n) e
  dead_come f (Some Infinite) there e = absurd (let no : true ≡ false = e in cc)

  come_dead : (f : Fact) (life : Option Life) → has_come image.clock (end_of_life life f) ≡ true → is_alive p life image.clock f ≡ false
  come_dead f None e = absurd (let no : false ≡ true = e in cc)
  come_dead f (Some Plain) e = absurd (let no : false ≡ true = e in cc)
  come_dead f (Some (Explicit expiry)) e = absurd (let no : false ≡ true = e in cc)
  come_dead f (Some (Finite n)) e = within_int image.clock (f.times.end +ℤ n) e
  come_dead f (Some Infinite) e = absurd (let no : false ≡ true = e in cc)

  abbrev ends : Ends
  ends = ends_of (ends_by table) (map_of.get store)

  named_second : (a b : Bool) → a ≡ true → (a && not b) ≡ false → b ≡ true
  named_second true true e h = refl
  named_second true false e h = absurd (let no : true ≡ false = h in cc)
  named_second false b e h = absurd (let no : false ≡ true = e in cc)

  -- a laden match that names the tag of a fact names the fact
  own_name : (f : Fact) → In f image.facts → (m : Match) → IsLadenMatch p image owners m.rule.0 m.row → names_tag f.tag.0 m ≡ true → In (name_of f) m.row.facts
  own_name f i m laden_row names =
      let n = list_any-In (λ (k : Named). f.tag.0 == k.tag.0) m.row.facts names in
      let g = laden_named p (snapshot_of image) plain.lawful.ordered.tags image.extras (owners m.rule.0) laden_row.0.conditions (length laden_row.0.conditions) m.row laden_row.2 n.0 n.1 in
      let tags : g.0.tag.0 ≡ f.tag.0 = ap (λ (k : Named). k.tag.0) g.2 ∙ sym (eqb-true f.tag.0 n.0.tag.0 n.2) in
      let same : g.0 ≡ f = one_fact image.facts plain.lawful.ordered.tags g.0 f g.1 i (ap tag_of tags) in
      subst (λ (k : Named). In k m.row.facts) (sym g.2 ∙ ap name_of same) n.1

  names_own : (f : Fact) (m : Match) → In (name_of f) m.row.facts → names_tag f.tag.0 m ≡ true
  names_own f m i = list_any-from (λ (k : Named). f.tag.0 == k.tag.0) (name_of f) m.row.facts i (eq-eqb f.tag.0 f.tag.0 refl)

  module _ (marks : Marks) (are : AreMarked (is_laden p image owners) image.fired marks) where
    abbrev old : ℕ → Bool
    old = is_old ends image.clock (is_named marks)

    needed : ((tag : ℕ) → old tag ≡ false) → (f : Fact) → In f image.facts → IsNeeded p table image owners f
    needed none f i dead =
        let at : map_of.get store f.tag.0 ≡ Some f = image_stored.from f i in
        let come : has_come image.clock (ends f.tag.0) ≡ true =
        ap (λ o. has_come image.clock (option_and_then (ends_by table) o)) at ∙ dead_come f (slice_get table.lives f.ty.0) (plain.present f i) dead in
        let named : is_named marks f.tag.0 ≡ true = named_second (has_come image.clock (ends f.tag.0)) (is_named marks f.tag.0) come (none f.tag.0) in
        let m = witness (names_tag f.tag.0) marks.pending named in
        let parts = and_parts (is_laden p image owners m.0) (not (has_fired image m.0)) (sym (are.pending m.0) ∙ m.2) in
        let laden_row = laden_match m.0 parts.0 in
        (m.0, laden_row, not-true (has_fired image m.0) parts.1, own_name f i m.0 laden_row m.1)

    -- all of it is so where no event is old
    pub rows_fit : ((e : Extra) → In e image.extras → IsThereAs true e) → ((m : FiredMatch) → In m image.fired → is_laden p image owners (match_fired m) ≡ true) → ((tag : ℕ) → old tag ≡ false)
        → FitsByRows p table image owners
    rows_fit there came none = record {
      rows = λ e i. extra_laden e i (there e i);
      fired = λ m i. laden_match (match_fired m) (came m i);
      needed = needed none;
    }

    -- and where one is, a fact is there that is not kept
    pub old_unfit : (tag : ℕ) → old tag ≡ true → FitsByRows p table image owners → ⊥
    old_unfit tag e fits = by (map_of.get store tag) refl (and_parts (has_come image.clock (ends tag)) (not (is_named marks tag)) e)
      where
        by : (o : Option Fact) → map_of.get store tag ≡ o → (has_come image.clock (ends tag) ≡ true) × (not (is_named marks tag) ≡ true) → ⊥
        by None at parts = absurd (let no : false ≡ true = sym (ap (λ o. has_come image.clock (option_and_then (ends_by table) o)) at) ∙ parts.0 in cc)
        by (Some f) at parts =
            let i = image_stored.to tag f at in
            let come = sym (ap (λ o. has_come image.clock (option_and_then (ends_by table) o)) at) ∙ parts.0 in
            let r = fits.needed f i.0 (come_dead f (slice_get table.lives f.ty.0) come) in
            let pends : has_match marks.pending r.0 ≡ true = are.pending r.0 ∙ and_from (is_laden p image owners r.0) (not (has_fired image r.0)) (match_laden r.0 r.1) (ap not r.2) in
            let names : names_tag tag r.0 ≡ true = ap (λ t. names_tag t r.0) (sym i.1) ∙ names_own f r.0 r.3 in
            let named : is_named marks tag ≡ true = found (names_tag tag) r.0 marks.pending names pends in
            absurd (let no : false ≡ true = sym (not-true (is_named marks tag) parts.1) ∙ named in cc)
