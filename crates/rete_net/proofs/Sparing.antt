-- A node whose rows and candidates name no old fact forgets without a change.
use Rattle.rete_net.proofs.Common.{◌≡◌, ◌∙◌, sym, ap, refl, ℤ, ◌==◌, ◌&&◌, ◌||◌, not, Bool, true, false, [], Option, Some, None, fun_ext, Decides-eqb, Named}
use Rattle.rete_net.proofs.Common.{Row, InOrder, Condition, Plain, Negated, Existing, Folded, Pattern, Program, is_candidate, is_present, is_inside, pattern_of}
use Rattle.rete_net.proofs.Common.{Snapshot, tests_hold, name_of, unbound, of_filter, passed, Look, joins, Memories, clean, cleaned, either, remembered}
use Rattle.rete_net.proofs.Common.{StandsFor, joined, unvalued, splits_value, from_unvalued, joined_clean, gives, is_ripe, line, held, candidates_of}
use Rattle.rete_net.proofs.Common.{has_partner, held_fact, candidate_of, Node, counts_blockers, counts_witnesses, gathers, condition_of, CountsPartners}
use Rattle.rete_net.proofs.Common.{NodeStands, NetNode, HasNoOld, IsForgetting, NodeForgets, HaveDistinctTags, HasAllOf, blocker_tallies, joined_pattern}
use Rattle.{rete_net.proofs.Common.{gathered_tallies}, std.{proofs.lemmas.Bool.{and_parts, false_from_ne_true}, specs.List.Sorted.{IsStrictlySortedBy}}}
use Rattle.join_memory.specs.Valued.{valued}
use Rattle.beta_node.specs.declared.node.Node.TheVariants as node
use Rattle.rete_net.proofs.Cleaning.{cleaned_either}

kept_whole : (a k : Bool) → false ≡ (a && not k) → (a && k) ≡ a
kept_whole true true e = refl
kept_whole true false e = e
kept_whole false k e = refl

lost_none : (a k : Bool) → (a && k) ≡ a → false ≡ (a && not k)
lost_none true true e = refl
lost_none true false e = e
lost_none false k e = refl

swapped : (a x k : Bool) → ((a && x) && k) ≡ ((a && k) && x)
swapped true true k = sym (with_true k)
  where
    with_true : (b : Bool) → (b && true) ≡ b
    with_true true = refl
    with_true false = refl
swapped true false true = refl
swapped true false false = refl
swapped false x k = refl

more_forgotten : (a f o : Bool) → (a ≡ true → f ≡ false → o ≡ false) → (a && not (f || o)) ≡ (a && not f)
more_forgotten true true o h = refl
more_forgotten true false o h = ap not (h refl refl)
more_forgotten false f o h = refl

-- ---- no candidate is old

pub none_old : (p : Program) (look : Look) (s : Snapshot) (forgotten old : Named → Bool) (n : NetNode) → HasNoOld look old n → HaveDistinctTags s.facts → HasAllOf look s forgotten
    → (who : Named) → candidates_of p (pattern_of (condition_of n.node)) s who ≡ true → forgotten who ≡ false → old who ≡ false
none_old p look s forgotten old n none tags at_hand who candidate known = false_from_ne_true (old who) (λ e.
    let q = pattern_of (condition_of n.node) in
    let r = candidate_of p s tags q who candidate in
    let there = of_filter (is_candidate p q s) r.0 s.facts r.1 in
    let fits = (and_parts (is_present p s.clock r.0 && (r.0.ty.0 == q.ty.0 && (r.0.entry.0 == q.entry.0 && tests_hold unbound r.0 q.alone))) (is_inside p q q.window s.clock s.facts r.0) (passed (is_candidate p q s) r.0 s.facts r.1)).0 in
    let meant = (and_parts (is_present p s.clock r.0) (r.0.ty.0 == q.ty.0 && (r.0.entry.0 == q.entry.0 && tests_hold unbound r.0 q.alone)) fits).1 in
    let typed = (Decides-eqb r.0.ty.0 q.ty.0).0 (and_parts (r.0.ty.0 == q.ty.0) (r.0.entry.0 == q.entry.0 && tests_hold unbound r.0 q.alone) meant).0 in
    none (name_of r.0) r.0 (ap old r.2 ∙ e) (at_hand r.0.tag r.0 (held_fact s tags r.0 there) (ap forgotten r.2 ∙ known)) (sym typed))

-- ---- what is left of rows and candidates is the same

module _ (p : Program) (look : Look) (s : Snapshot) (rows : Row → Bool) (forgotten old : Named → Bool) (n : NetNode) (none : HasNoOld look old n) (is : IsForgetting look s rows forgotten old []) where
  abbrev c : Condition
  c = condition_of n.node

  rows_same : cleaned rows (either forgotten old) ≡ cleaned rows forgotten
  rows_same = cleaned_either rows forgotten old ∙ fun_ext (λ row. kept_whole (cleaned rows forgotten row) (clean old row) (is.rows_old.exact row))

  not_old : (who : Named) → candidates_of p (pattern_of c) s who ≡ true → forgotten who ≡ false → old who ≡ false
  not_old = none_old p look s forgotten old n none is.tags is.at_hand

  names_same : remembered (candidates_of p (pattern_of c) s) (either forgotten old) ≡ remembered (candidates_of p (pattern_of c) s) forgotten
  names_same = fun_ext (λ who. more_forgotten (candidates_of p (pattern_of c) s who) (forgotten who) (old who) (not_old who))

  names_of : (q : Pattern) → q ≡ pattern_of c → remembered (candidates_of p q s) (either forgotten old) ≡ remembered (candidates_of p q s) forgotten
  names_of q at = ap (λ r. remembered (candidates_of p r s) (either forgotten old)) at ∙ names_same ∙ ap (λ r. remembered (candidates_of p r s) forgotten) (sym at)

  memories_stand : {S : Type 0} (m : Memories S) (other : Look) (q : Pattern) → q ≡ pattern_of c → StandsFor m other rows (candidates_of p q s) forgotten → StandsFor m other rows (candidates_of p q s) (either forgotten old)
  memories_stand m other q at stands = record {
    rows = λ row. stands.rows row ∙ ap (λ (set : Row → Bool). set row) (sym rows_same);
    names = λ who. stands.names who ∙ ap (λ (set : Named → Bool). set who) (sym (names_of q at));
    agrees = stands.agrees;
  }

  counted : {T : Type 0} (holds : T → Look → (Named → Bool) → Type 0) (m : Memories T) (other : Look) → m.pattern ≡ pattern_of c → CountsPartners holds p m other s rows forgotten → CountsPartners holds p m other s rows (either forgotten old)
  counted holds m other at stands = record { stands = memories_stand m other m.pattern at stands.stands; counts = stands.counts }

  node_stands : (m : Node) → condition_of m ≡ c → (other : Look) → NodeStands p m other s rows forgotten → NodeStands p m other s rows (either forgotten old)
  node_stands (node.Join join) at other stands = memories_stand join.memories other (joined_pattern join) (ap pattern_of at) stands
  node_stands (node.Not waiting) at other stands = record { counts = counted counts_blockers (blocker_tallies waiting) other (ap pattern_of at) stands.counts; in_step = stands.in_step; none_due = stands.none_due; floor = stands.floor }
  node_stands (node.Exists tally) at other stands = counted counts_witnesses tally.memories other (ap pattern_of at) stands
  node_stands (node.Fold fold) at other stands = record { counts = counted (gathers fold.accumulate) (gathered_tallies fold) other (stands.pattern ∙ ap pattern_of at) stands.counts; pattern = stands.pattern }

  tested_same : (x : Row → Bool) (row : Row) → ((rows row && x row) && clean (either forgotten old) row) ≡ ((rows row && x row) && clean forgotten row)
  tested_same x row =
      swapped (rows row) (x row) (clean (either forgotten old) row) ∙ ap (λ (set : Row → Bool). set row && x row) rows_same ∙ sym (swapped (rows row) (x row) (clean forgotten row))

  valued_if : (test : Row → ℤ → Bool) (row : Row) (o : Option (Row × ℤ)) → unvalued row ≡ o
      → (splits_value (λ left v. rows left && test left v) o && clean (either forgotten old) row) ≡ (splits_value (λ left v. rows left && test left v) o && clean forgotten row)
  valued_if test row None e = refl
  valued_if test row (Some r) e =
      ap (λ k. (rows r.0 && test r.0 r.1) && k) (ap (clean (either forgotten old)) (from_unvalued row r e))
      ∙ tested_same (λ left. test left r.1) r.0
      ∙ ap (λ k. (rows r.0 && test r.0 r.1) && k) (sym (ap (clean forgotten) (from_unvalued row r e)))

  valued_same : (test : Row → ℤ → Bool) (row : Row) → (valued (λ left v. rows left && test left v) row && clean (either forgotten old) row) ≡ (valued (λ left v. rows left && test left v) row && clean forgotten row)
  unfolding valued
  valued_same test row = valued_if test row (unvalued row) refl

  joined_same : (q : Pattern) → q ≡ pattern_of c → (row : Row)
      → cleaned (joined (joins q (held s)) rows (candidates_of p q s)) (either forgotten old) row ≡ cleaned (joined (joins q (held s)) rows (candidates_of p q s)) forgotten row
  joined_same q at row =
      let cands = candidates_of p q s in
      sym (joined_clean (joins q (held s)) (joins q (held s)) rows cands (either forgotten old) (λ r who e f. refl) row)
      ∙ ap (λ (left : Row → Bool). joined (joins q (held s)) left (remembered cands (either forgotten old)) row) rows_same
      ∙ ap (λ (right : Named → Bool). joined (joins q (held s)) (cleaned rows forgotten) right row) (names_of q at)
      ∙ joined_clean (joins q (held s)) (joins q (held s)) rows cands forgotten (λ r who e f. refl) row

  line_same : (d : Condition) → d ≡ c → (row : Row) → cleaned (line p s d rows) (either forgotten old) row ≡ cleaned (line p s d rows) forgotten row
  line_same (Plain q) at row = joined_same q (ap pattern_of at) row
  line_same (Negated q) at row = tested_same (λ r. not (has_partner p q s r) && is_ripe p q s r) row
  line_same (Existing q) at row = tested_same (has_partner p q s) row
  line_same (Folded a) at row = valued_same (gives p a s) row

none_in_order : InOrder []
unfolding IsStrictlySortedBy
none_in_order = tt

pub spared : (p : Program) (look : Look) (old : Named → Bool) (n : NetNode) → HasNoOld look old n → NodeForgets p look old n n [] []
spared p look old n none = record {
  parent = refl;
  condition = refl;
  stands = λ s rows forgotten standing is. record { gate = standing.gate; node = node_stands p look s rows forgotten old n none is n.node refl (held s) standing.node };
  drops = λ s rows forgotten standing is.
      let made = line p s (condition_of n.node) rows in
      record {
        in_order = none_in_order;
        exact = λ row.
            lost_none (cleaned made forgotten row) (clean old row)
            (ap (λ (set : Row → Bool). set row) (sym (cleaned_either made forgotten old)) ∙ line_same p look s rows forgotten old n none is (condition_of n.node) refl row);
      };
}
