-- The first step of a network, over no facts: the empty row comes.
use Rattle.rete_net.proofs.Common.{◌≡◌, ◌∙◌, sym, ap, refl, subst, inl, inr, ℕ, ℤ, pos, ◌<◌, arith, ◌&&◌, not, Bool, true, false, List, [], ◌∷◌, ◌++◌, length}
use Rattle.rete_net.proofs.Common.{take, get_or, Option, Some, None, slice_get, fun_ext, In, ≤ℤ_refl, get_or-take, length-take, slice_get_within}
use Rattle.rete_net.proofs.Common.{get_or_from_slice_get, slice_get-get_or, Named, Row, has, LeadsRows, Condition, Plain, Negated, Existing, Folded, Pattern}
use Rattle.rete_net.proofs.Common.{Program, Rule, rows, Snapshot, floor, Look, joins, splits, unjoined, clean, cleaned, no_rows, no_names, splits_value}
use Rattle.rete_net.proofs.Common.{unvalued, rows_of, empty_row, line, gives, empty_snapshot, HasAllOf, has_in, rows_named, IsOrderly, condition_of, IsRunnable}
use Rattle.rete_net.proofs.Common.{AreFans, shown_nodes, RuleChange, Rete, NetNode, IsIndexOf, NodesStand, NetStands, AreBetween, CountsNone, AreNodeOwners}
use Rattle.rete_net.proofs.Common.{AreOwnedSoFar, AreQuiet, AreScheduled, before, EndsRule, IsRuleFront, IsNetOf, StandOnce, empty_row_comes, NetStep}
use Rattle.rete_net.proofs.{Common.{IsParentNode, AreBuilt, HaveEnds, AreFronts, AreDistinctFronts, IsAt, Moment, AreSources, member_at}, Advancing.{first_row}}
use Rattle.rete_net.proofs.{Advancing.{shape_now, stands_now, between_now}, Answering.{few_ends}, Beside.{stay_of}, Chaining.{AreMade, IsGiven, AreStanding}}
use Rattle.rete_net.proofs.{Chaining.{StaysBeside}, Cleaning.{all_clean}, Fresh.{fresh_standing, no_candidate}, Quieting.{seen_now}}
use Rattle.candidate_source.specs.{declared.source.Source.{Source}, Doors.{source_pattern}, Sources.{source_at, IsNewSource}}
use Rattle.{std.{proofs.lemmas.Bool.{and_parts}, specs.List.Sorted.{IsStrictlySortedBy}}, join_memory.specs.{Joined.{joined}, Valued.{valued}}}
use Rattle.{condition_rows.specs.Sets.{held, candidates_of}, fx_base.proofs.Sequences.{get-below}}

-- ---- conditions make nothing of no rows

none_joined : (pass : Row → Named → Bool) (names : Named → Bool) (o : Option (Row × Named)) → false ≡ splits (λ l c. no_rows l && (names c && pass l c)) o
none_joined pass names None = refl
none_joined pass names (Some q) = refl

none_valued : (test : Row → ℤ → Bool) (o : Option (Row × ℤ)) → false ≡ splits_value (λ without v. no_rows without && test without v) o
none_valued test None = refl
none_valued test (Some q) = refl

pub none_made : (p : Program) (s : Snapshot) (c : Condition) (row : Row) → false ≡ line p s c no_rows row
unfolding joined valued
none_made p s (Plain q) row = none_joined (joins q (held s)) (candidates_of p q s) (unjoined row)
none_made p s (Negated q) row = refl
none_made p s (Existing q) row = refl
none_made p s (Folded a) row = none_valued (gives p a s) (unvalued row)

abbrev nothing : List Condition → Row → Bool
nothing cs = no_rows

nothing_made : (p : Program) (s : Snapshot) → AreMade p s nothing
nothing_made p s = record { more = λ front c. fun_ext (none_made p s c); named = λ cs row e. absurd (let no : false ≡ true = e in cc) }

-- ---- from no facts to no facts

kept : (p : Program) → IsOrderly p empty_snapshot
unfolding IsStrictlySortedBy
kept p = record { in_order = tt; present = λ f i. absurd i; low = λ f i. absurd i; high = λ f i. absurd i }

abbrev pub no_facts : Look
no_facts tag = None

none_held : (forgotten : Named → Bool) → HasAllOf no_facts empty_snapshot forgotten
unfolding held
none_held forgotten tag f e n = e

abbrev starts : (p : Program) (moment : Moment) → IsAt empty_snapshot moment → (forgotten : Named → Bool) → IsGiven p no_facts empty_snapshot empty_snapshot [] None moment forgotten
starts p moment is_at forgotten = record {
  moves = record { before = kept p; after = kept p; clock = ≤ℤ_refl (pos 0); floors = λ entry. ≤ℤ_refl (floor p empty_snapshot entry); held = λ f i. absurd i; once = tt; facts = refl };
  is_at = is_at;
  at_hand = none_held forgotten;
  at_hand_now = none_held forgotten;
  world = no_facts;
  known = none_held no_names;
  known_now = none_held no_names;
}

kept_alone : (b k : Bool) → (b ≡ true → k ≡ true) → b ≡ ((b && k) && true)
kept_alone true k h = ap (λ x. x && true) (sym (h refl))
kept_alone false k h = refl

names_nothing : (forgotten : Named → Bool) (row : Row) → In row (empty_row ∷ []) → clean forgotten row ≡ true
names_nothing forgotten row (inl e) = ap (clean forgotten) e
names_nothing forgotten row (inr i) = absurd i

first_comes : (p : Program) (forgotten : Named → Bool) → LeadsRows (cleaned no_rows forgotten) (cleaned (rows_of p empty_snapshot []) forgotten) empty_row_comes.gone empty_row_comes.come
first_comes p forgotten = record {
  goes = λ row. refl;
  comes = λ row.
      kept_alone (has (empty_row ∷ []) row) (clean forgotten row) (λ e. names_nothing forgotten row (has_in row (empty_row ∷ []) e))
      ∙ ap (λ (rs : List Row). (has rs row && clean forgotten row) && true) (sym (first_row p empty_snapshot));
}

-- ---- of no facts none is counted

counts_none : (p : Program) (forgotten : Named → Bool) (c : Condition) (row : Row) → CountsNone c p empty_snapshot forgotten row
counts_none p forgotten (Plain q) row = tt
counts_none p forgotten (Negated q) row = λ who e. ap (λ b. b && joins q (held empty_snapshot) row who) (no_candidate p q who)
counts_none p forgotten (Existing q) row = λ who e. ap (λ b. b && joins q (held empty_snapshot) row who) (no_candidate p q who)
counts_none p forgotten (Folded a) row = λ who e. ap (λ b. b && joins a.pattern (held empty_snapshot) row who) (no_candidate p a.pattern who)

beside : (p : Program) (forgotten : Named → Bool) (c : Condition) (behind : List Condition) → StaysBeside p no_facts empty_snapshot empty_snapshot c no_rows (rows_of p empty_snapshot behind) forgotten
beside p forgotten c behind = record {
  same = λ who e. refl;
  stay = λ left leads.
      stay_of p no_facts empty_snapshot empty_snapshot no_rows (rows_of p empty_snapshot behind) forgotten left c (none_held no_names) (rows_named p empty_snapshot tt behind)
      (λ row e. (and_parts (rows_of p empty_snapshot behind row) (clean forgotten row) (and_parts (cleaned (rows_of p empty_snapshot behind) forgotten row) (not (cleaned no_rows forgotten row)) (sym (leads.comes row) ∙ e)).0).0)
      (λ who e. refl) (λ row e. counts_none p forgotten c row);
}

-- ---- what was built

module _ (p : Program) (net : Rete) (all : List (List Condition)) (built : AreBuilt p (shown_nodes net) all)
    (ends : HaveEnds all net.ends.items p.rules (length p.rules)) (fronts_are : AreFronts p all) (distinct : AreDistinctFronts all) (count : length net.ends.items ≡ length p.rules)
    (are : AreSources net.nodes.items net.fans net.sources) (new_sources : (k : ℕ) (s : Source) → source_at net.sources k ≡ Some s → IsNewSource (source_pattern s) s) where
  abbrev conditions : ℕ → List Condition
  conditions k = get_or all k []

  within : (k parent : ℕ) (cs : List Condition) → slice_get (take k all) parent ≡ Some cs → parent < k
  within k parent cs e = let lt = slice_get_within (take k all) parent cs e in omega (arith, length-take k all)

  earlier : (k parent : ℕ) (n : NetNode) → slice_get (shown_nodes net) k ≡ Some n → n.parent ≡ Some parent → parent < k
  earlier k parent n e at =
      let is = built.behind k n e in
      within k parent is.before (subst (λ (o : Option ℕ). IsParentNode (take k all) o is.before) at is.parent)

  before_is : (k : ℕ) (cs : List Condition) (o : Option ℕ) → IsParentNode (take k all) o cs → before conditions o ≡ cs
  before_is k cs None is = sym is
  before_is k cs (Some parent) is =
      let lt = within k parent cs is in
      sym (get_or-take k all parent [] lt) ∙ get_or_from_slice_get (take k all) parent cs [] is

  own : (k : ℕ) (n : NetNode) → slice_get (shown_nodes net) k ≡ Some n → conditions k ≡ before conditions n.parent ++ condition_of n.node ∷ []
  own k n e =
      let is = built.behind k n e in
      get_or_from_slice_get all k (is.before ++ condition_of n.node ∷ []) [] is.own ∙ ap (λ (cs : List Condition). cs ++ condition_of n.node ∷ []) (sym (before_is k is.before n.parent is.parent))

  standing : (forgotten : Named → Bool) → AreStanding p empty_snapshot nothing forgotten (source_at net.sources) (shown_nodes net) conditions
  standing forgotten = record {
    shaped = record { parents = earlier; own = own };
    windows = built.windows;
    stand = fresh_standing p (member_at net.fans) net.nodes.items net.fans net.sources are new_sources built.fresh forgotten;
  }

  end_at : (place : ℕ) (rule : Rule) → slice_get p.rules place ≡ Some rule → EndsRule (shown_nodes net) conditions net.ends.items place rule
  end_at place rule e =
      let r = ends place rule (slice_get_within p.rules place rule e) e in
      let inside : r.0 < length all = slice_get_within all r.0 rule.conditions r.2 in
      let many = built.length in
      there r.0 r.1 r.2 (get-below (shown_nodes net) r.0 (omega arith))
    where
      there : (last : ℕ) → slice_get net.ends.items place ≡ Some last → slice_get all last ≡ Some rule.conditions
          → (n : NetNode) × (slice_get (shown_nodes net) last ≡ Some n) → EndsRule (shown_nodes net) conditions net.ends.items place rule
      there last found has n = record { last = last; node = n.0; found = found; there = n.1; all = get_or_from_slice_get all last rule.conditions [] has }

  -- the conditions of a node are those that it was built for
  listed : (k : ℕ) → k < length (shown_nodes net) → slice_get all k ≡ Some (conditions k)
  listed k h = let many = built.length in slice_get-get_or all k [] (omega arith)

  fronts : (k : ℕ) (n : NetNode) → slice_get (shown_nodes net) k ≡ Some n → IsRuleFront p (conditions k)
  fronts k n e = fronts_are k (conditions k) (listed k (slice_get_within (shown_nodes net) k n e))

  -- the conditions of two nodes are not the same
  once : StandOnce (shown_nodes net) conditions
  once j k a b e f equal = distinct j k (conditions j) (listed j (slice_get_within (shown_nodes net) j a e)) (listed k (slice_get_within (shown_nodes net) k b f) ∙ ap Some (sym equal))

  abbrev shape : IsNetOf p (shown_nodes net) net.ends.items
  shape = record { conditions = conditions; shaped = record { parents = earlier; own = own }; once = once; lasts = end_at; count = count; fronts = fronts; windows = built.windows }

  pub built_shape : IsNetOf p (shown_nodes net) net.ends.items
  built_shape = shape

  pub built_owned : (rules : ℕ) → AreOwnedSoFar p all net.owners.items rules [] 0 → AreNodeOwners p conditions (length (shown_nodes net)) net.owners.items
  built_owned rules so = record {
    count = so.count ∙ sym built.length;
    each = λ k o e.
        let within : k < length net.owners.items = slice_get_within net.owners.items k o e in
        let count = so.count in
        let many = built.length in
        so.each k (conditions k) o (listed k (omega arith)) e;
    rising = so.rising;
  }

  pub shape_owned : (rules : ℕ) → AreOwnedSoFar p all net.owners.items rules [] 0 → AreNodeOwners p built_shape.conditions (length (shown_nodes net)) net.owners.items
  unfolding built_shape
  shape_owned rules so = built_owned rules so

  module _ (moment : Moment) (is_at : IsAt empty_snapshot moment) (new : Rete) (answers : List RuleChange) (same : new.ends.items ≡ net.ends.items)
      (step : NetStep p no_facts [] None moment empty_row_comes (source_at net.sources) (source_at new.sources) (shown_nodes net) (shown_nodes new) net.ends.items answers) where
    nodes_now : IsIndexOf new.sources (shown_nodes new) new.ends.items new.index → AreScheduled p new.sources new.nodes.items new.schedule → AreFans new.nodes.items new.fans
        → AreSources new.nodes.items new.fans new.sources
        → AreNodeOwners p conditions (length (shown_nodes new)) new.owners.items → (forgotten : Named → Bool) → NodesStand p new empty_snapshot forgotten
    nodes_now indexed scheduled fans sources owned forgotten =
        stands_now p no_facts empty_snapshot empty_snapshot [] None moment forgotten empty_row_comes nothing (λ rule. []) net new shape answers (starts p moment is_at forgotten) (nothing_made p empty_snapshot) (first_comes p forgotten)
        (standing forgotten) (λ k n e. beside p forgotten (condition_of n.node) (before conditions n.parent)) same step (λ place rule e. refl) indexed scheduled fans sources owned

    pub built_net : IsNetOf p (shown_nodes new) new.ends.items
    built_net =
        shape_now p no_facts empty_snapshot empty_snapshot [] None moment no_names empty_row_comes nothing (λ rule. []) net new shape answers (starts p moment is_at no_names) (nothing_made p empty_snapshot) (first_comes p no_names)
        (standing no_names) (λ k n e. beside p no_names (condition_of n.node) (before conditions n.parent)) same step (λ place rule e. refl)

    pub built_stands : AreQuiet p new.sources (shown_nodes new) new.quiet_until → IsIndexOf new.sources (shown_nodes new) new.ends.items new.index → AreScheduled p new.sources new.nodes.items new.schedule → AreFans new.nodes.items new.fans
        → AreSources new.nodes.items new.fans new.sources
        → AreNodeOwners p conditions (length (shown_nodes new)) new.owners.items → (forgotten : Named → Bool) → NetStands p new empty_snapshot forgotten
    built_stands quiet indexed scheduled fans sources owned forgotten =
        seen_now p new empty_snapshot forgotten (nodes_now indexed scheduled fans sources owned forgotten) (kept p) (≤ℤ_refl (pos 0)) quiet

    pub built_between : IsRunnable p → AreBetween p (λ rule. []) (λ rule. rows p empty_snapshot rule.conditions) answers
    built_between runnable =
        subst (λ (lists : Rule → List Row). AreBetween p (λ rule. []) lists answers) (fun_ext (λ rule. all_clean (rows p empty_snapshot rule.conditions)))
        (between_now p no_facts empty_snapshot empty_snapshot [] None moment no_names empty_row_comes nothing (λ rule. []) net new shape answers (starts p moment is_at no_names) (nothing_made p empty_snapshot) (first_comes p no_names)
        (standing no_names) (λ k n e. beside p no_names (condition_of n.node) (before conditions n.parent)) same step (λ place rule e. refl)
        (few_ends p net.ends.items count runnable))
