-- A load of a node to which a source lends its candidates, out of what both answer.
use Rattle.rete_net.proofs.Common.{gathered_tallies, ◌≡◌, ◌∙◌, sym, ap, refl, subst, ℕ, ℤ, Bool, List, Option, Some, None, filter, Fact, Delta, Extra, Named}
use Rattle.rete_net.proofs.Common.{Row, IsDifference, Condition, Pattern, Moment, Program, IsAt, pattern_of, Snapshot, Look, Candidates, Memories, has_name}
use Rattle.rete_net.proofs.Common.{no_names, no_rows, extra_for, empty_snapshot, PatternGate, GateStands, Node, IsLoad, Laden, slice_get, Vec, Bor}
use Rattle.rete_net.proofs.Common.{grouped_facts_at, given_facts, IsSourced, node_rows, condition_of, NodeStands, blocker_tallies, NetNode, is_fact_of_type}
use Rattle.{rete_net.proofs.Common.{NodeLoad, taking}, join_tests.specs.NameKeys.{name_key}, fx_base.specs.declared.ids.TypeId.{TypeId}}
use Rattle.{pattern_gate.proofs.Alike.{same_candidates, same_gate, same_window}, join_memory.specs.{Apart.{has_candidate}, Shared.{sharing, NamesAgree}}}
use Rattle.candidate_source.{specs.{declared.source.Source.{Source}, Doors.{source_candidates, source_gate, source_pattern}}, proofs.Sharing.{agree_alike}}
use Rattle.candidate_source.{proofs.Sharing.{there as has_lent}, specs.Sources.{facts_in, facts_of_type, IsLoadedWith}}
use Rattle.beta_node.specs.Lending.{with_candidates, HasCandidates, NodeHas}
use Rattle.beta_node.specs.declared.node.Node.TheVariants as node
use Rattle.rete_net.{specs.{Lending.{IsFoundAnew, IsSameFor, IsSameIn}, Loads.{HasLoaded, MayLoad, TurnLoads}}, proofs.Alone.{same_taking}}
use Rattle.rete_net.proofs.{Filled.{loads_with}, Lent.{condition_lent}}

-- ---- candidates that a source has for a node

module _ (look : Look) (source : Source) (names : List Named) (exact : (who : Named) → has_candidate (source_candidates source) look who ≡ has_name names who)
    (agrees : NamesAgree (source_pattern source) (source_candidates source).names look) where
  have_these : {S : Type 0} (m : Memories S) (q : Pattern) → m.pattern ≡ q → name_key q ≡ name_key (source_pattern source) → HasCandidates (sharing m (source_candidates source)) look names
  have_these m q same keeps =
      let alike = ap name_key same ∙ keeps in record {
        exact = λ who. has_lent m look (source_candidates source) alike who ∙ exact who;
        agrees = agree_alike m look (source_pattern source) m.pattern (source_candidates source).names (sym alike) agrees;
      }

  module _ (p : Program) (s : Snapshot) (rows : Row → Bool) (forgotten : Named → Bool) (was : Candidates) where
    -- a node that stood by others has them, as they are lent to it
    node_has : (n : Node) → NodeStands p (with_candidates was n) look s rows forgotten → name_key (pattern_of (condition_of n)) ≡ name_key (source_pattern source) → NodeHas (with_candidates (source_candidates source) n) look names
    node_has (node.Join join) stands keeps = have_these join.memories _ refl keeps
    node_has (node.Not waiting) stands keeps = have_these (blocker_tallies waiting) _ refl keeps
    node_has (node.Exists tally) stands keeps = have_these tally.memories _ refl keeps
    node_has (node.Fold fold) stands keeps = have_these (gathered_tallies fold) _ stands.pattern keeps

-- a source that is loaded with the facts of its type has loaded for each pattern that takes and keeps alike
pub has_loaded : (kept : List Fact) (clock : ℤ) (look : Look) (groups : List (Vec (Bor Fact))) → ((ty : ℕ) → grouped_facts_at groups ty ≡ filter (is_fact_of_type ty) kept)
    → (was is : Source) (n : NetNode) → IsSourced was n → IsLoadedWith (source_pattern was) (facts_of_type groups (source_pattern was).ty.0) clock look is → HasLoaded kept clock look is (pattern_of (condition_of n.node))
has_loaded kept clock look groups grouped was is n sourced loaded =
    let q = pattern_of (condition_of n.node) in
    let theirs = ap (λ (ty : TypeId). filter (is_fact_of_type ty.0) kept) sourced.alike.ty ∙ sym (grouped (source_pattern was).ty.0) ∙ by (slice_get groups (source_pattern was).ty.0) in
    record {
      keeps = sourced.keeps ∙ ap name_key (sym loaded.pattern);
      gate = λ p s good orderly facts at.
          (same_gate p q (source_pattern was) (source_gate is) s sourced.alike).1 (loaded.gate p s (sym (same_window p q (source_pattern was) sourced.alike) ∙ good) orderly (facts ∙ theirs) at);
      names = λ p s good orderly facts at who.
          loaded.names p s (sym (same_window p q (source_pattern was) sourced.alike) ∙ good) orderly (facts ∙ theirs) at who ∙ sym (same_candidates p q (source_pattern was) s who sourced.alike);
      listed = loaded.listed;
      agrees = loaded.agrees;
    }
  where
    by : (o : Option (Vec (Bor Fact))) → given_facts o ≡ facts_in o
    by None = refl
    by (Some list) = refl

-- ---- a load

-- by sources that are the same for the node in a place, it may be loaded alike, and is
module _ (k : ℕ) where
  has_alike : (kept : List Fact) (clock : ℤ) (look : Look) (a b : Source) (q : Pattern) → IsSameIn a b k → HasLoaded kept clock look a q → HasLoaded kept clock look b q
  has_alike kept clock look a b q same has = record {
    keeps = has.keeps ∙ ap (λ (c : Candidates). name_key c.pattern) (sym same.candidates);
    gate = λ p s good orderly facts at. subst (λ (gate : PatternGate). GateStands p q gate s) (sym same.gate) (has.gate p s good orderly facts at);
    names = λ p s good orderly facts at who. ap (λ (c : Candidates). has_candidate c look who) same.candidates ∙ has.names p s good orderly facts at who;
    listed = (has.listed.0, λ who. ap (λ (c : Candidates). has_candidate c look who) same.candidates ∙ has.listed.1 who);
    agrees = subst (λ (c : Candidates). NamesAgree c.pattern c.names look) (sym same.candidates) has.agrees;
  }

  pub may_load_alike : (kept : List Fact) (clock : ℤ) (look : Look) (was a b : Option Source) (q : Pattern) → IsSameFor a b k → MayLoad kept clock look was a q → MayLoad kept clock look was b q
  may_load_alike kept clock look None None None q same may = may
  may_load_alike kept clock look None None (Some b) q same may = absurd same
  may_load_alike kept clock look None (Some a) b q same may = absurd may
  may_load_alike kept clock look (Some was) None b q same may = absurd may
  may_load_alike kept clock look (Some was) (Some a) None q same may = absurd same
  may_load_alike kept clock look (Some was) (Some a) (Some b) q same may = has_alike kept clock look a b q same may

  pub loads_alike : (p : Program) (look : Look) (kept : List Fact) (extras : List Extra) (moment : Moment) (was a b : Option Source) (old new : NetNode) (rows : List Row) (delta : Delta)
      → IsSameFor a b k → TurnLoads p look kept extras moment was a k old new rows delta → TurnLoads p look kept extras moment was b k old new rows delta
  loads_alike p look kept extras moment was None None old new rows delta same load = load
  loads_alike p look kept extras moment was None (Some b) old new rows delta same load = absurd same
  loads_alike p look kept extras moment was (Some a) None old new rows delta same load = absurd same
  loads_alike p look kept extras moment was (Some a) (Some b) old new rows delta same load = record {
    loads = subst (λ (n : NetNode). NodeLoad p look kept extras moment (taking was old) n rows delta) (same_taking a b k new same) load.loads;
    found = λ row e. same.reached _ ∙ load.found row e;
  }

module _ (p : Program) (look : Look) (kept : List Fact) (extras : List Extra) (moment : Moment) (k : ℕ) (rows : List Row) (delta : Delta) where
  -- a node of no source
  pub own_load : (old new : NetNode) → NodeLoad p look kept extras moment old new rows delta → TurnLoads p look kept extras moment None None k old new rows delta
  own_load old new load = record { loads = load; found = tt }

  -- that may be loaded is of none before and afterwards
  pub load_by : (was is : Option Source) (q : Pattern) → ((s : Source) → was ≡ Some s → ⊥) → MayLoad kept moment.clock look was is q → (old new : NetNode)
      → NodeLoad p look kept extras moment old new rows delta → TurnLoads p look kept extras moment was is k old new rows delta
  load_by None None q none may old new load = own_load old new load
  load_by None (Some is) q none may old new load = absurd may
  load_by (Some was) is q none may old new load = absurd (none was refl)

pub may_load_some : (kept : List Fact) (clock : ℤ) (look : Look) (was is : Option Source) (q : Pattern) (s : Source) → is ≡ Some s → MayLoad kept clock look was is q → (w : Source) × (was ≡ Some w) × HasLoaded kept clock look s q
may_load_some kept clock look was is q s e may = by was (subst (λ (o : Option Source). MayLoad kept clock look was o q) e may)
  where
    by : (was : Option Source) → MayLoad kept clock look was (Some s) q → (w : Source) × (was ≡ Some w) × HasLoaded kept clock look s q
    by None may = absurd may
    by (Some w) may = (w, refl, may)

pub may_load_none : (kept : List Fact) (clock : ℤ) (look : Look) (was is : Option Source) (q : Pattern) → is ≡ None → MayLoad kept clock look was is q → was ≡ None
may_load_none kept clock look was is q e may = by was (subst (λ (o : Option Source). MayLoad kept clock look was o q) e may)
  where
    by : (was : Option Source) → MayLoad kept clock look was None q → was ≡ None
    by None may = refl
    by (Some w) may = absurd may

module _ (p : Program) (look : Look) (kept : List Fact) (extras : List Extra) (moment : Moment) (old new : NetNode) (was source after : Source) (k : ℕ) (rows : List Row) (delta : Delta)
    (parent : new.parent ≡ old.parent) (condition : condition_of new.node ≡ condition_of old.node)
    (has : HasLoaded kept moment.clock look source (pattern_of (condition_of old.node))) (anew : IsFoundAnew new.node look k rows source after)
    (laden : (right : List Named) → NodeHas (with_candidates (source_candidates source) old.node) look right
    → (world : Look) (s : Snapshot) (before : Row → Bool) → NodeStands p (with_candidates (source_candidates was) old.node) look empty_snapshot no_rows no_names → IsAt s moment
    → IsLoad p (condition_of old.node) look world s before rows right extras → Laden p (with_candidates (source_candidates source) new.node) look world s before (extra_for extras))
    (differs : (right : List Named) → NodeHas (with_candidates (source_candidates source) old.node) look right → NodeStands p (with_candidates (source_candidates was) old.node) look empty_snapshot no_rows no_names
    → IsDifference (node_rows p look (with_candidates (source_candidates was) old.node)) (node_rows p look (with_candidates (source_candidates source) new.node)) delta) where
  abbrev before_it : NetNode
  before_it = taking (Some was) old

  told : condition_of before_it.node ≡ condition_of old.node
  told = condition_lent (source_candidates was) old.node

  has_there : HasLoaded kept moment.clock look source (pattern_of (condition_of before_it.node))
  has_there = subst (λ (c : Condition). HasLoaded kept moment.clock look source (pattern_of c)) (sym told) has

  names : NodeStands p before_it.node look empty_snapshot no_rows no_names → NodeHas (with_candidates (source_candidates source) old.node) look has.listed.0
  names stands = node_has look source has.listed.0 has.listed.1 has.agrees p empty_snapshot no_rows no_names (source_candidates was) old.node stands has.keeps

  with_source : NodeLoad p look kept extras moment before_it (record { parent = old.parent; gate = source_gate source; node = with_candidates (source_candidates source) new.node }) rows delta
  with_source =
      loads_with p look kept extras moment before_it (source_gate source) (with_candidates (source_candidates source) new.node) rows delta has.listed.0
      (filter (is_fact_of_type (pattern_of (condition_of before_it.node)).ty.0) kept) refl
      (λ s good orderly facts at. has_there.gate p s good orderly facts at)
      (λ s good orderly facts at who. sym (has.listed.1 who) ∙ has_there.names p s good orderly facts at who)
      (condition_lent (source_candidates source) new.node ∙ condition ∙ sym told)
      (λ world s before stands at load.
      laden has.listed.0 (names stands) world s before stands at (subst (λ (c : Condition). IsLoad p c look world s before rows has.listed.0 extras) told load))
      (λ stands. differs has.listed.0 (names stands) stands)

  pub stocked : TurnLoads p look kept extras moment (Some was) (Some after) k old new rows delta
  stocked = record {
    loads =
        subst (λ (at : Option ℕ). NodeLoad p look kept extras moment before_it (record { parent = at; gate = source_gate after; node = with_candidates (source_candidates after) new.node }) rows delta) (sym parent)
        (subst (λ (gate : PatternGate). NodeLoad p look kept extras moment before_it (record { parent = old.parent; gate = gate; node = with_candidates (source_candidates after) new.node }) rows delta) (sym anew.gate)
        (subst (λ (own : Candidates). NodeLoad p look kept extras moment before_it (record { parent = old.parent; gate = source_gate source; node = with_candidates own new.node }) rows delta) (sym anew.candidates) with_source));
    found = anew.came;
  }
