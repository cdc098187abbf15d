-- For which snapshot a network stands that was loaded.
use Rattle.rete_net.proofs.Common.{◌≡◌, ◌∙◌, ◌⊎◌, inl, inr, sym, ap, refl, subst, ℕ, suc, pos, ◌≤ℤ◌, ◌<◌, ◌≤◌, ◌==◌, nat_lt, cond, arith, Bool, true, false}
use Rattle.rete_net.proofs.Common.{List, [], ◌∷◌, length, take, Option, Some, None, slice_get, nat_tests, length-take-le, slice_get_within, filter, find, In}
use Rattle.rete_net.proofs.Common.{Fact, Tag, Delta, Extra, Named, Condition, WindowTag, Moment, Program, Rule, HaveDistinctTags, pattern_of, Snapshot, name_of}
use Rattle.rete_net.proofs.Common.{same_floor, in_place, Look, cleaned, no_names, extra_for, HasAllOf, rows_of, held_fact, held_in, rows_named, GateStands}
use Rattle.rete_net.proofs.Common.{rising, IsLost, IsResumed, lost_partners, values_gathered, condition_of, held_known, node_moves, IsFirstWith, count_of}
use Rattle.rete_net.proofs.Common.{extra_at, laden, extra_values_of, extra_count, extra_values, AreFans, shown_nodes, Answered, Owner, Rete, NetNode}
use Rattle.rete_net.proofs.Common.{left_given, IsLoadable, IsIndexOf, is_extra_under, AreLoaded, IsNodeLoad, NetStands, IsOwned, AreQuiet, AreScheduled, before}
use Rattle.rete_net.proofs.Common.{IsNetOf, IsFresh, empty_row_comes, IsReplaced, AreSources, NodeStands, Row, Value, has, StandsIn, IsFound, answer_in, taking}
use Rattle.candidate_source.specs.{declared.source.Source.{Source}, Doors.{source_candidates, is_reached}, Sources.{is_other, source_at, AreLaidAs}}
use Rattle.{candidate_source.proofs.Moving.{lead_alike}, std.proofs.lemmas.Bool.{eqb-true}}
use Rattle.rule_model.specs.declared.condition.WindowTag.TheVariants as tag
use Rattle.{condition_rows.specs.Sets.{held}, beta_node.proofs.Resuming.{resumes_law}, laden_rows.{specs.Laden.{AreOwners}, proofs.Kept.{candidates_kept}}}
use Rattle.{laden_rows.proofs.{Kept.{known}, Rows.{laden_rows}}, pattern_gate.{specs.Fronts.{IsLetBe, HasInFront}, proofs.Fronts.{gate_of_all}}}
use Rattle.rete_net.{specs.{Loading.{IsBehind}, Loads.{IsFoundUnder, TurnLoads}, Owners.{AreNodeOwners as HaveOwners}}, proofs.Counted.{fronts_within}}
use Rattle.rete_net.proofs.{Counting.{aside_of}, Frames.{index_again, net_again}, Lent.{lent_alike, lent_value}, Owning.{owned_again}, Quieting.{seen_now}}
use Rattle.{rete_net.proofs.{Stillness.{condition_taking}, Loaded.{answered, extras_at, load_at, owner_there, parts}}, fx_base.proofs.Sequences.{get-below}}
use Rattle.fx_base.proofs.Sequences.{one_value}

-- ---- owners

-- the first rule with conditions of a rule, by the nodes of a network
module _ (p : Program) (nodes : List NetNode) (ends : List ℕ) (net : IsNetOf p nodes ends) (held_by : List Owner) (owned : HaveOwners p net.conditions (length nodes) held_by) where
  abbrev Found : ℕ → ℕ → Type 0
  Found place k = (n : ℕ) × ((rule : Rule) → slice_get p.rules place ≡ Some rule → k < length rule.conditions → IsFirstWith p (suc k) rule.conditions n)

  not_begun : (n : ℕ) (cs : List Condition) → n < length cs → take (suc n) cs ≡ [] → ⊥
  not_begun n [] lt e = absurd (omega (arith, lt))
  not_begun n (c ∷ cs) lt e = absurd (let torn : c ∷ take n cs ≡ [] = e in cc)

  found_in : (place k : ℕ) (rule : Rule) → slice_get p.rules place ≡ Some rule → k < length rule.conditions → (n : ℕ) × IsFirstWith p (suc k) rule.conditions n
  found_in place k rule stands low =
      let last = net.lasts place rule stands in
      let front : take (suc k) (net.conditions last.last) ≡ take (suc k) rule.conditions = ap (take (suc k)) last.all in
      let node = fronts_within p nodes ends net (suc last.last) last.last (suc k) last.node (omega arith) last.there (λ none. not_begun k rule.conditions low (sym front ∙ none)) in
      let count = owned.count in
      let lt = node.1 in
      let o = get-below held_by node.0 (omega (arith, count, lt)) in
      let theirs = owned.each node.0 o.0 o.1 in
      let same : take (suc o.0.condition) theirs.rule.conditions ≡ take (suc k) rule.conditions = sym theirs.own ∙ node.2 ∙ front in
      let at : o.0.condition ≡ k = same_length o.0.condition theirs.rule.conditions k rule.conditions theirs.within low same in
      let first = theirs.first in (
        o.0.rule.0,
        record {
          rule = first.rule;
          stands = first.stands;
          begins = ap (λ i. take (suc i) first.rule.conditions) (sym at) ∙ first.begins ∙ same;
          earlier = λ j other less there e. first.earlier j other less there (ap (λ i. take (suc i) other.conditions) at ∙ e ∙ sym same);
        },
      )
    where
      same_length : (i : ℕ) (cs : List Condition) (j : ℕ) (ds : List Condition) → i < length cs → j < length ds → take (suc i) cs ≡ take (suc j) ds → i ≡ j
      same_length i cs j ds li lj e =
          let one : length (take (suc i) cs) ≡ suc i = length-take-le (suc i) cs (omega (arith, li)) in
          let two : length (take (suc j) ds) ≡ suc j = length-take-le (suc j) ds (omega (arith, lj)) in
          let both : length (take (suc i) cs) ≡ length (take (suc j) ds) = ap (λ (xs : List Condition). length xs) e in
          omega (arith, one, two, both)

  found : (place k : ℕ) → Found place k
  found place k = by (slice_get p.rules place) refl
    where
      within : (rule : Rule) → slice_get p.rules place ≡ Some rule → (b : Bool) → nat_lt k (length rule.conditions) ≡ b → Found place k
      within rule stands true low =
          let it = found_in place k rule stands (grind (arith, nat_tests)) in
          (it.0, λ other there lt. subst (λ (r : Rule). IsFirstWith p (suc k) r.conditions it.0) (one_value (slice_get p.rules place) rule other stands there) it.1)
      within rule stands false high = (
        0,
        λ other there lt.
            let same = one_value (slice_get p.rules place) rule other stands there in
            let long : length rule.conditions ≡ length other.conditions = ap (λ (r : Rule). length r.conditions) same in
            let torn : k < length rule.conditions = omega (arith, lt, long) in
            absurd (let low : nat_lt k (length rule.conditions) ≡ true = grind (arith, nat_tests) in let no : true ≡ false = sym low ∙ high in cc),
      )

      by : (o : Option Rule) → slice_get p.rules place ≡ o → Found place k
      by None none = (0, λ rule there lt. absurd (let torn : None ≡ Some rule = sym none ∙ there in cc))
      by (Some rule) stands = within rule stands (nat_lt k (length rule.conditions)) refl

  pub owners_of : ℕ → ℕ → ℕ
  owners_of place k = (found place k).0

  pub are_owners : AreOwners p owners_of
  unfolding owners_of
  are_owners place k rule stands low = (found place k).1 rule stands low

-- ---- what is lost

is_lost : (c : Condition) (lost : List Fact) (o : Option Extra) → count_of o ≡ length lost → extra_values_of o ≡ values_gathered c lost → IsLost c lost o
is_lost c [] None e f = refl
is_lost c (x ∷ lost) None e f = absurd (omega (arith, e))
is_lost c lost (Some x) e f = (e, f)

-- what a snapshot holds under a tag has the tag
passed_if : (b : Bool) (test : Fact → Bool) (x f : Fact) (rest : Option Fact) → test x ≡ b → (rest ≡ Some f → test f ≡ true) → cond b (Some x) rest ≡ Some f → test f ≡ true
passed_if true test x f rest is later e = let same : x ≡ f = cc in ap test (sym same) ∙ is
passed_if false test x f rest is later e = later e

find_passes : (test : Fact → Bool) (facts : List Fact) (f : Fact) → find test facts ≡ Some f → test f ≡ true
find_passes test [] f e = absurd (let torn : None ≡ Some f = e in cc)
find_passes test (x ∷ facts) f e = passed_if (test x) test x f (find test facts) refl (find_passes test facts f) e

abbrev tag_numbered : ℕ → Tag
tag_numbered n = record { 0 = n }

held_tag : (s : Snapshot) (tag : Tag) (f : Fact) → held s tag ≡ Some f → f.tag ≡ tag
unfolding held
held_tag s tag f e = ap tag_numbered (eqb-true f.tag.0 tag.0 (find_passes (λ (g : Fact). g.tag.0 == tag.0) s.facts f e))

-- ---- nodes

parent_taking : (o : Option Source) (n : NetNode) → (taking o n).parent ≡ n.parent
parent_taking None n = refl
parent_taking (Some s) n = refl

-- a node that is found by the rows that came to it is found by those before it
found_by : (p : Program) (look : Look) (s : Snapshot) (set : Row → Bool) (forgotten : Named → Bool) (k : ℕ) (n : NetNode) (rows : List Row) (o : Option Source) → IsFoundUnder look o k n rows
    → ((row : Row) → cleaned set forgotten row ≡ true → has rows row ≡ true) → NodeStands p (taking o n).node look s set forgotten → NodeStands p (taking o n).node (held s) s set forgotten → IsFound o k n s set forgotten
found_by p look s set forgotten k n rows None found have here there = tt
found_by p look s set forgotten k n rows (Some source) found have here there = λ row e.
    subst (λ (v : Value). is_reached source v k ≡ true)
    (lent_value p s set forgotten (source_candidates source) look n.node here look row ∙ lent_alike p s set forgotten (source_candidates source) look (held s) n.node here there row e) (found row (have row e))

module _ (p : Program) (look : Look) (t : Snapshot) (kept : List Fact) (extras : List Extra) (moment : Moment) (can : IsLoadable p t kept extras moment look) (owners : ℕ → ℕ → ℕ) (own : AreOwners p owners)
    (nodes : List NetNode) (ends : List ℕ) (net : IsNetOf p nodes ends) (held_by : List Owner) (owned : HaveOwners p net.conditions (length nodes) held_by)
    (was_of : ℕ → Option Source) (fresh : (k : ℕ) (n : NetNode) → slice_get nodes k ≡ Some n → IsFresh p (taking (was_of k) n))
    (is_of : ℕ → Option Source) (now : List NetNode) (a : Answered Delta) (loaded : AreLoaded p look kept extras moment empty_row_comes was_of is_of nodes now held_by ends a (length nodes))
    (s : Snapshot) (forgotten : Named → Bool) (is : IsBehind p s t forgotten extras look) where
  tags : HaveDistinctTags s.facts
  tags = rising s.facts is.orderly.in_order

  -- the whole snapshot has all of the kept one
  at_hand_too : HasAllOf (held s) t no_names
  at_hand_too tag f e clean = subst (λ z. held s z ≡ Some f) (held_tag t tag f e) (held_fact s tags f ((is.kept.facts f).0 (held_in t tag f e)).0)

  module _ (k : ℕ) (old new : NetNode) (e : slice_get nodes k ≡ Some old) (g : slice_get now k ≡ Some new) where
    lt : k < length nodes
    lt = slice_get_within nodes k old e

    owner : (o : Owner) × (slice_get held_by k ≡ Some o)
    owner = owner_there p look t kept extras moment can owners own nodes ends net held_by owned was_of fresh is_of now a (length nodes) (omega arith) loaded k lt

    theirs : IsOwned p (net.conditions k) owner.0
    theirs = owned.each k owner.0 owner.1

    abbrev rule : Rule
    rule = theirs.rule

    abbrev place : ℕ
    place = owner.0.rule.0

    abbrev m : ℕ
    m = owner.0.condition

    low : suc m ≤ length rule.conditions
    low = let h = theirs.within in omega (arith, h)

    abbrev front : List Condition
    front = before net.conditions old.parent

    two : (front ≡ take m rule.conditions) × (slice_get rule.conditions m ≡ Some (condition_of old.node))
    two = parts p look t kept extras moment can owners own nodes ends net held_by owned was_of fresh is_of now a (length nodes) (omega arith) loaded k old e place m rule theirs.stands low theirs.own

    in_rules : In rule p.rules
    in_rules = in_place p.rules place rule theirs.stands

    load : IsNodeLoad p look kept moment t (laden p t extras (owners place) rule.conditions m) (taking (was_of k) old) (left_given empty_row_comes a old.parent).come (filter (is_extra_under owner.0) extras)
    load =
        load_at p look t kept extras moment can owners own nodes ends net held_by owned was_of fresh is_of now a (length nodes) (omega arith) loaded k old e place m rule theirs.stands low theirs.own owner.0 owner.1
        (λ q less. answered p look t kept extras moment can owners own nodes ends net held_by owned was_of fresh is_of now a (length nodes) (omega arith) loaded q (let h = lt in omega (arith, h, less)))

    its_extras : extra_for (filter (is_extra_under owner.0) extras) ≡ extra_at extras (owners place m) m
    its_extras =
        extras_at p look t kept extras moment can owners own nodes ends net held_by owned was_of fresh is_of now a (length nodes) (omega arith) loaded k old e place m rule theirs.stands low theirs.own owner.0 owner.1

    -- the gate
    in_front : HasInFront p (pattern_of (condition_of old.node)) s t
    in_front = record {
      clock = is.kept.clock;
      among = λ f i. ((is.kept.facts f).0 i).0;
      others = λ f i. by f i (forgotten (name_of f)) refl;
    }
      where
        aside : (f : Fact) → In f s.facts → forgotten (name_of f) ≡ true → (w : WindowTag) → (pattern_of (condition_of old.node)).window ≡ w → IsLetBe w p (pattern_of (condition_of old.node)) s f
        aside f i h tag.Whole same = tt
        aside f i h (tag.Time span) same = is.outside rule in_rules m (condition_of old.node) two.1 span same f i h
        aside f i h (tag.Length count) same = is.kept.uncounted rule in_rules m (condition_of old.node) two.1 count same f i h

        by : (f : Fact) → In f s.facts → (b : Bool) → forgotten (name_of f) ≡ b → In f t.facts ⊎ IsLetBe (pattern_of (condition_of old.node)).window p (pattern_of (condition_of old.node)) s f
        by f i true h = inr (aside f i h (pattern_of (condition_of old.node)).window refl)
        by f i false h = inl ((is.kept.facts f).1 (i, h))

    resumed : IsResumed p (condition_of old.node) s t (rows_of p s front) (laden p t extras (owners place) rule.conditions m) forgotten (extra_for (filter (is_extra_under owner.0) extras))
    resumed = record {
      tags = tags;
      named = rows_named p s tags front;
      at_hand = known p s t forgotten tags is.kept;
      rows = λ row. laden_rows p s t forgotten extras owners tags is.kept is.lost own place rule theirs.stands m row ∙ ap (λ cs. cleaned (rows_of p s cs) forgotten row) (sym two.0);
      candidates = candidates_kept p s t forgotten tags is.kept rule in_rules m (condition_of old.node) two.1;
      floors = λ entry. same_floor p t s entry is.kept.clock is.kept.reached;
      extras = λ aside row there.
          let here = ap (λ cs. cleaned (rows_of p s cs) forgotten row) (sym two.0) ∙ there in
          let c = condition_of old.node in
          let beyond = extra_at extras (owners place m) m row in
          subst (IsLost c (lost_partners p s forgotten (pattern_of c) row)) (ap (λ f. f row) (sym its_extras))
          (is_lost c (lost_partners p s forgotten (pattern_of c) row) beyond
          (extra_count p s forgotten extras is.lost owners own place rule theirs.stands m c two.1 (aside_of c aside) row here)
          (extra_values p s forgotten extras is.lost owners own place rule theirs.stands m c two.1 (aside_of c aside) row here));
    }

    told : TurnLoads p look kept (filter (is_extra_under owner.0) extras) moment (was_of k) (is_of k) k old new (left_given empty_row_comes a old.parent).come (answer_in a k)
    told = loaded.loaded k lt old new owner.0 e g owner.1

    same : condition_of (taking (is_of k) new).node ≡ condition_of old.node
    same = told.loads.condition ∙ condition_taking (was_of k) old

    node : NodeStands p (taking (is_of k) new).node look s (rows_of p s front) forgotten
    node =
        resumes_law p (taking (is_of k) new).node look s t (rows_of p s front) (laden p t extras (owners place) rule.conditions m) forgotten (extra_for (filter (is_extra_under owner.0) extras))
        (subst (λ x. IsResumed p x s t (rows_of p s front) (laden p t extras (owners place) rule.conditions m) forgotten (extra_for (filter (is_extra_under owner.0) extras))) (sym same) resumed)
        (told.loads.laden (held s) t (laden p t extras (owners place) rule.conditions m) load at_hand_too)

    node_held : NodeStands p (taking (is_of k) new).node (held s) s (rows_of p s front) forgotten
    node_held = node_moves p look (held s) s (rows_of p s front) forgotten is.at_hand (held_known s forgotten) (rows_named p s tags front) (taking (is_of k) new).node node

    pub resumed_at : StandsIn p (is_of k) k new s (rows_of p s (before net.conditions new.parent)) forgotten
    resumed_at =
        subst (λ (parent : Option ℕ). StandsIn p (is_of k) k new s (rows_of p s (before net.conditions parent)) forgotten)
        (sym (sym (parent_taking (is_of k) new) ∙ told.loads.parent ∙ parent_taking (was_of k) old)) (record {
          stands = record {
            gate =
                subst (λ x. GateStands p (pattern_of x) (taking (is_of k) new).gate s) (sym same)
                (gate_of_all p (pattern_of (condition_of old.node)) s t is.orderly.in_order can.orderly.in_order in_front (taking (is_of k) new).gate
                (subst (λ x. GateStands p (pattern_of x) (taking (is_of k) new).gate t) (condition_taking (was_of k) old) (told.loads.gate t (laden p t extras (owners place) rule.conditions m) load)));
            node = node_held;
          };
          found = found_by p look s (rows_of p s front) forgotten k new (left_given empty_row_comes a old.parent).come (is_of k) told.found (λ row there. load.same_rows row ∙ resumed.rows row ∙ there) node node_held;
        })

-- ---- the network

-- It stands for a snapshot, whose clock is from 0 on, with what is forgotten of it.
pub loaded_stands : (p : Program) (look : Look) (t : Snapshot) (kept : List Fact) (extras : List Extra) (moment : Moment) (can : IsLoadable p t kept extras moment look) (was now : Rete)
    (net : IsNetOf p (shown_nodes was) was.ends.items) (owned : HaveOwners p net.conditions (length (shown_nodes was)) was.owners.items)
    (fresh : (k : ℕ) (n : NetNode) → slice_get (shown_nodes was) k ≡ Some n → IsFresh p (taking (source_at was.sources k) n))
    (a : Answered Delta)
    (loaded : AreLoaded p look kept extras moment empty_row_comes (source_at was.sources) (source_at now.sources) (shown_nodes was) (shown_nodes now) was.owners.items was.ends.items a (length (shown_nodes was)))
    → IsReplaced (shown_nodes was) (shown_nodes now) → now.ends ≡ was.ends → now.owners ≡ was.owners → now.index ≡ was.index → AreLaidAs was.sources now.sources
    → IsIndexOf was.sources (shown_nodes was) was.ends.items was.index → AreScheduled p now.sources now.nodes.items now.schedule → AreFans now.nodes.items now.fans → AreSources now.nodes.items now.fans now.sources
    → AreQuiet p now.sources (shown_nodes now) now.quiet_until
    → (s : Snapshot) (forgotten : Named → Bool) → IsBehind p s t forgotten extras look → pos 0 ≤ℤ s.clock → NetStands p now s forgotten
loaded_stands p look t kept extras moment can was now net owned fresh a loaded replaced ends owners index laid indexed scheduled fans sources quiet s forgotten is begun =
    let own = are_owners p (shown_nodes was) was.ends.items net was.owners.items owned in
    seen_now p now s forgotten (record {
      shape = net_again p (shown_nodes was) (shown_nodes now) was.ends.items now.ends.items (ap (λ es. es.items) ends) replaced net;
      indexed =
          index_again was.sources now.sources (shown_nodes was) (shown_nodes now) was.ends.items now.ends.items was.index now.index (λ k. ap (is_other k) (lead_alike was.sources now.sources laid k)) replaced (ap (λ es. es.items) ends) index indexed;
      scheduled = scheduled;
      fans = fans;
      sources = sources;
      owned = owned_again p net.conditions (length (shown_nodes was)) (length (shown_nodes now)) was.owners now.owners replaced.many owners owned;
      nodes = λ k n e.
          let many = replaced.many in
          let within : k < length (shown_nodes now) = slice_get_within (shown_nodes now) k n e in
          let old = get-below (shown_nodes was) k (omega (arith, within, many)) in
          resumed_at p look t kept extras moment can (owners_of p (shown_nodes was) was.ends.items net was.owners.items owned) own (shown_nodes was) was.ends.items net was.owners.items owned
          (source_at was.sources) fresh (source_at now.sources) (shown_nodes now) a loaded s forgotten is k old.0 n old.1 e;
    }) is.orderly begun quiet
