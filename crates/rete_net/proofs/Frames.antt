-- The shape of a network, which each step of its nodes keeps.
use Rattle.rete_net.proofs.Common.{◌≡◌, ◌∙◌, sym, ap, subst, ℕ, ◌<◌, arith, Bool, true, List, ◌∷◌, ◌++◌, [], length, Option, Some, slice_get, slice_get_within}
use Rattle.rete_net.proofs.Common.{Fact, Delta, Named, Row, Condition, Program, pattern_of, Look, has_good_window, condition_of, RuleChange, NetNode}
use Rattle.rete_net.proofs.Common.{ForgotBelow, before, EndsRule, IsNetOf, NetStep, is_listed, IsAskedWhereMeant, IsNodeFound, IsIndexOf, IsReplaced, IsWired}
use Rattle.{rete_net.proofs.Common.{Index, Moment}, candidate_source.specs.declared.{source.Source.{Source}, sources.Sources.{Sources}}}
use Rattle.{candidate_source.specs.Sources.{is_follower}, fx_base.proofs.Sequences.{get-below, one_value}}

pub stepped_nodes : (p : Program) (look : Look) (gone : List Fact) (come : Option Fact) (moment : Moment) (first : Delta) (was is : ℕ → Option Source) (old new : List NetNode) (ends : List ℕ) (answers : List RuleChange)
    → NetStep p look gone come moment first was is old new ends answers → IsReplaced old new
stepped_nodes p look gone come moment first was is old new ends answers step = record {
  many = step.nodes;
  parent = λ k a b e f. (step.stepped k (slice_get_within old k a e) a b e f).parent;
  condition = λ k a b e f. (step.stepped k (slice_get_within old k a e) a b e f).condition;
}

pub forgetting_nodes : (p : Program) (look : Look) (names : Named → Bool) (was is : ℕ → Option Source) (old new : List NetNode) (dropped : List (List Row)) → length new ≡ length old → ForgotBelow p look names was is old new dropped (length old) → IsReplaced old new
forgetting_nodes p look names was is old new dropped many forgot = record {
  many = many;
  parent = λ k a b e f. (forgot k (slice_get_within old k a e) a b e f).parent;
  condition = λ k a b e f. (forgot k (slice_get_within old k a e) a b e f).condition;
}

module _ (p : Program) (old new : List NetNode) (ends ends_now : List ℕ) (same : ends_now ≡ ends) (replaced : IsReplaced old new) (net : IsNetOf p old ends) where
  pub was : (k : ℕ) (n : NetNode) → slice_get new k ≡ Some n → (o : NetNode) × (slice_get old k ≡ Some o)
  was k n e =
      let many = replaced.many in
      let within : k < length new = slice_get_within new k n e in
      get-below old k (omega arith)

  pub is : (k : ℕ) (o : NetNode) → slice_get old k ≡ Some o → (n : NetNode) × (slice_get new k ≡ Some n)
  is k o e =
      let many = replaced.many in
      let within : k < length old = slice_get_within old k o e in
      get-below new k (omega arith)

  pub own : (k : ℕ) (n : NetNode) → slice_get new k ≡ Some n → net.conditions k ≡ before net.conditions n.parent ++ condition_of n.node ∷ []
  own k n e =
      let o = was k n e in
      subst (λ (c : Condition). net.conditions k ≡ before net.conditions n.parent ++ c ∷ []) (sym (replaced.condition k o.0 n o.1 e))
      (subst (λ (parent : Option ℕ). net.conditions k ≡ before net.conditions parent ++ condition_of o.0.node ∷ []) (sym (replaced.parent k o.0 n o.1 e)) (net.shaped.own k o.0 o.1))

  -- the network is the program's still
  abbrev pub net_again : IsNetOf p new ends_now
  net_again = record {
    conditions = net.conditions;
    shaped = record {
      parents = λ k parent n e at. let o = was k n e in net.shaped.parents k parent o.0 o.1 (sym (replaced.parent k o.0 n o.1 e) ∙ at);
      own = own;
    };
    once = λ j k a b e f. net.once j k (was j a e).0 (was k b f).0 (was j a e).1 (was k b f).1;
    lasts = λ place rule e.
        let end = net.lasts place rule e in
        let n = is end.last end.node end.there in
        subst (λ (places : List ℕ). EndsRule new net.conditions places place rule) (sym same)
        (record { last = end.last; node = n.0; found = end.found; there = n.1; all = end.all });
    count = ap length same ∙ net.count;
    fronts = λ k n e. net.fronts k (was k n e).0 (was k n e).1;
    windows = λ k n e.
        let o = was k n e in
        subst (λ (c : Condition). has_good_window p (pattern_of c) ≡ true) (sym (replaced.condition k o.0 n o.1 e)) (net.windows k o.0 o.1);
  }

-- ---- the index

found_again : (index : Index) (k : ℕ) (old new : NetNode) → condition_of new.node ≡ condition_of old.node → IsNodeFound index k old → IsNodeFound index k new
found_again index k old new condition was = record {
  typed = ap (λ (c : Condition). is_listed index.by_type (pattern_of c).ty.0 k) condition ∙ was.typed;
  asked = subst (λ (c : Condition). IsAskedWhereMeant index.alpha (pattern_of c) k) (sym condition) was.asked;
}

-- the index finds the nodes still
pub index_again : (sources sources_now : Sources) (old new : List NetNode) (ends ends_now : List ℕ) (index index_now : Index) → ((k : ℕ) → is_follower sources_now k ≡ is_follower sources k) → IsReplaced old new → ends_now ≡ ends → index_now ≡ index
    → IsIndexOf sources old ends index → IsIndexOf sources_now new ends_now index_now
index_again sources sources_now old new ends ends_now index index_now follows replaced same same_index indexed =
    subst (λ (i : Index). IsIndexOf sources_now new ends_now i) (sym same_index)
    (subst (λ (es : List ℕ). IsIndexOf sources_now new es index) (sym same) (record {
      found = λ k n e leads. found_again index k (there k n e).0 n (replaced.condition k (there k n e).0 n (there k n e).1 e) (indexed.found k (there k n e).0 (there k n e).1 (sym (follows k) ∙ leads));
      firsts = λ k n e none. indexed.firsts k (there k n e).0 (there k n e).1 (sym (replaced.parent k (there k n e).0 n (there k n e).1 e) ∙ none);
      ended = indexed.ended;
    }))
  where
    there : (k : ℕ) (n : NetNode) → slice_get new k ≡ Some n → (o : NetNode) × (slice_get old k ≡ Some o)
    there k n e =
        let many = replaced.many in
        let within : k < length new = slice_get_within new k n e in
        get-below old k (omega arith)

-- a program's network with its index
pub wired_of : (p : Program) (sources : Sources) (nodes : List NetNode) (ends : List ℕ) (index : Index) → IsNetOf p nodes ends → IsIndexOf sources nodes ends index → IsWired sources nodes ends index
wired_of p sources nodes ends index net indexed = record {
  indexed = indexed;
  parents = net.shaped.parents;
  lasts = λ rule end e.
      let count = net.count in
      let within : rule < length ends = slice_get_within ends rule end e in
      let r = get-below p.rules rule (omega (arith, count)) in
      let last = net.lasts rule r.0 r.1 in
      let same : last.last ≡ end = one_value (slice_get ends rule) last.last end last.found e in
      subst (λ (i : ℕ). i < length nodes) same (slice_get_within nodes last.last last.node last.there);
}
