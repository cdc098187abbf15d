-- A walk over some nodes, each after its parent.
use Rattle.rete_net.proofs.Common.{◌≡◌, ◌∙◌, sym, ap, refl, subst, ℕ, zero, suc, ◌+◌, ◌<◌, ◌≤◌, true, false, List, [], ◌∷◌, ◌++◌, length, take, arith}
use Rattle.rete_net.proofs.Common.{length-append, Option, Some, None, slice_get, ◌⊎◌, inl, inr, slice_index_or, set, length-set, get_or-append_seam}
use Rattle.rete_net.proofs.Common.{take-append_seam, take-append-le, get_or_append_left, Index, NetNode, Answered, some_answer, left_given, AreRuled}
use Rattle.rete_net.{proofs.Common.{IsAnswerPut, is_listed, has_place, IsReplaced, IsWired, condition_of}, specs.Answers.{given as kept}}
use Rattle.{candidate_source.specs.declared.sources.Sources.{Sources}, std.proofs.lemmas.Bool.{false_from_ne_true}, fx_base.proofs.Orders.{below_or_last}}
use Rattle.fx_base.proofs.Sequences.{get-set_other, get-set_same, one_value}

-- One node more took its turn, and what a turn is may depend on the node's place; `given` is what comes to a node of the answers of the nodes
-- before it, by its parent.
module _ {D : Type 0} (Turn : ℕ → NetNode → NetNode → D → D → Type 0) (given : List D → Option ℕ → D) (last : D) where
  -- the nodes before a place took their turn
  abbrev pub Below : List NetNode → List NetNode → List D → ℕ → Type 0
  Below before now answers n =
      (k : ℕ) → k < n → (old new : NetNode) → slice_get before k ≡ Some old → slice_get now k ≡ Some new → Turn k old new (given (take k answers) old.parent) (slice_index_or answers k last)

  module _ (before now then : List NetNode) (answers : List D) (i : ℕ) (node new_node : NetNode) (answer : D)
      (done : length answers ≡ i) (same : (k : ℕ) → k < i → slice_get then k ≡ slice_get now k) (below : Below before now answers i)
      (was : slice_get before i ≡ Some node) (is : slice_get then i ≡ Some new_node) (turn : Turn i node new_node (given answers node.parent) answer) where
    abbrev Turns : ℕ → Type 0
    Turns k = (old new : NetNode) → slice_get before k ≡ Some old → slice_get then k ≡ Some new → Turn k old new (given (take k (answers ++ answer ∷ [])) old.parent) (slice_index_or (answers ++ answer ∷ []) k last)

    earlier : (k : ℕ) → k < i → Turns k
    earlier k h old new e f =
        let le : k ≤ length answers = omega arith in
        let lt : k < length answers = omega arith in
        subst (λ (xs : List D). Turn k old new (given xs old.parent) (slice_index_or (answers ++ answer ∷ []) k last)) (sym (take-append-le k answers (answer ∷ []) le))
        (subst (λ (x : D). Turn k old new (given (take k answers) old.parent) x) (sym (get_or_append_left answers (answer ∷ []) last k lt))
        (below k h old new e (sym (same k h) ∙ f)))

    here : (k : ℕ) → k ≡ i → Turns k
    here k at old new e f =
        let old_is : node ≡ old = one_value (slice_get before i) node old was (ap (slice_get before) (sym at) ∙ e) in
        let new_is : new_node ≡ new = one_value (slice_get then i) new_node new is (ap (slice_get then) (sym at) ∙ f) in
        let len : k ≡ length answers = at ∙ sym done in
        subst (λ (xs : List D). Turn k old new (given xs old.parent) (slice_index_or (answers ++ answer ∷ []) k last)) (sym (ap (λ n. take n (answers ++ answer ∷ [])) len ∙ take-append_seam answers (answer ∷ [])))
        (subst (λ (x : D). Turn k old new (given answers old.parent) x) (sym (ap (λ n. slice_index_or (answers ++ answer ∷ []) n last) len ∙ get_or-append_seam answers answer [] last))
        (subst (λ n. Turn k old n (given answers old.parent) answer) new_is
        (subst (λ n. Turn k n new_node (given answers n.parent) answer) old_is
        (subst (λ j. Turn j node new_node (given answers node.parent) answer) (sym at) turn))))

    pub below_more : Below before then (answers ++ answer ∷ []) (i + 1)
    below_more k h = elim (below_or_last k i h) [
      | inl lt ↦ earlier k lt
      | inr at ↦ here k at
    ]

pub equal_or_not : (j k : ℕ) → (j ≡ k) ⊎ (j ≡ k → ⊥)
equal_or_not zero zero = inl refl
equal_or_not zero (suc k) = inr (λ e. absurd (omega arith))
equal_or_not (suc j) zero = inr (λ e. absurd (omega arith))
equal_or_not (suc j) (suc k) = elim (equal_or_not j k) [
  | inl e ↦ inl (ap suc e)
  | inr differ ↦ inr (λ e. let less : j ≡ k = omega arith in differ less)
]

-- The walk has come to a place: the nodes before took their step, those from there on are as they were.
pub record IsUnderWay {D : Type 0} (Turn : ℕ → NetNode → NetNode → D → D → Type 0) (given : List D → Option ℕ → D) (last none : D) (before : List NetNode) (ends : List ℕ) (now : List NetNode) (a : Answered D) (next : ℕ) : Type 0 where
  pub answers : List D
  pub count : length answers ≡ next
  pub rest : (k : ℕ) → next ≤ k → slice_get now k ≡ slice_get before k
  pub below : Below Turn given last before now answers next
  pub nothing : a.none ≡ none
  pub known : (k : ℕ) → k < next → slice_index_or answers k last ≡ kept none (some_answer a k)
  pub ahead : (k : ℕ) → next ≤ k → some_answer a k ≡ None
  pub ruled : AreRuled a ends

-- what a turn is may be told otherwise
pub retold : {D : Type 0} (Turn Then : ℕ → NetNode → NetNode → D → D → Type 0) (given : List D → Option ℕ → D) (last none : D) (before : List NetNode) (ends : List ℕ) (now : List NetNode) (a : Answered D) (next : ℕ)
    → ((k : ℕ) → k < next → (old new : NetNode) (left answer : D) → Turn k old new left answer → Then k old new left answer)
    → IsUnderWay Turn given last none before ends now a next → IsUnderWay Then given last none before ends now a next
retold Turn Then given last none before ends now a next tells way = record {
  answers = way.answers;
  count = way.count;
  rest = way.rest;
  below = λ k h old new e f. tells k h old new (given (take k way.answers) old.parent) (slice_index_or way.answers k last) (way.below k h old new e f);
  nothing = way.nothing;
  known = way.known;
  ahead = way.ahead;
  ruled = way.ruled;
}

-- one node more is replaced
pub replaced_more : (before now : List NetNode) (place : ℕ) (n new : NetNode) → IsReplaced before now → slice_get now place ≡ Some n → new.parent ≡ n.parent → condition_of new.node ≡ condition_of n.node → IsReplaced before (set now place new)
replaced_more before now place n new replaced at parent condition = record {
  many = length-set now place new ∙ replaced.many;
  parent = λ k a b e f. elim (equal_or_not k place) [
    | inl is ↦
        let there : new ≡ b = one_value (slice_get (set now place new) place) new b (get-set_same now place new n at) (ap (slice_get (set now place new)) (sym is) ∙ f) in
        ap (λ (m : NetNode). m.parent) (sym there) ∙ parent ∙ replaced.parent k a n e (ap (slice_get now) is ∙ at)
    | inr other ↦ replaced.parent k a b e (sym (get-set_other now place k new other) ∙ f)
  ];
  condition = λ k a b e f. elim (equal_or_not k place) [
    | inl is ↦
        let there : new ≡ b = one_value (slice_get (set now place new) place) new b (get-set_same now place new n at) (ap (slice_get (set now place new)) (sym is) ∙ f) in
        ap (λ (m : NetNode). condition_of m.node) (sym there) ∙ condition ∙ replaced.condition k a n e (ap (slice_get now) is ∙ at)
    | inr other ↦ replaced.condition k a b e (sym (get-set_other now place k new other) ∙ f)
  ];
}

pub not_replaced : (nodes : List NetNode) → IsReplaced nodes nodes
not_replaced nodes = record {
  many = refl;
  parent = λ k a b e f. ap (λ (m : NetNode). m.parent) (sym (one_value (slice_get nodes k) a b e f));
  condition = λ k a b e f. ap (λ (m : NetNode). condition_of m.node) (sym (one_value (slice_get nodes k) a b e f));
}

module _ {D : Type 0} (Turn : ℕ → NetNode → NetNode → D → D → Type 0) (given : List D → Option ℕ → D) (last none first : D) (before : List NetNode) (ends : List ℕ) (index : Index)
    (sources : Sources) (wired : IsWired sources before ends index) (to_first : (answers : List D) → given answers None ≡ first) (to_behind : (answers : List D) (q : ℕ) → given answers (Some q) ≡ slice_index_or answers q last) where
  abbrev Way : List NetNode → Answered D → ℕ → Type 0
  Way now a next = IsUnderWay Turn given last none before ends now a next

  -- at the start no node has answered
  pub set_off : (a : Answered D) → a.none ≡ none → ((k : ℕ) → some_answer a k ≡ None) → Way before a 0
  set_off a nothing unanswered = record {
    answers = [];
    count = refl;
    rest = λ k le. refl;
    below = λ k h old new e f. absurd (omega arith);
    nothing = nothing;
    known = λ k h. absurd (omega arith);
    ahead = λ k le. unanswered k;
    ruled = λ rule end e out. unanswered end;
  }

  -- a node takes its turn
  module _ (now : List NetNode) (a : Answered D) (place : ℕ) (way : Way now a place) (n new : NetNode) (left answer : D) (b : Answered D) (at : slice_get now place ≡ Some n)
      (turn : Turn place n new left answer) (left_is : left ≡ left_given first a n.parent) (put : IsAnswerPut index place answer a b) where
    was : slice_get before place ≡ Some n
    was = sym (way.rest place (omega arith)) ∙ at

    absent : some_answer a place ≡ None
    absent = way.ahead place (omega arith)

    -- what comes to the node
    left_known : given way.answers n.parent ≡ left_given first a n.parent
    left_known = by n.parent refl
      where
        by : (parent : Option ℕ) → n.parent ≡ parent → given way.answers parent ≡ left_given first a parent
        by None at = to_first way.answers
        by (Some q) at = to_behind way.answers q ∙ way.known q (wired.parents place q n was at) ∙ ap (λ x. kept x (some_answer a q)) (sym way.nothing)

    known_more : (k : ℕ) → k < place + 1 → slice_index_or (way.answers ++ answer ∷ []) k last ≡ kept none (some_answer b k)
    known_more k h = elim (below_or_last k place h) [
      | inl lt ↦
          let count = way.count in
          let within : k < length way.answers = omega (arith, count) in
          get_or_append_left way.answers (answer ∷ []) last k within ∙ way.known k lt ∙ ap (kept none) (sym (put.others k (λ e. absurd (omega arith))))
      | inr at ↦
          ap (λ n. slice_index_or (way.answers ++ answer ∷ []) n last) (at ∙ sym way.count) ∙ get_or-append_seam way.answers answer [] last
          ∙ sym (ap (λ x. kept x (some_answer b place)) (sym way.nothing) ∙ put.here absent) ∙ ap (λ n. kept none (some_answer b n)) (sym at)
    ]

    -- the answer in a place is the one that was there, but where the node in it answers something
    still_none : (k : ℕ) → some_answer a k ≡ None → ((k ≡ place) → some_answer b place ≡ some_answer a place) → some_answer b k ≡ None
    still_none k empty same = elim (equal_or_not k place) [
      | inl is ↦ ap (some_answer b) is ∙ same is ∙ absent
      | inr other ↦ put.others k other ∙ empty
    ]

    ruled_now : AreRuled b ends
    ruled_now rule end e out =
        still_none end (way.ruled rule end e (false_from_ne_true (has_place a.rules.keys rule) (λ h. let no : true ≡ false = sym (put.rules_still rule h) ∙ out in cc)))
        (λ is. put.rules rule (subst (λ (i : ℕ). is_listed index.rules i rule ≡ true) is (wired.indexed.ended rule end e)) out)

    pub take_one : Way (set now place new) b (place + 1)
    take_one = record {
      answers = way.answers ++ answer ∷ [];
      count = let count = way.count in simp length-append (omega (arith, count));
      rest = λ k le. get-set_other now place k new (λ e. absurd (omega arith)) ∙ way.rest k (omega arith);
      below = below_more Turn given last before now (set now place new) way.answers place n new answer way.count (λ k lt. get-set_other now place k new (λ e. absurd (omega arith))) way.below was (get-set_same now place new n at)
          (subst (λ (x : D). Turn place n new x answer) (left_is ∙ sym left_known) turn);
      nothing = put.none ∙ way.nothing;
      known = known_more;
      ahead = λ k le. put.others k (λ e. absurd (omega arith)) ∙ way.ahead k (omega arith);
      ruled = ruled_now;
    }
