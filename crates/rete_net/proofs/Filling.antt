-- One node after the other is loaded.
use Rattle.rete_net.proofs.Common.{◌≡◌, ◌∙◌, sym, ap, refl, subst, inl, inr, ℕ, ◌+◌, ◌<◌, ◌≤◌, arith, true, false, List, Result, Ok, Err, Option, Some, None}
use Rattle.rete_net.proofs.Common.{slice_get, IsErrAnd, IsErrOf, filter, set, length-set, In, Fact, Delta, Extra, Row, has, InOrder, Moment, Program, of_filter}
use Rattle.rete_net.proofs.Common.{in_filter, passed, Look, Answered, Owner, Index, NetNode, answer_in, left_given, some_answer, AreRuled, IsAnswerPut}
use Rattle.rete_net.{proofs.Common.{is_listed, is_extra_under, AreLoaded, HasRowsOf, IsStuck, has_place, no_change, IsWired}, specs.Answers.{given as kept_or}}
use Rattle.{rete_net.{specs.Loads.{TurnLoads}, proofs.Walking.{equal_or_not}}, std.proofs.lemmas.Bool.{false_from_ne_true}}
use Rattle.{candidate_source.specs.{declared.sources.Sources.{Sources}, Sources.{source_at}}, fx_base.proofs.Orders.{below_or_last}}
use Rattle.fx_base.proofs.Sequences.{get-set_other, get-set_same, one_value}

-- a fault that is passed on is the one that there was
pub same_fault : {T E : Type 0} (r : Result T E) (e x : E) → IsErrOf r x → IsErrAnd r (λ y. y ≡ e) → e ≡ x
same_fault (Ok y) e x is told = absurd told
same_fault (Err y) e x is told = let same : y ≡ x = cc in sym told ∙ same

module _ (p : Program) (look : Look) (kept : List Fact) (extras : List Extra) (moment : Moment) (first : Delta) (sources : Sources) (before : List NetNode) (owners : List Owner) (ends : List ℕ) where
  abbrev pub Way : Sources → List NetNode → Answered Delta → ℕ → Type 0
  Way of now a n = AreLoaded p look kept extras moment first (source_at sources) (source_at of) before now owners ends a n

  pub set_off : (of : Sources) (a : Answered Delta) → a.none ≡ no_change → ((k : ℕ) → some_answer a k ≡ None) → Way of before a 0
  set_off of a none unanswered = record {
    many = refl;
    none = none;
    ahead = λ k le. unanswered k;
    rest = λ k le. refl;
    loaded = λ k lt. absurd (omega (arith, lt));
    there = λ k lt. absurd (omega (arith, lt));
    ruled = λ rule end e out. unanswered end;
  }

  -- the row of an extra is missing
  pub stuck_at : (of : Sources) (now : List NetNode) (a : Answered Delta) (place : ℕ) → Way of now a place → (n : NetNode) → slice_get now place ≡ Some n → (own : List Extra) → ((o : Owner) → slice_get owners place ≡ Some o → own ≡ filter (is_extra_under o) extras)
      → (rows : List Row) → rows ≡ (left_given first a n.parent).come → (InOrder rows → (e : Extra) × In e own × (has rows e.row ≡ false)) → IsStuck p look kept extras moment first (source_at sources) before owners ends
  stuck_at of now a place way n at own own_are rows rows_are missing = record {
    now = now;
    is = source_at of;
    answered = a;
    place = place;
    loaded = way;
    node = n;
    there = sym (way.rest place (omega arith)) ∙ at;
    missing = λ o is sorted.
        let it = missing (subst InOrder (sym rows_are) sorted) in
        let own_one = subst (In it.0) (own_are o is) it.1 in
        (it.0, of_filter (is_extra_under o) it.0 extras own_one, passed (is_extra_under o) it.0 extras own_one, ap (λ (rs : List Row). has rs it.0.row) (sym rows_are) ∙ it.2);
  }

  module _ (index : Index) (wired : IsWired sources before ends index) (of then : Sources) (now : List NetNode) (a : Answered Delta) (place : ℕ) (way : Way of now a place)
      (alike : (k : ℕ) → k < place → (extras : List Extra) (old new : NetNode) (rows : List Row) (delta : Delta) → TurnLoads p look kept extras moment (source_at sources k) (source_at of k) k old new rows delta
      → TurnLoads p look kept extras moment (source_at sources k) (source_at then k) k old new rows delta)
      (n new : NetNode) (at : slice_get now place ≡ Some n)
      (own : List Extra) (own_are : (o : Owner) → slice_get owners place ≡ Some o → own ≡ filter (is_extra_under o) extras) (rows : List Row) (rows_are : rows ≡ (left_given first a n.parent).come)
      (delta : Delta) (load : TurnLoads p look kept own moment (source_at sources place) (source_at then place) place n new rows delta) (there : InOrder rows → (e : Extra) → In e own → has rows e.row ≡ true)
      (b : Answered Delta) (put : IsAnswerPut index place delta a b) where
    abbrev Loads : ℕ → List Extra → NetNode → NetNode → List Row → Delta → Type 0
    Loads k own old new rows delta = TurnLoads p look kept own moment (source_at sources k) (source_at then k) k old new rows delta

    absent : some_answer a place ≡ None
    absent = way.ahead place (omega arith)

    was : slice_get before place ≡ Some n
    was = sym (way.rest place (omega arith)) ∙ at

    answer_still : (k : ℕ) → (k ≡ place → ⊥) → answer_in b k ≡ answer_in a k
    answer_still k other = ap (λ d. kept_or d (some_answer b k)) put.none ∙ ap (kept_or a.none) (put.others k other)

    answer_here : answer_in b place ≡ delta
    answer_here = ap (λ d. kept_or d (some_answer b place)) put.none ∙ put.here absent

    left_still : (k : ℕ) (old : NetNode) → k ≤ place → slice_get before k ≡ Some old → left_given first b old.parent ≡ left_given first a old.parent
    left_still k old le e = by old.parent refl
      where
        by : (parent : Option ℕ) → old.parent ≡ parent → left_given first b parent ≡ left_given first a parent
        by None is = refl
        by (Some q) is = let lt = wired.parents k q old e is in answer_still q (λ same. absurd (omega (arith, lt, le, same)))

    still_none : (k : ℕ) → some_answer a k ≡ None → (k ≡ place → some_answer b place ≡ some_answer a place) → some_answer b k ≡ None
    still_none k empty same = elim (equal_or_not k place) [
      | inl is ↦ ap (some_answer b) is ∙ same is ∙ absent
      | inr other ↦ put.others k other ∙ empty
    ]

    ruled_now : AreRuled b ends
    ruled_now rule end e out =
        still_none end (way.ruled rule end e (false_from_ne_true (has_place a.rules.keys rule) (λ h. let no : true ≡ false = sym (put.rules_still rule h) ∙ out in cc)))
        (λ is. put.rules rule (subst (λ (i : ℕ). is_listed index.rules i rule ≡ true) is (wired.indexed.ended rule end e)) out)

    loaded_still : (k : ℕ) → k < place → (old it : NetNode) (o : Owner) → slice_get before k ≡ Some old → slice_get (set now place new) k ≡ Some it → slice_get owners k ≡ Some o
        → Loads k (filter (is_extra_under o) extras) old it (left_given first b old.parent).come (answer_in b k)
    loaded_still k lt old it o e f g =
        let own = filter (is_extra_under o) extras in
        subst (λ (d : Delta). Loads k own old it d.come (answer_in b k)) (sym (left_still k old (omega (arith, lt)) e))
        (subst (Loads k own old it (left_given first a old.parent).come) (sym (answer_still k (λ same. absurd (omega (arith, lt, same)))))
        (alike k lt own old it (left_given first a old.parent).come (answer_in a k) (way.loaded k lt old it o e (sym (get-set_other now place k new (λ same. absurd (omega (arith, lt, same)))) ∙ f) g)))

    loaded_here : (old it : NetNode) (o : Owner) → slice_get before place ≡ Some old → slice_get (set now place new) place ≡ Some it → slice_get owners place ≡ Some o
        → Loads place (filter (is_extra_under o) extras) old it (left_given first b old.parent).come (answer_in b place)
    loaded_here old it o e f g =
        let old_is : n ≡ old = one_value (slice_get before place) n old was e in
        let new_is : new ≡ it = one_value (slice_get (set now place new) place) new it (get-set_same now place new n at) f in
        let its = filter (is_extra_under o) extras in
        subst (λ (d : Delta). Loads place its old it d.come (answer_in b place)) (sym (left_still place old (omega arith) e))
        (subst (Loads place its old it (left_given first a old.parent).come) (sym answer_here)
        (subst (λ (x : NetNode). Loads place its old x (left_given first a old.parent).come delta) new_is
        (subst (λ (x : NetNode). Loads place its x new (left_given first a x.parent).come delta) old_is
        (subst (λ (rs : List Row). Loads place its n new rs delta) rows_are
        (subst (λ (es : List Extra). Loads place es n new rows delta) (own_are o g) load)))))

    there_here : (old : NetNode) (o : Owner) → slice_get before place ≡ Some old → slice_get owners place ≡ Some o → InOrder (left_given first a old.parent).come → HasRowsOf o extras (left_given first a old.parent).come
    there_here old o e g sorted =
        let old_is : n ≡ old = one_value (slice_get before place) n old was e in
        let same : rows ≡ (left_given first a old.parent).come = rows_are ∙ ap (λ (x : NetNode). (left_given first a x.parent).come) old_is in
        subst (HasRowsOf o extras) same (λ x i under.
        there (subst InOrder (sym same) sorted) x (subst (In x) (sym (own_are o g)) (in_filter (is_extra_under o) x extras under i)))

    pub take_one : Way then (set now place new) b (place + 1)
    take_one = record {
      many = length-set now place new ∙ way.many;
      none = put.none ∙ way.none;
      ahead = λ k le. put.others k (λ same. absurd (omega (arith, le, same))) ∙ way.ahead k (omega (arith, le));
      rest = λ k le. get-set_other now place k new (λ same. absurd (omega (arith, le, same))) ∙ way.rest k (omega (arith, le));
      loaded = λ k lt. elim (below_or_last k place lt) [
        | inl less ↦ loaded_still k less
        | inr same ↦ subst
            (λ (i : ℕ). (old it : NetNode) (o : Owner) → slice_get before i ≡ Some old → slice_get (set now place new) i ≡ Some it → slice_get owners i ≡ Some o
            → Loads i (filter (is_extra_under o) extras) old it (left_given first b old.parent).come (answer_in b i)) (sym same) loaded_here
      ];
      there = λ k lt old o e g. elim (below_or_last k place lt) [
        | inl less ↦
            subst (λ (d : Delta). InOrder d.come → HasRowsOf o extras d.come) (sym (left_still k old (omega (arith, less)) e)) (way.there k less old o e g)
        | inr same ↦
            subst (λ (d : Delta). InOrder d.come → HasRowsOf o extras d.come) (sym (left_still k old (omega (arith, same)) e))
            (there_here old o (ap (slice_get before) (sym same) ∙ e) (ap (slice_get owners) (sym same) ∙ g))
      ];
      ruled = ruled_now;
    }
