-- In a step in which no rule needs a forgotten fact, nothing changes of these for a node.
use Rattle.rete_net.proofs.Common.{◌≡◌, ◌∙◌, sym, ap, refl, subst, inl, inr, ℕ, zero, suc, ◌==◌, ◌&&◌, ◌||◌, not, Bool, true, false, cond, List, [], ◌∷◌, ◌++◌}
use Rattle.rete_net.proofs.Common.{take, Option, Some, None, slice_get, option_to_list, filter, find, list_any, In, Fact, Tag, Delta, Named, Row, has}
use Rattle.rete_net.proofs.Common.{LeadsRows, Condition, Plain, Negated, Existing, Folded, Pattern, Program, HaveDistinctTags, pattern_of, Snapshot, name_of}
use Rattle.rete_net.proofs.Common.{in_left, of_filter, one_fact, in_filter, in_place, Look, joins, clean, cleaned, no_names, ForgottenStay, HasAllOf, NameHeld}
use Rattle.rete_net.proofs.Common.{candidates_of, rows_of, MovesSnapshot, shares_tag, CountedStay, held_known, joining_alike, clean_of_none, CountsNone}
use Rattle.{rete_net.proofs.{Common.{AreNotNeeded, IsRuleFront}, Chaining.{StaysBeside}, Turning.{rising}}, std.proofs.lemmas.Bool.{and_parts, eqb-true}}
use Rattle.{std.proofs.lemmas.Bool.{not-true}, condition_rows.specs.Sets.{held}, fx_base.proofs.{Sequences.{In-append}, Tests.{and_where}}}

-- ---- what a snapshot holds

abbrev tag_of : ℕ → Tag
tag_of n = record { 0 = n }

found_if : (b : Bool) (x f : Fact) (tag : Tag) (facts : List Fact) (rest : Option Fact) → (x.tag.0 == tag.0) ≡ b → (rest ≡ Some f → In f facts × (f.tag ≡ tag)) → cond b (Some x) rest ≡ Some f
    → In f (x ∷ facts) × (f.tag ≡ tag)
found_if true x f tag facts rest is h e =
    let same : x ≡ f = cc in
    (inl (sym same), subst (λ (g : Fact). g.tag ≡ tag) same (ap tag_of (eqb-true x.tag.0 tag.0 is)))
found_if false x f tag facts rest is h e = let r = h e in (inr r.0, r.1)

found_at : (tag : Tag) (facts : List Fact) (f : Fact) → find (λ (g : Fact). g.tag.0 == tag.0) facts ≡ Some f → In f facts × (f.tag ≡ tag)
found_at tag [] f e = cc
found_at tag (x ∷ facts) f e = found_if (x.tag.0 == tag.0) x f tag facts (find (λ (g : Fact). g.tag.0 == tag.0) facts) refl (found_at tag facts f) e

pub held_at : (s : Snapshot) (tag : Tag) (f : Fact) → held s tag ≡ Some f → In f s.facts × (f.tag ≡ tag)
unfolding held
held_at s tag f e = found_at tag s.facts f e

any_if : {A : Type 0} (test : A → Bool) (b : Bool) (x : A) (xs : List A) → test x ≡ b → (list_any test xs ≡ true → (y : A) × In y xs × (test y ≡ true)) → (b || list_any test xs) ≡ true
    → (y : A) × In y (x ∷ xs) × (test y ≡ true)
any_if test true x xs is h e = (x, inl refl, is)
any_if test false x xs is h e = let r = h e in (r.0, inr r.1, r.2)

pub any_in : {A : Type 0} (test : A → Bool) (xs : List A) → list_any test xs ≡ true → (y : A) × In y xs × (test y ≡ true)
any_in test [] e = absurd (let n : false ≡ true = e in cc)
any_in test (x ∷ xs) e = any_if test (test x) x xs refl (any_in test xs) e

-- ---- a world that has all versions of both snapshots

abbrev first_of : Option Fact → Option Fact → Option Fact
first_of None other = other
first_of (Some f) other = Some f

abbrev pub both_held : Snapshot → Snapshot → Look
both_held s next tag = first_of (held s tag) (held next tag)

pub both_known : (s next : Snapshot) → HasAllOf (both_held s next) s no_names
both_known s next tag f e n = ap (λ o. first_of o (held next tag)) e

module _ (p : Program) (look : Look) (s next : Snapshot) (gone : List Fact) (come : Option Fact) (forgotten : Named → Bool) (moves : MovesSnapshot p s next gone come)
    (apart : AreNotNeeded p forgotten s next gone come) (has_before : HasAllOf look s forgotten) (has_now : HasAllOf look next forgotten) where
  distinct : HaveDistinctTags s.facts
  distinct = rising s.facts moves.before.in_order

  distinct_now : HaveDistinctTags next.facts
  distinct_now = rising next.facts moves.after.in_order

  coming : (o : Option Fact) (f : Fact) → In f (option_to_list o) → o ≡ Some f
  coming None f i = absurd i
  coming (Some g) f (inl e) = ap Some (sym e)
  coming (Some g) f (inr i) = absurd i

  -- a fact of the snapshot that has the tag of the one that comes is the same
  module _ (tag : Tag) (f g : Fact) (is : held s tag ≡ Some g) (is_now : held next tag ≡ Some f) where
    there : In g s.facts × (g.tag ≡ tag)
    there = held_at s tag g is

    there_now : In f next.facts × (f.tag ≡ tag)
    there_now = held_at next tag f is_now

    went : (h : Fact) → In h gone → (h.tag.0 == g.tag.0) ≡ true → come ≡ Some f → g ≡ f
    went h i e c =
        let same : h ≡ g = one_fact s.facts distinct h g (moves.held h i) there.0 (ap tag_of (eqb-true h.tag.0 g.tag.0 e)) in
        let kept : forgotten (name_of g) ≡ false = apart.none_goes g (subst (λ (z : Fact). In z gone) same i) in
        let both : Some g ≡ Some f = sym (has_before tag g is kept) ∙ has_now tag f is_now (apart.none_comes f c) in
        let equal : g ≡ f = cc in
        equal

    came : come ≡ Some f → (b : Bool) → shares_tag gone g ≡ b → g ≡ f
    came c true e = let r = any_in (λ (h : Fact). h.tag.0 == g.tag.0) gone e in went r.0 r.1 r.2 c
    came c false e =
        let stays : In g next.facts = subst (λ (facts : List Fact). In g facts) (sym moves.facts)
        (in_left g (filter (λ (h : Fact). not (shares_tag gone h)) s.facts) (option_to_list come) (in_filter (λ (h : Fact). not (shares_tag gone h)) g s.facts (ap not e) there.0)) in
        one_fact next.facts distinct_now g f stays there_now.0 (there.1 ∙ sym there_now.1)

    one_version : g ≡ f
    one_version =
        elim (In-append f (filter (λ (h : Fact). not (shares_tag gone h)) s.facts) (option_to_list come) (subst (λ (facts : List Fact). In f facts) moves.facts there_now.0)) [
          | inl i ↦ one_fact s.facts distinct g f there.0 (of_filter (λ (h : Fact). not (shares_tag gone h)) f s.facts i) (there.1 ∙ sym there_now.1)
          | inr i ↦ came (coming come f i) (shares_tag gone g) refl
        ]

  known_if : (tag : Tag) (f : Fact) (o : Option Fact) → held s tag ≡ o → held next tag ≡ Some f → first_of o (held next tag) ≡ Some f
  known_if tag f None is is_now = is_now
  known_if tag f (Some g) is is_now = ap Some (one_version tag f g is is_now)

  pub both_known_now : HasAllOf (both_held s next) next no_names
  both_known_now tag f e n = known_if tag f (held s tag) refl e

-- ---- what a condition counts

pub stay_of : (p : Program) (world : Look) (was next : Snapshot) (rows rows_now : Row → Bool) (forgotten : Named → Bool) (left : Delta) (c : Condition) → HasAllOf world next no_names → NameHeld next rows_now
    → ((row : Row) → has left.come row ≡ true → rows_now row ≡ true)
    → ((who : Named) → forgotten who ≡ true → candidates_of p (pattern_of c) was who ≡ candidates_of p (pattern_of c) next who)
    → ((row : Row) → has left.come row ≡ true → CountsNone c p next forgotten row)
    → CountedStay c p world was next rows rows_now forgotten left
stay_of p world was next rows rows_now forgotten left c known named comes = by c
  where
    stay : (q : Pattern) → ((who : Named) → forgotten who ≡ true → candidates_of p q was who ≡ candidates_of p q next who)
        → ((row : Row) → has left.come row ≡ true → (who : Named) → forgotten who ≡ true → (candidates_of p q next who && joins q (held next) row who) ≡ false)
        → ForgottenStay (joins q world) rows rows_now (candidates_of p q was) (candidates_of p q next) forgotten left
    stay q same none = record {
      stays = λ row who e f g. ap (λ b. b && joins q world row who) (same who g);
      comes = λ row who e g.
          and_where (candidates_of p q next who) (joins q world row who) (joins q (held next) row who)
          (λ there. joining_alike world (held next) next no_names known (held_known next no_names) p q rows_now named row who (ap (λ b. b && clean no_names row) (comes row e) ∙ clean_of_none row.facts) (ap (λ b. b && true) there))
          ∙ none row e who g;
    }

    by : (c : Condition) → ((who : Named) → forgotten who ≡ true → candidates_of p (pattern_of c) was who ≡ candidates_of p (pattern_of c) next who)
        → ((row : Row) → has left.come row ≡ true → CountsNone c p next forgotten row)
        → CountedStay c p world was next rows rows_now forgotten left
    by (Plain q) same none = tt
    by (Negated q) same none = stay q same none
    by (Existing q) same none = stay q same none
    by (Folded a) same none = stay a.pattern same none

-- ---- a node of a rule

-- the conditions before the last one of a front are those before its place in the rule
pub at_end : {A : Type 0} (xs front : List A) (c : A) (q : ℕ) → front ++ c ∷ [] ≡ take q xs → (i : ℕ) × (slice_get xs i ≡ Some c) × (front ≡ take i xs)
at_end xs [] c zero e = cc
at_end xs (y ∷ front) c zero e = cc
at_end [] [] c (suc q) e = cc
at_end [] (y ∷ front) c (suc q) e = cc
at_end (x ∷ xs) [] c (suc q) e = let same : c ≡ x = cc in (0, ap Some (sym same), refl)
at_end (x ∷ xs) (y ∷ front) c (suc q) e =
    let same : y ≡ x = cc in
    let rest : front ++ c ∷ [] ≡ take q xs = cc in
    let r = at_end xs front c q rest in
    (suc r.0, r.1, ap (λ z. z ∷ front) same ∙ ap (λ zs. x ∷ zs) r.2)

missed : (a k : Bool) → (a && k) ≡ false → k ≡ true → a ≡ false
missed true k e f = sym f ∙ e
missed false k e f = refl

module _ (p : Program) (world : Look) (was s next : Snapshot) (gone : List Fact) (come : Option Fact) (forgotten : Named → Bool) (apart : AreNotNeeded p forgotten s next gone come)
    (known_now : HasAllOf world next no_names) (behind : List Condition) (c : Condition) (front : IsRuleFront p (behind ++ c ∷ [])) (named_now : NameHeld next (rows_of p next behind))
    (same_rows : cleaned (rows_of p s behind) forgotten ≡ cleaned (rows_of p was behind) forgotten)
    (same_candidates : (who : Named) → candidates_of p (pattern_of c) s who ≡ candidates_of p (pattern_of c) was who) where
  abbrev place : (i : ℕ) × (slice_get front.0.conditions i ≡ Some c) × (behind ≡ take i front.0.conditions)
  place = at_end front.0.conditions behind c front.2 front.3

  unchanged : (who : Named) → forgotten who ≡ true → candidates_of p (pattern_of c) was who ≡ candidates_of p (pattern_of c) next who
  unchanged who e = sym (same_candidates who) ∙ sym (apart.same_candidates front.0 front.1 c (in_place front.0.conditions place.0 c place.1) who e)

  none : (left : Delta) → LeadsRows (cleaned (rows_of p was behind) forgotten) (cleaned (rows_of p next behind) forgotten) left.gone left.come → (row : Row) → has left.come row ≡ true → CountsNone c p next forgotten row
  none left leads row e =
      let came = and_parts (cleaned (rows_of p next behind) forgotten row) (not (cleaned (rows_of p was behind) forgotten row)) (sym (leads.comes row) ∙ e) in
      let is = and_parts (rows_of p next behind row) (clean forgotten row) came.0 in
      let was_not = missed (rows_of p s behind row) (clean forgotten row) (ap (λ (set : Row → Bool). set row) same_rows ∙ not-true (cleaned (rows_of p was behind) forgotten row) came.1) is.1 in
      apart.none_counted front.0 front.1 place.0 c place.1 row (subst (λ (cs : List Condition). rows_of p next cs row ≡ true) place.2 is.0) (subst (λ (cs : List Condition). rows_of p s cs row ≡ false) place.2 was_not)

  pub stays_beside : StaysBeside p world was next c (rows_of p was behind) (rows_of p next behind) forgotten
  stays_beside = record {
    same = unchanged;
    stay = λ left leads.
        stay_of p world was next (rows_of p was behind) (rows_of p next behind) forgotten left c known_now named_now
        (λ row e. (and_parts (rows_of p next behind row) (clean forgotten row) (and_parts (cleaned (rows_of p next behind) forgotten row) (not (cleaned (rows_of p was behind) forgotten row)) (sym (leads.comes row) ∙ e)).0).0)
        unchanged (none left leads);
  }
