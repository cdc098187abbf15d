-- What a session saves is the image of each world for which it stands.
use Rattle.session_model.proofs.Common.{◌≡◌, ◌∙◌, ◌≤◌, ℕ, zero, suc, ℤ, pos, Bool, true, false, nat_lt, List, [], ◌∷◌, length, refl, sym, ap, subst, arith}
use Rattle.session_model.proofs.Common.{slice_index_or, Less, AllByRecursion, nat_cmp, nat_tests, In, Fact, Image, facts_of, from_list, from_map, tags_rise}
use Rattle.session_model.proofs.Common.{has_match, match_cmp, moment_in, Reached, World, IsKept, clean, is_forgotten, kept_facts, kept_listed, AreMoments}
use Rattle.session_model.proofs.Common.{tag_cmp, match_fired, IsImageOf, ends_by, is_kept_tag, each_tag, sight_of, Memory, Setting, over, Contents}
use Rattle.session_model.{proofs.{Common.{ReachesNoMore, Runs, Standing, reached_of}, Kept_parts.{kept_each}}, specs.Saving.{ArePadded, IsSessionSaved}}
use Rattle.session_model.proofs.{Forgotten.{has_all}, Members.{Holds, own_tags}, Needs.{lost_in_world}, Presented.{extras_there}, Tallied.{holds_kept}}
use Rattle.{std.{proofs.Common.{map as list_map}, specs.{declared.cmp.Ordering.{Ordering}, List.Sorted.{IsStrictlySortedBy}}}, fx_base.proofs.Tests.{and_where}}

-- ---- lists in order

unmapped_below : {A B : Type 0} (c : B → B → Ordering) (key : A → B) (x : A) (xs : List A) → AllByRecursion (λ y. c (key x) y ≡ Less) (list_map key xs) → AllByRecursion (λ y. c (key x) (key y) ≡ Less) xs
unmapped_below c key x [] a = tt
unmapped_below c key x (y ∷ xs) a = (a.0, unmapped_below c key x xs a.1)

-- what is in order by its keys
unmapped : {A B : Type 0} (c : B → B → Ordering) (key : A → B) (xs : List A) → IsStrictlySortedBy c (list_map key xs) → IsStrictlySortedBy (λ x y. c (key x) (key y)) xs
unfolding IsStrictlySortedBy
unmapped c key [] s = tt
unmapped c key (x ∷ xs) s = (unmapped_below c key x xs s.0, unmapped c key xs s.1)

-- ---- what entry points have reached

pub beyond_end : (moments : List ℤ) (entry : ℕ) → length moments ≤ entry → moment_in moments entry ≡ pos 0
beyond_end [] entry le = nothing_at entry
  where
    nothing_at : (k : ℕ) → slice_index_or [] k (pos 0) ≡ pos 0
    nothing_at zero = refl
    nothing_at (suc k) = refl
beyond_end (m ∷ moments) zero le = absurd (omega (arith, le))
beyond_end (m ∷ moments) (suc entry) le = beyond_end moments entry (omega (arith, le))

moments_are : (kept first : List ℤ) (many : ℕ) (of : ℕ → ℤ) → ArePadded kept many first → ((entry : ℕ) → moment_in kept entry ≡ of entry) → ((entry : ℕ) → many ≤ entry → moment_in kept entry ≡ pos 0)
    → AreMoments of many first
moments_are kept first many of are same none = record {
  as_many = are.as_many;
  each = λ entry. by entry (nat_lt entry many) refl;
}
  where
    by : (entry : ℕ) (b : Bool) → nat_lt entry many ≡ b → moment_in first entry ≡ of entry
    by entry true e = are.each entry (grind (arith, nat_tests)) ∙ same entry
    by entry false e =
        let beyond : many ≤ entry = grind (arith, nat_tests) in
        let longer : length first ≤ entry = (let count : length first ≡ many = are.as_many in omega (arith, beyond, count)) in
        beyond_end first entry longer ∙ sym (none entry beyond) ∙ same entry

-- ---- the image

module _ (s : Setting) (m : Memory) (k : Contents) (w : World) (st : Standing s m k w) (runs : Runs s) (more : ReachesNoMore s.program (reached_of k)) (image : Image) (saved : IsSessionSaved k (length s.program.entries) m.net image) where
  reached_is : (entry : ℕ) → (moment_in k.course.last_starts entry ≡ w.reached.last_start entry) × (moment_in k.course.promises entry ≡ w.reached.promise entry)
  reached_is entry = (
    ap (λ (r : Reached). r.last_start entry) st.seen.whole.mirrors.reached,
    ap (λ (r : Reached). r.promise entry) st.seen.whole.mirrors.reached,
  )

  held_kept : Holds k.facts (kept_facts s.program s.lives w)
  held_kept = holds_kept s m k runs w st

  facts_kept : (f : Fact) → In f image.facts → IsKept s.program s.lives w f
  facts_kept f i =
      let r = from_list k.facts f (subst (λ (fs : List Fact). In f fs) saved.facts i) in
      (kept_listed s.program s.lives w runs.table.safe f).0 (held_kept.to r.0 f r.1).0

  kept_facts_in : (f : Fact) → IsKept s.program s.lives w f → In f image.facts
  kept_facts_in f is =
      subst (λ (fs : List Fact). In f fs) (sym saved.facts) (from_map k.facts f f.tag.0 (held_kept.from f ((kept_listed s.program s.lives w runs.table.safe f).1 is)))

  pub saved_image : IsImageOf s.program s.lives w image
  saved_image = record {
    clock = saved.clock ∙ st.seen.whole.mirrors.clock;
    begun = saved.begun ∙ st.seen.whole.mirrors.begun;
    last_starts = moments_are k.course.last_starts image.last_starts (length s.program.entries) w.reached.last_start saved.last_starts (λ entry. (reached_is entry).0) (λ entry beyond. (more entry beyond).0);
    promises = moments_are k.course.promises image.promises (length s.program.entries) w.reached.promise saved.promises (λ entry. (reached_is entry).1) (λ entry beyond. (more entry beyond).1);
    next_id = saved.next_id ∙ st.seen.whole.mirrors.next_id;
    next_tag = saved.next_tag ∙ st.seen.whole.mirrors.next_tag;
    facts_in_order =
        subst (IsStrictlySortedBy tag_cmp) (sym saved.facts) (unmapped nat_cmp (λ (f : Fact). f.tag.0) (facts_of k.facts) (tags_rise k.facts (own_tags k.facts (kept_facts s.program s.lives w) held_kept)));
    facts = λ f. (facts_kept f, kept_facts_in f);
    fired_in_order = unmapped match_cmp match_fired image.fired saved.fired_in_order;
    fired = λ q.
        ap (λ ms. has_match ms q) saved.fired ∙ st.holds.fired q
        ∙ sym (and_where (has_match w.fired q) (clean (is_forgotten s.program s.lives w) q.row) (each_tag (is_kept_tag (ends_by s.lives) (sight_of s.program w)) q)
        (λ f. kept_each s.program s.lives w runs.table.safe st.seen.whole.lawful q (st.seen.whole.lawful.ordered.fired q f)));
    extras =
        extras_there s.program w st.seen.whole.lawful.ordered.tags st.seen.all k.clock st.seen.whole.mirrors.clock (reached_of k) st.seen.whole.mirrors.reached st.seen.whole.mirrors.facts st.seen.forgotten
        (is_forgotten s.program s.lives w) (lost_in_world s m k w st runs) image.extras
        (saved.extras s.program (over (facts_of st.seen.all) k.clock (reached_of k)) st.seen.forgotten st.seen.stands (has_all s.program m.net k w st.seen));
  }
