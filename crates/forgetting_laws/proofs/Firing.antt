-- The law of a firing in two phases.
use Rattle.forgetting_laws.proofs.Common.{◌≡◌, ℕ, ◌≤ℤ◌, ◌&&◌, ◌||◌, Bool, true, false, not, refl, sym, ◌∙◌, ap, subst, None, option_and_then, eq_by_cmp}
use Rattle.forgetting_laws.proofs.Common.{tells_apart, Match, has_match, match_cmp, match_exact, names_tag, lingers, Covers, later_law, same_covered, is_needed}
use Rattle.forgetting_laws.proofs.{Common.{is_kept_tag, some_tag, each_tag, ends_of}, Before.{kept_before, needed_kept, pending_kept}}
use Rattle.forgetting_laws.{specs.Firings.{FireLaw}, proofs.{Forgotten.{all_stay, IsForgotten, still_kept, holds_kept}, Naming.{found, witness}}}
use Rattle.{std.proofs.lemmas.Bool.{and_parts}, retention.specs.declared.retention.Retention.{Retention}, fx_base.proofs.Orders.{≤ℤ_same}}
use Rattle.fx_base.proofs.Tests.{and_not_not}

-- a match that was pending and is not is the one that was marked
is_marked : (a s : Bool) → a ≡ true → (a && not s) ≡ false → s ≡ true
is_marked true true e f = refl
is_marked true false e f = absurd (let g : true ≡ false = f in cc)
is_marked false s e f = absurd (let g : false ≡ true = e in cc)

-- s: the marked match, vf: fired before, kv, kw: all facts kept before and now, names: names an old one
fired_now : (vf s kv kw names : Bool) → (vf ≡ true → kw ≡ (kv && not names)) → (s ≡ true → kv ≡ true) → (s ≡ true → kw ≡ (kv && not names))
    → (((vf && kv) || s) && not names) ≡ ((vf || s) && kw)
fired_now true true true kw names next here now = sym (next refl)
fired_now true false true kw names next here now = sym (next refl)
fired_now true s false kw names next here now = by s here ∙ sym (next refl)
  where
    by : (t : Bool) → (t ≡ true → false ≡ true) → ((false || t) && not names) ≡ false
    by true h = absurd (let e : false ≡ true = h refl in cc)
    by false h = refl
fired_now false true kv kw names next here now = ap (λ k. k && not names) (sym (here refl)) ∙ sym (now refl)
fired_now false false kv kw names next here now = refl

pub fire_law : FireLaw
fire_law lives m was is before middle after left old lawful lawful_now marks holds pends fires leaves forgets =
    let same = λ (x : Match). eq_by_cmp match_cmp m x in
    let is_it : (x : Match) → same x ≡ true → m ≡ x = λ x. tells_apart match_exact m x in
    let le = ≤ℤ_same was.clock is.clock marks.clock in
    let pend : (x : Match) → has_match middle.agenda.pending x ≡ has_match is.pending x = λ x.
    fires.pending x ∙ ap (λ t. t && not (same x)) (holds.pending x ∙ lawful.pending x) ∙ and_not_not (was.matches x) (was.fired x) (same x)
    ∙ ap (λ t. was.matches x && not t) (sym (marks.fired x)) ∙ ap (λ t. t && not (is.fired x)) (sym (marks.matches x)) ∙ sym (lawful_now.pending x) in
    let needed : (tag : ℕ) → is_needed is tag ≡ true → is_needed was tag ≡ true = λ tag n.
    let w = witness (names_tag tag) is.pending n in
    let pended = (and_parts (has_match before.agenda.pending w.0) (not (same w.0)) (sym (fires.pending w.0) ∙ pend w.0 ∙ w.2)).0 in
    found (names_tag tag) w.0 was.pending w.1 (sym (holds.pending w.0) ∙ pended) in
    let phase : IsForgotten lives None (λ f. false) was is before middle after left old = record {
      facts = λ tag. marks.facts tag ∙ all_stay (was.facts tag);
      fresh = λ tag e. absurd (let f : false ≡ true = e in cc);
      kept_before = kept_before lives was is le (λ tag there n. needed_kept lives was tag there (needed tag n));
      holds = holds;
      store = λ tag. fires.store tag ∙ all_stay (before.store tag);
      covered =
          subst (Covers (ends_of lives middle.store) is.clock) (sym fires.retention)
          (same_covered (ends_of lives before.store) (ends_of lives middle.store) is.clock before.retention (λ tag. ap (option_and_then lives) (sym (fires.store tag)))
          (later_law (ends_of lives before.store) was.clock is.clock (is_needed was) before.retention le holds.watched));
      lingering = λ tag l. ap (λ (r : Retention). lingers r tag) (sym fires.retention) ∙ l;
      pending = pend;
      leaves = λ x tag was_pending free names.
          let s = is_marked (has_match before.agenda.pending x) (same x) was_pending (sym (fires.pending x) ∙ free) in
          leaves tag (ap (names_tag tag) (is_it x s) ∙ names);
      forgets = forgets;
    } in
    let pending_now = sym (holds.pending m) ∙ pends in
    let matched = (and_parts (was.matches m) (not (was.fired m)) (sym (lawful.pending m) ∙ pending_now)).0 in
    let kept_still = λ (x : Match) (e : was.matches x ≡ true). still_kept phase x (lawful.names x e) (lawful_now.names x (marks.matches x ∙ e)) in
    holds_kept phase (λ x.
    let kv = each_tag (is_kept_tag lives was) x in let kw = each_tag (is_kept_tag lives is) x in
    ap (λ t. t && not (some_tag old x)) (fires.fired x)
    ∙ ap (λ t. (t || same x) && not (some_tag old x)) (holds.fired x)
    ∙ fired_now (was.fired x) (same x) kv kw (some_tag old x)
    (λ f. kept_still x (lawful.fired x f))
    (λ s. ap (each_tag (is_kept_tag lives was)) (sym (is_it x s)) ∙ pending_kept lives was lawful m pending_now)
    (λ s. kept_still x (ap was.matches (sym (is_it x s)) ∙ matched))
    ∙ ap (λ t. t && kw) (sym (marks.fired x)))
