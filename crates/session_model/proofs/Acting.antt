-- Firings lead from lawful worlds to lawful ones.
use Rattle.session_model.proofs.Common.{◌≡◌, inl, inr, not, true, List, [], ◌∷◌, Option, Some, None, refl, sym, ◌∙◌, subst, Tag, Fact, Action, Match, Program}
use Rattle.session_model.proofs.Common.{Rule, Step, HaveDistinctTags, IsLawful, Holds, bound_in, matches, has_match, step_of, IsRunnable, In, rows, World}
use Rattle.session_model.proofs.Common.{only_present, present, snapshot, pending, first_pending, marked, steps_fit, found_fits, kept_lawful, kept_rows}
use Rattle.session_model.proofs.Common.{firing_lawful, of_map, has_pending, first_is_pending, IsMatchOf, rule_of, in_place, same_stays, OutLine, version_of}
use Rattle.session_model.proofs.{Common.{Detail, step_or_overflow, wanted, actions_of, fires_match, fires_with, AllFit}, Doing.{all_lawful}}
use Rattle.{session_model.{proofs.Members.{version_in}, specs.Gives.{fires_in}}, std.{proofs.lemmas.Bool.{and_parts}, specs.Prelude.{Ok, slice_get}}}

-- ---- the versions with the tags

holds_each : (facts_at : Tag → Option Fact) (facts : List Fact) → ((f : Fact) → In f facts → facts_at f.tag ≡ Some f) → Holds facts_at facts
holds_each facts_at [] h = tt
holds_each facts_at (f ∷ facts) h = (h f (inl refl), holds_each facts_at facts (λ g i. h g (inr i)))

versions_hold : (facts : List Fact) → HaveDistinctTags facts → Holds (version_of facts) facts
versions_hold facts d = holds_each (version_of facts) facts (λ f i. version_in facts f d i)

-- ---- a firing

pub asked_step : (found : Option Step) (step : Step) → step_or_overflow found ≡ Ok step → found ≡ Some step
asked_step None step e = absurd cc
asked_step (Some other) step e = cc

-- what a match's rule asks for fits
wanted_of : (p : Program) (w : World) (m : Match) → IsRunnable p → IsLawful p w → IsMatchOf p (snapshot w) m → AllFit p w (wanted (present p w) m.row (actions_of (slice_get p.rules m.rule.0)))
wanted_of p w m runnable l is step i =
    let facts : List Fact = present p w in
    let v : World = only_present p w in
    let lawful : IsLawful p v = kept_lawful p w l in
    let j : In (Ok step) (wanted facts m.row is.rule.actions) =
    subst (λ (found : Option Rule). In (Ok step) (wanted facts m.row (actions_of found))) is.there i in
    let q = of_map (λ (a : Action). step_or_overflow (step_of (bound_in (version_of facts) m.row) m.row.facts a)) (Ok step) is.rule.actions j in
    let row : In m.row (rows p (snapshot v) is.rule.conditions) = subst (In m.row) (sym (kept_rows p w is.rule.conditions)) is.row in
    found_fits p w step l.ordered
    (steps_fit p v (version_of facts) is.rule m.row q.0 step runnable.typed runnable.some_entry (in_place p.rules m.rule.0 is.rule is.there) lawful
    (versions_hold facts lawful.ordered.tags) row q.1 (asked_step (step_of (bound_in (version_of facts) m.row) m.row.facts q.0) step q.2))

pub wanted_fits : (p : Program) (w : World) (m : Match) → IsRunnable p → IsLawful p w → has_match (pending p w) m ≡ true → AllFit p w (wanted (present p w) m.row (actions_of (slice_get p.rules m.rule.0)))
wanted_fits p w m runnable l h = wanted_of p w m runnable l (rule_of p (snapshot w) m is_match)
  where
    is_match : has_match (matches p (snapshot w)) m ≡ true
    is_match = (and_parts (has_match (matches p (snapshot w)) m) (not (has_match w.fired m)) (sym (has_pending p w m) ∙ h)).0

match_fired : (d : Detail) (p : Program) (w : World) (m : Match) → IsRunnable p → IsLawful p w → has_match (pending p w) m ≡ true → IsLawful p (fires_match d p w m).1
match_fired d p w m runnable l h =
    all_lawful p w l.ordered d (marked w m) (wanted (present p w) m.row (actions_of (slice_get p.rules m.rule.0))) (wanted_fits p w m runnable l h) (firing_lawful p w m l h)
    (same_stays w (marked w m) refl refl)

pub fires_lawful : (d : Detail) (p : Program) (w : World) (lines : List OutLine) (next : World) → IsRunnable p → IsLawful p w → fires_in d p w ≡ Some (lines, next) → IsLawful p next
unfolding fires_in
fires_lawful d p w lines next runnable l e = by (first_pending p w) refl e
  where
    by : (found : Option Match) → first_pending p w ≡ found → fires_with d p w found ≡ Some (lines, next) → IsLawful p next
    by None h k = absurd cc
    by (Some m) h k =
        let n : (fires_match d p w m).1 ≡ next = cc in
        subst (IsLawful p) n (match_fired d p w m runnable l (first_is_pending p w m h))
