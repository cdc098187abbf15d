-- What lines in full say in brief are the lines in brief, and the worlds are the same.
use Rattle.session_model.proofs.Common.{◌≡◌, ◌∙◌, ◌++◌, inl, inr, not, true, List, [], ◌∷◌, map, filter_map, cons_option, Option, Some, None, option_map}
use Rattle.session_model.proofs.Common.{Result, Ok, Err, refl, sym, ap, Fact, Named, Tag, HaveDistinctTags, Code, Match, Program, Step, Insert, Modify, Retract}
use Rattle.session_model.proofs.Common.{Advance, At, Promise, Begin, IsLawful, In, has_match, matches, has_pending, snapshot, World, found, present, pending}
use Rattle.session_model.proofs.Common.{first_pending, first_is_pending, kept_lawful, marked, stepped, step_fault, named_present, Change, Detail, OutLine, does}
use Rattle.session_model.proofs.Common.{tries_with, step_lines, fires_match, fires_with, wanted, actions_of, version_of, change_step, slice_get}
use Rattle.session_model.specs.Gives.{brief_of, cells, conditions_of, does_all, fire_line, fires_in, gives_in, in_brief, modified_lines, revision, seen}
use Rattle.{session_model.{specs.Gives.{then_does}, proofs.Members.{version_in}}, std.proofs.lemmas.{Bool.{and_parts}, List.Concat.{flat_map-append}}}
use Rattle.{std.specs.List.{flat_map}, rule_model.specs.Tuples.{name_of}, answer_lines.specs.declared.lines.Detail.TheVariants.{Brief, Full}}
use Rattle.answer_lines.specs.declared.lines.OutLine.TheVariants.{Fire}

-- ---- steps

modified_briefly : (p : Program) (o : Option Fact) → [] ≡ flat_map (brief_of p) (modified_lines Full o)
modified_briefly p None = refl
modified_briefly p (Some f) = refl

step_briefly : (p : Program) (w : World) (step : Step) → step_lines Brief p w step ≡ flat_map (brief_of p) (step_lines Full p w step)
step_briefly p w (Insert ty entry fields) = refl
step_briefly p w (Modify id sets) = modified_briefly p (revision w.next_tag sets (found p w id.0))
step_briefly p w (Retract ty id) = refl
step_briefly p w (Advance by) = refl
step_briefly p w (At moment) = refl
step_briefly p w (Promise entry from) = refl
step_briefly p w Begin = refl

tries_briefly : (p : Program) (w : World) (step : Step) (fault : Option Code) → tries_with Brief p w step fault ≡ in_brief p (tries_with Full p w step fault)
tries_briefly p w step None = ap (λ (lines : List OutLine). (lines, stepped p w step)) (step_briefly p w step)
tries_briefly p w step (Some code) = refl

does_briefly : (p : Program) (w : World) (asked : Result Step Code) → does Brief p w asked ≡ in_brief p (does Full p w asked)
does_briefly p w (Err code) = refl
does_briefly p w (Ok step) = tries_briefly p w step (step_fault p w step)

pub gives_briefly : (p : Program) (w : World) (change : Change) → gives_in Brief p w change ≡ in_brief p (gives_in Full p w change)
unfolding gives_in
gives_briefly p w change = does_briefly p w (change_step p w.begun (found p w) change)

-- ---- one after the other

then_briefly : (p : Program) (done : List OutLine × World) (next other : World → List OutLine × World) → ((v : World) → next v ≡ in_brief p (other v))
    → then_does (in_brief p done) next ≡ in_brief p (then_does done other)
then_briefly p done next other h =
    ap (λ (z : List OutLine × World). (flat_map (brief_of p) done.0 ++ z.0, z.1)) (h done.1)
    ∙ ap (λ (lines : List OutLine). (lines, (other done.1).1)) (sym (flat_map-append (brief_of p) done.0 (other done.1).0))

all_briefly : (p : Program) (w : World) (plan : List (Result Step Code)) → does_all Brief p w plan ≡ in_brief p (does_all Full p w plan)
unfolding does_all
all_briefly p w [] = refl
all_briefly p w (one ∷ plan) =
    ap (λ (z : List OutLine × World). then_does z (λ next. does_all Brief p next plan)) (does_briefly p w one)
    ∙ then_briefly p (does Full p w one) (λ next. does_all Brief p next plan) (λ next. does_all Full p next plan) (λ v. all_briefly p v plan)

-- ---- firings

-- versions that are there have the names by which they are looked up
names_seen : (look : Tag → Option Fact) (names : List Named) → ((n : Named) → In n names → (f : Fact) × (look n.tag ≡ Some f) × (name_of f ≡ n))
    → map name_of (filter_map (λ (n : Named). look n.tag) names) ≡ names
names_seen look [] there = refl
names_seen look (n ∷ names) there =
    let first = there n (inl refl) in
    ap (λ (o : Option Fact). map name_of (cons_option o (filter_map (λ (n : Named). look n.tag) names))) first.1
    ∙ ap (λ (m : Named). m ∷ map name_of (filter_map (λ (n : Named). look n.tag) names)) first.2
    ∙ ap (λ (rest : List Named). n ∷ rest) (names_seen look names (λ m i. there m (inr i)))

module _ (p : Program) (w : World) (l : IsLawful p w) (m : Match) (is_pending : has_match (pending p w) m ≡ true) where
  is_match : has_match (matches p (snapshot w)) m ≡ true
  is_match = (and_parts (has_match (matches p (snapshot w)) m) (not (has_match w.fired m)) (sym (has_pending p w m) ∙ is_pending)).0

  seen_names : map name_of (seen (version_of (present p w)) m.row) ≡ m.row.facts
  seen_names =
      names_seen (version_of (present p w)) m.row.facts (λ n i.
      let g = named_present p w m is_match n i in
      (g.0, ap (λ (k : Named). version_of (present p w) k.tag) (sym g.2) ∙ version_in (present p w) g.0 (kept_lawful p w l).ordered.tags g.1, g.2))

  match_briefly : fires_match Brief p w m ≡ in_brief p (fires_match Full p w m)
  match_briefly =
      let plan = wanted (present p w) m.row (actions_of (slice_get p.rules m.rule.0)) in
      ap (λ (names : List Named). then_does (Fire m.rule (cells (conditions_of (slice_get p.rules m.rule.0)) names m.row.values) ∷ [], marked w m) (λ next. does_all Brief p next plan)) (sym seen_names)
      ∙ then_briefly p (fire_line Full p w m ∷ [], marked w m) (λ next. does_all Brief p next plan) (λ next. does_all Full p next plan) (λ v. all_briefly p v plan)

pub fires_briefly : (p : Program) (w : World) → IsLawful p w → fires_in Brief p w ≡ option_map (in_brief p) (fires_in Full p w)
unfolding fires_in
fires_briefly p w l = by (first_pending p w) refl
  where
    by : (o : Option Match) → first_pending p w ≡ o → fires_with Brief p w o ≡ option_map (in_brief p) (fires_with Full p w o)
    by None e = refl
    by (Some m) e = ap (λ (z : List OutLine × World). Some z) (match_briefly p w l m (first_is_pending p w m e))

-- ---- worlds

-- what is done leads to the same worlds, whatever the facts
all_alike : (p : Program) (w : World) (plan : List (Result Step Code)) → (does_all Brief p w plan).1 ≡ (does_all Full p w plan).1
all_alike p w plan = ap (λ (z : List OutLine × World). z.1) (all_briefly p w plan)

pub fires_alike : (p : Program) (w : World) → option_map (λ (f : List OutLine × World). f.1) (fires_in Brief p w) ≡ option_map (λ (f : List OutLine × World). f.1) (fires_in Full p w)
unfolding fires_in
fires_alike p w = by (first_pending p w)
  where
    by : (o : Option Match) → option_map (λ (f : List OutLine × World). f.1) (fires_with Brief p w o) ≡ option_map (λ (f : List OutLine × World). f.1) (fires_with Full p w o)
    by None = refl
    by (Some m) = ap (λ (z : World). Some z) (all_alike p (marked w m) (wanted (present p w) m.row (actions_of (slice_get p.rules m.rule.0))))
