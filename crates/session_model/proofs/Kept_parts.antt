-- What a session that is made from the image of a world holds is exactly what is kept of that world.
use Rattle.session_model.proofs.Common.{◌≡◌, ◌↔◌, ◌∙◌, ◌&&◌, not, ℕ, Bool, true, false, cond, is_some, List, [], length, Option, Some, None, refl, sym, ap}
use Rattle.session_model.proofs.Common.{subst, arith, take_all, In, Fact, Row, Image, Timers, HeldFacts, LifeTable, Match, Program, Rule, HaveDistinctTags}
use Rattle.session_model.proofs.Common.{matches, has_match, rows, IsLawful, World, snapshot, pending, distinct_filtered, has_pending, AreSafe, clean, cleaned}
use Rattle.session_model.proofs.Common.{rows_of, kept_facts, is_forgotten, kept_listed, has_fired, snapshot_of, IsImageOf, AreOwners, image_kept, Marks}
use Rattle.session_model.proofs.Common.{names_tag, Retention, is_tag_among, is_named, PassesLives, Ends, Covers, Watches, past_law, Lives, TagWorld, HoldsKept}
use Rattle.session_model.proofs.Common.{ends_by, ends_of, only, is_kept_tag, is_needed, each_tag, fact_at, sight_of, same_clean, same_kept, pending_kept}
use Rattle.session_model.proofs.Common.{any_alike, clean_is, at_filter, fact_in, own_at, sight_law, stored, AreHeld, AreMarked, laden_by, is_laden}
use Rattle.std.{proofs.lemmas.Bool.{and_from}, specs.Prelude.{◌≤◌, slice_get}}
use Rattle.std.specs.FinMap as map_of
use Rattle.{kept_meaning.specs.Kept.{is_kept as is_kept_in}, laden_rows.proofs.Rows.{laden_rows}, retention.specs.Watching.{without}}
use Rattle.{retention.proofs.Calls.{same_watched}, forgetting_laws.specs.Sights.{IsSoundSight as IsLawfulSight}, session_model.proofs.Members.{Holds}}
use Rattle.{session_model.proofs.{Rules.{found_at, is_found}, Storing.{stored_holds}}, fx_base.proofs.Tests.{and_where}}

-- a match that is not fired names what is kept alone
pending_bits : (m f c : Bool) → (m ≡ true → f ≡ false → c ≡ true) → ((m && c) && not (f && c)) ≡ (m && not f)
pending_bits false f c h = refl
pending_bits true true true h = refl
pending_bits true true false h = refl
pending_bits true false c h = ap (λ b. b && true) (h refl refl)

module _ (p : Program) (table : LifeTable) (w : World) (safe : AreSafe p table) (l : IsLawful p w) where
  abbrev lives : Lives
  lives = ends_by table

  abbrev sight : TagWorld
  sight = sight_of p w

  -- ---- the matches of the world

  lawful_sight : IsLawfulSight sight
  lawful_sight = sight_law p w l.ordered

  abbrev is_match : Match → Bool
  is_match m = has_match (matches p (snapshot w)) m

  abbrev is_clean_row : Match → Bool
  is_clean_row m = clean (is_forgotten p table w) m.row

  -- a match names what is kept alone where its row is clean
  pub kept_each : (m : Match) → is_match m ≡ true → is_clean_row m ≡ each_tag (is_kept_tag lives sight) m
  kept_each m matched = sym (same_clean p table w safe l.ordered m matched) ∙ clean_is (λ tag. is_some (sight.facts tag)) (is_kept_tag lives sight) m.row.facts (lawful_sight.names m matched)

  clean_pending : (m : Match) → is_match m ≡ true → has_match w.fired m ≡ false → is_clean_row m ≡ true
  clean_pending m matched unfired =
      kept_each m matched
      ∙ pending_kept lives sight lawful_sight m (has_pending p w m ∙ and_from (is_match m) (not (has_match w.fired m)) matched (ap not unfired))

module _ (p : Program) (table : LifeTable) (w : World) (image : Image) (safe : AreSafe p table) (l : IsLawful p w) (is : IsImageOf p table w image) (once : HaveDistinctTags image.facts) where
  abbrev lives_by : Lives
  lives_by = ends_by table

  abbrev seen_as : TagWorld
  seen_as = sight_of p w

  abbrev matches_world : Match → Bool
  matches_world m = has_match (matches p (snapshot w)) m

  abbrev names_kept : Match → Bool
  names_kept m = clean (is_forgotten p table w) m.row

  abbrev store : HeldFacts
  store = stored image.facts

  abbrev kept_list : List Fact
  kept_list = kept_facts p table w

  -- ---- the facts

  pub image_holds : Holds store image.facts
  image_holds = stored_holds image.facts once

  listed : (f : Fact) → In f image.facts ↔ In f kept_list
  listed f = (λ i. (kept_listed p table w safe f).1 ((is.facts f).0 i), λ i. (is.facts f).1 ((kept_listed p table w safe f).0 i))

  kept_once : HaveDistinctTags kept_list
  kept_once = distinct_filtered (is_kept_in p table w) w.facts l.ordered.tags

  pub store_is : (tag : ℕ) → map_of.get store tag ≡ only (is_kept_in p table w) (fact_at w.facts tag)
  store_is tag = by (map_of.get store tag) (fact_at kept_list tag) refl refl ∙ at_filter (is_kept_in p table w) w.facts tag l.ordered.tags
    where
      by : (a b : Option Fact) → map_of.get store tag ≡ a → fact_at kept_list tag ≡ b → map_of.get store tag ≡ fact_at kept_list tag
      by (Some g) b e v =
          let i = image_holds.to tag g e in
          e ∙ sym (own_at kept_list kept_once g ((listed g).0 i.0)) ∙ ap (fact_at kept_list) i.1
      by None (Some g) e v =
          let i = fact_in kept_list tag g v in
          ap (map_of.get store) (sym i.1) ∙ image_holds.from g ((listed g).1 i.0) ∙ sym v
      by None None e v = e ∙ sym v

  module _ (owners : ℕ → ℕ → ℕ) (own : AreOwners p owners) where
    abbrev rows_in : Rule → List Row
    rows_in rule = rows p (snapshot w) rule.conditions

    pub laden_is : (m : Match) → is_laden p image owners m ≡ (matches_world m && names_kept m)
    laden_is m = by (slice_get p.rules m.rule.0) refl
      where
        by : (o : Option Rule) → slice_get p.rules m.rule.0 ≡ o → laden_by p image owners o m ≡ (matches_world m && names_kept m)
        by None e = ap (λ b. b && names_kept m) (sym (is_found rows_in p.rules m ∙ ap (λ o. found_at rows_in o m.row) e))
        by (Some rule) e =
            let n : length rule.conditions ≤ length rule.conditions = omega arith in
            laden_rows p (snapshot w) (snapshot_of image) (is_forgotten p table w) image.extras owners l.ordered.tags (image_kept p table w image safe l is) is.extras own m.rule.0 rule e (length rule.conditions) m.row
            ∙ ap (λ cs. cleaned (rows_of p (snapshot w) cs) (is_forgotten p table w) m.row) (take_all (length rule.conditions) rule.conditions n)
            ∙ ap (λ b. b && names_kept m) (sym (is_found rows_in p.rules m ∙ ap (λ o. found_at rows_in o m.row) e))

    module _ (marks : Marks) (are : AreMarked (is_laden p image owners) image.fired marks) where
      pub pending_is : (m : Match) → has_match marks.pending m ≡ has_match (pending p w) m
      pending_is m =
          are.pending m
          ∙ ap (λ b. b && not (has_fired image m)) (laden_is m)
          ∙ ap (λ b. (matches_world m && names_kept m) && not b) (is.fired m)
          ∙ pending_bits (matches_world m) (has_match w.fired m) (names_kept m) (clean_pending p table w safe l m)
          ∙ sym (has_pending p w m)

      fired_is : (m : Match) → has_match marks.fired m ≡ (has_match w.fired m && each_tag (is_kept_tag lives_by seen_as) m)
      fired_is m = are.fired m ∙ is.fired m ∙ and_where (has_match w.fired m) (names_kept m) (each_tag (is_kept_tag lives_by seen_as) m) (λ f. kept_each p table w safe l m (l.ordered.fired m f))

      -- ---- the ends of lives

      module _ (expiries : Timers) (before after : Retention) (old : ℕ → Bool) (held : AreHeld p table store expiries before) (passes : PassesLives image.clock (is_tag_among []) (is_named marks) before after old)
          (none : (tag : ℕ) → old tag ≡ false) where
        abbrev ends : Ends
        ends = ends_of lives_by (map_of.get store)

        covers : Covers ends image.clock before
        covers = record {
          due = λ tag. held.ends tag ∙ ap (λ b. cond b None (ends tag)) (sym (held.none tag));
          past = λ tag e. absurd (let no : false ≡ true = sym (held.none tag) ∙ e in cc);
        }

        watched : Watches ends image.clock (is_needed seen_as) after
        watched =
            same_watched (without ends old) ends image.clock (is_named marks) (is_needed seen_as) after (λ tag. ap (λ b. cond b None (ends tag)) (none tag))
            (λ tag. any_alike (names_tag tag) marks.pending (pending p w) pending_is)
            (past_law ends image.clock (is_tag_among []) (is_named marks) before after old covers (λ tag e. absurd (let no : false ≡ true = sym (held.none tag) ∙ e in cc)) passes).1

        pub holds_kept_parts : HoldsKept lives_by seen_as (record { store = map_of.get store; retention = after; agenda = marks })
        holds_kept_parts = record {
          store = λ tag. store_is tag ∙ sym (same_kept p table w safe l.ordered tag);
          watched = subst (λ clock. Watches ends clock (is_needed seen_as) after) is.clock watched;
          pending = pending_is;
          fired = fired_is;
        }
