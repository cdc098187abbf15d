-- Which matches of a world and of the next one name nothing that a session has forgotten.
use Rattle.session_model.proofs.Common.{◌≡◌, ◌∙◌, ◌≤◌, ◌<◌, ◌⊎◌, inl, inr, sym, ap, refl, subst, ℕ, ◌&&◌, ◌||◌, not, Bool, true, false, List, [], ◌∷◌}
use Rattle.session_model.proofs.Common.{slice_get, Option, Some, None, arith, list_any, In, Fact, facts_of, Named, Row, Match, Program, Rule, matches}
use Rattle.session_model.proofs.Common.{has_match, rows, Snapshot, name_of, of_filter, is_present, World, only_present, present, snapshot, below_of}
use Rattle.session_model.proofs.Common.{kept_matches, clean, clean_rows, has_clean, Lives, TagWorld, ends_by, each_tag, is_kept_tag, is_clean, fact_at}
use Rattle.session_model.proofs.Common.{sight_of, clean_is, fact_in, own_at, named_present, sight_law, Memory, Setting, over, matches_by, Contents, Standing}
use Rattle.session_model.proofs.{Common.{Whole, with_facts, reached_of}, Alike.{same_matches}, Exactly.{Exact, exact}, Members.{Holds, all_listed}}
use Rattle.{session_model.proofs.{Members.{held_distinct, listed, own_tags}, Newest.{holds}, Rules.{found_at, is_found}}, std.specs.Prelude.{is_some}}
use Rattle.forgetting_laws.specs.Sights.{is_forgotten_tag}
use Rattle.std.specs.FinMap as map

-- ---- matches

-- the matches by the clean rows of the rules are the clean matches
pub clean_matches : (p : Program) (s : Snapshot) (forgotten : Named → Bool) (q : Match)
    → has_match (matches_by (clean_rows p s forgotten) p.rules) q ≡ (has_match (matches p s) q && clean forgotten q.row)
clean_matches p s forgotten q =
    is_found (clean_rows p s forgotten) p.rules q ∙ by (slice_get p.rules q.rule.0)
    ∙ ap (λ b. b && clean forgotten q.row) (sym (is_found (λ (rule : Rule). rows p s rule.conditions) p.rules q))
  where
    by : (o : Option Rule) → found_at (clean_rows p s forgotten) o q.row ≡ (found_at (λ (rule : Rule). rows p s rule.conditions) o q.row && clean forgotten q.row)
    by None = refl
    by (Some rule) = ap (λ (set : Row → Bool). set q.row) (has_clean (rows p s rule.conditions) forgotten)

-- contents with all present facts have these, and the matches of the world
module _ (p : Program) (k : Contents) (w : World) (whole : Whole p k w) where
  pub whole_holds : Holds k.facts (present p w)
  whole_holds = holds p k (only_present p w) (exact p k w whole)

  pub whole_matches : (q : Match) → has_match (matches p (over (facts_of k.facts) k.clock (reached_of k))) q ≡ has_match (matches p (snapshot w)) q
  whole_matches q =
      let x : Exact p k (only_present p w) = exact p k w whole in
      let h : Holds k.facts (present p w) = whole_holds in
      same_matches p (over (facts_of k.facts) k.clock (reached_of k)) (snapshot (only_present p w)) (sym x.mirrors.clock) (sym x.mirrors.reached) (held_distinct k.facts (own_tags k.facts (present p w) h)) x.lawful.ordered.tags
      (listed k.facts (present p w) h) (all_listed k.facts (present p w) h) p.rules q
      ∙ ap (λ ms. has_match ms q) (kept_matches p w)

-- ---- names

any_same : (a b : Named → Bool) (ns : List Named) → ((n : Named) → In n ns → a n ≡ b n) → list_any a ns ≡ list_any b ns
any_same a b [] h = refl
any_same a b (n ∷ ns) h = ap (λ t. t || list_any a ns) (h n (inl refl)) ∙ ap (λ t. b n || t) (any_same a b ns (λ o i. h o (inr i)))

module _ (s : Setting) (m : Memory) (k : Contents) (w : World) (st : Standing s m k w) where
  abbrev lives : Lives
  lives = ends_by s.lives

  abbrev sight : TagWorld
  sight = sight_of s.program w

  abbrev forgotten : Named → Bool
  forgotten = st.seen.forgotten

  same_holds : Holds st.seen.all (present s.program w)
  same_holds = whole_holds s.program (with_facts k st.seen.all) w st.seen.whole

  -- a present fact is forgotten where the store lacks it
  fact_forgotten : (f : Fact) → In f (present s.program w) → is_forgotten_tag lives sight f.tag.0 ≡ forgotten (name_of f)
  fact_forgotten f i =
      ap (λ o. is_some o && not (is_kept_tag lives sight f.tag.0)) (own_at (present s.program w) (exact s.program (with_facts k st.seen.all) w st.seen.whole).lawful.ordered.tags f i)
      ∙ ap (λ o. not (is_some o)) (sym (st.holds.store f.tag.0)) ∙ sym (st.seen.are.known f.tag.0 f (same_holds.from f i))

  -- and so is none with a tag that none of the world has
  new_forgotten : (tag : ℕ) → k.next_tag ≤ tag → is_forgotten_tag lives sight tag ≡ false
  new_forgotten tag new = by (fact_at (present s.program w) tag) refl
    where
      by : (o : Option Fact) → fact_at (present s.program w) tag ≡ o → (is_some o && not (is_kept_tag lives sight tag)) ≡ false
      by None e = refl
      by (Some f) e =
          let i = fact_in (present s.program w) tag f e in
          let low : f.tag.0 < w.next_tag = below_of w.next_tag w.facts st.seen.whole.lawful.ordered.fresh f (of_filter (is_present s.program w.clock) f w.facts i.0) in
          let same : k.next_tag ≡ w.next_tag = st.seen.whole.mirrors.next_tag in
          let own : f.tag.0 ≡ tag = i.1 in
          absurd (omega (arith, low, same, own, new))

  new_unknown : (who : Named) → k.next_tag ≤ who.tag.0 → forgotten who ≡ false
  new_unknown who new = by (forgotten who) refl
    where
      by : (b : Bool) → forgotten who ≡ b → b ≡ false
      by false e = refl
      by true e = let low : who.tag.0 < k.next_tag = st.seen.are.below who e in absurd (omega (arith, low, new))

  -- a match of the world names nothing forgotten where its row is clean
  pub clean_was : (q : Match) → has_match (matches s.program (snapshot w)) q ≡ true → is_clean lives sight q ≡ clean forgotten q.row
  clean_was q is =
      ap not (any_same (λ (n : Named). is_forgotten_tag lives sight n.tag.0) forgotten q.row.facts (λ n i.
      let g = named_present s.program w q is n i in
      subst (λ (n : Named). is_forgotten_tag lives sight n.tag.0 ≡ forgotten n) g.2 (fact_forgotten g.0 g.1)))

  -- nor where it names kept facts alone
  pub clean_kept : (q : Match) → has_match (matches s.program (snapshot w)) q ≡ true → is_clean lives sight q ≡ each_tag (is_kept_tag lives sight) q
  clean_kept q is = clean_is (λ tag. is_some (fact_at (present s.program w) tag)) (is_kept_tag lives sight) q.row.facts ((sight_law s.program w st.seen.whole.lawful.ordered).names q is)

  -- so does a match of a world whose facts were there or are new
  module _ (next : World) (t : Contents) (whole : Whole s.program t next) (later : (tag : ℕ) (f : Fact) → map.get t.facts tag ≡ Some f → (map.get st.seen.all tag ≡ Some f) ⊎ (k.next_tag ≤ tag)) where
    next_forgotten : (f : Fact) → In f (present s.program next) → is_forgotten_tag lives sight f.tag.0 ≡ forgotten (name_of f)
    next_forgotten f i = elim (later f.tag.0 f ((whole_holds s.program t next whole).from f i)) [
      | inl was ↦ fact_forgotten f (same_holds.to f.tag.0 f was).0
      | inr new ↦ new_forgotten f.tag.0 new ∙ sym (new_unknown (name_of f) new)
    ]

    pub clean_next : (q : Match) → has_match (matches s.program (snapshot next)) q ≡ true → is_clean lives sight q ≡ clean forgotten q.row
    clean_next q is =
        ap not (any_same (λ (n : Named). is_forgotten_tag lives sight n.tag.0) forgotten q.row.facts (λ n i.
        let g = named_present s.program next q is n i in
        subst (λ (n : Named). is_forgotten_tag lives sight n.tag.0 ≡ forgotten n) g.2 (next_forgotten g.0 g.1)))
