-- What a session forgets in the second phase of a step, and that it stands for the world then.
use Rattle.session_model.proofs.Common.{◌≡◌, ◌∙◌, sym, ap, refl, subst, inl, inr, ℕ, ℤ, ◌<◌, ◌==◌, ◌&&◌, ◌||◌, not, Bool, true, false, List, [], ◌∷◌, length}
use Rattle.session_model.proofs.Common.{filter_map, nat_eq, slice_get, Option, Some, None, if◌then◌else◌, arith, find, list_any, In, Fact, Tag, Timers}
use Rattle.session_model.proofs.Common.{HeldFacts, facts_of, Named, Row, has, Match, Program, Rule, HaveDistinctTags, matches, has_match, Snapshot, name_of}
use Rattle.session_model.proofs.Common.{or_split, World, snapshot, only_present, below_of, kept_matches, Look, has_name, clean, either, HasAllOf, rows_of}
use Rattle.session_model.proofs.Common.{tuple_of_row, made_facts, Marks, Retention, has_listed_tag, is_named, PassesLives, RuleRows, Rete, AreDropped, rows_for}
use Rattle.session_model.proofs.Common.{NetStands, some_tag, some_in, drop_law, Memory, Setting, IsSafe, over, rows_at, Awaits, Contents, Seen, Standing}
use Rattle.session_model.{proofs.{Common.{holding, with_facts, reached_of, HaveOwnTags, fact_left_at}, Alike.{same_matches}}, specs.Gives.{version_of}}
use Rattle.session_model.proofs.{Exactly.{Exact, exact}, Leads.{at_own}, Members.{Holds, all_listed, held_distinct, listed, own_tags, version_found}}
use Rattle.session_model.proofs.{Newest.{holds}, Olds.{named_at, named_old, old_held, some_old}, Rules.{found_at, is_found}, Stands.{contents}}
use Rattle.{std.{proofs.{lemmas.Bool.{not-true, or_left}, Common.{map as list_map}}, specs.Option.{is_some}}, rule_model.specs.Lent.{Holds as AreHeld}}
use Rattle.condition_rows.specs.Sets.{held}
use Rattle.std.specs.FinMap as map

-- ---- names and lists

-- the version of a snapshot with a tag
pub same_version : (facts : List Fact) (tag : Tag) → find (λ (f : Fact). f.tag.0 == tag.0) facts ≡ version_of facts tag
unfolding version_of
same_version [] tag = refl
same_version (f ∷ facts) tag = ap (λ o. if f.tag.0 == tag.0 then Some f else o) (same_version facts tag)

-- where some test holds of no member it does not hold of one
free_in : (test : Named → Bool) (names : List Named) (n : Named) → In n names → list_any test names ≡ false → test n ≡ false
free_in test names n i none = by (test n) refl
  where
    by : (b : Bool) → test n ≡ b → b ≡ false
    by false e = refl
    by true e = absurd (let no : true ≡ false = sym (some_in test n names i e) ∙ none in cc)

-- what is named is held
each_held : (look : Look) (facts : List Fact) → AreHeld look facts → (n : Named) → In n (list_map name_of facts) → (f : Fact) × (look f.tag ≡ Some f) × (name_of f ≡ n)
each_held look [] h n i = absurd i
each_held look (f ∷ facts) h n (inl e) = (f, h.0, sym e)
each_held look (f ∷ facts) h n (inr i) = each_held look facts h.1 n i

both_hold : (a b x : Bool) → a ≡ true → b ≡ true → ((a && b) && not (not x)) ≡ x
both_hold true true true e h = refl
both_hold true true false e h = refl
both_hold true false x e h = absurd (let n : false ≡ true = h in cc)
both_hold false b x e h = absurd (let n : false ≡ true = e in cc)

-- no keys, where their count says so
pub no_keys : (keys : List ℕ) → length keys ≡ 0 → keys ≡ []
no_keys [] e = refl
no_keys (key ∷ keys) e = absurd (omega (arith, e))

-- parts with fewer facts keep to the same
pub safe_fewer : (facts fewer : HeldFacts) (timers : Timers) (clock : ℤ) (id tag : ℕ) (gone : List ℕ) → IsSafe facts timers clock id tag → ((t : ℕ) → map.get fewer t ≡ fact_left_at facts gone t) → IsSafe fewer timers clock id tag
safe_fewer facts fewer timers clock id tag gone safe less = record {
  fresh = λ t le. less t ∙ by (list_any (nat_eq t) gone) (map.get facts t) (safe.fresh t le);
  untimed = safe.untimed;
  ids = safe.ids;
  clock_low = safe.clock_low;
  clock_high = safe.clock_high;
}
  where
    by : (b : Bool) (o : Option Fact) → o ≡ None → (if b then None else o) ≡ None
    by true o e = refl
    by false o e = e

-- ---- what is seen of a world

module _ (p : Program) (net : Rete) (k : Contents) (w : World) (seen : Seen p net k w) where
  abbrev s : Snapshot
  s = over (facts_of seen.all) k.clock (reached_of k)

  all_exact : Exact p (with_facts k seen.all) (only_present p w)
  all_exact = exact p (with_facts k seen.all) w seen.whole

  all_holds : Holds seen.all (only_present p w).facts
  all_holds = holds p (with_facts k seen.all) (only_present p w) all_exact

  own_all : HaveOwnTags seen.all
  own_all = own_tags seen.all (only_present p w).facts all_holds

  own_store : HaveOwnTags k.facts
  own_store tag f e = own_all tag f (seen.are.held tag f e)

  distinct : HaveDistinctTags (facts_of seen.all)
  distinct = held_distinct seen.all own_all

  -- what is not forgotten is in the store
  in_store : (f : Fact) → map.get seen.all f.tag.0 ≡ Some f → seen.forgotten (name_of f) ≡ false → map.get k.facts f.tag.0 ≡ Some f
  in_store f there known = by (map.get k.facts f.tag.0) refl
    where
      by : (o : Option Fact) → map.get k.facts f.tag.0 ≡ o → o ≡ Some f
      by None e = absurd (let no : true ≡ false = sym (seen.are.known f.tag.0 f there ∙ ap (λ o. not (is_some o)) e) ∙ known in cc)
      by (Some g) e = sym (seen.are.held f.tag.0 g e) ∙ there

  pub has_all : HasAllOf (λ tag. map.get k.facts tag.0) s seen.forgotten
  unfolding held
  has_all tag f e known =
      let r = version_found (facts_of seen.all) f tag (sym (same_version (facts_of seen.all) tag) ∙ e) in
      ap (map.get k.facts) (sym r.1) ∙ in_store f (at_own seen.all own_all f r.0) known

  -- the snapshot has the matches of the world
  world_matches : (q : Match) → has_match (matches p s) q ≡ has_match (matches p (snapshot w)) q
  world_matches q =
      same_matches p s (snapshot (only_present p w)) (sym seen.whole.mirrors.clock) (sym seen.whole.mirrors.reached) distinct all_exact.lawful.ordered.tags (listed seen.all (only_present p w).facts all_holds) (all_listed seen.all (only_present p w).facts all_holds) p.rules q
      ∙ ap (λ ms. has_match ms q) (kept_matches p w)

  -- a row that names nothing forgotten names facts of the store
  named_there : (rule : Rule) (row : Row) → rows_of p s rule.conditions row ≡ true → clean seen.forgotten row ≡ true → (n : Named) → In n row.facts → (f : Fact) × (map.get k.facts f.tag.0 ≡ Some f) × (name_of f ≡ n)
  named_there rule row is free n i =
      let t = tuple_of_row p s rule.conditions row is in
      let g = each_held (held s) t.0.facts (made_facts p s distinct rule.conditions t.0 t.1) n (subst (λ (r : Row). In n r.facts) (sym t.2) i) in
      (g.0, has_all g.0.tag g.0 g.1 (ap seen.forgotten g.2 ∙ free_in seen.forgotten row.facts n i (not-true (list_any seen.forgotten row.facts) free)), g.2)

  module _ (old : ℕ → Bool) (tags : List ℕ) (is : (tag : ℕ) → list_any (nat_eq tag) tags ≡ old tag) where
    -- the names of what is old
    abbrev named : Named → Bool
    named = has_name (filter_map (named_at k.facts) tags)

    -- of a match that names nothing forgotten the row is dropped where it names something old
    pub drops_old : (answers : List RuleRows) → AreDropped p s seen.forgotten named answers → (q : Match) → has_match (matches p (snapshot w)) q ≡ true → clean seen.forgotten q.row ≡ true
        → has (rows_for answers q.rule.0) q.row ≡ some_tag old q
    drops_old answers dropped q matched free = by (slice_get p.rules q.rule.0) refl
      where
        found : found_at (rows_at p (facts_of seen.all) k.clock (reached_of k)) (slice_get p.rules q.rule.0) q.row ≡ true
        found = sym (is_found (rows_at p (facts_of seen.all) k.clock (reached_of k)) p.rules q) ∙ world_matches q ∙ matched

        by : (o : Option Rule) → slice_get p.rules q.rule.0 ≡ o → has (rows_for answers q.rule.0) q.row ≡ some_tag old q
        by None e = absurd (let no : false ≡ true = ap (λ o. found_at (rows_at p (facts_of seen.all) k.clock (reached_of k)) o q.row) (sym e) ∙ found in cc)
        by (Some rule) e =
            let there : rows_of p s rule.conditions q.row ≡ true = ap (λ o. found_at (rows_at p (facts_of seen.all) k.clock (reached_of k)) o q.row) (sym e) ∙ found in
            (dropped q.rule.0 rule e).exact q.row
            ∙ both_hold (rows_of p s rule.conditions q.row) (clean seen.forgotten q.row) (list_any named q.row.facts) there free
            ∙ some_old k.facts own_store old tags is q.row.facts (named_there rule q.row there free)

    module _ (facts : HeldFacts) (b : Marks) (less : (tag : ℕ) → map.get facts tag ≡ fact_left_at k.facts tags tag) where
      abbrev t : Contents
      t = contents facts k.expiries k.clock k.course b k.next_id k.next_tag

      still_held : (tag : ℕ) (f : Fact) → map.get facts tag ≡ Some f → map.get k.facts tag ≡ Some f
      still_held tag f e = by (list_any (nat_eq tag) tags) (sym (less tag) ∙ e)
        where
          by : (c : Bool) → (if c then None else map.get k.facts tag) ≡ Some f → map.get k.facts tag ≡ Some f
          by true n = absurd (let no : None ≡ Some f = n in cc)
          by false n = n

      known_now : (tag : ℕ) (f : Fact) → map.get seen.all tag ≡ Some f → either seen.forgotten named (name_of f) ≡ not (is_some (map.get facts tag))
      known_now tag f e = by (map.get k.facts tag) refl ∙ sym (ap (λ o. not (is_some o)) (less tag))
        where
          at : f.tag.0 ≡ tag
          at = own_all tag f e

          nothing : Option Fact
          nothing = None

          none : (c : Bool) → true ≡ not (is_some (if c then None else nothing))
          none true = refl
          none false = refl

          some : (c : Bool) (g : Fact) → c ≡ not (is_some (if c then None else Some g))
          some true g = refl
          some false g = refl

          by : (o : Option Fact) → map.get k.facts tag ≡ o → either seen.forgotten named (name_of f) ≡ not (is_some (if list_any (nat_eq tag) tags then None else map.get k.facts tag))
          by None n =
              or_left (seen.forgotten (name_of f)) (named (name_of f)) (seen.are.known tag f e ∙ ap (λ o. not (is_some o)) n)
              ∙ none (list_any (nat_eq tag) tags) ∙ ap (λ (o : Option Fact). not (is_some (if list_any (nat_eq tag) tags then None else o))) (sym n)
          by (Some g) n =
              let same : Some g ≡ Some f = sym (seen.are.held tag g n) ∙ e in
              let here : map.get k.facts f.tag.0 ≡ Some f = ap (map.get k.facts) at ∙ n ∙ same in
              ap (λ c. c || named (name_of f)) (seen.are.known tag f e ∙ ap (λ o. not (is_some o)) n)
              ∙ named_old k.facts own_store f here tags ∙ ap (λ n. list_any (nat_eq n) tags) at
              ∙ some (list_any (nat_eq tag) tags) g ∙ ap (λ (o : Option Fact). not (is_some (if list_any (nat_eq tag) tags then None else o))) (sym n)

      below_next : (who : Named) → either seen.forgotten named who ≡ true → who.tag.0 < k.next_tag
      below_next who e = elim (or_split (seen.forgotten who) (named who) e) [
        | inl h ↦ seen.are.below who h
        | inr h ↦ (
            let f = old_held k.facts own_store who tags h in
            let i = all_holds.to f.0.tag.0 f.0 (seen.are.held f.0.tag.0 f.0 f.1) in
            let low : f.0.tag.0 < w.next_tag = below_of w.next_tag (only_present p w).facts all_exact.lawful.ordered.fresh f.0 i.0 in
            let same : f.0.tag.0 ≡ who.tag.0 = ap (λ (n : Named). n.tag.0) f.2 in
            let next : k.next_tag ≡ w.next_tag = seen.whole.mirrors.next_tag in
            omega (arith, low, same, next))
      ]

      -- what is old is forgotten too
      pub sees_less : (after : Rete) → NetStands p after s (either seen.forgotten named) → b.saliences ≡ k.agenda.saliences → Seen p after t w
      sees_less after stands same = record {
        all = seen.all;
        whole = record {
          lawful = seen.whole.lawful;
          mirrors = record {
            facts = seen.whole.mirrors.facts;
            waits = seen.whole.mirrors.waits;
            clock = seen.whole.mirrors.clock;
            reached = seen.whole.mirrors.reached;
            begun = seen.whole.mirrors.begun;
            next_id = seen.whole.mirrors.next_id;
            next_tag = seen.whole.mirrors.next_tag;
          };
        };
        forgotten = either seen.forgotten named;
        are = record {
          held = λ tag f e. seen.are.held tag f (still_held tag f e);
          known = known_now;
          below = below_next;
        };
        stands = stands;
        saliences = same ∙ seen.saliences;
      }

-- ---- the second phase

module _ (s : Setting) (m : Memory) (k : Contents) (left : ℕ → Bool) (w : World) (a : Awaits s m k left w) where
  passes_there : (r : Retention) (old : ℕ → Bool) → PassesLives k.clock left (is_named k.agenda) m.retention r old → PassesLives w.clock left (is_named k.agenda) m.retention r old
  passes_there r old = subst (λ clock. PassesLives clock left (is_named k.agenda) m.retention r old) a.seen.whole.mirrors.clock

  -- where nothing is old
  pub stands_same : (r : Retention) (old : List ℕ) → old ≡ [] → PassesLives k.clock left (is_named k.agenda) m.retention r (has_listed_tag old) → Standing s (record { net = m.net; retention = r }) k w
  stands_same r [] none passes = record {
    seen = a.seen;
    holds =
        a.finishes (holding k r) (has_listed_tag []) (record {
          told = passes_there r (has_listed_tag []) passes;
          store = λ tag. refl;
          pending = λ q. refl;
          fired = λ q. nothing_old (has_match k.agenda.fired q) q.row.facts;
        });
  }
    where
      nothing_old : (f : Bool) (names : List Named) → f ≡ (f && not (list_any (λ (n : Named). has_listed_tag [] n.tag.0) names))
      nothing_old true [] = refl
      nothing_old false names = refl
      nothing_old true (n ∷ names) = nothing_old true names
  stands_same r (x ∷ old) none passes = absurd cc

  -- where something is
  pub stands_less : (net : Rete) (r : Retention) (facts : HeldFacts) (b : Marks) (old tags : List ℕ) (names : List Named) (answers : List RuleRows)
      → PassesLives k.clock left (is_named k.agenda) m.retention r (has_listed_tag old) → ((tag : ℕ) → list_any (nat_eq tag) tags ≡ has_listed_tag old tag)
      → names ≡ filter_map (named_at k.facts) tags
      → ((v : Snapshot) (forgotten : Named → Bool) → NetStands s.program m.net v forgotten → HasAllOf (λ tag. map.get k.facts tag.0) v forgotten → NetStands s.program net v (either forgotten (has_name names)))
      → ((v : Snapshot) (forgotten : Named → Bool) → NetStands s.program m.net v forgotten → HasAllOf (λ tag. map.get k.facts tag.0) v forgotten → AreDropped s.program v forgotten (has_name names) answers)
      → ((tag : ℕ) → map.get facts tag ≡ fact_left_at k.facts tags tag)
      → b.saliences ≡ k.agenda.saliences → b.pending ≡ k.agenda.pending
      → ((q : Match) → has_match b.fired q ≡ (has_match k.agenda.fired q && not (has (rows_for answers q.rule.0) q.row)))
      → Standing s (record { net = net; retention = r }) (contents facts k.expiries k.clock k.course b k.next_id k.next_tag) w
  stands_less net r facts b old tags names answers passes is names_are stands dropped less saliences pending fired =
      let p = s.program in
      let v = over (facts_of a.seen.all) k.clock (reached_of k) in
      let at_hand = has_all p m.net k w a.seen in
      record {
        seen =
            sees_less p m.net k w a.seen (has_listed_tag old) tags is facts b less net
            (subst (λ (ns : List Named). NetStands p net v (either a.seen.forgotten (has_name ns))) names_are (stands v a.seen.forgotten a.seen.stands at_hand)) saliences;
        holds =
            a.finishes (holding (contents facts k.expiries k.clock k.course b k.next_id k.next_tag) r) (has_listed_tag old) (record {
              told = passes_there r (has_listed_tag old) passes;
              store = λ tag. less tag ∙ ap (λ c. if c then None else map.get k.facts tag) (is tag);
              pending = λ q. ap (λ ms. has_match ms q) pending;
              fired =
                  drop_law k.agenda b (has_listed_tag old) (λ q. has (rows_for answers q.rule.0) q.row) fired
                  (λ q e.
                  drops_old p m.net k w a.seen (has_listed_tag old) tags is answers
                  (subst (λ (ns : List Named). AreDropped p v a.seen.forgotten (has_name ns) answers) names_are (dropped v a.seen.forgotten a.seen.stands at_hand)) q (a.fired q e).0 (a.fired q e).1);
            });
      }
