-- What a session answers in the worlds for which it stands, and the session that stands for the empty world.
use Rattle.session_model.proofs.Common.{◌≡◌, ℕ, ℤ, pos, ◌&&◌, inl, refl, not, true, false, slice_get, List, [], ◌∷◌, Option, Some, None, is_some, Result, sym}
use Rattle.session_model.proofs.Common.{◌∙◌, ap, subst, get-empty, nat_cmp, In, Fact, Timers, HeldFacts, facts_of, from_list, Match, Rule, Step, has_match}
use Rattle.session_model.proofs.Common.{saliences, Code, World, empty_world, found, empty_lawful, has_pending, Marks, no_names, empty_snapshot, NetStands}
use Rattle.session_model.proofs.Common.{lingers, ends_by, sight_of, start_law, Change, change_step, OutLine, No, Yes, FiringAnswers, Memory, Setting, does}
use Rattle.session_model.proofs.Common.{FitsWorld, StandsAfter, WritesFor, newest, rows_at, no_rule_rows, matches_by, over, IsRefreshed, Contents, Runs}
use Rattle.session_model.{proofs.Common.{Standing, expiry_at, holding, Course, nothing_reached}, specs.Gives.{version_of, fires_in, gives_in}}
use Rattle.session_model.proofs.{Asking.{change_fits, same_asked}, Firings.{FiresInto, WritesFiring, line_of, top_of, plan_of, due_fires, no_fire, yes_fire}}
use Rattle.session_model.proofs.{Rules.{found_at, is_found}, Stands.{contents}}
use Rattle.std.specs.FinMap as map_of

-- ---- over no facts

no_match : (rules : List Rule) (m : Match) → has_match (matches_by no_rule_rows rules) m ≡ false
no_match rules m = is_found no_rule_rows rules m ∙ by (slice_get rules m.rule.0)
  where
    by : (o : Option Rule) → found_at no_rule_rows o m.row ≡ false
    by None = refl
    by (Some rule) = refl

no_member : (facts : List Fact) → ((f : Fact) → In f facts → ⊥) → facts ≡ []
no_member [] h = refl
no_member (f ∷ facts) h = absurd (h f (inl refl))

abbrev nothing : HeldFacts
nothing = map_of.empty

none_there : (tag : ℕ) (f : Fact) → map_of.get nothing tag ≡ Some f → ⊥
none_there tag f e = let n : None ≡ Some f = sym (get-empty nat_cmp tag) ∙ e in cc

none_held : facts_of nothing ≡ []
none_held = no_member (facts_of nothing) (λ f i. let r = from_list nothing f i in none_there r.0 f r.1)

abbrev pub start : Marks → Contents
start a = contents map_of.empty map_of.empty (pos 0) (record { last_starts = []; promises = []; begun = false }) a 1 1

abbrev pub blank : List Rule → Marks
blank rules = record { saliences = saliences rules; pending = []; fired = [] }

-- A session that has nothing, with the network of its program over no facts, stands for the empty world.
module _ (s : Setting) (m : Memory) (b : Marks) (net : NetStands s.program m.net empty_snapshot no_names) (r : IsRefreshed s.program.rules no_rule_rows (rows_at s.program [] (pos 0) nothing_reached) (blank s.program.rules) b)
    (due : m.retention.due ≡ map_of.empty) (lingering : (tag : ℕ) → lingers m.retention tag ≡ false) where
  start_stands : Standing s m (start b) empty_world
  unfolding version_of
  start_stands = record {
    seen = record {
      all = map_of.empty;
      whole = record {
        lawful = empty_lawful s.program;
        mirrors = record {
          facts = λ tag. get-empty nat_cmp tag;
          waits = λ tag. get-empty nat_cmp tag ∙ sym (ap (expiry_at s.program) (get-empty nat_cmp tag));
          clock = refl;
          reached = refl;
          begun = refl;
          next_id = refl;
          next_tag = refl;
        };
      };
      forgotten = no_names;
      are = record {
        held = λ tag f e. e;
        known = λ tag f e. absurd (none_there tag f e);
        below = λ who e. absurd (let n : false ≡ true = e in cc);
      };
      stands = subst (λ facts. NetStands s.program m.net (over facts (pos 0) nothing_reached) no_names) (sym none_held) net;
      saliences = r.saliences;
    };
    holds =
        start_law (ends_by s.lives) (sight_of s.program empty_world) (holding (start b) m.retention) (λ tag. refl) (λ q. refl) (λ tag. get-empty nat_cmp tag) due lingering
        (λ q. r.pending q ∙ ap (λ z. has_match (matches_by (rows_at s.program [] (pos 0) nothing_reached) s.program.rules) q && not z) (no_match s.program.rules q)
        ∙ sym (has_pending s.program empty_world q))
        (λ q. r.fired q);
  }

pub empty_stands : (s x : Setting) (m : Memory) (k : Contents) (a b : Marks) → x ≡ s → a ≡ blank s.program.rules → NetStands s.program m.net empty_snapshot no_names
    → IsRefreshed s.program.rules no_rule_rows (rows_at s.program [] (pos 0) nothing_reached) a b → m.retention.due ≡ map_of.empty → ((tag : ℕ) → lingers m.retention tag ≡ false) → k ≡ start b
    → Standing x m k empty_world
empty_stands s x m k a b same is net r due lingering e =
    subst (λ (z : Setting). Standing z m k empty_world) (sym same)
    (subst (λ (z : Contents). Standing s m z empty_world) (sym e)
    (start_stands s m b net (subst (λ (z : Marks). IsRefreshed s.program.rules no_rule_rows (rows_at s.program [] (pos 0) nothing_reached) z b) is r) due lingering))

pub from_parts : (k : Contents) (facts : HeldFacts) (expiries : Timers) (clock : ℤ) (course : Course) (a : Marks) (id tag : ℕ) → k.facts ≡ facts → k.expiries ≡ expiries → k.clock ≡ clock → k.course ≡ course → k.agenda ≡ a → k.next_id ≡ id → k.next_tag ≡ tag
    → k ≡ contents facts expiries clock course a id tag
from_parts k facts expiries clock course a id tag f e c s h i t =
    ap (λ z. contents z k.expiries k.clock k.course k.agenda k.next_id k.next_tag) f ∙ ap (λ z. contents facts z k.clock k.course k.agenda k.next_id k.next_tag) e
    ∙ ap (λ z. contents facts expiries z k.course k.agenda k.next_id k.next_tag) c
    ∙ ap (λ z. contents facts expiries clock z k.agenda k.next_id k.next_tag) s ∙ ap (λ z. contents facts expiries clock course z k.next_id k.next_tag) h
    ∙ ap (λ z. contents facts expiries clock course a z k.next_tag) i ∙ ap (contents facts expiries clock course a id) t

-- ---- answers

module _ (s : Setting) (m : Memory) (k : Contents) where
  module _ (runs : Runs s) (change : Change) (asked : Result Step Code) (is : asked ≡ change_step s.program k.course.begun (newest k) change) (w : World) (st : Standing s m k w) where
    asked_is : asked ≡ change_step s.program w.begun (found s.program w) change
    asked_is = is ∙ same_asked s m k w runs st change

    given : does s.detail s.program w asked ≡ gives_in s.detail s.program w change
    unfolding gives_in
    given = ap (does s.detail s.program w) asked_is

    pub change_lines : (lines : List OutLine) → WritesFor s m k asked [] lines → lines ≡ (gives_in s.detail s.program w change).0
    change_lines lines h = h w st (subst (FitsWorld s.program w) (sym asked_is) (change_fits s.program w change runs.runnable st.seen.whole.lawful.ordered)) ∙ ap (λ z. z.0) given

    pub change_stands : (n : Memory) (t : Contents) → StandsAfter s m k asked n t → Standing s n t (gives_in s.detail s.program w change).1
    change_stands n t h =
        subst (λ z. Standing s n t z.1) given (h w st (subst (FitsWorld s.program w) (sym asked_is) (change_fits s.program w change runs.runnable st.seen.whole.lawful.ordered)))

  module _ (w : World) (st : Standing s m k w) where
    pub is_due : is_some (top_of k.agenda) ≡ is_some (fires_in s.detail s.program w)
    unfolding fires_in
    is_due = due_fires s m k w st

    pub fires_none : None ≡ plan_of s.program k (top_of k.agenda) → FiringAnswers (fires_in s.detail s.program w) No w (Standing s m k)
    unfolding fires_in
    fires_none none = no_fire s m k w st (top_of k.agenda) refl none

    pub fires_some : Runs s → (n : Memory) (t : Contents) (line : OutLine) (plan : List (Result Step Code)) (lines : List OutLine) → Some line ≡ line_of s k (top_of k.agenda)
        → Some plan ≡ plan_of s.program k (top_of k.agenda) → FiresInto s m k plan n t → WritesFiring s m k line plan lines
        → FiringAnswers (fires_in s.detail s.program w) (Yes lines) w (Standing s n t)
    unfolding fires_in
    fires_some runs n t line plan lines says planned stands written = yes_fire s m k n t w line plan lines (top_of k.agenda) runs st refl says planned stands written
