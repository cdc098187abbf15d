-- What a session has taken where its clock moves on.
use Rattle.session_model.proofs.Common.{◌≡◌, ◌∙◌, ◌≤ℤ◌, ◌||◌, inl, not, ℕ, ℤ, Bool, true, false, cond, nat_eq, List, Some, None, slice_get, if◌then◌else◌, refl}
use Rattle.session_model.proofs.Common.{sym, ap, subst, get-retain_keys, list_any, is_eq, In, Fact, Timers, TakesDue, has_come, HeldFacts, facts_of, tied}
use Rattle.session_model.proofs.Common.{Named, Row, Program, Rule, Step, At, is_present, rows, IsLawful, World, world_at_clock, only_present, present, settled}
use Rattle.session_model.proofs.Common.{step_fault, Marks, rows_of, cleaned, NetStands, clean_rows, Rete, has_clean, Covers, ends_by, ends_of, is_kept_fact}
use Rattle.session_model.proofs.Common.{is_needed, only, HasLeft, brought, changed, comes, fact_at, goes, sight_of, expired_endless, endless_covers, some_in}
use Rattle.session_model.proofs.Common.{own_at, Memory, Setting, LeadsStep, LeadsOn, instant_of, over, IsRefreshed, Awaits, Contents, Mirrors, Runs, Standing}
use Rattle.{session_model.proofs.Common.{expiry_at, holding, with_facts, reached_of, fact_left_at, Reached}, std.proofs.lemmas.Bool.{not-true}}
use Rattle.std.specs.FinMap as map
use Rattle.{rule_world.specs.Worlds.{moved, stepped}, session_model.proofs.{Exactly.{after_clock}, Moving_on.{covered_at, hand_of, leads_on, left_changed}}}
use Rattle.session_model.proofs.{Moving_on.{less_forgotten, of_left, world_exact, world_holds, world_ready}, Ready.{lead_later}, Rules.{not_refreshed}}
use Rattle.{session_model.proofs.{Stands.{clock_moves, contents}, Taken.{taken_awaits}, Timers.{come_is_absent}}, fx_base.proofs.Orders.{eqb-self}}

-- ---- the facts that are left

abbrev pub remaining : HeldFacts → List ℕ → HeldFacts
remaining facts gone = map.retain_keys facts (λ tag. not (list_any (nat_eq tag) gone))

pub remaining_is : (facts : HeldFacts) (gone : List ℕ) (tag : ℕ) → map.get (remaining facts gone) tag ≡ fact_left_at facts gone tag
remaining_is facts gone tag =
    get-retain_keys facts (λ key. not (list_any (nat_eq key) gone)) tag (λ x e. ap (λ key. not (list_any (nat_eq key) gone)) (sym (tied tag x (ap is_eq e))))
    ∙ by (list_any (nat_eq tag) gone)
  where
    by : (b : Bool) → cond (not b) (map.get facts tag) None ≡ (if b then None else map.get facts tag)
    by true = refl
    by false = refl

absent_by : (b c : Bool) → b ≡ not c → b ≡ true → c ≡ false
absent_by b true e h = absurd (let n : false ≡ true = sym e ∙ h in cc)
absent_by b false e h = refl

-- ---- the clock

module _ (s : Setting) (m : Memory) (k : Contents) (w : World) (st : Standing s m k w) (runs : Runs s) (clock : ℤ) (le : k.clock ≤ℤ clock) (none : step_fault s.program w (At clock) ≡ None)
    (lawful : IsLawful s.program (stepped s.program w (At clock))) (later : Timers) (due : List ℕ) (takes : TakesDue clock k.expiries later due) (others : HeldFacts)
    (left : (tag : ℕ) → map.get others tag ≡ fact_left_at k.facts due tag) (behind : HeldFacts) (out : (tag : ℕ) → map.get behind tag ≡ fact_left_at st.seen.all due tag) (b : Marks) where
  abbrev p : Program
  p = s.program

  abbrev all : HeldFacts
  all = st.seen.all

  abbrev step : Step
  step = At clock

  abbrev t : Contents
  t = contents others later clock k.course b k.next_id k.next_tag

  passes : w.clock ≤ℤ clock
  passes = subst (λ z. z ≤ℤ clock) st.seen.whole.mirrors.clock le

  kept_is : only_present p (stepped p w step) ≡ settled p (only_present p (world_at_clock (only_present p w) clock))
  unfolding stepped moved
  kept_is = after_clock p w clock passes

  later_mirrors : Mirrors p (with_facts t behind) (only_present p (stepped p w step))
  later_mirrors = subst (Mirrors p (with_facts t behind)) (sym kept_is) (clock_moves p (with_facts k all) (only_present p w) clock (world_exact s m k w st) later due takes behind out b)

  pub later_leads : LeadsStep p all k.clock behind clock all due None
  later_leads = lead_later p all k.expiries k.clock (world_ready s m k w st) clock later due takes behind out le

  -- what is due is not present any more
  due_is : (tag : ℕ) (f : Fact) → map.get all tag ≡ Some f → list_any (nat_eq tag) due ≡ not (is_present p clock f)
  due_is tag f e = takes.due tag ∙ ap (has_come clock) (st.seen.whole.mirrors.waits tag ∙ ap (expiry_at p) e) ∙ come_is_absent p all k.expiries st.seen.whole.mirrors.waits f clock

  -- so its life does not end, and it is in the store
  due_there : (tag : ℕ) → In tag due → (f : Fact) × (map.get k.facts tag ≡ Some f)
  due_there tag i =
      let there = later_leads.held tag i in
      let f = there.0 in
      let absent : is_present p clock f ≡ false = absent_by (list_any (nat_eq tag) due) (is_present p clock f) (due_is tag f there.1) (some_in (nat_eq tag) tag due i (eqb-self tag)) in
      let endless = expired_endless p s.lives clock f runs.table.safe absent in
      let r = (world_holds s m k w st).to tag f there.1 in
      let seen : fact_at (present p w) tag ≡ Some f = ap (fact_at (present p w)) (sym r.1) ∙ own_at (present p w) (world_exact s m k w st).lawful.ordered.tags f r.0 in
      let held : is_kept_fact (ends_by s.lives) (sight_of p w) tag f ≡ true = ap (λ o. not (has_come w.clock o) || is_needed (sight_of p w) tag) endless in
      (f, st.holds.store tag ∙ ap (only (is_kept_fact (ends_by s.lives) (sight_of p w) tag)) seen ∙ ap (λ c. cond c (Some f) None) held)

  pub later_leads_on : LeadsOn p all (instant_of k) behind (instant_of t) all due None st.seen.forgotten k.facts
  later_leads_on =
      leads_on s m k w st step runs none t behind all due None k.facts later_leads later_mirrors due_there (λ g e. absurd (let n : None ≡ Some g = e in cc))
      (hand_of k all due st.seen.forgotten st.seen.are due_there)

  later_store : (tag : ℕ) → map.get others tag ≡ changed (brought (comes p w step) tag) (goes p w step) (map.get k.facts tag)
  later_store tag = left tag ∙ left_changed (goes p w step) (list_any (nat_eq tag) due) (map.get k.facts tag) (λ f e. sym (due_is tag f (st.seen.are.held tag f e)))

  later_covered : Covers (ends_of (ends_by s.lives) (map.get others)) clock m.retention
  later_covered =
      endless_covers (ends_by s.lives) None (goes p w step) clock (holding k m.retention) (holding t m.retention) (covered_at s m k w st clock passes)
      (λ tag f e. absurd (let n : None ≡ Some f = e in cc))
      (λ tag f e h. expired_endless p s.lives clock f runs.table.safe (not-true (is_present p clock f) h)) later_store refl

  pub later_awaits : (net : Rete) (gone : ℕ → Bool) → NetStands p net (over (facts_of behind) clock (reached_of k)) st.seen.forgotten
      → IsRefreshed p.rules (clean_rows p (over (facts_of all) k.clock (reached_of k)) st.seen.forgotten) (clean_rows p (over (facts_of behind) clock (reached_of k)) st.seen.forgotten) k.agenda b
      → HasLeft k.agenda b gone → Awaits s (record { net = net; retention = m.retention }) t gone (stepped p w step)
  later_awaits net gone stands refreshed has_left =
      taken_awaits s m k w st step (record { net = net; retention = m.retention }) t gone runs none (record {
        all = behind;
        whole = record { lawful = lawful; mirrors = later_mirrors };
        are = less_forgotten k t all behind due st.seen.forgotten st.seen.are out left refl;
        later = λ tag f e. inl (of_left all due tag f (sym (out tag) ∙ e)).1;
        stands = stands;
        refreshed = refreshed;
        has_left = has_left;
        store = later_store;
        covered = later_covered;
        lingering = λ tag e. e;
      })

-- ---- where nothing changes

-- rows that name no forgotten fact and stay keep the agenda
pub quiet_refreshed : (p : Program) (facts : List Fact) (from to : ℤ) (reached : Reached) (forgotten : Named → Bool)
    → ((place : ℕ) (rule : Rule) → slice_get p.rules place ≡ Some rule
    → (row : Row) → cleaned (rows_of p (over facts to reached) rule.conditions) forgotten row ≡ cleaned (rows_of p (over facts from reached) rule.conditions) forgotten row)
    → (a : Marks) → IsRefreshed p.rules (clean_rows p (over facts from reached) forgotten) (clean_rows p (over facts to reached) forgotten) a a
quiet_refreshed p facts from to reached forgotten same =
    not_refreshed p.rules (clean_rows p (over facts from reached) forgotten) (clean_rows p (over facts to reached) forgotten)
    (λ place rule e row.
    ap (λ (set : Row → Bool). set row) (has_clean (rows p (over facts to reached) rule.conditions) forgotten) ∙ same place rule e row
    ∙ sym (ap (λ (set : Row → Bool). set row) (has_clean (rows p (over facts from reached) rule.conditions) forgotten)))

pub none_left : (a : Marks) (left : ℕ → Bool) → HasLeft a a left
none_left a left q tag was free names = absurd (let n : true ≡ false = sym was ∙ free in cc)
