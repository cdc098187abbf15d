-- The fact of an id in the store is the one that the world has; and what a session has taken in its retraction.
use Rattle.session_model.proofs.Common.{◌≡◌, ◌∙◌, ◌<◌, ◌==◌, inl, inr, ◌&&◌, not, ℕ, Bool, true, nat_eq, [], ◌∷◌, Some, None, refl, sym, ap, subst, arith}
use Rattle.session_model.proofs.Common.{without_fact, list_any, or-false, In, FactId, Tag, TypeId, Fact, Timers, HeldFacts, facts_of, Program, Step, Retract}
use Rattle.session_model.proofs.Common.{IsLawful, World, found, is_of_type, only_present, present, settled, step_fault, below_of, one_id, Marks, NetStands}
use Rattle.session_model.proofs.Common.{clean_rows, Rete, Retention, lingers, ends_by, HasLeft, brought, changed, comes, goes, retract_covers, Memory, Setting}
use Rattle.session_model.proofs.Common.{LeadsStep, LeadsOn, instant_of, IsNewestTag, newest, over, IsRefreshed, Awaits, Contents, Mirrors, Runs, Standing}
use Rattle.{session_model.proofs.Common.{holding, with_facts, reached_of, fact_left_at, without_timer}, std.proofs.lemmas.Bool.{eqb-true}}
use Rattle.std.specs.FinMap as map
use Rattle.{rule_world.specs.Worlds.{moved, stepped}, forgetting_laws.proofs.WorldSteps.{retracts_one}, session_model.proofs.Exactly.{after_without}}
use Rattle.session_model.proofs.{Leaving.{one_gone}, Moving_on.{covered_at, hand_of, leads_on, left_changed, less_forgotten, of_left, on_time, store_seen}}
use Rattle.session_model.proofs.{Moving_on.{world_exact, world_holds, world_ready}, Newest.{newest_found, tagged_found}, Ready.{lead_less}, Stands.{contents}}
use Rattle.{session_model.proofs.{Stands.{retract_moves}, Taken.{taken_awaits}}, fx_base.proofs.Tests.{and_first}}

module _ (s : Setting) (m : Memory) (k : Contents) (w : World) (st : Standing s m k w) (id : FactId) (tag : Tag) (is : IsNewestTag k.facts id.0 tag) where
  abbrev p : Program
  p = s.program

  abbrev all : HeldFacts
  all = st.seen.all

  abbrev f : Fact
  f = is.fact

  pub all_has : map.get all f.tag.0 ≡ Some f
  all_has = st.seen.are.held f.tag.0 f is.is_newest.found

  pub in_world : In f (present p w)
  in_world = ((world_holds s m k w st).to f.tag.0 f all_has).0

  -- no other fact has its id
  pub only_one : (t : ℕ) (g : Fact) → map.get all t ≡ Some g → g.id.0 ≡ id.0 → g ≡ f
  only_one t g e own =
      one_id (present p w) g f (world_exact s m k w st).lawful.ordered.ids ((world_holds s m k w st).to t g e).0 in_world (own ∙ sym is.is_newest.own)

  pub all_newest : IsNewestTag all id.0 tag
  all_newest = record {
    fact = f;
    is_newest = record {
      found = all_has;
      own = is.is_newest.own;
      greatest = λ t g e own.
          let here : g.tag.0 ≡ t = ((world_holds s m k w st).to t g e).1 in
          let same : g.tag.0 ≡ f.tag.0 = ap (λ (z : Fact). z.tag.0) (only_one t g e own) in
          omega (arith, here, same);
    };
    tagged = is.tagged;
  }

  pub below_next : f.tag.0 < k.next_tag
  below_next = subst (λ n. f.tag.0 < n) (sym st.seen.whole.mirrors.next_tag) (below_of w.next_tag (present p w) (world_exact s m k w st).lawful.ordered.fresh f in_world)

  -- the newest of the id is the same among all facts
  pub newest_is : newest k id.0 ≡ Some f
  newest_is = newest_found k.facts id.0 f is.is_newest k.next_tag below_next

  pub all_newest_is : newest (with_facts k all) id.0 ≡ newest k id.0
  unfolding all_newest
  all_newest_is = newest_found all id.0 f all_newest.is_newest k.next_tag below_next ∙ sym newest_is

  pub found_is : found p w id.0 ≡ Some f
  unfolding all_newest
  found_is = tagged_found p (with_facts k all) (only_present p w) (world_exact s m k w st) id.0 tag all_newest

  pub at_tag : map.get k.facts tag.0 ≡ Some f
  at_tag = ap (λ (t : Tag). map.get k.facts t.0) (sym is.tagged) ∙ is.is_newest.found

  pub all_at_tag : map.get all tag.0 ≡ Some f
  all_at_tag = st.seen.are.held tag.0 f at_tag

  pub one_going : (t : ℕ) → In t (tag.0 ∷ []) → (g : Fact) × (map.get k.facts t ≡ Some g)
  one_going t i = elim i [ inl e ↦ (f, ap (map.get k.facts) e ∙ at_tag) | inr j ↦ absurd j ]

  -- ---- a retraction

  module _ (runs : Runs s) (ty : TypeId) (of_type : is_of_type ty.0 (newest k id.0) ≡ true) (none : step_fault p w (Retract ty id) ≡ None) (lawful : IsLawful p (stepped p w (Retract ty id)))
      (fewer : Timers) (untimed : (t : ℕ) → map.get fewer t ≡ without_timer k.expiries tag.0 t) (others : HeldFacts) (made : others ≡ map.remove k.facts tag.0) (b : Marks) where
    abbrev step : Step
    step = Retract ty id

    abbrev t : Contents
    t = contents others fewer k.clock k.course b k.next_id k.next_tag

    abbrev behind : HeldFacts
    behind = map.remove all tag.0

    typed : f.ty.0 ≡ ty.0
    typed = eqb-true f.ty.0 ty.0 (ap (is_of_type ty.0) (sym newest_is) ∙ of_type)

    kept_is : only_present p (stepped p w step) ≡ settled p (without_fact (only_present p w) ty.0 id.0)
    unfolding stepped moved
    kept_is = after_without p w ty.0 id.0

    retract_mirrors : Mirrors p (with_facts t behind) (only_present p (stepped p w step))
    retract_mirrors =
        subst (Mirrors p (with_facts t behind)) (sym kept_is)
        (retract_moves p (with_facts k all) b (only_present p w) (world_exact s m k w st) id tag all_newest behind refl ty fewer untimed (ap (is_of_type ty.0) all_newest_is ∙ of_type))

    retract_leads : LeadsStep p all k.clock behind k.clock all (tag.0 ∷ []) None
    retract_leads = lead_less p all k.expiries k.clock (world_ready s m k w st) behind tag.0 refl f all_at_tag

    pub retract_leads_on : LeadsOn p all (instant_of k) behind (instant_of t) all (tag.0 ∷ []) None st.seen.forgotten k.facts
    retract_leads_on =
        leads_on s m k w st step runs none t behind all (tag.0 ∷ []) None k.facts retract_leads retract_mirrors one_going (λ g e. absurd (let n : None ≡ Some g = e in cc))
        (hand_of k all (tag.0 ∷ []) st.seen.forgotten st.seen.are one_going)

    -- of the facts of the store the one of the tag goes out
    one_out : (u : ℕ) (g : Fact) → map.get k.facts u ≡ Some g → goes p w step g ≡ (u == tag.0)
    one_out u g e = retracts_one p w ty id f st.seen.whole.lawful.ordered found_is typed u g (store_seen s m k w st u g e) ∙ ap (λ (z : Tag). u == z.0) is.tagged

    store_left : (u : ℕ) → map.get others u ≡ fact_left_at k.facts (tag.0 ∷ []) u
    store_left = one_gone k.facts k.facts others [] tag.0 (λ u. refl) made

    retract_store : (u : ℕ) → map.get others u ≡ changed (brought (comes p w step) u) (goes p w step) (map.get k.facts u)
    retract_store u =
        store_left u
        ∙ left_changed (goes p w step) (list_any (nat_eq u) (tag.0 ∷ [])) (map.get k.facts u) (λ g e. one_out u g e ∙ sym (or-false (nat_eq u tag.0)))

    pub retract_awaits : (net : Rete) (retention : Retention) (left : ℕ → Bool) → NetStands p net (over (facts_of behind) k.clock (reached_of k)) st.seen.forgotten
        → IsRefreshed p.rules (clean_rows p (over (facts_of all) k.clock (reached_of k)) st.seen.forgotten) (clean_rows p (over (facts_of behind) k.clock (reached_of k)) st.seen.forgotten) k.agenda b
        → HasLeft k.agenda b left → retention.due ≡ map.remove m.retention.due tag.0 → ((u : ℕ) → lingers retention u ≡ (lingers m.retention u && not (u == tag.0)))
        → Awaits s (record { net = net; retention = retention }) t left (stepped p w step)
    retract_awaits net retention left stands refreshed has_left due lingering =
        taken_awaits s m k w st step (record { net = net; retention = retention }) t left runs none (record {
          all = behind;
          whole = record { lawful = lawful; mirrors = retract_mirrors };
          are = less_forgotten k t all behind (tag.0 ∷ []) st.seen.forgotten st.seen.are retract_leads.left store_left refl;
          later = λ u g e. inl (of_left all (tag.0 ∷ []) u g (sym (retract_leads.left u) ∙ e)).1;
          stands = stands;
          refreshed = refreshed;
          has_left = has_left;
          store = retract_store;
          covered =
              retract_covers (ends_by s.lives) (goes p w step) tag.0 k.clock (holding k m.retention) (holding t retention) (covered_at s m k w st k.clock (on_time s m k w st)) one_out retract_store due lingering;
          lingering = λ u e. and_first (lingers m.retention u) (not (u == tag.0)) (sym (lingering u) ∙ e);
        })
