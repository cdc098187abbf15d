-- What a session has taken in a modification.
use Rattle.session_model.proofs.Common.{◌≡◌, ◌∙◌, ◌+◌, ◌<◌, ◌≤◌, ◌==◌, ◌⊎◌, inl, inr, ℕ, Bool, true, false, cond, nat_eq, List, [], ◌∷◌, Option, Some, None}
use Rattle.session_model.proofs.Common.{option_map, if◌then◌else◌, refl, sym, ap, subst, arith, list_any, or-false, nat_tests, In, FactId, Tag, Value, Fact}
use Rattle.session_model.proofs.Common.{HeldFacts, facts_of, Program, Step, Modify, is_event, is_reference, IsLawful, World, has_id, only_present, modify_fault}
use Rattle.session_model.proofs.Common.{revised, settled, step_fault, with_revised, Marks, NetStands, clean_rows, Rete, Covers, ends_by, ends_of, HasLeft}
use Rattle.session_model.proofs.Common.{brought, changed, comes, goes, modify_endless, endless_covers, Memory, Setting, LeadsStep, LeadsOn, instant_of}
use Rattle.session_model.proofs.Common.{IsNewestTag, newest, over, IsRefreshed, AreForgotten, Awaits, Contents, Mirrors, Runs, Standing, holding, with_facts}
use Rattle.{session_model.proofs.Common.{reached_of, fact_left_at}, std.proofs.lemmas.Bool.{eq-eqb, eqb-true}}
use Rattle.std.specs.FinMap as map
use Rattle.{rule_world.specs.Worlds.{moved, stepped}, session_model.proofs.{Exactly.{after_revised}, Leaving.{one_gone}, Members.{got_new, got_old, not_out}}}
use Rattle.session_model.proofs.{Members.{of_insert}, Moving_on.{all_below, covered_at, hand_of, leads_on, left_changed, less_forgotten, more_forgotten}}
use Rattle.session_model.proofs.{Moving_on.{of_left, on_time, world_exact, world_holds, world_ready, store_seen}, Ready.{lead_revised}, Removing.{all_at_tag}}
use Rattle.session_model.proofs.{Removing.{all_newest, all_newest_is, at_tag, found_is, newest_is, only_one}, Stands.{contents, modify_moves, plain_by}}
use Rattle.{session_model.proofs.Taken.{taken_awaits}, fx_base.proofs.Tests.{same_test}}

other_number : (m n : ℕ) → (m == n) ≡ false → n ≡ m → ⊥
other_number m n e h = grind (arith, nat_tests)

module _ (s : Setting) (m : Memory) (k : Contents) (w : World) (st : Standing s m k w) (id : FactId) (tag : Tag) (is : IsNewestTag k.facts id.0 tag) where
  abbrev p : Program
  p = s.program

  abbrev all : HeldFacts
  all = st.seen.all

  abbrev f : Fact
  f = is.fact

  -- of the facts of the store the one of the tag has the id
  one_out : (u : ℕ) (g : Fact) → map.get k.facts u ≡ Some g → has_id id.0 g ≡ (u == tag.0)
  one_out u g e =
      let there = st.seen.are.held u g e in
      same_test (has_id id.0 g) (u == tag.0)
      (λ h.
      let same : g ≡ f = only_one s m k w st id tag is u g there (eqb-true g.id.0 id.0 h) in
      eq-eqb u tag.0 (sym ((world_holds s m k w st).to u g there).1 ∙ ap (λ (z : Fact). z.tag.0) same ∙ ap (λ (z : Tag). z.0) is.tagged))
      (λ h.
      let same : Some g ≡ Some f = sym e ∙ ap (map.get k.facts) (eqb-true u tag.0 h) ∙ at_tag s m k w st id tag is in
      let own : g ≡ f = cc in
      eq-eqb g.id.0 id.0 (ap (λ (z : Fact). z.id.0) own ∙ is.is_newest.own))

  module _ (runs : Runs s) (sets : List (ℕ × Value)) (plain : modify_fault p (newest k id.0) ≡ None) (none : step_fault p w (Modify id sets) ≡ None) (lawful : IsLawful p (stepped p w (Modify id sets)))
      (before after : Fact) (taken : Some before ≡ map.get k.facts tag.0) (after_is : after ≡ revised k.next_tag sets before) (more : HeldFacts) (put : more ≡ map.insert k.facts after.tag.0 after)
      (others : HeldFacts) (out : others ≡ map.remove more tag.0) (b : Marks) where
    abbrev step : Step
    step = Modify id sets

    -- with both versions, and behind the step
    abbrev t : HeldFacts → Contents
    t facts = contents facts k.expiries k.clock k.course b k.next_id (k.next_tag + 1)

    abbrev both : HeldFacts
    both = map.insert all after.tag.0 after

    abbrev behind : HeldFacts
    behind = map.remove both tag.0

    before_is : before ≡ f
    before_is = let e : Some before ≡ Some f = taken ∙ at_tag s m k w st id tag is in cc

    before_there : map.get all tag.0 ≡ Some before
    before_there = all_at_tag s m k w st id tag is ∙ ap Some (sym before_is)

    at_next : after.tag.0 ≡ k.next_tag
    at_next = ap (λ (z : Fact). z.tag.0) after_is

    plain_after : is_event p after.ty.0 ≡ false
    plain_after =
        ap (λ (z : Fact). is_event p z.ty.0) after_is ∙ ap (λ (z : Fact). is_event p z.ty.0) before_is
        ∙ plain_by (is_event p f.ty.0) (is_reference p f.ty.0) (ap (modify_fault p) (sym (newest_is s m k w st id tag is)) ∙ plain)

    above : (u : ℕ) (g : Fact) → map.get all u ≡ Some g → u < after.tag.0
    above u g e = subst (λ n. u < n) (sym at_next) (all_below s m k w st u g e)

    out_below : tag.0 < after.tag.0
    out_below = above tag.0 before before_there

    kept_is : only_present p (stepped p w step) ≡ settled p (with_revised (only_present p w) id.0 sets)
    unfolding stepped moved
    kept_is = after_revised p w id.0 sets

    modify_mirrors : Mirrors p (with_facts (t others) behind) (only_present p (stepped p w step))
    modify_mirrors =
        subst (Mirrors p (with_facts (t others) behind)) (sym kept_is)
        (modify_moves p (with_facts k all) b (only_present p w) (world_exact s m k w st) id tag (all_newest s m k w st id tag is) sets before after both behind (sym before_there)
        (ap (modify_fault p) (all_newest_is s m k w st id tag is) ∙ plain) after_is refl refl)

    modify_leads : LeadsStep p all k.clock behind k.clock both (tag.0 ∷ []) (Some after)
    modify_leads = lead_revised p all k.expiries k.clock (world_ready s m k w st) tag.0 before after both behind before_there plain_after refl refl above

    are_more : AreForgotten (t more) both st.seen.forgotten
    are_more = more_forgotten k (t more) all both after st.seen.forgotten st.seen.are at_next above refl put refl

    in_more : (u : ℕ) → (u ≡ after.tag.0 → ⊥) → map.get more u ≡ map.get k.facts u
    in_more u apart = ap (λ z. map.get z u) put ∙ got_old k.facts after u apart

    more_going : (u : ℕ) → In u (tag.0 ∷ []) → (g : Fact) × (map.get more u ≡ Some g)
    more_going u i = elim i [
      | inl e ↦ (f, ap (map.get more) e ∙ in_more tag.0 (λ (same : tag.0 ≡ after.tag.0). absurd (omega (arith, same, out_below))) ∙ at_tag s m k w st id tag is)
      | inr j ↦ absurd j
    ]

    one_going : (u : ℕ) → In u (tag.0 ∷ []) → (g : Fact) × (map.get k.facts u ≡ Some g)
    one_going u i = elim i [ inl e ↦ (f, ap (map.get k.facts) e ∙ at_tag s m k w st id tag is) | inr j ↦ absurd j ]

    new_tag : (g : Fact) → Some after ≡ Some g → k.next_tag ≤ g.tag.0
    new_tag g e =
        let same : after ≡ g = cc in
        let here : g.tag.0 ≡ k.next_tag = ap (λ (z : Fact). z.tag.0) (sym same) ∙ at_next in
        omega (arith, here)

    pub modify_leads_on : LeadsOn p all (instant_of k) behind (instant_of (t others)) both (tag.0 ∷ []) (Some after) st.seen.forgotten more
    modify_leads_on =
        leads_on s m k w st step runs none (t others) behind both (tag.0 ∷ []) (Some after) more modify_leads modify_mirrors one_going new_tag
        (hand_of (t more) both (tag.0 ∷ []) st.seen.forgotten are_more more_going)

    store_left : (u : ℕ) → map.get others u ≡ fact_left_at more (tag.0 ∷ []) u
    store_left = one_gone more more others [] tag.0 (λ u. refl) out

    comes_is : comes p w step ≡ Some after
    comes_is =
        ap (option_map (revised w.next_tag sets)) (found_is s m k w st id tag is) ∙ ap (λ n. Some (revised n sets f)) (sym st.seen.whole.mirrors.next_tag)
        ∙ ap (λ z. Some (revised k.next_tag sets z)) (sym before_is) ∙ ap Some (sym after_is)

    store_by : (u : ℕ) (c : Bool) → (after.tag.0 == u) ≡ c → map.get others u ≡ changed (cond c (Some after) None) (has_id id.0) (map.get k.facts u)
    store_by u true e =
        let same : after.tag.0 ≡ u = eqb-true after.tag.0 u e in
        ap (λ z. map.get z u) out ∙ not_out more tag.0 u (λ (h : u ≡ tag.0). absurd (omega (arith, h, same, out_below)))
        ∙ ap (λ z. map.get z u) put ∙ ap (map.get (map.insert k.facts after.tag.0 after)) (sym same) ∙ got_new k.facts after
    store_by u false e =
        store_left u ∙ ap (λ o. if list_any (nat_eq u) (tag.0 ∷ []) then None else o) (in_more u (other_number after.tag.0 u e))
        ∙ left_changed (has_id id.0) (list_any (nat_eq u) (tag.0 ∷ [])) (map.get k.facts u) (λ g h. one_out u g h ∙ sym (or-false (nat_eq u tag.0)))

    modify_store : (u : ℕ) → map.get others u ≡ changed (brought (comes p w step) u) (goes p w step) (map.get k.facts u)
    modify_store u = store_by u (after.tag.0 == u) refl ∙ ap (λ o. changed (brought o u) (has_id id.0) (map.get k.facts u)) (sym comes_is)

    next_free : (u : ℕ) → u ≡ after.tag.0 → (o : Option Fact) → map.get k.facts u ≡ o → o ≡ None
    next_free u here None e = refl
    next_free u here (Some g) e = let lt : u < after.tag.0 = above u g (st.seen.are.held u g e) in absurd (omega (arith, lt, here))

    modify_covered : Covers (ends_of (ends_by s.lives) (map.get others)) k.clock m.retention
    modify_covered =
        let endless = modify_endless p s.lives w id sets runs.table.safe st.seen.whole.lawful.ordered none in
        endless_covers (ends_by s.lives) (comes p w step) (goes p w step) k.clock (holding k m.retention) (holding (t others) m.retention) (covered_at s m k w st k.clock (on_time s m k w st))
        (λ u g e. fresh u g endless.0 (after.tag.0 == u) refl (ap (λ o. brought o u) (sym comes_is) ∙ e))
        (λ u g e h. endless.1 u g (store_seen s m k w st u g e) h) modify_store refl
      where
        fresh : (u : ℕ) (g : Fact) → ((x : Fact) → comes p w step ≡ Some x → ends_by s.lives x ≡ None) → (c : Bool) → (after.tag.0 == u) ≡ c → cond c (Some after) None ≡ Some g
            → (map.get k.facts u ≡ None) × (ends_by s.lives g ≡ None)
        fresh u g endless true h e = (next_free u (sym (eqb-true after.tag.0 u h)) (map.get k.facts u) refl, endless g (comes_is ∙ e))
        fresh u g endless false h e = absurd (let n : None ≡ Some g = e in cc)

    new_later : (u : ℕ) (g : Fact) → map.get behind u ≡ Some g → (map.get all u ≡ Some g) ⊎ (k.next_tag ≤ u)
    new_later u g e = elim (of_insert all after g u (of_left both (tag.0 ∷ []) u g (sym (modify_leads.left u) ∙ e)).1) [
      | inl r ↦ inr (let here : u ≡ k.next_tag = r.1 ∙ at_next in omega (arith, here))
      | inr h ↦ inl h
    ]

    pub modify_awaits : (net : Rete) (left : ℕ → Bool) → NetStands p net (over (facts_of behind) k.clock (reached_of k)) st.seen.forgotten
        → IsRefreshed p.rules (clean_rows p (over (facts_of all) k.clock (reached_of k)) st.seen.forgotten) (clean_rows p (over (facts_of behind) k.clock (reached_of k)) st.seen.forgotten) k.agenda b
        → HasLeft k.agenda b left → Awaits s (record { net = net; retention = m.retention }) (t others) left (stepped p w step)
    modify_awaits net left stands refreshed has_left =
        taken_awaits s m k w st step (record { net = net; retention = m.retention }) (t others) left runs none (record {
          all = behind;
          whole = record { lawful = lawful; mirrors = modify_mirrors };
          are = less_forgotten (t more) (t others) both behind (tag.0 ∷ []) st.seen.forgotten are_more modify_leads.left store_left refl;
          later = new_later;
          stands = stands;
          refreshed = refreshed;
          has_left = has_left;
          store = modify_store;
          covered = modify_covered;
          lingering = λ u e. e;
        })
