-- What a session has taken where facts go and one may come, and where the clock moves on: what the network is led to, and what awaits.
use Rattle.session_model.proofs.Common.{◌≡◌, ◌∙◌, ◌+◌, ◌<◌, ◌≤◌, ◌≤ℤ◌, inl, inr, not, ℕ, ℤ, Bool, true, false, cond, nat_eq, List, Option, Some, None}
use Rattle.session_model.proofs.Common.{if◌then◌else◌, refl, sym, ap, subst, arith, list_any, ints, In, Fact, HeldFacts, Named, Program, Step, name_of, World}
use Rattle.session_model.proofs.Common.{only_present, present, step_fault, stepped, below_of, Covers, ends_by, ends_of, only, changed, fact_at, sight_of}
use Rattle.session_model.proofs.Common.{later_covers, Memory, Setting, NeverFalls, HasAtHand, IsReady, LeadsStep, LeadsOn, instant_of, AreForgotten, Contents}
use Rattle.{session_model.proofs.Common.{Mirrors, Runs, Standing, holding, with_facts, reached_of, fact_left_at, Reached}, std.specs.Prelude.{is_some}}
use Rattle.std.specs.FinMap as map
use Rattle.session_model.proofs.{Exactly.{Exact, exact}, Members.{Holds, got_new, got_old, of_insert}, Needs.{not_needed}, Newest.{holds}}
use Rattle.session_model.proofs.{Readied.{whole_ready}, Reaching.{reaches_on}}

-- ---- one fact at a time

pub only_some : (test : Fact → Bool) (o : Option Fact) (f : Fact) → only test o ≡ Some f → o ≡ Some f
only_some test None f e = e
only_some test (Some g) f e = by (test g) e
  where
    by : (b : Bool) → cond b (Some g) None ≡ Some f → Some g ≡ Some f
    by true h = h
    by false h = absurd (let n : None ≡ Some f = h in cc)

-- what is left was there, and does not go
pub of_left : (facts : HeldFacts) (gone : List ℕ) (tag : ℕ) (f : Fact) → fact_left_at facts gone tag ≡ Some f → (list_any (nat_eq tag) gone ≡ false) × (map.get facts tag ≡ Some f)
of_left facts gone tag f e = by (list_any (nat_eq tag) gone) refl e
  where
    by : (b : Bool) → list_any (nat_eq tag) gone ≡ b → (if b then None else map.get facts tag) ≡ Some f → (list_any (nat_eq tag) gone ≡ false) × (map.get facts tag ≡ Some f)
    by true h k = absurd (let n : None ≡ Some f = k in cc)
    by false h k = (h, k)

pub is_left : (facts : HeldFacts) (gone : List ℕ) (tag : ℕ) → list_any (nat_eq tag) gone ≡ false → fact_left_at facts gone tag ≡ map.get facts tag
is_left facts gone tag e = ap (λ b. if b then None else map.get facts tag) e

-- what is left is what the step leaves of it
pub left_changed : (out : Fact → Bool) (b : Bool) (o : Option Fact) → ((f : Fact) → o ≡ Some f → out f ≡ b) → (if b then None else o) ≡ changed None out o
left_changed out true None h = refl
left_changed out false None h = refl
left_changed out true (Some f) h = ap (λ g. cond (not g) (Some f) None) (sym (h f refl))
left_changed out false (Some f) h = ap (λ g. cond (not g) (Some f) None) (sym (h f refl))

pub not_after : (a b : ℤ) → a ≡ b → b ≤ℤ a
not_after a b e = grind (arith, ints)

-- ---- what is forgotten

-- where facts go from the store as from all facts
pub less_forgotten : (k t : Contents) (both behind : HeldFacts) (gone : List ℕ) (forgotten : Named → Bool) → AreForgotten k both forgotten → ((tag : ℕ) → map.get behind tag ≡ fact_left_at both gone tag)
    → ((tag : ℕ) → map.get t.facts tag ≡ fact_left_at k.facts gone tag) → t.next_tag ≡ k.next_tag → AreForgotten t behind forgotten
less_forgotten k t both behind gone forgotten are out left same = record {
  held = λ tag f e. let r = of_left k.facts gone tag f (sym (left tag) ∙ e) in out tag ∙ is_left both gone tag r.0 ∙ are.held tag f r.1;
  known = λ tag f e. let r = of_left both gone tag f (sym (out tag) ∙ e) in are.known tag f r.1 ∙ ap (λ o. not (is_some o)) (sym (left tag ∙ is_left k.facts gone tag r.0));
  below = λ who e. subst (λ n. who.tag.0 < n) (sym same) (are.below who e);
}

-- where one comes with the next tag
pub more_forgotten : (k t : Contents) (all both : HeldFacts) (f : Fact) (forgotten : Named → Bool) → AreForgotten k all forgotten → f.tag.0 ≡ k.next_tag
    → ((tag : ℕ) (g : Fact) → map.get all tag ≡ Some g → tag < f.tag.0) → both ≡ map.insert all f.tag.0 f → t.facts ≡ map.insert k.facts f.tag.0 f → t.next_tag ≡ k.next_tag + 1 → AreForgotten t both forgotten
more_forgotten k t all both f forgotten are at above made also next = record {
  held = λ tag g e. elim (of_insert k.facts f g tag (ap (λ m. map.get m tag) (sym also) ∙ e)) [
    | inl r ↦ ap (λ m. map.get m tag) made ∙ ap (map.get (map.insert all f.tag.0 f)) r.1 ∙ got_new all f ∙ ap Some (sym r.0)
    | inr h ↦ (let there = are.held tag g h in ap (λ m. map.get m tag) made ∙ got_old all f tag (apart tag g there) ∙ there)
  ];
  known = λ tag g e. elim (of_insert all f g tag (ap (λ m. map.get m tag) (sym made) ∙ e)) [
    | inl r ↦ (
        ap (λ z. forgotten (name_of z)) r.0 ∙ unknown (forgotten (name_of f)) refl
        ∙ ap (λ o. not (is_some o)) (sym (ap (λ m. map.get m tag) also ∙ ap (map.get (map.insert k.facts f.tag.0 f)) r.1 ∙ got_new k.facts f)))
    | inr h ↦ are.known tag g h ∙ ap (λ o. not (is_some o)) (sym (ap (λ m. map.get m tag) also ∙ got_old k.facts f tag (apart tag g h)))
  ];
  below = λ who e. let lt : who.tag.0 < k.next_tag = are.below who e in omega (arith, next, lt);
}
  where
    apart : (tag : ℕ) (g : Fact) → map.get all tag ≡ Some g → tag ≡ f.tag.0 → ⊥
    apart tag g e same = let lt : tag < f.tag.0 = above tag g e in absurd (omega (arith, lt, same))

    unknown : (b : Bool) → forgotten (name_of f) ≡ b → b ≡ false
    unknown true e = let lt : f.tag.0 < k.next_tag = are.below (name_of f) e in absurd (omega (arith, lt, at))
    unknown false e = refl

-- the store has what is not forgotten, and what goes
pub hand_of : (k : Contents) (both : HeldFacts) (gone : List ℕ) (forgotten : Named → Bool) → AreForgotten k both forgotten → ((tag : ℕ) → In tag gone → (f : Fact) × (map.get k.facts tag ≡ Some f))
    → HasAtHand both k.facts gone forgotten
hand_of k both gone forgotten are going = record {
  known = λ tag f e free. by tag f e (map.get k.facts tag) refl (sym free ∙ are.known tag f e);
  going = λ tag i. let f = going tag i in f.1 ∙ sym (are.held tag f.0 f.1);
}
  where
    by : (tag : ℕ) (f : Fact) → map.get both tag ≡ Some f → (o : Option Fact) → map.get k.facts tag ≡ o → false ≡ not (is_some o) → map.get k.facts tag ≡ Some f
    by tag f e None h n = absurd (let no : false ≡ true = n in cc)
    by tag f e (Some g) h n = h ∙ sym (are.held tag g h) ∙ e

-- ---- the world

module _ (s : Setting) (m : Memory) (k : Contents) (w : World) (st : Standing s m k w) where
  abbrev p : Program
  p = s.program

  -- all present facts
  abbrev all : HeldFacts
  all = st.seen.all

  abbrev forgotten : Named → Bool
  forgotten = st.seen.forgotten

  pub world_exact : Exact p (with_facts k all) (only_present p w)
  world_exact = exact p (with_facts k all) w st.seen.whole

  pub world_holds : Holds all (present p w)
  world_holds = holds p (with_facts k all) (only_present p w) world_exact

  pub world_ready : IsReady p all k.expiries k.clock
  world_ready = whole_ready p (with_facts k all) w st.seen.whole

  -- their tags are below the next
  pub all_below : (tag : ℕ) (f : Fact) → map.get all tag ≡ Some f → tag < k.next_tag
  all_below tag f e =
      let i = world_holds.to tag f e in
      let lt : f.tag.0 < w.next_tag = below_of w.next_tag (present p w) world_exact.lawful.ordered.fresh f i.0 in
      let own : f.tag.0 ≡ tag = i.1 in
      let same : k.next_tag ≡ w.next_tag = st.seen.whole.mirrors.next_tag in
      omega (arith, lt, own, same)

  -- a fact of the store is seen in the world
  pub store_seen : (tag : ℕ) (f : Fact) → map.get k.facts tag ≡ Some f → (sight_of p w).facts tag ≡ Some f
  store_seen tag f e = only_some _ (fact_at (present p w) tag) f (sym (st.holds.store tag) ∙ e)

  -- the retention covers the store, at each later clock
  pub covered_at : (now : ℤ) → w.clock ≤ℤ now → Covers (ends_of (ends_by s.lives) (map.get k.facts)) now m.retention
  covered_at now le = later_covers (ends_by s.lives) (sight_of p w) now (holding k m.retention) st.holds le

  pub on_time : w.clock ≤ℤ k.clock
  on_time = not_after k.clock w.clock st.seen.whole.mirrors.clock

  -- what the network is led to where no rule needs a forgotten fact
  pub leads_on : (step : Step) → Runs s → step_fault p w step ≡ None → (t : Contents) (behind both : HeldFacts) (gone : List ℕ) (come : Option Fact) (more : HeldFacts)
      → LeadsStep p all k.clock behind t.clock both gone come → Mirrors p (with_facts t behind) (only_present p (stepped p w step)) → ((tag : ℕ) → In tag gone → (f : Fact) × (map.get k.facts tag ≡ Some f))
      → ((f : Fact) → come ≡ Some f → k.next_tag ≤ f.tag.0) → HasAtHand both more gone forgotten → LeadsOn p all (instant_of k) behind (instant_of t) both gone come forgotten more
  leads_on step runs none t behind both gone come more leads mirrors held new hand = record {
    leads = leads;
    goes_on =
        subst (λ (r : Reached). NeverFalls r (reached_of t)) (sym st.seen.whole.mirrors.reached)
        (subst (NeverFalls w.reached) (sym mirrors.reached) (reaches_on p w step st.seen.whole.lawful none));
    unneeded = not_needed s m k w st step runs none behind (instant_of t) both gone come leads mirrors.facts mirrors.clock mirrors.reached held new;
    at_hand = hand;
  }
