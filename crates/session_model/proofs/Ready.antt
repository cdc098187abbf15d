-- A session stays ready for its network, and its steps are those that the network takes.
use Rattle.session_model.proofs.Common.{◌≡◌, ◌∙◌, ◌⊎◌, inl, inr, ℕ, ℤ, pos, ◌<◌, ◌≤◌, ◌≤ℤ◌, ◌-ℤ◌, ◌||◌, not, true, false, nat_eq, List, [], ◌∷◌, Option, Some}
use Rattle.session_model.proofs.Common.{None, refl, sym, ap, subst, list_any, In, Fact, Timers, TakesDue, has_come, is_due, HeldFacts, from_list, from_map}
use Rattle.session_model.proofs.Common.{tags_rise, Program, is_within, is_event, expiry_of, most_millis, IsOrderly, IsReady, LeadsStep, expiry_at, fact_left_at}
use Rattle.session_model.{proofs.{Common.{HaveOwnTags}, Leaving.{due_once, one_gone}, Members.{of_insert, of_remove}}, specs.Following.{facts_at_clock}}
use Rattle.{session_model.proofs.Timers.{left_found}, std.{specs.Int.Signed.{≤ℤ_refl}, proofs.lemmas.Bool.{or_right}}, rule_model.specs.Candidates.{is_present}}
use Rattle.fx_base.proofs.Orders.{eqb-self}
use Rattle.std.specs.FinMap as map

-- a fact as the network wants it
pub record IsFit (p : Program) (clock : ℤ) (f : Fact) : Type 0 where
  pub present : is_present p clock f ≡ true
  pub low : is_event p f.ty.0 ≡ true → pos 0 ≤ℤ f.times.start
  pub high : is_event p f.ty.0 ≡ true → f.times.start ≤ℤ most_millis

-- facts that are fit, each at its own tag
pub kept_of : (p : Program) (held : HeldFacts) (clock : ℤ) → HaveOwnTags held → ((tag : ℕ) (f : Fact) → map.get held tag ≡ Some f → IsFit p clock f) → IsOrderly p (facts_at_clock held clock)
kept_of p held clock own fit = record {
  in_order = tags_rise held own;
  present = λ f i. let r = from_list held f i in (fit r.0 f r.1).present;
  low = λ f i. let r = from_list held f i in (fit r.0 f r.1).low;
  high = λ f i. let r = from_list held f i in (fit r.0 f r.1).high;
}

-- a plain fact
fit_plain : (p : Program) (clock : ℤ) (f : Fact) → is_event p f.ty.0 ≡ false → IsFit p clock f
unfolding is_present
fit_plain p clock f plain = record {
  present = ap (λ b. not b || is_within (expiry_of p f.ty.0) (clock -ℤ f.times.start)) plain;
  low = λ e. absurd (let n : false ≡ true = sym plain ∙ e in cc);
  high = λ e. absurd (let n : false ≡ true = sym plain ∙ e in cc);
}

in_any : (n : ℕ) (tags : List ℕ) → In n tags → list_any (nat_eq n) tags ≡ true
in_any n [] i = absurd i
in_any n (tag ∷ tags) (inl e) = ap (λ m. nat_eq n m || list_any (nat_eq n) tags) (sym e) ∙ ap (λ b. b || list_any (nat_eq n) tags) (eqb-self n)
in_any n (tag ∷ tags) (inr i) = or_right (nat_eq n tag) (list_any (nat_eq n) tags) (in_any n tags i)

module _ (p : Program) (facts : HeldFacts) (timers : Timers) (clock : ℤ) (r : IsReady p facts timers clock) where
  fit_of : (tag : ℕ) (f : Fact) → map.get facts tag ≡ Some f → IsFit p clock f
  fit_of tag f e =
      let i = from_map facts f tag e in
      record { present = r.kept.present f i; low = r.kept.low f i; high = r.kept.high f i }

  -- ---- one fact more

  module _ (f : Fact) (fit : IsFit p clock f) (more : HeldFacts) (made : more ≡ map.insert facts f.tag.0 f) where
    of_more : (tag : ℕ) (g : Fact) → map.get more tag ≡ Some g → ((g ≡ f) × (tag ≡ f.tag.0)) ⊎ (map.get facts tag ≡ Some g)
    of_more tag g e = of_insert facts f g tag (ap (λ m. map.get m tag) (sym made) ∙ e)

    own_more : HaveOwnTags more
    own_more tag g e = elim (of_more tag g e) [ inl q ↦ ap (λ (z : Fact). z.tag.0) q.0 ∙ sym q.1 | inr h ↦ r.own tag g h ]

    fit_more : (tag : ℕ) (g : Fact) → map.get more tag ≡ Some g → IsFit p clock g
    fit_more tag g e = elim (of_more tag g e) [ inl q ↦ subst (IsFit p clock) (sym q.0) fit | inr h ↦ fit_of tag g h ]

    pub lead_new : ((tag : ℕ) (g : Fact) → map.get facts tag ≡ Some g → tag < f.tag.0) → LeadsStep p facts clock more clock more [] (Some f)
    lead_new above = record {
      later = ≤ℤ_refl clock;
      kept_before = r.kept;
      kept_behind = kept_of p more clock own_more fit_more;
      own = own_more;
      comes = (made, above);
      once = tt;
      held = λ tag i. absurd i;
      left = λ tag. refl;
    }

  -- ---- one fact less

  module _ (less : HeldFacts) (out : ℕ) (made : less ≡ map.remove facts out) where
    was : (tag : ℕ) (g : Fact) → map.get less tag ≡ Some g → map.get facts tag ≡ Some g
    was tag g e = of_remove facts g out tag (ap (λ m. map.get m tag) (sym made) ∙ e)

    pub lead_less : (f : Fact) → map.get facts out ≡ Some f → LeadsStep p facts clock less clock facts (out ∷ []) None
    lead_less f there = record {
      later = ≤ℤ_refl clock;
      kept_before = r.kept;
      kept_behind = kept_of p less clock (λ tag g e. r.own tag g (was tag g e)) (λ tag g e. fit_of tag g (was tag g e));
      own = r.own;
      comes = refl;
      once = (λ i. i, tt);
      held = λ tag i. elim i [ inl e ↦ (f, ap (map.get facts) e ∙ there) | inr k ↦ absurd k ];
      left = one_gone facts facts less [] out (λ t. refl) made;
    }

  -- ---- a plain fact revised

  module _ (out : ℕ) (f g : Fact) (all behind : HeldFacts) (there : map.get facts out ≡ Some f) (plain : is_event p g.ty.0 ≡ false) (made : all ≡ map.insert facts g.tag.0 g)
      (left : behind ≡ map.remove all out) where
    of_behind : (tag : ℕ) (x : Fact) → map.get behind tag ≡ Some x → map.get all tag ≡ Some x
    of_behind tag x e = of_remove all x out tag (ap (λ m. map.get m tag) (sym left) ∙ e)

    own_all : HaveOwnTags all
    own_all = own_more g (fit_plain p clock g plain) all made

    kept_revised : IsOrderly p (facts_at_clock behind clock)
    kept_revised = kept_of p behind clock (λ tag x e. own_all tag x (of_behind tag x e)) (λ tag x e. fit_more g (fit_plain p clock g plain) all made tag x (of_behind tag x e))

    pub lead_revised : ((tag : ℕ) (x : Fact) → map.get facts tag ≡ Some x → tag < g.tag.0) → LeadsStep p facts clock behind clock all (out ∷ []) (Some g)
    lead_revised above = record {
      later = ≤ℤ_refl clock;
      kept_before = r.kept;
      kept_behind = kept_revised;
      own = own_all;
      comes = (made, above);
      once = (λ i. i, tt);
      held = λ tag i. elim i [ inl e ↦ (f, ap (map.get facts) e ∙ there) | inr k ↦ absurd k ];
      left = one_gone all all behind [] out (λ t. refl) left;
    }

  -- ---- a later clock

  module _ (next : ℤ) (later : Timers) (gone : List ℕ) (takes : TakesDue next timers later gone) (fewer : HeldFacts) (left : (tag : ℕ) → map.get fewer tag ≡ fact_left_at facts gone tag) where
    stays : (tag : ℕ) (g : Fact) → map.get fewer tag ≡ Some g → (map.get facts tag ≡ Some g) × (is_present p next g ≡ true)
    stays tag g e = left_found p facts timers r.waits next later gone takes tag g (sym (left tag) ∙ e)

    own_left : HaveOwnTags fewer
    own_left tag g e = r.own tag g (stays tag g e).0

    kept_left : IsOrderly p (facts_at_clock fewer next)
    kept_left = kept_of p fewer next own_left (λ tag g e. let s = stays tag g e in let fit = fit_of tag g s.0 in record { present = s.1; low = fit.low; high = fit.high })

    due_there : (tag : ℕ) → In tag gone → (f : Fact) × (map.get facts tag ≡ Some f)
    due_there tag i = by (map.get facts tag) refl
      where
        due : is_due next timers tag ≡ true
        due = sym (takes.due tag) ∙ in_any tag gone i

        by : (o : Option Fact) → map.get facts tag ≡ o → (f : Fact) × (map.get facts tag ≡ Some f)
        by None e = absurd (let n : false ≡ true = sym (ap (has_come next) (r.waits tag ∙ ap (expiry_at p) e)) ∙ due in cc)
        by (Some f) e = (f, e)

    pub lead_later : clock ≤ℤ next → LeadsStep p facts clock fewer next facts gone None
    lead_later le = record {
      later = le;
      kept_before = r.kept;
      kept_behind = kept_left;
      own = r.own;
      comes = refl;
      once = due_once timers gone takes.in_order;
      held = due_there;
      left = left;
    }
