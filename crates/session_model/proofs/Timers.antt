-- What the facts of a session wait for, where facts come and go.
use Rattle.session_model.proofs.Common.{◌≡◌, ℕ, ℤ, ◌-ℤ◌, ◌+ℤ◌, ◌||◌, not, Bool, true, false, cond, int_lt, nat_eq, is_some, List, Option, Some, None}
use Rattle.session_model.proofs.Common.{if◌then◌else◌, refl, sym, ◌∙◌, ap, arith, int_le, nat_cmp_total, get-insert, get-remove, get-retain_keys, list_any}
use Rattle.session_model.proofs.Common.{nat_cmp, eq_by_cmp, is_eq, Equal, ints, Fact, Timers, has_come, is_due, TakesDue, HeldFacts, tied, itself, Program}
use Rattle.session_model.proofs.Common.{is_within, is_event, expiry_of, end_by, end_of_presence, expiry_at, with_timer, without_timer, fact_left_at}
use Rattle.{session_model.proofs.Members.{got_new, got_old, is_out, not_out}, std.{proofs.lemmas.Bool.{eqb-false, eqb-true}, specs.Bool.{OnTrue, OnFalse}}}
use Rattle.{rule_model.specs.Candidates.{is_present}, fx_base.proofs.Orders.{eq_by_nat_cmp-turned}}
use Rattle.std.specs.FinMap as map

-- what each fact of a map waits for stands among these timers
abbrev pub AreTimed : Program → HeldFacts → Timers → Type 0
AreTimed p held timers = (tag : ℕ) → map.get timers tag ≡ expiry_at p (map.get held tag)

-- a timer is taken out, if it is there
is_there : (timers : Timers) (tag : ℕ) → map.contains_key timers tag ≡ is_some (map.get timers tag)
is_there timers tag = refl

none_there : (o : Option ℤ) → false ≡ is_some o → o ≡ None
none_there None e = refl
none_there (Some at) e = absurd (let n : false ≡ true = e in cc)

pub cancelled : (timers left : Timers) (tag : ℕ) (found : Bool) → found ≡ map.contains_key timers tag → OnTrue found (left ≡ map.remove timers tag) → OnFalse found (left ≡ timers)
    → (other : ℕ) → map.get left other ≡ without_timer timers tag other
cancelled timers left tag true e removed unchanged other =
    ap (λ m. map.get m other) removed ∙ get-remove nat_cmp_total timers tag other ∙ ap (λ b. cond b None (map.get timers other)) (eq_by_nat_cmp-turned other tag)
cancelled timers left tag false e removed unchanged other = ap (λ m. map.get m other) unchanged ∙ by (nat_eq tag other) refl
  where
    by : (b : Bool) → nat_eq tag other ≡ b → map.get timers other ≡ (if b then None else map.get timers other)
    by true h = ap (map.get timers) (sym (eqb-true tag other h)) ∙ none_there (map.get timers tag) (e ∙ is_there timers tag)
    by false h = refl

module _ (p : Program) (held : HeldFacts) (timers : Timers) (timed : AreTimed p held timers) where
  -- ---- one more

  timer_at : (tag : ℕ) (moment : Option ℤ) → map.get timers tag ≡ None → map.get (with_timer timers tag moment) tag ≡ moment
  timer_at tag None none = none
  timer_at tag (Some at) none = get-insert nat_cmp_total timers tag at tag ∙ ap (λ b. cond b (Some at) (map.get timers tag)) (itself tag)

  timer_beside : (tag other : ℕ) (moment : Option ℤ) → eq_by_cmp nat_cmp other tag ≡ false → map.get (with_timer timers tag moment) other ≡ map.get timers other
  timer_beside tag other None apart = refl
  timer_beside tag other (Some at) apart = get-insert nat_cmp_total timers tag at other ∙ ap (λ b. cond b (Some at) (map.get timers other)) apart

  -- whichever of the two tags it is
  new_by : (f : Fact) → map.get held f.tag.0 ≡ None → (tag : ℕ) (b : Bool) → eq_by_cmp nat_cmp tag f.tag.0 ≡ b
      → map.get (with_timer timers f.tag.0 (end_of_presence p f.ty.0 f.times.start)) tag ≡ expiry_at p (map.get (map.insert held f.tag.0 f) tag)
  new_by f free tag true e =
      let same : tag ≡ f.tag.0 = tied tag f.tag.0 e in
      let none : map.get timers f.tag.0 ≡ None = timed f.tag.0 ∙ ap (expiry_at p) free in
      ap (map.get (with_timer timers f.tag.0 (end_of_presence p f.ty.0 f.times.start))) same ∙ timer_at f.tag.0 (end_of_presence p f.ty.0 f.times.start) none
      ∙ ap (expiry_at p) (sym (got_new held f)) ∙ ap (λ t. expiry_at p (map.get (map.insert held f.tag.0 f) t)) (sym same)
  new_by f free tag false e =
      timer_beside f.tag.0 tag (end_of_presence p f.ty.0 f.times.start) e ∙ timed tag
      ∙ ap (expiry_at p) (sym (got_old held f tag (λ same. let n : true ≡ false = sym (ap (λ t. eq_by_cmp nat_cmp t f.tag.0) same ∙ itself f.tag.0) ∙ e in absurd (cc))))

  pub timed_new : (f : Fact) → map.get held f.tag.0 ≡ None → AreTimed p (map.insert held f.tag.0 f) (with_timer timers f.tag.0 (end_of_presence p f.ty.0 f.times.start))
  timed_new f free tag = new_by f free tag (eq_by_cmp nat_cmp tag f.tag.0) refl

  -- ---- one less

  less_by : (out tag : ℕ) (b : Bool) → nat_eq out tag ≡ b → (if b then None else map.get timers tag) ≡ expiry_at p (map.get (map.remove held out) tag)
  less_by out tag true e = sym (ap (λ t. expiry_at p (map.get (map.remove held out) t)) (sym (eqb-true out tag e)) ∙ ap (expiry_at p) (is_out held out))
  less_by out tag false e = timed tag ∙ ap (expiry_at p) (sym (not_out held out tag (λ same. eqb-false out tag e (sym same))))

  pub timed_less : (out : ℕ) (fewer : Timers) → ((tag : ℕ) → map.get fewer tag ≡ without_timer timers out tag) → AreTimed p (map.remove held out) fewer
  timed_less out fewer h tag = h tag ∙ less_by out tag (nat_eq out tag) refl

  -- ---- a plain fact out, and another plain one in

  pub timed_plain : (out : ℕ) (f g : Fact) → map.get held out ≡ Some f → map.get held g.tag.0 ≡ None → is_event p f.ty.0 ≡ false → is_event p g.ty.0 ≡ false
      → AreTimed p (map.insert (map.remove held out) g.tag.0 g) timers
  timed_plain out f g there free plain also tag = in_by (eq_by_cmp nat_cmp tag g.tag.0) refl
    where
      out_by : (b : Bool) → nat_eq out tag ≡ b → map.get timers tag ≡ expiry_at p (map.get (map.remove held out) tag)
      out_by true e =
          let same : out ≡ tag = eqb-true out tag e in
          timed tag ∙ ap (λ t. expiry_at p (map.get held t)) (sym same) ∙ ap (expiry_at p) there ∙ ap (λ b. end_by b (expiry_of p f.ty.0) f.times.start) plain
          ∙ ap (expiry_at p) (sym (is_out held out)) ∙ ap (λ t. expiry_at p (map.get (map.remove held out) t)) same
      out_by false e = timed tag ∙ ap (expiry_at p) (sym (not_out held out tag (λ same. eqb-false out tag e (sym same))))

      in_by : (b : Bool) → eq_by_cmp nat_cmp tag g.tag.0 ≡ b → map.get timers tag ≡ expiry_at p (map.get (map.insert (map.remove held out) g.tag.0 g) tag)
      in_by true e =
          let same : tag ≡ g.tag.0 = tied tag g.tag.0 e in
          ap (map.get timers) same ∙ timed g.tag.0 ∙ ap (expiry_at p) free ∙ ap (λ b. end_by b (expiry_of p g.ty.0) g.times.start) (sym also)
          ∙ ap (expiry_at p) (sym (got_new (map.remove held out) g)) ∙ ap (λ t. expiry_at p (map.get (map.insert (map.remove held out) g.tag.0 g) t)) (sym same)
      in_by false e =
          out_by (nat_eq out tag) refl
          ∙ ap (expiry_at p) (sym (got_old (map.remove held out) g tag (λ same. let n : true ≡ false = sym (ap (λ t. eq_by_cmp nat_cmp t g.tag.0) same ∙ itself g.tag.0) ∙ e in absurd (cc))))

  -- ---- those that are due

  come_by : (event : Bool) (expiry : Option ℤ) (clock start : ℤ) → has_come clock (end_by event expiry start) ≡ not (not event || is_within expiry (clock -ℤ start))
  come_by false expiry clock start = refl
  come_by true None clock start = refl
  come_by true (Some x) clock start = at_end clock start x
    where
      at_end : (clock start x : ℤ) → int_le (start +ℤ x) clock ≡ not (int_lt (clock -ℤ start) x)
      at_end clock start x = grind (arith, ints)

  -- a fact's moment has come where it is not present
  pub come_is_absent : (f : Fact) (clock : ℤ) → has_come clock (end_of_presence p f.ty.0 f.times.start) ≡ not (is_present p clock f)
  unfolding is_present
  come_is_absent f clock = come_by (is_event p f.ty.0) (expiry_of p f.ty.0) clock f.times.start

  module _ (clock : ℤ) (later : Timers) (gone : List ℕ) (takes : TakesDue clock timers later gone) where
    is_gone : (tag : ℕ) → list_any (nat_eq tag) gone ≡ has_come clock (expiry_at p (map.get held tag))
    is_gone tag = takes.due tag ∙ ap (has_come clock) (timed tag)

    -- of the facts those are left that are present
    left_by : (o : Option Fact) (b : Bool) → b ≡ has_come clock (expiry_at p o) → (f : Fact) → o ≡ Some f → (if b then None else o) ≡ (if is_present p clock f then Some f else None)
    left_by o b e f is =
        let come : b ≡ not (is_present p clock f) = e ∙ ap (λ z. has_come clock (expiry_at p z)) is ∙ come_is_absent f clock in
        ap (λ z. if b then None else z) is ∙ ap (λ z. if z then None else Some f) come ∙ turned (is_present p clock f)
      where
        turned : (z : Bool) → (if not z then None else Some f) ≡ (if z then Some f else None)
        turned true = refl
        turned false = refl

    pub left_present : (tag : ℕ) (f : Fact) → map.get held tag ≡ Some f → fact_left_at held gone tag ≡ (if is_present p clock f then Some f else None)
    left_present tag f is = left_by (map.get held tag) (list_any (nat_eq tag) gone) (is_gone tag) f is

    pub left_none : (tag : ℕ) → map.get held tag ≡ None → fact_left_at held gone tag ≡ None
    left_none tag is = by (list_any (nat_eq tag) gone)
      where
        by : (b : Bool) → (if b then None else map.get held tag) ≡ None
        by true = refl
        by false = is

    -- what is left was there, and is present
    pub left_found : (tag : ℕ) (g : Fact) → fact_left_at held gone tag ≡ Some g → (map.get held tag ≡ Some g) × (is_present p clock g ≡ true)
    left_found tag g is = by (map.get held tag) refl
      where
        some_if : (b : Bool) (f : Fact) → is_present p clock f ≡ b → map.get held tag ≡ Some f → (if b then Some f else None) ≡ Some g → (map.get held tag ≡ Some g) × (is_present p clock g ≡ true)
        some_if true f h e k = let s : f ≡ g = cc in (e ∙ k, ap (is_present p clock) (sym s) ∙ h)
        some_if false f h e k = absurd (let n : None ≡ Some g = k in cc)

        by : (o : Option Fact) → map.get held tag ≡ o → (map.get held tag ≡ Some g) × (is_present p clock g ≡ true)
        by None e = absurd (let n : None ≡ Some g = sym (left_none tag e) ∙ is in cc)
        by (Some f) e = some_if (is_present p clock f) f refl e (sym (left_present tag f e) ∙ is)

    kept_by : (tag : ℕ) (b : Bool) → list_any (nat_eq tag) gone ≡ b → is_due clock timers tag ≡ b → cond (not b) (map.get timers tag) None ≡ expiry_at p (if b then None else map.get held tag)
    kept_by tag true e f = refl
    kept_by tag false e f = timed tag

    pub timed_left : (fewer : HeldFacts) → ((tag : ℕ) → map.get fewer tag ≡ fact_left_at held gone tag) → AreTimed p fewer later
    timed_left fewer h tag =
        ap (λ m. map.get m tag) takes.rest
        ∙ get-retain_keys timers (λ key. not (is_due clock timers key)) tag (λ x e. ap (λ key. not (is_due clock timers key)) (sym (tied_to tag x e)))
        ∙ ap (λ b. cond (not b) (map.get timers tag) None) (sym (takes.due tag))
        ∙ kept_by tag (list_any (nat_eq tag) gone) refl (sym (takes.due tag))
        ∙ ap (expiry_at p) (sym (h tag))
      where
        tied_to : (a b : ℕ) → nat_cmp a b ≡ Equal → a ≡ b
        tied_to a b e = tied a b (ap is_eq e)
