-- What the sight of a world keeps by a table of lives.
use Rattle.forgetting_laws.proofs.Common.{◌≡◌, ℕ, ℤ, ◌==◌, ◌&&◌, ◌||◌, ◌+ℤ◌, Bool, true, false, cond, not, inl, inr, List, [], ◌∷◌, refl, sym, ◌∙◌, ap, subst}
use Rattle.forgetting_laws.proofs.Common.{arith, Option, Some, None, is_some, option_map, int_le, pos, list_any, ints, In, Fact, Named, LifeTable, Match}
use Rattle.forgetting_laws.proofs.Common.{Program, is_present, matches, has_match, name_of, one_fact, IsOrdered, World, snapshot, present, found, revised}
use Rattle.forgetting_laws.proofs.Common.{has_id, kept_ordered, has_pending, has_come, names_tag, clean, end_of_life, ends_by, only, is_needed, is_kept_fact}
use Rattle.forgetting_laws.proofs.Common.{kept, is_kept_tag, is_forgotten_tag, is_clean, fact_at, sight_of, slice_get, of_filter, has_in, pending}
use Rattle.forgetting_laws.proofs.Common.{modified_plain, fact_with, plain_present, forgotten_fact, PlainEndless, ExpiredEndless, ModifyEndless}
use Rattle.forgetting_laws.proofs.{Before.{chosen}, Forgotten.{two_tests}, Naming.{some_in, one_in, holds_of}, Seeing.{tag_of, fact_in, own_at, at_filter}}
use Rattle.{forgetting_laws.proofs.Seeing.{named_present, sight_law}, std.proofs.lemmas.Bool.{and_parts, eq-eqb, eqb-true}}
use Rattle.{rule_model.specs.declared.life.Life.{Life, TheVariants.{Plain, Explicit, Finite, Infinite}}, rule_world.specs.Worlds.{step_fault}}
use Rattle.{life_meaning.{specs.Tables.{AreSafe}, proofs.Safe.{plain_unlisted}}, life_laws.proofs.Still.{always_present}, join_memory.specs.Joined.{has_name}}
use Rattle.{condition_rows.proofs.Ends.{in_name, name_in}, kept_meaning.specs.Kept.{is_alive, is_pending_named, is_kept as is_kept_in}}
use Rattle.{kept_meaning.specs.Kept.{is_forgotten as is_forgotten_in}, fx_base.proofs.Tests.{same_test}}

-- ---- lives that do not end

pub plain_endless : PlainEndless
plain_endless p table f are plain = by (slice_get table.lives f.ty.0) refl
  where
    by : (life : Option Life) → slice_get table.lives f.ty.0 ≡ life → end_of_life life f ≡ None
    by None at = refl
    by (Some Plain) at = refl
    by (Some (Explicit expiry)) at = refl
    by (Some (Finite n)) at = absurd (let e : true ≡ false = sym (are.each f.ty.0 (Finite n) at).1.event ∙ plain in cc)
    by (Some Infinite) at = refl

pub expired_endless : ExpiredEndless
expired_endless p table clock f are gone = by (slice_get table.lives f.ty.0) refl
  where
    by : (life : Option Life) → slice_get table.lives f.ty.0 ≡ life → end_of_life life f ≡ None
    by None at = refl
    by (Some Plain) at = refl
    by (Some (Explicit expiry)) at = refl
    by (Some (Finite n)) at = absurd (let e : true ≡ false = sym (always_present p clock f (are.each f.ty.0 (Finite n) at).1.unexpired) ∙ gone in cc)
    by (Some Infinite) at = refl

pub modify_endless : ModifyEndless
unfolding step_fault
modify_endless p table w id sets are o none = (λ f. by (found p w id.0) refl f, λ tag f at named. here f (fact_in (present p w) tag f at).0 named)
  where
    here : (f : Fact) → In f (present p w) → has_id id.0 f ≡ true → ends_by table f ≡ None
    here f i named =
        plain_endless p table f are (modified_plain p (found p w id.0) f none (fact_with (present p w) id.0 f (kept_ordered p w o).ids i named))

    by : (x : Option Fact) → found p w id.0 ≡ x → (f : Fact) → option_map (revised w.next_tag sets) x ≡ Some f → ends_by table f ≡ None
    by None e f is = absurd (let n : None ≡ Some f = is in cc)
    by (Some g) e f is =
        let s : revised w.next_tag sets g ≡ f = cc in
        ap (ends_by table) (sym s) ∙ plain_endless p table (revised w.next_tag sets g) are (modified_plain p (found p w id.0) g none e)

-- ---- one fact of a world

any_same : (a b : Named → Bool) (ns : List Named) → ((n : Named) → In n ns → a n ≡ b n) → list_any a ns ≡ list_any b ns
any_same a b [] h = refl
any_same a b (n ∷ ns) h = ap (λ t. t || list_any a ns) (h n (inl refl)) ∙ ap (λ t. b n || t) (any_same a b ns (λ k i. h k (inr i)))

within_same : (last clock : ℤ) → not (int_le (last +ℤ pos 1) clock) ≡ int_le clock last
within_same last clock = grind (arith, ints)

module _ (p : Program) (table : LifeTable) (w : World) (are : AreSafe p table) (o : IsOrdered p w) where
  abbrev lives : Fact → Option ℤ
  lives = ends_by table

  pub present_at : (tag : ℕ) → fact_at (present p w) tag ≡ only (is_present p w.clock) (fact_at w.facts tag)
  present_at tag = at_filter (is_present p w.clock) w.facts tag o.tags

  module _ (f : Fact) (inside : In f w.facts) where
    -- a version that a match of the world names by the tag of the fact is that of the fact
    own_name : (m : Match) → In m (pending p w) → (n : Named) → In n m.row.facts → f.tag.0 ≡ n.tag.0 → name_of f ≡ n
    own_name m i n j e =
        let matched = (and_parts (has_match (matches p (snapshot w)) m) (not (has_match w.fired m)) (sym (has_pending p w m) ∙ has_in m (pending p w) i)).0 in
        let g = named_present p w m matched n j in
        let same : f ≡ g.0 = one_fact w.facts o.tags f g.0 inside (of_filter (is_present p w.clock) g.0 w.facts g.1) (ap tag_of (e ∙ ap (λ (k : Named). k.tag.0) (sym g.2))) in
        ap name_of same ∙ g.2

    needed_same : is_needed (sight_of p w) f.tag.0 ≡ is_pending_named p w f
    needed_same = same_test (is_needed (sight_of p w) f.tag.0) (is_pending_named p w f)
        (λ needed.
        let m = one_in (names_tag f.tag.0) (pending p w) needed in
        let n = one_in (λ (k : Named). f.tag.0 == k.tag.0) m.0.row.facts m.2 in
        let own = own_name m.0 m.1 n.0 n.1 (eqb-true f.tag.0 n.0.tag.0 n.2) in
        some_in (λ (x : Match). has_name x.row.facts (name_of f)) m.0 (pending p w) m.1
        (in_name (name_of f) m.0.row.facts (subst (λ (k : Named). In k m.0.row.facts) (sym own) n.1)))
        (λ named.
        let m = one_in (λ (x : Match). has_name x.row.facts (name_of f)) (pending p w) named in
        some_in (names_tag f.tag.0) m.0 (pending p w) m.1
        (some_in (λ (k : Named). f.tag.0 == k.tag.0) (name_of f) m.0.row.facts (name_in (name_of f) m.0.row.facts m.2) (eq-eqb f.tag.0 f.tag.0 refl)))

    -- what a match names is present
    needed_present : fact_at w.facts f.tag.0 ≡ Some f → is_needed (sight_of p w) f.tag.0 ≡ true → is_present p w.clock f ≡ true
    needed_present at needed =
        let m = one_in (names_tag f.tag.0) (pending p w) needed in
        let pends = has_in m.0 (pending p w) m.1 in
        let matched = (and_parts (has_match (matches p (snapshot w)) m.0) (not (has_match w.fired m.0)) (sym (has_pending p w m.0) ∙ pends)).0 in
        sym (chosen (is_present p w.clock f) f)
        ∙ ap is_some (sym (present_at f.tag.0 ∙ ap (only (is_present p w.clock)) at))
        ∙ holds_of (λ tag. is_some (fact_at (present p w) tag)) m.0 f.tag.0 ((sight_law p w o).names m.0 matched) m.2

    same_life : (life : Option Life) → slice_get table.lives f.ty.0 ≡ life → (needed : Bool) → (needed ≡ true → is_present p w.clock f ≡ true)
        → (is_present p w.clock f && (not (has_come w.clock (end_of_life life f)) || needed)) ≡ (is_alive p life w.clock f || needed)
    same_life None at needed seen = ap (λ t. t && true) (plain_present p w.clock f (plain_unlisted p table f.ty.0 are at))
    same_life (Some Plain) at needed seen = ap (λ t. t && true) (plain_present p w.clock f (are.each f.ty.0 Plain at))
    same_life (Some (Explicit expiry)) at needed seen = by (is_present p w.clock f) needed seen
      where
        by : (t n : Bool) → (n ≡ true → t ≡ true) → (t && true) ≡ (t || n)
        by true n h = refl
        by false true h = h refl
        by false false h = refl
    same_life (Some (Finite n)) at needed seen =
        ap (λ t. t && (not (has_come w.clock (end_of_life (Some (Finite n)) f)) || needed)) (always_present p w.clock f (are.each f.ty.0 (Finite n) at).1.unexpired)
        ∙ ap (λ t. t || needed) (within_same (f.times.end +ℤ n) w.clock)
    same_life (Some Infinite) at needed seen = ap (λ t. t && true) (always_present p w.clock f (are.each f.ty.0 Infinite at).1)

    one_kept : fact_at w.facts f.tag.0 ≡ Some f → (is_present p w.clock f && (not (has_come w.clock (lives f)) || is_needed (sight_of p w) f.tag.0)) ≡ is_kept_in p table w f
    unfolding is_kept_in
    one_kept at =
        same_life (slice_get table.lives f.ty.0) refl (is_needed (sight_of p w) f.tag.0) (needed_present at)
        ∙ ap (λ t. is_alive p (slice_get table.lives f.ty.0) w.clock f || t) needed_same

  same_at : (tag : ℕ) (x : Option Fact) → fact_at w.facts tag ≡ x → only (is_kept_fact lives (sight_of p w) tag) (only (is_present p w.clock) x) ≡ only (is_kept_in p table w) x
  same_at tag None at = refl
  same_at tag (Some f) at =
      let own = fact_in w.facts tag f at in
      two_tests (is_present p w.clock) (is_kept_fact lives (sight_of p w) tag) f
      ∙ ap (λ t. cond t (Some f) None)
      (ap (λ k. is_present p w.clock f && (not (has_come w.clock (lives f)) || is_needed (sight_of p w) k)) (sym own.1) ∙ one_kept f own.0 (ap (fact_at w.facts) own.1 ∙ at))

  pub same_kept : (tag : ℕ) → kept lives (sight_of p w) tag ≡ only (is_kept_in p table w) (fact_at w.facts tag)
  same_kept tag = ap (only (is_kept_fact lives (sight_of p w) tag)) (present_at tag) ∙ same_at tag (fact_at w.facts tag) refl

  -- what is forgotten of the present facts
  forgotten_same : (n : Named) (g : Fact) → In g (present p w) → name_of g ≡ n → is_forgotten_tag lives (sight_of p w) n.tag.0 ≡ is_forgotten_in p table w n
  forgotten_same n g i named =
      let inside = of_filter (is_present p w.clock) g w.facts i in
      let keeps : is_kept_tag lives (sight_of p w) g.tag.0 ≡ is_kept_in p table w g =
      ap is_some (same_kept g.tag.0 ∙ ap (only (is_kept_in p table w)) (own_at w.facts o.tags g inside)) ∙ chosen (is_kept_in p table w g) g in
      subst (λ (k : Named). is_forgotten_tag lives (sight_of p w) k.tag.0 ≡ is_forgotten_in p table w k) named
      (ap (λ x. is_some x && not (is_kept_tag lives (sight_of p w) g.tag.0)) (own_at (present p w) (kept_ordered p w o).tags g i) ∙ ap not keeps ∙ sym (forgotten_fact p table w o.tags g inside))

  pub same_clean : (m : Match) → has_match (matches p (snapshot w)) m ≡ true → is_clean lives (sight_of p w) m ≡ clean (is_forgotten_in p table w) m.row
  same_clean m matched =
      ap not (any_same (λ (n : Named). is_forgotten_tag lives (sight_of p w) n.tag.0) (is_forgotten_in p table w) m.row.facts (λ n i.
      let g = named_present p w m matched n i in
      forgotten_same n g.0 g.1 g.2))
