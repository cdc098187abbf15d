-- What is kept behind a step and was there was kept before it.
use Rattle.forgetting_laws.proofs.Common.{◌≡◌, ℤ, ℕ, ◌&&◌, ◌≤ℤ◌, Bool, true, false, cond, not, inl, inr, refl, sym, ◌∙◌, ap, arith, Option, Some, None, is_some}
use Rattle.forgetting_laws.proofs.Common.{ints, Fact, Match, has_match, or_split, has_come, names_tag, Lives, TagWorld, IsSoundSight, only, is_needed}
use Rattle.forgetting_laws.proofs.Common.{is_kept_fact, is_kept_tag, is_forgotten_tag, each_tag, IsStep, KeptBeforeStep, ComeClean, KeptBeforeLaw}
use Rattle.{forgetting_laws.proofs.Naming.{found, witness, holds_of, each_named, free_of}, std.proofs.lemmas.Bool.{and_from, and_parts, not-true, or_left}}
use Rattle.std.proofs.lemmas.Bool.{or_right}

-- ---- the fact under one tag

pub chosen : (k : Bool) (f : Fact) → is_some (cond k (Some f) None) ≡ k
chosen true f = refl
chosen false f = refl

pub kept_here : (lives : Lives) (w : TagWorld) (tag : ℕ) (f : Fact) → w.facts tag ≡ Some f → is_kept_tag lives w tag ≡ is_kept_fact lives w tag f
kept_here lives w tag f there = ap (λ o. is_some (only (is_kept_fact lives w tag) o)) there ∙ chosen (is_kept_fact lives w tag f) f

only_by : (test : Fact → Bool) (g f : Fact) (t : Bool) → test g ≡ t → cond t (Some g) None ≡ Some f → test f ≡ true
only_by test g f true e is = let s : f ≡ g = cc in ap test s ∙ e
only_by test g f false e is = absurd (let n : None ≡ Some f = is in cc)

only_is : (test : Fact → Bool) (o : Option Fact) (f : Fact) → only test o ≡ Some f → test f ≡ true
only_is test None f is = absurd cc
only_is test (Some g) f is = only_by test g f (test g) refl is

-- a fact that a pending match names is kept
pub needed_kept : (lives : Lives) (w : TagWorld) (tag : ℕ) → is_some (w.facts tag) ≡ true → is_needed w tag ≡ true → is_kept_tag lives w tag ≡ true
needed_kept lives w tag there needed = by (w.facts tag) there
  where
    by : (o : Option Fact) → is_some o ≡ true → is_some (only (is_kept_fact lives w tag) o) ≡ true
    by None h = h
    by (Some f) h = chosen (is_kept_fact lives w tag f) f ∙ or_right (not (has_come w.clock (lives f))) (is_needed w tag) needed

-- so a pending match names kept facts alone
pub pending_kept : (lives : Lives) (w : TagWorld) → IsSoundSight w → (m : Match) → has_match w.pending m ≡ true → each_tag (is_kept_tag lives w) m ≡ true
pending_kept lives w lawful m is =
    let matched = (and_parts (w.matches m) (not (w.fired m)) (sym (lawful.pending m) ∙ is)).0 in
    each_named (is_kept_tag lives w) m (λ tag names.
    needed_kept lives w tag (holds_of (λ t. is_some (w.facts t)) m tag (lawful.names m matched) names) (found (names_tag tag) m w.pending names is))

-- ---- a later world

within_before : (was is : ℤ) (o : Option ℤ) → was ≤ℤ is → not (has_come is o) ≡ true → not (has_come was o) ≡ true
within_before was is None le e = refl
within_before was is (Some at) le e = grind (arith, ints)

-- where the clock does not go back it is enough that what is needed was kept
pub kept_before : (lives : Lives) (was is : TagWorld) → was.clock ≤ℤ is.clock
    → ((tag : ℕ) → is_some (was.facts tag) ≡ true → is_needed is tag ≡ true → is_kept_tag lives was tag ≡ true) → KeptBeforeStep lives was is
kept_before lives was is le needed tag f there now =
    elim (or_split (not (has_come is.clock (lives f))) (is_needed is tag) (only_is (is_kept_fact lives is tag) (is.facts tag) f now)) [
      | inl within ↦ kept_here lives was tag f there ∙ or_left _ (is_needed was tag) (within_before was.clock is.clock (lives f) le within)
      | inr n ↦ needed tag (ap is_some there) n
    ]

kept_of : (here keeps : Bool) → here ≡ true → (here && not keeps) ≡ false → keeps ≡ true
kept_of true true e f = refl
kept_of true false e f = sym f
kept_of false keeps e f = absurd (let g : false ≡ true = e in cc)

unmarked : (x y : Bool) → y ≡ true → (x && y) ≡ false → x ≡ false
unmarked true y e f = sym (sym f ∙ e)
unmarked false y e f = refl

module _ (lives : Lives) (new : Option Fact) (out : Fact → Bool) (was is : TagWorld) (lawful : IsSoundSight was) (lawful_now : IsSoundSight is) (step : IsStep new out was is)
    (clean : ComeClean lives was is) (tag : ℕ) (there : is_some (was.facts tag) ≡ true) where
  -- a pending match that names it was pending, or comes
  by_match : (m : Match) → names_tag tag m ≡ true → has_match is.pending m ≡ true → (t : Bool) → was.matches m ≡ t → is_kept_tag lives was tag ≡ true
  by_match m names now true e =
      let both = and_parts (is.matches m) (not (is.fired m)) (sym (lawful_now.pending m) ∙ now) in
      let mark : was.fired m ≡ false = unmarked (was.fired m) (is.matches m) both.0 (sym (step.fired m) ∙ not-true (is.fired m) both.1) in
      let pends = lawful.pending m ∙ and_from (was.matches m) (not (was.fired m)) e (ap not mark) in
      needed_kept lives was tag there (found (names_tag tag) m was.pending names pends)
  by_match m names now false e =
      let both = and_parts (is.matches m) (not (is.fired m)) (sym (lawful_now.pending m) ∙ now) in
      kept_of (is_some (was.facts tag)) (is_kept_tag lives was tag) there (free_of (is_forgotten_tag lives was) m tag (not-true _ (clean m both.0 e)) names)

  was_kept : is_needed is tag ≡ true → is_kept_tag lives was tag ≡ true
  was_kept needed = let w = witness (names_tag tag) is.pending needed in by_match w.0 w.1 w.2 (was.matches w.0) refl

pub kept_before_law : KeptBeforeLaw
kept_before_law lives new out was is lawful lawful_now step clean = kept_before lives was is step.clock (was_kept lives new out was is lawful lawful_now step clean)
