-- The second phase of steps and of firings.
use Rattle.forgetting_laws.proofs.Common.{◌≡◌, ℕ, ℤ, ◌&&◌, ◌||◌, Bool, true, false, cond, not, refl, sym, ◌∙◌, ap, Option, Some, None, option_and_then, is_some}
use Rattle.forgetting_laws.proofs.Common.{Fact, Match, has_match, has_come, names_tag, lingers, Covers, without, same_watched, Lives, TagWorld, only, is_needed}
use Rattle.forgetting_laws.proofs.Common.{is_kept_fact, kept, is_kept_tag, some_tag, each_tag, ends_of, brought, changed, KeptBeforeStep, is_named, Watches}
use Rattle.forgetting_laws.proofs.{Common.{is_old, Holding, HoldsKept, HasLeft, Forgets}, Before.{chosen, kept_here}, Naming.{any_alike, each_next}}
use Rattle.{retention.proofs.{Leaving.{left_law}, Past.{past_law}}, fx_base.proofs.Tests.{and_is}}

-- ---- the store, at one tag

-- whether there is a fact and it passes
abbrev passes : (Fact → Bool) → Option Fact → Bool
passes test None = false
passes test (Some f) = test f

come_is : (lives : Lives) (clock : ℤ) (o : Option Fact) → has_come clock (option_and_then lives o) ≡ passes (λ f. has_come clock (lives f)) o
come_is lives clock None = refl
come_is lives clock (Some f) = refl

-- past: past its life, n: needed, d: forgotten now
one_fact : (past n d : Bool) (f : Fact) → d ≡ (past && not n) → cond d None (Some f) ≡ cond (not past || n) (Some f) None
one_fact true true d f e = ap (λ t. cond t None (Some f)) e
one_fact true false d f e = ap (λ t. cond t None (Some f)) e
one_fact false n d f e = ap (λ t. cond t None (Some f)) e

no_fact : (d : Bool) → cond {A = Option Fact} d None None ≡ None
no_fact true = refl
no_fact false = refl

none_kept : (u : Bool) (f : Fact) → (u ≡ true → false ≡ true) → None ≡ cond u (Some f) None
none_kept true f e = absurd (let g : false ≡ true = e refl in cc)
none_kept false f e = refl

pub two_tests : (a b : Fact → Bool) (f : Fact) → only b (only a (Some f)) ≡ cond (a f && b f) (Some f) None
two_tests a b f = by (a f)
  where
    by : (k : Bool) → only b (cond k (Some f) None) ≡ cond (k && b f) (Some f) None
    by true = refl
    by false = refl

store_at : (was_kept past : Fact → Bool) (n d : Bool) (new : Option Fact) (out : Fact → Bool) (there : Option Fact)
    → d ≡ (passes past (changed new out (only was_kept there)) && not n)
    → ((f : Fact) → there ≡ Some f → only (λ f. not (past f) || n) (changed new out there) ≡ Some f → was_kept f ≡ true)
    → cond d None (changed new out (only was_kept there)) ≡ only (λ f. not (past f) || n) (changed new out there)
store_at was_kept past n d (Some f) out there e before = one_fact (past f) n d f e
store_at was_kept past n d None out None e before = no_fact d
store_at was_kept past n d None out (Some f) e before =
    let same = two_tests was_kept (λ x. not (out x)) f in
    ap (cond d None) same ∙ by (was_kept f) (out f) (e ∙ ap (λ o. passes past o && not n) same) (before f refl)
  where
    keep : Fact → Bool
    keep x = not (past x) || n

    -- k: was kept, g: goes out
    by : (k g : Bool) → d ≡ (passes past (cond (k && not g) (Some f) None) && not n) → (only keep (cond (not g) (Some f) None) ≡ Some f → k ≡ true)
        → cond d None (cond (k && not g) (Some f) None) ≡ only keep (cond (not g) (Some f) None)
    by true true e b = no_fact d
    by false true e b = no_fact d
    by true false e b = one_fact (past f) n d f e
    by false false e b = no_fact d ∙ none_kept (keep f) f (λ u. b (ap (λ t. cond t (Some f) None) u))

-- a fact that stays is no new one, and does not go out
stays : (new there : Option Fact) (out keep : Fact → Bool) → (is_some new ≡ true → there ≡ None) → is_some there ≡ true → is_some (changed new out there) ≡ true
    → changed new out (only keep there) ≡ only keep there
stays (Some f) there out keep fresh here next = absurd (let e : false ≡ true = sym (ap is_some (fresh refl)) ∙ here in cc)
stays None None out keep fresh here next = absurd (let e : false ≡ true = here in cc)
stays None (Some f) out keep fresh here next =
    two_tests keep (λ x. not (out x)) f ∙ ap (λ t. cond t (Some f) None) (and_is (keep f) (not (out f)) (sym (chosen (not (out f)) f) ∙ next))

-- where nothing comes and nothing goes out
pub all_stay : (o : Option Fact) → o ≡ changed None (λ f. false) o
all_stay None = refl
all_stay (Some f) = refl

left_over : (d : Bool) (o : Option Fact) → is_some (cond d None o) ≡ (is_some o && not d)
left_over true None = refl
left_over true (Some f) = refl
left_over false None = refl
left_over false (Some f) = refl

ends_less : (lives : Lives) (d : Bool) (o : Option Fact) → cond d None (option_and_then lives o) ≡ option_and_then lives (cond d None o)
ends_less lives true o = refl
ends_less lives false o = refl

-- ---- the phase

-- what the first phase of a step or of a firing leaves, and what the second one makes of it
pub record IsForgotten (lives : Lives) (new : Option Fact) (out : Fact → Bool) (was is : TagWorld) (before middle after : Holding) (left old : ℕ → Bool) : Type 0 where
  pub facts : (tag : ℕ) → is.facts tag ≡ changed (brought new tag) out (was.facts tag)
  pub fresh : (tag : ℕ) → is_some (brought new tag) ≡ true → was.facts tag ≡ None
  pub kept_before : KeptBeforeStep lives was is
  pub holds : HoldsKept lives was before
  pub store : (tag : ℕ) → middle.store tag ≡ changed (brought new tag) out (before.store tag)
  pub covered : Covers (ends_of lives middle.store) is.clock middle.retention
  pub lingering : (tag : ℕ) → lingers middle.retention tag ≡ true → lingers before.retention tag ≡ true
  pub pending : (m : Match) → has_match middle.agenda.pending m ≡ has_match is.pending m
  pub leaves : HasLeft before.agenda middle.agenda left
  pub forgets : Forgets is.clock left middle after old

module _ {lives : Lives} {new : Option Fact} {out : Fact → Bool} {was is : TagWorld} {before middle after : Holding} {left old : ℕ → Bool}
    (r : IsForgotten lives new out was is before middle after left old) where
  abbrev ends : ℕ → Option ℤ
  ends = ends_of lives middle.store

  needed : (tag : ℕ) → is_named middle.agenda tag ≡ is_needed is tag
  needed tag = any_alike (names_tag tag) middle.agenda.pending is.pending r.pending

  told : ((tag : ℕ) → old tag ≡ is_old ends is.clock (is_named middle.agenda) tag) × Watches (without ends old) is.clock (is_named middle.agenda) after.retention
  told =
      past_law ends is.clock left (is_named middle.agenda) middle.retention after.retention old r.covered
      (λ tag l free.
      left_law before.agenda middle.agenda left r.leaves tag
      (any_alike (names_tag tag) before.agenda.pending was.pending r.holds.pending ∙ r.holds.watched.needed tag (r.lingering tag l)) free)
      r.forgets.told

  -- the store behind both phases, from what was kept and as what is kept
  was_stored : (tag : ℕ) → middle.store tag ≡ changed (brought new tag) out (kept lives was tag)
  was_stored tag = r.store tag ∙ ap (changed (brought new tag) out) (r.holds.store tag)

  stored : (tag : ℕ) → cond (old tag) None (changed (brought new tag) out (kept lives was tag)) ≡ kept lives is tag
  stored tag =
      store_at (is_kept_fact lives was tag) (λ f. has_come is.clock (lives f)) (is_needed is tag) (old tag) (brought new tag) out (was.facts tag)
      (told.0 tag ∙ ap (λ t. has_come is.clock (ends tag) && not t) (needed tag)
      ∙ ap (λ t. t && not (is_needed is tag)) (come_is lives is.clock (middle.store tag) ∙ ap (passes (λ f. has_come is.clock (lives f))) (was_stored tag)))
      (λ f there now. sym (kept_here lives was tag f there) ∙ r.kept_before tag f there (ap (only (is_kept_fact lives is tag)) (r.facts tag) ∙ now))
      ∙ ap (only (is_kept_fact lives is tag)) (sym (r.facts tag))

  behind : (tag : ℕ) → after.store tag ≡ kept lives is tag
  behind tag = r.forgets.store tag ∙ ap (cond (old tag) None) (was_stored tag) ∙ stored tag

  -- a match of both worlds names kept facts alone where it did and names nothing old
  pub still_kept : (m : Match) → each_tag (λ tag. is_some (was.facts tag)) m ≡ true → each_tag (λ tag. is_some (is.facts tag)) m ≡ true
      → each_tag (is_kept_tag lives is) m ≡ (each_tag (is_kept_tag lives was) m && not (some_tag old m))
  still_kept m =
      each_next (λ tag. is_some (was.facts tag)) (λ tag. is_some (is.facts tag)) (is_kept_tag lives is) (is_kept_tag lives was) old
      (λ tag here there.
      ap is_some (sym (stored tag)
      ∙ ap (cond (old tag) None) (stays (brought new tag) (was.facts tag) out (is_kept_fact lives was tag) (r.fresh tag) here (ap is_some (sym (r.facts tag)) ∙ there)))
      ∙ left_over (old tag) (kept lives was tag))
      m.row.facts

  -- what is left to show is which fired matches are there
  pub holds_kept : ((m : Match) → (has_match middle.agenda.fired m && not (some_tag old m)) ≡ (is.fired m && each_tag (is_kept_tag lives is) m)) → HoldsKept lives is after
  holds_kept fired = record {
    store = behind;
    watched =
        same_watched (without ends old) (ends_of lives after.store) is.clock (is_named middle.agenda) (is_needed is) after.retention
        (λ tag. ends_less lives (old tag) (middle.store tag) ∙ ap (option_and_then lives) (sym (r.forgets.store tag))) needed told.1;
    pending = λ m. r.forgets.pending m ∙ r.pending m;
    fired = λ m. r.forgets.fired m ∙ fired m;
  }
