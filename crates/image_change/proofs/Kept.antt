-- What is kept of the world under other rules, and what is forgotten, is what it was under the old ones.
use Rattle.image_change.proofs.Common.{Bool, Explicit, Fact, Finite, In, Infinite, IsLawful, IsSafeTable, Life, LifeTable, Match, Named, None, Option, Program}
use Rattle.image_change.proofs.Common.{Some, World, and_parts, ap, ap₂, as_old, carried, cond, false, filtered, has_match, has_pending, is_alive, is_marked}
use Rattle.image_change.proofs.Common.{life_stays, list_any-from, matches, moved_fact, name_of, new_type, not, option_and_then, option_map, pending, refl}
use Rattle.image_change.proofs.{Common.{same_test, slice_get, snapshot, sym, true, version_at, was_fired, ℕ, ℤ, ◌&&◌, ◌==◌, ◌∙◌, ◌≡◌}, Lists.{find_mapped}}
use Rattle.{condition_rows.{proofs.Holding.{version_in}, specs.Sets.{held}}, fx_base.proofs.Sequences.{list_any-In}, join_tests.specs.Joins.{is_named_version}}
use Rattle.{kept_meaning.specs.Kept.{is_forgotten, is_kept, is_lost, is_pending_named}, join_memory.specs.Joined.{has_name}}
use Rattle.rule_change.proofs.{Carrying.{carried_is_safe}, Changing.{alike_at_change}, Matching.{alike_moved, lawful_places, over_moves, same_pending}}
use Rattle.rule_change.{proofs.{Places.{Moves}, Rows.{AreMoved, HasPlace, present_same}}, specs.{Alike.{AreAlike, AreOver}, Changed.{changed}}}
use Rattle.{rule_change.specs.Refused.{IsVerdict}, life_meaning.specs.Tables.{AreLives}, rule_model.{proofs.RuleOf.{has_in, in_has}, specs.Lives.{AreShort}}}
use Rattle.{rule_model.specs.{Matches.{match_of}, declared.life.Life.TheVariants.{Plain}}, std.proofs.Common.{◌||◌}}

-- other rules that are taken over a lawful world
pub record IsTaken (p q : Program) (from : ℕ → Option ℕ) (table own : LifeTable) (w : World) : Type 0 where
  pub over : AreOver p q from
  pub lawful : IsLawful p w
  pub safe : IsSafeTable p table
  pub lives : AreLives q own
  pub short : AreShort own
  pub verdict : IsVerdict p q from table own w None

module _ (p q : Program) (from : ℕ → Option ℕ) (table own : LifeTable) (w : World) (t : IsTaken p q from table own w) where
  abbrev pub next : World
  next = changed p q from w

  abbrev pub goes_on : LifeTable
  goes_on = carried p q table own

  abbrev pub moves : Moves p q
  moves = over_moves p q from t.over

  pub behind : IsLawful q next × AreAlike p q from w next
  behind = alike_at_change p q from w t.over t.lawful

  pub still_safe : IsSafeTable q goes_on
  still_safe = carried_is_safe p q from table own w t.over t.safe t.lives t.short t.verdict

  pub places : (f : Fact) → In f w.facts → HasPlace p f
  places = lawful_places p w t.lawful

  pub are_moved : AreMoved p q moves (snapshot w) (snapshot next)
  are_moved = alike_moved p q from moves w next places behind.1

  -- ---- lives

  alive_by : (f : Fact) → HasPlace p f → (life : Option Life) → is_alive q life w.clock (moved_fact p q f) ≡ is_alive p life w.clock f
  alive_by f at None = refl
  alive_by f at (Some Plain) = refl
  alive_by f at (Some (Explicit expiry)) = present_same p q moves w.clock f at
  alive_by f at (Some (Finite n)) = refl
  alive_by f at (Some Infinite) = refl

  alive_same : (f : Fact) → HasPlace p f
      → is_alive q (slice_get goes_on.lives (new_type p q f.ty.0)) next.clock (moved_fact p q f) ≡ is_alive p (slice_get table.lives f.ty.0) w.clock f
  alive_same f at =
      ap₂ (λ (life : Option Life) (clock : ℤ). is_alive q life clock (moved_fact p q f))
      (life_stays p q from table own t.over t.safe.safe.as_many t.lives.as_many f.ty.0 at.type) behind.1.clock
      ∙ alive_by f at (slice_get table.lives f.ty.0)

  -- ---- pending matches

  -- what is pending is of a rule that stays
  pending_stays : (n : Match) → has_match (pending q next) n ≡ true → (old : ℕ) × (from n.rule.0 ≡ Some old)
  unfolding changed
  pending_stays n e = by (from n.rule.0) refl
    where
      by : (o : Option ℕ) → from n.rule.0 ≡ o → (old : ℕ) × (from n.rule.0 ≡ Some old)
      by None new =
          let parts = and_parts (has_match (matches q (snapshot next)) n) (not (has_match next.fired n)) (sym (has_pending q next n) ∙ e) in
          let fired : has_match next.fired n ≡ true =
          filtered (is_marked from w.fired) n (matches q (snapshot next)) ∙ ap₂ (λ (a b : Bool). a && b) parts.0 (ap (was_fired w.fired n) new) in
          absurd (let torn : false ≡ true = ap not (sym fired) ∙ parts.1 in cc)
      by (Some old) stays = (old, stays)

  named_same : (f : Fact) → is_pending_named q next (moved_fact p q f) ≡ is_pending_named p w f
  named_same f = same_test _ _ to back
    where
      to : is_pending_named q next (moved_fact p q f) ≡ true → is_pending_named p w f ≡ true
      to e =
          let r = list_any-In (λ (n : Match). has_name n.row.facts (name_of f)) (pending q next) e in
          let pends = has_in r.0 (pending q next) r.1 in
          let old = pending_stays r.0 pends in
          list_any-from (λ (n : Match). has_name n.row.facts (name_of f)) (as_old old.0 r.0) (pending p w)
          (in_has (pending p w) (as_old old.0 r.0) (sym (same_pending p q from w next t.over t.lawful behind.1 r.0 old.0 old.1) ∙ pends)) r.2

      back : is_pending_named p w f ≡ true → is_pending_named q next (moved_fact p q f) ≡ true
      back e =
          let r = list_any-In (λ (n : Match). has_name n.row.facts (name_of f)) (pending p w) e in
          let pends = has_in r.0 (pending p w) r.1 in
          let new = t.verdict.2 r.0 pends in
          list_any-from (λ (n : Match). has_name n.row.facts (name_of f)) (match_of new.0 r.0.row) (pending q next)
          (in_has (pending q next) (match_of new.0 r.0.row) (same_pending p q from w next t.over t.lawful behind.1 (match_of new.0 r.0.row) r.0.rule.0 new.1 ∙ pends)) r.2

  -- ---- what is kept

  kept_same : (f : Fact) → In f w.facts → is_kept q goes_on next (moved_fact p q f) ≡ is_kept p table w f
  unfolding is_kept
  kept_same f i = ap₂ (λ (a b : Bool). a || b) (alive_same f (places f i)) (named_same f)

  pub version_moved : (who : Named) → version_at (held (snapshot next)) who ≡ option_map (moved_fact p q) (version_at (held (snapshot w)) who)
  unfolding held changed
  version_moved who =
      ap (option_and_then (λ (f : Fact). cond (is_named_version who f) (Some f) None)) (find_mapped (moved_fact p q) (λ (f : Fact). f.tag.0 == who.tag.0) w.facts)
      ∙ by (held (snapshot w) who.tag)
    where
      of : (b : Bool) (f : Fact) → cond b (Some (moved_fact p q f)) None ≡ option_map (moved_fact p q) (cond b (Some f) None)
      of true f = refl
      of false f = refl

      by : (o : Option Fact) → option_and_then (λ (f : Fact). cond (is_named_version who f) (Some f) None) (option_map (moved_fact p q) o)
          ≡ option_map (moved_fact p q) (option_and_then (λ (f : Fact). cond (is_named_version who f) (Some f) None) o)
      by None = refl
      by (Some f) = of (is_named_version who f) f

  pub forgotten_same : (who : Named) → is_forgotten q goes_on next who ≡ is_forgotten p table w who
  unfolding is_forgotten
  forgotten_same who = ap (is_lost q goes_on next) (version_moved who) ∙ by (version_at (held (snapshot w)) who) refl
    where
      by : (o : Option Fact) → version_at (held (snapshot w)) who ≡ o → is_lost q goes_on next (option_map (moved_fact p q) o) ≡ is_lost p table w o
      by None e = refl
      by (Some f) e = ap not (kept_same f (version_in (snapshot w) who f e).0)
