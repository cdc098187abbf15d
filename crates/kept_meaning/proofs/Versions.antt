-- Versions of the facts of a world, before a step and behind it.
use Rattle.kept_meaning.proofs.Common.{◌≡◌, not, true, false, Option, Some, None, refl, ap, In, Fact, Named, LifeTable, Program, Step, name_of, IsOrdered}
use Rattle.kept_meaning.proofs.Common.{World, snapshot, moved, version_at, held, held_fact, version_of, version_in, is_kept, is_lost, numbered, move_numbered}
use Rattle.{kept_meaning.{proofs.Common.{not-true}, specs.Kept.{is_forgotten}}, rule_model.specs.Distinct.{HaveDistinctTags}}

-- ---- what is forgotten

module _ (p : Program) (table : LifeTable) (w : World) where
  -- the fact that a forgotten version is
  pub record IsLost (who : Named) : Type 0 where
    pub fact : Fact
    pub inside : In fact w.facts
    pub named : name_of fact ≡ who
    pub not_kept : is_kept p table w fact ≡ false

  lost_by : (who : Named) (there : Option Fact) → version_at (held (snapshot w)) who ≡ there → is_lost p table w there ≡ true → IsLost who
  lost_by who None at e = absurd (let n : false ≡ true = e in cc)
  lost_by who (Some f) at e = let v = version_in (snapshot w) who f at in record { fact = f; inside = v.0; named = v.1; not_kept = not-true (is_kept p table w f) e }

  pub lost : (who : Named) → is_forgotten p table w who ≡ true → IsLost who
  unfolding is_forgotten
  lost who e = lost_by who (version_at (held (snapshot w)) who) refl e

  pub forgotten_fact : HaveDistinctTags w.facts → (f : Fact) → In f w.facts → is_forgotten p table w (name_of f) ≡ not (is_kept p table w f)
  unfolding is_forgotten
  forgotten_fact d f i = ap (is_lost p table w) (version_of (held (snapshot w)) f (held_fact (snapshot w) d f i))

-- ---- behind a step

module _ (p : Program) (w : World) (step : Step) (law : IsOrdered p w) where
  pub tags_behind : HaveDistinctTags (moved p w step).facts
  tags_behind = (move_numbered p w step (numbered p w law)).tags
