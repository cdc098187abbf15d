-- The facts that are kept of a world, in the order of their tags.
use Rattle.std.specs.{Prelude.{List, [], ◌∷◌}, BTreeSet.{insert_key}}
use Rattle.fx_base.specs.declared.fact.Fact.{Fact}
use Rattle.rule_model.specs.{declared.{life.LifeTable.{LifeTable}, program.Program.{Program}}, Distinct.{tag_cmp}}
use Rattle.rule_world.specs.Worlds.{World}
use Rattle.kept_meaning.specs.Kept.{kept_facts}

-- facts, whose tags differ, in the order of their tags
abbrev pub by_tag : List Fact → List Fact
by_tag [] = []
by_tag (f ∷ facts) = insert_key tag_cmp (by_tag facts) f

-- The facts that are kept of a world. The world has them in the order of insertion, in which a version that a modification made keeps the
-- place of the one before it.
unfoldable pub kept_by_tag : Program → LifeTable → World → List Fact
kept_by_tag p table w = by_tag (kept_facts p table w)
