-- The kept facts by tag are the kept facts of a lawful world.
use Rattle.{std.{proofs.Common.{◌↔◌}, specs.List.Sorted.{IsStrictlySortedBy}}, fx_base.specs.{Lists.{In}, declared.fact.Fact.{Fact}}}
use Rattle.rule_model.{specs.{declared.{life.LifeTable.{LifeTable}, program.Program.{Program}}, Distinct.{tag_cmp}}, proofs.Once.{marked_once_filter}}
use Rattle.{rule_world.specs.{Lawful.{IsLawful}, Worlds.{World}}, kept_meaning.specs.Kept.{is_kept, kept_facts}, engine.specs.KeptFacts.{kept_by_tag}}
use Rattle.engine.proofs.Sorting.{by_tag_sorted, by_tag_members}

pub kept_sorted : (p : Program) (table : LifeTable) (w : World) → IsStrictlySortedBy tag_cmp (kept_by_tag p table w)
unfolding kept_by_tag
kept_sorted p table w = by_tag_sorted (kept_facts p table w)

pub kept_members : (p : Program) (table : LifeTable) (w : World) → IsLawful p w → (f : Fact) → In f (kept_by_tag p table w) ↔ In f (kept_facts p table w)
unfolding kept_by_tag
kept_members p table w lawful f = by_tag_members (kept_facts p table w) (marked_once_filter (λ (g : Fact). g.tag) (is_kept p table w) w.facts lawful.ordered.tags) f
