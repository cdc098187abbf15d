-- What is told of a world in numbers.
use Rattle.std.specs.{Prelude.{◌==◌, ℕ, ℤ, List, map, length}, List.{filter, range_with_len}}
use Rattle.fx_base.specs.declared.fact.Fact.{Fact}
use Rattle.rule_model.specs.{declared.{life.LifeTable.{LifeTable}, program.Program.{Program}}, Snapshots.{floor}}
use Rattle.rule_world.specs.Worlds.{World, snapshot, pending}
use Rattle.kept_meaning.specs.Kept.{kept_facts}
use Rattle.engine.specs.declared.world_counts.WorldCounts.{WorldCounts}

-- how many of these facts are of a type
abbrev pub count_of_type : List Fact → ℕ → ℕ
count_of_type facts ty = length (filter (λ (f : Fact). f.ty.0 == ty) facts)

-- for each type of a program, by its place, how many of the facts that are kept of a world with these lives are of it
unfoldable pub kept_counts : Program → LifeTable → World → List ℕ
kept_counts p table w = map (count_of_type (kept_facts p table w)) (range_with_len 0 (length p.types))

-- the floor of each entry point of a program, by its place
unfoldable pub floors : Program → World → List ℤ
floors p w = map (floor p (snapshot w)) (range_with_len 0 (length p.entries))

-- how many matches are pending; in a lawful world each stands once in their list
unfoldable pub pending_count : Program → World → ℕ
pending_count p w = length (pending p w)

abbrev pub world_counts : Program → LifeTable → World → WorldCounts
world_counts p table w = record {
  clock = w.clock;
  facts = kept_counts p table w;
  floors = floors p w;
  pending = pending_count p w;
}
