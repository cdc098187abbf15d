-- How many events of each event type of a program are kept: of a store by the ids of its facts, of a world by the facts that are kept of it.
use Rattle.std.specs.{Prelude.{◌==◌, ℕ, List, [], ◌∷◌, map, length}, List.{filter}}
use Rattle.rule_model.specs.{Types.{event_types}, declared.{life.LifeTable.{LifeTable}, program.Program.{Program}}}
use Rattle.fx_base.specs.declared.{fact.Fact.{Fact}, ids.TypeId.{TypeId}}
use Rattle.fact_store.specs.Held.{HeldFacts, CountsType}
use Rattle.rule_world.specs.Worlds.{World}
use Rattle.kept_meaning.specs.Kept.{kept_facts}

-- ---- of a world

-- the facts of a type among these
abbrev pub facts_of_type : ℕ → List Fact → List Fact
facts_of_type ty facts = filter (λ (f : Fact). f.ty.0 == ty) facts

-- for each event type of a program, in their order, how many of the facts that are kept of a world with these lives are of it
unfoldable pub held_counts : Program → LifeTable → World → List ℕ
held_counts p table w = map (λ (ty : TypeId). length (facts_of_type ty.0 (kept_facts p table w))) (event_types p.types 0)

-- ---- of a store

-- each is the count of the type in its place
abbrev pub AreCounts : HeldFacts → List TypeId → List ℕ → Type 0
AreCounts held [] [] = Unit {0}
AreCounts held [] (count ∷ counts) = ⊥
AreCounts held (ty ∷ types) [] = ⊥
AreCounts held (ty ∷ types) (count ∷ counts) = CountsType held ty.0 count × AreCounts held types counts
