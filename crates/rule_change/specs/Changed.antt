-- Other rules over a running world. `p` has the old ones and `q` the new ones; what a world has stands under the places of `p` before the change, and
-- under those of `q` behind it.
use Rattle.std.specs.{Prelude.{◌≡◌, ◌⊎◌, ◌<◌, ℕ, ℤ, pos, Bool, true, List, [], ◌∷◌, map, Option, Some, None, option_map, slice_get}, List.{filter}}
use Rattle.std.specs.Option.{option_and_then}
use Rattle.fx_base.specs.declared.fact.Fact.{Fact}
use Rattle.rule_model.specs.declared.{action.Action.{Action, TheVariants.{Insert, Modify, Retract}}, condition.Condition.{Condition, TheVariants.{Plain}}}
use Rattle.rule_model.specs.declared.{condition.{Condition.TheVariants.{Negated, Existing, Folded}, Pattern.{Pattern}}, life.Life.{Life}}
use Rattle.rule_model.specs.declared.{life.LifeTable.{LifeTable}, matched.Match.{Match}, program.{EntryInfo.{EntryInfo}, Program.{Program}, Rule.{Rule}}}
use Rattle.rule_model.specs.{declared.program.TypeInfo.{TypeInfo}, Matches.{matches, has_match}, Snapshots.{Reached}}
use Rattle.rule_world.specs.Worlds.{World, snapshot}
use Rattle.change_resolve.specs.Changes.{type_named, entry_named}

-- ---- where the types and the entry points of one program stand in another, by their names

abbrev pub type_in : Program → Program → ℕ → Option (ℕ × TypeInfo)
type_in p q place = option_and_then (λ (ty : TypeInfo). type_named ty.name q.types 0) (slice_get p.types place)

abbrev pub entry_in : Program → Program → ℕ → Option ℕ
entry_in p q place = option_and_then (λ (entry : EntryInfo). entry_named entry.name q.entries 0) (slice_get p.entries place)

abbrev pub place_or_zero : Option ℕ → ℕ
place_or_zero None = 0
place_or_zero (Some place) = place

-- the place in the new rules of a type of the old ones; 0 where there is none
unfoldable pub new_type : Program → Program → ℕ → ℕ
new_type p q ty = place_or_zero (option_map (λ (there : ℕ × TypeInfo). there.0) (type_in p q ty))

-- the same of an entry point
unfoldable pub new_entry : Program → Program → ℕ → ℕ
new_entry p q entry = place_or_zero (entry_in p q entry)

-- ---- what is the same under other places

abbrev pub moved_pattern : Program → Program → Pattern → Pattern
moved_pattern p q pattern = record pattern { ty = record { 0 = new_type p q pattern.ty.0 }; entry = record { 0 = new_entry p q pattern.entry.0 } }

abbrev pub moved_condition : Program → Program → Condition → Condition
moved_condition p q (Plain pattern) = Plain (moved_pattern p q pattern)
moved_condition p q (Negated pattern) = Negated (moved_pattern p q pattern)
moved_condition p q (Existing pattern) = Existing (moved_pattern p q pattern)
moved_condition p q (Folded a) = Folded (record a { pattern = moved_pattern p q a.pattern })

abbrev pub moved_action : Program → Program → Action → Action
moved_action p q (Insert ty args) = Insert (record { 0 = new_type p q ty.0 }) args
moved_action p q (Modify fact sets) = Modify fact sets
moved_action p q (Retract fact) = Retract fact

abbrev pub moved_rule : Program → Program → Rule → Rule
moved_rule p q rule = record rule { conditions = map (moved_condition p q) rule.conditions; actions = map (moved_action p q) rule.actions }

abbrev pub moved_fact : Program → Program → Fact → Fact
moved_fact p q f = record f { ty = record { 0 = new_type p q f.ty.0 }; entry = record { 0 = new_entry p q f.entry.0 } }

-- the moment of an entry point; 0 of one that is new
abbrev pub moment_or_zero : (ℕ → ℤ) → Option ℕ → ℤ
moment_or_zero moment None = pos 0
moment_or_zero moment (Some entry) = moment entry

abbrev pub moved_reached : Program → Program → Reached → Reached
moved_reached p q reached = record {
  last_start = λ entry. moment_or_zero reached.last_start (entry_in q p entry);
  promise = λ entry. moment_or_zero reached.promise (entry_in q p entry);
}

-- ---- which rules stay

-- The rules in these places have the same name, salience, conditions and actions. Of variables no program knows the names.
pub record IsSameRule (p q : Program) (old new : ℕ) : Type 0 where
  pub rule : Rule
  pub was : slice_get p.rules old ≡ Some rule
  pub is : slice_get q.rules new ≡ Some (moved_rule p q rule)

-- For each new rule the place of the old one that stays as it, nothing where it is new. Of several that are the same the first stays as the first, and so on.
pub record AreFrom (p q : Program) (from : ℕ → Option ℕ) : Type 0 where
  pub same : (new old : ℕ) → from new ≡ Some old → IsSameRule p q old new
  pub apart : (a b old : ℕ) → from a ≡ Some old → from b ≡ Some old → a ≡ b
  pub taken : (new old : ℕ) → IsSameRule p q old new
      → (from new ≡ Some old) ⊎ ((other : ℕ) × (other < old) × (from new ≡ Some other)) ⊎ ((other : ℕ) × (other < new) × (from other ≡ Some old))

-- ---- the world behind the change

-- the facts, the clock, the moments and the next numbers of a world, under other places, with no match fired
abbrev pub moved_world : Program → Program → World → World
moved_world p q w = record w { facts = map (moved_fact p q) w.facts; reached = moved_reached p q w.reached; fired = [] }

abbrev pub was_fired : List Match → Match → Option ℕ → Bool
was_fired fired m None = true
was_fired fired m (Some old) = has_match fired (record m { rule = record { 0 = old } })

-- a match of a new rule, or one of a rule that stays which was fired
abbrev pub is_marked : (ℕ → Option ℕ) → List Match → Match → Bool
is_marked from fired m = was_fired fired m (from m.rule.0)

-- The world under the new rules: its matches stay fired, and what a new rule matches is taken as fired.
unfoldable pub changed : Program → Program → (ℕ → Option ℕ) → World → World
changed p q from w = record (moved_world p q w) { fired = filter (is_marked from w.fired) (matches q (snapshot (moved_world p q w))) }

-- ---- the lives behind the change

abbrev pub life_or : Life → Option Life → Life
life_or own None = own
life_or own (Some life) = life

abbrev pub carried_life : LifeTable → Life → Option (ℕ × TypeInfo) → Life
carried_life table own None = own
carried_life table own (Some there) = life_or own (slice_get table.lives there.0)

-- the lives of new types, with these lives of their own, given the old types and the table by which their events were forgotten
unfoldable pub carried_lives : List TypeInfo → LifeTable → List TypeInfo → List Life → List Life
carried_lives old table [] own = []
carried_lives old table (ty ∷ types) [] = []
carried_lives old table (ty ∷ types) (life ∷ own) = carried_life table life (type_named ty.name old 0) ∷ carried_lives old table types own

-- The table by which the world goes on: that of before, and for types that are new the lives of the new rules.
abbrev pub carried : Program → Program → LifeTable → LifeTable → LifeTable
carried p q table own = record { lives = carried_lives p.types table q.types own.lives }
