-- Snapshots as a store keeps them, and what leads from one to the next.
use Rattle.std.specs.{Prelude.{ℕ, ◌≡◌, ◌==◌, ◌++◌, not, Bool, true, ℤ, pos, ◌≤ℤ◌, List, map, Option, option_to_list}, List.{filter, list_any}}
use Rattle.std.specs.{List.Sorted.{IsStrictlySortedBy}, Ordering.{nat_cmp}}
use Rattle.fx_base.specs.{Lists.{In}, declared.fact.Fact.{Fact}}
use Rattle.rule_model.specs.{declared.program.Program.{Program}, Candidates.{is_present}, Distinct.{HaveDistinctTags}, Snapshots.{Snapshot, floor}}
use Rattle.rule_model.specs.Types.{is_event}
use Rattle.rule_world.specs.Events.{most_millis}

-- the facts stand in the order of their tags, all of them are present, and the events start from 0 to 2^53
pub record IsOrderly (p : Program) (s : Snapshot) : Type 0 where
  pub in_order : IsStrictlySortedBy nat_cmp (map (λ (f : Fact). f.tag.0) s.facts)
  pub present : (f : Fact) → In f s.facts → is_present p s.clock f ≡ true
  pub low : (f : Fact) → In f s.facts → is_event p f.ty.0 ≡ true → pos 0 ≤ℤ f.times.start
  pub high : (f : Fact) → In f s.facts → is_event p f.ty.0 ≡ true → f.times.start ≤ℤ most_millis

-- one of these facts has the tag of the fact
abbrev pub shares_tag : List Fact → Fact → Bool
shares_tag facts f = list_any (λ (g : Fact). g.tag.0 == f.tag.0) facts

-- The clock and the floors move on or stand, some facts go, and one may come, which is the latest.
pub record MovesSnapshot (p : Program) (s next : Snapshot) (gone : List Fact) (come : Option Fact) : Type 0 where
  pub before : IsOrderly p s
  pub after : IsOrderly p next
  pub clock : s.clock ≤ℤ next.clock
  pub floors : (entry : ℕ) → floor p s entry ≤ℤ floor p next entry
  pub held : (f : Fact) → In f gone → In f s.facts
  pub once : HaveDistinctTags gone
  pub facts : next.facts ≡ filter (λ (f : Fact). not (shares_tag gone f)) s.facts ++ option_to_list come

-- the snapshot, where the clock alone has moved
abbrev pub at_clock : Snapshot → ℤ → Snapshot
at_clock s clock = record s { clock = clock }
