-- What the gate of a pattern needs of the facts of a snapshot.
use Rattle.std.specs.Prelude.{◌≡◌, ◌⊎◌, false}
use Rattle.fx_base.specs.{Lists.{In}, declared.fact.Fact.{Fact}}
use Rattle.rule_model.specs.declared.{condition.{Pattern.{Pattern}, WindowTag.{WindowTag, TheVariants.{Whole, Time, Length}}}, program.Program.{Program}}
use Rattle.rule_model.specs.{Candidates.{fits, is_candidate}, Snapshots.{Snapshot}}

-- a window lets a fact be: it is inside none of a time, and counts for none of a length
abbrev pub IsLetBe : WindowTag → Program → Pattern → Snapshot → Fact → Type 0
IsLetBe Whole p q s f = Unit {0}
IsLetBe (Time span) p q s f = is_candidate p q s f ≡ false
IsLetBe (Length count) p q s f = fits p q s.clock f ≡ false

-- A snapshot has, of the facts of another, all but some that the window of a pattern lets be, and its clock.
pub record HasInFront (p : Program) (q : Pattern) (s t : Snapshot) : Type 0 where
  pub clock : t.clock ≡ s.clock
  pub among : (f : Fact) → In f t.facts → In f s.facts
  pub others : (f : Fact) → In f s.facts → In f t.facts ⊎ IsLetBe q.window p q s f
