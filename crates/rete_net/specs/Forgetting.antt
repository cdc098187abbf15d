-- What a step asks of facts that have been forgotten, and which of them may go from a snapshot.
use Rattle.std.specs.{Prelude.{◌≡◌, ◌==◌, ◌&&◌, not, ℕ, ℤ, Bool, true, false, List, take, Option, Some, None, slice_get}, List.{filter}}
use Rattle.fx_base.specs.{Lists.{In}, declared.fact.Fact.{Fact}}
use Rattle.row_delta.specs.declared.row.{Named.{Named}, Row.{Row}}
use Rattle.rule_model.specs.declared.{condition.{Condition.{Condition, TheVariants.{Plain}}, WindowTag.TheVariants.{Time}}, program.Program.{Program}}
use Rattle.rule_model.specs.{declared.program.Rule.{Rule}, Rows.{pattern_of}, Simple.{is_observed_in}, Snapshots.{Snapshot}, Tuples.{name_of}}
use Rattle.rule_model.specs.Types.{expiry_of}
use Rattle.join_tests.specs.Joins.{joins}
use Rattle.condition_rows.specs.Sets.{held, candidates_of, rows_of}

-- Beside this row the condition counts or gathers no forgotten fact. One that binds a fact counts nothing.
abbrev pub CountsNone : Condition → Program → Snapshot → (Named → Bool) → Row → Type 0
CountsNone (Plain pattern) p s forgotten row = Unit {0}
CountsNone c p s forgotten row = (who : Named) → forgotten who ≡ true → (candidates_of p (pattern_of c) s who && joins (pattern_of c) (held s) row who) ≡ false

-- In a step from one snapshot to the next no rule needs a forgotten fact: none of them goes or comes, they are candidates of the rules'
-- conditions as they were, and no condition counts one beside a row that comes.
pub record AreNotNeeded (p : Program) (forgotten : Named → Bool) (s next : Snapshot) (gone : List Fact) (come : Option Fact) : Type 0 where
  pub none_goes : (f : Fact) → In f gone → forgotten (name_of f) ≡ false
  pub none_comes : (f : Fact) → come ≡ Some f → forgotten (name_of f) ≡ false
  pub same_candidates : (rule : Rule) → In rule p.rules → (c : Condition) → In c rule.conditions → (who : Named) → forgotten who ≡ true
      → candidates_of p (pattern_of c) next who ≡ candidates_of p (pattern_of c) s who
  pub none_counted : (rule : Rule) → In rule p.rules → (q : ℕ) (c : Condition) → slice_get rule.conditions q ≡ Some c
      → (row : Row) → rows_of p next (take q rule.conditions) row ≡ true → rows_of p s (take q rule.conditions) row ≡ false → CountsNone c p next forgotten row

-- ---- a fact that goes

-- the snapshot without a fact
abbrev pub snapshot_without : Snapshot → Fact → Snapshot
snapshot_without s f = record s { facts = filter (λ (g : Fact). not (f.tag.0 == g.tag.0)) s.facts }

-- A forgotten fact of the snapshot that no rule misses when it goes: no condition observes its type, that is, binds no fact or has a window
-- of length; it is inside no window of time; and without an expiry it is present until it goes.
pub record IsUnmissed (p : Program) (s : Snapshot) (forgotten : Named → Bool) (f : Fact) : Type 0 where
  pub there : In f s.facts
  pub known : forgotten (name_of f) ≡ true
  pub unobserved : is_observed_in p.rules f.ty.0 ≡ false
  pub outside : (rule : Rule) → In rule p.rules → (c : Condition) → In c rule.conditions → (span : ℤ) → (pattern_of c).window ≡ Time span → candidates_of p (pattern_of c) s (name_of f) ≡ false
  pub lasting : expiry_of p f.ty.0 ≡ None
