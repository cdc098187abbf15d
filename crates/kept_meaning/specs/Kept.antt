-- What an engine that forgets keeps of a world, and what it has forgotten, as tests.
use Rattle.std.specs.{Prelude.{◌||◌, not, Bool, true, false, int_le, ℤ, ◌+ℤ◌, List, Option, Some, None, slice_get}, List.{filter, list_any}}
use Rattle.fx_base.specs.declared.fact.Fact.{Fact}
use Rattle.row_delta.specs.declared.row.Named.{Named}
use Rattle.rule_model.specs.declared.{life.{Life.{Life, TheVariants.{Plain, Explicit, Finite, Infinite}}, LifeTable.{LifeTable}}, matched.Match.{Match}}
use Rattle.rule_model.specs.{declared.program.Program.{Program}, Candidates.{is_present}, Tuples.{name_of}}
use Rattle.rule_world.specs.Worlds.{World, snapshot, pending}
use Rattle.join_tests.specs.Joins.{version_at}
use Rattle.join_memory.specs.Joined.{has_name}
use Rattle.condition_rows.specs.Sets.{held}

-- ---- what is kept

-- A life keeps a fact at a moment: a plain fact (what has no life in the table is one) and an event of an endless life always, an event
-- with an explicit expiry while it is present, and one with a finite life until that long behind its end, that moment included.
abbrev pub is_alive : Program → Option Life → ℤ → Fact → Bool
is_alive p None clock f = true
is_alive p (Some Plain) clock f = true
is_alive p (Some (Explicit expiry)) clock f = is_present p clock f
is_alive p (Some (Finite n)) clock f = int_le clock (f.times.end +ℤ n)
is_alive p (Some Infinite) clock f = true

-- a pending match of the world names the fact
abbrev pub is_pending_named : Program → World → Fact → Bool
is_pending_named p w f = list_any (λ (m : Match). has_name m.row.facts (name_of f)) (pending p w)

-- the life that the table has for the fact's type keeps it at the clock, or a pending match names it
unfoldable pub is_kept : Program → LifeTable → World → Fact → Bool
is_kept p table w f = is_alive p (slice_get table.lives f.ty.0) w.clock f || is_pending_named p w f

-- the facts of the world that are kept, in their order
abbrev pub kept_facts : Program → LifeTable → World → List Fact
kept_facts p table w = filter (is_kept p table w) w.facts

-- ---- what is forgotten

abbrev pub is_lost : Program → LifeTable → World → Option Fact → Bool
is_lost p table w None = false
is_lost p table w (Some f) = not (is_kept p table w f)

-- the version that is named is a fact of the world and is not kept
unfoldable pub is_forgotten : Program → LifeTable → World → Named → Bool
is_forgotten p table w who = is_lost p table w (version_at (held (snapshot w)) who)
