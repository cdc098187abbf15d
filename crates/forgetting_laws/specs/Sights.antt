-- A world as forgetting sees it, by the tags of its facts, and which of these facts are kept.
use Rattle.std.specs.Prelude.{◌≡◌, ◌↔◌, ℕ, ℤ, pos, ◌+ℤ◌, ◌≤ℤ◌, ◌&&◌, ◌||◌, Bool, true, false, cond, not, List, Option, Some, None, option_and_then, is_some}
use Rattle.std.specs.{Prelude.{slice_get}, List.{list_any, list_all}}
use Rattle.fx_base.specs.declared.fact.Fact.{Fact}
use Rattle.row_delta.specs.declared.row.Named.{Named}
use Rattle.rule_model.specs.declared.{life.{Life.{Life, TheVariants.{Plain, Explicit, Finite, Infinite}}, LifeTable.{LifeTable}}, matched.Match.{Match}}
use Rattle.rule_model.specs.Matches.{has_match}
use Rattle.due_queue.specs.Timers.{has_come}
use Rattle.agenda.specs.Agendas.{Marks, names_tag}
use Rattle.retention.specs.{declared.retention.Retention.{Retention}, Watching.{Ends, Watches}}

-- ---- lives

-- for each fact the first moment at which it is past its life, where its life ends
abbrev pub Lives : Type 0
Lives = Fact → Option ℤ

-- an event of a finite life is within it that long behind its end, that moment included
abbrev pub end_of_life : Option Life → Fact → Option ℤ
end_of_life None f = None
end_of_life (Some Plain) f = None
end_of_life (Some (Explicit expiry)) f = None
end_of_life (Some (Finite n)) f = Some ((f.times.end +ℤ n) +ℤ pos 1)
end_of_life (Some Infinite) f = None

-- the lives of a table
abbrev pub ends_by : LifeTable → Lives
ends_by table f = end_of_life (slice_get table.lives f.ty.0) f

abbrev pub EndLaw : Type 0
EndLaw = (table : LifeTable) (f : Fact) (n : ℤ) (now : ℤ) → slice_get table.lives f.ty.0 ≡ Some (Finite n) → (has_come now (ends_by table f) ≡ false) ↔ (now ≤ℤ (f.times.end +ℤ n))

-- ---- worlds

-- a world: its facts by their tags, the clock, its matches, and which of these were fired and which are pending
pub record TagWorld : Type 0 where
  pub facts : ℕ → Option Fact
  pub clock : ℤ
  pub matches : Match → Bool
  pub fired : Match → Bool
  pub pending : List Match

-- whether all facts of a match have tags that pass; whether one has
abbrev pub each_tag : (ℕ → Bool) → Match → Bool
each_tag test m = list_all (λ (n : Named). test n.tag.0) m.row.facts

abbrev pub some_tag : (ℕ → Bool) → Match → Bool
some_tag test m = list_any (λ (n : Named). test n.tag.0) m.row.facts

-- matches name facts of the world, fired ones are matches, and the others are pending
pub record IsSoundSight (w : TagWorld) : Type 0 where
  pub names : (m : Match) → w.matches m ≡ true → each_tag (λ tag. is_some (w.facts tag)) m ≡ true
  pub fired : (m : Match) → w.fired m ≡ true → w.matches m ≡ true
  pub pending : (m : Match) → has_match w.pending m ≡ (w.matches m && not (w.fired m))

-- ---- what is kept

-- the fact where there is one and it passes
abbrev pub only : (Fact → Bool) → Option Fact → Option Fact
only test None = None
only test (Some f) = cond (test f) (Some f) None

-- whether a pending match names the tag
abbrev pub is_needed : TagWorld → ℕ → Bool
is_needed w tag = list_any (names_tag tag) w.pending

-- a fact is kept until it is past its life, and then while a pending match names it
abbrev pub is_kept_fact : Lives → TagWorld → ℕ → Fact → Bool
is_kept_fact lives w tag f = not (has_come w.clock (lives f)) || is_needed w tag

-- the facts that are kept, by their tags
abbrev pub kept : Lives → TagWorld → ℕ → Option Fact
kept lives w tag = only (is_kept_fact lives w tag) (w.facts tag)

abbrev pub is_kept_tag : Lives → TagWorld → ℕ → Bool
is_kept_tag lives w tag = is_some (kept lives w tag)

-- a fact of the world that is not kept is forgotten
abbrev pub is_forgotten_tag : Lives → TagWorld → ℕ → Bool
is_forgotten_tag lives w tag = is_some (w.facts tag) && not (is_kept_tag lives w tag)

-- the match names no forgotten fact
abbrev pub is_clean : Lives → TagWorld → Match → Bool
is_clean lives w m = not (some_tag (is_forgotten_tag lives w) m)

-- ---- what a session holds

-- the facts that it has by their tags, the retention of those whose lives end, and the agenda
pub record Holding : Type 0 where
  pub store : ℕ → Option Fact
  pub retention : Retention
  pub agenda : Marks

-- the ends of the lives of the facts of a store
abbrev pub ends_of : Lives → (ℕ → Option Fact) → Ends
ends_of lives store tag = option_and_then lives (store tag)

-- It holds exactly what is kept: the facts that are kept, all pending matches, and of the fired ones those that name kept facts alone.
pub record HoldsKept (lives : Lives) (w : TagWorld) (s : Holding) : Type 0 where
  pub store : (tag : ℕ) → s.store tag ≡ kept lives w tag
  pub watched : Watches (ends_of lives s.store) w.clock (is_needed w) s.retention
  pub pending : (m : Match) → has_match s.agenda.pending m ≡ has_match w.pending m
  pub fired : (m : Match) → has_match s.agenda.fired m ≡ (w.fired m && each_tag (is_kept_tag lives w) m)
