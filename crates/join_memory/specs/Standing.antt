-- Which rows and candidates a node stands for, where some facts have been forgotten.
use Rattle.std.specs.{Prelude.{◌≡◌, ◌&&◌, ◌||◌, not, Bool, true, false, List, [], ◌∷◌}, List.{list_any}}
use Rattle.row_delta.specs.declared.row.{Named.{Named}, Row.{Row}}
use Rattle.rule_model.specs.declared.condition.Pattern.{Pattern}
use Rattle.join_tests.specs.Joins.{Look, joins}
use Rattle.join_memory.specs.{declared.memories.Memories.{Memories}, Memories.{left_at, has_left, has_right, Agrees}}

-- the row names none of these facts
abbrev pub clean : (Named → Bool) → Row → Bool
clean facts row = not (list_any facts row.facts)

-- the rows of a set that name none of these facts
abbrev pub cleaned : (Row → Bool) → (Named → Bool) → Row → Bool
cleaned rows facts row = rows row && clean facts row

-- one fact of either kind
abbrev pub either : (Named → Bool) → (Named → Bool) → Named → Bool
either facts others who = facts who || others who

-- the candidates of a set that are none of these
abbrev pub remembered : (Named → Bool) → (Named → Bool) → Named → Bool
remembered names facts who = names who && not (facts who)

-- on the rows and candidates that name no forgotten fact, the tests of a pattern, by these facts, are those of the world
abbrev pub PassesAlike : Pattern → Look → (Row → Named → Bool) → (Row → Bool) → (Named → Bool) → (Named → Bool) → Type 0
PassesAlike p look pass left right forgotten =
    (row : Row) (who : Named) → cleaned left forgotten row ≡ true → remembered right forgotten who ≡ true → joins p look row who ≡ pass row who

-- the memories keep those of these rows and candidates of the world that name no forgotten fact, each under its join value
pub record StandsFor {S : Type 0} (m : Memories S) (look : Look) (left : Row → Bool) (right : Named → Bool) (forgotten : Named → Bool) : Type 0 where
  pub rows : (row : Row) → has_left m look row ≡ cleaned left forgotten row
  pub names : (who : Named) → has_right m look who ≡ remembered right forgotten who
  pub agrees : Agrees m look

-- nothing
abbrev pub no_rows : Row → Bool
no_rows row = false

abbrev pub no_names : Named → Bool
no_names who = false

-- the two give the same fact at the tags of these versions
abbrev pub AlikeOn : Look → Look → List Named → Type 0
AlikeOn look other [] = Unit {0}
AlikeOn look other (n ∷ names) = (look n.tag ≡ other n.tag) × AlikeOn look other names

-- the two give the same fact at each tag that is kept
pub record LooksAlike {S : Type 0} (m : Memories S) (look other : Look) : Type 0 where
  pub rows : (row : Row) → has_left m look row ≡ true → AlikeOn look other row.facts
  pub names : (who : Named) → has_right m look who ≡ true → look who.tag ≡ other who.tag

-- Memories that agree with the one agree with the other, where both have the same facts at the tags that are kept; and both show the
-- same in them.
abbrev pub MemoryMoveLaw : Type 0 → Type 0
MemoryMoveLaw S = (m : Memories S) (look other : Look) → Agrees m look → LooksAlike m look other
    → Agrees m other × ((row : Row) → left_at m other row ≡ left_at m look row) × ((who : Named) → has_right m other who ≡ has_right m look who)
    × ((row : Row) (who : Named) → has_left m look row ≡ true → has_right m look who ≡ true → joins m.pattern other row who ≡ joins m.pattern look row who)
