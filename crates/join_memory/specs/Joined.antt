-- The rows that a test makes of rows with one fact more, where sets are tests too.
use Rattle.std.specs.{Prelude.{◌≡◌, ◌&&◌, Bool, false, List, [], ◌∷◌, ◌++◌, Option, Some, None}, Option.{option_map}, List.{list_any}, Ordering.{eq_by_cmp}}
use Rattle.row_delta.specs.{NameOrder.{name_cmp}, declared.row.{Named.{Named}, Row.{Row}}}

-- a row with one fact more
abbrev pub with_name : Row → Named → Row
with_name row who = record { facts = row.facts ++ who ∷ []; values = row.values }

-- an element in front of a list whose front and last element are these
abbrev pub behind_first : {A : Type 0} → A → Option (List A × A) → List A × A
behind_first x None = ([], x)
behind_first x (Some p) = (x ∷ p.0, p.1)

-- a list as its front and its last element
abbrev pub split_last : {A : Type 0} → List A → Option (List A × A)
split_last [] = None
split_last (x ∷ xs) = Some (behind_first x (split_last xs))

-- the row of the front of its facts, and the last one
abbrev pub front_of : Row → (List Named × Named) → Row × Named
front_of row p = (record { facts = p.0; values = row.values }, p.1)

-- a row as the row without its last fact, and that fact
abbrev pub unjoined : Row → Option (Row × Named)
unjoined row = option_map (front_of row) (split_last row.facts)

-- whether a test holds of a row and its last fact
abbrev pub splits : (Row → Named → Bool) → Option (Row × Named) → Bool
splits test None = false
splits test (Some p) = test p.0 p.1

-- the rows that are a row of the one set with a fact of the other that passes for it, read backward: without its last fact a row is of
-- the one, and that fact is of the other
unfoldable pub joined : (Row → Named → Bool) → (Row → Bool) → (Named → Bool) → Row → Bool
joined pass left right row = splits (λ l c. left l && (right c && pass l c)) (unjoined row)

-- whether a version stands in a list
abbrev pub has_name : List Named → Named → Bool
has_name names who = list_any (eq_by_cmp name_cmp who) names

-- each stands once
abbrev pub AreDistinct : List Named → Type 0
AreDistinct [] = Unit {0}
AreDistinct (x ∷ xs) = (has_name xs x ≡ false) × AreDistinct xs
