-- In which ways what a rule asks for can be met: the conditions of the rules that it is written out to.
use Rattle.std.specs.{Prelude.{ℕ, ◌-◌, List, [], ◌∷◌, ◌++◌, map, length, take, Option, Some, None, slice_get}, List.{flat_map}}
use Rattle.drl_grammar.specs.declared.condition.CondTree.{CondTree}
use Rattle.drl_grammar.specs.declared.condition.CondTree.TheVariants as condition
use Rattle.drl_grammar.specs.declared.{condition.SourceTree.{SourceTree}, written.Piece.{Piece}}
use Rattle.drl_grammar.specs.declared.written.Piece.TheVariants as piece
use Rattle.drl_grammar.specs.declared.written.WrittenType.{WrittenType}
use Rattle.subrules.specs.{declared.ways.{Alternatives.{Alternatives}, Walk.{Walk}}, Hierarchy.{kinds_of}}

-- plain conditions that are all asked for
abbrev pub Way : Type 0
Way = List CondTree

-- a way with each of these behind it
unfoldable pub each_behind : List Way → Way → List Way
each_behind seconds first = map (λ (second : Way). first ++ second) seconds

-- one of the first and one of the second, the first varying slowest
abbrev pub times : List Way → List Way → List Way
times firsts seconds = flat_map (each_behind seconds) firsts

abbrev pub over_type : SourceTree → List ℕ → SourceTree
over_type s name = record { var = s.var; ty = name; parts = s.parts; window = s.window; entry = s.entry }

-- The ways of a condition. A pattern on a type with subtypes asks for a fact of the type or of one below it; a `not` on it asks that there
-- is none of all of them.
abbrev pub choices : List WrittenType → CondTree → List Way
choices types (condition.Plain s) = map (λ name. condition.Plain (over_type s name) ∷ []) (kinds_of types s.ty)
choices types (condition.Negated s) = map (λ name. condition.Negated (over_type s name)) (kinds_of types s.ty) ∷ []
choices types (condition.Existing s) = (condition.Existing s ∷ []) ∷ []
choices types (condition.Folded result s kind arg tests) = (condition.Folded result s kind arg tests ∷ []) ∷ []

-- no alternatives are done, and nothing is asked for yet
abbrev pub begun : Alternatives
begun = record { done = []; here = [] ∷ [] }

-- the ways of all alternatives
abbrev pub all_ways : Alternatives → List Way
all_ways a = a.done ++ a.here

abbrev pub asks : Alternatives → List Way → Alternatives
asks a ways = record { done = a.done; here = times a.here ways }

-- the innermost alternatives end, and are asked for in those around them
abbrev pub closed_in : Walk → Option Alternatives → Walk
closed_in w None = w
closed_in w (Some around) = record { inner = asks around (all_ways w.inner); outer = take (length w.outer - 1) w.outer }

-- a walk over the pieces of a rule takes one more
abbrev pub taken : List WrittenType → Walk → Piece → Walk
taken types w (piece.One c) = record { inner = asks w.inner (choices types c); outer = w.outer }
taken types w piece.Open = record { inner = begun; outer = w.outer ++ w.inner ∷ [] }
taken types w piece.Or = record { inner = record { done = all_ways w.inner; here = [] ∷ [] }; outer = w.outer }
taken types w piece.Close = closed_in w (slice_get w.outer (length w.outer - 1))

unfoldable pub walked : List WrittenType → Walk → List Piece → Walk
walked types w [] = w
walked types w (p ∷ pieces) = walked types (taken types w p) pieces

abbrev pub at_begin : Walk
at_begin = record { inner = begun; outer = [] }

-- The ways of a rule, by one walk over its pieces. By the nesting of its alternatives: `AllHave` in `Nesting.antt`.
unfoldable pub ways_of : List WrittenType → List Piece → List Way
ways_of types pieces = all_ways (walked types at_begin pieces).inner

-- the conditions of a piece
abbrev pub conditions_of : Piece → List CondTree
conditions_of (piece.One c) = c ∷ []
conditions_of piece.Open = []
conditions_of piece.Or = []
conditions_of piece.Close = []
