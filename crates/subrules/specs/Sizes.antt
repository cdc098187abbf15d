-- How many ways there are and how long the longest is, as far as the limits ask.
use Rattle.std.specs.Prelude.{ℕ, ◌+◌, ◌-◌, ◌*◌, ◌||◌, nat_lt, nat_eq, min, max, Bool, List, [], ◌∷◌, ◌++◌, length, map, take, Option, Some, None, slice_get}
use Rattle.std.specs.Prelude.{if◌then◌else◌}
use Rattle.drl_grammar.specs.declared.condition.CondTree.{CondTree}
use Rattle.drl_grammar.specs.declared.condition.CondTree.TheVariants as condition
use Rattle.drl_grammar.specs.declared.written.Piece.{Piece}
use Rattle.drl_grammar.specs.declared.written.Piece.TheVariants as piece
use Rattle.drl_grammar.specs.declared.written.WrittenType.{WrittenType}
use Rattle.subrules.specs.declared.{sizes.{Size.{Size}, SizeOfAlternatives.{SizeOfAlternatives}, SizeWalk.{SizeWalk}}, ways.Alternatives.{Alternatives}}
use Rattle.subrules.specs.{declared.ways.Walk.{Walk}, Hierarchy.{kinds_of}, Ways.{Way}}

-- the most conditions of a way
abbrev pub longest : List Way → ℕ
longest [] = 0
longest (way ∷ ways) = max (length way) (longest ways)

-- numbers beyond the limits stand still one above them
abbrev pub sized : ℕ → ℕ → Size
sized many long = record { count = min 257 many; longest = min 9 long }

-- the size of a list of ways
abbrev pub size_of : List Way → Size
size_of ways = sized (length ways) (longest ways)

abbrev pub nothing : Size
nothing = record { count = 0; longest = 0 }

abbrev pub size_times : Size → Size → Size
size_times a b = if nat_eq a.count 0 || nat_eq b.count 0 then nothing else sized (a.count * b.count) (a.longest + b.longest)

abbrev pub size_plus : Size → Size → Size
size_plus a b = sized (a.count + b.count) (max a.longest b.longest)

-- the size of the ways of a condition
abbrev pub size_of_choices : List WrittenType → CondTree → Size
size_of_choices types (condition.Plain s) = sized (length (kinds_of types s.ty)) 1
size_of_choices types (condition.Negated s) = sized 1 (length (kinds_of types s.ty))
size_of_choices types (condition.Existing s) = sized 1 1
size_of_choices types (condition.Folded result s kind arg tests) = sized 1 1

abbrev pub free_size : Size
free_size = record { count = 1; longest = 0 }

abbrev pub begun_size : SizeOfAlternatives
begun_size = record { done = nothing; here = free_size }

abbrev pub all_size : SizeOfAlternatives → Size
all_size a = size_plus a.done a.here

abbrev pub asks_size : SizeOfAlternatives → Size → SizeOfAlternatives
asks_size a size = record { done = a.done; here = size_times a.here size }

abbrev pub closed_size : SizeWalk → Option SizeOfAlternatives → SizeWalk
closed_size w None = w
closed_size w (Some around) = record { inner = asks_size around (all_size w.inner); outer = take (length w.outer - 1) w.outer }

abbrev pub measured : List WrittenType → SizeWalk → Piece → SizeWalk
measured types w (piece.One c) = record { inner = asks_size w.inner (size_of_choices types c); outer = w.outer }
measured types w piece.Open = record { inner = begun_size; outer = w.outer ++ w.inner ∷ [] }
measured types w piece.Or = record { inner = record { done = all_size w.inner; here = free_size }; outer = w.outer }
measured types w piece.Close = closed_size w (slice_get w.outer (length w.outer - 1))

unfoldable pub all_measured : List WrittenType → SizeWalk → List Piece → SizeWalk
all_measured types w [] = w
all_measured types w (p ∷ pieces) = all_measured types (measured types w p) pieces

abbrev pub at_no_piece : SizeWalk
at_no_piece = record { inner = begun_size; outer = [] }

-- ---- the same of a walk that has the ways

abbrev pub size_of_all : Alternatives → SizeOfAlternatives
size_of_all a = record { done = size_of a.done; here = size_of a.here }

abbrev pub size_of_walk : Walk → SizeWalk
size_of_walk w = record { inner = size_of_all w.inner; outer = map size_of_all w.outer }

-- the limits are passed
abbrev pub passes_limits : Size → Bool
passes_limits size = nat_lt 256 size.count || nat_lt 8 size.longest
