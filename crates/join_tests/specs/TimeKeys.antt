-- The range of time by which rows and candidates of a pattern find each other.
use Rattle.std.specs.{Prelude.{ℕ, ℤ, pos, negsuc, ◌+ℤ◌, ◌&&◌, Bool, true, false, cond, List, [], ◌∷◌, Option, Some, None}, Option.{option_or}}
use Rattle.temporal_ops.specs.declared.edge.{Corner.{Corner, TheVariants.{AStart, AEnd, BStart, BEnd}}, OpEdge.{OpEdge}}
use Rattle.rule_model.specs.declared.{test.TimeTest.{TimeTest}, condition.Pattern.{Pattern}}
use Rattle.join_tests.specs.declared.time_key.{Point.{Point, TheVariants.{Start, End}}, TimeKey.{TimeKey}}

-- a point of the candidate, and one of the event that a row names, in a temporal test
abbrev pub candidate_corner : Point → Corner
candidate_corner Start = AStart
candidate_corner End = AEnd

abbrev pub event_corner : Point → Corner
event_corner Start = BStart
event_corner End = BEnd

abbrev pub same_corner : Corner → Corner → Bool
same_corner AStart AStart = true
same_corner AEnd AEnd = true
same_corner BStart BStart = true
same_corner BEnd BEnd = true
same_corner _ _ = false

-- the bound of the first edge from the one corner to the other: x - y is at most this
abbrev pub most_between : Corner → Corner → List OpEdge → Option ℤ
most_between x y [] = None
most_between x y (edge ∷ edges) = cond (same_corner x edge.x && same_corner y edge.y) (Some edge.most) (most_between x y edges)

-- the range of this span; one below 0 leaves no moments
abbrev pub key_of_span : ℕ → Point → Point → ℤ → ℤ → Option TimeKey
key_of_span fact own event back (pos span) = Some (record { fact = fact; own = own; event = event; back = back; span = span })
key_of_span fact own event back (negsuc n) = None

-- a range has a bound on both sides
abbrev pub key_between : ℕ → Point → Point → Option ℤ → Option ℤ → Option TimeKey
key_between fact own event None back = None
key_between fact own event (Some most) None = None
key_between fact own event (Some most) (Some back) = key_of_span fact own event back (most +ℤ back)

-- the range of these points
abbrev pub key_at : ℕ → List OpEdge → Point → Point → Option TimeKey
key_at fact edges own event =
    key_between fact own event (most_between (candidate_corner own) (event_corner event) edges) (most_between (event_corner event) (candidate_corner own) edges)

-- the range of an operator: that of the first points which have one
abbrev pub key_of_edges : ℕ → List OpEdge → Option TimeKey
key_of_edges fact edges =
    option_or (option_or (option_or (key_at fact edges Start Start) (key_at fact edges Start End)) (key_at fact edges End Start)) (key_at fact edges End End)

-- that of the first temporal test which has one
abbrev pub key_of_times : List TimeTest → Option TimeKey
key_of_times [] = None
key_of_times (test ∷ tests) = option_or (key_of_edges test.fact test.op) (key_of_times tests)

-- the range of time in which a candidate must lie to an event that a row names, where the pattern has one
unfoldable pub time_key : Pattern → Option TimeKey
time_key p = key_of_times p.times
