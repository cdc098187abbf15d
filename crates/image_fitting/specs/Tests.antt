-- The tests by which the code tells whether an image fits plainly.
use Rattle.std.specs.Prelude.{ℕ, ◌^◌, ◌==◌, ◌&&◌, ◌||◌, not, Bool, true, nat_lt, nat_le, ℤ, pos, ◌+ℤ◌, int_le, List, [], ◌∷◌, length, slice_index_or, slice_set}
use Rattle.std.specs.{Prelude.{if◌then◌else◌}, List.{list_all}, Ordering.{int_eq}}
use Rattle.fx_base.specs.declared.{fact.Fact.{Fact}, times.Times.{Times}}
use Rattle.checkpoint.specs.declared.image.Image.{Image}
use Rattle.rule_model.specs.{declared.program.Program.{Program}, Candidates.{is_present}, Moments.{moment_in}, Types.{is_event, is_point}}
use Rattle.rule_world.specs.{Events.{most_millis}, Kinds.{fact_fits}}

-- ---- numbers and moments

abbrev pub is_small : ℕ → Bool
is_small n = nat_le n (2 ^ 61)

abbrev pub is_next : ℕ → Bool
is_next n = nat_le 1 n && is_small n

-- the numbers of an image
abbrev pub counts_fit : Image → Bool
counts_fit image = is_next image.next_id && (is_next image.next_tag && (is_small image.run.lines && is_small image.run.firings))

-- a moment from 0 to another
abbrev pub is_reached : ℤ → ℤ → Bool
is_reached most moment = int_le (pos 0) moment && int_le moment most

-- the clock of an image, and the moments of its entry points
abbrev pub moments_fit : Program → Image → Bool
moments_fit p image =
    (length image.last_starts == length p.entries)
    && ((length image.promises == length p.entries) && (is_reached most_millis image.clock && (list_all (is_reached image.clock) image.last_starts && list_all (is_reached most_millis) image.promises)))

-- ---- facts

-- an event of a type of points ends where it starts
abbrev pub ends_as_its_type : Bool → Times → Bool
ends_as_its_type point times = not point || int_eq times.end times.start

-- an event lasts at most 2^53 ms
abbrev pub is_event_short : Times → Bool
is_event_short times = int_le times.end (times.start +ℤ most_millis)

-- an event ends behind its start or there, as its type has it, and not too late
abbrev pub is_lasting : Bool → Times → Bool
is_lasting point times = int_le times.start times.end && (ends_as_its_type point times && is_event_short times)

-- the times of an event of a type of points or not, by the clock and the last start of its entry point
abbrev pub is_timed : Bool → ℤ → ℤ → Times → Bool
is_timed point clock last times = is_reached clock times.start && (int_le times.start last && is_lasting point times)

-- an event is timed, and in a world that has begun; a plain fact has the times 0 and 0
abbrev pub times_fit : Program → Image → Fact → Bool
times_fit p image f =
    if is_event p f.ty.0 then (image.begun && is_timed (is_point p f.ty.0) image.clock (moment_in image.last_starts f.entry.0) f.times)
    else (int_eq f.times.start (pos 0) && int_eq f.times.end (pos 0))

-- what is asked of each fact alone
abbrev pub is_at_hand : Program → Image → Fact → Bool
is_at_hand p image f = nat_lt f.id.0 image.next_id && (nat_lt f.tag.0 image.next_tag && (fact_fits p f && (is_present p image.clock f && times_fit p image f)))

-- Events come in turn: the entry point of each is one of those that have these latest starts, and no event starts before the latest start
-- of its entry point.
abbrev pub come_in_turn : Program → List ℤ → List Fact → Bool
come_in_turn p latest [] = true
come_in_turn p latest (f ∷ facts) =
    if is_event p f.ty.0 then (nat_lt f.entry.0 (length latest) && (int_le (slice_index_or latest f.entry.0 (pos 0)) f.times.start && come_in_turn p (slice_set latest f.entry.0 f.times.start) facts))
    else come_in_turn p latest facts
