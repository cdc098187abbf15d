use Rattle.temporal_ops.proofs.{Common.{arith, ints, BStart, BEnd}, Rooms.{start_end_by, end_end_by, start_begin_at, end_begin_at}}
use Rattle.temporal_ops.proofs.room.Room.keep_edge.Goals as goal

pub returns-in-AStart-BStart : goal.returns-in-AStart-BStart
returns-in-AStart-BStart c =
    start_end_by _ _ _ _ BStart _ c.in-AStart-BStart.is-0 c.in-AStart-BStart.is-1 (λ t. omega (arith, ints)) c.end_by.ensures

pub returns-in-AStart-BEnd : goal.returns-in-AStart-BEnd
returns-in-AStart-BEnd c =
    start_end_by _ _ _ _ BEnd _ c.in-AStart-BEnd.is-0 c.in-AStart-BEnd.is-1 (λ t. omega (arith, ints)) c.end_by-in-AStart-BEnd.ensures

pub returns-in-AEnd-BStart : goal.returns-in-AEnd-BStart
returns-in-AEnd-BStart c =
    end_end_by _ _ _ _ BStart _ c.in-AEnd-BStart.is-0 c.in-AEnd-BStart.is-1 (λ t. omega (arith, ints)) c.end_by-in-AEnd-BStart.ensures

pub returns-in-AEnd-BEnd : goal.returns-in-AEnd-BEnd
returns-in-AEnd-BEnd c =
    end_end_by _ _ _ _ BEnd _ c.in-AEnd-BEnd.is-0 c.in-AEnd-BEnd.is-1 (λ t. omega (arith, ints)) c.end_by-in-AEnd-BEnd.ensures

pub returns-in-BStart-AStart : goal.returns-in-BStart-AStart
returns-in-BStart-AStart c =
    start_begin_at _ _ _ _ BStart _ c.in-BStart-AStart.is-0 c.in-BStart-AStart.is-1 (λ t. omega (arith, ints)) c.begin_at.ensures

pub returns-in-BEnd-AStart : goal.returns-in-BEnd-AStart
returns-in-BEnd-AStart c =
    start_begin_at _ _ _ _ BEnd _ c.in-BEnd-AStart.is-0 c.in-BEnd-AStart.is-1 (λ t. omega (arith, ints)) c.begin_at-in-BEnd-AStart.ensures

pub returns-in-BStart-AEnd : goal.returns-in-BStart-AEnd
returns-in-BStart-AEnd c =
    end_begin_at _ _ _ _ BStart _ c.in-BStart-AEnd.is-0 c.in-BStart-AEnd.is-1 (λ t. omega (arith, ints)) c.begin_at-in-BStart-AEnd.ensures

pub returns-in-BEnd-AEnd : goal.returns-in-BEnd-AEnd
returns-in-BEnd-AEnd c =
    end_begin_at _ _ _ _ BEnd _ c.in-BEnd-AEnd.is-0 c.in-BEnd-AEnd.is-1 (λ t. omega (arith, ints)) c.begin_at-in-BEnd-AEnd.ensures
