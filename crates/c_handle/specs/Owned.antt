-- What a pointer owns that holds the value of a box, or nothing: then it is null. The box is one of the C library's heap.
use Rattle.std.specs.{Prelude.{Option, Some, None}, declared.alloc.Global.{Global}, contracts.impls.GlobalAllocator.TheImpl.{ghosts}, Box.Ownership.{box_owns}}
use base.Fml.{Fml, ftrue, ffalse}
use denote.RattleType.{RattleType}
use denote.RawPtr.{Ptr, block_ptr, null_ptr}

-- the handle of that heap, which has no parts
abbrev pub heap : Global
heap = record { memory = record { seal = tt } }

abbrev pub at_null : Ptr → Fml
at_null null_ptr = ftrue
at_null (block_ptr b o) = ffalse

abbrev pub owned_at : (R : RattleType) → Ptr → Option R.Denot → Fml
owned_at R at None = at_null at
owned_at R at (Some value) = box_owns (ghosts.dealloc_token heap) R at value
