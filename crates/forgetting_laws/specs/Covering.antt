-- What a retention covers as the store takes what comes in a step and what goes out.
use Rattle.std.specs.Prelude.{◌≡◌, ◌≤ℤ◌, ℕ, ℤ, ◌==◌, ◌&&◌, Bool, true, false, not, Option, Some, None}
use Rattle.std.specs.FinMap as map
use Rattle.fx_base.specs.declared.fact.Fact.{Fact}
use Rattle.retention.specs.{Retentions.{lingers}, Watching.{Covers}}
use Rattle.forgetting_laws.specs.{Sights.{Lives, TagWorld, Holding, HoldsKept, ends_of}, Steps.{brought, changed}}

-- the retention of a session covers the ends of the lives of the facts that it has, at this clock
abbrev pub CoversStore : Lives → ℤ → Holding → Type 0
CoversStore lives now s = Covers (ends_of lives s.store) now s.retention

-- when a call begins, at a clock that does not go back
abbrev pub LaterCovers : Type 0
LaterCovers = (lives : Lives) (w : TagWorld) (now : ℤ) (s : Holding) → HoldsKept lives w s → w.clock ≤ℤ now → CoversStore lives now s

-- a tag that no fact of the store has waits for nothing
abbrev pub FreeCovers : Type 0
FreeCovers = (lives : Lives) (now : ℤ) (tag : ℕ) (s : Holding) → CoversStore lives now s → s.store tag ≡ None → map.get s.retention.due tag ≡ None

-- an event whose life ends is put into the store, and held to the end of its life
abbrev pub InsertCovers : Type 0
InsertCovers = (lives : Lives) (f : Fact) (at now : ℤ) (before middle : Holding) → CoversStore lives now before
    → before.store f.tag.0 ≡ None → lives f ≡ Some at
    → ((tag : ℕ) → middle.store tag ≡ changed (brought (Some f) tag) (λ g. false) (before.store tag))
    → middle.retention.due ≡ map.insert before.retention.due f.tag.0 at → middle.retention.lingering ≡ before.retention.lingering
    → CoversStore lives now middle

-- the fact of a tag is taken out of the store, and released
abbrev pub RetractCovers : Type 0
RetractCovers = (lives : Lives) (out : Fact → Bool) (gone : ℕ) (now : ℤ) (before middle : Holding) → CoversStore lives now before
    → ((tag : ℕ) (f : Fact) → before.store tag ≡ Some f → out f ≡ (tag == gone))
    → ((tag : ℕ) → middle.store tag ≡ changed None out (before.store tag))
    → middle.retention.due ≡ map.remove before.retention.due gone
    → ((tag : ℕ) → lingers middle.retention tag ≡ (lingers before.retention tag && not (tag == gone)))
    → CoversStore lives now middle

-- facts whose lives do not end come and go out: the retention stays as it is
abbrev pub EndlessCovers : Type 0
EndlessCovers = (lives : Lives) (new : Option Fact) (out : Fact → Bool) (now : ℤ) (before middle : Holding) → CoversStore lives now before
    → ((tag : ℕ) (f : Fact) → brought new tag ≡ Some f → (before.store tag ≡ None) × (lives f ≡ None))
    → ((tag : ℕ) (f : Fact) → before.store tag ≡ Some f → out f ≡ true → lives f ≡ None)
    → ((tag : ℕ) → middle.store tag ≡ changed (brought new tag) out (before.store tag))
    → middle.retention ≡ before.retention
    → CoversStore lives now middle
