-- What members stand for before the first step, and what both halves of a step are for a member: what a step is for a node of its own.
use Rattle.std.specs.{Prelude.{◌≡◌, ◌&&◌, not, ℕ, Bool, List, []}, BTreeMap.{BTreeMap}}
use Rattle.row_delta.specs.{declared.{delta.Delta.{Delta}, row.{Named.{Named}, Row.{Row}}}, Rows.{has, InOrder}}
use Rattle.row_change.specs.Changes.{IsDifference}
use Rattle.join_tests.specs.Joins.{Look}
use Rattle.join_memory.specs.{declared.candidates.Candidates.{Candidates}, Joined.{has_name}, Memories.{has_left, has_right, made, KeepsMemories}}
use Rattle.join_memory.specs.{Apart.{beside}, Inputs.{row_naming, IsStepped}, Standing.{no_rows, no_names, StandsFor}}
use Rattle.fan_join.specs.{declared.fan.FanJoin.{FanJoin}, Fans.{member_delta, IsEmpty, IsMemberAt, AreRowsTurned}, Turns.{AreNamesTurned}}

-- a member of a fan that keeps nothing stands for no rows and no candidates
abbrev pub EmptyLaw : Type 0
EmptyLaw = (fan : FanJoin) (k : ℕ) (c : Candidates) → IsEmpty fan → IsMemberAt fan k c → (look : Look) (forgotten : Named → Bool) → StandsFor (beside fan.left c) look no_rows no_names forgotten

-- When the rows before a member take their difference, and then its candidates theirs, behind what the rows changed, then the member took
-- its step, and answers its true difference.
abbrev pub MemberStepLaw : Type 0
MemberStepLaw = (old new : FanJoin) (look : Look) (left right : Delta) (names_gone names_come : List Named) (deltas : BTreeMap ℕ Delta) (k : ℕ) (c d : Candidates) (so_far delta : Delta)
    → AreRowsTurned old new look left.gone left.come deltas → IsMemberAt old k c → so_far ≡ member_delta deltas k
    → ((who : Named) → has_name names_gone who ≡ has right.gone (row_naming who)) → ((who : Named) → has_name names_come who ≡ has right.come (row_naming who))
    → AreNamesTurned new.left look names_gone names_come so_far c d delta
    → IsStepped (beside old.left c) (beside new.left d) look left right × IsDifference (made (beside old.left c) look) (made (beside new.left d) look) delta

-- When the rows before a member that are dropped leave, and then its old candidates, then it forgot them, and answers the rows that went.
abbrev pub MemberForgetLaw : Type 0
MemberForgetLaw = (old new : FanJoin) (look : Look) (rows : List Row) (names : List Named) (deltas : BTreeMap ℕ Delta) (k : ℕ) (c d : Candidates) (so_far delta : Delta)
    → AreRowsTurned old new look rows [] deltas → IsMemberAt old k c → so_far ≡ member_delta deltas k
    → AreNamesTurned new.left look names [] so_far c d delta
    → KeepsMemories (beside old.left c) (beside new.left d) look (λ row. has_left (beside old.left c) look row && not (has rows row)) (λ who. has_right (beside old.left c) look who && not (has_name names who))
    × ((row : Row) → has delta.gone row ≡ (made (beside old.left c) look row && not (made (beside new.left d) look row))) × InOrder delta.gone
