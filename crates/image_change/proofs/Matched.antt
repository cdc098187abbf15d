-- The whole rows of an image are the matches that name kept facts alone.
use Rattle.image_change.proofs.Common.{AreExtras, AreOwners, Bool, Condition, HaveDistinctTags, Image, IsKeptOf, IsLadenMatch, List, Match, Named, Program, Row}
use Rattle.image_change.proofs.Common.{Rule, Some, and_from, and_parts, ap, arith, clean, has_match, length, matches, rows_of, rule_of, slice_get, snapshot_of}
use Rattle.{image_change.proofs.Common.{sym, true, ℕ, ◌∙◌, ◌≡◌}, condition_rows.proofs.Ends.{has_in, in_has}, laden_rows.proofs.Rows.{laden_rows}}
use Rattle.{laden_rows.specs.Laden.{laden}, join_memory.specs.Standing.{cleaned}, rule_change.proofs.Matching.{is_match}, rule_model.specs.Rows.{rows}}
use Rattle.{rule_model.specs.Snapshots.{Snapshot}, std.proofs.{Common.{◌≤◌}, lemmas.List.{take_all}}}

module _ (p : Program) (s : Snapshot) (forgotten : Named → Bool) (image : Image) (owners : ℕ → ℕ → ℕ) (tags : HaveDistinctTags s.facts)
    (kept : IsKeptOf p s forgotten (snapshot_of image)) (are : AreExtras p s forgotten image.extras) (own : AreOwners p owners) where
  whole : (place : ℕ) (rule : Rule) → slice_get p.rules place ≡ Some rule → (row : Row)
      → laden p (snapshot_of image) image.extras (owners place) rule.conditions (length rule.conditions) row ≡ cleaned (rows_of p s rule.conditions) forgotten row
  whole place rule stands row =
      let all : length rule.conditions ≤ length rule.conditions = omega arith in
      laden_rows p s (snapshot_of image) forgotten image.extras owners tags kept are own place rule stands (length rule.conditions) row
      ∙ ap (λ (cs : List Condition). cleaned (rows_of p s cs) forgotten row) (take_all (length rule.conditions) rule.conditions all)

  pub to_laden : (m : Match) → has_match (matches p s) m ≡ true → clean forgotten m.row ≡ true → IsLadenMatch p image owners m.rule.0 m.row
  to_laden m e c =
      let r = rule_of p s m e in
      (r.rule, r.there, whole m.rule.0 r.rule r.there m.row ∙ and_from (rows_of p s r.rule.conditions m.row) (clean forgotten m.row) (in_has m.row (rows p s r.rule.conditions) r.row) c)

  pub of_laden : (m : Match) → IsLadenMatch p image owners m.rule.0 m.row → (has_match (matches p s) m ≡ true) × (clean forgotten m.row ≡ true)
  of_laden m h =
      let parts = and_parts (rows_of p s h.0.conditions m.row) (clean forgotten m.row) (sym (whole m.rule.0 h.0 h.1 m.row) ∙ h.2) in
      (is_match p s m.rule.0 h.0 m.row h.1 (has_in m.row (rows p s h.0.conditions) parts.0), parts.1)
