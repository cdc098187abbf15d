-- Whether something of a rule that is gone is pending can be told from the image.
use Rattle.image_change.proofs.Common.{AreOwners, AreSafe, Image, In, IsImageOf, IsKept, IsKeptOf, IsLadenMatch, IsLawful, IsSafeTable, LifeTable, Match, Named}
use Rattle.image_change.proofs.Common.{Option, Program, Some, World, and_from, and_parts, ap, clean, false, false_from_ne_true, forgotten_fact, has_fired}
use Rattle.image_change.proofs.Common.{has_match, has_pending, matches, not, pending, rule_of, snapshot, snapshot_of, subst, sym, true, ℕ, ◌∙◌, ◌≡◌}
use Rattle.{image_change.{proofs.{Matched.{of_laden, to_laden}, Owners.{owners}}, specs.Images.{PendingIsTold}}, fx_base.proofs.Sequences.{list_any-none}}
use Rattle.{image_laws.proofs.Imaged.{image_kept}, kept_meaning.{proofs.Decided.{is_tested}, specs.Kept.{is_forgotten}}}
use Rattle.{rule_change.specs.Refused.{NonePending}, life_meaning.specs.Tables.IsKept.{named}, rule_model.proofs.Named.{named_of}}

module _ (p : Program) (table : LifeTable) (w : World) (safe : AreSafe p table) (l : IsLawful p w) where
  -- a pending match names kept facts alone
  pub pending_clean : (m : Match) → has_match (pending p w) m ≡ true → has_match (matches p (snapshot w)) m ≡ true → clean (is_forgotten p table w) m.row ≡ true
  pending_clean m pends e =
      ap not (list_any-none (is_forgotten p table w) m.row.facts (λ who own.
      let r = rule_of p (snapshot w) m e in
      let f = named_of p (snapshot w) r.rule.conditions m.row r.row who own in
      let kept : IsKept p table w f.0 = named m f.1 pends (subst (λ (n : Named). In n m.row.facts) (sym f.2) own) in
      ap (is_forgotten p table w) (sym f.2) ∙ forgotten_fact p table w l.ordered.tags f.0 f.1 ∙ ap not (is_tested p table w safe f.0 kept)))

module _ (p : Program) (from : ℕ → Option ℕ) (table : LifeTable) (owners : ℕ → ℕ → ℕ) (w : World) (image : Image) (l : IsLawful p w) (safe : IsSafeTable p table)
    (own : AreOwners p owners) (is : IsImageOf p table w image) where
  abbrev Told : Type 0
  Told = (m : Match) → IsLadenMatch p image owners m.rule.0 m.row → (has_fired image m ≡ true → ⊥) → (new : ℕ) × (from new ≡ Some m.rule.0)

  kept : IsKeptOf p (snapshot w) (is_forgotten p table w) (snapshot_of image)
  kept = image_kept p table w image safe.safe l is

  to : NonePending p from w → Told
  to none m h unfired =
      let parts = of_laden p (snapshot w) (is_forgotten p table w) image owners l.ordered.tags kept is.extras own m h in
      let new : has_match w.fired m ≡ false =
      false_from_ne_true (has_match w.fired m) (λ fired. unfired (is.fired m ∙ and_from (has_match w.fired m) (clean (is_forgotten p table w) m.row) fired parts.1)) in
      none m (has_pending p w m ∙ and_from (has_match (matches p (snapshot w)) m) (not (has_match w.fired m)) parts.0 (ap not new))

  back : Told → NonePending p from w
  back told m pends =
      let parts = and_parts (has_match (matches p (snapshot w)) m) (not (has_match w.fired m)) (sym (has_pending p w m) ∙ pends) in
      let cleans = pending_clean p table w safe.safe l m pends parts.0 in
      told m (to_laden p (snapshot w) (is_forgotten p table w) image owners l.ordered.tags kept is.extras own m parts.0 cleans) (λ fired.
      let was = and_parts (has_match w.fired m) (clean (is_forgotten p table w) m.row) (sym (is.fired m) ∙ fired) in
      let torn : false ≡ true = ap not (sym was.0) ∙ parts.1 in cc)

pub pending_is_told : PendingIsTold
pending_is_told p from table owners w image l safe own is = (to p from table owners w image l safe own is, back p from table owners w image l safe own is)
