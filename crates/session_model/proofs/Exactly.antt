-- Sessions stand exactly for worlds in which every fact is present, and for a world where they stand exactly for what is kept of it.
use Rattle.session_model.proofs.Common.{◌≡◌, ℕ, ℤ, true, false, ◌≤ℤ◌, List, ◌∙◌, ap, Fact, Value, Program, is_present, IsLawful, World, only_present, settled}
use Rattle.session_model.proofs.Common.{with_new, with_revised, world_at_clock, with_retracted, with_promise, with_begin, kept_settled, kept_lawful, kept_new}
use Rattle.session_model.proofs.Common.{kept_numbers, kept_revised, kept_without, kept_later, with_numbers, without_fact, Contents, Mirrors, Whole}

-- the contents of a session are those of a lawful world
pub record Exact (p : Program) (k : Contents) (w : World) : Type 0 where
  pub lawful : IsLawful p w
  pub mirrors : Mirrors p k w

pub exact : (p : Program) (k : Contents) (w : World) → Whole p k w → Exact p k (only_present p w)
exact p k w st = record { lawful = kept_lawful p w st.lawful; mirrors = st.mirrors }

-- ---- what is kept of the next world

pub after_new : (p : Program) (w : World) (f : Fact) → is_present p w.clock f ≡ true → only_present p (settled p (with_new p w f)) ≡ settled p (with_new p (only_present p w) f)
after_new p w f e = kept_settled p (with_new p w f) ∙ ap (settled p) (kept_new p w f e)

pub after_numbers : (p : Program) (w : World) (f : Fact) → is_present p w.clock f ≡ false → only_present p (settled p (with_new p w f)) ≡ settled p (with_numbers p (only_present p w) f)
after_numbers p w f e = kept_settled p (with_new p w f) ∙ ap (settled p) (kept_numbers p w f e)

pub after_revised : (p : Program) (w : World) (id : ℕ) (sets : List (ℕ × Value)) → only_present p (settled p (with_revised w id sets)) ≡ settled p (with_revised (only_present p w) id sets)
after_revised p w id sets = kept_settled p (with_revised w id sets) ∙ ap (settled p) (kept_revised p w id sets)

pub after_without : (p : Program) (w : World) (ty id : ℕ) → only_present p (settled p (with_retracted p w ty id)) ≡ settled p (without_fact (only_present p w) ty id)
after_without p w ty id = kept_settled p (with_retracted p w ty id) ∙ ap (settled p) (kept_without p w ty id)

pub after_clock : (p : Program) (w : World) (clock : ℤ) → w.clock ≤ℤ clock → only_present p (settled p (world_at_clock w clock)) ≡ settled p (only_present p (world_at_clock (only_present p w) clock))
after_clock p w clock le = kept_settled p (world_at_clock w clock) ∙ ap (settled p) (kept_later p w clock le)

pub after_promise : (p : Program) (w : World) (entry : ℕ) (from : ℤ) → only_present p (settled p (with_promise w entry from)) ≡ settled p (with_promise (only_present p w) entry from)
after_promise p w entry from = kept_settled p (with_promise w entry from)

pub after_begin : (p : Program) (w : World) → only_present p (settled p (with_begin w)) ≡ settled p (with_begin (only_present p w))
after_begin p w = kept_settled p (with_begin w)
