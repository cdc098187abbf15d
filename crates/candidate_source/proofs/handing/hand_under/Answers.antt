use Rattle.candidate_source.proofs.{Common.{◌∙◌, ap, sym, ℕ, Option, Some, ◌&&◌, not, option_map, is_under_given}, Behind.{handed_alike}, Places.{under_bucket}}
use Rattle.{std.{proofs.lemmas.Result.{on_ok_weaker}, specs.Borrow.{Bor}}, alpha_memory.specs.{Bucket.{entries}, declared.bucket.Bucket.{Bucket}}}
use Rattle.candidate_source.proofs.handing.hand_under.Goals as goal

pub returns-in-Some-Many : goal.returns-in-Some-Many
returns-in-Some-Many c =
    let is = sym c.bucket.ensures ∙ ap (λ (found : Option (Bor (Bucket ℕ (Unit {0})))). option_map (λ b. entries b.now) found) c.in-Some-Many.is ∙ ap (λ (b : Bucket ℕ (Unit {0})). Some (entries b)) c.in-Some-Many.field-0-is in
    on_ok_weaker c.hand_each.result
    (handed_alike c.args.turned _ _ c.args.handed.now c.hand_each.new.handed
    (λ k. ap (λ b. b && not (is_under_given c.args.reached.now (option_map (λ v. v.now) c.args.besides) k)) (sym (under_bucket c.args.reached.now c.args.value.now k c.in-Some-Many.places.entries is)))) c.hand_each.ensures
