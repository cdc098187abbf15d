-- A node that is loaded with what is kept stands for all of it.
use Rattle.beta_node.proofs.Common.{◌≡◌, ◌∙◌, sym, refl, subst, ℤ, ◌≤ℤ◌, List, map, Bool, Option, Extra, Named, Row, Fact, Condition, Negated, Existing, Folded}
use Rattle.beta_node.proofs.Common.{Pattern, Program, Holds, pattern_of, Snapshot, name_of, Look, joins, Memories, remembered, counts_blockers}
use Rattle.beta_node.proofs.Common.{counts_witnesses, blockers_laden, witnesses_laden, gathered_laden, nothing_gathered, arguments_gathered, gathers, NoneDue}
use Rattle.beta_node.proofs.Common.{held, candidates_of, CountsLaden, IsAside, IsResumed, ResumesLaw, values_gathered, CountsPartners, LadenLaw, resume_law}
use Rattle.beta_node.proofs.Common.{blockers_made_up, witnesses_made_up, gathered_made_up, held_known, joining_alike, blocker_tallies, joined_pattern}
use Rattle.beta_node.proofs.{Common.{reached_floor, waiting_rows, tallied_pattern}, Beyond.{tells_passing, nothing_told, arguments_told}, Loading.{all_clean}}
use Rattle.beta_node.proofs.Loading.{all_remembered}
use Rattle.beta_node.specs.declared.node.Node.TheVariants as node

counts_resumed : {T : Type 0} (holds : T → Look → (Named → Bool) → Type 0) (laden : T → Look → (Named → Bool) → Extra → Type 0) (gathered : Look → List Named → List ℤ) → LadenLaw T holds laden gathered
    → (p : Program) (c : Condition) (m : Memories T) (look : Look) (s t : Snapshot) (before kept : Row → Bool) (forgotten : Named → Bool) (extra : Row → Option Extra)
    → m.pattern ≡ pattern_of c → IsAside c → ((facts : List Fact) → Holds (held s) facts → gathered (held s) (map name_of facts) ≡ values_gathered c facts)
    → IsResumed p c s t before kept forgotten extra → CountsLaden holds laden p m look (held s) t kept extra → CountsPartners holds p m look s before forgotten
counts_resumed holds laden gathered made_up p c m look s t before kept forgotten extra meant aside told_values is was =
    let q = m.pattern in
    let candidates : (who : Named) → candidates_of p q t who ≡ remembered (candidates_of p q s) forgotten who =
    λ who. subst (λ (r : Pattern). candidates_of p r t who ≡ remembered (candidates_of p r s) forgotten who) (sym meant) (is.candidates who) in
    resume_law holds laden gathered made_up m look (held s) (joins q (held t)) (joins q (held s)) kept before (candidates_of p q t) (candidates_of p q s) forgotten extra was is.rows candidates
    (λ row who e f. joining_alike (held t) (held s) s forgotten is.at_hand (held_known s forgotten) p q before is.named row who (sym (is.rows row) ∙ e) (sym (candidates who) ∙ f))
    (λ row e. tells_passing p (held s) s before forgotten is.tags (held_known s forgotten) is.named gathered c q meant told_values row (extra row) (is.extras aside row e))

pub resumes_law : ResumesLaw
resumes_law p (node.Join join) look s t before kept forgotten extra is stands = record {
  rows = λ row. stands.rows row ∙ sym (all_clean kept row) ∙ is.rows row;
  names = λ who. stands.names who ∙ sym (all_remembered (candidates_of p (joined_pattern join) t who)) ∙ is.candidates who;
  agrees = stands.agrees;
}
resumes_law p (node.Not waiting) look s t before kept forgotten extra is waits =
    let m = blocker_tallies waiting in
    let same = is.floors m.pattern.entry.0 in
    record {
      counts = counts_resumed counts_blockers blockers_laden nothing_gathered blockers_made_up p (Negated m.pattern) m look s t before kept forgotten extra refl tt (nothing_told s) is waits.counts;
      in_step = waits.in_step;
      none_due = subst (λ (z : ℤ). NoneDue (waiting_rows waiting) z) same waits.none_due;
      floor = subst (λ (z : ℤ). reached_floor waiting ≤ℤ z) same waits.floor;
    }
resumes_law p (node.Exists tally) look s t before kept forgotten extra is counts =
    counts_resumed counts_witnesses witnesses_laden nothing_gathered witnesses_made_up p (Existing (tallied_pattern tally)) tally.memories look s t before kept forgotten extra refl tt (nothing_told s) is counts
resumes_law p (node.Fold fold) look s t before kept forgotten extra is folds =
    let a = fold.accumulate in
    record {
      counts = counts_resumed (gathers a) (gathered_laden a) (arguments_gathered a) (gathered_made_up a) p (Folded a) fold.tally.memories look s t before kept forgotten extra folds.pattern tt (arguments_told a s) is folds.counts;
      pattern = folds.pattern;
    }
