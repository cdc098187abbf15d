-- What a rule file is, by the function and by the relation.
use Rattle.replay.proofs.Common.{◌≡◌, ◌↔◌, ℕ, List, length, Option, Some, None, refl, ap, ◌∙◌, subst, Written, Parsed, IsLexical, file_limit, is_file, outside}
use Rattle.replay.proofs.Common.{too_long, lexical, parsed, obstacle, Failure, failure_of, checked_by, Reading, plain_file, of_checked, of_obstacle, of_parsed}
use Rattle.replay.{proofs.Common.{reading}, specs.RuleFiles.{IsReading, IsReading.{is_too_long, is_no_tokens, has_no_item, is_not_expanded, fails_a_check}}}
use Rattle.{replay.specs.RuleFiles.IsReading.{is_accepted}, std.specs.Prelude.{◌≤◌, ◌<◌}, drl_lex.specs.declared.fault.LexCode.{LexCode}}
use Rattle.{drl_grammar.specs.Files.{IsFile, IsOutside}, drl_compile.specs.Programs.{program_of}, subrules.specs.declared.fault.Obstacle.{Obstacle}}
use Rattle.drl_check.{specs.Outcomes.{checked}, proofs.Exact.{exact_none, is_first_failure, first_failure_is}}

-- what the law of `parsed_is_exact` says of these bytes
pub record Exact (bytes : List ℕ) : Type 0 where
  pub file : (file : Written) → (IsFile file bytes × (length bytes ≤ file_limit)) ↔ (parsed bytes ≡ is_file file)
  pub syntax : (item line : ℕ) → (IsOutside item line bytes × (length bytes ≤ file_limit)) ↔ (parsed bytes ≡ outside item line)
  pub long : (file_limit < length bytes) ↔ (parsed bytes ≡ too_long)
  pub tokens : (code : LexCode) (line : ℕ) → (IsLexical code line bytes × (length bytes ≤ file_limit)) ↔ (parsed bytes ≡ lexical code line)

plain_reading : (bytes : List ℕ) (file : Written) → IsFile file bytes → length bytes ≤ file_limit → obstacle file.items ≡ None → (o : Option Failure) → failure_of (plain_file file) ≡ o
    → IsReading bytes (of_checked file (checked_by o (program_of (plain_file file))))
plain_reading bytes file is few free None e = is_accepted few is free ((exact_none (plain_file file)).0 e)
plain_reading bytes file is few free (Some f) e = fails_a_check few is free (is_first_failure (plain_file file) f e)

file_reading : (bytes : List ℕ) (file : Written) → IsFile file bytes → length bytes ≤ file_limit → (o : Option Obstacle) → obstacle file.items ≡ o → IsReading bytes (of_obstacle file o)
unfolding checked
file_reading bytes file is few None e = plain_reading bytes file is few e (failure_of (plain_file file)) refl
file_reading bytes file is few (Some o) e = is_not_expanded few is e

by_parsed : {bytes : List ℕ} → Exact bytes → (q : Parsed) → parsed bytes ≡ q → IsReading bytes (of_parsed q)
by_parsed {bytes} exact (is_file file) e = let r = (exact.file file).1 e in file_reading bytes file r.0 r.1 (obstacle file.items) refl
by_parsed exact (outside item line) e = let r = (exact.syntax item line).1 e in has_no_item r.1 r.0
by_parsed exact too_long e = is_too_long (exact.long.1 e)
by_parsed exact (lexical code line) e = let r = (exact.tokens code line).1 e in is_no_tokens r.1 r.0

-- the function has only what the relation has
pub is_read : {bytes : List ℕ} → Exact bytes → (found : Reading) → reading bytes ≡ found → IsReading bytes found
is_read {bytes} exact found e = subst (IsReading bytes) e (by_parsed exact (parsed bytes) refl)

checked_fails : (file : Written) (o : Option Failure) → obstacle file.items ≡ None → failure_of (plain_file file) ≡ o
    → of_obstacle file (obstacle file.items) ≡ of_checked file (checked_by o (program_of (plain_file file)))
unfolding checked
checked_fails file o free e = ap (of_obstacle file) free ∙ ap (λ f. of_checked file (checked_by f (program_of (plain_file file)))) e

-- and all of it
pub read_is : {bytes : List ℕ} → Exact bytes → (found : Reading) → IsReading bytes found → reading bytes ≡ found
read_is exact found (is_too_long more) = ap of_parsed (exact.long.0 more)
read_is exact found (is_no_tokens {bytes} {code} {line} few is) = ap of_parsed ((exact.tokens code line).0 (is, few))
read_is exact found (has_no_item {bytes} {item} {line} few is) = ap of_parsed ((exact.syntax item line).0 (is, few))
read_is exact found (is_not_expanded {bytes} {file} {number} {line} {code} few is blocked) =
    ap of_parsed ((exact.file file).0 (is, few)) ∙ ap (of_obstacle file) blocked
read_is exact found (fails_a_check {bytes} {file} {number} {line} {code} few is free fails) =
    let failure : Failure = record { number = number; line = line; code = code } in
    ap of_parsed ((exact.file file).0 (is, few)) ∙ checked_fails file (Some failure) free (first_failure_is (plain_file file) failure fails)
read_is exact found (is_accepted {bytes} {file} few is free passes) =
    ap of_parsed ((exact.file file).0 (is, few)) ∙ checked_fails file None free ((exact_none (plain_file file)).1 passes)
