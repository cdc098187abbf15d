-- What two clauses of a call say together, and answers of firings that stand for less.
use Rattle.{session.proofs.Common.{List, Option, Some, None, Result, Ok, Err, IfOk, World}, engine.specs.Answers.{FiringAnswers}}
use Rattle.answer_lines.specs.declared.lines.{Fired.{Fired}, OutLine.{OutLine}}

pub both_ok : {T E : Type 0} (r : Result T E) (P Q : T → Type 0) → IfOk r P → IfOk r Q → IfOk r (λ x. P x × Q x)
both_ok (Ok x) P Q p q = (p, q)
both_ok (Err e) P Q p q = tt

pub answers_for : (fires : Option (List OutLine × World)) (fired : Fired) (w : World) (P Q : World → Type 0) → ((v : World) → P v → Q v)
    → FiringAnswers fires fired w P → FiringAnswers fires fired w Q
answers_for None fired w P Q h answers = (answers.0, h w answers.1)
answers_for (Some f) fired w P Q h answers = (answers.0, h f.1 answers.1)
