-- Fronts of bytes in two pieces.
use Rattle.std.proofs.{Common.{◌≡◌, ◌+◌, ◌++◌, ℕ, List, [], length, take, Option, sym, ap, ◌∙◌, arith}, lemmas.List.{length-append}, Math.Seq.{take-append-add}}
use Rattle.{std.proofs.Math.Seq.{take-length}, fx_io.{specs.Outside.{append, AppendsFront}, proofs.Told.{append-append}}}

-- all
pub all_front : (before after : Option (List ℕ)) (text : List ℕ) → after ≡ append before text → AppendsFront before after text
all_front before after text e = (length text, omega arith, e ∙ ap (append before) (sym (take-length text)))

-- the first piece, and a front of the second
pub front_behind : (before middle after : Option (List ℕ)) (text line : List ℕ) → middle ≡ append before text → AppendsFront middle after line → AppendsFront before after (text ++ line)
front_behind before middle after text line e h = (
  length text + h.0,
  omega (arith, h.1, length-append text line),
  h.2 ∙ ap (λ (z : Option (List ℕ)). append z (take h.0 line)) e ∙ append-append before text (take h.0 line) ∙ ap (append before) (sym (take-append-add text line h.0)),
)

-- nothing
pub no_front : (before : Option (List ℕ)) (text : List ℕ) → before ≡ append before [] → AppendsFront before before text
no_front before text e = (0, omega arith, e)
