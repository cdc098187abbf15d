-- One turn of a script after another.
use Rattle.std.proofs.Common.{◌≡◌, ℕ, suc, ◌+◌, ◌-◌, ◌<◌, ◌≤◌, List, ◌++◌, refl, sym, ap, ◌∙◌, arith, append_assoc, append-nil}
use Rattle.gen_load.specs.{declared.turn.Turn.{Turn}, Script.{turn_text, turn_after, turns_text}}

turns_text-suc : (n x : ℕ) → turns_text (suc n) x ≡ turn_text (turn_after x).turn ++ turns_text n (turn_after x).after
unfolding turns_text
turns_text-suc n x = refl

-- a turn that is written leaves one fewer to come
pub turns_step : (n i x y : ℕ) (before after all : List ℕ) (turn : Turn) → i < n → turn ≡ (turn_after x).turn → y ≡ (turn_after x).after
    → after ≡ before ++ turn_text turn → before ++ turns_text (n - i) x ≡ all → after ++ turns_text (n - (i + 1)) y ≡ all
turns_step n i x y before after all turn low is_turn is_after written so_far =
    let left : n - i ≡ suc (n - (i + 1)) = omega arith in
    ap (λ (text : List ℕ). text ++ turns_text (n - (i + 1)) y) written
    ∙ (append_assoc before (turn_text turn) (turns_text (n - (i + 1)) y)
    ∙ (ap (λ (t : Turn). before ++ (turn_text t ++ turns_text (n - (i + 1)) y)) is_turn
    ∙ (ap (λ (z : ℕ). before ++ (turn_text (turn_after x).turn ++ turns_text (n - (i + 1)) z)) is_after
    ∙ (ap (λ (text : List ℕ). before ++ text) (sym (turns_text-suc (n - (i + 1)) x))
    ∙ (ap (λ (k : ℕ). before ++ turns_text k x) (sym left) ∙ so_far)))))

-- where no turn is to come, all is written
pub turns_done : (n i x : ℕ) (before all : List ℕ) → n ≤ i → before ++ turns_text (n - i) x ≡ all → before ≡ all
unfolding turns_text
turns_done n i x before all high so_far =
    let left : n - i ≡ 0 = omega arith in
    sym (append-nil before) ∙ (ap (λ (k : ℕ). before ++ turns_text k x) (sym left) ∙ so_far)
