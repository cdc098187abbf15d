-- The tokens of an action stand for it again, whatever follows.
use Rattle.drl_show.proofs.Common.{◌≡◌, ℕ, ◌+◌, ◌&&◌, Bool, true, false, cond, List, [], ◌∷◌, ◌++◌, refl, arith, codes, list_all, nat_tests, Word, Var, Mark}
use Rattle.drl_show.proofs.Common.{OpenParenthesis, CloseParenthesis, Comma, Semicolon, Assign, IsIdent, parted, listed, expr_tokens, action_tokens, nat_le}
use Rattle.{drl_show.proofs.Common.{OpenBrace, CloseBrace, assign_tokens}, drl_lex.specs.Bytes.{begins_word, is_word_byte}}
use Rattle.drl_grammar.specs.Shapes as shapes
use Rattle.drl_grammar.specs.Actions as g
use Rattle.{drl_grammar.specs.Actions.{small, IsSetter, IsAssign, IsAction}, drl_show.proofs.Fine.{Good, fine_word, fine_var, fine_append, both}}
use Rattle.drl_show.proofs.{AgainShapes.{Agains, regroup, separated_again, listed_again, optional_good}, AgainExpressions.{expression_again}}

-- ---- the field that a setter names is a word

small_by : (b : ℕ) (capital : Bool) → (nat_le 65 b && nat_le b 90) ≡ capital → is_word_byte b ≡ true → is_word_byte (cond capital (b + 32) b) ≡ true
unfolding is_word_byte
small_by b true e h = grind (arith, nat_tests)
small_by b false e h = h

small_byte : (b : ℕ) → is_word_byte b ≡ true → is_word_byte (small b) ≡ true
small_byte b h = small_by b (nat_le 65 b && nat_le b 90) refl h

behind_set : (b : ℕ) (bytes : List ℕ) → list_all is_word_byte (codes "set" ++ (b ∷ bytes)) ≡ true → (is_word_byte b ≡ true) × (list_all is_word_byte bytes ≡ true)
unfolding is_word_byte
behind_set b bytes h = both (is_word_byte b) (list_all is_word_byte bytes) h

field_bytes : (b : ℕ) (bytes : List ℕ) → list_all is_word_byte (codes "set" ++ (b ∷ bytes)) ≡ true → list_all is_word_byte (small b ∷ bytes) ≡ true
field_bytes b bytes h = let parts = behind_set b bytes h in rw (small_byte b parts.0, parts.1) refl

setter_good : (f word : List ℕ) → IsSetter f word → Good (Word word) → Good (Word f) × IsIdent f
setter_good f word (g.setter {b} {bytes} first h) good = ((first, field_bytes b bytes good.1), h)

-- ---- assignments and actions

assign_again : Agains IsAssign IsAssign assign_tokens
assign_again x ts rest (g.by_name {f} {e} {ts = es} h he) good =
    let one = expression_again e es rest he good.1.1 in
    record { stands = λ k. g.by_name h (one.stands k); is_fine = fine_word f (Mark Assign ∷ expr_tokens e) h good.0 one.is_fine; behind = one.behind }
assign_again x ts rest (g.by_setter {word} {f} {e} {ts = es} hw hf he) good =
    let field = setter_good f word hf good.0 in
    let one = expression_again e es (Mark CloseParenthesis ∷ rest) he good.1.1 in
    record { stands = λ k. g.by_name field.1 (one.stands k); is_fine = fine_word f (Mark Assign ∷ expr_tokens e) field.1 field.0 one.is_fine; behind = one.behind.1 }

pub action_again : Agains IsAction IsAction action_tokens
unfolding begins_word is_word_byte
action_again x ts rest (g.insert {ty} {es} {ts = inner} {behind} hty hes ho) good =
    let all = listed_again expression_again es inner (Mark CloseParenthesis ∷ behind) hes good.1.1.1.1.1 in
    record {
      stands = λ k. regroup IsAction x (Word (codes "insert") ∷ Mark OpenParenthesis ∷ Word (codes "new") ∷ Word ty ∷ Mark OpenParenthesis ∷ listed expr_tokens es) (Mark CloseParenthesis ∷ []) k
          (g.insert hty (all.stands (Mark CloseParenthesis ∷ k)) shapes.absent);
      is_fine = fine_word ty (Mark OpenParenthesis ∷ (listed expr_tokens es ++ (Mark CloseParenthesis ∷ []))) hty good.1.1.1.0 (fine_append (listed expr_tokens es) (Mark CloseParenthesis ∷ []) all.is_fine refl);
      behind = optional_good (Mark Semicolon) behind rest ho all.behind.1;
    }
action_again x ts rest (g.modify {v} {sets} {ts = inner} {behind} hs ho) good =
    let all = separated_again assign_again Comma sets inner (Mark CloseBrace ∷ behind) hs good.1.1.1.1.1 in
    record {
      stands = λ k. regroup IsAction x (Word (codes "modify") ∷ Mark OpenParenthesis ∷ Var v ∷ Mark CloseParenthesis ∷ Mark OpenBrace ∷ parted Comma assign_tokens sets) (Mark CloseBrace ∷ []) k
          (g.modify (all.stands (Mark CloseBrace ∷ k)) shapes.absent);
      is_fine = fine_var v (Mark CloseParenthesis ∷ Mark OpenBrace ∷ (parted Comma assign_tokens sets ++ (Mark CloseBrace ∷ []))) good.1.1.0 (fine_append (parted Comma assign_tokens sets) (Mark CloseBrace ∷ []) all.is_fine refl);
      behind = optional_good (Mark Semicolon) behind rest ho all.behind.1;
    }
action_again x ts rest (g.retract {v} {behind} ho) good =
    record { stands = λ k. g.retract shapes.absent; is_fine = fine_var v (Mark CloseParenthesis ∷ []) good.1.1.0 refl; behind = optional_good (Mark Semicolon) behind rest ho good.1.1.1.1 }
