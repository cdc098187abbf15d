-- What is read as an action stands in the grammar, and what stands in it is read.
use Rattle.drl_action.proofs.Common.{◌≡◌, ℕ, ◌<◌, ◌≤◌, Bool, true, false, cond, List, ◌∷◌, length, Some, None, refl, arith, IfSome, codes, bytes_eq, IsSetter}
use Rattle.{drl_action.proofs.Common.{IsAssign, IsAction, setter_at, word_of, behind_word_at}, drl_lex.specs.declared.token.TokenKind.{TokenKind}}
use Rattle.drl_lex.specs.declared.token.{TokenKind.TheVariants.{Word, Var, Mark}, Mark.TheVariants.{OpenParenthesis, CloseParenthesis, OpenBrace, CloseBrace}}
use Rattle.{drl_lex.specs.declared.token.Mark.TheVariants.{Comma, Semicolon, Assign}, drl_expr.specs.{Exact.{Phrase, Found}, Grammar.{IsExpression}}}
use Rattle.drl_expr.{specs.{Reading.{expression_at, expr_at, term_at, factor_at, opening_at, atom_at}, Tree.{Tree}}, proofs.Laws.{expression_exact}}
use Rattle.drl_grammar.specs.Actions as g
use Rattle.drl_grammar.specs.{Shapes.{Optional, Separated, Listed}, declared.action.ActTree.{ActTree, TheVariants.{Insert, Modify}}}
use Rattle.drl_phrase.specs.declared.phrase.Punctuation.TheVariants as p
use Rattle.drl_phrase.{specs.{Exact.{phrase_binds, ExactPhrase}, Reading.{separated_at, listed_at, optional_at}}, proofs.{Carried.{carried}, ShapeLaws.{then}}}
use Rattle.drl_phrase.proofs.ShapeLaws.{if_some_then, guarded, ident_then, ident_is, same_bytes, closed_then, closed_is, separated_exact, listed_exact}
use Rattle.{drl_phrase.proofs.ShapeLaws.{optional_sound, optional_again, optional_shorter}, drl_action.specs.declared.word.ActionWord.{ActionWord}}
use Rattle.drl_action.specs.{declared.word.ActionWord.TheVariants.{InsertWord, ModifyWord, RetractWord}, Reading.{assign_at, action_word, insert_at, modify_at}}
use Rattle.drl_action.{specs.Reading.{retract_at, action_at}, proofs.SetterLaws.{setter_sound, setter_again}}

value_exact : ExactPhrase IsExpression expression_at 3
value_exact = carried expression_exact

no_value : (rest : List TokenKind) → expression_at (Mark CloseParenthesis ∷ rest) ≡ None
unfolding expression_at expr_at term_at factor_at opening_at atom_at
no_value rest = refl

values_exact : ExactPhrase (Listed IsExpression) (listed_at expression_at) 0
values_exact = listed_exact (omega arith) value_exact no_value

-- ---- assignments

pub assign_exact : ExactPhrase IsAssign assign_at 3
unfolding assign_at
assign_exact = record { sound = sound; again = again; shorter = shorter }
  where
    sound : (ts : List TokenKind) → Found IsAssign ts (assign_at ts)
    sound (Word f ∷ Mark Assign ∷ ts) = ident_then IsAssign _ f _ (λ h. then IsExpression ts (expression_at ts) _ IsAssign _ (value_exact.sound ts) (λ e he. g.by_name h he))
    sound (Word w ∷ Mark OpenParenthesis ∷ ts) = ident_then IsAssign _ w _ (λ h. if_some_then (setter_at w) (λ f. IsSetter f w) _ IsAssign _ (setter_sound w) (λ f hf.
        then IsExpression ts (expression_at ts) _ IsAssign _ (value_exact.sound ts) (λ e he.
        closed_then p.CloseParenthesis IsExpression e.0 ts (f, e.0) e.1 IsAssign _ he (λ rest hr. g.by_setter h hf hr))))
    sound ts = tt

    again : (x : List ℕ × Tree) (ts rest : List TokenKind) → IsAssign x ts rest → 3 ≤ phrase_binds rest → assign_at ts ≡ Some (x, rest)
    again x ts rest (g.by_name {f} {e} {ts = es} h he) stop = rw (ident_is f _ h, value_exact.again e es rest he stop) refl
    again x ts rest (g.by_setter {word} {f} {e} {ts = es} h hf he) stop =
        rw (ident_is word _ h, setter_again f word hf, value_exact.again e es (Mark CloseParenthesis ∷ rest) he (omega arith), closed_is {A = List ℕ × Tree} p.CloseParenthesis (f, e) rest) refl

    shorter : (x : List ℕ × Tree) (ts rest : List TokenKind) → IsAssign x ts rest → length rest < length ts
    shorter x ts rest (g.by_name {e} {ts = es} h he) = let less = value_exact.shorter e es rest he in omega arith
    shorter x ts rest (g.by_setter {e} {ts = es} h hf he) = let less = value_exact.shorter e es (Mark CloseParenthesis ∷ rest) he in omega arith

assigns_exact : ExactPhrase (Separated (Mark Comma) IsAssign) (separated_at assign_at p.Comma) 6
assigns_exact = separated_exact p.Comma (omega arith) assign_exact

-- ---- actions

word_sound : (w : List ℕ) → IfSome (action_word w) (λ word. w ≡ word_of word)
unfolding action_word
word_sound w = go (bytes_eq w (codes "insert")) (bytes_eq w (codes "modify")) (bytes_eq w (codes "retract")) refl refl refl
  where
    go : (i m r : Bool) → bytes_eq w (codes "insert") ≡ i → bytes_eq w (codes "modify") ≡ m → bytes_eq w (codes "retract") ≡ r
        → IfSome (cond i (Some InsertWord) (cond m (Some ModifyWord) (cond r (Some RetractWord) None))) (λ word. w ≡ word_of word)
    go true m r is_insert is_modify is_retract = same_bytes w (codes "insert") is_insert
    go false true r is_insert is_modify is_retract = same_bytes w (codes "modify") is_modify
    go false false true is_insert is_modify is_retract = same_bytes w (codes "retract") is_retract
    go false false false is_insert is_modify is_retract = tt

-- an action behind its word, up to its semicolon
abbrev IsBare : ActionWord → Phrase ActTree
IsBare word x ts behind = (rest : List TokenKind) → Optional (Mark Semicolon) behind rest → IsAction x (Word (word_of word) ∷ ts) rest

insert_sound : (ts : List TokenKind) → Found (IsBare InsertWord) ts (insert_at ts)
unfolding insert_at
insert_sound (Mark OpenParenthesis ∷ Word w ∷ Word ty ∷ Mark OpenParenthesis ∷ ts) = guarded (IsBare InsertWord) _ (bytes_eq w (codes "new")) _ (λ e. ident_then (IsBare InsertWord) _ ty _ (λ h.
    then (Listed IsExpression) ts (listed_at expression_at ts) _ (IsBare InsertWord) _ (values_exact.sound ts) (λ es hes.
    closed_then p.CloseParenthesis (Listed IsExpression) es.0 ts (Insert ty es.0) es.1 (IsBare InsertWord) _ hes (λ behind hb. λ rest ho. rw (same_bytes w (codes "new") e) (g.insert h hb ho)))))
insert_sound ts = tt

modify_sound : (ts : List TokenKind) → Found (IsBare ModifyWord) ts (modify_at ts)
unfolding modify_at
modify_sound (Mark OpenParenthesis ∷ Var v ∷ Mark CloseParenthesis ∷ Mark OpenBrace ∷ ts) =
    then (Separated (Mark Comma) IsAssign) ts (separated_at assign_at p.Comma ts) _ (IsBare ModifyWord) _ (assigns_exact.sound ts) (λ sets hs.
    closed_then p.CloseBrace (Separated (Mark Comma) IsAssign) sets.0 ts (Modify v sets.0) sets.1 (IsBare ModifyWord) _ hs (λ behind hb. λ rest ho. g.modify hb ho))
modify_sound ts = tt

retract_sound : (ts : List TokenKind) → Found (IsBare RetractWord) ts (retract_at ts)
unfolding retract_at
retract_sound (Mark OpenParenthesis ∷ Var v ∷ Mark CloseParenthesis ∷ behind) = λ rest ho. g.retract ho
retract_sound ts = tt

bare_sound : (word : ActionWord) (ts : List TokenKind) → Found (IsBare word) ts (behind_word_at word ts)
bare_sound InsertWord ts = insert_sound ts
bare_sound ModifyWord ts = modify_sound ts
bare_sound RetractWord ts = retract_sound ts

pub action_exact : ExactPhrase IsAction action_at 7
unfolding action_at action_word insert_at modify_at retract_at
action_exact = record { sound = sound; again = again; shorter = shorter }
  where
    sound : (ts : List TokenKind) → Found IsAction ts (action_at ts)
    sound (Word w ∷ ts) = if_some_then (action_word w) (λ word. w ≡ word_of word) _ IsAction _ (word_sound w) (λ word is.
        then (IsBare word) ts (behind_word_at word ts) _ IsAction _ (bare_sound word ts) (λ x hx. rw is (hx (optional_at p.Semicolon x.1) (optional_sound p.Semicolon x.1))))
    sound ts = tt

    again : (x : ActTree) (ts rest : List TokenKind) → IsAction x ts rest → 7 ≤ phrase_binds rest → action_at ts ≡ Some (x, rest)
    again x ts rest (g.insert {ty} {es} {ts = inner} {behind} h hes ho) stop =
        rw (ident_is ty _ h, values_exact.again es inner (Mark CloseParenthesis ∷ behind) hes (omega arith), closed_is p.CloseParenthesis (Insert ty es) behind, optional_again p.Semicolon behind rest ho (omega arith)) refl
    again x ts rest (g.modify {v} {sets} {ts = inner} {behind} hs ho) stop =
        rw (assigns_exact.again sets inner (Mark CloseBrace ∷ behind) hs (omega arith), closed_is p.CloseBrace (Modify v sets) behind, optional_again p.Semicolon behind rest ho (omega arith)) refl
    again x ts rest (g.retract {v} {behind} ho) stop = rw (optional_again p.Semicolon behind rest ho (omega arith)) refl

    shorter : (x : ActTree) (ts rest : List TokenKind) → IsAction x ts rest → length rest < length ts
    shorter x ts rest (g.insert {es} {ts = inner} {behind} h hes ho) =
        let less = values_exact.shorter es inner (Mark CloseParenthesis ∷ behind) hes in let last = optional_shorter (Mark Semicolon) behind rest ho in omega arith
    shorter x ts rest (g.modify {sets} {ts = inner} {behind} hs ho) =
        let less = assigns_exact.shorter sets inner (Mark CloseBrace ∷ behind) hs in let last = optional_shorter (Mark Semicolon) behind rest ho in omega arith
    shorter x ts rest (g.retract {behind} ho) = let last = optional_shorter (Mark Semicolon) behind rest ho in omega arith
