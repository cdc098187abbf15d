-- The mark that is read is the longest one, and it is read.
use Rattle.drl_lex.proofs.Common.{◌≡◌, ℕ, ◌++◌, ◌&&◌, Bool, true, false, cond, eqb, List, [], ◌∷◌, Option, Some, None, refl, sym, ap, ◌∙◌, option_map, IfSome}
use Rattle.drl_lex.proofs.Common.{eqb-true, Equal, Less, LessOrEqual, Greater, GreaterOrEqual, Assign, Comparison, Other, begins, mark_text, lengthens}
use Rattle.drl_lex.proofs.Common.{NotEqual, OpenParenthesis, CloseParenthesis, OpenBrace, CloseBrace, OpenBracket, CloseBracket, Comma, Semicolon, Colon, Dot}
use Rattle.drl_lex.{proofs.Common.{At, Plus, Minus, Star, Or, And, mark_step}, specs.{declared.token.Mark.{Mark}, Bytes.{is_blank, is_quote, begins_word}}}
use Rattle.{drl_lex.specs.{Leads.{lead_of}, MarkReading.{single_mark, double_mark, mark_at}}, std.proofs.lemmas.Bool.{and_parts}}

-- a mark of one byte, and no longer one where no mark of two bytes stands
pub record IsSingle (b : ℕ) (mark : Mark) : Type 0 where
  pub text : mark_text mark ≡ b ∷ []
  pub alone : (c : ℕ) → double_mark b c ≡ None → lengthens mark c ≡ false

pub record IsDouble (b c : ℕ) (mark : Mark) : Type 0 where
  pub text : mark_text mark ≡ b ∷ c ∷ []
  pub alone : (d : ℕ) → lengthens mark d ≡ false

pick : (P : Mark → Type 0) (t : Bool) (mark : Mark) (others : Option Mark) → (t ≡ true → P mark) → IfSome others P → IfSome (cond t (Some mark) others) P
pick P true mark others here there = here refl
pick P false mark others here there = there

plain : (b n : ℕ) (mark : Mark) → mark_text mark ≡ n ∷ [] → ((c : ℕ) → lengthens mark c ≡ false) → eqb b n ≡ true → IsSingle b mark
plain b n mark text alone e = record { text = text ∙ ap (λ (x : ℕ). x ∷ []) (sym (eqb-true b n e)); alone = λ c none. alone c }

no_more : (c : ℕ) (mark : Mark) (others : Option Mark) (t : Bool) → cond t (Some mark) others ≡ None → t ≡ false
no_more c mark others true e = absurd cc
no_more c mark others false e = refl

alone_61 : (b : ℕ) → b ≡ 61 → (c : ℕ) → double_mark b c ≡ None → eqb c 61 ≡ false
unfolding double_mark
alone_61 b e c none = let none61 = rw e at none in no_more c (Comparison Equal) _ (eqb c 61) none61

alone_60 : (b : ℕ) → b ≡ 60 → (c : ℕ) → double_mark b c ≡ None → eqb c 61 ≡ false
unfolding double_mark
alone_60 b e c none = let none60 = rw e at none in no_more c (Comparison LessOrEqual) _ (eqb c 61) none60

alone_62 : (b : ℕ) → b ≡ 62 → (c : ℕ) → double_mark b c ≡ None → eqb c 61 ≡ false
unfolding double_mark
alone_62 b e c none = let none62 = rw e at none in no_more c (Comparison GreaterOrEqual) _ (eqb c 61) none62

pub single_is : (b : ℕ) → IfSome (single_mark b) (IsSingle b)
unfolding single_mark
single_is b =
    pick (IsSingle b) _ _ _ (plain b 40 OpenParenthesis refl (λ c. refl)) (
    pick (IsSingle b) _ _ _ (plain b 41 CloseParenthesis refl (λ c. refl)) (
    pick (IsSingle b) _ _ _ (plain b 123 OpenBrace refl (λ c. refl)) (
    pick (IsSingle b) _ _ _ (plain b 125 CloseBrace refl (λ c. refl)) (
    pick (IsSingle b) _ _ _ (plain b 91 OpenBracket refl (λ c. refl)) (
    pick (IsSingle b) _ _ _ (plain b 93 CloseBracket refl (λ c. refl)) (
    pick (IsSingle b) _ _ _ (plain b 44 Comma refl (λ c. refl)) (
    pick (IsSingle b) _ _ _ (plain b 59 Semicolon refl (λ c. refl)) (
    pick (IsSingle b) _ _ _ (plain b 58 Colon refl (λ c. refl)) (
    pick (IsSingle b) _ _ _ (plain b 46 Dot refl (λ c. refl)) (
    pick (IsSingle b) _ _ _ (plain b 64 At refl (λ c. refl)) (
    pick (IsSingle b) _ _ _ (plain b 43 Plus refl (λ c. refl)) (
    pick (IsSingle b) _ _ _ (plain b 45 Minus refl (λ c. refl)) (
    pick (IsSingle b) _ _ _ (plain b 42 Star refl (λ c. refl)) (
    pick (IsSingle b) _ _ _ (λ e. record { text = ap (λ (x : ℕ). x ∷ []) (sym (eqb-true b 61 e)); alone = alone_61 b (eqb-true b 61 e) }) (
    pick (IsSingle b) _ _ _ (λ e. record { text = ap (λ (x : ℕ). x ∷ []) (sym (eqb-true b 60 e)); alone = alone_60 b (eqb-true b 60 e) }) (
    pick (IsSingle b) _ _ _ (λ e. record { text = ap (λ (x : ℕ). x ∷ []) (sym (eqb-true b 62 e)); alone = alone_62 b (eqb-true b 62 e) }) tt))))))))))))))))

pair : (b c m n : ℕ) (mark : Mark) → mark_text mark ≡ m ∷ n ∷ [] → ((d : ℕ) → lengthens mark d ≡ false) → (eqb b m && eqb c n) ≡ true → IsDouble b c mark
pair b c m n mark text alone e =
    let parts = and_parts (eqb b m) (eqb c n) e in
    let first : b ≡ m = eqb-true b m parts.0 in
    let second : c ≡ n = eqb-true c n parts.1 in
    record { text = rw (first, second) text; alone = alone }

pub double_is : (b c : ℕ) → IfSome (double_mark b c) (IsDouble b c)
unfolding double_mark
double_is b c =
    pick (IsDouble b c) _ _ _ (pair b c 61 61 (Comparison Equal) refl (λ d. refl)) (
    pick (IsDouble b c) _ _ _ (pair b c 33 61 (Comparison NotEqual) refl (λ d. refl)) (
    pick (IsDouble b c) _ _ _ (pair b c 60 61 (Comparison LessOrEqual) refl (λ d. refl)) (
    pick (IsDouble b c) _ _ _ (pair b c 62 61 (Comparison GreaterOrEqual) refl (λ d. refl)) (
    pick (IsDouble b c) _ _ _ (pair b c 124 124 Or refl (λ d. refl)) (
    pick (IsDouble b c) _ _ _ (pair b c 38 38 And refl (λ d. refl)) tt)))))

-- ---- what is read

-- a mark at the front of the bytes, and the bytes behind it
pub record MarkIs (bytes : List ℕ) (read : Mark × List ℕ) : Type 0 where
  pub parts : bytes ≡ mark_text read.0 ++ read.1
  pub stop : begins (lengthens read.0) read.1 ≡ false

single_read : (b : ℕ) (bytes : List ℕ) (mark : Option Mark) → IfSome mark (IsSingle b) → ((c : ℕ) (rest : List ℕ) → bytes ≡ c ∷ rest → double_mark b c ≡ None)
    → IfSome (option_map (λ m. (m, bytes)) mark) (MarkIs (b ∷ bytes))
single_read b bytes None h none = tt
single_read b [] (Some mark) h none = record { parts = rw h.text refl; stop = refl }
single_read b (c ∷ bytes) (Some mark) h none = record { parts = rw h.text refl; stop = h.alone c (none c bytes refl) }

same_none : (b c d : ℕ) (bytes rest : List ℕ) → c ∷ bytes ≡ d ∷ rest → double_mark b c ≡ None → double_mark b d ≡ None
same_none b c d bytes rest e none = let same : c ≡ d = cc in rw (← same) none

mark_read : (b c : ℕ) (bytes : List ℕ) (double : Option Mark) → double_mark b c ≡ double → IfSome double (IsDouble b c) → IfSome (mark_step double b c bytes) (MarkIs (b ∷ c ∷ bytes))
mark_read b c bytes None e h = single_read b (c ∷ bytes) (single_mark b) (single_is b) (λ d rest same. same_none b c d bytes rest same e)
mark_read b c bytes (Some mark) e h = record { parts = rw h.text refl; stop = no_stop mark bytes h.alone }
  where
    no_stop : (mark : Mark) (bytes : List ℕ) → ((d : ℕ) → lengthens mark d ≡ false) → begins (lengthens mark) bytes ≡ false
    no_stop mark [] alone = refl
    no_stop mark (d ∷ bytes) alone = alone d

pub mark_sound : (b : ℕ) (bytes : List ℕ) → IfSome (mark_at b bytes) (MarkIs (b ∷ bytes))
unfolding mark_at
mark_sound b [] = single_read b [] (single_mark b) (single_is b) (λ c rest e. absurd cc)
mark_sound b (c ∷ bytes) = mark_read b c bytes (double_mark b c) refl (double_is b c)

-- ---- what stands there is read

single_again : (b : ℕ) (mark : Mark) (rest : List ℕ) → single_mark b ≡ Some mark → ((c : ℕ) (bytes : List ℕ) → rest ≡ c ∷ bytes → double_mark b c ≡ None) → mark_at b rest ≡ Some (mark, rest)
unfolding mark_at
single_again b mark [] e none = rw e refl
single_again b mark (c ∷ rest) e none = rw (none c rest refl, e) refl

pub double_again : (b c : ℕ) (mark : Mark) (rest : List ℕ) → double_mark b c ≡ Some mark → mark_at b (c ∷ rest) ≡ Some (mark, rest)
unfolding mark_at
double_again b c mark rest e = rw e refl

no_equals : (c : ℕ) (bytes rest : List ℕ) → rest ≡ c ∷ bytes → begins (λ b. eqb b 61) rest ≡ false → eqb c 61 ≡ false
no_equals c bytes rest e stop = rw e at stop

-- the mark's first byte and the bytes behind it
pub record Spelled (mark : Mark) (rest : List ℕ) : Type 0 where
  pub first : ℕ
  pub others : List ℕ
  pub parts : mark_text mark ++ rest ≡ first ∷ others
  pub read : mark_at first others ≡ Some (mark, rest)
  pub lead : lead_of first ≡ Other

pub mark_again : (mark : Mark) (rest : List ℕ) → begins (lengthens mark) rest ≡ false → Spelled mark rest
unfolding single_mark double_mark lead_of is_blank is_quote begins_word
mark_again OpenParenthesis rest stop = record { first = 40; others = rest; parts = refl; read = single_again 40 OpenParenthesis rest refl (λ c bytes e. refl); lead = refl }
mark_again CloseParenthesis rest stop = record { first = 41; others = rest; parts = refl; read = single_again 41 CloseParenthesis rest refl (λ c bytes e. refl); lead = refl }
mark_again OpenBrace rest stop = record { first = 123; others = rest; parts = refl; read = single_again 123 OpenBrace rest refl (λ c bytes e. refl); lead = refl }
mark_again CloseBrace rest stop = record { first = 125; others = rest; parts = refl; read = single_again 125 CloseBrace rest refl (λ c bytes e. refl); lead = refl }
mark_again OpenBracket rest stop = record { first = 91; others = rest; parts = refl; read = single_again 91 OpenBracket rest refl (λ c bytes e. refl); lead = refl }
mark_again CloseBracket rest stop = record { first = 93; others = rest; parts = refl; read = single_again 93 CloseBracket rest refl (λ c bytes e. refl); lead = refl }
mark_again Comma rest stop = record { first = 44; others = rest; parts = refl; read = single_again 44 Comma rest refl (λ c bytes e. refl); lead = refl }
mark_again Semicolon rest stop = record { first = 59; others = rest; parts = refl; read = single_again 59 Semicolon rest refl (λ c bytes e. refl); lead = refl }
mark_again Colon rest stop = record { first = 58; others = rest; parts = refl; read = single_again 58 Colon rest refl (λ c bytes e. refl); lead = refl }
mark_again Dot rest stop = record { first = 46; others = rest; parts = refl; read = single_again 46 Dot rest refl (λ c bytes e. refl); lead = refl }
mark_again At rest stop = record { first = 64; others = rest; parts = refl; read = single_again 64 At rest refl (λ c bytes e. refl); lead = refl }
mark_again Plus rest stop = record { first = 43; others = rest; parts = refl; read = single_again 43 Plus rest refl (λ c bytes e. refl); lead = refl }
mark_again Minus rest stop = record { first = 45; others = rest; parts = refl; read = single_again 45 Minus rest refl (λ c bytes e. refl); lead = refl }
mark_again Star rest stop = record { first = 42; others = rest; parts = refl; read = single_again 42 Star rest refl (λ c bytes e. refl); lead = refl }
mark_again Assign rest stop = record { first = 61; others = rest; parts = refl; read = single_again 61 Assign rest refl (λ c bytes e. rw (no_equals c bytes rest e stop) refl); lead = refl }
mark_again (Comparison Less) rest stop = record { first = 60; others = rest; parts = refl; read = single_again 60 (Comparison Less) rest refl (λ c bytes e. rw (no_equals c bytes rest e stop) refl); lead = refl }
mark_again (Comparison Greater) rest stop = record { first = 62; others = rest; parts = refl; read = single_again 62 (Comparison Greater) rest refl (λ c bytes e. rw (no_equals c bytes rest e stop) refl); lead = refl }
mark_again (Comparison Equal) rest stop = record { first = 61; others = 61 ∷ rest; parts = refl; read = double_again 61 61 (Comparison Equal) rest refl; lead = refl }
mark_again (Comparison NotEqual) rest stop = record { first = 33; others = 61 ∷ rest; parts = refl; read = double_again 33 61 (Comparison NotEqual) rest refl; lead = refl }
mark_again (Comparison LessOrEqual) rest stop = record { first = 60; others = 61 ∷ rest; parts = refl; read = double_again 60 61 (Comparison LessOrEqual) rest refl; lead = refl }
mark_again (Comparison GreaterOrEqual) rest stop = record { first = 62; others = 61 ∷ rest; parts = refl; read = double_again 62 61 (Comparison GreaterOrEqual) rest refl; lead = refl }
mark_again Or rest stop = record { first = 124; others = 124 ∷ rest; parts = refl; read = double_again 124 124 Or rest refl; lead = refl }
mark_again And rest stop = record { first = 38; others = 38 ∷ rest; parts = refl; read = double_again 38 38 And rest refl; lead = refl }
