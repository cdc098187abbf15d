-- What is read stands in the grammar, and what stands in it is read: for the shapes.
use Rattle.drl_phrase.proofs.Common.{◌≡◌, ℕ, zero, suc, ◌<◌, ◌≤◌, Bool, true, false, cond, List, [], ◌∷◌, length, Option, Some, None, refl, sym, subst, ◌∙◌}
use Rattle.drl_phrase.proofs.Common.{arith, IfSome, IfNone, bytes_eq, TokenKind, Word, Mark, CloseParenthesis, CloseBracket, CloseBrace, Comma, Semicolon, Or}
use Rattle.drl_phrase.proofs.Common.{And, is_ident, IsIdent, Read, Phrase, Found, Punctuation, phrase_binds, ExactPhrase, ◌>>=◌, mark_of, level, with_first}
use Rattle.drl_phrase.proofs.Common.{more_step, members_at, listed_step, many_step, maybe_step, optional_step, if_last}
use Rattle.{std.proofs.lemmas.Slice.Eq.{bytes_eq-Decides}, drl_grammar.specs.Shapes.{Maybe, left_out, written, Optional, absent, present, Many, nothing}}
use Rattle.drl_grammar.specs.Shapes.{further, Separated, single, more, Listed, empty, members}
use Rattle.drl_phrase.specs.declared.phrase.Punctuation.TheVariants as p
use Rattle.drl_phrase.specs.Reading.{after, after_word, closed, ended, ident, more_at, separated_at, listed_at, turns_at, many_at, maybe_at, optional_at}
use Rattle.drl_phrase.specs.Reading.{whole_at}

-- ---- options

-- a phrase is read first, then what go reads
pub then : {A B : Type 0} (Is : Phrase A) (ts : List TokenKind) (o : Read A) (go : A × List TokenKind → Read B) (Wanted : Phrase B) (whole : List TokenKind)
    → Found Is ts o → ((x : A × List TokenKind) → Is x.0 ts x.1 → Found Wanted whole (go x)) → Found Wanted whole (o >>= go)
then Is ts None go Wanted whole h k = tt
then Is ts (Some x) go Wanted whole h k = k x h

pub found_weaker : {A : Type 0} (o : Read A) (Is : Phrase A) (ts : List TokenKind) (Q : A × List TokenKind → Type 0) → Found Is ts o → ((x : A × List TokenKind) → Is x.0 ts x.1 → Q x) → IfSome o Q
found_weaker None Is ts Q h go = tt
found_weaker (Some x) Is ts Q h go = go x h

-- something is seen first, then what go reads
pub if_some_then : {A B : Type 0} (o : Option A) (P : A → Type 0) (go : A → Read B) (Wanted : Phrase B) (whole : List TokenKind)
    → IfSome o P → ((x : A) → P x → Found Wanted whole (go x)) → Found Wanted whole (o >>= go)
if_some_then None P go Wanted whole h k = tt
if_some_then (Some x) P go Wanted whole h k = k x h

pub guarded : {A : Type 0} (Is : Phrase A) (ts : List TokenKind) (b : Bool) (read : Read A) → (b ≡ true → Found Is ts read) → Found Is ts (cond b read None)
guarded Is ts true read go = go refl
guarded Is ts false read go = tt

pub choice : {A : Type 0} (Is : Phrase A) (ts : List TokenKind) (b : Bool) (left right : Read A) → (b ≡ true → Found Is ts left) → (b ≡ false → Found Is ts right) → Found Is ts (cond b left right)
choice Is ts true left right yes_go no_go = yes_go refl
choice Is ts false left right yes_go no_go = no_go refl

pub ident_then : {A : Type 0} (Is : Phrase A) (ts : List TokenKind) (w : List ℕ) (read : Read A) → (IsIdent w → Found Is ts read) → Found Is ts (ident w read)
unfolding ident
ident_then Is ts w read go = guarded Is ts (is_ident w) read go

pub ident_is : {A : Type 0} (w : List ℕ) (read : Option A) → IsIdent w → ident w read ≡ read
unfolding ident
ident_is w read h = rw h refl

pub same_bytes : (a b : List ℕ) → bytes_eq a b ≡ true → a ≡ b
same_bytes a b e = (bytes_eq-Decides a b).0 e

pub itself : (a : List ℕ) → bytes_eq a a ≡ true
itself a = (bytes_eq-Decides a a).1 refl

-- ---- single tokens

pub after_sound : (s : Punctuation) (ts : List TokenKind) → IfSome (after s ts) (λ rest. ts ≡ mark_of s ∷ rest)
unfolding after
after_sound p.Comma (Mark Comma ∷ rest) = refl
after_sound p.Semicolon (Mark Semicolon ∷ rest) = refl
after_sound p.Or (Mark Or ∷ rest) = refl
after_sound p.And (Mark And ∷ rest) = refl
after_sound p.CloseParenthesis (Mark CloseParenthesis ∷ rest) = refl
after_sound p.CloseBracket (Mark CloseBracket ∷ rest) = refl
after_sound p.CloseBrace (Mark CloseBrace ∷ rest) = refl
after_sound s ts = tt

pub after_again : (s : Punctuation) (rest : List TokenKind) → after s (mark_of s ∷ rest) ≡ Some rest
unfolding after
after_again p.Comma rest = refl
after_again p.Semicolon rest = refl
after_again p.Or rest = refl
after_again p.And rest = refl
after_again p.CloseParenthesis rest = refl
after_again p.CloseBracket rest = refl
after_again p.CloseBrace rest = refl

-- what phrase_binds more loosely than the mark is not the mark
pub after_none : (s : Punctuation) (ts : List TokenKind) → level s < phrase_binds ts → after s ts ≡ None
unfolding after
after_none p.Comma (Mark Comma ∷ rest) h = absurd (omega arith)
after_none p.Semicolon (Mark Semicolon ∷ rest) h = absurd (omega arith)
after_none p.Or (Mark Or ∷ rest) h = absurd (omega arith)
after_none p.And (Mark And ∷ rest) h = absurd (omega arith)
after_none p.CloseParenthesis (Mark CloseParenthesis ∷ rest) h = absurd (omega arith)
after_none p.CloseBracket (Mark CloseBracket ∷ rest) h = absurd (omega arith)
after_none p.CloseBrace (Mark CloseBrace ∷ rest) h = absurd (omega arith)
after_none s ts h = refl

pub level_binds : (s : Punctuation) (ts : List TokenKind) → phrase_binds (mark_of s ∷ ts) ≡ level s
level_binds p.Comma ts = refl
level_binds p.Semicolon ts = refl
level_binds p.Or ts = refl
level_binds p.And ts = refl
level_binds p.CloseParenthesis ts = refl
level_binds p.CloseBracket ts = refl
level_binds p.CloseBrace ts = refl

-- a value with a mark behind it
pub closed_then : {A B : Type 0} (s : Punctuation) (Is : Phrase B) (y : B) (ts : List TokenKind) (x : A) (behind : List TokenKind) (Wanted : Phrase A) (whole : List TokenKind)
    → Is y ts behind → ((rest : List TokenKind) → Is y ts (mark_of s ∷ rest) → Wanted x whole rest) → Found Wanted whole (closed s x behind)
unfolding closed
closed_then s Is y ts x behind Wanted whole h go =
    if_some_then (after s behind) (λ rest. behind ≡ mark_of s ∷ rest) (λ rest. Some (x, rest)) Wanted whole (after_sound s behind) (λ rest e. go rest (subst (Is y ts) e h))

pub closed_is : {A : Type 0} (s : Punctuation) (x : A) (rest : List TokenKind) → closed s x (mark_of s ∷ rest) ≡ Some (x, rest)
unfolding closed
closed_is s x rest = rw (after_again s rest) refl

pub word_sound : (word : List ℕ) (ts : List TokenKind) → IfSome (after_word word ts) (λ rest. ts ≡ Word word ∷ rest)
unfolding after_word
word_sound word (Word w ∷ rest) = go (bytes_eq w word) refl
  where
    go : (b : Bool) → bytes_eq w word ≡ b → IfSome (cond b (Some rest) None) (λ behind. Word w ∷ rest ≡ Word word ∷ behind)
    go true e = rw (same_bytes w word e) refl
    go false e = tt
word_sound word ts = tt

pub word_again : (word : List ℕ) (rest : List TokenKind) → after_word word (Word word ∷ rest) ≡ Some rest
unfolding after_word
word_again word rest = rw (itself word) refl

-- a value with a word behind it
pub ended_then : {A B : Type 0} (word : List ℕ) (Is : Phrase B) (y : B) (ts : List TokenKind) (x : A) (behind : List TokenKind) (Wanted : Phrase A) (whole : List TokenKind)
    → Is y ts behind → ((rest : List TokenKind) → Is y ts (Word word ∷ rest) → Wanted x whole rest) → Found Wanted whole (ended word x behind)
unfolding ended
ended_then word Is y ts x behind Wanted whole h go =
    if_some_then (after_word word behind) (λ rest. behind ≡ Word word ∷ rest) (λ rest. Some (x, rest)) Wanted whole (word_sound word behind) (λ rest e. go rest (subst (Is y ts) e h))

pub ended_is : {A : Type 0} (word : List ℕ) (x : A) (rest : List TokenKind) → ended word x (Word word ∷ rest) ≡ Some (x, rest)
unfolding ended
ended_is word x rest = rw (word_again word rest) refl

-- ---- members with a separator between them

abbrev pub Sound : {A : Type 0} → Phrase A → (List TokenKind → Read A) → Type 0
Sound Is read = (ts : List TokenKind) → Found Is ts (read ts)

-- what stands behind the first member: its tokens with a separator before them are those of a list
abbrev Behind : {A : Type 0} → Phrase A → Punctuation → List TokenKind → List A × List TokenKind → Type 0
Behind Is s ts found = (x : _) (whole : List TokenKind) → Is x whole ts → Separated (mark_of s) Is (x ∷ found.0) whole found.1

members_sound : {A : Type 0} (Is : Phrase A) (read : List TokenKind → Read A) (s : Punctuation) (n : ℕ) → Sound Is read
    → ((ts : List TokenKind) → IfSome (more_at read s n ts) (Behind Is s ts)) → Sound (Separated (mark_of s) Is) (members_at read s n)
members_sound Is read s n sound behind ts =
    then Is ts (read ts) _ (Separated (mark_of s) Is) ts (sound ts) (λ x hx. if_some_then (more_at read s n x.1) (Behind Is s x.1) (λ xs. Some (x.0 ∷ xs.0, xs.1)) (Separated (mark_of s) Is) ts (behind x.1) (λ xs hxs. hxs x.0 ts hx))

more_step_sound : {A : Type 0} (Is : Phrase A) (s : Punctuation) (after_it : Option (List TokenKind)) (ts : List TokenKind) (go : List TokenKind → Read (List A))
    → IfSome after_it (λ rest. ts ≡ mark_of s ∷ rest) → Sound (Separated (mark_of s) Is) go → IfSome (more_step after_it ts go) (Behind Is s ts)
more_step_sound Is s None ts go h sound = λ x whole hx. single hx
more_step_sound Is s (Some rest) ts go h sound =
    found_weaker (go rest) (Separated (mark_of s) Is) rest (Behind Is s ts) (sound rest) (λ xs hxs x whole hx. more (subst (Is x whole) h hx) hxs)

more_sound : {A : Type 0} (Is : Phrase A) (read : List TokenKind → Read A) (s : Punctuation) (n : ℕ) → Sound Is read
    → (ts : List TokenKind) → IfSome (more_at read s n ts) (Behind Is s ts)
unfolding more_at
more_sound Is read s zero sound ts = λ x whole hx. single hx
more_sound Is read s (suc n) sound ts =
    more_step_sound Is s (after s ts) ts (members_at read s n) (after_sound s ts) (members_sound Is read s n sound (more_sound Is read s n sound))

more_none : {A : Type 0} (read : List TokenKind → Read A) (s : Punctuation) (n : ℕ) (ts : List TokenKind) → level s < phrase_binds ts → more_at read s n ts ≡ Some ([], ts)
unfolding more_at
more_none read s zero ts h = refl
more_none read s (suc n) ts h = rw (after_none s ts h) refl

members_again : {A : Type 0} (Is : Phrase A) (read : List TokenKind → Read A) (k : ℕ) (s : Punctuation) → ExactPhrase Is read k → k ≤ level s
    → (n : ℕ) (xs : List A) (ts rest : List TokenKind) → Separated (mark_of s) Is xs ts rest → level s < phrase_binds rest → length ts ≤ n → members_at read s n ts ≡ Some (xs, rest)
unfolding more_at
members_again Is read k s exact low n xs ts rest (single {x} hx) stop le =
    rw (exact.again x ts rest hx (omega arith), more_none read s n rest stop) refl
members_again Is read k s exact low zero xs ts rest (more {x} {middle} hx hxs) stop le =
    let shorter = exact.shorter x ts (mark_of s ∷ middle) hx in absurd (omega arith)
members_again Is read k s exact low (suc n) xs ts rest (more {x} {xs = ys} {middle} hx hxs) stop le =
    let shorter = exact.shorter x ts (mark_of s ∷ middle) hx in
    let bound = level_binds s middle in
    rw (exact.again x ts (mark_of s ∷ middle) hx (omega arith), after_again s middle, members_again Is read k s exact low n ys middle rest hxs stop (omega arith)) refl

pub separated_shorter : {A : Type 0} (Is : Phrase A) (s : TokenKind) → ((x : A) (ts rest : List TokenKind) → Is x ts rest → length rest < length ts)
    → (xs : List A) (ts rest : List TokenKind) → Separated s Is xs ts rest → length rest < length ts
separated_shorter Is s shorter xs ts rest (single {x} hx) = shorter x ts rest hx
separated_shorter Is s shorter xs ts rest (more {x} {xs = ys} {middle} hx hxs) =
    let first = shorter x ts (s ∷ middle) hx in
    let others = separated_shorter Is s shorter ys middle rest hxs in
    omega arith

-- a list of what is read exactly is read exactly
pub separated_exact : {A : Type 0} {Is : Phrase A} {read : List TokenKind → Read A} {k : ℕ} (s : Punctuation) → k ≤ level s → ExactPhrase Is read k → ExactPhrase (Separated (mark_of s) Is) (separated_at read s) (suc (level s))
unfolding separated_at
separated_exact {Is} {read} {k} s low exact = record {
  sound = λ ts. members_sound Is read s (length ts) exact.sound (more_sound Is read s (length ts) exact.sound) ts;
  again = λ xs ts rest h stop. members_again Is read k s exact low (length ts) xs ts rest h (omega arith) (omega arith);
  shorter = separated_shorter Is (mark_of s) exact.shorter;
}

-- ---- lists in parentheses

listed_sound : {A : Type 0} (Is : Phrase A) (ts : List TokenKind) (o : Option (List TokenKind)) (found : Read (List A)) → IfSome o (λ rest. ts ≡ Mark CloseParenthesis ∷ rest)
    → Found (Separated (Mark Comma) Is) ts found → Found (Listed Is) ts (listed_step o found)
listed_sound Is ts (Some rest) found e h = rw e empty
listed_sound Is ts None found e h = then (Separated (Mark Comma) Is) ts found _ (Listed Is) ts h (λ xs hxs. closed_then p.CloseParenthesis (Separated (Mark Comma) Is) xs.0 ts xs.0 xs.1 (Listed Is) ts hxs (λ rest hr. members hr))

listed_again : {A : Type 0} (read : List TokenKind → Read A) → ((rest : List TokenKind) → separated_at read p.Comma (Mark CloseParenthesis ∷ rest) ≡ None)
    → (xs : List A) (ts rest : List TokenKind) → separated_at read p.Comma ts ≡ Some (xs, Mark CloseParenthesis ∷ rest) → listed_at read ts ≡ Some (xs, rest)
unfolding listed_at closed after
listed_again read closes xs (Mark CloseParenthesis ∷ others) rest e = let none = closes others in absurd cc
listed_again read closes xs ts rest e = rw e refl

-- a list in parentheses, where no member begins with the closing one
pub listed_exact : {A : Type 0} {Is : Phrase A} {read : List TokenKind → Read A} {k : ℕ} → k ≤ 5 → ExactPhrase Is read k → ((rest : List TokenKind) → read (Mark CloseParenthesis ∷ rest) ≡ None) → ExactPhrase (Listed Is) (listed_at read) 0
unfolding listed_at separated_at after
listed_exact {A} {Is} {read} low exact closes = record { sound = sound; again = again; shorter = shorter }
  where
    list : ExactPhrase (Separated (Mark Comma) Is) (separated_at read p.Comma) 6
    list = separated_exact p.Comma low exact

    sound : (ts : List TokenKind) → Found (Listed Is) ts (listed_at read ts)
    sound ts = listed_sound Is ts (after p.CloseParenthesis ts) (separated_at read p.Comma ts) (after_sound p.CloseParenthesis ts) (list.sound ts)

    again : (xs : List A) (ts rest : List TokenKind) → Listed Is xs ts rest → 0 ≤ phrase_binds rest → listed_at read ts ≡ Some (xs, rest)
    again xs ts rest empty stop = refl
    again xs ts rest (members h) stop = listed_again read (λ others. rw (closes others) refl) xs ts rest (list.again xs ts (Mark CloseParenthesis ∷ rest) h (omega arith))

    shorter : (xs : List A) (ts rest : List TokenKind) → Listed Is xs ts rest → length rest < length ts
    shorter xs ts rest empty = omega arith
    shorter xs ts rest (members h) = let less = list.shorter xs ts (Mark CloseParenthesis ∷ rest) h in omega arith

-- ---- all the tokens

last_sound : {A : Type 0} (Is : Phrase A) (ts : List TokenKind) (x : A) (rest : List TokenKind) → Is x ts rest → IfSome (if_last x rest) (λ y. Is y ts [])
last_sound Is ts x [] h = h
last_sound Is ts x (t ∷ rest) h = tt

whole_step : {A : Type 0} (Is : Phrase A) (ts : List TokenKind) (o : Read A) → Found Is ts o → IfSome (o >>= λ x. if_last x.0 x.1) (λ y. Is y ts [])
whole_step Is ts None h = tt
whole_step Is ts (Some x) h = last_sound Is ts x.0 x.1 h

pub whole_found : {A : Type 0} {Is : Phrase A} {read : List TokenKind → Read A} {k : ℕ} → ExactPhrase Is read k → (ts : List TokenKind) (found : Option A) → found ≡ whole_at read ts → IfSome found (λ x. Is x ts [])
unfolding whole_at
whole_found {A} {Is} {read} exact ts found e = subst (λ (o : Option A). IfSome o (λ x. Is x ts [])) (sym e) (whole_step Is ts (read ts) (exact.sound ts))

pub whole_none : {A : Type 0} {Is : Phrase A} {read : List TokenKind → Read A} {k : ℕ} → k ≤ 9 → ExactPhrase Is read k → (ts : List TokenKind) (found : Option A) → found ≡ whole_at read ts → IfNone found ((x : A) → Is x ts [] → ⊥)
unfolding whole_at
whole_none {read} low exact ts None e = λ x h. let again = exact.again x ts [] h low in let two : None ≡ Some x = e ∙ rw again refl in absurd cc
whole_none low exact ts (Some y) e = tt

-- ---- as many as there are

-- Each phrase begins with a token that phrase_binds at least so loosely.
abbrev pub Begins : {A : Type 0} → Phrase A → ℕ → Type 0
Begins Is k = (x : _) (ts rest : List TokenKind) → Is x ts rest → k ≤ phrase_binds ts

many_step_sound : {A : Type 0} (Is : Phrase A) (o : Read A) (ts : List TokenKind) (go : List TokenKind → Read (List A))
    → Found Is ts o → Sound (Many Is) go → Found (Many Is) ts (many_step o ts (λ x rest. with_first x (go rest)))
many_step_sound Is None ts go h sound = nothing
many_step_sound Is (Some x) ts go h sound = then (Many Is) x.1 (go x.1) _ (Many Is) ts (sound x.1) (λ xs hxs. further h hxs)

turns_sound : {A : Type 0} (Is : Phrase A) (read : List TokenKind → Read A) → Sound Is read → (n : ℕ) → Sound (Many Is) (turns_at read n)
unfolding turns_at
turns_sound Is read sound zero ts = nothing
turns_sound Is read sound (suc n) ts = many_step_sound Is (read ts) ts (turns_at read n) (sound ts) (turns_sound Is read sound n)

pub many_sound : {A : Type 0} {Is : Phrase A} {read : List TokenKind → Read A} {k : ℕ} → ExactPhrase Is read k → (ts : List TokenKind) → Found (Many Is) ts (many_at read ts)
unfolding many_at
many_sound {Is} {read} exact ts = turns_sound Is read exact.sound (length ts) ts

many_begins : {A : Type 0} {Is : Phrase A} {k : ℕ} → Begins Is k → (xs : List A) (ts rest : List TokenKind) → Many Is xs ts rest → k ≤ phrase_binds rest → k ≤ phrase_binds ts
many_begins begins xs ts rest nothing low = low
many_begins begins xs ts rest (further {x} {middle} h hs) low = begins x ts middle h

turns_again : {A : Type 0} {Is : Phrase A} {read : List TokenKind → Read A} {k : ℕ} → ExactPhrase Is read k → Begins Is k
    → (n : ℕ) (xs : List A) (ts rest : List TokenKind) → Many Is xs ts rest → read rest ≡ None → k ≤ phrase_binds rest → length ts ≤ n → turns_at read n ts ≡ Some (xs, rest)
unfolding turns_at
turns_again exact begins zero xs ts rest nothing stop low le = refl
turns_again exact begins (suc n) xs ts rest nothing stop low le = rw stop refl
turns_again exact begins zero xs ts rest (further {x} {middle} h hs) stop low le = let less = exact.shorter x ts middle h in absurd (omega arith)
turns_again exact begins (suc n) xs ts rest (further {x} {xs = others} {middle} h hs) stop low le =
    let less = exact.shorter x ts middle h in
    rw (exact.again x ts middle h (many_begins begins others middle rest hs low), turns_again exact begins n others middle rest hs stop low (omega arith)) refl

-- where the tokens behind begin no further one
pub many_again : {A : Type 0} {Is : Phrase A} {read : List TokenKind → Read A} {k : ℕ} → ExactPhrase Is read k → Begins Is k
    → (xs : List A) (ts rest : List TokenKind) → Many Is xs ts rest → read rest ≡ None → k ≤ phrase_binds rest → many_at read ts ≡ Some (xs, rest)
unfolding many_at
many_again exact begins xs ts rest h stop low = turns_again exact begins (length ts) xs ts rest h stop low (omega arith)

pub many_shorter : {A : Type 0} {Is : Phrase A} {read : List TokenKind → Read A} {k : ℕ} → ExactPhrase Is read k → (xs : List A) (ts rest : List TokenKind) → Many Is xs ts rest → length rest ≤ length ts
many_shorter exact xs ts rest nothing = omega arith
many_shorter exact xs ts rest (further {x} {xs = others} {middle} h hs) =
    let first = exact.shorter x ts middle h in let behind = many_shorter exact others middle rest hs in omega arith

-- ---- what may be left out

maybe_step_sound : {A : Type 0} (Is : Phrase A) (o : Read A) (ts : List TokenKind) → Found Is ts o → Found (Maybe Is) ts (maybe_step o ts)
maybe_step_sound Is None ts h = left_out
maybe_step_sound Is (Some x) ts h = written h

pub maybe_sound : {A : Type 0} {Is : Phrase A} {read : List TokenKind → Read A} {k : ℕ} → ExactPhrase Is read k → (ts : List TokenKind) → Found (Maybe Is) ts (maybe_at read ts)
unfolding maybe_at
maybe_sound {Is} {read} exact ts = maybe_step_sound Is (read ts) ts (exact.sound ts)

-- where the tokens behind begin none
pub maybe_again : {A : Type 0} {Is : Phrase A} {read : List TokenKind → Read A} {k : ℕ} → ExactPhrase Is read k
    → (x : Option A) (ts rest : List TokenKind) → Maybe Is x ts rest → read rest ≡ None → k ≤ phrase_binds rest → maybe_at read ts ≡ Some (x, rest)
unfolding maybe_at
maybe_again exact x ts rest left_out stop low = rw stop refl
maybe_again exact x ts rest (written {x = found} h) stop low = rw (exact.again found ts rest h low) refl

pub maybe_shorter : {A : Type 0} {Is : Phrase A} {read : List TokenKind → Read A} {k : ℕ} → ExactPhrase Is read k → (x : Option A) (ts rest : List TokenKind) → Maybe Is x ts rest → length rest ≤ length ts
maybe_shorter exact x ts rest left_out = omega arith
maybe_shorter exact x ts rest (written {x = found} h) = let less = exact.shorter found ts rest h in omega arith

optional_step_sound : (s : Punctuation) (ts : List TokenKind) (o : Option (List TokenKind)) → IfSome o (λ rest. ts ≡ mark_of s ∷ rest) → Optional (mark_of s) ts (optional_step o ts)
optional_step_sound s ts None e = absent
optional_step_sound s ts (Some rest) e = rw e present

pub optional_sound : (s : Punctuation) (ts : List TokenKind) → Optional (mark_of s) ts (optional_at s ts)
unfolding optional_at
optional_sound s ts = optional_step_sound s ts (after s ts) (after_sound s ts)

-- where the tokens behind do not begin with the mark
pub optional_again : (s : Punctuation) (ts rest : List TokenKind) → Optional (mark_of s) ts rest → level s < phrase_binds rest → optional_at s ts ≡ rest
unfolding optional_at
optional_again s ts rest absent low = rw (after_none s rest low) refl
optional_again s ts rest present low = rw (after_again s rest) refl

pub optional_shorter : (token : TokenKind) (ts rest : List TokenKind) → Optional token ts rest → length rest ≤ length ts
optional_shorter token ts rest absent = omega arith
optional_shorter token ts rest present = omega arith
