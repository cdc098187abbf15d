-- The tokens of a tree stand for it again, whatever follows: for the shapes of the grammar.
use Rattle.drl_show.proofs.Common.{◌≡◌, true, List, [], ◌∷◌, ◌++◌, refl, sym, subst, append_assoc, append-nil, list_all, TokenKind, Mark, Comma}
use Rattle.drl_show.proofs.Common.{CloseParenthesis, Phrase, Maybe, Many, Separated, Listed, each, parted, maybe, listed, left_out, written, Optional, absent}
use Rattle.drl_show.proofs.{Common.{present, nothing, further, single, more, empty, members}, Fine.{AllGood, fine, fine_append}}
use Rattle.drl_lex.specs.declared.token.Mark.{Mark as MarkData}

-- the tokens stand for the value before all others, none of them ends an item, and what stood behind it can be spelled
pub record Again {A : Type 0} (Is : Phrase A) (tokens : List TokenKind) (x : A) (rest : List TokenKind) : Type 0 where
  pub stands : (k : List TokenKind) → Is x (tokens ++ k) k
  pub is_fine : list_all fine tokens ≡ true
  pub behind : AllGood rest

-- what stands in one way in the grammar stands there by its own tokens
abbrev pub Agains : {A : Type 0} → Phrase A → Phrase A → (A → List TokenKind) → Type 0
Agains {A} From Is tokens = (x : A) (ts rest : List TokenKind) → From x ts rest → AllGood ts → Again Is (tokens x) x rest

-- tokens behind others
pub regroup : {A : Type 0} (Is : Phrase A) (x : A) (xs ys k : List TokenKind) → Is x (xs ++ (ys ++ k)) k → Is x ((xs ++ ys) ++ k) k
regroup Is x xs ys k h = subst (λ (ts : List TokenKind). Is x ts k) (sym (append_assoc xs ys k)) h

module _ {A : Type 0} {From Is : Phrase A} {tokens : A → List TokenKind} (element : Agains From Is tokens) where
  pub many_again : Agains (Many From) (Many Is) (each tokens)
  many_again xs ts rest nothing good = record { stands = λ k. nothing; is_fine = refl; behind = good }
  many_again xs ts rest (further {x} {xs = others} {middle} h hs) good =
      let one = element x ts middle h good in
      let all = many_again others middle rest hs one.behind in
      record {
        stands = λ k. regroup (Many Is) (x ∷ others) (tokens x) (each tokens others) k (further (one.stands (each tokens others ++ k)) (all.stands k));
        is_fine = fine_append (tokens x) (each tokens others) one.is_fine all.is_fine;
        behind = all.behind;
      }

  pub maybe_again : Agains (Maybe From) (Maybe Is) (maybe tokens)
  maybe_again x ts rest left_out good = record { stands = λ k. left_out; is_fine = refl; behind = good }
  maybe_again x ts rest (written {x = found} h) good =
      let one = element found ts rest h good in record { stands = λ k. written (one.stands k); is_fine = one.is_fine; behind = one.behind }

  -- behind the first member stand a mark and the other members
  others_are : (mark : MarkData) (xs : List A) (ts rest : List TokenKind) → Separated (Mark mark) From xs ts rest → each (λ y. Mark mark ∷ tokens y) xs ≡ Mark mark ∷ parted mark tokens xs
  others_are mark xs ts rest (single {x} h) = refl
  others_are mark xs ts rest (more {x} {xs = others} h hs) = refl

  pub separated_again : (mark : MarkData) → Agains (Separated (Mark mark) From) (Separated (Mark mark) Is) (parted mark tokens)
  separated_again mark xs ts rest (single {x} h) good =
      let one = element x ts rest h good in
      record {
        stands = λ k. subst (λ (front : List TokenKind). Separated (Mark mark) Is (x ∷ []) (front ++ k) k) (sym (append-nil (tokens x))) (single (one.stands k));
        is_fine = fine_append (tokens x) [] one.is_fine refl;
        behind = one.behind;
      }
  separated_again mark xs ts rest (more {x} {xs = others} {middle} h hs) good =
      let one = element x ts (Mark mark ∷ middle) h good in
      let all = separated_again mark others middle rest hs one.behind.1 in
      let same = others_are mark others middle rest hs in
      record {
        stands = λ k. subst (λ (back : List TokenKind). Separated (Mark mark) Is (x ∷ others) ((tokens x ++ back) ++ k) k) (sym same)
            (regroup (Separated (Mark mark) Is) (x ∷ others) (tokens x) (Mark mark ∷ parted mark tokens others) k (more (one.stands (Mark mark ∷ (parted mark tokens others ++ k))) (all.stands k)));
        is_fine = fine_append (tokens x) (each (λ y. Mark mark ∷ tokens y) others) one.is_fine (subst (λ (back : List TokenKind). list_all fine back ≡ true) (sym same) all.is_fine);
        behind = all.behind;
      }

  pub listed_again : Agains (Listed From) (Listed Is) (listed tokens)
  listed_again xs ts rest empty good = record { stands = λ k. empty; is_fine = refl; behind = good.1 }
  listed_again xs ts rest (members h) good =
      let all = separated_again Comma xs ts (Mark CloseParenthesis ∷ rest) h good in
      record {
        stands = λ k. regroup (Listed Is) xs (parted Comma tokens xs) (Mark CloseParenthesis ∷ []) k (members (all.stands (Mark CloseParenthesis ∷ k)));
        is_fine = fine_append (parted Comma tokens xs) (Mark CloseParenthesis ∷ []) all.is_fine refl;
        behind = all.behind.1;
      }

pub optional_good : (token : TokenKind) (ts rest : List TokenKind) → Optional token ts rest → AllGood ts → AllGood rest
optional_good token ts rest absent good = good
optional_good token ts rest present good = good.1
