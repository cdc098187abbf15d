-- What memories that stand for left rows and candidates of the world make, and what they stand for after a step or after forgetting.
use Rattle.join_memory.proofs.Common.{◌≡◌, ◌∙◌, sym, ap, refl, List, [], ◌∷◌, Bool, true, false, not, ◌&&◌, ◌||◌, Option, Some, None, list_any, list_any-append}
use Rattle.join_memory.proofs.Common.{Named, Row, Look, joins, Memories, with_name, unjoined, splits, has_left, has_right, made, cleaned, remembered, clean}
use Rattle.join_memory.{proofs.{Common.{either, PassesAlike, StandsFor}, Joining.{joined_alike, from_unjoined}}, specs.Joined.{joined}}
use Rattle.std.proofs.Math.Bool.{and-false}

not_or : (a b : Bool) → not (a || (b || false)) ≡ (not a && not b)
not_or true b = refl
not_or false true = refl
not_or false false = refl

-- a row is clean where its front and its last fact are
pub clean_with : (facts : Named → Bool) (row : Row) (who : Named) → clean facts (with_name row who) ≡ (clean facts row && not (facts who))
clean_with facts row who = ap not (list_any-append facts row.facts (who ∷ [])) ∙ not_or (list_any facts row.facts) (facts who)

kept_pairs : (a k b n q p : Bool) → ((a && k) ≡ true → (b && n) ≡ true → q ≡ p) → ((a && k) && ((b && n) && q)) ≡ ((a && (b && p)) && (k && n))
kept_pairs false k b n q p h = refl
kept_pairs true false b n q p h = sym (and-false (b && p))
kept_pairs true true false n q p h = refl
kept_pairs true true true false q p h = sym (and-false p)
kept_pairs true true true true true true h = refl
kept_pairs true true true true true false h = let e : true ≡ false = h refl refl in e
kept_pairs true true true true false true h = let e : false ≡ true = h refl refl in e
kept_pairs true true true true false false h = refl

module _ (pass look_pass : Row → Named → Bool) (left : Row → Bool) (right forgotten : Named → Bool)
    (alike : (row : Row) (who : Named) → cleaned left forgotten row ≡ true → remembered right forgotten who ≡ true → look_pass row who ≡ pass row who) where
  split_clean : (r : Row) (o : Option (Row × Named)) → unjoined r ≡ o
      → splits (λ l c. cleaned left forgotten l && (remembered right forgotten c && look_pass l c)) o ≡ (splits (λ l c. left l && (right c && pass l c)) o && clean forgotten r)
  split_clean r None e = refl
  split_clean r (Some p) e =
      kept_pairs (left p.0) (clean forgotten p.0) (right p.1) (not (forgotten p.1)) (look_pass p.0 p.1) (pass p.0 p.1) (alike p.0 p.1)
      ∙ ap (λ b. (left p.0 && (right p.1 && pass p.0 p.1)) && b) (sym (clean_with forgotten p.0 p.1) ∙ ap (clean forgotten) (sym (from_unjoined r p e)))

  pub joined_clean : (r : Row) → joined look_pass (cleaned left forgotten) (remembered right forgotten) r ≡ (joined pass left right r && clean forgotten r)
  unfolding joined
  joined_clean r = split_clean r (unjoined r) refl

-- the rows that are made are those of the world that name no forgotten fact
pub made_clean : {S : Type 0} (m : Memories S) (look : Look) (pass : Row → Named → Bool) (left : Row → Bool) (right forgotten : Named → Bool)
    → StandsFor m look left right forgotten → PassesAlike m.pattern look pass left right forgotten → (r : Row) → made m look r ≡ cleaned (joined pass left right) forgotten r
made_clean m look pass left right forgotten stands alike r =
    joined_alike (joins m.pattern look) (has_left m look) (cleaned left forgotten) (has_right m look) (remembered right forgotten) stands.rows stands.names r
    ∙ joined_clean pass (joins m.pattern look) left right forgotten alike r

-- what is clean after more is forgotten
pub clean_either : (facts others : Named → Bool) (names : List Named) → not (list_any (either facts others) names) ≡ (not (list_any facts names) && not (list_any others names))
clean_either facts others [] = refl
clean_either facts others (n ∷ names) = parts (facts n) (others n) (list_any (either facts others) names) (list_any facts names) (list_any others names) (clean_either facts others names)
  where
    parts : (f o e fs os : Bool) → not e ≡ (not fs && not os) → not ((f || o) || e) ≡ (not (f || fs) && not (o || os))
    parts true o e fs os h = refl
    parts false true e fs os h = sym (and-false (not fs))
    parts false false e fs os h = h

pub forgotten_more : (l : Bool) (facts others : Named → Bool) (row : Row) (gone : Bool) → ((l && clean facts row) ≡ true → gone ≡ not (clean others row)) → ((l && clean facts row) && not gone) ≡ (l && clean (either facts others) row)
forgotten_more l facts others row gone h = less l (clean facts row) (clean others row) gone (clean (either facts others) row) (clean_either facts others row.facts) h
  where
    less : (l k o g e : Bool) → e ≡ (k && o) → ((l && k) ≡ true → g ≡ not o) → ((l && k) && not g) ≡ (l && e)
    less false k o g e is h = refl
    less true false o g e is h = sym is
    less true true true g e is h = ap not (h refl) ∙ sym is
    less true true false g e is h = ap not (h refl) ∙ sym is
