-- A run that is fed with more bytes.
use Rattle.line_feed.proofs.Common.{◌≡◌, ◌++◌, ◌+◌, ℕ, Bool, List, [], ◌∷◌, take, drop, Option, Some, None, refl, sym, ap, subst, ◌∙◌, append_assoc, append-nil}
use Rattle.line_feed.{proofs.Common.{arith, take-append-drop}, specs.Fed.{front_most, HasFed, IsAt, IsBehind, Feeds, front_kept, last_piece}}
use Rattle.line_feed.{specs.declared.fed.Fed.{Fed}, proofs.Pieces.{first_whole, none_whole, last_has_none, last_of_none, last_behind_end, lines_of_both}}
use Rattle.{line_feed.proofs.Pieces.{last_of_both}, std.proofs.{lemmas.Option.{same_Some}, Math.Seq.{take-add, take-nil}}, fx_io.specs.Answers.{Answers}}
use Rattle.fx_io.{specs.{Answers.{IsAnswer}, Lines.{HasNoEnd, IsFirstEnd, with_line}, declared.line.Line.{Line}}, proofs.Ends.{HasNoEnd-append}}
use Rattle.{fx_io.specs.declared.line.Line.TheVariants.{Whole, Long, End}, rule_world.specs.Worlds.{World}, line_run.specs.{Prompt.{whole_lines}, Run.{Done}}}
use Rattle.line_run.specs.Run.{LineEffect, Outcome, RunState, Steps, goes_on, saves, stops, then_run, at_limit, run, state_after, state_in, progress_after}
use Rattle.line_run.specs.{Run.{at_end}, Turns.{Does, Turns}, declared.turn.{Turn.{Turn, TheVariants.{Goes, Saves, Stops}}, Progress.{Progress}}}
use Rattle.line_run.proofs.Ahead.{first_is, run_ended, run_goes, run_saves, run_stops, then_run-then_run}

abbrev comes_of : Outcome → Option RunState
comes_of o = o.comes_to

abbrev bytes_of : Outcome → List ℕ
bytes_of o = o.bytes

no_more : (s t : RunState) → None ≡ Some t → ⊥
no_more s t e = cc

-- ---- a run in two parts

abbrev Joins : Steps → RunState → RunState → List (List ℕ) → List (List ℕ) → Type 0
Joins steps s t xs ys = run steps s (xs ++ ys) ≡ then_run (run steps s xs).bytes (run steps t ys)

pub joined : (steps : Steps) (s t : RunState) (xs ys : List (List ℕ)) → (run steps s xs).comes_to ≡ Some t → Joins steps s t xs ys
unfolding run
joined steps s t [] ys e = ap (λ (u : RunState). run steps u ys) (same_Some s t e)
joined steps s t (x ∷ xs) ys e = here (steps s x) refl (λ u h. joined steps u t xs ys h)
  where
    behind : (done : Done) → run steps s (x ∷ xs) ≡ then_run done.text (run steps (state_after s done) xs)
        → run steps s (x ∷ (xs ++ ys)) ≡ then_run done.text (run steps (state_after s done) (xs ++ ys))
        → ((u : RunState) → (run steps u xs).comes_to ≡ Some t → Joins steps u t xs ys) → Joins steps s t (x ∷ xs) ys
    behind done first all rest =
        let comes : (run steps (state_after s done) xs).comes_to ≡ Some t = sym (ap comes_of first) ∙ e in
        all ∙ ap (then_run done.text) (rest (state_after s done) comes)
        ∙ then_run-then_run done.text (run steps (state_after s done) xs).bytes (run steps t ys) ∙ ap (λ (z : List ℕ). then_run z (run steps t ys)) (sym (ap bytes_of first))

    here : (step : LineEffect) → steps s x ≡ step → ((u : RunState) → (run steps u xs).comes_to ≡ Some t → Joins steps u t xs ys) → Joins steps s t (x ∷ xs) ys
    here (goes_on done) is rest = behind done (run_goes steps s x done is xs) (run_goes steps s x done is (xs ++ ys)) rest
    here (saves done) is rest = behind done (run_saves steps s x done is xs) (run_saves steps s x done is (xs ++ ys)) rest
    here (stops text) is rest = absurd (no_more s t (sym (ap comes_of (run_stops steps s x text is xs)) ∙ e))

-- a run that has ended takes no more lines
pub ended_run : (steps : Steps) (s : RunState) (xs ys : List (List ℕ)) → (run steps s xs).comes_to ≡ None → run steps s (xs ++ ys) ≡ run steps s xs
unfolding run
ended_run steps s [] ys e = absurd (no_more s s (sym e))
ended_run steps s (x ∷ xs) ys e = here (steps s x) refl (λ u h. ended_run steps u xs ys h)
  where
    behind : (done : Done) → run steps s (x ∷ xs) ≡ then_run done.text (run steps (state_after s done) xs)
        → run steps s (x ∷ (xs ++ ys)) ≡ then_run done.text (run steps (state_after s done) (xs ++ ys))
        → ((u : RunState) → (run steps u xs).comes_to ≡ None → run steps u (xs ++ ys) ≡ run steps u xs) → run steps s (x ∷ (xs ++ ys)) ≡ run steps s (x ∷ xs)
    behind done first all rest = all ∙ ap (then_run done.text) (rest (state_after s done) (sym (ap comes_of first) ∙ e)) ∙ sym first

    here : (step : LineEffect) → steps s x ≡ step → ((u : RunState) → (run steps u xs).comes_to ≡ None → run steps u (xs ++ ys) ≡ run steps u xs)
        → run steps s (x ∷ (xs ++ ys)) ≡ run steps s (x ∷ xs)
    here (goes_on done) is rest = behind done (run_goes steps s x done is xs) (run_goes steps s x done is (xs ++ ys)) rest
    here (saves done) is rest = behind done (run_saves steps s x done is xs) (run_saves steps s x done is (xs ++ ys)) rest
    here (stops text) is rest = run_stops steps s x text is (xs ++ ys) ∙ sym (run_stops steps s x text is xs)

-- ---- what was fed

-- what a line is handed on as, where it is the only one ahead
answered : (full : List ℕ) (line : Line) → IsAnswer 65536 full line → Answers 65536 line (Some (full ∷ [])) (Some [])
answered full (Whole l) h = (rw h.0 h.1, ap (λ (z : List ℕ). Some (z ∷ [])) (sym h.0))
answered full Long h = (full, h, refl)
answered full End h = absurd h

-- the bytes through the end of a line
through_end : (from place : ℕ) (bytes rest : List ℕ) → drop place (drop from bytes) ≡ 10 ∷ rest → take from bytes ++ (take place (drop from bytes) ++ 10 ∷ []) ≡ take (from + place + 1) bytes
through_end from place bytes rest here =
    let e : from + place + 1 ≡ from + (place + 1) = omega arith in
    sym (ap (λ (n : ℕ). take n bytes) e ∙ take-add from (place + 1) bytes
    ∙ ap (λ (z : List ℕ). take from bytes ++ z) (take-add place 1 (drop from bytes) ∙ ap (λ (z : List ℕ). take place (drop from bytes) ++ take 1 z) here))

module _ {T : Type 0} (stands : T → World → Type 0) (steps : Steps) where
  -- before the first byte
  pub fed_nothing : (w : World) (at : Progress) (fed : Fed T) → fed.at ≡ at → fed.front.items ≡ [] → stands fed.taker w → HasFed stands steps (state_in w at) [] [] (Some fed)
  unfolding whole_lines last_piece run
  fed_nothing w at fed is none there = (refl, (there, is, none ∙ sym (take-nil front_most)))

  -- no bytes
  pub feeds_nothing : (fed : Fed T) (text : List ℕ) → Feeds stands steps [] fed (Some fed) text text
  feeds_nothing fed text first bytes printed h = ([], sym (append-nil text), rw (append-nil bytes, append-nil printed) h)

  -- some bytes and then others
  pub feeds_both : (a b : List ℕ) (before middle : Fed T) (after : Option (Fed T)) (text text₁ text₂ : List ℕ) → Feeds stands steps a before (Some middle) text text₁
      → Feeds stands steps b middle after text₁ text₂ → Feeds stands steps (a ++ b) before after text text₂
  feeds_both a b before middle after text text₁ text₂ f g first bytes printed h =
      let m = f first bytes printed h in let n = g first (bytes ++ a) (printed ++ m.0) m.2 in (
        m.0 ++ n.0,
        n.1 ∙ ap (λ (z : List ℕ). z ++ n.0) m.1 ∙ append_assoc text m.0 n.0,
        subst (λ (z : List ℕ). HasFed stands steps first z (printed ++ (m.0 ++ n.0)) after) (append_assoc bytes a b)
            (subst (λ (z : List ℕ). HasFed stands steps first ((bytes ++ a) ++ b) z after) (append_assoc printed m.0 n.0) n.2),
      )

  -- the bytes before this place, and then the line that ends in those ahead
  pub feeds_through : (steps' : Steps) (from place count : ℕ) (bytes ahead : List ℕ) (before middle : Fed T) (found after : Option (Fed T)) (text text₁ text₂ : List ℕ) → steps' ≡ steps
      → count ≡ place → ahead ≡ drop from bytes → IsFirstEnd ahead (Some place) → found ≡ after → Feeds stands steps (take from bytes) before (Some middle) text text₁
      → Feeds stands steps' (take count (drop from bytes) ++ 10 ∷ []) middle found text₁ text₂ → Feeds stands steps (take (from + place + 1) bytes) before after text text₂
  feeds_through steps' from place count bytes ahead before middle found after text text₁ text₂ same some is first there f g =
      let piece : List ℕ = take place (drop from bytes) in
      let here : drop place (drop from bytes) ≡ 10 ∷ drop (place + 1) (drop from bytes) = subst (λ (z : List ℕ). drop place z ≡ 10 ∷ drop (place + 1) z) is first.2 in
      let g₁ : Feeds stands steps' (piece ++ 10 ∷ []) middle found text₁ text₂ =
      subst (λ (n : ℕ). Feeds stands steps' (take n (drop from bytes) ++ 10 ∷ []) middle found text₁ text₂) some g in
      let g₂ : Feeds stands steps (piece ++ 10 ∷ []) middle found text₁ text₂ = subst (λ (z : Steps). Feeds stands z (piece ++ 10 ∷ []) middle found text₁ text₂) same g₁ in
      let g₃ : Feeds stands steps (piece ++ 10 ∷ []) middle after text₁ text₂ = subst (λ (z : Option (Fed T)). Feeds stands steps (piece ++ 10 ∷ []) middle z text₁ text₂) there g₂ in
      subst (λ (z : List ℕ). Feeds stands steps z before after text text₂) (through_end from place bytes (drop (place + 1) (drop from bytes)) here)
      (feeds_both (take from bytes) (piece ++ 10 ∷ []) before middle after text text₁ text₂ f g₃)

  -- the bytes before this place, and then the others
  pub feeds_whole : (steps' : Steps) (from : ℕ) (bytes ahead : List ℕ) (before middle : Fed T) (after : Option (Fed T)) (text text₁ text₂ : List ℕ) → steps' ≡ steps → ahead ≡ drop from bytes
      → Feeds stands steps (take from bytes) before (Some middle) text text₁ → Feeds stands steps' ahead middle after text₁ text₂ → Feeds stands steps bytes before after text text₂
  feeds_whole steps' from bytes ahead before middle after text text₁ text₂ same is f g =
      let g₁ : Feeds stands steps' (drop from bytes) middle after text₁ text₂ = subst (λ (z : List ℕ). Feeds stands steps' z middle after text₁ text₂) is g in
      let g₂ : Feeds stands steps (drop from bytes) middle after text₁ text₂ = subst (λ (z : Steps). Feeds stands z (drop from bytes) middle after text₁ text₂) same g₁ in
      subst (λ (z : List ℕ). Feeds stands steps z before after text text₂) (take-append-drop from bytes) (feeds_both (take from bytes) (drop from bytes) before middle after text text₁ text₂ f g₂)

  -- a run that has ended takes no more bytes
  pub feeds_ended : (a b : List ℕ) (before : Fed T) (text text' : List ℕ) → Feeds stands steps a before None text text' → Feeds stands steps (a ++ b) before None text text'
  feeds_ended a b before text text' f first bytes printed h =
      let m = f first bytes printed h in
      let lines = whole_lines (bytes ++ a) in
      let ends : (run steps first lines).comes_to ≡ None = none_at (run steps first lines).comes_to (last_piece (bytes ++ a)) m.2.1 in
      let same : run steps first (whole_lines (bytes ++ (a ++ b))) ≡ run steps first lines =
      ap (λ (z : List ℕ). run steps first (whole_lines z)) (sym (append_assoc bytes a b)) ∙ ap (run steps first) (lines_of_both (bytes ++ a) b)
      ∙ ended_run steps first lines (whole_lines (last_piece (bytes ++ a) ++ b)) ends in
      (m.0, m.1, (m.2.0 ∙ ap bytes_of (sym same), at_none (run steps first (whole_lines (bytes ++ (a ++ b)))).comes_to (last_piece (bytes ++ (a ++ b))) (ap comes_of same ∙ ends)))
    where
      none_at : (o : Option RunState) (piece : List ℕ) → IsAt stands o piece None → o ≡ None
      none_at None piece h = refl
      none_at (Some s) piece h = absurd h

      at_none : (o : Option RunState) (piece : List ℕ) → o ≡ None → IsAt stands o piece None
      at_none o piece e = subst (λ (z : Option RunState). IsAt stands z piece None) (sym e) tt

  -- a run that ended among these bytes
  pub feeds_stopped : (n : ℕ) (bytes : List ℕ) (before : Fed T) (text text' : List ℕ) → Feeds stands steps (take n bytes) before None text text' → Feeds stands steps bytes before None text text'
  feeds_stopped n bytes before text text' f =
      subst (λ (z : List ℕ). Feeds stands steps z before None text text') (take-append-drop n bytes) (feeds_ended (take n bytes) (drop n bytes) before text text' f)

  -- bytes in which no line ends
  pub feeds_rest : (rest : List ℕ) (before after : Fed T) (text : List ℕ) → HasNoEnd rest → after.taker ≡ before.taker → after.at ≡ before.at
      → ((line : List ℕ) → before.front.items ≡ front_kept line → after.front.items ≡ front_kept (line ++ rest)) → Feeds stands steps rest before (Some after) text text
  feeds_rest rest before after text none taker at front first bytes printed h =
      let lines : whole_lines (bytes ++ rest) ≡ whole_lines bytes =
      lines_of_both bytes rest ∙ ap (λ (z : List (List ℕ)). whole_lines bytes ++ z) (none_whole (last_piece bytes ++ rest) more) ∙ append-nil (whole_lines bytes) in
      let last : last_piece (bytes ++ rest) ≡ last_piece bytes ++ rest = last_of_both bytes rest ∙ last_of_none (last_piece bytes ++ rest) more in
      ([], sym (append-nil text), rw (append-nil printed, lines, last) (h.0, here (run steps first (whole_lines bytes)).comes_to h.1))
    where
      more : HasNoEnd (last_piece bytes ++ rest)
      more = HasNoEnd-append (last_piece bytes) rest (last_has_none bytes) none

      here : (o : Option RunState) → IsAt stands o (last_piece bytes) (Some before) → IsAt stands o (last_piece bytes ++ rest) (Some after)
      here None is = absurd is
      here (Some s) is = (rw taker is.0, at ∙ is.1, front (last_piece bytes) is.2)

  -- what is known of a line that was handed on
  pub record Taken (before : Fed T) (taker : T) (turn : Turn) (line : Line) (piece text text' : List ℕ) : Type 0 where
    pub none : HasNoEnd piece
    pub answer : (front : List ℕ) → before.front.items ≡ front_kept front → IsAnswer 65536 (front ++ piece) line
    pub turns : (w : World) (ahead behind : Option (List (List ℕ))) → stands before.taker w → Answers 65536 line ahead behind
        → Turns (stands taker) (steps (state_in w before.at)) text text' ahead behind (Some turn)

  -- a line whose end has come
  pub feeds_line : (before : Fed T) (taker : T) (turn : Turn) (line : Line) (piece text text' : List ℕ) (after : Option (Fed T)) → Taken before taker turn line piece text text'
      → IsBehind taker before.at turn after → Feeds stands steps (piece ++ 10 ∷ []) before after text text'
  feeds_line before taker turn line piece text text' after it behind first bytes printed h = here (run steps first (whole_lines bytes)).comes_to refl h.1
    where
      full : List ℕ
      full = last_piece bytes ++ piece

      full_none : HasNoEnd full
      full_none = HasNoEnd-append (last_piece bytes) piece (last_has_none bytes) it.none

      split : last_piece bytes ++ (piece ++ 10 ∷ []) ≡ full ++ 10 ∷ []
      split = sym (append_assoc (last_piece bytes) piece (10 ∷ []))

      lines : whole_lines (bytes ++ (piece ++ 10 ∷ [])) ≡ whole_lines bytes ++ full ∷ []
      lines = lines_of_both bytes (piece ++ 10 ∷ []) ∙ ap (λ (z : List ℕ). whole_lines bytes ++ whole_lines z) split ∙ ap (λ (z : List (List ℕ)). whole_lines bytes ++ z) (first_whole full [] full_none ∙ ap (λ (z : List (List ℕ)). full ∷ z) none_left)
        where
          none_left : whole_lines [] ≡ []
          none_left = none_whole [] refl

      last : last_piece (bytes ++ (piece ++ 10 ∷ [])) ≡ []
      last = last_of_both bytes (piece ++ 10 ∷ []) ∙ ap last_piece split ∙ last_behind_end full

      Goal : Type 0
      Goal = (news : List ℕ) × (text' ≡ text ++ news) × HasFed stands steps first (bytes ++ (piece ++ 10 ∷ [])) (printed ++ news) after

      here : (o : Option RunState) → (run steps first (whole_lines bytes)).comes_to ≡ o → IsAt stands o (last_piece bytes) (Some before) → Goal
      here None e is = absurd is
      here (Some s) e is = by_step (steps s full) refl does
        where
          answer : Answers 65536 line (Some (full ∷ [])) (Some [])
          answer = answered full line (it.answer (last_piece bytes) is.2)

          taken : (l : List ℕ) × (Some (full ∷ []) ≡ with_line l (Some [])) × Does (stands taker) (steps (state_in s.world before.at) l) text text' turn
          taken = it.turns s.world (Some (full ∷ [])) (Some []) is.0 answer

          does : Does (stands taker) (steps s full) text text' turn
          does = subst (λ (z : RunState). Does (stands taker) (steps z full) text text' turn) (ap (state_in s.world) is.1)
              (subst (λ (z : List ℕ). Does (stands taker) (steps (state_in s.world before.at) z) text text' turn) (sym (first_is full taken.0 [] taken.1)) taken.2)

          all : List (List ℕ)
          all = whole_lines (bytes ++ (piece ++ 10 ∷ []))

          B : List ℕ
          B = (run steps first (whole_lines bytes)).bytes

          both : run steps first all ≡ then_run B (run steps s (full ∷ []))
          both = ap (run steps first) lines ∙ joined steps first s (whole_lines bytes) (full ∷ []) e

          ends : (news : List ℕ) (comes : Option RunState) (o : Outcome) → run steps first all ≡ then_run B o → o.bytes ≡ news ++ [] → o.comes_to ≡ comes → text' ≡ text ++ news
              → IsAt stands comes [] after → Goal
          ends news comes o is_o has to grows there = (
            news,
            grows,
            (
              ap (λ (z : List ℕ). z ++ news) h.0 ∙ ap (λ (z : List ℕ). B ++ z) (sym (append-nil news) ∙ sym has) ∙ ap bytes_of (sym is_o),
              subst (λ (z : Option RunState). IsAt stands z (last_piece (bytes ++ (piece ++ 10 ∷ []))) after) (sym (ap comes_of is_o ∙ to))
                  (subst (λ (z : List ℕ). IsAt stands comes z after) (sym last) there),
            ),
          )

          goes : (done : Done) → run steps s (full ∷ []) ≡ then_run done.text (run steps (state_after s done) []) → text' ≡ text ++ done.text → stands taker done.world
              → IsBehind taker before.at (Goes done.faulty done.left) after → Goal
          goes done E grows there on =
              ends done.text (Some (state_after s done)) (then_run done.text (at_end (state_after s done)))
              (both ∙ ap (then_run B) (E ∙ ap (then_run done.text) (run_ended steps (state_after s done)))) refl refl grows (arrived after on)
            where
              arrived : (a : Option (Fed T)) → IsBehind taker before.at (Goes done.faulty done.left) a → IsAt stands (Some (state_after s done)) [] a
              arrived None k = absurd k
              arrived (Some fed) k = (rw k.0 there, k.1 ∙ ap (λ (z : Progress). progress_after z done.faulty done.left) is.1, k.2 ∙ sym (take-nil front_most))

          saved : (faulty : Bool) (left : ℕ) (a : Option (Fed T)) → IsBehind taker before.at (Saves faulty left) a → IsBehind taker before.at (Goes faulty left) a
          saved faulty left None k = k
          saved faulty left (Some fed) k = k

          stopped : (a : Option (Fed T)) → IsBehind taker before.at Stops a → IsAt stands None [] a
          stopped None k = tt
          stopped (Some fed) k = k

          by_step : (step : LineEffect) → steps s full ≡ step → Does (stands taker) step text text' turn → Goal
          by_step (goes_on done) E d = goes done (run_goes steps s full done E []) d.0 d.1 (subst (λ (z : Turn). IsBehind taker before.at z after) d.2 behind)
          by_step (saves done) E d =
              goes done (run_saves steps s full done E []) d.0 d.1 (saved done.faulty done.left after (subst (λ (z : Turn). IsBehind taker before.at z after) d.2 behind))
          by_step (stops t) E d =
              ends t None (then_run t at_limit) (both ∙ ap (then_run B) (run_stops steps s full t E [])) refl refl d.0
              (stopped after (subst (λ (z : Turn). IsBehind taker before.at z after) d.1 behind))
