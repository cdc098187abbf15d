-- A reader in the middle of a line.
use Rattle.fx_io.proofs.Common.{◌≡◌, ◌≤◌, ◌+◌, ◌++◌, ℕ, List, [], ◌∷◌, length, take, drop, Option, Some, None, Ok, refl, sym, ap, ◌∙◌, arith, inl, inr}
use Rattle.fx_io.proofs.Common.{append_assoc, append-nil, length-append, take-append-drop, prepend, count_after, IsExhausted, HasNoEnd, IsFirstEnd, IsLinePart}
use Rattle.fx_io.proofs.Common.{IsAnswer, IsLastAnswer, TakesLine, TakesFromBytes, GivesLine, ReadsBytes, Line, Whole, Long, End}
use Rattle.fx_io.{specs.declared.part.PartLine.{PartLine}, proofs.{Ends.{HasNoEnd-append}, Told.{prepend-prepend}}}

-- a front of the line, `text`, is in the part; it and the window's bytes are those kept before the call and those read in it
pub record Reading (most : ℕ) (before window : List ℕ) (front : PartLine) (taken_before taken_now given_before given_now : ℕ) (left_before left_now : Option (List ℕ)) : Type 0 where
  pub text : List ℕ
  pub read : List ℕ
  pub part : IsLinePart most text front
  pub no_end : HasNoEnd text
  pub bytes : before ++ read ≡ text ++ window
  pub reads : ReadsBytes read taken_before taken_now given_before given_now left_before left_now

module _ (most : ℕ) (before window : List ℕ) (front : PartLine) (taken_before taken_now given_before given_now : ℕ) (left_before left_now : Option (List ℕ)) (so_far : Reading most before window front taken_before taken_now given_before given_now left_before left_now) where
  -- the window went into the part, and new bytes came from the source
  unfoldable pub read_on : (front_next : PartLine) (new : List ℕ) (n taken_next given_next : ℕ) (left_next : Option (List ℕ)) → ((text : List ℕ) → IsLinePart most text front → IsLinePart most (text ++ window) front_next) → HasNoEnd window
      → length new ≡ n → taken_next ≡ taken_now + n → given_next ≡ count_after given_now n → left_now ≡ prepend new left_next
      → Reading most before new front_next taken_before taken_next given_before given_next left_before left_next
  read_on front_next new n taken_next given_next left_next part no_end len taken given left = record {
    text = so_far.text ++ window;
    read = so_far.read ++ new;
    part = part so_far.text so_far.part;
    no_end = HasNoEnd-append so_far.text window so_far.no_end no_end;
    bytes = sym (append_assoc before so_far.read new) ∙ ap (λ (b : List ℕ). b ++ new) so_far.bytes;
    reads = record {
      taken = omega (arith, so_far.reads.taken, length-append so_far.read new);
      given = omega (arith, so_far.reads.given, length-append so_far.read new);
      left = so_far.reads.left ∙ ap (prepend so_far.read) left ∙ prepend-prepend so_far.read new left_next;
    };
  }

-- what an answer for a line takes
takes_line : (most : ℕ) (text : List ℕ) (line : Line) (bytes kept : List ℕ) (ends : Type 0) → IsAnswer most text line → TakesLine text bytes kept ends → TakesFromBytes most line bytes kept ends
takes_line most text (Whole line) bytes kept ends h takes = rw h.0 (h.1, takes)
takes_line most text Long bytes kept ends h takes = (text, h, takes)
takes_line most text End bytes kept ends h takes = absurd h

-- what the answer at the end of the input takes
takes_last : (most : ℕ) (text : List ℕ) (line : Line) (bytes kept : List ℕ) (ends : Type 0) → IsLastAnswer most text line → HasNoEnd text → bytes ≡ text → kept ≡ [] → ends → TakesFromBytes most line bytes kept ends
takes_last most text (Whole line) bytes kept ends h no_end same none e = rw h.0 (h.1, (no_end, inr (same, h.2, none, e)))
takes_last most text Long bytes kept ends h no_end same none e = (text, h, (no_end, inr (same, (λ no_text. absurd (omega (arith, h, ap length no_text))), none, e)))
takes_last most text End bytes kept ends h no_end same none e = (same ∙ h, none, e)

empty : (xs : List ℕ) → length xs ≡ 0 → xs ≡ []
empty [] e = refl
empty (x ∷ xs) e = absurd (omega arith)

module _ (most total_max : ℕ) (before window : List ℕ) (front : PartLine) (taken_before taken_now given_before given_now : ℕ) (left_before left_now : Option (List ℕ)) (so_far : Reading most before window front taken_before taken_now given_before given_now left_before left_now) where
  -- the line ends in the window
  pub gives_line : (place : ℕ) (line : Line) → IsFirstEnd window (Some place) → IsAnswer most (so_far.text ++ take place window) line
      → GivesLine most total_max (Ok line) (before ++ so_far.read) (drop (place + 1) window) taken_now left_now
  gives_line place line first answer =
      let parts : window ≡ take place window ++ 10 ∷ drop (place + 1) window = sym (take-append-drop place window) ∙ ap (λ (b : List ℕ). take place window ++ b) first.2 in
      let bytes : before ++ so_far.read ≡ (so_far.text ++ take place window) ++ 10 ∷ drop (place + 1) window = so_far.bytes ∙ ap (λ (b : List ℕ). so_far.text ++ b) parts ∙ sym (append_assoc so_far.text (take place window) (10 ∷ drop (place + 1) window)) in
      takes_line most (so_far.text ++ take place window) line _ _ _ answer (HasNoEnd-append so_far.text (take place window) so_far.no_end first.1, inl bytes)

  -- the input has ended, and nothing is in the window
  pub gives_last : (line : Line) → length window ≡ 0 → taken_now ≤ total_max → IsExhausted left_now → IsLastAnswer most so_far.text line
      → GivesLine most total_max (Ok line) (before ++ so_far.read) window taken_now left_now
  gives_last line len few end answer =
      let none = empty window len in
      takes_last most so_far.text line _ _ _ answer so_far.no_end (so_far.bytes ∙ ap (λ (b : List ℕ). so_far.text ++ b) none ∙ append-nil so_far.text) none (few, end)

nothing_behind : (a b : List ℕ) → a ++ b ≡ [] → b ≡ []
nothing_behind [] b e = e
nothing_behind (x ∷ a) b e = absurd (cc)

-- nothing was left before a read that took nothing, so nothing is left behind it
pub still_exhausted : (new : List ℕ) (left left_next : Option (List ℕ)) → left ≡ prepend new left_next → IsExhausted left → IsExhausted left_next
still_exhausted new left None e h = tt
still_exhausted new left (Some rest) e h = (nothing_behind new rest (rw e at h))
