-- When a source may be asked, as bytes are taken from it.
use Rattle.fx_io.proofs.Common.{◌≡◌, ◌≤◌, ◌+◌, ◌++◌, ℕ, List, [], ◌∷◌, length, take, drop, Some, Ok, sym, ap, subst, ◌∙◌, arith, inl, append_assoc, append-nil}
use Rattle.fx_io.proofs.Common.{take-append-drop, take-append-le, Follows, MayAskMidLine, IsEnded, EndsOrMay, count_after, HasNoEnd, IsFirstEnd, IsAnswer, Line}
use Rattle.fx_io.proofs.{Common.{Whole, Long, End}, Ends.{HasNoEnd-append}}

-- nothing was taken
pub follows_nothing : {K : Type 0} (may_ask : List ℕ → K → Type 0) → Follows may_ask [] may_ask
follows_nothing may_ask more out h = h

-- these bytes were taken, and then those
pub follows_on : {K : Type 0} (first then last : List ℕ → K → Type 0) (a b : List ℕ) → Follows first a then → Follows then b last → Follows first (a ++ b) last
follows_on first then last a b h k more out m = k more out (h (b ++ more) out (subst (λ (z : List ℕ). first z out) (append_assoc a b more) m))

-- what lies behind a piece does not count
pub follows_front : {K : Type 0} (n : ℕ) (piece rest : List ℕ) (before after : List ℕ → K → Type 0) → n ≤ length piece → Follows before (take n piece) after → Follows before (take n (piece ++ rest)) after
follows_front n piece rest before after le h = rw (take-append-le n piece rest le) h

-- in the middle of a line it may be asked
pub asks_there : {K : Type 0} (first now : List ℕ → K → Type 0) (before read text window : List ℕ) (out : K) → MayAskMidLine first before out → before ++ read ≡ text ++ window → HasNoEnd text → HasNoEnd window
    → Follows first read now → now [] out
asks_there first now before read text window out may same no_end none h =
    h [] out (subst (λ (z : List ℕ). first z out) (sym (append-nil read)) (may read (subst (λ (z : List ℕ). HasNoEnd z) (sym same) (HasNoEnd-append text window no_end none))))

-- the answer for a line that has ended
ended_so : (most : ℕ) (text : List ℕ) (line : Line) (bytes kept : List ℕ) → IsAnswer most text line → HasNoEnd text → bytes ≡ text ++ 10 ∷ kept → IsEnded most line bytes kept
ended_so most text (Whole line) bytes kept h no_end same = rw h.0 (h.1, no_end, same)
ended_so most text Long bytes kept h no_end same = (text, h, no_end, same)
ended_so most text End bytes kept h no_end same = absurd h

-- the line ends in the window
pub ends_here : {K : Type 0} (most : ℕ) (may_ask : List ℕ → K → Type 0) (before read text window : List ℕ) (place : ℕ) (line : Line) → before ++ read ≡ text ++ window → HasNoEnd text → IsFirstEnd window (Some place)
    → IsAnswer most (text ++ take place window) line → EndsOrMay most (Ok line) (before ++ read) (drop (place + 1) window) may_ask
ends_here most may_ask before read text window place line same no_end first answer =
    let parts : window ≡ take place window ++ 10 ∷ drop (place + 1) window = sym (take-append-drop place window) ∙ ap (λ (b : List ℕ). take place window ++ b) first.2 in
    let bytes : before ++ read ≡ (text ++ take place window) ++ 10 ∷ drop (place + 1) window = same ∙ ap (λ (b : List ℕ). text ++ b) parts ∙ sym (append_assoc text (take place window) (10 ∷ drop (place + 1) window)) in
    inl (ended_so most (text ++ take place window) line (before ++ read) (drop (place + 1) window) answer (HasNoEnd-append text (take place window) no_end first.1) bytes)

pub none_given : (before : ℕ) → before ≡ count_after before 0
none_given before = grind arith
