-- What is inside a window, and what a change makes of the versions.
use Rattle.window_gate.proofs.Common.{◌≡◌, ◌∙◌, sym, ap, refl, subst, ℕ, ℤ, ◌+◌, ◌-ℤ◌, ◌<◌, ◌≤◌, min, List, [], ◌∷◌, ◌++◌, map, filter, length, Bool, true}
use Rattle.window_gate.proofs.Common.{false, cond, not, arith, int_lt, nat_lt, nat_tests, length-map, length-append, map-append, Named, Whole, Time, Length}
use Rattle.window_gate.proofs.Common.{GateChange, Come, Gone, Clock, Arrival, named_of, has_tag, inside, after, TagsDiffer, MayChange}
use Rattle.window_gate.{specs.declared.change.WindowKind.{WindowKind}, proofs.Names.{without, differ_push, differ_without}}

-- all are inside a whole window
pub inside_whole : (now : ℤ) (arrivals : List Arrival) → inside Whole now arrivals ≡ arrivals
inside_whole now [] = refl
inside_whole now (arrival ∷ later) = ap (λ xs. arrival ∷ xs) (inside_whole now later)

-- whether an arrival is inside a time window
abbrev pub is_recent : ℤ → ℤ → Arrival → Bool
is_recent millis now arrival = int_lt (now -ℤ arrival.start) millis

-- those inside a time window
pub inside_time : (millis now : ℤ) (arrivals : List Arrival) → inside (Time millis) now arrivals ≡ filter (is_recent millis now) arrivals
inside_time millis now [] = refl
inside_time millis now (arrival ∷ later) = ap (λ xs. cond (is_recent millis now arrival) (arrival ∷ xs) xs) (inside_time millis now later)

-- the latest of a list
abbrev pub latest : ℕ → List Named → List Named
latest size [] = []
latest size (named ∷ later) = cond (nat_lt (length later) size) (named ∷ latest size later) (latest size later)

map-cond : (b : Bool) (arrival : Arrival) (xs : List Arrival) → map named_of (cond b (arrival ∷ xs) xs) ≡ cond b (arrival.named ∷ map named_of xs) (map named_of xs)
map-cond true arrival xs = refl
map-cond false arrival xs = refl

-- those inside a length window are the latest
pub inside_length : (size : ℕ) (now : ℤ) (arrivals : List Arrival) → map named_of (inside (Length size) now arrivals) ≡ latest size (map named_of arrivals)
inside_length size now [] = refl
inside_length size now (arrival ∷ later) =
    map-cond (nat_lt (length later) size) arrival (inside (Length size) now later)
    ∙ ap (λ xs. cond (nat_lt (length later) size) (arrival.named ∷ xs) xs) (inside_length size now later)
    ∙ ap (λ n. cond (nat_lt n size) (arrival.named ∷ latest size (map named_of later)) (latest size (map named_of later))) (sym (length-map later named_of))

-- how many they are
pub length-latest : (size : ℕ) (names : List Named) → length (latest size names) ≡ min size (length names)
length-latest size [] = omega arith
length-latest size (named ∷ later) =
    elim (nat_lt (length later) size) as (λ b. nat_lt (length later) size ≡ b → length (cond b (named ∷ latest size later) (latest size later)) ≡ min size (length (named ∷ later))) [
      | true ↦ λ e. let h : length later < size = grind (arith, nat_tests) in let i = length-latest size later in omega arith
      | false ↦ λ e. let h : size ≤ length later = grind (arith, nat_tests) in let i = length-latest size later in omega arith
    ] refl

-- all are the latest, where they are few
latest_all : (size : ℕ) (names : List Named) → length names ≤ size → latest size names ≡ names
latest_all size [] few = refl
latest_all size (named ∷ later) few =
    let h : nat_lt (length later) size ≡ true = grind (arith, nat_tests) in
    ap (λ b. cond b (named ∷ latest size later) (latest size later)) h ∙ ap (λ xs. named ∷ xs) (latest_all size later (omega arith))

-- those in front are not the latest, where enough stand behind
latest_behind : (size : ℕ) (older newer : List Named) → size ≤ length newer → latest size (older ++ newer) ≡ latest size newer
latest_behind size [] newer enough = refl
latest_behind size (named ∷ older) newer enough =
    let n = length-append older newer in
    let h : nat_lt (length (older ++ newer)) size ≡ false = grind (arith, nat_tests) in
    ap (λ b. cond b (named ∷ latest size (older ++ newer)) (latest size (older ++ newer))) h ∙ latest_behind size older newer enough

-- the newer ones are the latest, where they are as many as can be
pub latest_split : (size : ℕ) (older newer : List Named) → length newer ≡ min size (length older + length newer) → latest size (older ++ newer) ≡ newer
latest_split size [] newer count = latest_all size newer (omega arith)
latest_split size (named ∷ older) newer count = latest_behind size (named ∷ older) newer (omega arith) ∙ latest_all size newer (omega arith)

-- ---- the versions after a change

pub named-filter : (tag : ℕ) (arrivals : List Arrival) → map named_of (filter (λ arrival. not (has_tag tag arrival.named)) arrivals) ≡ without tag (map named_of arrivals)
named-filter tag [] = refl
named-filter tag (arrival ∷ later) =
    map-cond (not (has_tag tag arrival.named)) arrival (filter (λ (other : Arrival). not (has_tag tag other.named)) later)
    ∙ ap (λ xs. cond (not (has_tag tag arrival.named)) (arrival.named ∷ xs) xs) (named-filter tag later)

-- one that comes is the last
pub named-push : (arrivals : List Arrival) (arrival : Arrival) → map named_of (arrivals ++ arrival ∷ []) ≡ map named_of arrivals ++ arrival.named ∷ []
named-push arrivals arrival = map-append named_of arrivals (arrival ∷ [])

-- their tags differ again
pub differ_after : (window : WindowKind) (arrivals : List Arrival) (change : GateChange) → TagsDiffer (map named_of arrivals) → MayChange window (map named_of arrivals) change → TagsDiffer (map named_of (after arrivals change))
differ_after window arrivals (Come named start) differ may = subst TagsDiffer (sym (named-push arrivals (record { named = named; start = start }))) (differ_push (map named_of arrivals) named differ may.0)
differ_after window arrivals (Gone named) differ may = subst TagsDiffer (sym (named-filter named.tag.0 arrivals)) (differ_without named.tag.0 (map named_of arrivals) differ)
differ_after window arrivals Clock differ may = differ
