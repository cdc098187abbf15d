-- Why a run stops, and how many bytes it took.
use Rattle.line_run.proofs.Common.{◌≡◌, ◌≢◌, ◌==◌, ◌++◌, false, ◌<◌, ◌≤◌, ◌+◌, ◌-◌, ℕ, List, [], Option, Result, Ok, Err, refl, sym, ap, ◌∙◌, arith, IsErr}
use Rattle.line_run.proofs.Common.{IsErrAnd, list_any-append, prepend, count_after, IsExhausted, has_end, HasNoEnd, Answers, LeavesNoEnd, GivesLine, Line}
use Rattle.line_run.{proofs.Common.{Whole, Long, End, TakesUpTo, HasAtMost, to_come}, specs.Faults.{run_fault, unkept_fault}}
use Rattle.{line_run.specs.declared.fault.{ImageFault.{ImageFault}, KeepFault.{KeepFault}}, std.proofs.lemmas.Bool.{or_parts}, fx_io.specs.Answers.{Stops}}
use Rattle.fx_io.specs.{Answers.{UsesBytesUp}, declared.line.LineFault.{LineFault, TheVariants.{ReadFault, ScriptLong, NoMemory}}}
use Rattle.line_run.specs.declared.fault.KeepFault.TheVariants as keep
use Rattle.line_run.specs.declared.fault.StopFault.{StopFault, TheVariants.{ScriptLong as TooLong, ReadFault as StopReadFault, NoMemory as StopNoMemory}}
use Rattle.line_run.specs.declared.fault.StopFault.TheVariants.{WriteFault, Refused}

-- how a run answers a fault
abbrev pub the_err : {T : Type 0} → StopFault → Result T StopFault
the_err fault = Err fault

-- a fault is the same beside any answer
pub err_as : {S T : Type 0} (fault other : StopFault) → the_err {T = S} fault ≡ the_err other → the_err {T = T} fault ≡ the_err other
err_as {S} fault other e = ap the_err (fault_is e)
  where
    fault_is : the_err {T = S} fault ≡ the_err other → fault ≡ other
    fault_is e = cc

-- the only error
pub err_of : {T E : Type 0} (r : Result T E) (x : E) → IsErr r → IsErrAnd r (λ e. e ≡ x) → r ≡ Err x
err_of (Ok y) x h k = absurd k
err_of (Err e) x h k = ap Err k

count_more : (a m n : ℕ) → m ≤ n → count_after (count_after a m) (n - m) ≡ count_after a n
count_more a m n le = grind arith

-- a count after a call more
pub given_since : (a m n given now : ℕ) → m ≤ n → given ≡ count_after a m → now ≡ count_after given (n - m) → now ≡ count_after a n
given_since a m n given now le before e = e ∙ ap (λ (k : ℕ). count_after k (n - m)) before ∙ count_more a m n le

pub none_given : (a : ℕ) → a ≡ count_after a 0
none_given a = grind arith

-- the reader stops where the run does
pub takes_stop : (most : ℕ) (fault : LineFault) (bytes : List ℕ) (taken : ℕ) → Stops fault bytes taken most → TakesUpTo most (Err (run_fault fault)) taken
takes_stop most ReadFault bytes taken h = h.1
takes_stop most ScriptLong bytes taken h = h.1
takes_stop most NoMemory bytes taken h = tt

-- at the end of the script nothing is left
pub exhausted : (most total : ℕ) (line : Line) (bytes kept : List ℕ) (taken : ℕ) (left : Option (List ℕ)) → line ≡ End → GivesLine most total (Ok line) bytes kept taken left → (taken ≤ total) × IsExhausted left
exhausted most total line bytes kept taken left e h = let k : GivesLine most total (Ok End) bytes kept taken left = rw e at h in k.2

-- the run says that the script is too long where the reader does
pub long_taken : {T : Type 0} (fault : LineFault) (found : StopFault) (bytes : List ℕ) (taken most : ℕ) → found ≡ run_fault fault → the_err {T = T} found ≡ the_err TooLong → Stops fault bytes taken most → most < taken
long_taken {T} ReadFault found bytes taken most e is h = absurd (let k : the_err {T = T} StopReadFault ≡ the_err TooLong = ap the_err (sym e) ∙ is in cc)
long_taken ScriptLong found bytes taken most e is h = h.1
long_taken {T} NoMemory found bytes taken most e is h = absurd (let k : the_err {T = T} StopNoMemory ≡ the_err TooLong = ap the_err (sym e) ∙ is in cc)

pub long_stop : {T : Type 0} (fault : LineFault) (found : StopFault) (before after : Option (List ℕ)) → found ≡ run_fault fault → the_err {T = T} found ≡ the_err TooLong → LeavesNoEnd fault before after
    → (front : List ℕ) × HasNoEnd front × (before ≡ prepend front after)
long_stop ReadFault found before after e is h = h
long_stop ScriptLong found before after e is h = h
long_stop {T} NoMemory found before after e is h = absurd (let k : the_err {T = T} StopNoMemory ≡ the_err TooLong = ap the_err (sym e) ∙ is in cc)

pub read_stop : {T : Type 0} (fault : LineFault) (found : StopFault) (before after : Option (List ℕ)) → found ≡ run_fault fault → the_err {T = T} found ≡ the_err StopReadFault → LeavesNoEnd fault before after
    → (front : List ℕ) × HasNoEnd front × (before ≡ prepend front after)
read_stop ReadFault found before after e is h = h
read_stop {T} ScriptLong found before after e is h = absurd (let k : the_err {T = T} TooLong ≡ the_err StopReadFault = ap the_err (sym e) ∙ is in cc)
read_stop {T} NoMemory found before after e is h = absurd (let k : the_err {T = T} StopNoMemory ≡ the_err StopReadFault = ap the_err (sym e) ∙ is in cc)

-- what is answered as a whole line has not too many bytes
pub has_at_most : (most : ℕ) (line : Line) (before after : Option (List (List ℕ))) → Answers most line before after → HasAtMost most line
has_at_most most (Whole bytes) before after h = h.0
has_at_most most Long before after h = tt
has_at_most most End before after h = tt

-- a fault of the script comes in the middle of a line
pub stops_mid_line : (fault : LineFault) (found : StopFault) (bytes : List ℕ) (taken most : ℕ) → found ≡ run_fault fault → found ≢ StopNoMemory → Stops fault bytes taken most → HasNoEnd bytes
stops_mid_line ReadFault found bytes taken most e is h = h.0
stops_mid_line ScriptLong found bytes taken most e is h = h.0
stops_mid_line NoMemory found bytes taken most e is h = absurd (is e)

pub no_memory_at_read : {T : Type 0} (found : StopFault) → the_err {T = T} found ≡ the_err StopReadFault → found ≢ StopNoMemory
no_memory_at_read {T} found is e = let k : the_err {T = T} StopNoMemory ≡ the_err StopReadFault = ap the_err (sym e) ∙ is in cc

pub no_memory_at_length : {T : Type 0} (found : StopFault) → the_err {T = T} found ≡ the_err TooLong → found ≢ StopNoMemory
no_memory_at_length {T} found is e = let k : the_err {T = T} StopNoMemory ≡ the_err TooLong = ap the_err (sym e) ∙ is in cc

-- no line ends in the bytes that were kept
pub none_kept : (kept read : List ℕ) → HasNoEnd (kept ++ read) → has_end kept ≡ false
none_kept kept read h = (or_parts (has_end kept) (has_end read) (sym (list_any-append (λ (b : ℕ). b == 10) kept read) ∙ h)).0

-- before anything was taken, all may come
pub first_to_come : (most taken : ℕ) (kept : List ℕ) → taken ≡ 0 → kept ≡ [] → to_come most taken kept ≡ most + 1
first_to_come most taken kept none nothing = rw (none, nothing) (omega arith)

-- at the end of a script that is not too long, a byte more might have come
pub last_to_come : (most taken taken' : ℕ) (kept : List ℕ) → taken ≤ taken' → taken' ≤ most → 0 < to_come most taken kept
last_to_come most taken taken' kept h k = omega (arith, h, k)

-- where a line is answered, something was to come
pub some_to_come : (line : Line) (before after : ℕ) → UsesBytesUp line before after → (line ≡ End → 0 < before) → 0 < before
some_to_come (Whole bytes) before after h ends = omega (arith, h)
some_to_come Long before after h ends = omega (arith, h)
some_to_come End before after h ends = ends refl

-- an image was not put: however many bytes were taken
pub takes_unkept : (most : ℕ) (fault : KeepFault) (taken : ℕ) → TakesUpTo most (Err (unkept_fault fault)) taken
takes_unkept most keep.WriteFault taken = tt
takes_unkept most keep.NoMemory taken = tt
takes_unkept most (keep.Refused why) taken = tt

-- the run says that an image is refused where that is said of the image
pub refused_so : {T : Type 0} (fault : KeepFault) (why : ImageFault) → the_err {T = T} (unkept_fault fault) ≡ the_err (Refused why) → fault ≡ keep.Refused why
refused_so {T} keep.WriteFault why e = absurd (let k : the_err {T = T} WriteFault ≡ the_err (Refused why) = e in cc)
refused_so {T} keep.NoMemory why e = absurd (let k : the_err {T = T} StopNoMemory ≡ the_err (Refused why) = e in cc)
refused_so {T} (keep.Refused reason) why e = ap keep.Refused (why_is e)
  where
    why_is : the_err {T = T} (Refused reason) ≡ the_err (Refused why) → reason ≡ why
    why_is k = cc
