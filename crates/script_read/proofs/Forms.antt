-- The commands of objects whose members stand in the order in which the forms name them.
use Rattle.script_read.proofs.Common.{◌≡◌, ℕ, ℤ, List, [], ◌∷◌, ◌≤◌, length, get_or, Option, Some, None, Result, Ok, Err, take, drop, take_all, Bor, Global}
use Rattle.script_read.proofs.Common.{codes, refl, sym, ap, ◌∙◌, arith, IfOk, IfSome, option_map, value_view, members_view, Num, Data, Members, as_i64, of_json}
use Rattle.script_read.proofs.Common.{of_members, number_of, tree_givens, two, three, givens, asks, reading, asked_of_reading, Command, Change, Fire, Insert}
use Rattle.script_read.{proofs.Common.{Modify, Retract, Promise, At, Advance, Given, from_one}, specs.{Flat.{tree_command, word_command}, Asked.{asked}}}
use Rattle.script_read.specs.{Members.{text_member, object_member, whole_member, id_member, count}, Form.{command_of, insert_of, modify_of, retract_of}}
use Rattle.{script_read.specs.Form.{promise_of, fire_of, at_of, advance_of}, std.specs.Prelude.{option_and_then}, serde_json.specs.Data.{no_members}}
use Rattle.{fx_base.specs.declared.no_memory.NoMemory.{NoMemory}, json.specs.declared.value.Value.{Value as Tree}}
use Rattle.json.specs.Json as json

-- ---- the members of an object, one by one

abbrev Member : Type 0
Member = Bor (List ℕ) × Tree Global

-- a member of this name, with this value
abbrev pub Holds : Member → List ℕ → json.Json → Type 0
Holds m name j = (m.0.now ≡ name) × (value_view m.1 ≡ j)

moved : (x m : Member) {name : List ℕ} {j : json.Json} → m ≡ x → Holds m name j → Holds x name j
moved x m e is = (ap (λ k. k.0.now) (sym e) ∙ is.0, ap (λ k. value_view k.1) (sym e) ∙ is.1)

pub one_member : (ms : List Member) (a : Member) {k : List ℕ} {j : json.Json} → length ms ≡ 1 → a ≡ get_or ms 0 a → Holds a k j
    → members_view ms ≡ json.member k j json.no_members
one_member [] a e at is = absurd (omega (arith, e))
one_member (x ∷ []) a e at is = let first = moved x a at is in rw (first.0, first.1) refl
one_member (x ∷ y ∷ ms) a e at is = absurd (omega (arith, e))

pub two_members : (ms : List Member) (a b : Member) {k l : List ℕ} {i j : json.Json} → length ms ≡ 2 → a ≡ get_or ms 0 a → b ≡ get_or ms 1 b → Holds a k i → Holds b l j
    → members_view ms ≡ json.member k i (json.member l j json.no_members)
two_members [] a b e at after is also = absurd (omega (arith, e))
two_members (x ∷ []) a b e at after is also = absurd (omega (arith, e))
two_members (x ∷ y ∷ []) a b e at after is also =
    let first = moved x a at is in
    let second = moved y b after also in
    rw (first.0, first.1, second.0, second.1) refl
two_members (x ∷ y ∷ z ∷ ms) a b e at after is also = absurd (omega (arith, e))

pub two_same : {k m l n : List ℕ} {i g j h : json.Json} → (k ≡ m) × (i ≡ g) → (l ≡ n) × (j ≡ h) → two k i l j ≡ two m g n h
two_same is also = rw (is.0, is.1, also.0, also.1) refl

pub three_same : {k o l p m q : List ℕ} {h c i d j e : json.Json} → (k ≡ o) × (h ≡ c) → (l ≡ p) × (i ≡ d) → (m ≡ q) × (j ≡ e) → three k h l i m j ≡ three o c p d q e
three_same is also third = rw (is.0, is.1, also.0, also.1, third.0, third.1) refl

-- an object by its first member and the others
pub first_is : (ms : List Member) (a : Member) (word : List ℕ) {expected : List ℕ} {n : ℕ} → 1 ≤ length ms → length (drop 1 ms) ≤ n → a ≡ get_or ms 0 a → word ≡ expected
    → Holds a (codes "do") (json.string word) → word_command expected (members_view (take n (drop 1 ms))) ≡ tree_command (json.object (members_view ms))
unfolding word_command
first_is [] a word some all at named is = absurd (omega (arith, some))
first_is (x ∷ ms) a word {n = n} some all at named is =
    let first = moved x a at is in
    let rest : take n ms ≡ ms = take_all n ms all in
    rw (first.0, first.1, named, rest) refl

-- ---- a command that is found for one reading is found for an equal one

pub same_found : {a b : Option Command} (found : Option Command) → a ≡ b → IfSome found (λ c. a ≡ Some c) → IfSome found (λ c. b ≡ Some c)
same_found None e is = tt
same_found (Some c) e is = sym e ∙ is

pub same_command : {a b : Option Command} (found : Result (Option Command) NoMemory) → a ≡ b → IfOk found (λ o. IfSome o (λ c. a ≡ Some c)) → IfOk found (λ o. IfSome o (λ c. b ≡ Some c))
same_command (Ok found) e is = same_found found e is
same_command (Err fault) e is = tt

-- at each case of the reading
asked_at : (o : Option Data) (c : Command) → option_and_then command_of o ≡ Some c → asked_of_reading o ≡ asks c
asked_at None c says = absurd (cc)
asked_at (Some d) c says = rw says refl

-- a line asks for the command that is found in its tree
pub asked_by : (line : List ℕ) (j : json.Json) → reading line ≡ of_json j → (found : Result (Option Command) NoMemory)
    → IfOk found (λ o. IfSome o (λ c. tree_command j ≡ Some c)) → IfOk found (λ o. IfSome o (λ c. asked line ≡ asks c))
unfolding asked tree_command
asked_by line j read (Ok (Some c)) is = ap asked_of_reading read ∙ asked_at (of_json j) c is
asked_by line j read (Ok None) is = tt
asked_by line j read (Err fault) is = tt

-- ---- the commands

-- at each case of the reading of the fields
insert_read : (o : Option Members) (ty : List ℕ) (parts : json.Members) (fields : List (List ℕ × Given)) → of_members parts no_members ≡ o → option_map givens o ≡ Some fields
    → word_command (codes "insert") (json.member (codes "type") (json.string ty) (json.member (codes "fields") (json.object parts) json.no_members)) ≡ Some (Change (Insert ty None fields))
unfolding word_command tree_command command_of insert_of text_member object_member count
insert_read None ty parts fields read says = absurd (cc)
insert_read (Some ms) ty parts fields read says = rw read (ap (option_map (λ fs. Change (Insert ty None fs))) says)

-- an insert in the default entry point
pub insert_is : (ty : List ℕ) (parts : json.Members) (fields : List (List ℕ × Given)) → tree_givens parts ≡ Some fields
    → word_command (codes "insert") (json.member (codes "type") (json.string ty) (json.member (codes "fields") (json.object parts) json.no_members)) ≡ Some (Change (Insert ty None fields))
insert_is ty parts fields says = insert_read (of_members parts no_members) ty parts fields refl says

-- at each case of the reading of the fields
insert_sorted : (o : Option Members) (ty : List ℕ) (parts : json.Members) (fields : List (List ℕ × Given)) → of_members parts no_members ≡ o → option_map givens o ≡ Some fields
    → word_command (codes "insert") (two (codes "fields") (json.object parts) (codes "type") (json.string ty)) ≡ Some (Change (Insert ty None fields))
unfolding word_command tree_command command_of insert_of text_member object_member count
insert_sorted None ty parts fields read says = absurd (cc)
insert_sorted (Some ms) ty parts fields read says = rw read (ap (option_map (λ fs. Change (Insert ty None fs))) says)

-- the same in the order of the names
pub insert_also : (ty : List ℕ) (parts : json.Members) (fields : List (List ℕ × Given)) → tree_givens parts ≡ Some fields
    → word_command (codes "insert") (two (codes "fields") (json.object parts) (codes "type") (json.string ty)) ≡ Some (Change (Insert ty None fields))
insert_also ty parts fields says = insert_sorted (of_members parts no_members) ty parts fields refl says

-- at each case of the reading of the fields
entry_read : (o : Option Members) (ty entry : List ℕ) (parts : json.Members) (fields : List (List ℕ × Given)) → of_members parts no_members ≡ o → option_map givens o ≡ Some fields
    → word_command (codes "insert") (json.member (codes "type") (json.string ty) (json.member (codes "entry") (json.string entry) (json.member (codes "fields") (json.object parts) json.no_members)))
    ≡ Some (Change (Insert ty (Some entry) fields))
unfolding word_command tree_command command_of insert_of text_member object_member count
entry_read None ty entry parts fields read says = absurd (cc)
entry_read (Some ms) ty entry parts fields read says = rw read (ap (option_map (λ fs. Change (Insert ty (Some entry) fs))) says)

-- an insert that names its entry point
pub entry_is : (ty entry : List ℕ) (parts : json.Members) (fields : List (List ℕ × Given)) → tree_givens parts ≡ Some fields
    → word_command (codes "insert") (json.member (codes "type") (json.string ty) (json.member (codes "entry") (json.string entry) (json.member (codes "fields") (json.object parts) json.no_members)))
    ≡ Some (Change (Insert ty (Some entry) fields))
entry_is ty entry parts fields says = entry_read (of_members parts no_members) ty entry parts fields refl says

-- at each case of the number
at_read : (o : Option Num) (digits : List ℕ) (n : ℤ) → number_of digits ≡ o → option_and_then as_i64 o ≡ Some n
    → word_command (codes "at") (json.member (codes "ms") (json.number digits) json.no_members) ≡ Some (Change (At n))
unfolding word_command tree_command command_of at_of text_member whole_member count
at_read None digits n read says = absurd (cc)
at_read (Some x) digits n read says = rw read (rw says refl)

-- a move of the clock to a moment
pub at_is : (digits : List ℕ) (n : ℤ) → option_and_then as_i64 (number_of digits) ≡ Some n
    → word_command (codes "at") (json.member (codes "ms") (json.number digits) json.no_members) ≡ Some (Change (At n))
at_is digits n says = at_read (number_of digits) digits n refl says

-- at each case of the number
advance_read : (o : Option Num) (digits : List ℕ) (n : ℤ) → number_of digits ≡ o → option_and_then as_i64 o ≡ Some n
    → word_command (codes "advance") (json.member (codes "by") (json.number digits) json.no_members) ≡ Some (Change (Advance n))
unfolding word_command tree_command command_of advance_of text_member whole_member count
advance_read None digits n read says = absurd (cc)
advance_read (Some x) digits n read says = rw read (rw says refl)

-- a move of the clock by a time
pub advance_is : (digits : List ℕ) (n : ℤ) → option_and_then as_i64 (number_of digits) ≡ Some n
    → word_command (codes "advance") (json.member (codes "by") (json.number digits) json.no_members) ≡ Some (Change (Advance n))
advance_is digits n says = advance_read (number_of digits) digits n refl says

-- at each case of the reading of the fields
entry_sorted : (o : Option Members) (ty entry : List ℕ) (parts : json.Members) (fields : List (List ℕ × Given)) → of_members parts no_members ≡ o → option_map givens o ≡ Some fields
    → word_command (codes "insert") (three (codes "entry") (json.string entry) (codes "fields") (json.object parts) (codes "type") (json.string ty)) ≡ Some (Change (Insert ty (Some entry) fields))
unfolding word_command tree_command command_of insert_of text_member object_member count
entry_sorted None ty entry parts fields read says = absurd (cc)
entry_sorted (Some ms) ty entry parts fields read says = rw read (ap (option_map (λ fs. Change (Insert ty (Some entry) fs))) says)

-- the same in the order of the names
pub entry_also : (ty entry : List ℕ) (parts : json.Members) (fields : List (List ℕ × Given)) → tree_givens parts ≡ Some fields
    → word_command (codes "insert") (three (codes "entry") (json.string entry) (codes "fields") (json.object parts) (codes "type") (json.string ty)) ≡ Some (Change (Insert ty (Some entry) fields))
entry_also ty entry parts fields says = entry_sorted (of_members parts no_members) ty entry parts fields refl says

-- at each case of the number and of the reading of the fields
modify_read : (id : Option Num) (o : Option Members) (ty digits : List ℕ) (n : ℕ) (parts : json.Members) (fields : List (List ℕ × Given)) → number_of digits ≡ id → of_members parts no_members ≡ o
    → option_and_then from_one (option_and_then as_i64 id) ≡ Some n → option_map givens o ≡ Some fields
    → word_command (codes "modify") (json.member (codes "type") (json.string ty) (json.member (codes "id") (json.number digits) (json.member (codes "fields") (json.object parts) json.no_members)))
    ≡ Some (Change (Modify ty (record { 0 = n }) fields))
unfolding word_command tree_command command_of modify_of text_member object_member whole_member id_member count
modify_read None o ty digits n parts fields read found counts says = absurd (cc)
modify_read (Some x) None ty digits n parts fields read found counts says = absurd (cc)
modify_read (Some x) (Some ms) ty digits n parts fields read found counts says = rw (read, found) (rw counts (ap (option_map (λ fs. Change (Modify ty (record { 0 = n }) fs))) says))

-- a modify
pub modify_is : (ty digits : List ℕ) (n : ℕ) (parts : json.Members) (fields : List (List ℕ × Given)) → option_and_then from_one (option_and_then as_i64 (number_of digits)) ≡ Some n → tree_givens parts ≡ Some fields
    → word_command (codes "modify") (json.member (codes "type") (json.string ty) (json.member (codes "id") (json.number digits) (json.member (codes "fields") (json.object parts) json.no_members)))
    ≡ Some (Change (Modify ty (record { 0 = n }) fields))
modify_is ty digits n parts fields counts says = modify_read (number_of digits) (of_members parts no_members) ty digits n parts fields refl refl counts says

-- at each case of the number and of the reading of the fields
modify_sorted : (id : Option Num) (o : Option Members) (ty digits : List ℕ) (n : ℕ) (parts : json.Members) (fields : List (List ℕ × Given)) → number_of digits ≡ id → of_members parts no_members ≡ o
    → option_and_then from_one (option_and_then as_i64 id) ≡ Some n → option_map givens o ≡ Some fields
    → word_command (codes "modify") (three (codes "fields") (json.object parts) (codes "id") (json.number digits) (codes "type") (json.string ty)) ≡ Some (Change (Modify ty (record { 0 = n }) fields))
unfolding word_command tree_command command_of modify_of text_member object_member whole_member id_member count
modify_sorted None o ty digits n parts fields read found counts says = absurd (cc)
modify_sorted (Some x) None ty digits n parts fields read found counts says = absurd (cc)
modify_sorted (Some x) (Some ms) ty digits n parts fields read found counts says = rw (read, found) (rw counts (ap (option_map (λ fs. Change (Modify ty (record { 0 = n }) fs))) says))

-- the same in the order of the names
pub modify_also : (ty digits : List ℕ) (n : ℕ) (parts : json.Members) (fields : List (List ℕ × Given)) → option_and_then from_one (option_and_then as_i64 (number_of digits)) ≡ Some n → tree_givens parts ≡ Some fields
    → word_command (codes "modify") (three (codes "fields") (json.object parts) (codes "id") (json.number digits) (codes "type") (json.string ty)) ≡ Some (Change (Modify ty (record { 0 = n }) fields))
modify_also ty digits n parts fields counts says = modify_sorted (number_of digits) (of_members parts no_members) ty digits n parts fields refl refl counts says

-- at each case of the number
retract_read : (id : Option Num) (ty digits : List ℕ) (n : ℕ) → number_of digits ≡ id → option_and_then from_one (option_and_then as_i64 id) ≡ Some n
    → word_command (codes "retract") (json.member (codes "type") (json.string ty) (json.member (codes "id") (json.number digits) json.no_members)) ≡ Some (Change (Retract ty (record { 0 = n })))
unfolding word_command tree_command command_of retract_of text_member whole_member id_member count
retract_read None ty digits n read counts = absurd (cc)
retract_read (Some x) ty digits n read counts = rw read (rw counts refl)

-- a retract
pub retract_is : (ty digits : List ℕ) (n : ℕ) → option_and_then from_one (option_and_then as_i64 (number_of digits)) ≡ Some n
    → word_command (codes "retract") (json.member (codes "type") (json.string ty) (json.member (codes "id") (json.number digits) json.no_members)) ≡ Some (Change (Retract ty (record { 0 = n })))
retract_is ty digits n counts = retract_read (number_of digits) ty digits n refl counts

-- at each case of the number
retract_sorted : (id : Option Num) (ty digits : List ℕ) (n : ℕ) → number_of digits ≡ id → option_and_then from_one (option_and_then as_i64 id) ≡ Some n
    → word_command (codes "retract") (two (codes "id") (json.number digits) (codes "type") (json.string ty)) ≡ Some (Change (Retract ty (record { 0 = n })))
unfolding word_command tree_command command_of retract_of text_member whole_member id_member count
retract_sorted None ty digits n read counts = absurd (cc)
retract_sorted (Some x) ty digits n read counts = rw read (rw counts refl)

-- the same in the order of the names
pub retract_also : (ty digits : List ℕ) (n : ℕ) → option_and_then from_one (option_and_then as_i64 (number_of digits)) ≡ Some n
    → word_command (codes "retract") (two (codes "id") (json.number digits) (codes "type") (json.string ty)) ≡ Some (Change (Retract ty (record { 0 = n })))
retract_also ty digits n counts = retract_sorted (number_of digits) ty digits n refl counts

-- at each case of the number
promise_read : (o : Option Num) (digits : List ℕ) (n : ℤ) → number_of digits ≡ o → option_and_then as_i64 o ≡ Some n
    → word_command (codes "promise") (json.member (codes "from") (json.number digits) json.no_members) ≡ Some (Change (Promise None n))
unfolding word_command tree_command command_of promise_of text_member whole_member count
promise_read None digits n read says = absurd (cc)
promise_read (Some x) digits n read says = rw read (rw says refl)

-- a promise of the default entry point
pub promise_is : (digits : List ℕ) (n : ℤ) → option_and_then as_i64 (number_of digits) ≡ Some n
    → word_command (codes "promise") (json.member (codes "from") (json.number digits) json.no_members) ≡ Some (Change (Promise None n))
promise_is digits n says = promise_read (number_of digits) digits n refl says

-- at each case of the number
promise_for_read : (o : Option Num) (entry digits : List ℕ) (n : ℤ) → number_of digits ≡ o → option_and_then as_i64 o ≡ Some n
    → word_command (codes "promise") (json.member (codes "entry") (json.string entry) (json.member (codes "from") (json.number digits) json.no_members)) ≡ Some (Change (Promise (Some entry) n))
unfolding word_command tree_command command_of promise_of text_member whole_member count
promise_for_read None entry digits n read says = absurd (cc)
promise_for_read (Some x) entry digits n read says = rw read (rw says refl)

-- a promise that names its entry point
pub promise_for_is : (entry digits : List ℕ) (n : ℤ) → option_and_then as_i64 (number_of digits) ≡ Some n
    → word_command (codes "promise") (json.member (codes "entry") (json.string entry) (json.member (codes "from") (json.number digits) json.no_members)) ≡ Some (Change (Promise (Some entry) n))
promise_for_is entry digits n says = promise_for_read (number_of digits) entry digits n refl says

-- a request to fire
pub fire_is : (ms : List Member) → length ms ≡ 0 → word_command (codes "fire") (members_view ms) ≡ Some (Fire None)
unfolding word_command tree_command command_of fire_of text_member count
fire_is [] e = refl
fire_is (m ∷ ms) e = absurd (omega (arith, e))
