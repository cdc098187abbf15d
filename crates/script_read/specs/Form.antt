-- Which values are commands.
use Rattle.std.specs.{Prelude.{◌≡◌, ℕ, ℤ, ◌==◌, Bool, false, List, Option, Some, None, if◌then◌else◌, codes}, Str.{bytes_eq}}
use Rattle.serde_json.specs.Data.{Data, Members}
use Rattle.script_read.specs.{Given.{givens}, Members.{text_member, object_member, whole_member, id_member, count_member, count}}
use Rattle.script_read.specs.declared.asked.{Command.{Command, TheVariants.{Change, Fire, Held}}, Change.TheVariants.{Insert, Modify, Retract, Advance, At}}
use Rattle.script_read.specs.declared.asked.Change.TheVariants.{Promise, Begin}

-- The forms, one for each kind of line: an object with exactly the members that are named. Since each name stands once,
-- an object of n members that has n given names has no other.
pub data IsForm : Data → Command → Type 0 where
  -- {"do":"fire"}
  fire : {d : Data} → text_member (codes "do") d ≡ Some (codes "fire")
      → count d ≡ Some 1
      → IsForm d (Fire None)
  -- {"do":"fire","max":n}
  fire_most : {d : Data} {n : ℕ} → text_member (codes "do") d ≡ Some (codes "fire")
      → count_member (codes "max") d ≡ Some n
      → count d ≡ Some 2
      → IsForm d (Fire (Some n))
  -- {"do":"held"}
  held : {d : Data} → text_member (codes "do") d ≡ Some (codes "held")
      → count d ≡ Some 1
      → IsForm d Held
  -- {"do":"insert","type":T,"fields":{..}}
  insert : {d : Data} {ty : List ℕ} {fields : Members} → text_member (codes "do") d ≡ Some (codes "insert")
      → text_member (codes "type") d ≡ Some ty → object_member (codes "fields") d ≡ Some fields
      → count d ≡ Some 3
      → IsForm d (Change (Insert ty None (givens fields)))
  -- {"do":"insert","type":T,"entry":X,"fields":{..}}
  insert_into : {d : Data} {ty entry : List ℕ} {fields : Members} → text_member (codes "do") d ≡ Some (codes "insert")
      → text_member (codes "type") d ≡ Some ty → text_member (codes "entry") d ≡ Some entry → object_member (codes "fields") d ≡ Some fields
      → count d ≡ Some 4
      → IsForm d (Change (Insert ty (Some entry) (givens fields)))
  -- {"do":"modify","type":T,"id":n,"fields":{..}}
  modify : {d : Data} {ty : List ℕ} {id : ℕ} {fields : Members} → text_member (codes "do") d ≡ Some (codes "modify")
      → text_member (codes "type") d ≡ Some ty → id_member (codes "id") d ≡ Some id → object_member (codes "fields") d ≡ Some fields
      → count d ≡ Some 4
      → IsForm d (Change (Modify ty (record { 0 = id }) (givens fields)))
  -- {"do":"retract","type":T,"id":n}
  retract : {d : Data} {ty : List ℕ} {id : ℕ} → text_member (codes "do") d ≡ Some (codes "retract")
      → text_member (codes "type") d ≡ Some ty → id_member (codes "id") d ≡ Some id
      → count d ≡ Some 3
      → IsForm d (Change (Retract ty (record { 0 = id })))
  -- {"do":"advance","by":ms}
  advance : {d : Data} {by : ℤ} → text_member (codes "do") d ≡ Some (codes "advance")
      → whole_member (codes "by") d ≡ Some by
      → count d ≡ Some 2
      → IsForm d (Change (Advance by))
  -- {"do":"at","ms":t}
  at : {d : Data} {moment : ℤ} → text_member (codes "do") d ≡ Some (codes "at")
      → whole_member (codes "ms") d ≡ Some moment
      → count d ≡ Some 2
      → IsForm d (Change (At moment))
  -- {"do":"promise","from":t}
  promise : {d : Data} {from : ℤ} → text_member (codes "do") d ≡ Some (codes "promise")
      → whole_member (codes "from") d ≡ Some from
      → count d ≡ Some 2
      → IsForm d (Change (Promise None from))
  -- {"do":"promise","entry":X,"from":t}
  promise_for : {d : Data} {entry : List ℕ} {from : ℤ} → text_member (codes "do") d ≡ Some (codes "promise")
      → text_member (codes "entry") d ≡ Some entry → whole_member (codes "from") d ≡ Some from
      → count d ≡ Some 3
      → IsForm d (Change (Promise (Some entry) from))
  -- {"do":"begin"}
  begin : {d : Data} → text_member (codes "do") d ≡ Some (codes "begin")
      → count d ≡ Some 1
      → IsForm d (Change Begin)

abbrev pub has_count : ℕ → Option ℕ → Bool
has_count n None = false
has_count n (Some m) = m == n

abbrev pub fire_parts : Option ℕ → Option Command
fire_parts None = None
fire_parts (Some n) = Some (Fire (Some n))

unfoldable pub fire_of : Data → Option Command
fire_of d = if has_count 1 (count d) then Some (Fire None)
    else (if has_count 2 (count d) then fire_parts (count_member (codes "max") d) else None)

unfoldable pub held_form : Data → Option Command
held_form d = if has_count 1 (count d) then Some Held else None

abbrev pub insert_parts : Option (List ℕ) → Option Members → Option Command
insert_parts None fields = None
insert_parts (Some ty) None = None
insert_parts (Some ty) (Some fields) = Some (Change (Insert ty None (givens fields)))

abbrev pub insert_into_parts : Option (List ℕ) → Option (List ℕ) → Option Members → Option Command
insert_into_parts (Some ty) (Some entry) (Some fields) = Some (Change (Insert ty (Some entry) (givens fields)))
insert_into_parts _ _ _ = None

unfoldable pub insert_of : Data → Option Command
insert_of d = if has_count 3 (count d) then insert_parts (text_member (codes "type") d) (object_member (codes "fields") d)
    else (if has_count 4 (count d) then insert_into_parts (text_member (codes "type") d) (text_member (codes "entry") d) (object_member (codes "fields") d)
    else None)

abbrev pub modify_parts : Option (List ℕ) → Option ℕ → Option Members → Option Command
modify_parts (Some ty) (Some id) (Some fields) = Some (Change (Modify ty (record { 0 = id }) (givens fields)))
modify_parts _ _ _ = None

unfoldable pub modify_of : Data → Option Command
modify_of d = if has_count 4 (count d) then modify_parts (text_member (codes "type") d) (id_member (codes "id") d) (object_member (codes "fields") d) else None

abbrev pub retract_parts : Option (List ℕ) → Option ℕ → Option Command
retract_parts (Some ty) (Some id) = Some (Change (Retract ty (record { 0 = id })))
retract_parts _ _ = None

unfoldable pub retract_of : Data → Option Command
retract_of d = if has_count 3 (count d) then retract_parts (text_member (codes "type") d) (id_member (codes "id") d) else None

abbrev pub advance_parts : Option ℤ → Option Command
advance_parts None = None
advance_parts (Some by) = Some (Change (Advance by))

unfoldable pub advance_of : Data → Option Command
advance_of d = if has_count 2 (count d) then advance_parts (whole_member (codes "by") d) else None

abbrev pub at_parts : Option ℤ → Option Command
at_parts None = None
at_parts (Some moment) = Some (Change (At moment))

unfoldable pub at_of : Data → Option Command
at_of d = if has_count 2 (count d) then at_parts (whole_member (codes "ms") d) else None

abbrev pub promise_parts : Option ℤ → Option Command
promise_parts None = None
promise_parts (Some from) = Some (Change (Promise None from))

abbrev pub promise_of_parts : Option (List ℕ) → Option ℤ → Option Command
promise_of_parts (Some entry) (Some from) = Some (Change (Promise (Some entry) from))
promise_of_parts _ _ = None

unfoldable pub promise_of : Data → Option Command
promise_of d = if has_count 2 (count d) then promise_parts (whole_member (codes "from") d)
    else (if has_count 3 (count d) then promise_of_parts (text_member (codes "entry") d) (whole_member (codes "from") d) else None)

unfoldable pub begin_of : Data → Option Command
begin_of d = if has_count 1 (count d) then Some (Change Begin) else None

-- by the word after `do`
abbrev pub command_by_word : Data → Option (List ℕ) → Option Command
command_by_word d None = None
command_by_word d (Some word) = if bytes_eq word (codes "fire") then fire_of d
    else (if bytes_eq word (codes "insert") then insert_of d
    else (if bytes_eq word (codes "modify") then modify_of d
    else (if bytes_eq word (codes "retract") then retract_of d
    else (if bytes_eq word (codes "advance") then advance_of d
    else (if bytes_eq word (codes "at") then at_of d
    else (if bytes_eq word (codes "held") then held_form d
    else (if bytes_eq word (codes "promise") then promise_of d
    else (if bytes_eq word (codes "begin") then begin_of d else None))))))))

-- the command whose form a value has
unfoldable pub command_of : Data → Option Command
command_of d = command_by_word d (text_member (codes "do") d)
