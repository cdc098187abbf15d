-- The script of a load: turns of three lines each.
use Rattle.std.specs.{Prelude.{ℕ, zero, suc, nat_lt, List, [], ◌++◌, Option, Some, None, codes, if◌then◌else◌}, Fmt.{decimal}}
use Rattle.gen_load.specs.{declared.turn.Turn.{Turn}, Draws.{next_number, drawn}}

-- what a turn draws, and the number that is left for the next turn
pub record Drawing : Type 0 where
  pub turn : Turn
  pub after : ℕ

-- from the numbers d, a and k, and w where k stands for a card
abbrev pub drawing : ℕ → ℕ → ℕ → ℕ → Drawing
drawing d a k w =
    if nat_lt (drawn 4 k) 3
    then record { turn = record { by = drawn 1000 d; account = drawn 50 a; amount = Some (drawn 1000 w) }; after = w }
    else record { turn = record { by = drawn 1000 d; account = drawn 50 a; amount = None }; after = k }

-- the turn that is drawn after the number x
abbrev pub turn_after : ℕ → Drawing
turn_after x =
    let d = next_number x in
    let a = next_number d in
    let k = next_number a in
    drawing d a k (next_number k)

abbrev pub advance_line : ℕ → List ℕ
advance_line by = codes "{\"do\":\"advance\",\"by\":" ++ (decimal by ++ codes "}\n")

-- a card has an amount, a ping has none
abbrev pub insert_line : ℕ → Option ℕ → List ℕ
insert_line account (Some amount) =
    codes "{\"do\":\"insert\",\"type\":\"Card\",\"fields\":{\"acct\":" ++ (decimal account ++ (codes ",\"amount\":" ++ (decimal amount ++ codes "}}\n")))
insert_line account None =
    codes "{\"do\":\"insert\",\"type\":\"Ping\",\"fields\":{\"acct\":" ++ (decimal account ++ codes "}}\n")

abbrev pub load_fire_line : List ℕ
load_fire_line = codes "{\"do\":\"fire\"}\n"

abbrev pub turn_text : Turn → List ℕ
turn_text turn = advance_line turn.by ++ (insert_line turn.account turn.amount ++ load_fire_line)

-- so many turns, drawn after the number x
unfoldable pub turns_text : ℕ → ℕ → List ℕ
turns_text zero x = []
turns_text (suc n) x = turn_text (turn_after x).turn ++ turns_text n (turn_after x).after

-- how many turns a script has
unfoldable pub turn_count : ℕ
turn_count = 20000

-- the script of a load with this number
unfoldable pub script_text : ℕ → List ℕ
script_text n = turns_text turn_count n
