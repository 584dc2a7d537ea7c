-- The script of n units, whose lines are lists of words.
use Rattle.std.specs.Prelude.{ℕ, ◌+◌, ◌-◌, ◌%◌, List, [], ◌∷◌, ◌++◌, length, replicate, flat_map, codes, decimal}
use Rattle.std.specs.List.{range_with_len}

-- words joined by blanks, and the line's end behind the last
unfoldable pub line_text : List (List ℕ) → List ℕ
line_text [] = 10 ∷ []
line_text (word ∷ []) = word ++ 10 ∷ []
line_text (word ∷ next ∷ words) = word ++ 32 ∷ line_text (next ∷ words)

abbrev pub text_of : List (List (List ℕ)) → List ℕ
text_of lines = flat_map line_text lines

-- ---- the sessions

abbrev pub session : ℕ → List ℕ
session s = codes "S" ++ decimal s

abbrev pub logon_line : ℕ → List (List ℕ)
logon_line s = session s ∷ codes "LOGON" ∷ (codes "U" ++ decimal s) ∷ []

-- four sessions log on
abbrev pub logon_lines : List (List (List ℕ))
logon_lines = logon_line 1 ∷ logon_line 2 ∷ logon_line 3 ∷ logon_line 4 ∷ []

-- they take turns: this one records unit k
abbrev pub session_of : ℕ → ℕ
session_of k = (k - 1) % 4 + 1

-- ---- one unit

-- the number in ten digits, with leading zeros
abbrev pub order_digits : ℕ → List ℕ
order_digits k = replicate (10 - length (decimal k)) 48 ++ decimal k

-- the lock of the order
abbrev pub lock_line : ℕ → ℕ → List (List ℕ)
lock_line s k =
    session s ∷ codes "ENQ" ∷ codes "EZORDER" ∷ codes "E" ∷ codes "2" ∷ codes
    "MANDT=100" ∷ (codes "ORDNR=" ++ order_digits k) ∷ []

-- a number, which is kept as N
abbrev pub number_line : ℕ → List (List ℕ)
number_line s = session s ∷ codes "NUM" ∷ codes "ZORDNR" ∷ codes "01" ∷ codes "N" ∷ []

-- the order's header and its item at that number
abbrev pub header_line : ℕ → ℕ → List (List ℕ)
header_line s k = session s ∷ codes "V1" ∷ codes "INS" ∷ codes "VBAK" ∷ codes "$N" ∷ codes "ORDER" ∷ decimal k ∷ []

abbrev pub item_line : ℕ → ℕ → List (List ℕ)
item_line s k = session s ∷ codes "V1" ∷ codes "INS" ∷ codes "VBAP" ∷ codes "$N-10" ∷ codes "ITEM" ∷ decimal k ∷ []

-- one order more in the statistics
abbrev pub statistics_line : ℕ → List (List ℕ)
statistics_line s = session s ∷ codes "V2" ∷ codes "ADD" ∷ codes "STAT" ∷ codes "ORDERS" ∷ codes "1" ∷ []

abbrev pub commit_line : ℕ → List (List ℕ)
commit_line s = session s ∷ codes "COMMIT" ∷ []

-- a worker takes the unit and does its V1 part, and then its V2 part
abbrev pub work_lines : List (List (List ℕ))
work_lines =
    (codes "@1" ∷ codes "TAKE1" ∷ []) ∷ (codes "@1" ∷ codes "DO1" ∷ []) ∷ (codes "@1" ∷ codes "TAKE2" ∷ [])
    ∷ (codes "@1" ∷ codes "DO2" ∷ []) ∷ []

-- the lines of a unit k that session s records
abbrev pub lines_by : ℕ → ℕ → List (List (List ℕ))
lines_by s k =
    lock_line s k ∷ number_line s ∷ header_line s k ∷ item_line s k ∷ statistics_line s ∷ commit_line s ∷ work_lines

-- the ten lines of unit k
abbrev pub lines_of_unit : ℕ → List (List (List ℕ))
lines_of_unit k = lines_by (session_of k) k

-- ---- the whole

-- the lines of the units 1 to n
abbrev pub unit_lines : ℕ → List (List (List ℕ))
unit_lines n = flat_map lines_of_unit (range_with_len 1 n)

abbrev pub script_of : ℕ → List ℕ
script_of n = text_of (logon_lines ++ unit_lines n)
