-- The text of a sample: a stack under hazard pointers, with as many copies of its operations as are asked for.
use Rattle.std.specs.Prelude.{ℕ, suc, zero, ◌==◌, if◌then◌else◌}
use Rattle.std.specs.Prelude.{List, [], ◌∷◌, ◌++◌, codes, decimal}
use Rattle.plc_lex.specs.Spelling.{next_line}

-- ---- its parts, in which `#` stands for the number of a copy

-- what all copies share
unfoldable pub declarations : List ℕ
declarations =
    codes "struct Node { ptr next; data val; }\n" ++
    codes "shared Top;\n" ++
    codes "call protect(ptr);\n" ++
    codes "use hazard(protect);\n" ++
    codes "ghost st { made, linked, cut };\n" ++
    codes "ghost owner thread;\n"

-- the two operations of a copy
unfoldable pub operations : List ℕ
operations =
    codes "op push#(v) {\n" ++
    codes "ptr n; ptr t;\n" ++
    codes "atomic { n := new; ghost n.owner := me; }\n" ++
    codes "n.val := v;\n" ++
    codes "loop {\n" ++
    codes "t := Top;\n" ++
    codes "n.next := t;\n" ++
    codes "choose {\n" ++
    codes "atomic { n.next ?= Top; ghost n.st := linked; ghost n.owner := none; Top := n; n := null; }\n" ++
    codes "return;\n" ++
    codes "} or { }\n" ++
    codes "}\n" ++
    codes "}\n" ++
    codes "op pop#() {\n" ++
    codes "ptr t; ptr s;\n" ++
    codes "loop {\n" ++
    codes "t := Top;\n" ++
    codes "if (t == null) { return; }\n" ++
    codes "protect(t);\n" ++
    codes "choose {\n" ++
    codes "atomic { t ?= Top; active t; }\n" ++
    codes "s := t.next;\n" ++
    codes "label d#;\n" ++
    codes "choose {\n" ++
    codes "label e#;\n" ++
    codes "atomic { active Top; assume Top == t; ghost t.st := cut; ghost t.owner := me; Top := s; }\n" ++
    codes "label f#;\n" ++
    codes "retire(active t);\n" ++
    codes "return;\n" ++
    codes "} or {\n" ++
    codes "atomic { active Top; assume Top != t; }\n" ++
    codes "}\n" ++
    codes "} or { }\n" ++
    codes "}\n" ++
    codes "}\n"

-- where the outline begins
unfoldable pub invariants : List ℕ
invariants =
    codes "outline {\n" ++
    codes "inv Top == null or Top.st == linked;\n" ++
    codes "inv all x: x.st != linked or not retired(x);\n" ++
    codes "inv all x, y: x.st != linked or x.next != y or y.st == linked;\n" ++
    codes "inv all x: Top == null or x.st != linked or x.next != Top;\n" ++
    codes "inv all x, y: x.st != linked or y.st != linked or x.next == null or x.next != y.next or x == y;\n"

-- the clauses of a copy
unfoldable pub clauses : List ℕ
clauses =
    codes "over push#: n == null or n.st == made;\n" ++
    codes "over push#: n == null or n.owner == me;\n" ++
    codes "over push#: n == null or not retired(n);\n" ++
    codes "over pop#: t == null or t.st != made;\n" ++
    codes "at d#, e#: t != null;\n" ++
    codes "at d#, e#: t.next == s;\n" ++
    codes "at f#: t.st == cut;\n" ++
    codes "at f#: t.owner == me;\n" ++
    codes "at f#: not retired(t);\n"

-- where the outline ends
unfoldable pub ending : List ℕ
ending =
    codes "}\n"

-- ---- the whole text

-- a byte of a part, with the number of the copy
abbrev pub numbered_byte : ℕ → ℕ → List ℕ
numbered_byte number byte = if byte == 35 then decimal number else byte ∷ []

-- the bytes of a part, with the number of the copy
abbrev pub numbered : ℕ → List ℕ → List ℕ
numbered number [] = []
numbered number (byte ∷ more) = numbered_byte number byte ++ numbered number more

-- the copies of a part from 1 to k
abbrev pub copies : ℕ → List ℕ → List ℕ
copies zero part = []
copies (suc k) part = copies k part ++ numbered (suc k) part

-- a sample with k copies, whole
abbrev pub whole_text : ℕ → List ℕ
whole_text k = declarations ++ copies k operations ++ invariants ++ copies k clauses ++ ending

-- ---- a line left out

-- a byte of a line, none where that is the line that is left out
abbrev pub kept_byte : ℕ → ℕ → ℕ → List ℕ
kept_byte without line byte = if line == without then [] else byte ∷ []

-- what begins in a line, without the line with this number
abbrev pub without_from : ℕ → ℕ → List ℕ → List ℕ
without_from without line [] = []
without_from without line (byte ∷ more) =
    kept_byte without line byte ++ without_from without (next_line line byte) more

-- lines are counted from 1, so that 0 leaves out none
abbrev pub sample_text : ℕ → ℕ → List ℕ
sample_text k n = without_from n 1 (whole_text k)

-- ---- its lines

-- so many lines are left out
abbrev pub lines_out : ℕ → ℕ
lines_out zero = 0
lines_out (suc n) = 1
