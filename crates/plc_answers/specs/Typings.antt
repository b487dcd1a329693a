-- The text of a safe file. Each line ends with a line feed.
use Rattle.std.specs.Prelude.{◌+◌, ℕ, if◌then◌else◌, List, [], ◌∷◌, ◌++◌, length}
use Rattle.std.specs.Prelude.{filter, codes, decimal, nat_lt, Option, Some, None, slice_get}
use Rattle.plc_base.specs.Mask.{has}
use Rattle.plc_base.specs.declared.ids.PointId.{PointId}
use Rattle.plc_lang.specs.declared.syntax.Local.{Local}
use Rattle.plc_lang.specs.declared.syntax.File.{File}
use Rattle.plc_lang.specs.Locals.{is_pointer, locals_of}
use Rattle.plc_auto.specs.declared.observer.Observer.{Observer}
use Rattle.plc_auto.specs.Table.{count_of, names_of}
use Rattle.plc_type.specs.declared.guarantee.Guar.{Guar}
use Rattle.plc_type.specs.declared.env.PtrType.{PtrType}
use Rattle.plc_type.specs.declared.env.Env.{Env}
use Rattle.plc_type.specs.Guarantees.{is_safe, is_active, is_local}
use Rattle.plc_flow.specs.declared.flow.Gate.{Gate}
use Rattle.plc_flow.specs.declared.flow.Flow.{Flow}
use Rattle.plc_lang.specs.Names.{name_at}

-- ---- types

-- the names of the locations in a set, in order; the first name is that of location l
abbrev pub member_names : ℕ → ℕ → List (List ℕ) → List (List ℕ)
member_names m l [] = []
member_names m l (n ∷ ns) = if has m l then n ∷ member_names m (l + 1) ns else member_names m (l + 1) ns

-- words after the first, each after a space
abbrev pub others : List (List ℕ) → List ℕ
others [] = []
others (w ∷ ws) = codes " " ++ w ++ others ws

-- words parted by one space
abbrev pub parted : List (List ℕ) → List ℕ
parted [] = []
parted (w ∷ ws) = w ++ others ws

-- a set of locations in braces
abbrev pub set_text : Observer → ℕ → List ℕ
set_text o m = codes "{" ++ parted (member_names m 0 (names_of o)) ++ codes "}"

-- one of the four sets of guarantees
abbrev pub guarantees_text : Guar → List ℕ
guarantees_text g =
    if is_local g then codes "ALS" else if is_active g then codes "AS" else if is_safe g then codes "S" else codes "-"

-- ---- the strongest typing at each label

-- at L W {..}
abbrev pub anywhere_line : List ℕ → Observer → ℕ → List ℕ
anywhere_line label o w = codes "at " ++ label ++ codes " W " ++ set_text o w ++ codes "\n"

-- at L VAR G {..}
abbrev pub local_line : List ℕ → Observer → List ℕ → PtrType → List ℕ
local_line label o name t =
    codes "at " ++ label ++ codes " " ++ name ++ codes " " ++ guarantees_text t.g ++ codes " " ++ set_text o t.m
    ++ codes "\n"

-- a line for each pointer local
abbrev pub local_lines : File → Observer → List ℕ → List Local → List PtrType → List ℕ
local_lines file o label (l ∷ ls) (t ∷ ts) =
    local_line label o (name_at file l.name) t ++ local_lines file o label ls ts
local_lines file o label [] ts = []
local_lines file o label (l ∷ ls) [] = []

-- the operation of a point, from operation k on: gates stand one after the other, so it is the first that ends
-- after the point
abbrev pub operation_from : ℕ → List Gate → ℕ → ℕ
operation_from k [] p = k
operation_from k (g ∷ gs) p = if nat_lt p g.after then k else operation_from (k + 1) gs p

-- the pointer locals at a point
abbrev pub pointers_at : Flow → ℕ → List Local
pointers_at flow p = filter is_pointer (locals_of flow.file.ops (operation_from 0 flow.gates p))

-- the lines of a label: where any address may stand, then the pointer locals
abbrev pub env_lines : Flow → Observer → List ℕ → ℕ → Option Env → List ℕ
env_lines flow o label p None = []
env_lines flow o label p (Some e) =
    anywhere_line label o e.w ++ local_lines flow.file o label (pointers_at flow p) e.locals

-- the labels in the order of the file, by the numbers of their names and their points
abbrev pub label_lines : Flow → Observer → List Env → List ℕ → List PointId → List ℕ
label_lines flow o envs (n ∷ ns) (p ∷ ps) =
    env_lines flow o (name_at flow.file n) p.0 (slice_get envs p.0) ++ label_lines flow o envs ns ps
label_lines flow o envs [] ps = []
label_lines flow o envs (n ∷ ns) [] = []

-- safe points P steps S locations L obligations O
abbrev pub safe_line : Flow → Observer → ℕ → List ℕ
safe_line flow o obligations =
    codes "safe points " ++ decimal flow.points ++ codes " steps " ++ decimal (length flow.steps)
    ++ codes " locations " ++ decimal (count_of o) ++ codes " obligations " ++ decimal obligations ++ codes "\n"

-- the typing at each label, then the counts
abbrev pub safe_text : Flow → Observer → List Env → ℕ → List ℕ
safe_text flow o envs obligations = label_lines flow o envs flow.file.labels flow.labels ++ safe_line flow o obligations
