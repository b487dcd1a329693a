-- What the ground sets of obligations share. Of a step, and of a point of another thread, all that stands before the
-- negated conclusion is settled but for how many names the conclusion binds.
use Rattle.std.specs.Prelude.{◌≡◌, ◌<◌, ◌&&◌, ◌==◌, ℕ, Bool, false, length, IfSome}
use Rattle.plc_flow.specs.declared.flow.Flow.{Flow}
use Rattle.plc_logic.specs.declared.clause.Outline.{Outline}
use Rattle.plc_symbolic.specs.Numbering.{Drafted, blank, listed_all, written_all}
use Rattle.plc_vocabulary.specs.declared.obligations.Obligation.{Obligation}
use Rattle.plc_vocabulary.specs.declared.obligations.Obligation.TheVariants.{Start, Enter, Own, Other, Claim}
use Rattle.plc_vocabulary.specs.declared.setting.Setting.{Setting}
use Rattle.plc_vocabulary.specs.Setting.{without_nodes, with_nodes}
use Rattle.plc_encoding.specs.Execution.{start, after_all}
use Rattle.plc_encoding.specs.Items.{prefix_of}
use Rattle.plc_oblig.specs.declared.annotated.Annotated.{Annotated}
use Rattle.plc_oblig.specs.declared.prefixes.Prefix.{Prefix}
use Rattle.plc_oblig.specs.declared.prefixes.Prefixes.{Prefixes}
use Rattle.plc_oblig.specs.GroundSets.{listed_first}

-- the obligation is what step k leads to
abbrev pub is_own_of : ℕ → Obligation → Bool
is_own_of k (Start i) = false
is_own_of k (Enter o c) = false
is_own_of k (Own m c) = k == m.0
is_own_of k (Other m p c) = false
is_own_of k (Claim m j) = false

-- the obligation is that step k keeps a clause of point p
abbrev pub is_other_at : ℕ → ℕ → Obligation → Bool
is_other_at k p (Start i) = false
is_other_at k p (Enter o c) = false
is_other_at k p (Own m c) = false
is_other_at k p (Other m q c) = (k == m.0) && (p == q.0)
is_other_at k p (Claim m j) = false

-- both are of one step, and of one point if they are another thread's
abbrev pub begin_alike : Obligation → Obligation → Bool
begin_alike (Start i) b = false
begin_alike (Enter o c) b = false
begin_alike (Own k c) b = is_own_of k.0 b
begin_alike (Other k p c) b = is_other_at k.0 p.0 b
begin_alike (Claim k j) b = false

-- the draft of the set of an obligation with this setting, before the negated conclusion
unfoldable pub prefix_draft : Flow → Outline → Setting → Obligation → Drafted
prefix_draft flow outline s o =
    written_all (listed_all blank (listed_first flow outline s)) (prefix_of flow outline s o)

-- the setting of the obligation, if its conclusion binds n names
abbrev pub setting_for : Flow → Outline → Obligation → ℕ → Setting
setting_for flow outline o n = with_nodes flow outline (record (without_nodes flow outline o) { bound = n })

-- with this setting the set of the obligation begins with what is kept
pub record IsPrefixOf (flow : Flow) (outline : Outline) (s : Setting) (o : Obligation) (k : Prefix) : Type 0 where
  pub draft : k.draft ≡ prefix_draft flow outline s o
  pub executed : k.executed ≡ after_all start s.acts
  pub few : length k.executed.written < 65536

-- so does the set of the obligation that it was made for
abbrev pub IsKeptFor : Flow → Outline → Prefix → Type 0
IsKeptFor flow outline k = IsPrefixOf flow outline (setting_for flow outline k.obligation k.bound) k.obligation k

abbrev pub IsPrefix : Annotated → Prefix → Type 0
IsPrefix p k = IsKeptFor p.flow.now p.outline.now k

-- each of these is a prefix of sets of the program
pub record ArePrefixes (p : Annotated) (ks : Prefixes) : Type 0 where
  pub none : IfSome ks.none (IsPrefix p)
  pub one : IfSome ks.one (IsPrefix p)
  pub more : IfSome ks.more (IsPrefix p)
