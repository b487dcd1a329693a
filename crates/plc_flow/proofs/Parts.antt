-- What a statement's parts make one after another, together.
use Rattle.std.proofs.Common.{◌≡◌, ◌∙◌, refl, sym, ap, subst, ℕ, suc, ◌+◌, ◌<◌, ◌≤◌, List, [], ◌∷◌, ◌++◌, length, get_or, drop, Result, Ok, Err, add-one, append_assoc, append-nil, drop-cons, arith}
use Rattle.std.proofs.lemmas.Grind.{common_steps}
use Rattle.plc_base.specs.declared.ids.PointId.{PointId}
use Rattle.plc_lang.specs.declared.syntax.Primitive.{Primitive}
use Rattle.plc_lang.specs.declared.syntax.Line.{Line}
use Rattle.plc_lang.specs.declared.syntax.Cond.{Cond}
use Rattle.plc_lang.specs.Statements.{Statements, And}
use Rattle.plc_lang.specs.Views.{statement_of, block_of, blocks_of}
use Rattle.plc_flow.specs.declared.flow.FlowFault.{FlowFault}
use Rattle.plc_flow.specs.declared.flow.FlowFault.TheVariants as faults
use Rattle.plc_flow.specs.declared.builder.Builder.{Builder}
use Rattle.plc_flow.specs.declared.builder.Here.{Here}
use Rattle.plc_flow.specs.Sides.{true_side, false_side}
use Rattle.plc_flow.specs.Lowering.{Made, Lowered, Branches, joined, point_of, statement_made, statements_made, blocks_made, side_made, if_made, choose_made, loop_made}
use Rattle.plc_flow.specs.Builder.{Grown, Makes, MakesBranches, a_point, a_step, a_join, without_ends}
use Rattle.plc_flow.proofs.Remaining.{Left, LeftBranches}

grown_then : (a b c : Builder) (m n : Made) → Grown a b m → Grown b c n → Grown a c (joined m n)
grown_then a b c m n g h = record {
  points = omega (arith, g.points, h.points);
  few = h.few;
  steps = h.steps ∙ ap (λ s. s ++ n.steps) g.steps ∙ append_assoc a.steps m.steps n.steps;
  labels = h.labels ∙ ap (λ s. s ++ n.labels) g.labels ∙ append_assoc a.labels m.labels n.labels;
}

pub makes_then : (a b c : Builder) (m n : Made) (r : Result PointId FlowFault) → Grown a b m → Makes b c r n → Makes a c r (joined m n)
makes_then a b c m n (Ok last) g h = (grown_then a b c m n g h.0, h.1)
makes_then a b c m n (Err (faults.TooManyPoints count)) g h = (h.0, omega (arith, g.points, h.1))
makes_then a b c m n (Err faults.Memory) g h = tt

-- the same, where sums and lists are only written otherwise
grown_same : (a b : Builder) (m n : Made) → Grown a b m → m.points ≡ n.points → m.steps ≡ n.steps → m.labels ≡ n.labels → Grown a b n
grown_same a b m n g points steps labels = record {
  points = omega (arith, points, g.points);
  few = g.few;
  steps = g.steps ∙ ap (λ s. a.steps ++ s) steps;
  labels = g.labels ∙ ap (λ s. a.labels ++ s) labels;
}

makes_same : (a b : Builder) (m n : Made) (r : Result PointId FlowFault) → Makes a b r m → m.points ≡ n.points → m.steps ≡ n.steps → m.labels ≡ n.labels → m.last ≡ n.last → Makes a b r n
makes_same a b m n (Ok last) h points steps labels ends = (grown_same a b m n h.0 points steps labels, h.1 ∙ ends)
makes_same a b m n (Err (faults.TooManyPoints count)) h points steps labels ends = (h.0, omega (arith, points, h.1))
makes_same a b m n (Err faults.Memory) h points steps labels ends = tt

-- ---- the rows of the table

module _ (h : Here) (from : ℕ) where
  pub side_makes : (prims : List Primitive) (block : Lowered) (a b c d : Builder) (first : ℕ) (r : Result PointId FlowFault) → Grown a b (a_point a.points) → first ≡ a.points → Grown b c (a_step h from first prims) → Makes c d r (block h c.points first) → Makes a d r (side_made prims block h a.points from)
  side_makes prims block a b c d first r p is s inner =
      let before : c.points ≡ a.points + 1 = omega (arith, p.points, s.points) in
      let same : block h c.points first ≡ block h (a.points + 1) a.points = rw (before, is) refl in
      makes_same a d _ _ r (makes_then a b d (a_point a.points) _ r p (makes_then b c d (a_step h from a.points prims) _ r (rw is at s) (subst (λ (m : Made). Makes c d r m) same inner))) (omega arith) refl refl refl

  two_sides : (one other : Lowered) (a b c d e f : Builder) (first second join : ℕ) (r : Result PointId FlowFault) → Grown a b (one h a.points from) → first ≡ (one h a.points from).last → Grown b c (other h b.points from) → second ≡ (other h b.points from).last → Grown c d (a_point c.points) → join ≡ c.points → Grown d e (a_step h first join []) → Makes e f r (a_step h second join []) → Makes a f r (if_made one other h a.points from)
  two_sides one other a b c d e f first second join r y first_is n second_is p join_is s t =
      let before : b.points ≡ a.points + (one h a.points from).points = y.points in
      let same : other h b.points from ≡ other h (a.points + (one h a.points from).points) from = ap (λ (k : ℕ). other h k from) before in
      let meets : join ≡ a.points + (one h a.points from).points + (other h (a.points + (one h a.points from).points) from).points = omega (arith, join_is, y.points, n.points, ap (λ (m : Made). m.points) same) in
      let second_last : second ≡ (other h (a.points + (one h a.points from).points) from).last = second_is ∙ ap (λ (m : Made). m.last) same in
      let all : Makes a f r (joined (one h a.points from) (joined (other h (a.points + (one h a.points from).points) from) (joined (a_point c.points) (joined (a_step h first join []) (a_step h second join []))))) = makes_then a b f _ _ r y (makes_then b c f _ _ r (subst (λ (m : Made). Grown b c m) same n) (makes_then c d f _ _ r p (makes_then d e f _ _ r s t))) in
      makes_same a f _ _ r all (omega arith) (rw (first_is, second_last, meets) (simp append_assoc)) (ap (λ s. (one h a.points from).labels ++ s) (append-nil _)) meets

  pub if_makes : (cond : Cond) (ps qs xs ys : List Primitive) (one other : Lowered) (a b c d e f : Builder) (first second join : ℕ) (r : Result PointId FlowFault) → ps ≡ true_side cond → qs ≡ false_side cond → xs ≡ [] → ys ≡ [] → Grown a b (side_made ps one h a.points from) → first ≡ (side_made ps one h a.points from).last → Grown b c (side_made qs other h b.points from) → second ≡ (side_made qs other h b.points from).last → Grown c d (a_point c.points) → join ≡ c.points → Grown d e (a_step h first join xs) → Makes e f r (a_step h second join ys) → Makes a f r (if_made (side_made (true_side cond) one) (side_made (false_side cond) other) h a.points from)
  if_makes cond ps qs xs ys one other a b c d e f first second join r ps_are qs_are no_xs no_ys y first_is n second_is p join_is s t =
      subst (λ (zs : List Primitive). Makes a f r (if_made (side_made zs one) (side_made (false_side cond) other) h a.points from)) ps_are
      (subst (λ (zs : List Primitive). Makes a f r (if_made (side_made ps one) (side_made zs other) h a.points from)) qs_are
      (two_sides (side_made ps one) (side_made qs other) a b c d e f first second join r y first_is n second_is p join_is (subst (λ (zs : List Primitive). Grown d e (a_step h first join zs)) no_xs s) (subst (λ (zs : List Primitive). Makes e f r (a_step h second join zs)) no_ys t)))

  pub choose_makes : (branches : Here → ℕ → ℕ → Branches) (a b c d : Builder) (ends : List PointId) (join : ℕ) (r : Result PointId FlowFault) → Grown a b (without_ends (branches h a.points from)) → ends ≡ (branches h a.points from).ends → Grown b c (a_point b.points) → join ≡ b.points → Makes c d r (a_join h ends join) → Makes a d r (choose_made branches h a.points from)
  choose_makes branches a b c d ends join r g ends_are p join_is j =
      let meets : join ≡ a.points + (branches h a.points from).points = join_is ∙ g.points in
      makes_same a d _ _ r (makes_then a b d _ _ r g (makes_then b c d _ _ r p j)) (omega arith) (rw (ends_are, meets) refl) (append-nil _) meets

  pub loop_makes : (xs ys : List Primitive) (block : Lowered) (a b c d e f : Builder) (head after end : ℕ) → xs ≡ [] → ys ≡ [] → Grown a b (a_point a.points) → head ≡ a.points → Grown b c (a_point b.points) → after ≡ b.points → Grown c d (a_step h from head xs) → Grown d e (block (record h { after = point_of after }) d.points head) → end ≡ (block (record h { after = point_of after }) d.points head).last → Grown e f (a_step h end head ys) → Grown a f (loop_made block h a.points from)
  loop_makes xs ys block a b c d e f head after end no_xs no_ys p head_is q after_is s inner end_is t =
      let past : after ≡ a.points + 1 = omega (arith, after_is, p.points) in
      let before : d.points ≡ a.points + 2 = omega (arith, p.points, q.points, s.points) in
      let same : block (record h { after = point_of after }) d.points head ≡ block (record h { after = point_of (a.points + 1) }) (a.points + 2) a.points = rw (past, before, head_is) refl in
      let end_last : end ≡ (block (record h { after = point_of (a.points + 1) }) (a.points + 2) a.points).last = end_is ∙ ap (λ (m : Made). m.last) same in
      grown_same a f _ _ (grown_then a b f _ _ p (grown_then b c f _ _ q (grown_then c d f _ _ s (grown_then d e f _ _ (subst (λ (m : Made). Grown d e m) same inner) t)))) (omega arith) (rw (head_is, end_last, no_xs, no_ys) refl) (append-nil _)

-- ---- loops

left_then : (old a b : Builder) (whole left first rest : Made) → left ≡ joined first rest → Left old a whole left → Grown a b first → Left old b whole rest
left_then old a b whole left first rest is l g = record {
  points = omega (arith, l.points, g.points, ap (λ (m : Made). m.points) is);
  few = g.few;
  steps = l.steps ∙ ap (λ (m : Made). a.steps ++ m.steps) is ∙ sym (append_assoc a.steps first.steps rest.steps) ∙ ap (λ s. s ++ rest.steps) (sym g.steps);
  labels = l.labels ∙ ap (λ (m : Made). a.labels ++ m.labels) is ∙ sym (append_assoc a.labels first.labels rest.labels) ∙ ap (λ s. s ++ rest.labels) (sym g.labels);
  last = l.last ∙ ap (λ (m : Made). m.last) is;
}

-- nothing is left
left_none : (old new : Builder) (whole : Made) (last : ℕ) → Left old new whole (record { points = 0; steps = []; labels = []; last = last }) → Grown old new whole
left_none old new whole last l = record {
  points = omega (arith, l.points);
  few = l.few;
  steps = sym (l.steps ∙ append-nil new.steps);
  labels = sym (l.labels ∙ append-nil new.labels);
}

next_line : (h : Here) (lines : List Line) (i n at : ℕ) (line : Line) → i < length lines → line ≡ get_or lines i line → statements_made (block_of (drop i lines)) h n at ≡ joined (statement_made (statement_of line.stmt) (record h { line = line.line }) n at) (statements_made (block_of (drop (i + 1) lines)) h (n + (statement_made (statement_of line.stmt) (record h { line = line.line }) n at).points) (statement_made (statement_of line.stmt) (record h { line = line.line }) n at).last)
next_line h lines i n at line within is =
    let here : drop i lines ≡ line ∷ drop (i + 1) lines = rw (add-one, drop-cons lines i line) (ap (λ x. x ∷ drop (suc i) lines) (sym is)) in
    ap (λ (ls : List Line). statements_made (block_of ls) h n at) here

pub line_turn : (h : Here) (lines : List Line) (i at next : ℕ) (line : Line) (old a b : Builder) (whole : Made) → i < length lines → line ≡ get_or lines i line → Left old a whole (statements_made (block_of (drop i lines)) h a.points at) → Grown a b (statement_made (statement_of line.stmt) (record h { line = line.line }) a.points at) → next ≡ (statement_made (statement_of line.stmt) (record h { line = line.line }) a.points at).last → Left old b whole (statements_made (block_of (drop (i + 1) lines)) h b.points next)
line_turn h lines i at next line old a b whole within is l g next_is =
    left_then old a b whole _ _ _ (next_line h lines i a.points at line within is ∙ ap (λ (m : Made). joined (statement_made (statement_of line.stmt) (record h { line = line.line }) a.points at) m) (rw (next_is, g.points) refl)) l g

-- where a part has no place, the whole has none
left_stops : (old a b : Builder) (whole left first rest : Made) (fault : FlowFault) → left ≡ joined first rest → Left old a whole left → Makes a b (Err fault) first → Makes old b (Err fault) whole
left_stops old a b whole left first rest (faults.TooManyPoints count) is l h = (h.0, omega (arith, h.1, l.points, ap (λ (m : Made). m.points) is))
left_stops old a b whole left first rest faults.Memory is l h = tt

pub line_stops : (h : Here) (lines : List Line) (i at : ℕ) (line : Line) (block : Statements) (n from : ℕ) (old a b : Builder) (fault : FlowFault) → block_of lines ≡ block → i < length lines → line ≡ get_or lines i line → Left old a (statements_made (block_of lines) h n from) (statements_made (block_of (drop i lines)) h a.points at) → Makes a b (Err fault) (statement_made (statement_of line.stmt) (record h { line = line.line }) a.points at) → Makes old b (Err fault) (statements_made block h n from)
line_stops h lines i at line block n from old a b fault whole within is l f =
    subst (λ (b' : Statements). Makes old b (Err fault) (statements_made b' h n from)) whole
    (left_stops old a b _ _ _ _ fault (next_line h lines i a.points at line within is) l f)

pub lines_end : (h : Here) (lines : List Line) (i at : ℕ) (block : Statements) (n from : ℕ) (old new : Builder) → block_of lines ≡ block → length lines ≤ i → i ≤ length lines → Left old new (statements_made (block_of lines) h n from) (statements_made (block_of (drop i lines)) h new.points at) → Grown old new (statements_made block h n from) × (at ≡ (statements_made block h n from).last)
lines_end h lines i at block n from old new whole past within l =
    let none : drop i lines ≡ [] = grind (arith, common_steps) in
    let l' : Left old new (statements_made block h n from) (statements_made (block_of []) h new.points at) = subst (λ (ls : List Line). Left old new (statements_made block h n from) (statements_made (block_of ls) h new.points at)) none (subst (λ (b : Statements). Left old new (statements_made b h n from) (statements_made (block_of (drop i lines)) h new.points at)) whole l) in
    (left_none old new _ at l', sym l'.last)

next_block : (h : Here) (from : ℕ) (blocks : List Statements) (i n : ℕ) (block : Statements) → i < length blocks → block ≡ get_or blocks i block → blocks_made (blocks_of (drop i blocks)) h n from ≡ blocks_made (And block (blocks_of (drop (i + 1) blocks))) h n from
next_block h from blocks i n block within is =
    let here : drop i blocks ≡ block ∷ drop (i + 1) blocks = rw (add-one, drop-cons blocks i block) (ap (λ x. x ∷ drop (suc i) blocks) (sym is)) in
    ap (λ (bs : List Statements). blocks_made (blocks_of bs) h n from) here

pub block_turn : (h : Here) (from : ℕ) (blocks : List Statements) (i : ℕ) (block : Statements) (xs : List Primitive) (ends more : List PointId) (end : PointId) (old a b : Builder) (whole : Branches) → xs ≡ [] → i < length blocks → block ≡ get_or blocks i block → LeftBranches old a ends whole (blocks_made (blocks_of (drop i blocks)) h a.points from) → Grown a b (side_made xs (statements_made block) h a.points from) → end.0 ≡ (side_made xs (statements_made block) h a.points from).last → more ≡ ends ++ end ∷ [] → LeftBranches old b more whole (blocks_made (blocks_of (drop (i + 1) blocks)) h b.points from)
block_turn h from blocks i block xs ends more end old a b whole no_xs within is l g end_is pushed =
    let first : Made = side_made [] (statements_made block) h a.points from in
    let rest : Branches = blocks_made (blocks_of (drop (i + 1) blocks)) h b.points from in
    let grown : Grown a b first = subst (λ (zs : List Primitive). Grown a b (side_made zs (statements_made block) h a.points from)) no_xs g in
    let next = next_block h from blocks i a.points block within is in
    let same : blocks_made (blocks_of (drop (i + 1) blocks)) h (a.points + first.points) from ≡ rest = rw grown.points refl in (
      left_then old a b _ _ first (without_ends rest) (ap without_ends next ∙ ap (λ (m : Branches). joined first (without_ends m)) same) l.0 grown,
      l.1 ∙ ap (λ (m : Branches). ends ++ m.ends) next ∙ ap (λ (m : Branches). ends ++ point_of first.last ∷ m.ends) same ∙ rw (pushed, end_is) (simp append_assoc),
    )

pub block_stops : (h : Here) (from : ℕ) (blocks : List Statements) (i : ℕ) (block : Statements) (xs : List Primitive) (ends : List PointId) (old a b : Builder) (whole : Branches) (fault : FlowFault) → xs ≡ [] → i < length blocks → block ≡ get_or blocks i block → LeftBranches old a ends whole (blocks_made (blocks_of (drop i blocks)) h a.points from) → Makes a b (Err fault) (side_made xs (statements_made block) h a.points from) → MakesBranches old b (Err fault) whole
block_stops h from blocks i block xs ends old a b whole fault no_xs within is l f = branches fault (left_stops old a b (without_ends whole) _ (side_made [] (statements_made block) h a.points from) (without_ends (blocks_made (blocks_of (drop (i + 1) blocks)) h (a.points + (side_made [] (statements_made block) h a.points from).points) from)) fault (ap without_ends (next_block h from blocks i a.points block within is)) l.0 (subst (λ (zs : List Primitive). Makes a b (Err fault) (side_made zs (statements_made block) h a.points from)) no_xs f))
  where
    branches : (fault : FlowFault) → Makes old b (Err fault) (without_ends whole) → MakesBranches old b (Err fault) whole
    branches (faults.TooManyPoints count) g = g
    branches faults.Memory g = tt

pub blocks_end : (h : Here) (from : ℕ) (blocks : List Statements) (i : ℕ) (ends : List PointId) (old new : Builder) (whole : Branches) → length blocks ≤ i → i ≤ length blocks → LeftBranches old new ends whole (blocks_made (blocks_of (drop i blocks)) h new.points from) → Grown old new (without_ends whole) × (ends ≡ whole.ends)
blocks_end h from blocks i ends old new whole past within l =
    let none : drop i blocks ≡ [] = grind (arith, common_steps) in
    let l' : LeftBranches old new ends whole (blocks_made (blocks_of []) h new.points from) = subst (λ (bs : List Statements). LeftBranches old new ends whole (blocks_made (blocks_of bs) h new.points from)) none l in
    (left_none old new _ 0 l'.0, sym (l'.1 ∙ append-nil ends))
