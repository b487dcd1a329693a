use Rattle.std.proofs.Common.{◌≡◌, ◌∙◌, ◌+◌, ℕ, List, [], ◌∷◌, map, Ok, Err, sym, ap, arith}
use Rattle.plc_lex.specs.declared.token.TokenKind.{TokenKind}
use Rattle.plc_syntax.specs.Forms.{Read}
use Rattle.plc_syntax.specs.Syntax.{spelled}
use Rattle.plc_syntax.specs.Trees.{OutlineTree, plain, outline_then}
use Rattle.plc_syntax.proofs.Pieces.{kinds_plain}
use Rattle.plc_tree.specs.Forms.{outline_of}
use Rattle.plc_tree.proofs.Again.{outline_gets}
use Rattle.plc_tree.proofs.Places.{outline_is_one}
use Rattle.plc_outparse.specs.Meaning.{outline_means}
use Rattle.plc_outparse.proofs.one_outline.outlines_are_one.Goals as goal

-- what was read leaves these tokens
abbrev left : List TokenKind → Read OutlineTree → List TokenKind
left other (Ok r) = r.2
left other (Err at) = other

-- both trees' tokens are read as one tree, and what is left of them is the rest of both
one_rest : (ts : List TokenKind) (a b : OutlineTree) (r q : List TokenKind) → ts ≡ spelled outline_then a r
    → ts ≡ spelled outline_then b q → r ≡ q
one_rest ts a b r q x y =
    let g = outline_gets a 0 (map plain r) in
    let h = outline_gets b 0 (map plain q) in
    let m = g.fuel + h.fuel in
    sym (kinds_plain r)
    ∙ ap (left []) (sym (g.reads m (omega arith)) ∙ ap (outline_of m 0) (sym x ∙ y) ∙ h.reads m (omega arith))
    ∙ kinds_plain q

pub returns : goal.returns
returns c = record {
  meaning = λ s ops at ts m n r q h k. sym h.is
      ∙ ap (λ p. outline_means s ops p.0) (outline_is_one h.tree k.tree at ts r q h.is_outline k.is_outline)
      ∙ k.is;
  rest = one_rest;
  not_both = λ ts place a r f h. f.none (a, r, h);
}
