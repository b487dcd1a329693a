use Rattle.std.proofs.Common.{rules, ◌≡◌, ◌++◌, take, map, ap, ◌∙◌}
use Rattle.plc_auto.specs.Table.{target_of}
use Rattle.plc_auto.proofs.Moving.{first_mapped}
use Rattle.plc_auto.proofs.row.with_first.Goals as goal

pub returns : goal.returns
returns c =
    let is : c.extend_from_slice.new.self.items ≡ c.args.at.now ++ take c.args.n c.args.at.now = search rules in
    ap (map target_of) is ∙ first_mapped c.args.n c.args.at.now
