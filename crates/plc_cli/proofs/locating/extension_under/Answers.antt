use Rattle.std.proofs.Common.{◌≡◌, inr, ap, ◌∙◌, length, subst}
use Rattle.plc_flow.proofs.Gates.{point_count}
use Rattle.plc_logic.specs.declared.clause.Outline.{Outline}
use Rattle.plc_at.specs.Extended.{AreLocated, extended}
use Rattle.plc_cli.specs.Locations.{AreExtended, IsAnsweredWith, extended_of}
use Rattle.plc_cli.proofs.locating.extension_under.Goals as goal

pub extend-requires-clause-typing : goal.extend-requires-clause-typing
extend-requires-clause-typing c =
    c.requires.typing.typed.pretyping.count ∙ point_count c.args.judged.now.flow c.requires.fits.flow_fits.well

pub returns-in-Ok : goal.returns-in-Ok
returns-in-Ok c =
    let j = c.args.judged.now in
    let claims = c.args.claims in
    let typing = c.args.typing.now in
    let is : c.in-Ok.outline ≡ extended_of j typing claims =
    c.in-Ok.ensures.extended
    ∙ ap (λ cs. extended j.flow j.observer typing cs c.replace-own.result) c.as_slice.ensures
    ∙ ap (extended j.flow j.observer typing claims) c.replace-own.ensures.value in
    let extends : AreExtended j claims typing = record {
      strongest = c.requires.typing;
      located = subst (AreLocated j.flow j.observer typing) c.as_slice.ensures c.in-Ok.ensures.located;
      few = rw (ap (λ (x : Outline). length x.items) is) at c.in-Ok.ensures.fits.items;
    } in (
      record {
        flow_fits = c.requires.fits.flow_fits;
        file = c.requires.fits.file;
        sorted = c.requires.fits.sorted;
        outline_fits = c.in-Ok.ensures.fits;
      },
      λ status text h. inr (inr (inr (record {
        typing = typing;
        extends = extends;
        answer = subst (λ (x : Outline). IsAnsweredWith j x claims status text) is h;
      }))),
    )
