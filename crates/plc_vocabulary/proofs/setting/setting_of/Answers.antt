use Rattle.std.proofs.Common.{◌≡◌, ◌≤◌, length, refl, ap}
use Rattle.plc_vocabulary.specs.declared.setting.Setting.{Setting}
use Rattle.plc_vocabulary.specs.Acts.{most_acts}
use Rattle.plc_vocabulary.specs.Setting.{setting_of}
use Rattle.plc_vocabulary.proofs.Fitting.{acts_short}
use Rattle.plc_vocabulary.proofs.Listed.{made_listed}
use Rattle.plc_vocabulary.proofs.setting.setting_of.Goals as goal

pub returns-clause-setting : goal.returns-clause-setting
returns-clause-setting c =
    made_listed _ _ _ _ (λ (s : Setting). s ≡ setting_of c.args.flow.now c.args.outline.now c.args.o.now) (λ e. e)
    c.list_all-listed.ensures c.if_listed.ensures.made c.if_listed.ensures.listed

pub returns-clause-few : goal.returns-clause-few
returns-clause-few c =
    made_listed _ _ _ _ (λ (s : Setting). length s.acts ≤ most_acts)
    (λ e. acts_short c.args.flow.now c.args.outline.now c.args.o.now _ _ _ _ c.requires.fits refl
    (ap (λ (s : Setting). s.acts) e))
    c.list_all-listed.ensures c.if_listed.ensures.made c.if_listed.ensures.listed
