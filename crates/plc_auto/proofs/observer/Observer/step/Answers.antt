-- each table's step is the observer's, and leads to live locations
use Rattle.std.proofs.Common.{◌≡◌}
use Rattle.plc_auto.specs.Table.{step, target_of}
use Rattle.plc_auto.proofs.Tables.{along_step, target_live}
use Rattle.plc_auto.proofs.observer.Observer.step.Goals as goal

plain : (c : goal.After-plain_step) → target_of c.plain_step.result ≡ step c.args.self.now c.args.l.0 c.args.kind c.args.own c.args.this
plain c = along_step c.args.self.now _ c.args.l.0 c.args.kind c.args.own c.args.this c.in-Plain.is c.plain_step.ensures

hazard : (c : goal.After-hazard_step) → target_of c.hazard_step.result ≡ step c.args.self.now c.args.l.0 c.args.kind c.args.own c.args.this
hazard c = along_step c.args.self.now _ c.args.l.0 c.args.kind c.args.own c.args.this c.in-Hazard.is c.hazard_step.ensures

epoch : (c : goal.After-epoch_step) → target_of c.epoch_step.result ≡ step c.args.self.now c.args.l.0 c.args.kind c.args.own c.args.this
epoch c = along_step c.args.self.now _ c.args.l.0 c.args.kind c.args.own c.args.this c.in-Epoch.is c.epoch_step.ensures

pub returns-in-Plain-clause-target : goal.returns-in-Plain-clause-target
returns-in-Plain-clause-target c = plain c

pub returns-in-Plain-clause-live : goal.returns-in-Plain-clause-live
returns-in-Plain-clause-live c = target_live c.args.self.now c.args.l.0 c.args.kind c.args.own c.args.this _ c.requires (plain c)

pub returns-in-Hazard-clause-target : goal.returns-in-Hazard-clause-target
returns-in-Hazard-clause-target c = hazard c

pub returns-in-Hazard-clause-live : goal.returns-in-Hazard-clause-live
returns-in-Hazard-clause-live c = target_live c.args.self.now c.args.l.0 c.args.kind c.args.own c.args.this _ c.requires (hazard c)

pub returns-in-Epoch-clause-target : goal.returns-in-Epoch-clause-target
returns-in-Epoch-clause-target c = epoch c

pub returns-in-Epoch-clause-live : goal.returns-in-Epoch-clause-live
returns-in-Epoch-clause-live c = target_live c.args.self.now c.args.l.0 c.args.kind c.args.own c.args.this _ c.requires (epoch c)
