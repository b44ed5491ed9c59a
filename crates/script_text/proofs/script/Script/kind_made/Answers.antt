use Rattle.std.proofs.Common.{suc, length, arith}
use Rattle.lazy_rec.specs.History.{event_of}
use Rattle.script_text.proofs.Fits.{base_below, base_above}
use Rattle.script_text.proofs.Follow.{kind_of_new, kind_of_base}
use Rattle.script_text.proofs.script.Script.kind_made.Goals as goal

pub kind_of-requires : goal.kind_of-requires
kind_of-requires c =
    let es = c.args.self.now.events in
    let low = base_above (event_of es) (suc (length es)) c.args.event c.in_default.not-New c.requires.fits in
    let high = base_below (event_of es) (length es) c.args.event c.requires.fits in
    rw c.event_name.ensures (record { from_one = omega arith; held = omega arith })

pub returns-in-New : goal.returns-in-New
returns-in-New c = kind_of_new c.args.self.now c.args.event c.in-New.kind c.requires c.in-New.is

pub returns : goal.returns
returns c = kind_of_base c.args.self.now c.args.event c.kind_of.result c.requires c.in_default.not-New (let is = c.kind_of.ensures in rw c.event_name.ensures at is)
