use Rattle.std.proofs.Common.{map}
use Rattle.omega_ring.specs.Views.{omega_value}
use Rattle.amplitude_register.proofs.Divided.{divisor_nonzero, entries_within, over_greatest, quotients_small}
use Rattle.amplitude_register.proofs.common.divide_all.Goals as goal

pub divide_by-requires-clause-range : goal.divide_by-requires-clause-range
divide_by-requires-clause-range c = entries_within (map omega_value c.args.list.now) c.requires.small

pub divide_by-requires-clause-nonzero : goal.divide_by-requires-clause-nonzero
divide_by-requires-clause-nonzero c = divisor_nonzero (map omega_value c.args.list.now) (omega_value c.args.common) c.requires.nonzero c.requires.greatest.common

pub returns-clause-reduced : goal.returns-clause-reduced
returns-clause-reduced c = let g = c.requires.greatest in over_greatest (map omega_value c.args.list.now) (map omega_value c.divide_by.new.list) (omega_value c.args.common) c.requires.nonzero g.common g.greatest c.divide_by.ensures

pub returns-clause-small : goal.returns-clause-small
returns-clause-small c =
    let g = c.requires.greatest in
    let r = g.ready in
    quotients_small (map omega_value c.args.list.now) (map omega_value c.divide_by.new.list) (omega_value c.args.common) c.requires.small c.divide_by.ensures (divisor_nonzero (map omega_value c.args.list.now) (omega_value c.args.common) c.requires.nonzero g.common) r.balanced
